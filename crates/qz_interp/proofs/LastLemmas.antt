-- What the lists of rounds come to.
use Rattle.std.proofs.Common.{◌≡◌, ◌<◌, suc, Bool, true, false, List, [], ◌∷◌, length, replicate, Some, None, refl, sym, ap, subst, ◌∙◌}
use Rattle.std.specs.List.{AllByRecursion}
use Rattle.std.proofs.lemmas.List.{length-replicate, get_or-replicate}
use Rattle.std.proofs.lemmas.Option.{slice_get-get_or, slice_get_within}
use Rattle.qz_values.specs.declared.Know.{Know}
use Rattle.qz_values.specs.declared.Know.TheVariants as know
use Rattle.qz_syntax.specs.declared.places.Later.{Later}
use Rattle.qz_syntax.specs.declared.places.Later.TheVariants as later
use Rattle.qz_syntax.specs.declared.refusals.Doubt.{Doubt}
use Rattle.qz_meaning.specs.Instances.{Instance}
use Rattle.qz_meaning.specs.Layouts.{Met}
use Rattle.qz_meaning.specs.Programs.{program_of}
use Rattle.qz_meaning.specs.Settling.{Environment, step_met}
use Rattle.qz_meaning.specs.MeetingLaws.{IsMetAlone}
use Rattle.qz_meaning.specs.Rounds.{round, given_or_unknown, AgreeAt, IsLeast, IsKnown, IsKnownOrAbsent, IsPlainAt}
use Rattle.qz_meaning.proofs.Finding.{met_found}
use Rattle.qz_meaning.proofs.Lists.{none≢some, some_same}
use Rattle.qz_meaning.proofs.Orderly.{all_both, met_alone, own_numbers}
use Rattle.qz_meaning.proofs.RoundsRise.{has_one_least}
use Rattle.qz_interp.specs.Doubts.{doubt_of, doubt_of_later}
use Rattle.qz_interp.specs.FirstDoubts.{IsInDoubt}
use Rattle.qz_interp.specs.LastRounds.{HasNumber, NothingIsRoundZero, UnchangedIsLast, UndoubtedIsDefinite, DoubtedIsNotDefinite}
use Rattle.qz_interp.proofs.RoundLemmas.{free}

all_of : {A : Type 0} (P R : A → Type 0) (xs : List A) → ((x : A) → P x → R x) → AllByRecursion P xs → AllByRecursion R xs
all_of P R [] f h = tt
all_of P R (x ∷ xs) f h = (f x h.0, all_of P R xs f h.1)

pub nothing_is_round_zero : NothingIsRoundZero
nothing_is_round_zero m numbered c row = record {
  now = λ k i at.
      slice_get-get_or (replicate (length (program_of m).instances) know.Unknown) k know.Unknown
      (subst (λ n. k < n) (sym (length-replicate (length (program_of m).instances) know.Unknown)) (slice_get_within (program_of m).instances k i at))
      ∙ ap (λ known. Some known) (get_or-replicate (length (program_of m).instances) k know.Unknown know.Unknown (slice_get_within (program_of m).instances k i at)
      ∙ sym (ap given_or_unknown (free m numbered c row k i at)));
  later = λ k i at.
      slice_get-get_or (replicate (length (program_of m).instances) later.Unknown) k later.Unknown
      (subst (λ n. k < n) (sym (length-replicate (length (program_of m).instances) later.Unknown)) (slice_get_within (program_of m).instances k i at))
      ∙ ap (λ known. Some known) (get_or-replicate (length (program_of m).instances) k later.Unknown later.Unknown (slice_get_within (program_of m).instances k i at));
}

pub unchanged_is_last : UnchangedIsLast
unchanged_is_last p c row n known delayed numbers before after =
    all_of (HasNumber p) (λ (one : Met). AgreeAt one (round p c row n) (round p c row (suc n))) (step_met p c) agree numbers
  where
    agree : (one : Met) → HasNumber p one → AgreeAt one (round p c row n) (round p c row (suc n))
    agree one has = record {
      now = some_same _ _ (sym (before.now has.number one.instance has.at) ∙ after.now has.number one.instance has.at);
      later = some_same _ _ (sym (before.later has.number one.instance has.at) ∙ after.later has.number one.instance has.at);
    }

is_known : (k : Know) → doubt_of k ≡ None → IsKnown k
is_known know.Unknown h = absurd (none≢some _ (sym h))
is_known (know.Known v) h = tt
is_known know.Clash h = absurd (none≢some _ (sym h))

is_known_or_absent : (l : Later) → doubt_of_later l ≡ None → IsKnownOrAbsent l
is_known_or_absent later.Unknown h = absurd (none≢some _ (sym h))
is_known_or_absent later.Absent h = tt
is_known_or_absent (later.Known v) h = tt
is_known_or_absent later.Clash h = absurd (none≢some _ (sym h))

pub undoubted_is_definite : UndoubtedIsDefinite
undoubted_is_definite m numbered c row n valuation numbers last none = record {
  valuation = valuation;
  least = round (program_of m) c row n;
  is_least = record { number = n; last = last; is = refl };
  plain = all_both (HasNumber (program_of m)) (IsMetAlone (program_of m) c row) (IsPlainAt (round (program_of m) c row n)) (step_met (program_of m) c)
      (λ one has alone.
      let definite = none has.number one.instance one has.at alone.found in
      record {
        now = is_known ((round (program_of m) c row n).now one.instance) definite.now;
        later = is_known_or_absent ((round (program_of m) c row n).later one.instance) definite.later;
      })
      numbers (met_alone (program_of m) (own_numbers m numbered) c row);
}

known_undoubted : (k : Know) → IsKnown k → doubt_of k ≡ None
known_undoubted know.Unknown h = elim h [ ]
known_undoubted (know.Known v) h = refl
known_undoubted know.Clash h = elim h [ ]

later_undoubted : (l : Later) → IsKnownOrAbsent l → doubt_of_later l ≡ None
later_undoubted later.Unknown h = elim h [ ]
later_undoubted later.Absent h = refl
later_undoubted (later.Known v) h = refl
later_undoubted later.Clash h = elim h [ ]

no_doubt : (env : Environment) (i : Instance) (delayed : Bool) (why : Doubt) → IsKnown (env.now i) → IsKnownOrAbsent (env.later i) → IsInDoubt env i delayed why → ⊥
no_doubt env i false why now later h = none≢some why (sym (known_undoubted (env.now i) now) ∙ h)
no_doubt env i true why now later h = none≢some why (sym (later_undoubted (env.later i) later) ∙ h.1)

pub doubted_is_not_definite : DoubtedIsNotDefinite
doubted_is_not_definite p c row n d last first definite =
    no_doubt (round p c row n) first.instance d.delayed d.doubt
    (subst (λ (env : Environment). IsKnown (env.now first.instance)) same (subst (λ (i : Instance). IsKnown (definite.least.now i)) found.1 found.0.now))
    (subst (λ (env : Environment). IsKnownOrAbsent (env.later first.instance)) same (subst (λ (i : Instance). IsKnownOrAbsent (definite.least.later i)) found.1 found.0.later))
    first.doubt
  where
    one_least : (other : Environment) → IsLeast p c row other → other ≡ (has_one_least p c row).least
    one_least = (has_one_least p c row).only

    same : definite.least ≡ round p c row n
    same = one_least definite.least definite.is_least ∙ sym (one_least (round p c row n) record { number = n; last = last; is = refl })

    found : IsPlainAt definite.least first.met × (first.met.instance ≡ first.instance)
    found = met_found (IsPlainAt definite.least) (step_met p c) first.instance first.met definite.plain first.is_met
