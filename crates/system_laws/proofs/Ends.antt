-- Rounds come to an end, and stay there.
use Rattle.std.proofs.Common.{◌≡◌, ℕ, zero, suc, ◌+◌, ◌*◌, ◌<◌, ◌≤◌, true, false, List, [], ◌∷◌, map, length, get_or, Option, Some, None, refl, sym, ap, ap₂, subst, ◌∙◌, ◌⊎◌, inl, inr, arith}
use Rattle.std.specs.Prelude.{slice_get}
use Rattle.std.specs.List.{list_all}
use Rattle.std.specs.Option.{option_map_or}
use Rattle.std.proofs.lemmas.Bool.{and_parts, cases_lt, cases_eq}
use Rattle.std.proofs.lemmas.Option.{slice_get_within, slice_get_cases, slice_get-get_or}
use Rattle.qz_values.specs.declared.Ty.{Ty}
use Rattle.qz_values.specs.declared.Know.{Know}
use Rattle.qz_values.specs.declared.Know.TheVariants.{Unknown}
use Rattle.qz_nets.specs.Readings.{listed, Reads}
use Rattle.qz_syntax.specs.declared.places.Later.{Later}
use Rattle.qz_syntax.specs.declared.places.Later.TheVariants as later
use Rattle.qz_system.specs.declared.parts.SystemLeaf.{SystemLeaf}
use Rattle.qz_system.specs.declared.parts.SystemLeaf.TheVariants as leaf
use Rattle.qz_system.specs.declared.parts.Inst.{Inst}
use Rattle.qz_system.specs.declared.parts.SystemParts.{SystemParts}
use Rattle.qz_system.specs.declared.valuation.Valuation.{Valuation}
use Rattle.qz_system.specs.Parts.{AreParts, leaf_stands, is_leaf_right}
use Rattle.qz_system.specs.Valuations.{Fits}
use Rattle.qz_system.specs.Rounds.{leaf_known, IsRound}
use Rattle.qz_system.specs.Nexts.{IsNthRound, IsLastRound}
use Rattle.system_laws.specs.Instances.{AgreeAt, BelowAt}
use Rattle.system_laws.specs.RoundLaws.{HasRound, EndsWithin}
use Rattle.system_laws.proofs.Knowing.{height, later_height, height_up, height_most, same_height, later_height_up, later_height_most, same_later_height, stands}
use Rattle.system_laws.proofs.OneRound.{get_same, instance_there, rounds_rise, rounds_are_one, rounds_exist}

-- every round after one after which nothing changes is the same
pub rounds_stay : (parts : SystemParts) (v : Valuation) (number : ℕ) (knows : List Know) (delayed : List Later)
    → IsNthRound parts v number knows delayed → IsRound parts v knows knows delayed → (m : ℕ) → number ≤ m → IsNthRound parts v m knows delayed
rounds_stay parts v number knows delayed nth stays zero h =
    let e : number ≡ 0 = omega arith in subst (λ k. IsNthRound parts v k knows delayed) e nth
rounds_stay parts v number knows delayed nth stays (suc m) h = by (λ more. rounds_stay parts v number knows delayed nth stays m more) (cases_lt m number)
  where
    by : (number ≤ m → IsNthRound parts v m knows delayed) → (m < number) ⊎ (number ≤ m) → IsNthRound parts v (suc m) knows delayed
    by before (inl less) = let e : number ≡ suc m = omega arith in subst (λ k. IsNthRound parts v k knows delayed) e nth
    by before (inr more) = record { knows_before = knows; delayed_before = delayed; was = before more; round = stays }

-- what the rounds come to is one
pub lasts_are_one : (parts : SystemParts) → AreParts parts → (v : Valuation) (knows others : List Know) (delayed later_others : List Later)
    → IsLastRound parts v knows delayed → IsLastRound parts v others later_others → AgreeAt parts knows others delayed later_others
lasts_are_one parts are v knows others delayed later_others a b = by (cases_lt a.number b.number)
  where
    by : (a.number < b.number) ⊎ (b.number ≤ a.number) → AgreeAt parts knows others delayed later_others
    by (inl less) =
        rounds_are_one parts are v b.number knows others delayed later_others
        (rounds_stay parts v a.number knows delayed a.is_nth a.stays b.number (omega (arith, less))) b.is_nth
    by (inr more) =
        rounds_are_one parts are v a.number knows others delayed later_others a.is_nth
        (rounds_stay parts v b.number others later_others b.is_nth b.stays a.number more)

module _ (parts : SystemParts) (are : AreParts parts) (v : Valuation) where
  leaf_same : (knows others : List Know) (delayed later_others : List Later) → AgreeAt parts knows others delayed later_others
      → (one : SystemLeaf) (o : Option Ty) → leaf_stands parts one ≡ o → option_map_or (λ ty. true) o false ≡ true
      → leaf_known parts v knows one ≡ leaf_known parts v others one
  leaf_same knows others delayed later_others same (leaf.Input n) o is h = refl
  leaf_same knows others delayed later_others same (leaf.Now n) None is h = absurd (cc)
  leaf_same knows others delayed later_others same (leaf.Now n) (Some ty) is h =
      let it = instance_there parts n ty is in get_same knows others n Unknown (same.now n it.0 it.1)
  leaf_same knows others delayed later_others same (leaf.At n) o is h = refl
  leaf_same knows others delayed later_others same leaf.Started o is h = refl

  leaves_same : (knows others : List Know) (delayed later_others : List Later) → AgreeAt parts knows others delayed later_others
      → (leaves : List SystemLeaf) → list_all (λ one. is_leaf_right parts one) leaves ≡ true
      → map (λ one. leaf_known parts v knows one) leaves ≡ map (λ one. leaf_known parts v others one) leaves
  leaves_same knows others delayed later_others same [] all = refl
  leaves_same knows others delayed later_others same (one ∷ leaves) all =
      let both = and_parts (is_leaf_right parts one) (list_all (λ x. is_leaf_right parts x) leaves) all in
      ap₂ (λ (k : Know) (ks : List Know). k ∷ ks) (leaf_same knows others delayed later_others same one (leaf_stands parts one) refl both.0)
      (leaves_same knows others delayed later_others same leaves both.1)

  -- a round stays one where the lists before and after it are replaced by such as agree
  pub round_moves : (before more after others : List Know) (delayed later_others gone come : List Later)
      → AgreeAt parts before more gone come → AgreeAt parts after others delayed later_others
      → IsRound parts v before after delayed → IsRound parts v more others later_others
  round_moves before more after others delayed later_others gone come first second r = record {
    know = r.know;
    reads =
        subst (λ (leaves : List Know). Reads (record { leaf = listed leaves; know = r.know }) parts.table)
        (leaves_same before more gone come first parts.leaves are.is_wired.leaf_types) r.reads;
    are_settled = record {
      values = λ n one at. sym (second.now n one at) ∙ r.are_settled.values n one at;
      laters = λ n one at. sym (second.later n one at) ∙ r.are_settled.laters n one at;
    };
  }

-- how much is known of so many instances
abbrev known_of : List Know → List Later → ℕ → ℕ
known_of knows delayed zero = 0
known_of knows delayed (suc k) =
    (height (get_or knows k Unknown) + later_height (get_or delayed k later.Unknown)) + known_of knows delayed k

known_most : (knows : List Know) (delayed : List Later) (k : ℕ) → known_of knows delayed k ≤ 4 * k
known_most knows delayed zero = omega arith
known_most knows delayed (suc k) =
    let x = height_most (get_or knows k Unknown) in
    let y = later_height_most (get_or delayed k later.Unknown) in
    let more = known_most knows delayed k in
    omega (arith, x, y, more)

-- an instance below the count
instance_below : (parts : SystemParts) (n : ℕ) → n < length parts.instances → (one : Inst) × (slice_get parts.instances n ≡ Some one)
instance_below parts n below = by (slice_get_cases parts.instances n).1
  where
    by : ((x : Inst) × (n < length parts.instances) × (slice_get parts.instances n ≡ Some x) × (get_or parts.instances n x ≡ x))
        ⊎ ((length parts.instances ≤ n) × (slice_get parts.instances n ≡ None)) → (one : Inst) × (slice_get parts.instances n ≡ Some one)
    by (inl h) = (h.0, h.2)
    by (inr h) = absurd (omega (arith, below, h.0))

module _ (parts : SystemParts) (a b : List Know) (da db : List Later) (up : BelowAt parts a b da db) where
  known_up : (k : ℕ) → k ≤ length parts.instances → known_of a da k ≤ known_of b db k
  known_up zero h = omega arith
  known_up (suc k) h =
      let it = instance_below parts k (omega (arith, h)) in
      let x = height_up _ _ (up.now k it.0 it.1) in
      let y = later_height_up _ _ (up.later k it.0 it.1) in
      let more = known_up k (omega (arith, h)) in
      omega (arith, x, y, more)

  -- where no more is known, nothing has changed
  same_all : (k : ℕ) → k ≤ length parts.instances → known_of a da k ≡ known_of b db k → (n : ℕ) → n < k
      → (get_or a n Unknown ≡ get_or b n Unknown) × (get_or da n later.Unknown ≡ get_or db n later.Unknown)
  same_all zero h e n below = absurd (omega (arith, below))
  same_all (suc k) h e n below =
      let it = instance_below parts k (omega (arith, h)) in
      let x = height_up _ _ (up.now k it.0 it.1) in
      let y = later_height_up _ _ (up.later k it.0 it.1) in
      let more = known_up k (omega (arith, h)) in
      by it x y more (λ below e. same_all k (omega (arith, h)) e n below) (cases_eq n k)
    where
      by : (it : (one : Inst) × (slice_get parts.instances k ≡ Some one))
          → height (get_or a k Unknown) ≤ height (get_or b k Unknown) → later_height (get_or da k later.Unknown) ≤ later_height (get_or db k later.Unknown)
          → known_of a da k ≤ known_of b db k
          → (n < k → known_of a da k ≡ known_of b db k → (get_or a n Unknown ≡ get_or b n Unknown) × (get_or da n later.Unknown ≡ get_or db n later.Unknown))
          → ((n ≡ k) ⊎ (n ≡ k → ⊥))
          → (get_or a n Unknown ≡ get_or b n Unknown) × (get_or da n later.Unknown ≡ get_or db n later.Unknown)
      by it x y more before (inl here) =
          rw here (same_height _ _ (up.now k it.0 it.1) (omega (arith, x, y, more, e)), same_later_height _ _ (up.later k it.0 it.1) (omega (arith, x, y, more, e)))
      by it x y more before (inr other) = before (omega (arith, below, other)) (omega (arith, x, y, more, e))

-- there where both lists are as long as there are instances
same_there : {A : Type 0} (xs ys : List A) (n : ℕ) (d : A) → n < length xs → n < length ys → get_or xs n d ≡ get_or ys n d → slice_get xs n ≡ slice_get ys n
same_there xs ys n d here there same = slice_get-get_or xs n d here ∙ ap Some same ∙ sym (slice_get-get_or ys n d there)

module _ (parts : SystemParts) (are : AreParts parts) (v : Valuation) where
  -- rounds one after the other of which no more is known: the first is the last
  stands_still : (number : ℕ) (a : HasRound parts v number) (next : HasRound parts v (suc number))
      → known_of a.knows a.delayed (length parts.instances) ≡ known_of next.knows next.delayed (length parts.instances)
      → IsRound parts v a.knows a.knows a.delayed
  stands_still number a next e =
      let up = rounds_rise parts are v number a.knows next.knows a.delayed next.delayed a.is_nth next.is_nth in
      let same = same_all parts a.knows next.knows a.delayed next.delayed up (length parts.instances) (omega arith) e in
      let was = rounds_are_one parts are v number next.is_nth.knows_before a.knows next.is_nth.delayed_before a.delayed next.is_nth.was a.is_nth in
      let back : AgreeAt parts next.knows a.knows next.delayed a.delayed = record {
        now = λ n one at.
            let within = slice_get_within parts.instances n one at in
            same_there next.knows a.knows n Unknown (rw next.count within) (rw a.count within) (sym (same n within).0);
        later = λ n one at.
            let within = slice_get_within parts.instances n one at in
            same_there next.delayed a.delayed n later.Unknown (rw next.count_later within) (rw a.count_later within) (sym (same n within).1);
      } in
      round_moves parts are v next.is_nth.knows_before a.knows next.knows a.knows next.delayed a.delayed next.is_nth.delayed_before a.delayed was back next.is_nth.round

  pub rounds_end : Fits parts v → EndsWithin parts v (4 * length parts.instances)
  rounds_end fits = by_found (stands f up (suc (4 * length parts.instances)))
    where
      f : ℕ → ℕ
      f n = let r = rounds_exist parts are v fits n in known_of r.knows r.delayed (length parts.instances)

      up : (n : ℕ) → f n ≤ f (suc n)
      up n =
          let r = rounds_exist parts are v fits n in
          let s = rounds_exist parts are v fits (suc n) in
          known_up parts r.knows s.knows r.delayed s.delayed
          (rounds_rise parts are v n r.knows s.knows r.delayed s.delayed r.is_nth s.is_nth) (length parts.instances) (omega arith)

      by_found : (((n : ℕ) × (n < suc (4 * length parts.instances)) × (f n ≡ f (suc n))) ⊎ (suc (4 * length parts.instances) ≤ f (suc (4 * length parts.instances))))
          → EndsWithin parts v (4 * length parts.instances)
      by_found (inl found) =
          let less = found.1 in
          let r = rounds_exist parts are v fits found.0 in
          record {
            number = found.0;
            within = omega (arith, less);
            knows = r.knows;
            delayed = r.delayed;
            is_nth = r.is_nth;
            stays = stands_still found.0 r (rounds_exist parts are v fits (suc found.0)) found.2;
          }
      by_found (inr more) =
          let r = rounds_exist parts are v fits (suc (4 * length parts.instances)) in
          let most = known_most r.knows r.delayed (length parts.instances) in
          absurd (omega (arith, most, more))
