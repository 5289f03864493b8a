-- Statements one after the other and all at once that are started, and their nets, where every condition is plain.
use Rattle.std.proofs.Common.{◌≡◌, ℕ, ◌+◌, Bool, true, false, ◌&&◌, ◌||◌, List, [], ◌∷◌, ◌++◌, map, refl, sym, ap, ap₂, ◌∙◌, if◌then◌else◌}
use Rattle.std.specs.List.{AllByRecursion, flat_map}
use Rattle.std.proofs.lemmas.Bool.{false≢true}
use Rattle.qz_values.specs.Knowledge.{both, either, knows_yes}
use Rattle.qz_syntax.specs.declared.places.Mark.{Mark}
use Rattle.qz_meaning.specs.Scenes.{Context}
use Rattle.qz_meaning.specs.Sequences.{sequence, ends_of_all, rest_in_first}
use Rattle.qz_meaning.specs.Parallels.{parallel}
use Rattle.qz_meaning.specs.Landings.{Spot, landing}
use Rattle.qz_meaning.specs.Carrying.{is_somewhere}
use Rattle.qz_control.specs.Leaves.{known_bit}
use Rattle.qz_control.specs.Guarded.{chosen, when}
use Rattle.qz_control.specs.Mirrors.{Walk, Mirror, walks}
use Rattle.qz_control.specs.MemberMirrors.{sequence_mirror, enter_all, rests_all, parallel_mirror, enter_each, rests_each}
use Rattle.qz_control.specs.Follows.{Starting}
use Rattle.qz_control.proofs.Bits.{both_known, either_known, knows_known, bit_from, or_false, append-none, when_none, when_append, chosen_both, somewhere-append}

pub all_plain : (ms : List Mirror) → AllByRecursion Starting ms → (ctx : Context) (m : Mark) (so_far : Bool)
    → (e : Bool) × (ends_of_all ctx (walks ms) (known_bit so_far) m ≡ known_bit e)
all_plain [] h ctx m so_far = (so_far, refl)
all_plain (one ∷ ms) h ctx m so_far =
    let e = h.0.plain ctx m in
    let more = all_plain ms h.1 ctx m (so_far && e.0) in
    (more.0, ap (λ k. ends_of_all ctx (walks ms) (both (known_bit so_far) k) m) e.1 ∙ ap (λ k. ends_of_all ctx (walks ms) k m) (both_known so_far e.0) ∙ more.1)

pub ends_false : (ms : List Mirror) → AllByRecursion Starting ms → (ctx : Context) (m : Mark) → ends_of_all ctx (walks ms) (known_bit false) m ≡ known_bit false
ends_false [] h ctx m = refl
ends_false (one ∷ ms) h ctx m =
    let e = h.0.plain ctx m in
    ap (λ k. ends_of_all ctx (walks ms) (both (known_bit false) k) m) e.1 ∙ ap (λ k. ends_of_all ctx (walks ms) k m) (both_known false e.0) ∙ ends_false ms h.1 ctx m

-- where all end, the first ends and the others do
pub first_ends : (one : Mirror) (ms : List Mirror) → AllByRecursion Starting (one ∷ ms) → (ctx : Context) (m : Mark)
    → ends_of_all ctx (walks (one ∷ ms)) (known_bit true) m ≡ known_bit true
    → (one.walk.ends ctx m ≡ known_bit true) × (ends_of_all ctx (walks ms) (known_bit true) m ≡ known_bit true)
first_ends one ms h ctx m is = by (h.0.plain ctx m).0 (h.0.plain ctx m).1
  where
    by : (e : Bool) → one.walk.ends ctx m ≡ known_bit e → (one.walk.ends ctx m ≡ known_bit true) × (ends_of_all ctx (walks ms) (known_bit true) m ≡ known_bit true)
    by true p = (p, sym (ap (λ k. ends_of_all ctx (walks ms) (both (known_bit true) k) m) p) ∙ is)
    by false p = absurd (false≢true (bit_from false true (sym (ap (λ k. ends_of_all ctx (walks ms) (both (known_bit true) k) m) p ∙ ends_false ms h.1 ctx m) ∙ is)))

pub rests_first : (one : Mirror) (ms : List Mirror) (ctx : Context) (m : Mark) (number : ℕ) (e : Bool) → one.walk.ends ctx m ≡ known_bit e
    → rest_in_first landing ctx (walks (one ∷ ms)) number m ≡ (if e then rest_in_first landing ctx (walks ms) (number + 1) m else one.walk.rest ctx m)
rests_first one ms ctx m number e is =
    ap (λ k. if knows_yes k then rest_in_first landing ctx (walks ms) (number + 1) m else one.walk.rest ctx m) is
    ∙ ap (λ b. if b then rest_in_first landing ctx (walks ms) (number + 1) m else one.walk.rest ctx m) (knows_known e)

pub all_gone : (ms : List Mirror) → AllByRecursion Starting ms → (ctx : Context) (m : Mark) (number : ℕ)
    → ends_of_all ctx (walks ms) (known_bit true) m ≡ known_bit true → rest_in_first landing ctx (walks ms) number m ≡ []
all_gone [] h ctx m number is = refl
all_gone (one ∷ ms) h ctx m number is =
    let ends = first_ends one ms h ctx m is in
    rests_first one ms ctx m number true ends.0 ∙ all_gone ms h.1 ctx m (number + 1) ends.1

pub first_or : (g e : Bool) (M R : List Spot) → (e ≡ true → M ≡ []) → when g M ++ when (g && e) R ≡ when g (if e then R else M)
first_or true true M R h = ap (λ i. i ++ R) (h refl)
first_or true false M R h = append-none M
first_or false e M R h = refl

pub enters_all : (ms : List Mirror) → AllByRecursion Starting ms → (ctx : Context) (m : Mark) (number : ℕ) (g : Bool)
    → chosen (enter_all ctx ms m (known_bit g)) ≡ when g (rest_in_first landing ctx (walks ms) number m)
enters_all [] h ctx m number g = sym (when_none g)
enters_all (one ∷ ms) h ctx m number g =
    let e = h.0.plain ctx m in
    chosen_both (one.enter ctx m (known_bit g)) _ _ _ (h.0.enters ctx m g)
    (ap (λ k. chosen (enter_all ctx ms m (both (known_bit g) k))) e.1 ∙ ap (λ k. chosen (enter_all ctx ms m k)) (both_known g e.0)
    ∙ enters_all ms h.1 ctx m (number + 1) (g && e.0))
    ∙ first_or g e.0 (one.walk.rest ctx m) _ (λ so. h.0.gone ctx m (e.1 ∙ ap known_bit so))
    ∙ ap (when g) (sym (rests_first one ms ctx m number e.0 e.1))

pub some_or : (so g e : Bool) (M R : List Spot) → (e ≡ true → M ≡ []) → ((so || (g && is_somewhere M)) || ((g && e) && is_somewhere R)) ≡ (so || (g && is_somewhere (if e then R else M)))
some_or true g e M R h = refl
some_or false false e M R h = refl
some_or false true true M R h = ap (λ i. is_somewhere i || is_somewhere R) (h refl)
some_or false true false M R h = or_false (is_somewhere M)

pub none_more : (so g : Bool) → known_bit so ≡ known_bit (so || (g && false))
none_more true g = refl
none_more false true = refl
none_more false false = refl

pub rests_in_all : (ms : List Mirror) → AllByRecursion Starting ms → (ctx : Context) (m : Mark) (number : ℕ) (g so : Bool)
    → rests_all ctx ms m (known_bit g) (known_bit so) ≡ known_bit (so || (g && is_somewhere (rest_in_first landing ctx (walks ms) number m)))
rests_in_all [] h ctx m number g so = none_more so g
rests_in_all (one ∷ ms) h ctx m number g so =
    let e = h.0.plain ctx m in
    ap₂ (λ i j. rests_all ctx ms m (both (known_bit g) i) (either (known_bit so) j)) e.1 (h.0.rests ctx m g)
    ∙ ap₂ (λ i j. rests_all ctx ms m i j) (both_known g e.0) (either_known so (g && is_somewhere (one.walk.rest ctx m)))
    ∙ rests_in_all ms h.1 ctx m (number + 1) (g && e.0) (so || (g && is_somewhere (one.walk.rest ctx m)))
    ∙ ap known_bit (some_or so g e.0 (one.walk.rest ctx m) _ (λ so. h.0.gone ctx m (e.1 ∙ ap known_bit so)))
    ∙ ap (λ xs. known_bit (so || (g && is_somewhere xs))) (sym (rests_first one ms ctx m number e.0 e.1))

pub starting_sequence : (ms : List Mirror) → AllByRecursion Starting ms → Starting (sequence_mirror ms (sequence landing (walks ms)))
starting_sequence ms h = record {
  plain = λ ctx m. all_plain ms h ctx m true;
  gone = λ ctx m is. all_gone ms h ctx m 0 is;
  enters = λ ctx m g. enters_all ms h ctx m 0 g;
  rests = λ ctx m g. rests_in_all ms h ctx m 0 g false;
}

-- all at once
abbrev pub rests_of : Context → List Mirror → Mark → List Spot
rests_of ctx ms m = flat_map (λ inside. inside) (map (λ (part : Walk). part.rest ctx m) (walks ms))

pub each_gone : (ms : List Mirror) → AllByRecursion Starting ms → (ctx : Context) (m : Mark)
    → ends_of_all ctx (walks ms) (known_bit true) m ≡ known_bit true → rests_of ctx ms m ≡ []
each_gone [] h ctx m is = refl
each_gone (one ∷ ms) h ctx m is =
    let ends = first_ends one ms h ctx m is in
    ap₂ (λ xs ys. xs ++ ys) (h.0.gone ctx m ends.0) (each_gone ms h.1 ctx m ends.1)

pub enters_each : (ms : List Mirror) → AllByRecursion Starting ms → (ctx : Context) (m : Mark) (g : Bool)
    → chosen (enter_each ctx ms m (known_bit g)) ≡ when g (rests_of ctx ms m)
enters_each [] h ctx m g = sym (when_none g)
enters_each (one ∷ ms) h ctx m g =
    chosen_both (one.enter ctx m (known_bit g)) _ _ _ (h.0.enters ctx m g) (enters_each ms h.1 ctx m g)
    ∙ when_append g (one.walk.rest ctx m) (rests_of ctx ms m)

pub or_more : (so g a b : Bool) → ((so || (g && a)) || (g && b)) ≡ (so || (g && (a || b)))
or_more true g a b = refl
or_more false true a b = refl
or_more false false a b = refl

pub rests_in_each : (ms : List Mirror) → AllByRecursion Starting ms → (ctx : Context) (m : Mark) (g so : Bool)
    → rests_each ctx ms m (known_bit g) (known_bit so) ≡ known_bit (so || (g && is_somewhere (rests_of ctx ms m)))
rests_in_each [] h ctx m g so = none_more so g
rests_in_each (one ∷ ms) h ctx m g so =
    let x = is_somewhere (one.walk.rest ctx m) in
    ap (λ i. rests_each ctx ms m (known_bit g) (either (known_bit so) i)) (h.0.rests ctx m g)
    ∙ ap (λ i. rests_each ctx ms m (known_bit g) i) (either_known so (g && x))
    ∙ rests_in_each ms h.1 ctx m g (so || (g && x))
    ∙ ap known_bit (or_more so g x (is_somewhere (rests_of ctx ms m)))
    ∙ ap (λ b. known_bit (so || (g && b))) (sym (somewhere-append (one.walk.rest ctx m) (rests_of ctx ms m)))

pub starting_parallel : (ms : List Mirror) → AllByRecursion Starting ms → Starting (parallel_mirror ms (parallel landing (walks ms)))
starting_parallel ms h = record {
  plain = λ ctx m. all_plain ms h ctx m true;
  gone = λ ctx m is. each_gone ms h ctx m is;
  enters = λ ctx m g. enters_each ms h ctx m g;
  rests = λ ctx m g. rests_in_each ms h ctx m g false;
}
