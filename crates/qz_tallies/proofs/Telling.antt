-- What tallies say.
use Rattle.std.proofs.Common.{◌≡◌, Bool, true, false, not, ◌&&◌, ◌||◌, List, [], ◌∷◌, length, refl, sym, ap, ◌∙◌, arith, if◌then◌else◌}
use Rattle.std.proofs.lemmas.Bool.{eq-eqb}
use Rattle.qz_values.specs.declared.Ty.{Ty}
use Rattle.qz_values.specs.declared.Ty.TheVariants.{Bool as Truth, Bv}
use Rattle.qz_values.specs.declared.Value.{Value}
use Rattle.qz_values.specs.Types.{is_same_type}
use Rattle.qz_values.specs.Values.{value_of}
use Rattle.qz_meaning.specs.Verdicts.{One, Torn, join, verdict_of_one, is_same_value}
use Rattle.qz_rails.specs.Bits.{number_of, same_from, choices, lowest}
use Rattle.qz_rails.specs.Rails.{told}
use Rattle.qz_rails.proofs.BitNumbers.{same_number}
use Rattle.qz_rails.proofs.Selecting.{choices_true, choices_false}
use Rattle.qz_tallies.specs.Tallies.{said, are_torn}

-- the functions of a tally at one valuation: torn, one, nobody, and the bits
abbrev pub Parts : Type 0
Parts = Bool × Bool × Bool × List Bool

one_write : (t : Ty) (gs : List Bool) (gc gk vc vk : Bool) (v : Value) → length gs ≡ 1 →
    said (gc || ((gk && lowest gs) && vc)) ((gk && lowest gs) && vk) (gk && not (lowest gs)) v ≡
    verdict_of_one (told gc gk (value_of Truth (number_of gs))) (told vc vk v)
one_write t [] gc gk vc vk v e = absurd (omega arith)
one_write t (x ∷ y ∷ gs) gc gk vc vk v e = absurd (omega arith)
one_write t (g ∷ []) true gk vc vk v e = refl
one_write t (g ∷ []) false false vc vk v e = refl
one_write t (false ∷ []) false true vc vk v e = refl
one_write t (true ∷ []) false true true vk v e = refl
one_write t (true ∷ []) false true false true v e = refl
one_write t (true ∷ []) false true false false v e = refl

pub one_write_by : (t : Ty) (g : Bool) (guard value : Bool × Bool × List Bool) (r : Parts) → lowest guard.2 ≡ g →
    r.0 ≡ guard.0 || ((guard.1 && g) && value.0) → r.1 ≡ (guard.1 && g) && value.1 → r.2 ≡ guard.1 && not g → r.3 ≡ value.2 → length guard.2 ≡ 1 →
    said r.0 r.1 r.2 (value_of t (number_of r.3)) ≡ verdict_of_one (told guard.0 guard.1 (value_of Truth (number_of guard.2))) (told value.0 value.1 (value_of t (number_of value.2)))
one_write_by t g guard value r side torn one nobody bits e =
    rw (torn, one, nobody, bits, ← side) (one_write t guard.2 guard.0 guard.1 value.0 value.1 (value_of t (number_of value.2)) e)

same_type : (t : Ty) → is_same_type t t ≡ true
same_type Truth = refl
same_type (Bv w) = eq-eqb w w refl

same_value : (t : Ty) (xs ys : List Bool) → length xs ≡ length ys → is_same_value (value_of t (number_of xs)) (value_of t (number_of ys)) ≡ same_from true xs ys
same_value t xs ys e = rw (same_type t) (sym (same_number true xs ys e))

-- two writers that each agree on a value
both_one : (t : Ty) (xs ys : List Bool) (b : Bool) → length xs ≡ length ys →
    said (not b) true false (value_of t (number_of (choices true xs ys))) ≡ (if b then One (value_of t (number_of xs)) else Torn)
both_one t xs ys true e = ap (λ bs. One (value_of t (number_of bs))) (choices_true xs ys e)
both_one t xs ys false e = refl

joined : (t : Ty) (xs ys : List Bool) (at ao an bt bo bn : Bool) → length xs ≡ length ys →
    said (are_torn at ao xs bt bo ys) (ao || bo) (an && bn) (value_of t (number_of (choices ao xs ys))) ≡
    join (said at ao an (value_of t (number_of xs))) (said bt bo bn (value_of t (number_of ys)))
joined t xs ys true ao an bt bo bn e = refl
joined t xs ys false true an true bo bn e = refl
joined t xs ys false false true true bo bn e = refl
joined t xs ys false false false true bo bn e = refl
joined t xs ys false true an false true bn e =
    both_one t xs ys (same_from true xs ys) e ∙ ap (λ b. if b then One (value_of t (number_of xs)) else Torn) (sym (same_value t xs ys e))
joined t xs ys false true an false false true e = ap (λ bs. One (value_of t (number_of bs))) (choices_true xs ys e)
joined t xs ys false true an false false false e = ap (λ bs. One (value_of t (number_of bs))) (choices_true xs ys e)
joined t xs ys false false true false true bn e = ap (λ bs. One (value_of t (number_of bs))) (choices_false xs ys e)
joined t xs ys false false false false true bn e = ap (λ bs. One (value_of t (number_of bs))) (choices_false xs ys e)
joined t xs ys false false true false false true e = refl
joined t xs ys false false true false false false e = refl
joined t xs ys false false false false false true e = refl
joined t xs ys false false false false false false e = refl

pub joined_by : (t : Ty) (a b r : Parts) → r.0 ≡ are_torn a.0 a.1 a.3 b.0 b.1 b.3 →
    r.1 ≡ a.1 || b.1 → r.2 ≡ a.2 && b.2 → r.3 ≡ choices a.1 a.3 b.3 → length a.3 ≡ length b.3 →
    said r.0 r.1 r.2 (value_of t (number_of r.3)) ≡ join (said a.0 a.1 a.2 (value_of t (number_of a.3))) (said b.0 b.1 b.2 (value_of t (number_of b.3)))
joined_by t a b r torn one nobody bits e = rw (torn, one, nobody, bits) (joined t a.3 b.3 a.0 a.1 a.2 b.0 b.1 b.2 e)
