-- What is read of a constant of a type.
use Rattle.std.proofs.Common.{arith, ◌≡◌, ◌↔◌, ℕ, ◌<◌, ◌≤◌, ◌^◌, List, ◌++◌, Option, Some, None, IsSome, refl, sym, ap, ◌∙◌, subst}
use Rattle.std.specs.Prelude.{IfSome}
use Rattle.std.specs.Fmt.{decimal}
use Rattle.std.proofs.lemmas.Bool.{false≢true}
use Rattle.std.proofs.Math.Pow.{pow_mono}
use Rattle.std.proofs.lemmas.List.{append_cancel_left}
use Rattle.qz_values.specs.declared.Ty.{Ty}
use Rattle.qz_values.specs.declared.Value.{Value}
use Rattle.qz_values.specs.Types.{width_of}
use Rattle.qz_values.specs.Values.{value_of, type_of, bits_of, IsValue}
use Rattle.qz_vtext.specs.Spelling.{mark_text, constant_text}
use Rattle.qz_vread.specs.Reading.{Reads}

abbrev IsOf : Ty → Value → Type 0
IsOf t value = IsValue value × (type_of value ≡ t)

-- a value's bits fit a word
bits_fit : (v : Value) → IsValue v → bits_of v < 2 ^ 64
bits_fit v is = let le : 2 ^ width_of (type_of v) ≤ 2 ^ 64 = pow_mono is.typed.at_most_64 in let fits = is.fits in omega (arith, le, fits)

-- what stands after the mark of a constant
after_mark : (t : Ty) (bytes rest : List ℕ) (v : Value) → bytes ≡ mark_text t ++ rest → type_of v ≡ t → bytes ≡ constant_text v → rest ≡ decimal (bits_of v)
after_mark t bytes rest v whole typed e =
    append_cancel_left (mark_text t) rest (decimal (bits_of v)) (sym whole ∙ e ∙ ap (λ u. mark_text u ++ decimal (bits_of v)) typed)

pub no_constant : (t : Ty) (bytes rest : List ℕ) → bytes ≡ mark_text t ++ rest → Reads (λ n. n < 2 ^ 64) decimal rest None → Reads (IsOf t) constant_text bytes None
no_constant t bytes rest whole read = record {
  sound = λ v e. absurd cc;
  complete = λ v right e.
      absurd (let none : None ≡ Some (bits_of v) = read.complete (bits_of v) (bits_fit v right.0) (after_mark t bytes rest v whole right.1 e) in cc);
}

pub constant_read : (t : Ty) (bytes rest : List ℕ) (n : ℕ) (found : Option Value) → bytes ≡ mark_text t ++ rest → Reads (λ n. n < 2 ^ 64) decimal rest (Some n)
    → IsSome found ↔ IsValue (value_of t n) → IfSome found (λ v. v ≡ value_of t n) → Reads (IsOf t) constant_text bytes found
constant_read t bytes rest n found whole read exact is = record { sound = sound found exact is; complete = complete found exact is }
  where
    digits : rest ≡ decimal n
    digits = (read.sound n refl).1

    sound : (found : Option Value) → IsSome found ↔ IsValue (value_of t n) → IfSome found (λ v. v ≡ value_of t n) → (v : Value) → found ≡ Some v → IsOf t v × (bytes ≡ constant_text v)
    sound None exact is v e = absurd cc
    sound (Some u) exact is v e =
        let same : v ≡ value_of t n = (let x : u ≡ v = cc in sym x ∙ is) in
        let P : Value → Type 0 = λ w. IsOf t w × (bytes ≡ constant_text w) in
        subst P (sym same) ((exact.0 (some u), refl), whole ∙ ap (λ r. mark_text t ++ r) digits)
      where
        some : (u : Value) → IsSome (Some u)
        some u = refl

    complete : (found : Option Value) → IsSome found ↔ IsValue (value_of t n) → IfSome found (λ v. v ≡ value_of t n) → (v : Value) → IsOf t v → bytes ≡ constant_text v → found ≡ Some v
    complete found exact is v right e =
        let here : Some n ≡ Some (bits_of v) = read.complete (bits_of v) (bits_fit v right.0) (after_mark t bytes rest v whole right.1 e) in
        let bits : n ≡ bits_of v = cc in
        let same : value_of t n ≡ v = ap (λ u. value_of u n) (sym right.1) ∙ ap (value_of (type_of v)) bits in
        given found same (exact.1 (subst IsValue (sym same) right.0)) is
      where
        given : (found : Option Value) → value_of t n ≡ v → IsSome found → IfSome found (λ v. v ≡ value_of t n) → found ≡ Some v
        given None same some is = absurd (false≢true some)
        given (Some u) same some is = ap (λ w. Some w) (is ∙ same)
