-- What is spelled is read as it was.
use Rattle.std.proofs.Common.{◌≡◌, ℕ, ◌+◌, ◌*◌, ◌^◌, ◌<◌, ◌≤◌, Bool, true, false, ◌&&◌, ◌==◌, List, [], ◌∷◌, ◌++◌, Option, Some, None, refl, inl, inr, sym, ap, ◌∙◌, arith, codes, cond, append_assoc, append-nil}
use Rattle.std.specs.Char.{digit_value, is_digit}
use Rattle.std.specs.Str.{all_scalars}
use Rattle.std.specs.Prelude.{nat_lt, ◌⊎◌}
use Rattle.std.proofs.Math.Utf8.{scalar, scalar_cases}
use Rattle.std.specs.Str.Parse.{AllDigits, digits_value_after}
use Rattle.std.specs.Fmt.{digits}
use Rattle.std.proofs.lemmas.Bool.{and_parts, and_from, cond-true, cond-false}
use Rattle.std.proofs.lemmas.Bool.Decides.{nat_tests}
use Rattle.std.proofs.lemmas.Fmt.{digits_is_IsNumeral}
use Rattle.qz_vtext.specs.Names.{is_plain, character_text, name_text}
use Rattle.qz_vread.specs.Unspelling.{Unspelled, with_byte, with_bytes, whole, unspelled}

abbrev pub at : List ℕ → Option ℕ → Option Unspelled
at characters code = Some (record { characters = characters; code = code })

after_grows : (n : ℕ) (ds : List ℕ) → n ≤ digits_value_after 16 n ds
after_grows n [] = omega arith
after_grows n (d ∷ ds) = let more = after_grows (n * 16 + digit_value d) ds in omega arith

-- the digits of a code
digits_read : (cs ds rest : List ℕ) (k : ℕ) → AllDigits 16 ds → digits_value_after 16 k ds < 2 ^ 24
    → with_bytes (ds ++ rest) (at cs (Some k)) ≡ with_bytes rest (at cs (Some (digits_value_after 16 k ds)))
digits_read cs [] rest k are small = refl
digits_read cs (d ∷ ds) rest k are small =
    ap (with_bytes (ds ++ rest)) (one d k cs are.0 (let more = after_grows (k * 16 + digit_value d) ds in omega arith))
    ∙ digits_read cs ds rest (k * 16 + digit_value d) are.1 small
  where
    no_mark : (d : ℕ) → digit_value d < 16 → (d == 36) ≡ false
    no_mark d small = grind (arith, nat_tests)

    is_it : (d k : ℕ) → digit_value d < 16 → k < 2 ^ 24 → (is_digit d 16 && nat_lt k (2 ^ 24)) ≡ true
    is_it d k digit small = grind (arith, nat_tests)

    one : (d k : ℕ) (cs : List ℕ) → digit_value d < 16 → k < 2 ^ 24 → with_byte cs (Some k) d ≡ at cs (Some (k * 16 + digit_value d))
    one d k cs digit small = rw (no_mark d digit, is_it d k digit small) refl

plain_apart : (c : ℕ) → is_plain c ≡ true → (c == 36) ≡ false
plain_apart c plain = grind (arith, nat_tests)

character_read : (c : ℕ) (cs rest : List ℕ) → all_scalars (c ∷ []) ≡ true → c < 2 ^ 24
    → with_bytes (character_text c ++ rest) (at cs None) ≡ with_bytes rest (at (cs ++ c ∷ []) None)
character_read c cs rest scalar small = by (is_plain c) refl
  where
    whole_digits : (digits 16 false c ++ codes "$") ++ rest ≡ digits 16 false c ++ (36 ∷ rest)
    whole_digits = append_assoc (digits 16 false c) (codes "$") rest

    numeral : AllDigits 16 (digits 16 false c)
    numeral = (digits_is_IsNumeral 16 false (omega arith) (omega arith) c (omega arith)).0.1

    value : digits_value_after 16 0 (digits 16 false c) ≡ c
    value = (digits_is_IsNumeral 16 false (omega arith) (omega arith) c (omega arith)).1

    ended : with_bytes (36 ∷ rest) (at cs (Some c)) ≡ with_bytes rest (at (cs ++ c ∷ []) None)
    ended = ap (with_bytes rest) (cond-true (all_scalars (c ∷ [])) (at (cs ++ c ∷ []) None) None scalar)

    spelled : with_bytes ((digits 16 false c ++ codes "$") ++ rest) (at cs (Some 0)) ≡ with_bytes rest (at (cs ++ c ∷ []) None)
    spelled =
        ap (λ bs. with_bytes bs (at cs (Some 0))) whole_digits
        ∙ digits_read cs (digits 16 false c) (36 ∷ rest) 0 numeral (let e = value in omega arith)
        ∙ ap (λ n. with_bytes (36 ∷ rest) (at cs (Some n))) value
        ∙ ended

    by : (b : Bool) → is_plain c ≡ b
        → with_bytes (cond b (c ∷ []) (codes "$" ++ (digits 16 false c ++ codes "$")) ++ rest) (at cs None) ≡ with_bytes rest (at (cs ++ c ∷ []) None)
    by true plain = ap (with_bytes rest) (cond-false (c == 36) _ _ (plain_apart c plain))
    by false other = spelled

below_limit : (c : ℕ) → all_scalars (c ∷ []) ≡ true → c < 2 ^ 24
below_limit c is_scalar = by (scalar_cases c (and_parts (scalar c) true scalar_both).0)
  where
    scalar_both : (scalar c && true) ≡ true
    scalar_both = is_scalar

    by : (c < 55296) ⊎ ((57344 ≤ c) × (c < 1114112)) → c < 2 ^ 24
    by (inl low) = omega arith
    by (inr (a, b)) = omega arith

name_read : (name cs : List ℕ) → all_scalars name ≡ true → with_bytes (name_text name) (at cs None) ≡ at (cs ++ name) None
name_read [] cs scalar = ap (λ bs. at bs None) (sym (append-nil cs))
name_read (c ∷ name) cs scalars_are =
    let parts = and_parts (scalar c) (all_scalars name) scalars_are in
    let one : all_scalars (c ∷ []) ≡ true = and_from (scalar c) true parts.0 refl in
    character_read c cs (name_text name) one (below_limit c one)
    ∙ name_read name (cs ++ c ∷ []) parts.1
    ∙ ap (λ bs. at bs None) (append_assoc cs (c ∷ []) name)

pub spelled_is_read : (name : List ℕ) → all_scalars name ≡ true → unspelled (name_text name) ≡ Some name
spelled_is_read name scalar = ap whole (name_read name [] scalar)
