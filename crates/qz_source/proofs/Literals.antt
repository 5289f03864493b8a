-- Where a literal is cut.
use Rattle.std.proofs.Common.{◌≡◌, ℕ, List, ◌∷◌, ◌++◌, Option, Some, MatchOption, Bor, drop, lit<, sym, ap, ◌∙◌, arith}
use Rattle.std.proofs.lemmas.Str.Parse.{not_in_digits}
use Rattle.std.proofs.lemmas.Str.{encode_ascii}
use Rattle.std.proofs.lemmas.Str.Pattern.{IsSplitOnceResult, split_after, split_once_first}
use Rattle.std.specs.Char.{encode_utf8}
use Rattle.qz_source.specs.Spots.{IsLiteralText, literal_width, literal_value}
use Rattle.qz_source.proofs.Numerals.{own}

-- at its quote
pub parts : (text : List ℕ) (is : IsLiteralText text) (r : Option (Bor (List ℕ) × Bor (List ℕ))) → IsSplitOnceResult 39 text r
    → MatchOption r ⊥ (λ x. (x.0.now ≡ is.width) × (x.1.now ≡ 100 ∷ is.value))
parts text is r h =
    split_after 39 text is.width (100 ∷ is.value) r h (lit< tt) is.spelled
    (not_in_digits own is.width 39 is.is_width.digits (λ inside. let low = inside.0 in omega (arith, low)))

-- the `d` stands behind the quote
pub begins : (rest value : List ℕ) → rest ≡ 100 ∷ value → rest ≡ encode_utf8 100 ++ value
begins rest value e = e ∙ ap (λ l. l ++ value) (sym (encode_ascii 100 (lit< tt)))

pub width_is : (text : List ℕ) (width rest : Bor (List ℕ)) → IsSplitOnceResult 39 text (Some (width, rest)) → width.now ≡ literal_width text
width_is text width rest h = (split_once_first 39 text (Some (width, rest)) h (lit< tt)).1

pub value_is : (text value : List ℕ) (width rest : Bor (List ℕ)) → IsSplitOnceResult 39 text (Some (width, rest)) → rest.now ≡ 100 ∷ value → value ≡ literal_value text
value_is text value width rest h e = sym (ap (drop 1) e) ∙ ap (drop 1) (split_once_first 39 text (Some (width, rest)) h (lit< tt)).2
