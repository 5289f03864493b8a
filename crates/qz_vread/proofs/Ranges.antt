-- What is read before what is declared.
use Rattle.std.proofs.Common.{◌≡◌, ℕ, ◌+◌, ◌-◌, ◌<◌, ◌≤◌, List, ◌++◌, refl, sym, ap, ◌∙◌, arith, codes, append_assoc}
use Rattle.std.specs.Fmt.{decimal}
use Rattle.std.proofs.lemmas.List.{append_cancel_left}
use Rattle.qz_values.specs.declared.Ty.{Ty}
use Rattle.qz_values.specs.declared.Ty.TheVariants as ty
use Rattle.qz_values.specs.Types.{IsType}
use Rattle.qz_vtext.specs.Spelling.{type_text}
use Rattle.qz_vread.specs.Parts.{IsSplit, NoFront}
use Rattle.qz_vread.specs.Reading.{IsTyped, IsUntyped, HasType, IsRange, IsNoRange}
use Rattle.qz_vread.proofs.Decimals.{decimal_once}
use Rattle.qz_vread.proofs.Splitting.{split_once}
use Rattle.qz_vread.proofs.RightSideLemmas.{decimal_lacks}

-- a range is cut at its first `:`
pub range_cut : (bytes high after : List ℕ) → IsSplit 58 bytes high after → (t : Ty) (rest : List ℕ) (r : IsRange bytes t rest)
    → (high ≡ decimal r.high) × (after ≡ codes "0] " ++ rest)
range_cut bytes high after split t rest r =
    let cut = split_once 58 high (decimal r.high) after (codes "0] " ++ rest) split.first (decimal_lacks 58 r.high refl) (sym split.whole ∙ r.whole) in
    (cut.before, cut.after)

pub range_once : (bytes : List ℕ) (t u : Ty) (rest other : List ℕ) → IsRange bytes t rest → IsRange bytes u other → (u ≡ t) × (other ≡ rest)
range_once bytes t u rest other r s =
    let cut = split_once 58 (decimal s.high) (decimal r.high) (codes "0] " ++ other) (codes "0] " ++ rest) (decimal_lacks 58 s.high refl) (decimal_lacks 58 r.high refl) (sym s.whole ∙ r.whole) in
    let same : s.high ≡ r.high = decimal_once s.high r.high (let b = s.below in omega (arith, b)) (let b = r.below in omega (arith, b)) cut.before in
    (s.vector ∙ ap (λ h. ty.Bv (h + 1)) same ∙ sym r.vector, append_cancel_left (codes "0] ") other rest cut.after)

-- the range of a vector that stands in front
ranged : (bytes range : List ℕ) → bytes ≡ codes "[" ++ range → (t : Ty) (rest : List ℕ) → IsTyped bytes t rest → IsRange range t rest
ranged bytes range bracket ty.Bool rest typed = absurd (typed.open_end range (sym typed.whole ∙ bracket))
ranged bytes range bracket (ty.Bv w) rest typed =
    let low : 1 ≤ w = typed.typed.at_least_1 in
    let high : w ≤ 64 = typed.typed.at_most_64 in
    record {
      high = w - 1;
      below = omega arith;
      vector = ap ty.Bv (omega arith);
      whole =
          append_cancel_left (codes "[") range _
          (sym bracket ∙ typed.whole ∙ ap (λ bs. codes "[" ++ bs) (append_assoc (decimal (w - 1)) (codes ":0] ") rest));
    }

pub range_typed : (bytes range : List ℕ) (t : Ty) (rest : List ℕ) → bytes ≡ codes "[" ++ range → IsRange range t rest → HasType bytes t rest
range_typed bytes range t rest bracket r = record {
  typed = let P : Ty → Type 0 = λ u. IsType u in rw r.vector (vector_is r.high r.below);
  whole = bracket ∙ ap (λ bs. codes "[" ++ bs) r.whole ∙ sym (vector_text t r.high rest r.vector);
  only = λ u other typed. range_once range t u rest other r (ranged bytes range bracket u other typed);
}
  where
    vector_is : (h : ℕ) → h < 64 → IsType (ty.Bv (h + 1))
    vector_is h small = record { at_least_1 = omega arith; at_most_64 = omega arith }

    vector_text : (t : Ty) (h : ℕ) (rest : List ℕ) → t ≡ ty.Bv (h + 1) → type_text t ++ rest ≡ codes "[" ++ (decimal h ++ (codes ":0] " ++ rest))
    vector_text t h rest e =
        ap (λ u. type_text u ++ rest) e
        ∙ ap (λ n. codes "[" ++ ((decimal n ++ codes ":0] ") ++ rest)) (let same : h + 1 - 1 ≡ h = omega arith in same)
        ∙ ap (λ bs. codes "[" ++ bs) (append_assoc (decimal h) (codes ":0] ") rest)

pub unranged : (bytes range : List ℕ) → bytes ≡ codes "[" ++ range → IsNoRange range → IsUntyped bytes
unranged bytes range bracket none t rest typed = none t rest (ranged bytes range bracket t rest typed)

-- no range is cut to what is no number of a bit
pub no_high : (bytes high after : List ℕ) → IsSplit 58 bytes high after → ((n : ℕ) → n < 64 → high ≡ decimal n → ⊥) → IsNoRange bytes
no_high bytes high after split none t rest r = none r.high r.below (range_cut bytes high after split t rest r).0

-- or to what is no end of a range
pub no_range_end : (bytes high after : List ℕ) → IsSplit 58 bytes high after → NoFront after (codes "0] ") → IsNoRange bytes
no_range_end bytes high after split none t rest r = none rest (range_cut bytes high after split t rest r).1
