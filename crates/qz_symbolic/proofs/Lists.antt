-- What holds of each element of a list, by its number.
use Rattle.std.proofs.Common.{◌≡◌, ℕ, zero, suc, ◌+◌, ◌<◌, List, [], ◌∷◌, ◌++◌, length, get_or, Some, refl, sym, ap, subst, ◌∙◌, arith}
use Rattle.std.specs.Prelude.{slice_get}
use Rattle.std.proofs.lemmas.Option.{slice_get_read}

-- with one element more at the end
pub each_more : {A : Type 0} (P : ℕ → A → Type 0) (xs : List A) (n start : ℕ) (y : A) → start + length xs ≡ n
    → ((k : ℕ) (x : A) → slice_get xs k ≡ Some x → P (start + k) x) → P n y
    → (k : ℕ) (x : A) → slice_get (xs ++ y ∷ []) k ≡ Some x → P (start + k) x
each_more P [] n start y long all here zero x at =
    let same : y ≡ x = cc in
    let e : n ≡ start + 0 = omega arith in
    subst (λ z. P (start + 0) z) same (subst (λ m. P m y) e here)
each_more P [] n start y long all here (suc k) x at = absurd (cc)
each_more P (z ∷ xs) n start y long all here zero x at = all zero x at
each_more P (z ∷ xs) n start y long all here (suc k) x at =
    let e : suc start + k ≡ start + suc k = omega arith in
    subst (λ m. P m x) e
    (each_more P xs n (suc start) y (omega (arith, long))
    (λ i w there. let f : start + suc i ≡ suc start + i = omega arith in subst (λ m. P m w) f (all (suc i) w there)) here k x at)

pub each_pushed : {A : Type 0} (P : ℕ → A → Type 0) (xs more : List A) (n : ℕ) (y : A) → length xs ≡ n → more ≡ xs ++ y ∷ []
    → ((k : ℕ) (x : A) → slice_get xs k ≡ Some x → P k x) → P n y → (k : ℕ) (x : A) → slice_get more k ≡ Some x → P k x
each_pushed P xs more n y long is all here k x at =
    let e : 0 + k ≡ k = omega arith in
    subst (λ m. P m x) e
    (each_more P xs n 0 y (omega (arith, long))
    (λ i w there. let f : i ≡ 0 + i = omega arith in subst (λ m. P m w) f (all i w there)) here k x (ap (λ l. slice_get l k) (sym is) ∙ at))

-- the item that is read at a number
pub item_at : {A : Type 0} (items all : List A) (n : ℕ) (x : A) → items ≡ all → n < length items → x ≡ get_or items n x → slice_get all n ≡ Some x
item_at items all n x is below read = ap (λ xs. slice_get xs n) (sym is) ∙ slice_get_read items (length items) n x refl below read
