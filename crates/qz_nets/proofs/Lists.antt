-- Places of lists: of a first part, and of a list with one more element.
use Rattle.std.proofs.Common.{◌≡◌, ℕ, zero, suc, ◌<◌, List, [], ◌∷◌, ◌++◌, length, take, slice_get, Some, refl, ap, ◌⊎◌, inl, inr, arith}

module _ {A : Type 0} where
  -- what stands in a first part stands in the list
  pub get_take : (n : ℕ) (xs : List A) (k : ℕ) (x : A) → slice_get (take n xs) k ≡ Some x → (k < n) × (slice_get xs k ≡ Some x)
  get_take zero xs k x e = absurd (cc)
  get_take (suc n) [] k x e = absurd (cc)
  get_take (suc n) (y ∷ ys) zero x e = (omega arith, e)
  get_take (suc n) (y ∷ ys) (suc k) x e = let rest = get_take n ys k x e in (omega (arith, rest.0), rest.1)

  -- and the other way round
  pub take_get : (n : ℕ) (xs : List A) (k : ℕ) → k < n → slice_get (take n xs) k ≡ slice_get xs k
  take_get zero xs k below = absurd (omega (arith, below))
  take_get (suc n) [] k below = refl
  take_get (suc n) (y ∷ ys) zero below = refl
  take_get (suc n) (y ∷ ys) (suc k) below = take_get n ys k (omega (arith, below))

  pub get_longer : (xs ys : List A) (k : ℕ) (x : A) → slice_get xs k ≡ Some x → slice_get (xs ++ ys) k ≡ Some x
  get_longer [] ys k x e = absurd (cc)
  get_longer (y ∷ xs) ys zero x e = e
  get_longer (y ∷ xs) ys (suc k) x e = get_longer xs ys k x e

  pub get_last : (xs : List A) (y : A) → slice_get (xs ++ y ∷ []) (length xs) ≡ Some y
  get_last [] y = refl
  get_last (x ∷ xs) y = get_last xs y

  -- what stands in a list with one more element stood there, or is that element at the end
  pub get_pushed : (xs : List A) (y : A) (k : ℕ) (x : A) → slice_get (xs ++ y ∷ []) k ≡ Some x →
      (slice_get xs k ≡ Some x) ⊎ ((k ≡ length xs) × (y ≡ x))
  get_pushed [] y zero x e = inr (refl, cc)
  get_pushed [] y (suc k) x e = absurd (cc)
  get_pushed (z ∷ xs) y zero x e = inl e
  get_pushed (z ∷ xs) y (suc k) x e = elim (get_pushed xs y k x e) [ inl h ↦ inl h | inr h ↦ inr (ap suc h.0, h.1) ]
