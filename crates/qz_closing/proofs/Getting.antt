-- What stands at a place of a list.
use Rattle.std.proofs.Common.{◌≡◌, ℕ, zero, suc, ◌+◌, ◌<◌, ◌≤◌, Bool, true, false, ◌&&◌, ◌||◌, List, [], ◌∷◌, ◌++◌, map, length, Some, refl, sym, ap, ap₂, subst, ◌∙◌, ◌⊎◌, inl, inr, arith}
use Rattle.std.specs.Prelude.{◌==◌, slice_get}
use Rattle.std.specs.Option.{option_map}
use Rattle.std.specs.List.{range_with_len, list_all}
use Rattle.std.proofs.lemmas.Bool.{false≢true, and_parts, eqb-true}
use Rattle.std.proofs.lemmas.Option.{slice_get-map}
use Rattle.qz_syntax.specs.Numbers.{contains}
use Rattle.qz_meaning.specs.LayoutLaws.{AreDifferent}
use Rattle.qz_meaning.proofs.Lists.{none≢some, some_same}

zero_plus : (k : ℕ) → 0 + k ≡ k
zero_plus k = omega arith

suc_plus : (a k : ℕ) → suc a + k ≡ suc (a + k)
suc_plus a k = omega arith

pub get_left : {A : Type 0} (xs ys : List A) (k : ℕ) (x : A) → slice_get xs k ≡ Some x → slice_get (xs ++ ys) k ≡ Some x
get_left [] ys k x e = absurd (none≢some x e)
get_left (y ∷ xs) ys zero x e = e
get_left (y ∷ xs) ys (suc k) x e = get_left xs ys k x e

pub get_right : {A : Type 0} (xs ys : List A) (k : ℕ) → slice_get (xs ++ ys) (length xs + k) ≡ slice_get ys k
get_right [] ys k = ap (slice_get ys) (zero_plus k)
get_right (x ∷ xs) ys k = ap (slice_get (x ∷ xs ++ ys)) (suc_plus (length xs) k) ∙ get_right xs ys k

-- an element of two lists in a row is one of the first or of the second
pub get_cases : {A : Type 0} (xs ys : List A) (k : ℕ) (x : A) → slice_get (xs ++ ys) k ≡ Some x
    → (slice_get xs k ≡ Some x) ⊎ ((j : ℕ) × (k ≡ length xs + j) × (slice_get ys j ≡ Some x))
get_cases [] ys k x e = inr (k, sym (zero_plus k), e)
get_cases (y ∷ xs) ys zero x e = inl e
get_cases (y ∷ xs) ys (suc k) x e = by (get_cases xs ys k x e) where
  by : (slice_get xs k ≡ Some x) ⊎ ((j : ℕ) × (k ≡ length xs + j) × (slice_get ys j ≡ Some x))
      → (slice_get xs k ≡ Some x) ⊎ ((j : ℕ) × (suc k ≡ suc (length xs) + j) × (slice_get ys j ≡ Some x))
  by (inl h) = inl h
  by (inr (j, is, h)) = inr (j, ap suc is ∙ sym (suc_plus (length xs) j), h)

pub get_mapped : {A B : Type 0} (f : A → B) (xs : List A) (k : ℕ) (x : A) → slice_get xs k ≡ Some x → slice_get (map f xs) k ≡ Some (f x)
get_mapped f xs k x e = slice_get-map f xs k ∙ ap (option_map f) e

pub mapped_cases : {A B : Type 0} (f : A → B) (xs : List A) (k : ℕ) (y : B) → slice_get (map f xs) k ≡ Some y → (x : A) × (slice_get xs k ≡ Some x) × (y ≡ f x)
mapped_cases f [] k y e = absurd (none≢some y e)
mapped_cases f (x ∷ xs) zero y e = (x, refl, sym (some_same _ _ e))
mapped_cases f (x ∷ xs) (suc k) y e = mapped_cases f xs k y e

pub get_range : (a n k : ℕ) → k < n → slice_get (range_with_len a n) k ≡ Some (a + k)
get_range a zero k h = absurd (omega (arith, h))
get_range a (suc n) zero h = ap Some (let e : a ≡ a + 0 = omega arith in e)
get_range a (suc n) (suc k) h = get_range (a + 1) n k (omega (arith, h)) ∙ ap Some (let e : (a + 1) + k ≡ a + suc k = omega arith in e)

pub range_cases : (a n k x : ℕ) → slice_get (range_with_len a n) k ≡ Some x → (x ≡ a + k) × (k < n)
range_cases a zero k x e = absurd (none≢some x e)
range_cases a (suc n) zero x e = (let is = some_same _ _ e in omega (arith, is), omega arith)
range_cases a (suc n) (suc k) x e = let more = range_cases (a + 1) n k x e in let one = more.0 in let two = more.1 in (omega (arith, one), omega (arith, two))

-- the number that stands at a place of a list is among the list
pub got_among : (xs : List ℕ) (k x : ℕ) → slice_get xs k ≡ Some x → contains xs x ≡ true
got_among [] k x e = absurd (none≢some x e)
got_among (y ∷ xs) zero x e = ap (λ t. t || contains xs x) (subst (λ i. (y == i) ≡ true) (some_same _ _ e) (let h : (y == y) ≡ true = grind arith in h))
got_among (y ∷ xs) (suc k) x e = by (y == x) (got_among xs k x e) where
  by : (t : Bool) → contains xs x ≡ true → (t || contains xs x) ≡ true
  by true h = refl
  by false h = h

pub range_among : (a n x : ℕ) → contains (range_with_len a n) x ≡ true → (a ≤ x) × (x < a + n)
range_among a zero x h = absurd (false≢true h)
range_among a (suc n) x h = by (a == x) refl h (λ k. range_among (a + 1) n x k) where
  by : (t : Bool) → (a == x) ≡ t → (t || contains (range_with_len (a + 1) n) x) ≡ true
      → (contains (range_with_len (a + 1) n) x ≡ true → (a + 1 ≤ x) × (x < (a + 1) + n)) → (a ≤ x) × (x < a + suc n)
  by true e k later = let is = eqb-true a x e in (omega (arith, is), omega (arith, is))
  by false e k later = let more = later k in let one = more.0 in let two = more.1 in (omega (arith, one), omega (arith, two))

pub range_different : (a n : ℕ) → AreDifferent (range_with_len a n)
range_different a zero = tt
range_different a (suc n) = (not_there (contains (range_with_len (a + 1) n) a) refl, range_different (a + 1) n) where
  not_there : (t : Bool) → contains (range_with_len (a + 1) n) a ≡ t → t ≡ false
  not_there true e = let in_it = (range_among (a + 1) n a e).0 in absurd (omega (arith, in_it))
  not_there false e = refl

-- lists of one length that agree wherever the first has something are one
pub lists_same : {A : Type 0} (xs ys : List A) → length xs ≡ length ys → ((k : ℕ) (x : A) → slice_get xs k ≡ Some x → slice_get ys k ≡ Some x) → xs ≡ ys
lists_same [] [] long h = refl
lists_same [] (y ∷ ys) long h = absurd (omega (arith, long))
lists_same (x ∷ xs) [] long h = absurd (omega (arith, long))
lists_same (x ∷ xs) (y ∷ ys) long h =
    ap₂ (λ (i : _) (l : List _). i ∷ l) (sym (some_same _ _ (h 0 x refl))) (lists_same xs ys (omega (arith, long)) (λ k i e. h (suc k) i e))

-- a fact of all elements by their places
pub all_at : {A : Type 0} (f : A → Bool) (xs : List A) → ((k : ℕ) (x : A) → slice_get xs k ≡ Some x → f x ≡ true) → list_all f xs ≡ true
all_at f [] h = refl
all_at f (x ∷ xs) h = ap₂ (λ s t. s && t) (h 0 x refl) (all_at f xs (λ k i e. h (suc k) i e))

pub at_all : {A : Type 0} (f : A → Bool) (xs : List A) → list_all f xs ≡ true → (k : ℕ) (x : A) → slice_get xs k ≡ Some x → f x ≡ true
at_all f [] h k x e = absurd (none≢some x e)
at_all f (y ∷ xs) h zero x e = subst (λ i. f i ≡ true) (some_same _ _ e) (and_parts _ _ h).0
at_all f (y ∷ xs) h (suc k) x e = at_all f xs (and_parts _ _ h).1 k x e

-- within its length a list has something
pub got_within : {A : Type 0} (xs : List A) (k : ℕ) → k < length xs → (x : A) × (slice_get xs k ≡ Some x)
got_within [] k h = absurd (omega (arith, h))
got_within (x ∷ xs) zero h = (x, refl)
got_within (x ∷ xs) (suc k) h = got_within xs k (omega (arith, h))
