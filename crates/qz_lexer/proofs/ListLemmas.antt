-- Two ways to split one list.
use Rattle.std.proofs.Common.{◌≡◌, ℕ, ◌<◌, List, [], ◌∷◌, ◌++◌, length, refl, arith}

-- fronts of one length are one front
pub same_fronts : (a b r s : List ℕ) → a ++ r ≡ b ++ s → length a ≡ length b → (a ≡ b) × (r ≡ s)
same_fronts [] [] r s e same = (refl, e)
same_fronts [] (y ∷ b) r s e same = absurd (omega arith)
same_fronts (x ∷ a) [] r s e same = absurd (omega arith)
same_fronts (x ∷ a) (y ∷ b) r s e same =
    let head : x ≡ y = cc in
    let tail : a ++ r ≡ b ++ s = cc in
    let rest = same_fronts a b r s tail (omega arith) in
    let first : (x ∷ a) ≡ (y ∷ b) = cc (rest.0) in
    (first, rest.1)

-- a shorter front is followed by more of the longer one
pub longer_front : (a b r s : List ℕ) → a ++ r ≡ b ++ s → length a < length b → (x : ℕ) × (more : List ℕ) × (b ≡ a ++ (x ∷ more))
longer_front a [] r s e shorter = absurd (omega arith)
longer_front [] (y ∷ b) r s e shorter = (y, b, refl)
longer_front (x ∷ a) (y ∷ b) r s e shorter =
    let head : x ≡ y = cc in
    let tail : a ++ r ≡ b ++ s = cc in
    let rest = longer_front a b r s tail (omega arith) in
    let longer : (y ∷ b) ≡ (x ∷ a) ++ (rest.0 ∷ rest.1) = cc (rest.2) in
    (rest.0, rest.1, longer)
