-- How deep each form of statement is, over its parts.
use Rattle.std.proofs.Common.{◌≡◌, ℕ, ◌+◌, ◌-◌, ◌<◌, Bool, true, false, ◌||◌, nat_lt, List, [], ◌∷◌, map, max, fold, refl, ap, sym, ◌∙◌, ◌⊎◌, inl, inr, arith}
use Rattle.std.proofs.lemmas.Bool.Decides.{nat_tests}
use Rattle.qz_syntax.specs.declared.statements.Stmt.{Stmt}
use Rattle.qz_syntax.specs.declared.statements.Stmt.TheVariants as stmt
use Rattle.qz_syntax.specs.Numbers.{parts_of, depth_of}
use Rattle.qz_syntax.proofs.Equations as equations

-- one more than the deepest member
pub depth-parts : (s : Stmt) (parts : List Stmt) → (s ≡ stmt.Seq parts) ⊎ (s ≡ stmt.Par parts) → depth_of s ≡ 1 + fold max 0 (map depth_of parts)
depth-parts s parts (inl is) = ap depth_of is ∙ equations.fold-Seq ℕ (λ node. 1 + fold max 0 (parts_of node)) parts
depth-parts s parts (inr is) = ap depth_of is ∙ equations.fold-Par ℕ (λ node. 1 + fold max 0 (parts_of node)) parts

pub lt-below : (limit d : ℕ) → 0 < limit → nat_lt (limit - 1) d ≡ nat_lt limit (1 + d)
lt-below limit d h = grind (arith, nat_tests)

pub lt-max : (k a b : ℕ) → nat_lt k (max a b) ≡ (nat_lt k a || nat_lt k b)
lt-max k a b = grind (arith, nat_tests)

or-false : (a b : Bool) → b ≡ false → a ≡ (a || b)
or-false true b h = refl
or-false false b h = sym h

or-assoc : (a b c : Bool) → ((a || b) || c) ≡ (a || (b || c))
or-assoc true b c = refl
or-assoc false b c = refl

lt-zero : (k : ℕ) → nat_lt k 0 ≡ false
lt-zero k = grind (arith, nat_tests)

-- whether the largest of some numbers and one more is above a limit
pub lt-fold : (k a : ℕ) (xs : List ℕ) → nat_lt k (fold max a xs) ≡ (nat_lt k a || nat_lt k (fold max 0 xs))
lt-fold k a [] = or-false (nat_lt k a) (nat_lt k 0) (lt-zero k)
lt-fold k a (x ∷ xs) =
    let rest = nat_lt k (fold max 0 xs) in
    lt-fold k (max a x) xs ∙ ap (λ b. b || rest) (lt-max k a x) ∙ or-assoc (nat_lt k a) (nat_lt k x) rest
    ∙ ap (λ b. nat_lt k a || b) (sym (lt-fold k (max 0 x) xs ∙ ap (λ n. nat_lt k n || rest) (omega arith)))

-- the first of some numbers decides where it is above the limit
pub lt-first : (k x : ℕ) (xs : List ℕ) → nat_lt k x ≡ true → nat_lt k (fold max 0 (x ∷ xs)) ≡ true
lt-first k x xs h = lt-fold k (max 0 x) xs ∙ rw (lt-max k 0 x, lt-zero k, h) refl

-- and the others decide where it isn't
pub lt-others : (k x : ℕ) (xs : List ℕ) → nat_lt k x ≡ false → nat_lt k (fold max 0 (x ∷ xs)) ≡ nat_lt k (fold max 0 xs)
lt-others k x xs h = lt-fold k (max 0 x) xs ∙ rw (lt-max k 0 x, lt-zero k, h) refl
