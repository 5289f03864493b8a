-- How a size is summed up in numbers that stop at a largest one.
use Rattle.std.proofs.Common.{◌≡◌, ℕ, zero, suc, ◌+◌, ◌*◌, ◌<◌, ◌≤◌, min, ap, ◌∙◌, arith, ◌⊎◌, inl, inr}
use Rattle.std.proofs.lemmas.Bool.{cases_lt}
use Rattle.std.proofs.lemmas.List.Folds.{fold-map}
use Rattle.std.specs.List.{sum_by}
use Rattle.qz_syntax.specs.declared.statements.Stmt.{Stmt, out-Stmt}
use Rattle.qz_syntax.specs.declared.statements.Stmt.TheFolds.{fold_out-Stmt}
use Rattle.qz_syntax.specs.Numbers.{parts_of}
use Rattle.qz_syntax.specs.Sizes.{own_nodes, loops_inside, node_sum, sum_over_nodes}
use Rattle.qz_syntax.proofs.Trees.{parts_of-map, own_nodes-map, loops_inside-map}

-- the sum at a statement, by its own nodes and its parts
pub sum_over_nodes_out : (weight : ℕ → ℕ) (s : Stmt) (loops : ℕ)
    → sum_over_nodes weight s loops ≡ own_nodes (out-Stmt s) * weight loops + sum_by (λ part. sum_over_nodes weight part (loops_inside (out-Stmt s) loops)) (parts_of (out-Stmt s))
sum_over_nodes_out weight s loops =
    let node = out-Stmt s in
    let up = sum_over_nodes weight in
    ap (λ (f : ℕ → ℕ). f loops) (fold_out-Stmt (ℕ → ℕ) (node_sum weight) s)
    ∙ rw (own_nodes-map Stmt (ℕ → ℕ) up node, loops_inside-map Stmt (ℕ → ℕ) up node loops, parts_of-map Stmt (ℕ → ℕ) up node)
    (ap (λ n. own_nodes node * weight loops + n) (fold-map (λ a (x : ℕ → ℕ). a + x (loops_inside node loops)) up 0 (parts_of node)))

le-mul : (a b : ℕ) → 1 ≤ b → a ≤ a * b
le-mul a zero h = absurd (omega arith)
le-mul a (suc b) h = omega arith

min-mul_large : (m n k : ℕ) → 1 ≤ k → 1 ≤ m → m ≤ n → min (m * min k m) m ≡ min (n * k) m
min-mul_large m n k q r h = let low : 1 ≤ min k m = omega arith in omega (arith, le-mul m (min k m) low, le-mul n k q)

min-mul_small : (m n k : ℕ) → 1 ≤ n → 1 ≤ k → 1 ≤ m → (k < m) ⊎ (m ≤ k) → min (n * min k m) m ≡ min (n * k) m
min-mul_small m n k p q r (inl h) = let e : min k m ≡ k = omega arith in rw e
min-mul_small m n k p q r (inr h) = let e : min k m ≡ m = omega arith in rw e (omega (arith, le-mul m n p, le-mul k n p))

min-mul_by : (m n k : ℕ) → 1 ≤ n → 1 ≤ k → 1 ≤ m → (n < m) ⊎ (m ≤ n) → min (min n m * min k m) m ≡ min (n * k) m
min-mul_by m n k p q r (inl h) = let e : min n m ≡ n = omega arith in rw e (min-mul_small m n k p q r (cases_lt k m))
min-mul_by m n k p q r (inr h) = let e : min n m ≡ m = omega arith in rw e (min-mul_large m n k q r h)

saturated_by : (m n k sum inner product : ℕ) → 1 ≤ n → product ≡ min (n * k) m → (k < m → sum ≡ inner) → (k < m) ⊎ (m ≤ k)
    → min (product + min sum m) m ≡ min (n * k + inner) m
saturated_by m n k sum inner product p e same (inl h) = let f = same h in omega arith
saturated_by m n k sum inner product p e same (inr h) = omega (arith, le-mul k n p)

-- a product and a sum that stop at m, where the sum is the one that is meant unless one factor is at least m
pub saturated_sum : (m n k sum inner : ℕ) → 1 ≤ n → 1 ≤ k → 1 ≤ m → (k < m → sum ≡ inner)
    → min (min (min n m * min k m) m + min sum m) m ≡ min (n * k + inner) m
saturated_sum m n k sum inner p q r same =
    saturated_by m n k sum inner _ p (min-mul_by m n k p q r (cases_lt n m)) same (cases_lt k m)
