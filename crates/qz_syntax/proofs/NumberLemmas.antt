-- Numbers that count from 0 are below their count.
use Rattle.std.proofs.Common.{◌≡◌, ℕ, zero, suc, ◌+◌, true, nat_lt, List, map, refl, ap, ◌∙◌, ◌++◌, arith}
use Rattle.std.proofs.lemmas.Bool.Decides.{nat_tests}
use Rattle.std.specs.List.{list_all, range_with_len, concat}
use Rattle.qz_syntax.specs.declared.statements.Stmt.{Stmt, map-Stmt, out-Stmt}
use Rattle.qz_syntax.specs.declared.statements.Stmt.TheOpen.{Stmt-F}
use Rattle.qz_syntax.specs.declared.statements.Stmt.TheFolds.{fold_out-Stmt}
use Rattle.qz_syntax.specs.Numbers.{parts_of, in_tree_order}
use Rattle.qz_syntax.proofs.Trees.{parts_of-map}

pub range-all_below : (limit from len : ℕ) → from + len ≡ limit → list_all (λ n. nat_lt n limit) (range_with_len from len) ≡ true
range-all_below limit from zero h = refl
range-all_below limit from (suc len) h =
    let low : nat_lt from limit ≡ true = grind (arith, nat_tests) in
    rw low (range-all_below limit (from + 1) len (omega arith))

-- the numbers in a statement: its own, and those of its parts
pub in_tree_order_out : (own : Stmt-F (List ℕ) → List ℕ) (s : Stmt)
    → in_tree_order own s ≡ own (map-Stmt Stmt (List ℕ) (in_tree_order own) (out-Stmt s)) ++ concat (map (in_tree_order own) (parts_of (out-Stmt s)))
in_tree_order_out own s =
    fold_out-Stmt (List ℕ) (λ node. own node ++ concat (parts_of node)) s
    ∙ ap (λ numbers. own (map-Stmt Stmt (List ℕ) (in_tree_order own) (out-Stmt s)) ++ concat numbers) (parts_of-map Stmt (List ℕ) (in_tree_order own) (out-Stmt s))
