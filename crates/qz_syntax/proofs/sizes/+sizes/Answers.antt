use Rattle.std.proofs.Common.{◌≡◌, ℕ, ◌+◌, ◌<◌, min, ap, sym, ◌∙◌, arith}
use Rattle.std.specs.List.{sum_by}
use Rattle.qz_syntax.specs.declared.statements.Stmt.{Stmt, out-Stmt}
use Rattle.qz_syntax.specs.Numbers.{parts_of}
use Rattle.qz_syntax.specs.Sizes.{own_nodes, loops_inside, units_inside, largest_size}
use Rattle.qz_syntax.proofs.Trees.{own_nodes_pos, loops_inside-le}
use Rattle.qz_syntax.proofs.SizeLemmas.{saturated_sum, sum_over_nodes_out}
use Rattle.qz_syntax.proofs.sizes.+sizes.Goals as goal

pub units_inside-returns : goal.units_inside-returns
units_inside-returns t c =
    let node = out-Stmt c.args.s.now in
    let loops = c.args.loops in
    let inside = c.loops_inside-inside.result in
    let within = λ (n : ℕ). sum_by (λ (part : Stmt). units_inside part n) (parts_of node) in
    let same : loops + 2 < largest_size → within inside ≡ within (loops_inside node loops) =
    λ h. ap within (omega (arith, c.loops_inside-inside.ensures, loops_inside-le node loops)) in
    let e = saturated_sum largest_size (own_nodes node) (loops + 2) (within inside) (within (loops_inside node loops)) (own_nodes_pos node) (omega arith) (omega arith) same in
    let f = sum_over_nodes_out (λ n. n + 2) c.args.s.now loops in
    c.saturating_add-2.ensures
    ∙ rw (c.units_of_parts.ensures, c.saturating_mul-own.ensures, c.own_nodes.ensures, c.saturating_add.ensures) e
    ∙ ap (λ n. min n largest_size) (sym f)
