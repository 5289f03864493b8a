use Rattle.std.proofs.Common.{◌≡◌, List, ℕ, [], ap, sym, ◌∙◌, Option, Some, append-nil}
use Rattle.qz_syntax.specs.Marks.{loops_round, node_loops_round}
use Rattle.qz_syntax.proofs.Equations.{fold-Scope}
use Rattle.qz_syntax.proofs.marks.+scopes.Goals as goal

pub find_scope-returns-then-declares-clause-round : goal.find_scope-returns-then-declares-clause-round
find_scope-returns-then-declares-clause-round t c =
    let e : loops_round c.args.decl c.args.s.now ≡ Some [] =
    ap (loops_round c.args.decl) c.in-Scope.is ∙ fold-Scope (Option (List ℕ)) (node_loops_round c.args.decl) c.in-Scope.locals c.in-Scope.body
    ∙ rw (← c.as_slice.ensures, ← c.declares.ensures, c.if-declares.true) in
    rw e (sym (append-nil c.args.round.now.items))
