use Rattle.qz_react.specs.Contexts.{context_of}
use Rattle.qz_react.proofs.Writing.{on_ok, bound_starts}
use Rattle.qz_react.proofs.starts.+starts.Goals as goal

pub start-returns-in-Bind-clause-writes : goal.start-returns-in-Bind-clause-writes
start-returns-in-Bind-clause-writes t c =
    on_ok c.start_bound.result
    (λ h step sees. bound_starts step c.args.s.now c.in-Bind.body c.get-in-Bind.result.now c.in-Bind.bindings c.as_slice-in-Bind.result.now
    (context_of c.args.here.now) c.args.g c.args.m _ _ c.in-Bind.is c.get-in-Bind.ensures c.as_slice-in-Bind.ensures (h step sees))
    c.start_bound.ensures.writes
