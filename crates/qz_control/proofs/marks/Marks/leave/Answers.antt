use Rattle.std.proofs.Common.{ap, sym, ◌∙◌}
use Rattle.qz_control.specs.Contexts.{context_of, restored}
use Rattle.qz_control.proofs.Placing.{restored_last}
use Rattle.qz_control.proofs.marks.Marks.leave.Goals as goal

pub loop-one-preserved : goal.loop-one-preserved
loop-one-preserved c =
    ap (λ x. restored x c.pop.new.self.items) c.in_ok-set.ensures
    ∙ sym (restored_last (context_of c.loop-one.self) c.pop.new.self.items c.in-Some.one)
    ∙ ap (restored (context_of c.loop-one.self)) (sym c.in-Some.ensures.items)
    ∙ c.loop-one.invariant
