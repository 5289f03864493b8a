use Rattle.std.proofs.Common.{◌∙◌}
use Rattle.qz_control.specs.Typed.{expr_type}
use Rattle.qz_control.proofs.Valued.{test_some, test_type}
use Rattle.qz_control.proofs.conditions.test.Goals as goal

pub value-requires : goal.value-requires
value-requires c = test_some (expr_type c.args.owner.now c.args.condition.now) c.requires

pub returns-clause-ty : goal.returns-clause-ty
returns-clause-ty c = record { typed = c.in_ok-id.ensures.ty ∙ test_type (expr_type c.args.owner.now c.args.condition.now) c.requires }
