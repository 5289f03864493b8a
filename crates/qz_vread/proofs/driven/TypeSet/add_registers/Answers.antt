use Rattle.std.proofs.Common.{refl, ap, ◌∙◌, get_or, ◌||◌}
use Rattle.qz_values.specs.Values.{type_of}
use Rattle.qz_values.specs.Types.{is_same_type}
use Rattle.qz_vread.specs.TypeSets.{has}
use Rattle.qz_vread.proofs.TypesFound.{adds_more, adds_none, adds_all}
use Rattle.qz_vread.proofs.driven.TypeSet.add_registers.Goals as goal

pub loop-register-init : goal.loop-register-init
loop-register-init c = adds_none type_of c.args.registers.now c.args.self.now

pub loop-register-preserved : goal.loop-register-preserved
loop-register-preserved c =
    adds_more type_of c.args.registers.now c.loop-register.register-index (get_or c.args.registers.now c.loop-register.register-index _) _ c.args.self.now c.loop-register.self c.add.new.self c.loop-register-test.true refl c.loop-register.invariant (λ t. c.add.ensures t ∙ ap (λ u. has c.loop-register.self t || is_same_type t u) c.ty.ensures)

pub returns : goal.returns
returns c = adds_all type_of c.args.registers.now c.loop-register.register-index c.args.self.now c.loop-register.self c.loop-register-test.false c.loop-register.invariant
