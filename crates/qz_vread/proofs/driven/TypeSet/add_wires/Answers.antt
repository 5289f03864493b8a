use Rattle.std.proofs.Common.{refl, get_or}
use Rattle.qz_values.specs.declared.Ty.{Ty}
use Rattle.qz_verilog.specs.declared.nets.Rhs.{Rhs}
use Rattle.qz_vread.proofs.TypesFound.{adds_more, adds_none, adds_all}
use Rattle.qz_vread.proofs.driven.TypeSet.add_wires.Goals as goal

pub loop-ty-init : goal.loop-ty-init
loop-ty-init c = adds_none (λ (w : Ty × Rhs). w.0) c.args.wires.now c.args.self.now

pub loop-ty-preserved : goal.loop-ty-preserved
loop-ty-preserved c =
    adds_more (λ (w : Ty × Rhs). w.0) c.args.wires.now c.loop-ty.ty-index (get_or c.args.wires.now c.loop-ty.ty-index _) _ c.args.self.now c.loop-ty.self c.add.new.self c.loop-ty-test.true refl c.loop-ty.invariant c.add.ensures

pub returns : goal.returns
returns c = adds_all (λ (w : Ty × Rhs). w.0) c.args.wires.now c.loop-ty.ty-index c.args.self.now c.loop-ty.self c.loop-ty-test.false c.loop-ty.invariant
