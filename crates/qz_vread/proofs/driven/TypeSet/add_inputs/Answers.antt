use Rattle.qz_syntax.specs.declared.declarations.Port.{Port}
use Rattle.qz_vread.proofs.TypesFound.{adds_more, adds_none, adds_all}
use Rattle.qz_vread.proofs.driven.TypeSet.add_inputs.Goals as goal

pub loop-input-init : goal.loop-input-init
loop-input-init c = adds_none (λ (p : Port). p.ty) c.args.inputs.now c.args.self.now

pub loop-input-preserved : goal.loop-input-preserved
loop-input-preserved c =
    adds_more (λ (p : Port). p.ty) c.args.inputs.now c.loop-input.input-index c.input-item.result c.input-item.result c.args.self.now c.loop-input.self c.add.new.self c.loop-input-test.true c.input-item.is c.loop-input.invariant c.add.ensures

pub returns : goal.returns
returns c = adds_all (λ (p : Port). p.ty) c.args.inputs.now c.loop-input.input-index c.args.self.now c.loop-input.self c.loop-input-test.false c.loop-input.invariant
