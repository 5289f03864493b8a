use Rattle.qz_equations.proofs.InstanceLemmas.{there, type_is}
use Rattle.qz_equations.proofs.instances.type_of.Goals as goal

pub returns : goal.returns
returns c =
    let one = there c.args.parts.now c.args.number c.requires.within in
    type_is c.args.parts.now c.args.number one.0 c.cell_of.result.now one.1 (c.cell_of.ensures one.0 one.1)
