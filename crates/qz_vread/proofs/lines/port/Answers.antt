use Rattle.qz_vread.proofs.PortParts.{marked}
use Rattle.qz_vread.proofs.lines.port.Goals as goal

pub returns : goal.returns
returns c = marked c.args.mark.now c.args.text.now c.in_ok-ty.rest.now c.in_ok-strip.field-0.now c.in_ok-ty.ty c.in_ok-ty.ensures c.in_ok-strip.ensures c.requires
