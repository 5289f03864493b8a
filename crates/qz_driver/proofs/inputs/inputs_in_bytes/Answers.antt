use Rattle.qz_driver.proofs.InputLemmas.{found}
use Rattle.qz_driver.proofs.inputs.inputs_in_bytes.Goals as goal

pub returns-in-Ok : goal.returns-in-Ok
returns-in-Ok c =
    found c.args.types.now c.args.bytes.now c.in-Ok.trace c.requires.within c.in-Ok.ensures.found c.in-Ok.ensures.width c.in-Ok.ensures.whole
