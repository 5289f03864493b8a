use Rattle.qz_driver.proofs.RunModeLemmas.{only_program}
use Rattle.qz_driver.proofs.programs.program_in_bytes.Goals as goal

pub returns-in-Ok : goal.returns-in-Ok
returns-in-Ok c =
    only_program c.args.asked.name.now c.args.asked.file.now c.args.bytes.now c.in-Ok.program c.in-Ok.ensures.found c.in-Ok.ensures.only
    c.in-Ok.ensures.clear c.in-Ok.ensures.well_formed
