use Rattle.qz_driver.specs.Answers.{FilesSeen, files_seen}
use Rattle.qz_driver.proofs.RunModeLemmas.{run_with}
use Rattle.qz_driver.proofs.run_program.run_program.Goals as goal

pub returns-in-Ok : goal.returns-in-Ok
returns-in-Ok g c =
    let old : FilesSeen = files_seen g.F.Files c.args.files.now in
    let new : FilesSeen = files_seen g.F.Files c.inputs_got.new.files in
    run_with c.args.name.now c.args.program old new c.in-Ok.inputs c.output_given.result c.in-Ok.ensures.found c.in-Ok.ensures.stays c.output_given.ensures
