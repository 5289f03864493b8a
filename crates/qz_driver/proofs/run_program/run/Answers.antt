use Rattle.std.proofs.Common.{subst}
use Rattle.qz_driver.specs.Answers.{FilesSeen, files_seen}
use Rattle.qz_driver.specs.Work.{content_of}
use Rattle.qz_driver.specs.Running.{IsRunning}
use Rattle.qz_driver.proofs.RunModeLemmas.{source_ungot, source_stops, running}
use Rattle.qz_driver.proofs.run_program.run.Goals as goal

pub returns-in-Err : goal.returns-in-Err
returns-in-Err g c =
    let old : FilesSeen = files_seen g.F.Files c.args.files.now in
    let new : FilesSeen = files_seen g.F.Files c.content.new.files in
    source_ungot c.args.asked.name.now c.args.asked.file.now old new c.in-Err.stop c.in-Err.ensures.ungot

pub returns-in-Ok-program_in : goal.returns-in-Ok-program_in
returns-in-Ok-program_in g c =
    let old : FilesSeen = files_seen g.F.Files c.args.files.now in
    let new : FilesSeen = files_seen g.F.Files c.run_program.new.files in
    let got = c.in-Ok in
    let w = c.in-Ok-program_in.program in
    running c.args.asked.name.now c.args.asked.file.now old new (content_of got.got) w c.run_program.result got.ensures.found c.in-Ok-program_in.ensures
    (subst (λ (files : FilesSeen). IsRunning c.args.asked.name.now w files new c.run_program.result) got.ensures.stays c.run_program.ensures)

pub returns : goal.returns
returns g c =
    let old : FilesSeen = files_seen g.F.Files c.args.files.now in
    let new : FilesSeen = files_seen g.F.Files c.content.new.files in
    let got = c.in-Ok in
    source_stops c.args.asked.name.now c.args.asked.file.now old new (content_of got.got) c.in-Err-program_in.stop got.ensures.found got.ensures.stays c.in-Err-program_in.ensures
