use Rattle.std.proofs.Common.{refl}
use Rattle.qz_driver.specs.Rows.{Row}
use Rattle.qz_driver.specs.Answers.{Seen, seen, files_seen}
use Rattle.qz_driver.specs.RunRow.{run_row}
use Rattle.qz_driver.proofs.AnswerLemmas.{answered}
use Rattle.qz_driver.proofs.call.run_steps.Goals as goal

pub returns-clause-answers : goal.returns-clause-answers
returns-clause-answers g c =
    let row : Row = run_row c.args.asked.name.now c.args.asked.file.now in
    let old : Seen = seen g.F.Files g.O.Sink c.args.files.now c.args.out.now in
    let new : Seen = seen g.F.Files g.O.Sink c.end.new.files c.end.new.out in
    (answered row refl old new (files_seen g.F.Files c.run-work.new.files) c.run-work.result c.end.result c.run-work.ensures c.end.ensures).is

pub returns-clause-complete : goal.returns-clause-complete
returns-clause-complete g c =
    let row : Row = run_row c.args.asked.name.now c.args.asked.file.now in
    let old : Seen = seen g.F.Files g.O.Sink c.args.files.now c.args.out.now in
    let new : Seen = seen g.F.Files g.O.Sink c.end.new.files c.end.new.out in
    (answered row refl old new (files_seen g.F.Files c.run-work.new.files) c.run-work.result c.end.result c.run-work.ensures c.end.ensures).complete
