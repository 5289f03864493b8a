use Rattle.std.proofs.Common.{◌≡◌, ap, ◌∙◌}
use Rattle.qz_driver.specs.declared.words.Request.{Request}
use Rattle.qz_driver.specs.declared.status.Status.TheVariants as status
use Rattle.qz_driver.specs.Commands.{request_in}
use Rattle.qz_driver.specs.Modes.{asked, asked_by, row_of}
use Rattle.qz_driver.specs.Rows.{Row, Asks}
use Rattle.qz_driver.specs.Answers.{Seen, seen}
use Rattle.qz_driver.specs.BuildRow.{build_row}
use Rattle.qz_driver.specs.RunRow.{run_row}
use Rattle.qz_driver.specs.SimRow.{sim_row}
use Rattle.qz_driver.proofs.AnswerLemmas.{by_status, by_asking}
use Rattle.qz_driver.proofs.call.quartzc.Goals as goal

pub returns-in-Some-Build-clause-write_fault : goal.returns-in-Some-Build-clause-write_fault
returns-in-Some-Build-clause-write_fault g c =
    let named = c.in-Some-Build in
    let row : Row = build_row named.asked.name.now named.asked.file.now in
    let old : Seen = seen g.F.Files g.O.Sink c.args.files.now c.args.out.now in
    let new : Seen = seen g.F.Files g.O.Sink c.run_build.new.files c.run_build.new.out in
    let asks : asked c.args.words.now ≡ Asks row =
    ap asked_by named.ensures ∙ ap (λ (request : Request). Asks (row_of (request_in request))) named.field-0-is in
    λ same. by_status row (asked c.args.words.now) old new c.run_build.result status.WriteFault asks c.run_build.ensures.answers same

pub returns-in-Some-Build-clause-done : goal.returns-in-Some-Build-clause-done
returns-in-Some-Build-clause-done g c =
    let named = c.in-Some-Build in
    let row : Row = build_row named.asked.name.now named.asked.file.now in
    let old : Seen = seen g.F.Files g.O.Sink c.args.files.now c.args.out.now in
    let new : Seen = seen g.F.Files g.O.Sink c.run_build.new.files c.run_build.new.out in
    let asks : asked c.args.words.now ≡ Asks row =
    ap asked_by named.ensures ∙ ap (λ (request : Request). Asks (row_of (request_in request))) named.field-0-is in
    λ same. by_status row (asked c.args.words.now) old new c.run_build.result status.Done asks c.run_build.ensures.answers same

pub returns-in-Some-Simulate-clause-write_fault : goal.returns-in-Some-Simulate-clause-write_fault
returns-in-Some-Simulate-clause-write_fault g c =
    let named = c.in-Some-Simulate in
    let row : Row = sim_row named.asked.name.now named.asked.file.now in
    let old : Seen = seen g.F.Files g.O.Sink c.args.files.now c.args.out.now in
    let new : Seen = seen g.F.Files g.O.Sink c.run_simulation.new.files c.run_simulation.new.out in
    let asks : asked c.args.words.now ≡ Asks row =
    ap asked_by named.ensures ∙ ap (λ (request : Request). Asks (row_of (request_in request))) named.field-0-is in
    λ same. by_status row (asked c.args.words.now) old new c.run_simulation.result status.WriteFault asks c.run_simulation.ensures.answers same

pub returns-in-Some-Simulate-clause-done : goal.returns-in-Some-Simulate-clause-done
returns-in-Some-Simulate-clause-done g c =
    let named = c.in-Some-Simulate in
    let row : Row = sim_row named.asked.name.now named.asked.file.now in
    let old : Seen = seen g.F.Files g.O.Sink c.args.files.now c.args.out.now in
    let new : Seen = seen g.F.Files g.O.Sink c.run_simulation.new.files c.run_simulation.new.out in
    let asks : asked c.args.words.now ≡ Asks row =
    ap asked_by named.ensures ∙ ap (λ (request : Request). Asks (row_of (request_in request))) named.field-0-is in
    λ same. by_status row (asked c.args.words.now) old new c.run_simulation.result status.Done asks c.run_simulation.ensures.answers same

pub returns-in-Some-Simulate-clause-complete : goal.returns-in-Some-Simulate-clause-complete
returns-in-Some-Simulate-clause-complete g c =
    let named = c.in-Some-Simulate in
    let row : Row = sim_row named.asked.name.now named.asked.file.now in
    let old : Seen = seen g.F.Files g.O.Sink c.args.files.now c.args.out.now in
    let new : Seen = seen g.F.Files g.O.Sink c.run_simulation.new.files c.run_simulation.new.out in
    let asks : asked c.args.words.now ≡ Asks row =
    ap asked_by named.ensures ∙ ap (λ (request : Request). Asks (row_of (request_in request))) named.field-0-is in
    by_asking row (asked c.args.words.now) old new c.run_simulation.result asks c.run_simulation.ensures.complete

pub returns-in-Some-Run-clause-write_fault : goal.returns-in-Some-Run-clause-write_fault
returns-in-Some-Run-clause-write_fault g c =
    let named = c.in-Some-Run in
    let row : Row = run_row named.asked.name.now named.asked.file.now in
    let old : Seen = seen g.F.Files g.O.Sink c.args.files.now c.args.out.now in
    let new : Seen = seen g.F.Files g.O.Sink c.run_steps.new.files c.run_steps.new.out in
    let asks : asked c.args.words.now ≡ Asks row =
    ap asked_by named.ensures ∙ ap (λ (request : Request). Asks (row_of (request_in request))) named.field-0-is in
    λ same. by_status row (asked c.args.words.now) old new c.run_steps.result status.WriteFault asks c.run_steps.ensures.answers same

pub returns-in-Some-Run-clause-done : goal.returns-in-Some-Run-clause-done
returns-in-Some-Run-clause-done g c =
    let named = c.in-Some-Run in
    let row : Row = run_row named.asked.name.now named.asked.file.now in
    let old : Seen = seen g.F.Files g.O.Sink c.args.files.now c.args.out.now in
    let new : Seen = seen g.F.Files g.O.Sink c.run_steps.new.files c.run_steps.new.out in
    let asks : asked c.args.words.now ≡ Asks row =
    ap asked_by named.ensures ∙ ap (λ (request : Request). Asks (row_of (request_in request))) named.field-0-is in
    λ same. by_status row (asked c.args.words.now) old new c.run_steps.result status.Done asks c.run_steps.ensures.answers same

pub returns-in-Some-Run-clause-complete : goal.returns-in-Some-Run-clause-complete
returns-in-Some-Run-clause-complete g c =
    let named = c.in-Some-Run in
    let row : Row = run_row named.asked.name.now named.asked.file.now in
    let old : Seen = seen g.F.Files g.O.Sink c.args.files.now c.args.out.now in
    let new : Seen = seen g.F.Files g.O.Sink c.run_steps.new.files c.run_steps.new.out in
    let asks : asked c.args.words.now ≡ Asks row =
    ap asked_by named.ensures ∙ ap (λ (request : Request). Asks (row_of (request_in request))) named.field-0-is in
    by_asking row (asked c.args.words.now) old new c.run_steps.result asks c.run_steps.ensures.complete
