use Rattle.std.proofs.Common.{subst}
use Rattle.qz_driver.specs.Answers.{FilesSeen, files_seen}
use Rattle.qz_driver.specs.Work.{content_of}
use Rattle.qz_driver.specs.Simulating.{IsSimulated}
use Rattle.qz_driver.proofs.SimLemmas.{text_ungot, text_stops, simulated}
use Rattle.qz_driver.proofs.simulate.simulate.Goals as goal

pub returns-in-Err : goal.returns-in-Err
returns-in-Err g c =
    let old : FilesSeen = files_seen g.F.Files c.args.files.now in
    let new : FilesSeen = files_seen g.F.Files c.content.new.files in
    text_ungot c.args.asked.name.now c.args.asked.file.now old new c.in-Err.stop c.in-Err.ensures.ungot

pub returns-in-Ok-circuit : goal.returns-in-Ok-circuit
returns-in-Ok-circuit g c =
    let old : FilesSeen = files_seen g.F.Files c.args.files.now in
    let new : FilesSeen = files_seen g.F.Files c.simulate_circuit.new.files in
    let got = c.in-Ok in
    let m = c.in-Ok-circuit.circuit in
    simulated c.args.asked.name.now c.args.asked.file.now old new (content_of got.got) m c.simulate_circuit.result got.ensures.found c.in-Ok-circuit.ensures
    (subst (λ (files : FilesSeen). IsSimulated c.args.asked.name.now m files new c.simulate_circuit.result) got.ensures.stays c.simulate_circuit.ensures)

pub returns : goal.returns
returns g c =
    let old : FilesSeen = files_seen g.F.Files c.args.files.now in
    let new : FilesSeen = files_seen g.F.Files c.content.new.files in
    let got = c.in-Ok in
    text_stops c.args.asked.name.now c.args.asked.file.now old new (content_of got.got) c.in-Err-circuit.stop got.ensures.found got.ensures.stays c.in-Err-circuit.ensures
