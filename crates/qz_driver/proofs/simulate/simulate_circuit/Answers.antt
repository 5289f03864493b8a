use Rattle.std.proofs.Common.{◌∙◌}
use Rattle.qz_driver.specs.Answers.{FilesSeen, files_seen}
use Rattle.qz_driver.specs.Work.{content_of}
use Rattle.qz_driver.proofs.SimLemmas.{outputs_made}
use Rattle.qz_driver.proofs.simulate.simulate_circuit.Goals as goal

pub returns-in_ok-outputs_text-in-Ok-inputs_of : goal.returns-in_ok-outputs_text-in-Ok-inputs_of
returns-in_ok-outputs_text-in-Ok-inputs_of g c =
    let old : FilesSeen = files_seen g.F.Files c.args.files.now in
    let new : FilesSeen = files_seen g.F.Files c.content.new.files in
    let got = c.in-Ok in
    let text = c.in_ok-outputs_text-in-Ok-inputs_of in
    outputs_made c.args.name.now c.args.circuit old new c.as_str.result.now (content_of got.got) c.in-Ok-inputs_of.trace text.field-0.items c.output_file.result
    (c.as_str.ensures.value ∙ c.in_ok-input.ensures.ok) got.ensures.found got.ensures.stays c.in-Ok-inputs_of.ensures text.ensures
    c.output_file.ensures.name c.output_file.ensures.bytes c.output_file.ensures.err
