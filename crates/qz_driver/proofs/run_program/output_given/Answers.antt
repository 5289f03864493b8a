use Rattle.qz_driver.specs.Work.{content_of}
use Rattle.qz_driver.proofs.RunModeLemmas.{output_made}
use Rattle.qz_driver.proofs.run_program.output_given.Goals as goal
use Rattle.std.proofs.Common.{string_bytes}

pub returns-in-Ok : goal.returns-in-Ok
returns-in-Ok c =
    output_made c.args.name.now c.args.program (content_of c.args.inputs.got) (string_bytes c.args.inputs.name) c.in-Ok.text.items c.output_file.result
    c.in-Ok.ensures c.output_file.ensures.name c.output_file.ensures.bytes c.output_file.ensures.err
