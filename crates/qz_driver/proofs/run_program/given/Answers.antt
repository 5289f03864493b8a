use Rattle.std.proofs.Common.{◌∙◌}
use Rattle.qz_run.proofs.FormalLemmas.{inputs_typed}
use Rattle.qz_driver.proofs.run_program.given.Goals as goal

pub inputs_in-requires-clause-types : goal.inputs_in-requires-clause-types
inputs_in-requires-clause-types c =
    inputs_typed c.args.root.now c.as_slice.result.now c.requires.well_formed (c.as_slice.ensures.value ∙ c.in_ok-types.ensures)
