use Rattle.std.proofs.Common.{ap, sym, subst, ◌∙◌}
use Rattle.qz_syntax.specs.declared.modules.Whole.{Whole}
use Rattle.qz_meaning.specs.Programs.{program_of}
use Rattle.qz_run.specs.Inputs.{IsInputTrace}
use Rattle.qz_driver.specs.RunRow.{types_in}
use Rattle.qz_driver.proofs.run_program.outputs_of.Goals as goal

pub outputs_from-requires-clause-types : goal.outputs_from-requires-clause-types
outputs_from-requires-clause-types c = c.requires.types ∙ ap types_in (sym c.in-Ok.ensures.program)

pub outputs_from-requires-clause-rows : goal.outputs_from-requires-clause-rows
outputs_from-requires-clause-rows c =
    subst (λ (w : Whole). IsInputTrace (program_of w.module) c.args.rows.now) (sym c.in-Ok.ensures.program) c.requires.rows
