use Rattle.std.proofs.Common.{◌≡◌, ℕ, List, Result, Ok, Err, IfOk}
use Rattle.std.specs.Prelude.{OnOk}
use Rattle.qz_syntax.specs.declared.files.File.{File}
use Rattle.qz_syntax.specs.declared.modules.Whole.{Whole}
use Rattle.qz_source.specs.Sources.{IsSource}
use Rattle.qz_source.specs.OneAnswer.{HasOneAnswer}
use Rattle.qz_program.specs.declared.causes.NoProgram.{NoProgram}
use Rattle.qz_program.specs.declared.causes.NoProgram.TheVariants.{Memory}
use Rattle.qz_program.specs.Programs.{IsOf, IsProgramOf}
use Rattle.qz_program.specs.Causes.{StandsAgainst}
use Rattle.qz_program.proofs.ProgramLemmas.{no_other, no_cause}
use Rattle.qz_program.proofs.program.program_of_bytes.Goals as goal

module _ (name bytes : List ℕ) (f : File) (source : IsSource bytes f) (only : (other : File) → IsSource bytes other → other ≡ f) where
  where_found : (r : Result Whole NoProgram) → IfOk r (IsOf name f) → IfOk r (λ w. (other : Whole) → IsProgramOf name bytes other → other ≡ w)
  where_found (Ok w) is = no_other name bytes f source only w is
  where_found (Err why) is = tt

  where_clear : HasOneAnswer bytes → (r : Result Whole NoProgram) → IfOk r (IsOf name f)
      → OnOk r ((why : NoProgram) → StandsAgainst name bytes why → why ≡ Memory)
  where_clear one (Ok w) is = no_cause name bytes f source only w is one
  where_clear one (Err why) is = tt

pub returns-in-Ok-clause-only : goal.returns-in-Ok-clause-only
returns-in-Ok-clause-only c =
    where_found c.args.name.now c.args.bytes.now c.in-Ok.file c.in-Ok.ensures.found c.in-Ok.ensures.only c.program_of_file.result c.program_of_file.ensures.found

pub returns-in-Ok-clause-clear : goal.returns-in-Ok-clause-clear
returns-in-Ok-clause-clear c =
    where_clear c.args.name.now c.args.bytes.now c.in-Ok.file c.in-Ok.ensures.found c.in-Ok.ensures.only (c.one_answer.ensures c.args.bytes.now)
    c.program_of_file.result c.program_of_file.ensures.found
