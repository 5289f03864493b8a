use Rattle.std.proofs.Common.{◌≡◌, [], Result, Ok, Err, IfOk, subst, sym}
use Rattle.qz_syntax.specs.declared.modules.Module.{Module}
use Rattle.qz_syntax.specs.declared.modules.Typed.{Typed}
use Rattle.qz_syntax.specs.WellFormed.{IsWellFormed}
use Rattle.qz_types.specs.Orderly.{IsOrderly}
use Rattle.qz_program.specs.declared.causes.NoProgram.{NoProgram}
use Rattle.qz_program.specs.Programs.{IsAlone}
use Rattle.qz_program.proofs.ProgramLemmas.{well_formed}
use Rattle.qz_program.proofs.program.module_of.Goals as goal

where_alone : (t : Typed) (r : Result Module NoProgram) → IsOrderly t → IfOk r (λ m. IsAlone t × (m ≡ t.module)) → IfOk r (IsWellFormed [])
where_alone t (Ok m) orderly found = subst (IsWellFormed []) (sym found.1) (well_formed t orderly found.0.alone)
where_alone t (Err why) orderly found = tt

pub returns-in-Ok-clause-well_formed : goal.returns-in-Ok-clause-well_formed
returns-in-Ok-clause-well_formed c = where_alone c.in-Ok.typed c.alone.result c.in-Ok.ensures.orderly c.alone.ensures.found
