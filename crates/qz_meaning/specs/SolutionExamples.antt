-- A program with two macro steps that have the same outputs and lead to the same configuration.
use Rattle.std.specs.Prelude.{◌≡◌, [], ◌∷◌}
use Rattle.qz_values.specs.Values.{no}
use Rattle.qz_syntax.specs.declared.expressions.Expr.TheVariants as expr
use Rattle.qz_syntax.specs.declared.expressions.Var.TheVariants as var
use Rattle.qz_syntax.specs.declared.statements.Stmt.TheVariants as stmt
use Rattle.qz_syntax.specs.declared.places.Mark.TheVariants as mark
use Rattle.qz_meaning.specs.Instances.{Instance, local_instance}
use Rattle.qz_meaning.specs.Programs.{Program}
use Rattle.qz_meaning.specs.Configurations.{initial}
use Rattle.qz_meaning.specs.Settling.{Environment}
use Rattle.qz_meaning.specs.MacroSteps.{IsSolution, HaveOneSolution, next_configuration}
use Rattle.qz_meaning.specs.Runs.{IsOnlyRun}
use Rattle.qz_meaning.specs.Examples.{event_input, always, with_true, program}
use Rattle.qz_meaning.specs.ScopeExamples.{event_local}

-- `event x; if(x) emit x;`, with an input
abbrev pub undecided : Program
undecided = program (event_input ∷ []) (event_local ∷ []) [] 0
    (stmt.Scope (0 ∷ []) (stmt.If (expr.Var (var.Local 0)) (stmt.Assign (var.Local 0) always) stmt.Nothing))

abbrev pub its_x : Instance
its_x = local_instance 0 mark.Zero

-- `x` isn't emitted, or it is
abbrev pub without_x : Environment
without_x = with_true []

abbrev pub with_x : Environment
with_x = with_true (its_x ∷ [])

-- both are solutions, so the program has two macro steps and not one run
pub record HasTwoSolutions : Type 0 where
  pub silent : IsSolution undecided (initial undecided) (no ∷ []) without_x
  pub emitted : IsSolution undecided (initial undecided) (no ∷ []) with_x
  pub alike : next_configuration undecided (initial undecided) without_x ≡ next_configuration undecided (initial undecided) with_x
  pub not_one : ¬ HaveOneSolution undecided (initial undecided) (no ∷ [])
  pub no_only_run : ¬ IsOnlyRun undecided ((no ∷ []) ∷ []) ([] ∷ [])
