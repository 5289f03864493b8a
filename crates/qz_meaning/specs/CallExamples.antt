-- A callee's body that was put in for a call, and a call as the module that makes it sees it.
use Rattle.std.specs.Prelude.{◌≡◌, List, [], ◌∷◌, None}
use Rattle.qz_values.specs.declared.Ty.TheVariants as ty
use Rattle.qz_values.specs.declared.Op1.TheVariants.{Not}
use Rattle.qz_values.specs.declared.Know.TheVariants.{Known}
use Rattle.qz_values.specs.Values.{yes, no}
use Rattle.qz_syntax.specs.declared.expressions.Var.TheVariants as var
use Rattle.qz_syntax.specs.declared.expressions.Expr.TheVariants as expr
use Rattle.qz_syntax.specs.declared.statements.Arg.TheVariants as arg
use Rattle.qz_syntax.specs.declared.statements.Stmt.{Stmt}
use Rattle.qz_syntax.specs.declared.statements.Stmt.TheVariants as stmt
use Rattle.qz_syntax.specs.declared.places.Mark.{Mark}
use Rattle.qz_syntax.specs.declared.places.Mark.TheVariants as mark
use Rattle.qz_syntax.specs.declared.places.Place.TheVariants as place
use Rattle.qz_syntax.specs.declared.places.Residual.{Residual}
use Rattle.qz_syntax.specs.declared.places.Residual.TheVariants as residual
use Rattle.qz_meaning.specs.Instances.{local_instance}
use Rattle.qz_meaning.specs.Scenes.{Scene, root, default_store}
use Rattle.qz_meaning.specs.Behaviors.{Behavior}
use Rattle.qz_meaning.specs.Calls.{Output, Passed, Answers}
use Rattle.qz_meaning.specs.Landings.{Deed, Starts, Resumes, Spot, Keeps, Enters, Stays, open_walk}
use Rattle.qz_meaning.specs.Programs.{Program}
use Rattle.qz_meaning.specs.Configurations.{Configuration, initial}
use Rattle.qz_meaning.specs.MacroSteps.{IsStep}
use Rattle.qz_meaning.specs.Examples.{event_input, event_output, always, formal, emit, program}

-- `pause; if(x) emit y;`, the body of a callee of which the call has `!a` for the input `x`, and `o` for the output `y`
abbrev pub calling : Program
calling = program (event_input ∷ event_output ∷ []) [] (None ∷ []) 0
    (stmt.Bind (record { number = 0; value = expr.Un Not (formal 0) } ∷ [])
    (stmt.Seq (stmt.Pause 0 ∷ stmt.If (expr.Var (var.Bound 0)) (emit 1) stmt.Nothing ∷ [])))

-- control rests in the callee's body, without a level for the call
abbrev pub in_callee : Configuration
in_callee = record { place = place.Rest (residual.InSeq 0 (residual.At 0)); outputs = default_store ty.Bool ∷ [] }

-- `o` alone is left
abbrev pub after_callee : Configuration
after_callee = record { place = place.Ended; outputs = default_store ty.Bool ∷ [] }

-- the argument is evaluated in the step in which the callee reads its input
pub record ReadsAnew : Type 0 where
  pub first : IsStep calling (initial calling) (yes ∷ []) (no ∷ []) in_callee
  pub second : IsStep calling in_callee (no ∷ []) (yes ∷ []) after_callee

-- `loop { event x; call(x); }`, of which the callee has one output
abbrev pub lending : Stmt
lending = stmt.Loop 0 (stmt.Scope (0 ∷ []) (stmt.Call 0 0 (arg.Out (var.Local 0) ∷ []))) always

-- the call doesn't end at once, and ends when it is resumed
abbrev pub answers : Answers
answers = record { ends_at_once = λ number m. Known no; ends = λ number. Known yes }

-- what the body does, whatever is known
abbrev pub lent : Scene → Behavior Deed (List Spot)
lent scene = open_walk scene answers lending

-- the call, with the instance of `x` that has this mark
abbrev pub passing_x : Mark → Passed
passing_x m = record { call = 0; arguments = Output (local_instance 0 m) ∷ [] }

-- control rests in the call
abbrev pub in_call : Residual
in_call = residual.InBody (residual.InScope (default_store ty.Bool ∷ []) (residual.InCall 0))

-- the call is resumed with the `x` that is kept; the loop's turn starts it with the new one, by which the scope is
-- entered then; where the step is held back it stays in the kept one
pub record LendsItsLocal : Type 0 where
  pub started : (scene : Scene) → (lent scene).start root (Known yes) mark.Zero ≡ Starts (passing_x mark.Zero) (Known yes) mark.Zero ∷ []
  pub resumed : (scene : Scene) → (lent scene).resume root in_call (Known yes)
      ≡ Resumes (passing_x mark.Zero) (Known yes) ∷ Starts (passing_x (mark.Loop 0)) (Known yes) (mark.Loop 0) ∷ []
  pub turned : (scene : Scene) → (lent scene).after root in_call
      ≡ Enters (passing_x (mark.Loop 0)) (mark.Loop 0) ∷ Keeps (local_instance 0 (mark.Loop 0)) ∷ []
  pub stayed : (scene : Scene) → (lent scene).kept in_call ≡ Stays 0 ∷ Keeps (local_instance 0 mark.Zero) ∷ []
