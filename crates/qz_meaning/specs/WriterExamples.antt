-- What writers come to in small programs: a delayed value, a variable that waits for itself, a contradiction.
use Rattle.std.specs.Prelude.{◌≡◌, true, false, List, [], ◌∷◌, None}
use Rattle.qz_values.specs.declared.Value.{Value}
use Rattle.qz_values.specs.declared.Know.TheVariants.{Unknown, Known, Clash}
use Rattle.qz_syntax.specs.declared.expressions.Var.TheVariants as var
use Rattle.qz_syntax.specs.declared.expressions.Expr.TheVariants as expr
use Rattle.qz_syntax.specs.declared.statements.Stmt.TheVariants as stmt
use Rattle.qz_syntax.specs.declared.places.Later.TheVariants as later
use Rattle.qz_syntax.specs.declared.places.Place.TheVariants as place
use Rattle.qz_syntax.specs.declared.places.Residual.TheVariants as residual
use Rattle.qz_meaning.specs.Instances.{formal_instance}
use Rattle.qz_meaning.specs.Programs.{Program}
use Rattle.qz_meaning.specs.Configurations.{Configuration, initial}
use Rattle.qz_meaning.specs.Rounds.{round, IsLast, IsDefinite}
use Rattle.qz_meaning.specs.MacroSteps.{IsStep}
use Rattle.qz_meaning.specs.Examples.{event_output, byte_output, byte, formal, emit, program}

-- `next(x) = 8'd1; pause;`
abbrev pub delaying : Program
delaying = program (byte_output ∷ []) [] (None ∷ []) 0
    (stmt.Seq (stmt.Delayed (var.Formal 0) (expr.Lit (byte 1)) ∷ stmt.Pause 0 ∷ []))

-- control rests at the pause, and 1 is the delayed value of `x`
abbrev pub with_delayed : Configuration
with_delayed = record {
  place = place.Rest (residual.InSeq 1 (residual.At 0));
  outputs = record { value = byte 1; pending = true } ∷ [];
}

-- the program has ended, and `x` keeps 1
abbrev pub with_kept : Configuration
with_kept = record { place = place.Ended; outputs = record { value = byte 1; pending = false } ∷ [] }

-- `x` has the delayed value in the step after the assignment, and keeps it
pub record TakesDelayed : Type 0 where
  pub first : IsStep delaying (initial delaying) [] (byte 0 ∷ []) with_delayed
  pub second : IsStep delaying with_delayed [] (byte 1 ∷ []) with_kept
  pub third : IsStep delaying with_kept [] (byte 1 ∷ []) with_kept

-- `if(x) emit x;`
abbrev pub waiting : Program
waiting = program (event_output ∷ []) [] [] 0 (stmt.If (formal 0) (emit 0) stmt.Nothing)

-- after round 1 nothing changes and `x` is unknown, so its first configuration isn't definite
pub record WaitsForItself : Type 0 where
  pub last : IsLast waiting (initial waiting) [] 1
  pub is_unknown : (round waiting (initial waiting) [] 1).now (formal_instance 0) ≡ Unknown
  pub indefinite : ¬ IsDefinite waiting (initial waiting) []

-- `x = 8'd3; || x = 8'd4;`
abbrev pub contradicting : Program
contradicting = program (byte_output ∷ []) [] [] 0
    (stmt.Par (stmt.Assign (var.Formal 0) (expr.Lit (byte 3)) ∷ stmt.Assign (var.Formal 0) (expr.Lit (byte 4)) ∷ []))

-- after round 1 nothing changes, and the two writers contradict each other
pub record Contradicts : Type 0 where
  pub last : IsLast contradicting (initial contradicting) [] 1
  pub clashes : (round contradicting (initial contradicting) [] 1).now (formal_instance 0) ≡ Clash

-- `next(x) = 8'd1; pause; x = 8'd2;`
abbrev pub overtaken : Program
overtaken = program (byte_output ∷ []) [] (None ∷ []) 0
    (stmt.Seq
    (stmt.Delayed (var.Formal 0) (expr.Lit (byte 1))
    ∷ stmt.Pause 0
    ∷ stmt.Assign (var.Formal 0) (expr.Lit (byte 2))
    ∷ []))

-- the pending value is one more writer, which the present one contradicts, so there is no second step
pub record PendingClashes : Type 0 where
  pub first : IsStep overtaken (initial overtaken) [] (byte 0 ∷ []) with_delayed
  pub last : IsLast overtaken with_delayed [] 1
  pub clashes : (round overtaken with_delayed [] 1).now (formal_instance 0) ≡ Clash
  pub no_step : (outputs : List Value) (next : Configuration) → ¬ IsStep overtaken with_delayed [] outputs next

-- `next(x) = 8'd1; || next(x) = 8'd2;`
abbrev pub delaying_twice : Program
delaying_twice = program (byte_output ∷ []) [] [] 0
    (stmt.Par (stmt.Delayed (var.Formal 0) (expr.Lit (byte 1)) ∷ stmt.Delayed (var.Formal 0) (expr.Lit (byte 2)) ∷ []))

-- `x` is known, but what is delayed for it isn't, so there is no step
pub record DelayedClashes : Type 0 where
  pub last : IsLast delaying_twice (initial delaying_twice) [] 1
  pub now : (round delaying_twice (initial delaying_twice) [] 1).now (formal_instance 0) ≡ Known (byte 0)
  pub clashes : (round delaying_twice (initial delaying_twice) [] 1).later (formal_instance 0) ≡ later.Clash
  pub no_step : (outputs : List Value) (next : Configuration) → ¬ IsStep delaying_twice (initial delaying_twice) [] outputs next
