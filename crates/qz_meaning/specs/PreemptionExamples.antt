-- Preemptions in small programs, step by step.
use Rattle.std.specs.Prelude.{Bool, true, false, List, [], ◌∷◌, Some, None}
use Rattle.qz_values.specs.declared.Ty.TheVariants as ty
use Rattle.qz_values.specs.declared.Value.{Value}
use Rattle.qz_values.specs.Values.{yes, no}
use Rattle.qz_syntax.specs.declared.statements.Stmt.TheVariants as stmt
use Rattle.qz_syntax.specs.declared.places.Place.TheVariants as place
use Rattle.qz_syntax.specs.declared.places.Residual.TheVariants as residual
use Rattle.qz_meaning.specs.Scenes.{default_store}
use Rattle.qz_meaning.specs.Programs.{Program}
use Rattle.qz_meaning.specs.Configurations.{Configuration, initial}
use Rattle.qz_meaning.specs.MacroSteps.{IsStep}
use Rattle.qz_meaning.specs.Examples.{event_input, event_output, formal, emit, program}

-- `abort { emit s; pause; emit d; pause; emit d; } when(a);`, or the same with `weak`
abbrev pub aborted : Bool → Program
aborted weak = program (event_input ∷ event_output ∷ event_output ∷ []) [] (None ∷ None ∷ []) 0
    (stmt.Abort (record { weak = weak; immediate = false })
    (stmt.Seq (emit 1 ∷ stmt.Pause 0 ∷ emit 2 ∷ stmt.Pause 1 ∷ emit 2 ∷ []))
    (formal 0))

-- control rests at the first pause
abbrev pub at_first_pause : Configuration
at_first_pause = record {
  place = place.Rest (residual.InBody (residual.InSeq 1 (residual.At 0)));
  outputs = default_store ty.Bool ∷ default_store ty.Bool ∷ [];
}

-- nothing is left of the program but its two outputs
abbrev pub is_over : Configuration
is_over = record { place = place.Ended; outputs = default_store ty.Bool ∷ default_store ty.Bool ∷ [] }

-- `s` is emitted at first; then `a` is true, the outputs are these, and the program has ended
pub record EndsInSecondStep (p : Program) (outputs : List Value) : Type 0 where
  pub first : IsStep p (initial p) (no ∷ []) (yes ∷ no ∷ []) at_first_pause
  pub second : IsStep p at_first_pause (yes ∷ []) outputs is_over
  pub third : IsStep p is_over (no ∷ []) (no ∷ no ∷ []) is_over

-- a strong abort doesn't emit `d` in the step in which it is left
abbrev pub AbortsStrongly : Type 0
AbortsStrongly = EndsInSecondStep (aborted false) (no ∷ no ∷ [])

-- a weak one still does
abbrev pub AbortsWeakly : Type 0
AbortsWeakly = EndsInSecondStep (aborted true) (no ∷ yes ∷ [])

-- `immediate abort { emit s; pause; } when(a); emit d;`, or the same with `weak`
abbrev pub left_at_once : Bool → Program
left_at_once weak = program (event_input ∷ event_output ∷ event_output ∷ []) [] (None ∷ []) 0
    (stmt.Seq
    (stmt.Abort (record { weak = weak; immediate = true }) (stmt.Seq (emit 1 ∷ stmt.Pause 0 ∷ [])) (formal 0)
    ∷ emit 2
    ∷ []))

-- a strong one that is left in its first step doesn't emit `s`; what follows it is started in that step
abbrev pub LeavesAtOnce : Type 0
LeavesAtOnce = IsStep (left_at_once false) (initial (left_at_once false)) (yes ∷ []) (no ∷ yes ∷ []) is_over

-- a weak one emits `s`, and doesn't enter the pause
abbrev pub LeavesAfterActing : Type 0
LeavesAfterActing = IsStep (left_at_once true) (initial (left_at_once true)) (yes ∷ []) (yes ∷ yes ∷ []) is_over

-- `immediate suspend { emit o; pause; } when(c);`
abbrev pub held_back : Program
held_back = program (event_input ∷ event_output ∷ []) [] (None ∷ None ∷ []) 0
    (stmt.Suspend (record { weak = false; immediate = true }) (Some 0) (stmt.Seq (emit 1 ∷ stmt.Pause 1 ∷ [])) (formal 0))

-- control rests at the hold place
abbrev pub at_hold_place : Configuration
at_hold_place = record { place = place.Rest (residual.Hold 0); outputs = default_store ty.Bool ∷ [] }

-- control rests at the pause
abbrev pub at_inner_pause : Configuration
at_inner_pause = record {
  place = place.Rest (residual.InBody (residual.InSeq 1 (residual.At 1)));
  outputs = default_store ty.Bool ∷ [];
}

-- while `c` is true control rests at the hold place; once it is false the body starts
pub record IsHeldBack : Type 0 where
  pub first : IsStep held_back (initial held_back) (yes ∷ []) (no ∷ []) at_hold_place
  pub second : IsStep held_back at_hold_place (yes ∷ []) (no ∷ []) at_hold_place
  pub third : IsStep held_back at_hold_place (no ∷ []) (yes ∷ []) at_inner_pause
