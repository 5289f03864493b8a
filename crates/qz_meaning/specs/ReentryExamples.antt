-- Scopes that are left and entered again: at a hold place, and by an inner and an outer loop.
use Rattle.std.specs.Prelude.{◌≡◌, true, false, List, [], ◌∷◌, Some, None, map}
use Rattle.qz_values.specs.declared.Value.{Value}
use Rattle.qz_values.specs.Values.{yes, no}
use Rattle.qz_syntax.specs.declared.expressions.Expr.TheVariants as expr
use Rattle.qz_syntax.specs.declared.expressions.Var.TheVariants as var
use Rattle.qz_syntax.specs.declared.statements.Stmt.{Stmt}
use Rattle.qz_syntax.specs.declared.statements.Stmt.TheVariants as stmt
use Rattle.qz_syntax.specs.declared.places.Mark.TheVariants as mark
use Rattle.qz_syntax.specs.declared.places.Place.TheVariants as place
use Rattle.qz_syntax.specs.declared.places.Store.{Store}
use Rattle.qz_syntax.specs.declared.places.Residual.{Residual}
use Rattle.qz_syntax.specs.declared.places.Residual.TheVariants as residual
use Rattle.qz_meaning.specs.Instances.{Instance, formal_instance, local_instance}
use Rattle.qz_meaning.specs.Scenes.{Scene, root}
use Rattle.qz_meaning.specs.Layouts.{Met}
use Rattle.qz_meaning.specs.Walks.{behavior}
use Rattle.qz_meaning.specs.Residing.{no_calls}
use Rattle.qz_meaning.specs.Landings.{Spot, At, Keeps, landing}
use Rattle.qz_meaning.specs.Programs.{Program}
use Rattle.qz_meaning.specs.Configurations.{Configuration, initial}
use Rattle.qz_meaning.specs.Settling.{step_met}
use Rattle.qz_meaning.specs.MacroSteps.{IsStep}
use Rattle.qz_meaning.specs.Examples.{event_input, byte_output, byte, formal, always, with_true, program}
use Rattle.qz_meaning.specs.ScopeExamples.{byte_local}

-- the store of a value that stays, and of one that is delayed
abbrev pub staying : Value → Store
staying v = record { value = v; pending = false }

abbrev pub delayed : Value → Store
delayed v = record { value = v; pending = true }

-- `loop weak immediate suspend { mem bv[8] x; y = x; next(x) = 8'd5; pause; } when(c);`
abbrev pub weakly_held : Program
weakly_held = program (event_input ∷ byte_output ∷ []) (byte_local ∷ []) (None ∷ None ∷ []) 1
    (stmt.Loop 0
    (stmt.Suspend (record { weak = true; immediate = true }) (Some 0)
    (stmt.Scope (0 ∷ [])
    (stmt.Seq
    (stmt.Assign (var.Formal 1) (expr.Var (var.Local 0))
    ∷ stmt.Delayed (var.Local 0) (expr.Lit (byte 5))
    ∷ stmt.Pause 1
    ∷ [])))
    (formal 0))
    always)

-- `y` keeps 0, and control rests so
abbrev pub held_in : Residual → Configuration
held_in r = record { place = place.Rest r; outputs = staying (byte 0) ∷ [] }

-- control rests at the hold place, or at the pause with this store for `x`
abbrev pub at_hold : Residual
at_hold = residual.InBody (residual.Hold 0)

abbrev pub at_pause : Store → Residual
at_pause x = residual.InBody (residual.InBody (residual.InScope (x ∷ []) (residual.InSeq 2 (residual.At 1))))

-- While `c` holds at the start the body acts, but its scope isn't entered: the 5 is gone, and `y` is 0 again. Once
-- it is entered a step that is held back takes the delayed value and keeps it, and the loop's turn leaves that `x`
-- and enters a new one.
pub record SuspendsWeakly : Type 0 where
  pub acts : IsStep weakly_held (initial weakly_held) (yes ∷ []) (byte 0 ∷ []) (held_in at_hold)
  pub acts_again : IsStep weakly_held (held_in at_hold) (yes ∷ []) (byte 0 ∷ []) (held_in at_hold)
  pub enters : IsStep weakly_held (held_in at_hold) (no ∷ []) (byte 0 ∷ []) (held_in (at_pause (delayed (byte 5))))
  pub stays : IsStep weakly_held (held_in (at_pause (delayed (byte 5)))) (yes ∷ []) (byte 0 ∷ []) (held_in (at_pause (staying (byte 5))))
  pub turns : IsStep weakly_held (held_in (at_pause (staying (byte 5)))) (no ∷ []) (byte 0 ∷ []) (held_in (at_pause (delayed (byte 5))))

-- `loop do { mem bv[8] x; next(x) = 8'd5; pause; } while(a);`
abbrev pub twice_looped : Stmt
twice_looped =
    stmt.Loop 0
    (stmt.Loop 1 (stmt.Scope (0 ∷ []) (stmt.Seq (stmt.Delayed (var.Local 0) (expr.Lit (byte 5)) ∷ stmt.Pause 0 ∷ []))) (formal 0))
    always

abbrev pub in_two_loops : Program
in_two_loops = program (event_input ∷ []) (byte_local ∷ []) (None ∷ []) 2 twice_looped

-- control rests at the pause, with this store for `x`
abbrev pub inside_loops : Store → Residual
inside_loops x = residual.InBody (residual.InBody (residual.InScope (x ∷ []) (residual.InSeq 1 (residual.At 0))))

abbrev pub looping_with : Store → Configuration
looping_with x = record { place = place.Rest (inside_loops x); outputs = [] }

-- the `x` that is kept, and those that the turns of the inner and of the outer loop enter
abbrev pub kept_x : Instance
kept_x = local_instance 0 mark.Zero

abbrev pub inner_x : Instance
inner_x = local_instance 0 (mark.Loop 1)

abbrev pub outer_x : Instance
outer_x = local_instance 0 (mark.Loop 0)

-- where control goes, by what is known
abbrev pub spots_after : Scene → Store → List Spot
spots_after scene x = (behavior scene landing (no_calls landing) twice_looped).after root (inside_loops x)

-- all three are met in each step from the pause; where `a` holds the inner loop turns, else it ends and the outer
-- one does, and each enters by its own instance
pub record EntersByEach : Type 0 where
  pub met : map (λ (one : Met). one.instance) (step_met in_two_loops (looping_with (delayed (byte 5)))) ≡ kept_x ∷ inner_x ∷ outer_x ∷ []
  pub inner : spots_after (with_true (formal_instance 0 ∷ [])).now (delayed (byte 5)) ≡ At 0 ∷ Keeps inner_x ∷ []
  pub outer : spots_after (with_true []).now (delayed (byte 5)) ≡ At 0 ∷ Keeps outer_x ∷ []
  pub turns_inner : IsStep in_two_loops (looping_with (delayed (byte 5))) (yes ∷ []) [] (looping_with (delayed (byte 5)))
  pub turns_outer : IsStep in_two_loops (looping_with (delayed (byte 5))) (no ∷ []) [] (looping_with (delayed (byte 5)))
