-- Scopes in small programs: left and entered again in one step, suspended, and inside two loops.
use Rattle.std.specs.Prelude.{ℕ, ◌≡◌, true, false, [], ◌∷◌, None, map}
use Rattle.qz_values.specs.declared.Ty.TheVariants as ty
use Rattle.qz_values.specs.declared.Value.{Value}
use Rattle.qz_values.specs.declared.Know.TheVariants.{Known}
use Rattle.qz_values.specs.Values.{yes, no}
use Rattle.qz_syntax.specs.declared.declarations.Class.TheVariants.{Event, Mem}
use Rattle.qz_syntax.specs.declared.declarations.Decl.{Decl}
use Rattle.qz_syntax.specs.declared.expressions.Var.TheVariants as var
use Rattle.qz_syntax.specs.declared.expressions.Expr.TheVariants as expr
use Rattle.qz_syntax.specs.declared.statements.Stmt.TheVariants as stmt
use Rattle.qz_syntax.specs.declared.places.Mark.TheVariants as mark
use Rattle.qz_syntax.specs.declared.places.Place.TheVariants as place
use Rattle.qz_syntax.specs.declared.places.Store.{Store}
use Rattle.qz_syntax.specs.declared.places.Residual.{Residual}
use Rattle.qz_syntax.specs.declared.places.Residual.TheVariants as residual
use Rattle.qz_meaning.specs.Instances.{Instance, formal_instance, local_instance}
use Rattle.qz_meaning.specs.Scenes.{default_store}
use Rattle.qz_meaning.specs.Layouts.{Met}
use Rattle.qz_meaning.specs.Programs.{Program}
use Rattle.qz_meaning.specs.Configurations.{Configuration, initial}
use Rattle.qz_meaning.specs.Settling.{Environment, step_met}
use Rattle.qz_meaning.specs.MacroSteps.{IsSolution, IsStep, next_configuration}
use Rattle.qz_meaning.specs.Examples.{event_input, event_output, byte_output, byte, formal, always, emit, with_true, program}

-- `event x`
abbrev pub event_local : Decl
event_local = record { class = Event; ty = ty.Bool; name = [] }

-- `loop { event x; if(x) emit o; pause; emit x; }`
abbrev pub entered_again : Program
entered_again = program (event_output ∷ []) (event_local ∷ []) (None ∷ []) 1
    (stmt.Loop 0
    (stmt.Scope (0 ∷ [])
    (stmt.Seq
    (stmt.If (expr.Var (var.Local 0)) (emit 0) stmt.Nothing
    ∷ stmt.Pause 0
    ∷ stmt.Assign (var.Local 0) always
    ∷ [])))
    always)

-- control rests at the pause, with a new store for `x`
abbrev pub in_scope : Configuration
in_scope = record {
  place = place.Rest (residual.InBody (residual.InScope (default_store ty.Bool ∷ []) (residual.InSeq 1 (residual.At 0))));
  outputs = default_store ty.Bool ∷ [];
}

-- the `x` of the scope that is left
abbrev pub left_x : Instance
left_x = local_instance 0 mark.Zero

-- the `x` of the scope that the loop's turn enters
abbrev pub entered_x : Instance
entered_x = local_instance 0 (mark.Loop 0)

-- the values of the step from the pause: `x` is emitted in the scope that is left
abbrev pub at_turn : Environment
at_turn = with_true (left_x ∷ [])

-- it comes to the pause in its first step, and from there again, where both instances are met: the one that is
-- left is true, the one that is entered isn't, so `o` isn't emitted
pub record EntersAgain : Type 0 where
  pub ordered : entered_again.instances ≡ formal_instance 0 ∷ left_x ∷ entered_x ∷ []
  pub first : IsStep entered_again (initial entered_again) [] (no ∷ []) in_scope
  pub met : map (λ (one : Met). one.instance) (step_met entered_again in_scope) ≡ formal_instance 0 ∷ left_x ∷ entered_x ∷ []
  pub solution : IsSolution entered_again in_scope [] at_turn
  pub next_is : next_configuration entered_again in_scope at_turn ≡ in_scope
  pub left : at_turn.now left_x ≡ Known yes
  pub entered : at_turn.now entered_x ≡ Known no
  pub output : at_turn.now (formal_instance 0) ≡ Known no

-- `loop { loop { event x; pause; } }`
abbrev pub inside_two_loops : Program
inside_two_loops = program [] (event_local ∷ []) (None ∷ []) 2
    (stmt.Loop 0 (stmt.Loop 1 (stmt.Scope (0 ∷ []) (stmt.Pause 0)) always) always)

-- a local's instances are those with mark zero, with the outer loop's mark and with the inner one's, in this order
abbrev pub HasThreeInstances : Type 0
HasThreeInstances =
    inside_two_loops.instances ≡ local_instance 0 mark.Zero ∷ local_instance 0 (mark.Loop 0) ∷ local_instance 0 (mark.Loop 1) ∷ []

-- `mem bv[8] x`
abbrev pub byte_local : Decl
byte_local = record { class = Mem; ty = ty.Bv 8; name = [] }

-- `suspend { mem bv[8] x; next(x) = 8'd5; pause; y = x; pause; } when(c);`
abbrev pub suspended : Program
suspended = program (event_input ∷ byte_output ∷ []) (byte_local ∷ []) (None ∷ None ∷ []) 0
    (stmt.Suspend (record { weak = false; immediate = false }) None
    (stmt.Scope (0 ∷ [])
    (stmt.Seq
    (stmt.Delayed (var.Local 0) (expr.Lit (byte 5))
    ∷ stmt.Pause 0
    ∷ stmt.Assign (var.Formal 1) (expr.Var (var.Local 0))
    ∷ stmt.Pause 1
    ∷ [])))
    (formal 0))

-- control rests in a member of the sequence, with this store for `x` and this value kept for `y`
abbrev pub in_suspended : Residual → ℕ → Store → Value → Configuration
in_suspended inside number x y = record {
  place = place.Rest (residual.InBody (residual.InScope (x ∷ []) (residual.InSeq number inside)));
  outputs = record { value = y; pending = false } ∷ [];
}

-- while it is suspended control stays, and `x` takes its delayed value, which its store then keeps
pub record CarriesStores : Type 0 where
  pub first : IsStep suspended (initial suspended) (no ∷ []) (byte 0 ∷ [])
      (in_suspended (residual.At 0) 1 (record { value = byte 5; pending = true }) (byte 0))
  pub held : IsStep suspended (in_suspended (residual.At 0) 1 (record { value = byte 5; pending = true }) (byte 0)) (yes ∷ [])
      (byte 0 ∷ [])
      (in_suspended (residual.At 0) 1 (record { value = byte 5; pending = false }) (byte 0))
  pub resumed : IsStep suspended (in_suspended (residual.At 0) 1 (record { value = byte 5; pending = false }) (byte 0)) (no ∷ [])
      (byte 5 ∷ [])
      (in_suspended (residual.At 1) 3 (record { value = byte 5; pending = false }) (byte 5))
