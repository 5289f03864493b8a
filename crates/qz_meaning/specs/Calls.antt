-- Calls, as the module that makes them sees them, and callees' bodies put in for them.
use Rattle.std.specs.Prelude.{map, ℕ, ◌==◌, Bool, false, not, List, [], ◌∷◌, if◌then◌else◌}
use Rattle.qz_values.specs.declared.Know.{Know}
use Rattle.qz_values.specs.Knowledge.{knows_yes}
use Rattle.qz_syntax.specs.declared.places.Mark.{Mark}
use Rattle.qz_syntax.specs.declared.statements.Arg.{Arg}
use Rattle.qz_syntax.specs.declared.statements.Arg.TheVariants as arg
use Rattle.qz_syntax.specs.declared.statements.Binding.{Binding}
use Rattle.qz_syntax.specs.declared.places.Residual.{Residual, out-Residual}
use Rattle.qz_syntax.specs.declared.places.Residual.TheOpen.{Residual-F}
use Rattle.qz_meaning.specs.Instances.{Instance}
use Rattle.qz_meaning.specs.Scenes.{Scene, Context, instance_here}
use Rattle.qz_meaning.specs.Expressions.{value_here, with_bindings}
use Rattle.qz_meaning.specs.Layouts.{Layout, bare}
use Rattle.qz_meaning.specs.Behaviors.{Behavior}

-- a callee's body is walked as it is, with its arguments bound
abbrev pub bound_body : {D T : Type 0} → Scene → List Binding → Behavior D T → Behavior D T
bound_body scene bindings body = record body {
  ends = λ ctx m. body.ends (with_bindings scene ctx bindings) m;
  start = λ ctx g m. body.start (with_bindings scene ctx bindings) g m;
  ended = λ ctx r. body.ended (with_bindings scene ctx bindings) r;
  resume = λ ctx r g. body.resume (with_bindings scene ctx bindings) r g;
  rest = λ ctx m. body.rest (with_bindings scene ctx bindings) m;
  after = λ ctx r. body.after (with_bindings scene ctx bindings) r;
}

-- what calls do: by number and arguments
abbrev pub Calls : Type 0 → Type 0 → Type 0
Calls D T = ℕ → List Arg → Behavior D T

-- an argument as a walk comes to its call: what is known of an input, the instance of an output
pub data Given : Type 0 where
  Input : Know → Given
  Output : Instance → Given

-- a call that a walk comes to: its number, and its arguments in the order of the formals
pub record Passed : Type 0 where
  pub call : ℕ
  pub arguments : List Given

-- an argument here
abbrev pub given_here : Scene → Context → Arg → Given
given_here scene ctx (arg.In value) = Input (value_here scene ctx value)
given_here scene ctx (arg.Out variable) = Output (instance_here ctx variable)

-- a call as a walk comes to it here
abbrev pub passed_here : Scene → Context → ℕ → List Arg → Passed
passed_here scene ctx number arguments =
    record { call = number; arguments = map (given_here scene ctx) arguments }

-- how a walk lists calls, and how it tells that control rests in one
pub record CallAccount (D T : Type 0) : Type 0 where
  pub starts : Passed → Know → Mark → D
  pub resumes : Passed → Know → D
  pub enters : Passed → Mark → T
  pub goes_on : Passed → T
  pub stays : ℕ → T

-- what calls answer: whether they end, on starting by mark
pub record Answers : Type 0 where
  pub ends_at_once : ℕ → Mark → Know
  pub ends : ℕ → Know

-- A call as the module that makes it sees it: it is listed with its guard and arguments, ends as is
-- answered, and is one place.
abbrev pub open_call : {D T : Type 0} → Scene → T → CallAccount D T → Answers → Calls D T
open_call scene nowhere calls answers number arguments = record {
  ends = λ ctx m. answers.ends_at_once number m;
  start = λ ctx g m. calls.starts (passed_here scene ctx number arguments) g m ∷ [];
  ended = λ ctx r. answers.ends number;
  resume = λ ctx r g. calls.resumes (passed_here scene ctx number arguments) g ∷ [];
  rest = λ ctx m.
      (if knows_yes (answers.ends_at_once number m) then nowhere else calls.enters (passed_here scene ctx number arguments) m);
  after = λ ctx r. (if knows_yes (answers.ends number) then nowhere else calls.goes_on (passed_here scene ctx number arguments));
  kept = λ r. calls.stays number;
}

-- whether control rests in the call with this number
abbrev pub is_inside_call : ℕ → Residual-F Residual → Bool
is_inside_call number (Residual-F.InCall other) = number == other
is_inside_call number other = false

-- to the module that makes it, a call is one place and nothing is met in it
abbrev pub open_layout : ℕ → Layout
open_layout number = record bare {
  fits = λ r. is_inside_call number (out-Residual r);
  at = λ bits r. bits.call number;
  away = λ bits. not (bits.call number);
}
