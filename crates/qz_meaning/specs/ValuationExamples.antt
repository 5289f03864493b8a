-- The bits of valuations, written out.
use Rattle.std.specs.Prelude.{◌≡◌, ◌++◌, Bool, true, false, List, [], ◌∷◌, Option, Some, None, replicate}
use Rattle.qz_values.specs.declared.Ty.TheVariants as ty
use Rattle.qz_values.specs.declared.Value.{Value}
use Rattle.qz_values.specs.Values.{yes, no, value_of}
use Rattle.qz_syntax.specs.declared.declarations.Class.TheVariants.{Mem}
use Rattle.qz_syntax.specs.declared.declarations.Dir.TheVariants as dir
use Rattle.qz_syntax.specs.declared.declarations.Formal.{Formal}
use Rattle.qz_syntax.specs.declared.expressions.Var.TheVariants as var
use Rattle.qz_syntax.specs.declared.expressions.Expr.TheVariants as expr
use Rattle.qz_syntax.specs.declared.statements.Stmt.TheVariants as stmt
use Rattle.qz_syntax.specs.declared.places.Store.{Store}
use Rattle.qz_syntax.specs.declared.places.Residual.{Residual}
use Rattle.qz_syntax.specs.declared.places.Place.{Place}
use Rattle.qz_syntax.specs.declared.places.Place.TheVariants as place
use Rattle.qz_syntax.specs.declared.places.Residual.TheVariants as residual
use Rattle.qz_meaning.specs.Programs.{Program}
use Rattle.qz_meaning.specs.Configurations.{Configuration}
use Rattle.qz_meaning.specs.MacroSteps.{IsStep}
use Rattle.qz_meaning.specs.Valuations.{Valuation, IsPermitted, bits_of_valuation, ComesBefore}
use Rattle.qz_meaning.specs.Examples.{event_input, event_output, byte_output, byte, program}
use Rattle.qz_meaning.specs.ScopeExamples.{suspended, in_suspended}

-- `mem bv[2] !y`
abbrev pub pair_output : Formal
pair_output = record { class = Mem; dir = dir.Out; ty = ty.Bv 2; name = [] }

-- `next(y) = 2'd1; pause;`, with an input `a`
abbrev pub delaying_a_pair : Program
delaying_a_pair = program (event_input ∷ pair_output ∷ []) [] (None ∷ []) 0
    (stmt.Seq (stmt.Delayed (var.Formal 1) (expr.Lit (value_of (ty.Bv 2) 1)) ∷ stmt.Pause 0 ∷ []))

-- control rests at the pause, 2 is the delayed value of `y`, and `a` has this value
abbrev pub valued : Value → Valuation
valued a = record {
  configuration = record {
    place = place.Rest (residual.InSeq 1 (residual.At 0));
    outputs = record { value = value_of (ty.Bv 2) 2; pending = true } ∷ [];
  };
  inputs = a ∷ [];
}

-- it is started and control rests at the pause
abbrev pub place_bits : List Bool
place_bits = true ∷ true ∷ []

-- the mark of `y` and its bit 0, and bit 0 of `a`
abbrev pub first_group : List Bool
first_group = true ∷ false ∷ true ∷ []

-- bit 1 of `y`, and none of `a`
abbrev pub second_group : List Bool
second_group = true ∷ false ∷ []

-- the bits of a permitted valuation, and that with `false` for `a` it comes before that with `true`
pub record IsWrittenOut : Type 0 where
  pub permitted : IsPermitted delaying_a_pair (valued yes)
  pub bits : bits_of_valuation delaying_a_pair (valued yes) ≡ place_bits ++ first_group ++ second_group ++ replicate 124 false
  pub before : ComesBefore delaying_a_pair (valued no) (valued yes)

-- control rests at the first pause of a suspended scope, whose local `x` has the delayed value 5
abbrev pub with_local : Valuation
with_local = record {
  configuration = in_suspended (residual.At 0) 1 (record { value = byte 5; pending = true }) (byte 0);
  inputs = no ∷ [];
}

-- the first groups of `y`, which is 0, of `x` with its mark, and of the input
abbrev pub groups_with_local : List Bool
groups_with_local =
    (false ∷ false ∷ true ∷ true ∷ false ∷ []) ++ (false ∷ false ∷ false ∷ []) ++ (false ∷ true ∷ false ∷ [])

-- the program has ended, so no local exists, and `y` keeps 5
abbrev pub without_local : Valuation
without_local = record {
  configuration = record { place = place.Ended; outputs = record { value = byte 5; pending = false } ∷ [] };
  inputs = no ∷ [];
}

-- the first groups of `y`, of `x`, which doesn't exist, and of the input
abbrev pub groups_without_local : List Bool
groups_without_local =
    (false ∷ true ∷ false ∷ false ∷ false ∷ []) ++ (false ∷ false ∷ false ∷ []) ++ (true ∷ false ∷ false ∷ [])

-- a local's bits stand after the outputs', and are false where it doesn't exist
pub record HasLocalBits : Type 0 where
  pub existing : bits_of_valuation suspended with_local ≡ (true ∷ true ∷ false ∷ []) ++ groups_with_local ++ replicate 183 false
  pub missing : bits_of_valuation suspended without_local ≡ (true ∷ false ∷ false ∷ []) ++ groups_without_local ++ replicate 183 false

-- `nothing`, with one output
abbrev pub silent : Formal → Program
silent output = program (output ∷ []) [] [] 0 stmt.Nothing

-- it has ended, or isn't started, and its output has this store
abbrev pub with_store : Place → Store → Valuation
with_store where_at store = record { configuration = record { place = where_at; outputs = store ∷ [] }; inputs = [] }

-- a value of a variable that keeps its value is permitted after the start and not before; a mark isn't where no
-- `next` is applied to the variable, nor the value of an event without mark
pub record ArePermitted : Type 0 where
  pub kept : IsPermitted (silent byte_output) (with_store place.Ended record { value = byte 3; pending = false })
  pub not_at_start : ¬ IsPermitted (silent byte_output) (with_store place.NotStarted record { value = byte 3; pending = false })
  pub no_mark : ¬ IsPermitted (silent byte_output) (with_store place.Ended record { value = byte 3; pending = true })
  pub no_event : ¬ IsPermitted (silent event_output) (with_store place.Ended record { value = yes; pending = false })

-- `pause; || pause;`
abbrev pub both_pausing : Program
both_pausing = program [] [] (None ∷ None ∷ []) 0 (stmt.Par (stmt.Pause 0 ∷ stmt.Pause 1 ∷ []))

-- control rests in these members
abbrev pub in_members : List (Option Residual) → Configuration
in_members branches = record { place = place.Rest (residual.InPar branches); outputs = [] }

-- a parallel whose members are all done is no place: the step in which they end ends it
pub record IsNoPlaceWhenDone : Type 0 where
  pub one_rests : IsPermitted both_pausing record { configuration = in_members (Some (residual.At 0) ∷ None ∷ []); inputs = [] }
  pub none_rests : ¬ IsPermitted both_pausing record { configuration = in_members (None ∷ None ∷ []); inputs = [] }
  pub ends : IsStep both_pausing (in_members (Some (residual.At 0) ∷ Some (residual.At 1) ∷ [])) [] []
      record { place = place.Ended; outputs = [] }
