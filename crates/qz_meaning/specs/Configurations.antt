-- Configurations of a program, and rows of its inputs.
use Rattle.std.specs.Prelude.{ℕ, ◌≡◌, ◌^◌, Bool, true, false, ◌&&◌, nat_lt, IsTrue, List, [], ◌∷◌, map, length}
use Rattle.qz_values.specs.declared.Ty.{Ty}
use Rattle.qz_values.specs.declared.Value.{Value}
use Rattle.qz_values.specs.Types.{width_of, is_same_type}
use Rattle.qz_values.specs.Values.{type_of, bits_of}
use Rattle.qz_syntax.specs.declared.expressions.Var.{Var}
use Rattle.qz_syntax.specs.declared.expressions.Var.TheVariants as var
use Rattle.qz_syntax.specs.declared.places.Store.{Store}
use Rattle.qz_syntax.specs.declared.places.Place.{Place}
use Rattle.qz_syntax.specs.declared.places.Place.TheVariants as place
use Rattle.qz_meaning.specs.Scenes.{default_store}
use Rattle.qz_meaning.specs.Layouts.{Layout}
use Rattle.qz_meaning.specs.Residing.{whole_layout}
use Rattle.qz_meaning.specs.Programs.{Program}

-- where control is, with the stores of the scopes there, and a store for each output
pub record Configuration : Type 0 where
  pub place : Place
  pub outputs : List Store

-- the body's layout
abbrev pub layout_of : Program → Layout
layout_of p = whole_layout p.body

-- whether control can be there in the program
abbrev pub IsPlaceIn : Program → Place → Type 0
IsPlaceIn p place.NotStarted = Unit {0}
IsPlaceIn p (place.Rest r) = IsTrue ((layout_of p).fits r)
IsPlaceIn p place.Ended = Unit {0}

-- a configuration of the program: control is where it can be, and each output has one store
pub record IsConfiguration (p : Program) (c : Configuration) : Type 0 where
  pub place : IsPlaceIn p c.place
  pub outputs : length c.outputs ≡ length p.outputs

-- a value of this type
abbrev pub is_of_type : Ty → Value → Bool
is_of_type t v = is_same_type (type_of v) t && nat_lt (bits_of v) (2 ^ width_of t)

-- for each of these formals a value of its type
abbrev pub are_inputs : Program → List ℕ → List Value → Bool
are_inputs p [] [] = true
are_inputs p [] (v ∷ values) = false
are_inputs p (n ∷ numbers) [] = false
are_inputs p (n ∷ numbers) (v ∷ values) = is_of_type (p.type_of (var.Formal n)) v && are_inputs p numbers values

-- a row of the program's inputs
abbrev pub IsRow : Program → List Value → Type 0
IsRow p row = IsTrue (are_inputs p p.inputs row)

-- a configuration of the program with a row of its inputs
pub record IsValuationOf (p : Program) (c : Configuration) (row : List Value) : Type 0 where
  pub configuration : IsConfiguration p c
  pub inputs : IsRow p row

-- a variable that has just come into being has its default without mark
abbrev pub new_store : Program → Var → Store
new_store p variable = default_store (p.type_of variable)

-- the initial configuration: not started, and each output has a new store
abbrev pub initial : Program → Configuration
initial p = record {
  place = place.NotStarted;
  outputs = map (λ n. new_store p (var.Formal n)) p.outputs;
}
