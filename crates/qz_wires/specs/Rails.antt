-- What two nets, one that says whether a value is known and one with the value, say of knowledge.
use Rattle.std.specs.Prelude.{ℕ, ◌≡◌, Bool, true, false, List, Some, slice_get}
use Rattle.qz_values.specs.declared.Ty.{Ty}
use Rattle.qz_values.specs.declared.Ty.TheVariants.{Bool as Truth}
use Rattle.qz_values.specs.declared.Value.{Value}
use Rattle.qz_values.specs.declared.Know.{Know}
use Rattle.qz_values.specs.declared.Know.TheVariants.{Unknown, Known, Clash}
use Rattle.qz_values.specs.Types.{IsType}
use Rattle.qz_values.specs.Values.{is_yes}
use Rattle.qz_verilog.specs.Types.{NetTypes}
use Rattle.qz_verilog.specs.Validity.{IsNetOf}
use Rattle.qz_verilog.specs.Meaning.{Nets, value_at}
use Rattle.qz_wires.specs.declared.rails.Rail.{Rail}

-- nothing is said of a contradiction
abbrev pub Says : Bool → Value → Know → Type 0
Says known value Unknown = known ≡ false
Says known value (Known v) = (known ≡ true) × (value ≡ v)
Says known value Clash = Unit {0}

-- the rail says what is known
abbrev pub Shows : Nets → Rail → Know → Type 0
Shows nets rail k = Says (is_yes (value_at nets rail.known)) (value_at nets rail.value) k

-- each rail of a list says what is known at its number
abbrev pub ShowEach : Nets → List Rail → (ℕ → Know) → Type 0
ShowEach nets rails know = (n : ℕ) (rail : Rail) → slice_get rails n ≡ Some rail → Shows nets rail (know n)

-- a rail of a value of this type
pub record IsRail (types : NetTypes) (ty : Ty) (rail : Rail) : Type 0 where
  pub of_type : IsType ty
  pub known_net : IsNetOf types Truth rail.known
  pub value_net : IsNetOf types ty rail.value
