-- Views in which each leaf is known.
use Rattle.std.specs.Prelude.{◌≡◌, ℕ}
use Rattle.qz_values.specs.declared.Value.{Value}
use Rattle.qz_values.specs.declared.Know.TheVariants.{Known}
use Rattle.qz_control.specs.Circuits.{View}

-- what is known of each leaf is a value
abbrev pub LeavesAreKnown : View → Type 0
LeavesAreKnown v = (number : ℕ) → (x : Value) × (v.nets.leaf number ≡ Known x)
