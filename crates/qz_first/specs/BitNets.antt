-- The nets of a circuit of the first language, read as bits. Its right sides are constants, `~`, `&` and `|` of bools.
use Rattle.std.specs.Prelude.{ℕ, ◌≡◌, ◌<◌, Bool, false, ◌&&◌, ◌||◌, not, List, map, [], length, Some, slice_get, IsTrue}
use Rattle.std.specs.List.{AllByRecursion}
use Rattle.qz_values.specs.declared.Ty.{Ty}
use Rattle.qz_values.specs.declared.Ty.TheVariants as ty
use Rattle.qz_values.specs.declared.Value.{Value}
use Rattle.qz_values.specs.declared.Op2.{Op2}
use Rattle.qz_values.specs.declared.Op2.TheVariants as op
use Rattle.qz_values.specs.Values.{is_yes, truth_of}
use Rattle.qz_syntax.specs.declared.declarations.Port.{Port}
use Rattle.qz_syntax.specs.DoubleNames.{are_distinct}
use Rattle.qz_verilog.specs.declared.nets.Ref.{Ref}
use Rattle.qz_verilog.specs.declared.nets.Ref.TheVariants as net
use Rattle.qz_verilog.specs.declared.nets.Rhs.{Rhs}
use Rattle.qz_verilog.specs.declared.nets.Rhs.TheVariants as rhs
use Rattle.qz_verilog.specs.declared.modules.VModule.{VModule}

-- bits of the registers and of the wires
pub record Nets : Type 0 where
  pub registers : ℕ → Bool
  pub wires : ℕ → Bool

-- such a circuit has no input but the clock
abbrev pub bit_at : Nets → Ref → Bool
bit_at nets (net.Input number) = false
bit_at nets (net.Reg number) = nets.registers number
bit_at nets (net.Wire number) = nets.wires number

abbrev pub combined : Op2 → Bool → Bool → Bool
combined op.And a b = a && b
combined op.Or a b = a || b
combined other a b = false

-- the bit of a right side
abbrev pub right_bit : Nets → Rhs → Bool
right_bit nets (rhs.Const value) = is_yes value
right_bit nets (rhs.Invert a) = not (bit_at nets a)
right_bit nets (rhs.Bin op a b) = combined op (bit_at nets a) (bit_at nets b)
right_bit nets other = false

-- bits of the wires that satisfy every assignment
abbrev pub Settles : List Rhs → Nets → Type 0
Settles wires nets = (number : ℕ) (right : Rhs) → slice_get wires number ≡ Some right → nets.wires number ≡ right_bit nets right

-- a wire of one bit
abbrev pub bool_wire : Rhs → Ty × Rhs
bool_wire right = (ty.Bool, right)

-- the right sides of a module's wires
abbrev pub rights_of : VModule → List Rhs
rights_of m = map (λ (wire : Ty × Rhs). wire.1) m.wires

-- each register takes the settled bit of its net, all from before the clock
abbrev pub Takes : VModule → Nets → (ℕ → Bool) → Type 0
Takes m nets next = (number : ℕ) (source : Ref) → slice_get m.nexts number ≡ Some source → next number ≡ bit_at nets source

-- one clock from these bits of the registers: the outputs are read from settled bits
pub record IsBitClock (m : VModule) (registers : ℕ → Bool) (outs : List Bool) (next : ℕ → Bool) : Type 0 where
  pub wires : ℕ → Bool
  pub settles : Settles (rights_of m) (record { registers = registers; wires = wires })
  pub outs_are : outs ≡ map (bit_at (record { registers = registers; wires = wires })) m.outs
  pub takes : Takes m (record { registers = registers; wires = wires }) next

-- a net that is declared: a register, or a wire before the one with this number
abbrev pub IsDeclared : ℕ → ℕ → Ref → Type 0
IsDeclared registers wires (net.Input number) = ⊥
IsDeclared registers wires (net.Reg number) = number < registers
IsDeclared registers wires (net.Wire number) = number < wires

-- the bool with some bit
abbrev pub IsBit : Value → Type 0
IsBit value = (bit : Bool) × (value ≡ truth_of bit)

-- an operator of such a circuit
abbrev pub IsSign : Op2 → Type 0
IsSign op.And = Unit {0}
IsSign op.Or = Unit {0}
IsSign other = ⊥

-- a right side of such a circuit, given how many registers and earlier wires there are
abbrev pub IsRightSide : ℕ → ℕ → Rhs → Type 0
IsRightSide registers wires (rhs.Const value) = IsBit value
IsRightSide registers wires (rhs.Invert a) = IsDeclared registers wires a
IsRightSide registers wires (rhs.Bin op a b) = IsSign op × IsDeclared registers wires a × IsDeclared registers wires b
IsRightSide registers wires other = ⊥

-- a module that is such a circuit: it has no inputs, its outputs are bools whose names differ, its registers begin
-- with bools, its wires are bools that read registers and earlier wires alone, and each output and each register
-- has a net
pub record IsBitModule (m : VModule) : Type 0 where
  pub inputs : m.inputs ≡ []
  pub names : IsTrue (are_distinct (map (λ (output : Port). output.name) m.outputs))
  pub bools : AllByRecursion (λ (output : Port). output.ty ≡ ty.Bool) m.outputs
  pub begins : AllByRecursion IsBit m.regs
  pub wires_are_bools : AllByRecursion (λ (wire : Ty × Rhs). wire.0 ≡ ty.Bool) m.wires
  pub wires : (number : ℕ) (right : Rhs) → slice_get (rights_of m) number ≡ Some right → IsRightSide (length m.regs) number right
  pub outs : AllByRecursion (IsDeclared (length m.regs) (length m.wires)) m.outs
  pub nexts : AllByRecursion (IsDeclared (length m.regs) (length m.wires)) m.nexts
  pub driven : length m.outs ≡ length m.outputs
  pub clocked : length m.nexts ≡ length m.regs
