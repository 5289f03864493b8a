-- Clocks of a module, and its runs.
use Rattle.std.specs.Prelude.{◌≡◌, List, [], ◌∷◌, map}
use Rattle.qz_values.specs.declared.Ty.{Ty}
use Rattle.qz_values.specs.declared.Value.{Value}
use Rattle.qz_values.specs.Fits.{IsOf}
use Rattle.qz_verilog.specs.declared.modules.VModule.{VModule}
use Rattle.qz_verilog.specs.Validity.{port_types}
use Rattle.qz_verilog.specs.Meaning.{Nets, value_at, Settles}

-- as many values as types, each of its type
abbrev pub AreOf : List Ty → List Value → Type 0
AreOf [] [] = Unit {0}
AreOf [] (v ∷ vs) = ⊥
AreOf (t ∷ ts) [] = ⊥
AreOf (t ∷ ts) (v ∷ vs) = IsOf t v × AreOf ts vs

-- a row of inputs: a value for each, of its type
abbrev pub IsRow : VModule → List Value → Type 0
IsRow m row = AreOf (port_types m.inputs) row

abbrev pub nets_of : List Value → List Value → List Value → Nets
nets_of registers row wires = record { inputs = row; registers = registers; wires = wires }

-- One clock, from these values of the registers and with this row of inputs: the outputs are read from settled
-- values, and then each register has the settled value of what it takes, all from before the clock.
pub record IsClock (m : VModule) (registers row outs next : List Value) : Type 0 where
  pub wires : List Value
  pub settles : Settles m.wires (nets_of registers row wires)
  pub outs_are : outs ≡ map (value_at (nets_of registers row wires)) m.outs
  pub next_are : next ≡ map (value_at (nets_of registers row wires)) m.nexts

-- clocks one after the other, each with its row of inputs and its row of outputs
abbrev pub RunsFrom : VModule → List Value → List (List Value) → List (List Value) → Type 0
RunsFrom m registers [] [] = Unit {0}
RunsFrom m registers [] (out ∷ outs) = ⊥
RunsFrom m registers (row ∷ rows) [] = ⊥
RunsFrom m registers (row ∷ rows) (out ∷ outs) =
    (next : List Value) × IsClock m registers row out next × RunsFrom m next rows outs

-- a run: the registers begin with their initial values
abbrev pub IsRun : VModule → List (List Value) → List (List Value) → Type 0
IsRun m rows outs = RunsFrom m m.regs rows outs
