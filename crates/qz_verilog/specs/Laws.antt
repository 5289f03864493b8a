-- What a valid module does, and that it does one thing alone.
use Rattle.std.specs.Prelude.{◌≡◌, List}
use Rattle.qz_values.specs.declared.Value.{Value}
use Rattle.qz_verilog.specs.declared.modules.VModule.{VModule}
use Rattle.qz_verilog.specs.Validity.{port_types, register_types, wire_types}
use Rattle.qz_verilog.specs.Meaning.{Settles}
use Rattle.qz_verilog.specs.Runs.{AreOf, nets_of, IsClock, IsRun}

-- the wires settle to one list of values
pub record SettlesOnce (m : VModule) (registers row : List Value) : Type 0 where
  pub wires : List Value
  pub settles : Settles m.wires (nets_of registers row wires)
  pub only : (others : List Value) → Settles m.wires (nets_of registers row others) → others ≡ wires

-- there is one run with these rows of inputs
pub record RunsOnce (m : VModule) (rows : List (List Value)) : Type 0 where
  pub outs : List (List Value)
  pub runs : IsRun m rows outs
  pub only : (others : List (List Value)) → IsRun m rows others → others ≡ outs

-- where registers and inputs are of their types, so is all that comes of them
pub record KeepsTypes (m : VModule) (registers row : List Value) : Type 0 where
  pub wires : (wires : List Value) → Settles m.wires (nets_of registers row wires) → AreOf (wire_types m.wires) wires
  pub outs : (outs next : List Value) → IsClock m registers row outs next → AreOf (port_types m.outputs) outs
  pub next : (outs next : List Value) → IsClock m registers row outs next → AreOf (register_types m.regs) next
