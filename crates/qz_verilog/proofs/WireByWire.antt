-- Valid wires, taken apart.
use Rattle.std.proofs.Common.{◌≡◌, ℕ, zero, suc, ◌<◌, List, [], ◌∷◌, ◌++◌, length, get_or, take, sym, subst, arith, append-nil}
use Rattle.std.proofs.lemmas.List.{append_assoc, map-append}
use Rattle.qz_values.specs.declared.Ty.{Ty}
use Rattle.qz_values.specs.declared.Value.{Value}
use Rattle.qz_syntax.specs.declared.declarations.Port.{Port}
use Rattle.qz_verilog.specs.declared.nets.Rhs.{Rhs}
use Rattle.qz_verilog.specs.declared.modules.VModule.{VModule}
use Rattle.qz_verilog.specs.Types.{NetTypes}
use Rattle.qz_verilog.specs.Validity.{port_types, register_types, declared_types, with_wire, IsWire, AreWires, IsValid}
use Rattle.qz_verilog.specs.Runs.{AreOf, IsRow, nets_of}
use Rattle.qz_verilog.specs.Simulation.{CanBeRead}
use Rattle.qz_verilog.proofs.Settling.{SettlesFrom}
use Rattle.qz_verilog.proofs.KeepingTypes.{typed_wires}

-- the first wires of some that are valid
pub AreWires-take : (types : NetTypes) (wires : List (Ty × Rhs)) (n : ℕ) → AreWires types wires → AreWires types (take n wires)
AreWires-take types wires zero h = tt
AreWires-take types [] (suc n) h = tt
AreWires-take types (wire ∷ wires) (suc n) h = (h.0, AreWires-take (with_wire types wire.0) wires n h.1)

module _ (inputs : List Port) (regs : List Value) where
  abbrev before : List (Ty × Rhs) → NetTypes
  before wires = declared_types inputs regs wires

  one_more : (done : List (Ty × Rhs)) (wire : Ty × Rhs) → with_wire (before done) wire.0 ≡ before (done ++ wire ∷ [])
  one_more done wire = λ i. record {
    inputs = port_types inputs;
    registers = register_types regs;
    wires = sym (map-append (λ (w : Ty × Rhs). w.0) done (wire ∷ [])) i;
  }

  at_from : (done wires : List (Ty × Rhs)) → AreWires (before done) wires → (k : ℕ) (d : Ty × Rhs) → k < length wires →
      IsWire (before (done ++ take k wires)) (get_or wires k d)
  at_from done [] h k d below = absurd (omega arith)
  at_from done (wire ∷ wires) h zero d below = subst (λ all. IsWire (before all) wire) (sym (append-nil done)) h.0
  at_from done (wire ∷ wires) h (suc k) d below =
      subst (λ all. IsWire (before all) (get_or wires k d)) (append_assoc done (wire ∷ []) (take k wires))
      (at_from (done ++ wire ∷ []) wires (subst (λ types. AreWires types wires) (one_more done wire) h.1) k d (omega arith))

  -- each wire of some that are valid
  pub AreWires-at : (wires : List (Ty × Rhs)) → AreWires (before []) wires → (k : ℕ) (d : Ty × Rhs) → k < length wires →
      IsWire (before (take k wires)) (get_or wires k d)
  AreWires-at wires h k d below = at_from [] wires h k d below

-- after the first wires of a valid module are settled, the next one's right side can be read
pub can_be_read : (m : VModule) (valid : IsValid m) (registers row values : List Value) → AreOf (register_types m.regs) registers → IsRow m row →
    (k : ℕ) (d : Ty × Rhs) → k < length m.wires → SettlesFrom registers row [] (take k m.wires) (take k values) →
    CanBeRead (nets_of registers row (take k values)) (get_or m.wires k d).1
can_be_read m valid registers row values typed is_row k d below settled = record {
  types = declared_types m.inputs m.regs (take k m.wires);
  typed = record {
    inputs = is_row;
    registers = typed;
    wires = typed_wires registers row (declared_types m.inputs m.regs []) [] (take k m.wires) (take k values)
        (record { inputs = is_row; registers = typed; wires = tt }) (AreWires-take (declared_types m.inputs m.regs []) m.wires k valid.wires) settled;
  };
  ty = (get_or m.wires k d).0;
  is = AreWires-at m.inputs m.regs m.wires valid.wires k d below;
}
