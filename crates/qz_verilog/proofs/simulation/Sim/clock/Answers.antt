use Rattle.std.proofs.Common.{◌≡◌, List, length, take, drop, ◌++◌, map, sym, ap, subst, ◌∙◌}
use Rattle.std.proofs.lemmas.List.{length-map}
use Rattle.qz_values.specs.declared.Value.{Value}
use Rattle.qz_values.specs.Values.{type_of, bits_of}
use Rattle.qz_verilog.specs.Validity.{port_types, register_types, types_of}
use Rattle.qz_verilog.specs.Meaning.{value_at, Settles}
use Rattle.qz_verilog.specs.Runs.{IsRow, IsClock, nets_of}
use Rattle.qz_verilog.specs.Simulation.{SimState, row_of}
use Rattle.qz_verilog.proofs.Clocking.{clock_done, written}
use Rattle.qz_verilog.proofs.KeepingTypes.{keeps_types, AreOf-length}
use Rattle.qz_verilog.proofs.ValidityLemmas.{length-AreNetsOf}
use Rattle.qz_verilog.proofs.simulation.Sim.clock.Goals as goal

pub read_outputs-requires : goal.read_outputs-requires
read_outputs-requires c =
    let m = c.self.inside.circuit in
    let count : length c.args.outputs.now ≡ length m.outputs = subst (λ (s : SimState). length c.args.outputs.now ≡ length s.circuit.outputs) (sym c.self.view_is) c.requires.outputs_count in
    count ∙ length-AreNetsOf _ _ m.outputs m.outs c.self.invariant.valid.outs ∙ ap length (sym c.as_slice-2.ensures)

-- a row of inputs, and what is then in the room for inputs, wires and nexts
row : (c : goal.After-swap) → List Value
row c = row_of (port_types c.self.inside.circuit.inputs) c.args.inputs.now

is_row : (c : goal.After-swap) → IsRow c.self.inside.circuit (row c)
unfolding row
is_row c = subst (λ (s : SimState). IsRow s.circuit (row_of (port_types s.circuit.inputs) c.args.inputs.now)) (sym c.self.view_is) c.requires.inputs_fit

inputs_written : (c : goal.After-swap) →
    take c.self.inside.inputs.len (c.take_inputs.new.values ++ drop (length c.take_inputs.new.values) c.self.inside.inputs.items) ≡ c.take_inputs.new.values
inputs_written c =
    written c.self.inside.inputs.len c.take_inputs.new.values c.self.inside.inputs.items
    (ap length (sym c.deref_mut.ensures.value) ∙ c.deref_mut.ensures.len) (c.take_inputs.auto.values ∙ c.deref_mut.ensures.len)

wires_written : (c : goal.After-swap) →
    take c.self.inside.wires.len (c.settle.new.values ++ drop (length c.settle.new.values) c.self.inside.wires.items) ≡ c.settle.new.values
wires_written c =
    written c.self.inside.wires.len c.settle.new.values c.self.inside.wires.items
    (ap length (sym c.deref_mut-2.ensures.value) ∙ c.deref_mut-2.ensures.len) (c.settle.auto.values ∙ c.deref_mut-2.ensures.len)

nexts_written : (c : goal.After-swap) →
    take c.self.inside.nexts.len (c.read_nexts.new.nexts ++ drop (length c.read_nexts.new.nexts) c.self.inside.nexts.items) ≡ c.read_nexts.new.nexts
nexts_written c =
    written c.self.inside.nexts.len c.read_nexts.new.nexts c.self.inside.nexts.items
    (ap length (sym c.deref_mut-3.ensures.value) ∙ c.deref_mut-3.ensures.len) (c.read_nexts.auto.nexts ∙ c.deref_mut-3.ensures.len)

-- the clock of the module whose fields are open
clocks : (c : goal.After-swap) → IsClock c.self.inside.circuit c.self.inside.registers.items (row c)
    (row_of (port_types c.self.inside.circuit.outputs) c.read_outputs.new.outputs) c.swap.new.x.items
unfolding row
clocks c =
    let m = c.self.inside.circuit in
    let regs = c.self.inside.registers.items in
    let taken : c.take_inputs.new.values ≡ row c = c.take_inputs.ensures ∙ ap (λ ports. row_of (port_types ports) c.args.inputs.now) c.as_slice.ensures in
    let inputs_are = inputs_written c ∙ taken in
    let settles : Settles m.wires (nets_of regs (row c) c.settle.new.values) =
    subst (λ xs. Settles m.wires (nets_of xs (row c) c.settle.new.values)) c.deref.ensures.value
    (subst (λ xs. Settles m.wires (nets_of c.deref.result.now xs c.settle.new.values)) (c.deref-2.ensures.value ∙ inputs_are) c.settle.ensures) in
    let read : nets_of c.deref-4.result.now c.deref-3.result.now c.deref-5.result.now ≡ nets_of regs (row c) c.settle.new.values =
    λ i. nets_of (c.deref-4.ensures.value i) ((c.deref-3.ensures.value ∙ inputs_are) i) ((c.deref-5.ensures.value ∙ wires_written c) i) in
    let outs_are : c.read_outputs.new.outputs ≡ map (λ net. bits_of (value_at (nets_of regs (row c) c.settle.new.values) net)) m.outs =
    c.read_outputs.ensures ∙ (λ i. map (λ net. bits_of (value_at (read i) net)) (c.as_slice-2.ensures i)) in
    let next_are : c.swap.new.x.items ≡ map (value_at (nets_of regs (row c) c.settle.new.values)) m.nexts =
    ap (λ v. v.items) c.swap.ensures.x_after ∙ nexts_written c ∙ c.read_nexts.ensures ∙ (λ i. map (value_at (read i)) (c.as_slice-3.ensures i)) in
    clock_done m c.self.invariant.valid regs (row c) c.settle.new.values c.self.invariant.typed (is_row c) settles c.read_outputs.new.outputs c.swap.new.x.items outs_are next_are

pub returns-clause-clock : goal.returns-clause-clock
unfolding row
returns-clause-clock c =
    subst (λ (s : SimState). IsClock s.circuit s.registers (row_of (port_types s.circuit.inputs) c.args.inputs.now)
    (row_of (port_types s.circuit.outputs) c.read_outputs.new.outputs) c.swap.new.x.items) c.self.view_is (clocks c)

pub invariant_of-self : goal.invariant_of-self
invariant_of-self c =
    let m = c.self.inside.circuit in
    let regs = c.self.inside.registers.items in record {
      valid = c.self.invariant.valid;
      typed = (keeps_types m c.self.invariant.valid regs (row c) c.self.invariant.typed (is_row c)).next _ _ (clocks c);
      input_room = ap length (inputs_written c) ∙ c.take_inputs.auto.values ∙ ap length c.deref_mut.ensures.value ∙ c.self.invariant.input_room;
      wire_room = ap length (wires_written c) ∙ c.settle.auto.values ∙ ap length c.deref_mut-2.ensures.value ∙ c.self.invariant.wire_room;
      next_room = ap (λ v. length v.items) c.swap.ensures.y_after ∙ sym (AreOf-length (register_types m.regs) regs c.self.invariant.typed)
          ∙ length-map m.regs type_of ∙ length-AreNetsOf type_of (types_of m) m.regs m.nexts c.self.invariant.valid.nexts;
    }
