use Rattle.std.proofs.Common.{◌≡◌, ◌≤◌, [], length, take, refl, subst, ◌∙◌}
use Rattle.std.proofs.lemmas.List.{take_all}
use Rattle.qz_verilog.specs.Validity.{declared_types}
use Rattle.qz_verilog.proofs.Settling.{SettlesFrom, SettlesFrom-step, settles_whole}
use Rattle.qz_verilog.proofs.WireByWire.{can_be_read}
use Rattle.qz_verilog.proofs.wires.settle.Goals as goal

pub right_side-requires : goal.right_side-requires
right_side-requires c =
    rw c.as_slice-right-items.ensures (can_be_read c.args.m.now c.requires.valid c.args.registers.now c.args.inputs.now c.loop-number.values
    c.requires.registers_typed c.requires.is_row c.loop-number.number _ (rw (← c.as_slice-right-items.ensures) c.loop-number-test.true) c.loop-number.invariant)

pub loop-number-preserved : goal.loop-number-preserved
loop-number-preserved c =
    let below = rw c.as_slice-right-items.ensures at c.loop-number-test.true in
    let same_room : length c.loop-number.values ≡ length c.args.m.now.wires = c.loop-number.auto.values ∙ c.requires.room in
    SettlesFrom-step c.args.registers.now c.args.inputs.now c.args.m.now.wires c.loop-number.values c.loop-number.number _ c.right_side.result
    below (rw same_room below) c.loop-number.invariant (rw c.as_slice-right-items.ensures at c.right_side.ensures)

pub returns : goal.returns
returns c =
    let n = c.loop-number.number in
    let wires = c.args.m.now.wires in
    let values = c.loop-number.values in
    let registers = c.args.registers.now in
    let row = c.args.inputs.now in
    let items : c.as_slice-right-items.result.now ≡ wires = c.as_slice-right-items.ensures in
    let past : length wires ≤ n = rw (← items) c.loop-number-test.false in
    let same_room : length values ≡ length wires = c.loop-number.auto.values ∙ c.requires.room in
    let whole : SettlesFrom registers row [] wires values =
    subst (λ vs. SettlesFrom registers row [] wires vs) (take_all n values (rw same_room past))
    (subst (λ ws. SettlesFrom registers row [] ws (take n values)) (take_all n wires past) c.loop-number.invariant) in
    settles_whole registers row (declared_types c.args.m.now.inputs c.args.m.now.regs []) wires values refl c.requires.valid.wires whole
