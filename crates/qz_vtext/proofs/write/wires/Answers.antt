use Rattle.std.proofs.Common.{[], ◌∷◌, get_or, arith}
use Rattle.qz_values.specs.declared.Ty.{Ty}
use Rattle.qz_values.specs.declared.Ty.TheVariants as ty
use Rattle.qz_values.specs.Values.{no}
use Rattle.qz_verilog.specs.declared.nets.Rhs.{Rhs}
use Rattle.qz_verilog.specs.declared.nets.Rhs.TheVariants as rhs
use Rattle.qz_vtext.specs.Lines.{wire_line, assign_line, wire_lines}
use Rattle.qz_vtext.proofs.Written.{numbered_written, written2}
use Rattle.qz_vtext.proofs.write.wires.Goals as goal

pub loop-number-preserved : goal.loop-number-preserved
loop-number-preserved c =
    let inputs = c.args.pen.now.inputs.now in
    let number = c.loop-number.number in
    let none : Ty × Rhs = (ty.Bool, rhs.Const no) in
    let wire = get_or c.args.wires.now number none in
    numbered_written (wire_lines inputs) c.args.wires.now number none _ _ _ (omega arith) c.loop-number.invariant
    (written2 (wire_line number wire.0 ∷ []) (assign_line inputs number wire.1 ∷ []) _ _ _ c.in_ok-wire.ensures c.in_ok-assign.ensures)
