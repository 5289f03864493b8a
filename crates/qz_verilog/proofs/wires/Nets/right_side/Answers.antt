use Rattle.std.proofs.Common.{ap, subst}
use Rattle.qz_verilog.specs.Runs.{nets_of}
use Rattle.qz_verilog.specs.Simulation.{CanBeRead, value_in}
use Rattle.qz_verilog.proofs.Reading.{fits_invert, fits_bin, bin_known, fits_choose, fits_bit, fits_slice, fits_concat}
use Rattle.qz_verilog.proofs.wires.Nets.right_side.Goals as goal

pub inverted-requires : goal.inverted-requires
inverted-requires c = rw c.value.ensures (fits_invert _ c.in-Invert.a (subst (CanBeRead _) c.in-Invert.is c.requires))

pub apply2-requires : goal.apply2-requires
apply2-requires c =
    rw (c.known.ensures, c.known-in-Bin.ensures) (fits_bin _ c.in-Bin.op c.in-Bin.a c.in-Bin.b (subst (CanBeRead _) c.in-Bin.is c.requires))

pub choose-requires : goal.choose-requires
choose-requires c =
    rw (c.known-in-Choose.ensures, c.known-in-Choose-2.ensures, c.known-in-Choose-3.ensures)
    (fits_choose _ c.in-Choose.c c.in-Choose.a c.in-Choose.b (subst (CanBeRead _) c.in-Choose.is c.requires))

pub bit-requires : goal.bit-requires
bit-requires c = rw c.known-in-Bit.ensures (fits_bit _ c.in-Bit.a c.in-Bit.i (subst (CanBeRead _) c.in-Bit.is c.requires))

pub slice-requires : goal.slice-requires
slice-requires c =
    rw c.known-in-Slice.ensures (fits_slice _ c.in-Slice.a c.in-Slice.high c.in-Slice.low (subst (CanBeRead _) c.in-Slice.is c.requires))

pub concat-requires : goal.concat-requires
concat-requires c =
    rw (c.known-in-Concat.ensures, c.known-in-Concat-2.ensures)
    (fits_concat _ c.in-Concat.a c.in-Concat.b (subst (CanBeRead _) c.in-Concat.is c.requires))

pub returns-in-Bin : goal.returns-in-Bin
returns-in-Bin c =
    let nets = nets_of c.args.self.now.registers.now c.args.self.now.inputs.now c.args.self.now.wires.now in
    let known = bin_known nets c.in-Bin.op c.in-Bin.a c.in-Bin.b (subst (CanBeRead nets) c.in-Bin.is c.requires) in
    rw (c.value_in.ensures, c.apply2.ensures, c.known.ensures, c.known-in-Bin.ensures, c.in-Bin.is) (ap value_in known)
