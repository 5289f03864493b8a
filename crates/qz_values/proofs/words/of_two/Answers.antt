use Rattle.std.proofs.Common.{◌+◌, ◌^◌, ◌<◌, ◌∙◌, ap, arith}
use Rattle.qz_values.specs.Types.{width_of}
use Rattle.qz_values.specs.Values.{value_of, type_of}
use Rattle.qz_values.proofs.Numbers.{cut_twice, sub_cut}
use Rattle.qz_values.proofs.Widths.{IsType-is_vector}
use Rattle.qz_values.proofs.words.of_two.Goals as goal

pub returns-in-Add : goal.returns-in-Add
returns-in-Add c =
    let t = IsType-is_vector (type_of c.args.v) (rw c.in-Add.is at c.requires.taken) in
    rw c.in-Add.is (c.cut-in-Add.ensures ∙ ap (value_of c.args.v.ty) (cut_twice (c.args.v.bits + c.args.w.bits) (width_of c.args.v.ty) t.at_most_64))

pub returns-in-Sub : goal.returns-in-Sub
returns-in-Sub c =
    let t = IsType-is_vector (type_of c.args.v) (rw c.in-Sub.is at c.requires.taken) in
    let b : c.args.w.bits < 2 ^ 64 = omega arith in
    rw c.in-Sub.is (c.cut-in-Sub.ensures ∙ ap (value_of c.args.v.ty) (sub_cut c.args.v.bits c.args.w.bits (width_of c.args.v.ty) t.at_most_64 b))
