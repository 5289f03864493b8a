use Rattle.std.proofs.Common.{◌^◌, ◌<◌, ◌∙◌, ap, arith}
use Rattle.qz_values.specs.Types.{width_of}
use Rattle.qz_values.specs.Values.{value_of, type_of}
use Rattle.qz_values.proofs.Numbers.{not_cut}
use Rattle.qz_values.proofs.Widths.{IsType-is_vector}
use Rattle.qz_values.proofs.words.of_one.Goals as goal

pub returns-in-Invert : goal.returns-in-Invert
returns-in-Invert c =
    let t = IsType-is_vector (type_of c.args.v) (rw c.in-Invert.is at c.requires) in
    let b : c.args.v.bits < 2 ^ 64 = omega arith in
    rw c.in-Invert.is (c.cut.ensures ∙ ap (value_of c.args.v.ty) (not_cut c.args.v.bits (width_of c.args.v.ty) t.at_most_64 b))
