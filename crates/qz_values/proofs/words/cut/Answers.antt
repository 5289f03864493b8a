use Rattle.std.proofs.Common.{◌≡◌, ◌%◌, ◌^◌, bit_and, ap}
use Rattle.std.proofs.lemmas.Nat.{and_mask}
use Rattle.qz_values.specs.Types.{width_of}
use Rattle.qz_values.specs.Values.{value_of}
use Rattle.qz_values.proofs.words.cut.Goals as goal

pub returns : goal.returns
returns c =
    let e : bit_and c.args.n c.ones.result ≡ c.args.n % 2 ^ width_of c.args.ty =
    rw (c.ones.ensures, c.width.ensures) (and_mask c.args.n (width_of c.args.ty)) in
    ap (value_of c.args.ty) e
