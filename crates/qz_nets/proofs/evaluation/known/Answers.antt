use Rattle.std.proofs.Common.{◌≡◌, Some, ap, sym, ◌∙◌}
use Rattle.qz_nets.specs.declared.net.Net.TheVariants as net
use Rattle.qz_nets.specs.Nets.{net_type}
use Rattle.qz_nets.specs.Readings.{listed}
use Rattle.qz_nets.proofs.Typing.{fits_bin}
use Rattle.qz_nets.proofs.evaluation.known.Goals as goal

pub apply2-requires : goal.apply2-requires
apply2-requires c =
    let typed : net_type c.requires.types (net.Bin c.in-Bin.op c.in-Bin.a c.in-Bin.b) ≡ Some c.requires.ty =
    ap (net_type c.requires.types) (sym c.in-Bin.is) ∙ c.requires.typed in
    rw (c.listed-in-Bin.ensures, c.listed-in-Bin-2.ensures)
    (fits_bin c.requires.types (listed c.args.leaves.now) (listed c.args.values.now) c.requires.operands c.in-Bin.op c.in-Bin.a c.in-Bin.b c.requires.ty typed)
