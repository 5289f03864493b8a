use Rattle.std.proofs.Common.{◌≡◌, length}
use Rattle.qz_dd.specs.Tables.{Extends}
use Rattle.qz_net_rails.specs.NetRails.{AreLeafRails, AreNetRails}
use Rattle.qz_net_rails.proofs.building.net_rails.Given as goal

abbrev pub invariant-loop-number : goal.invariant-loop-number
invariant-loop-number l = record {
  extends : Extends l.fn.diagrams l.diagrams;
  size : length l.rails.items ≡ l.number;
  leaves : AreLeafRails l.diagrams l.nets l.leaves;
  rails : AreNetRails l.diagrams l.nets l.leaves l.rails.items;
}
