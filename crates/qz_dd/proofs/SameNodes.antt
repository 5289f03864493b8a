-- Nodes that the test finds equal are equal.
use Rattle.std.proofs.Common.{nat_eq, ◌≡◌, true, ◌&&◌}
use Rattle.std.proofs.lemmas.Bool.{and_parts, eqb-true}
use Rattle.qz_dd.specs.declared.node.Node.{Node}
use Rattle.qz_dd.specs.declared.node.DdId.{DdId}
use Rattle.qz_dd.specs.contracts.node.NodePartialEq.TheImpl.{eq-value}
use Rattle.qz_dd.specs.contracts.node.DdIdPartialEq.TheImpl as number

pub same_number : (x y : DdId) → (number.eq-value).it x y ≡ true → x ≡ y
same_number x y h = let e : x.0 ≡ y.0 = eqb-true x.0 y.0 h in λ i. record { 0 = e i }

pub same_node : (x y : Node) → (eq-value).it x y ≡ true → x ≡ y
same_node x y h =
    let first = and_parts (nat_eq x.var y.var) ((number.eq-value).it x.low y.low && (number.eq-value).it x.high y.high) h in
    let rest = and_parts ((number.eq-value).it x.low y.low) ((number.eq-value).it x.high y.high) first.1 in
    let var : x.var ≡ y.var = eqb-true x.var y.var first.0 in
    λ i. record { var = var i; low = same_number x.low y.low rest.0 i; high = same_number x.high y.high rest.1 i }
