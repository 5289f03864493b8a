use Rattle.std.proofs.Common.{◌≡◌, ap, ◌∙◌, refl, arith}
use Rattle.qz_dd.specs.Nodes.{value}
use Rattle.qz_dd.proofs.Meaning.{value-false}
use Rattle.qz_dd.proofs.Paths.{path_high, path_end}
use Rattle.qz_dd.proofs.table.Table.least_one.Goals as goal

pub returns-then-d-eq0 : goal.returns-then-d-eq0
returns-then-d-eq0 c =
    let nodes = c.args.self.now.nodes.keys in
    let e : c.args.d.0 ≡ 0 = omega arith in
    record { same = refl; is_false = λ bits. ap (λ k. value nodes k bits) e ∙ value-false nodes bits }

pub loop-node-preserved-then-node-eq0 : goal.loop-node-preserved-then-node-eq0
loop-node-preserved-then-node-eq0 c =
    path_high c.args.self.now.vars c.args.self.now.nodes.keys c.args.d.0 c.loop-node.at.0 c.in-Some.node c.in-Some.ensures.facts c.loop-node.bits c.loop-node.invariant (omega arith)

pub returns : goal.returns
returns c = path_end c.args.self.now.vars c.args.self.now.nodes.keys c.args.d.0 c.loop-node.at.0 c.loop-node.bits c.in_default.ensures.facts c.loop-node.invariant
