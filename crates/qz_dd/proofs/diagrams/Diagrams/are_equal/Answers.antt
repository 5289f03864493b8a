use Rattle.std.proofs.Common.{ap, ◌∙◌, sym}
use Rattle.std.proofs.lemmas.Bool.{eqb-true, eq-eqb}
use Rattle.qz_dd.specs.Nodes.{value}
use Rattle.qz_dd.proofs.Canonical.{canonical}
use Rattle.qz_dd.proofs.diagrams.Diagrams.are_equal.Goals as goal

pub returns : goal.returns
returns c =
    let table = c.args.self.now in
    let a = c.args.a.0 in
    let b = c.args.b.0 in (
      λ t. λ bits size. ap (λ k. value table.nodes.keys k bits) (eqb-true a b (sym c.eq.ensures ∙ t)),
      λ same. c.eq.ensures ∙ eq-eqb a b ((canonical table).equal a b c.requires.a c.requires.b same),
    )
