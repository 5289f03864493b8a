use Rattle.std.proofs.Common.{List, set, ap, ap₂, ◌∙◌}
use Rattle.std.proofs.lemmas.List.{map-set}
use Rattle.qz_meaning.specs.Verdicts.{Verdict, join}
use Rattle.qz_interp.specs.Seeing.{verdict_seen}
use Rattle.qz_interp.proofs.tallies.Tally.add.Goals as goal

pub returns-then-number-len : goal.returns-then-number-len
returns-then-number-len c =
    map-set verdict_seen c.self.inside.verdicts.items c.args.number c.join-verdict.result
    ∙ ap (λ (verdicts : List Verdict). set verdicts c.args.number (verdict_seen c.join-verdict.result)) c.self.view_is
    ∙ ap (set c.args.self.now c.args.number) (c.join-verdict.ensures ∙ ap₂ join c.at.ensures c.of.ensures)
