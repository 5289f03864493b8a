use Rattle.std.proofs.Common.{List, set, ap, ◌∙◌}
use Rattle.std.proofs.lemmas.List.{map-set}
use Rattle.qz_meaning.specs.Verdicts as meaning
use Rattle.qz_interp.specs.declared.verdicts.Verdict.TheVariants.{Nobody}
use Rattle.qz_interp.specs.Seeing.{verdict_seen}
use Rattle.qz_interp.proofs.tallies.Tally.clear.Goals as goal

pub returns-then-number-len : goal.returns-then-number-len
returns-then-number-len c =
    map-set verdict_seen c.self.inside.verdicts.items c.args.number Nobody
    ∙ ap (λ (verdicts : List meaning.Verdict). set verdicts c.args.number meaning.Nobody) c.self.view_is
