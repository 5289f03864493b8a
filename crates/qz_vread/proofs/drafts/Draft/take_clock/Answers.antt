use Rattle.qz_vread.proofs.CommaLemmas.{clock_taken}
use Rattle.qz_vread.proofs.drafts.Draft.take_clock.Goals as goal

pub returns : goal.returns
returns c =
    clock_taken c.args.self.now c.take_fixed.new.self c.args.line.now c.split_comma-stage.result.0.now c.split_comma-stage.result.1 c.take_fixed.result
    c.split_comma-stage.ensures c.take_fixed.ensures
