use Rattle.std.proofs.Common.{◌*◌, ◌≤◌, List, length, sym, subst}
use Rattle.qz_values.specs.declared.Value.{Value}
use Rattle.qz_meaning.specs.Programs.{program_of}
use Rattle.qz_meaning.specs.Configurations.{Configuration, IsValuationOf}
use Rattle.qz_meaning.specs.Settling.{step_met}
use Rattle.qz_interp.specs.Beginning.{BeginsRounds}
use Rattle.qz_interp.specs.LastRounds.{Decides}
use Rattle.qz_interp.proofs.RunLemmas.{decides}
use Rattle.qz_interp.proofs.decisions.decide.Goals as goal

pub returns-clause-decided : goal.returns-clause-decided
returns-clause-decided c =
    λ (config : Configuration) (row : List Value)
    (begins : BeginsRounds c.args.setting.now.whole.now.module config row c.args.setting.now.place.now c.args.setting.now.slots.now c.args.env.now)
    (enough : 4 * length (step_met (program_of c.args.setting.now.whole.now.module) config) ≤ c.args.most)
    (valuation : IsValuationOf (program_of c.args.setting.now.whole.now.module) config row).
    subst (Decides (program_of c.args.setting.now.whole.now.module) config row) (sym c.first_doubted_met.ensures)
    (decides c.args.setting.now.whole.now.module config row c.args.setting.now.place.now c.args.setting.now.slots.now c.args.env.now
    c.run_rounds.new.env.now.items c.run_rounds.new.env.later.items begins valuation (c.in_ok-run_rounds.ensures.last config row begins enough))
