use Rattle.std.proofs.Common.{◌≡◌, ◌++◌, List, map, Some, ap, ◌∙◌}
use Rattle.qz_values.specs.declared.Value.{Value}
use Rattle.qz_meaning.specs.Configurations.{Configuration}
use Rattle.qz_meaning.specs.Programs.{program_of}
use Rattle.qz_meaning.specs.Settling.{Environment, body_under, writes_at}
use Rattle.qz_react.specs.declared.environments.Write.{Write}
use Rattle.qz_react.specs.Reacting.{Tells}
use Rattle.qz_react.specs.Seeing.{written}
use Rattle.qz_interp.specs.RoundTables.{AreSlotsOf}
use Rattle.qz_interp.proofs.WalkedLemmas.{settles_next}
use Rattle.qz_interp.proofs.rounds.settle_round.Goals as goal

pub returns-clause-round : goal.returns-clause-round
returns-clause-round c =
    λ (config : Configuration) (row : List Value) (e : Environment) (is_at : config.place ≡ c.args.setting.now.place.now)
    (are : AreSlotsOf (program_of c.args.setting.now.whole.now.module) config c.args.setting.now.slots.now)
    (tells : Tells (program_of c.args.setting.now.whole.now.module) c.args.env.now e).
    let p = program_of c.args.setting.now.whole.now.module in
    let does = map Some (writes_at (body_under p e) c.args.setting.now.place.now) in
    let walked : map (written p.instances) c.react.new.out.items ≡ does =
    (c.in_ok-react.ensures.reacts e tells).writes ∙ ap (λ (before : List Write). map (written p.instances) before ++ does) c.clear.ensures.items in
    settles_next c.args.setting.now.whole.now.module config row e c.args.setting.now.slots.now c.react.new.out.items c.settle_writes.new.env.now.items c.settle_writes.new.env.later.items
    c.args.setting.now.place.now is_at are walked c.settle_writes.ensures.settled
