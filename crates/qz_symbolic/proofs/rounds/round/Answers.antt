use Rattle.std.proofs.Common.{List, sym, subst}
use Rattle.qz_rails.specs.declared.rail.Rail.{Rail}
use Rattle.qz_system.specs.declared.parts.SystemParts.{SystemParts}
use Rattle.qz_symbolic.specs.Telling.{AreInstanceRails}
use Rattle.qz_symbolic.specs.Knowing.{AreRailsOfNets}
use Rattle.qz_symbolic.specs.Rounds.{TellsRound}
use Rattle.qz_symbolic.proofs.Rounding.{round_told}
use Rattle.qz_symbolic.proofs.rounds.round.Goals as goal

pub returns-clause-tells : goal.returns-clause-tells
returns-clause-tells c =
    subst (λ (parts : SystemParts). TellsRound c.settle_by.new.diagrams parts c.args.before.now c.in_ok-r.r.items) c.parts-parts.ensures.parts
    (round_told c.args.diagrams.now c.rails_of_nets.new.diagrams c.settle_by.new.diagrams c.parts-parts.result.now c.parts-parts.ensures.sound
    c.args.before.now c.in_ok-r.r.items c.deref.result.now c.in_ok-r.ensures.extends
    (subst (λ (parts : SystemParts). AreInstanceRails c.args.diagrams.now parts c.args.before.now) (sym c.parts-parts.ensures.parts) c.requires.before)
    (subst (λ (xs : List Rail). AreRailsOfNets c.rails_of_nets.new.diagrams c.parts-parts.result.now c.args.before.now xs) (sym c.deref.ensures.value) c.in_ok-nets.ensures.rails)
    c.in_ok-r.ensures.settled)
