use Rattle.std.proofs.Common.{List, sym, subst}
use Rattle.qz_rails.specs.declared.rail.Rail.{Rail}
use Rattle.qz_symbolic.specs.Knowing.{AreRailsOfLeaves}
use Rattle.qz_symbolic.proofs.LeafRails.{leaf_rails, nets_known}
use Rattle.qz_symbolic.proofs.leaves.rails_of_nets.Goals as goal

pub net_rails-requires : goal.net_rails-requires
net_rails-requires c =
    leaf_rails c.rails_of_leaves.new.diagrams c.args.parts.now c.requires.parts c.args.before.now c.deref.result.now
    (subst (λ (xs : List Rail). AreRailsOfLeaves c.rails_of_leaves.new.diagrams c.args.parts.now c.args.before.now xs) (sym c.deref.ensures.value) c.in_ok-leaves.ensures.rails)

pub returns-clause-rails : goal.returns-clause-rails
returns-clause-rails c =
    nets_known c.rails_of_leaves.new.diagrams c.net_rails.new.diagrams c.args.parts.now c.requires.parts c.args.before.now c.deref.result.now c.in_ok-r.r.items
    c.in_ok-r.ensures.extends
    (subst (λ (xs : List Rail). AreRailsOfLeaves c.rails_of_leaves.new.diagrams c.args.parts.now c.args.before.now xs) (sym c.deref.ensures.value) c.in_ok-leaves.ensures.rails)
    c.in_ok-r.ensures.size c.in_ok-r.ensures.rails
