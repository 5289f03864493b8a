use Rattle.std.proofs.Common.{List, true, false, sym, subst}
use Rattle.qz_tallies.specs.declared.tally.Tally.{Tally}
use Rattle.qz_symbolic.specs.Knowing.{AreTallies}
use Rattle.qz_symbolic.proofs.Growing.{grows, stores_grow}
use Rattle.qz_symbolic.proofs.Rounding.{are_rails, settled_by}
use Rattle.qz_symbolic.proofs.rounds.settle_with.Goals as goal

pub settle_all-requires-clause-stores : goal.settle_all-requires-clause-stores
settle_all-requires-clause-stores c =
    stores_grow c.args.diagrams.now c.tallies_of-2.new.diagrams c.args.parts.now c.args.kept.stores.now
    (grows c.args.diagrams.now c.tallies_of.new.diagrams c.tallies_of-2.new.diagrams c.in_ok-now.ensures.extends c.in_ok-later.ensures.extends) c.requires.stores

pub returns-clause-rails : goal.returns-clause-rails
returns-clause-rails c =
    are_rails c.settle_all.new.diagrams c.args.parts.now c.requires.parts c.deref.result.now c.deref-2.result.now c.in_ok-r.r.items c.in_ok-r.ensures.rails

pub returns-clause-settled : goal.returns-clause-settled
returns-clause-settled c =
    settled_by c.settle_all.new.diagrams c.args.parts.now c.requires.parts c.deref.result.now c.deref-2.result.now c.in_ok-r.r.items c.in_ok-r.ensures.rails
    c.tallies_of.new.diagrams c.tallies_of-2.new.diagrams c.args.nets.now
    (grows c.tallies_of.new.diagrams c.tallies_of-2.new.diagrams c.settle_all.new.diagrams c.in_ok-later.ensures.extends c.in_ok-r.ensures.extends)
    c.in_ok-r.ensures.extends
    (subst (λ (xs : List Tally). AreTallies c.tallies_of.new.diagrams c.args.parts.now c.args.nets.now false xs) (sym c.deref.ensures.value) c.in_ok-now.ensures.tallies)
    (subst (λ (xs : List Tally). AreTallies c.tallies_of-2.new.diagrams c.args.parts.now c.args.nets.now true xs) (sym c.deref-2.ensures.value) c.in_ok-later.ensures.tallies)
