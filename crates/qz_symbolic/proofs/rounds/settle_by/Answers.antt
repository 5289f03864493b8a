use Rattle.std.proofs.Common.{List, sym, subst}
use Rattle.qz_tallies.specs.declared.stored.Stored.{Stored}
use Rattle.qz_symbolic.specs.Views.{AreStoresOf}
use Rattle.qz_symbolic.proofs.Growing.{stores_grow}
use Rattle.qz_symbolic.proofs.rounds.settle_by.Goals as goal

pub settle_with-requires-clause-stores : goal.settle_with-requires-clause-stores
settle_with-requires-clause-stores c =
    stores_grow c.stores_of.new.diagrams c.lives_of.new.diagrams c.args.parts.now c.deref-2.result.now c.in_ok-lives.ensures.extends
    (subst (λ (xs : List Stored). AreStoresOf c.stores_of.new.diagrams c.args.parts.now xs) (sym c.deref-2.ensures.value) c.in_ok-stores.ensures.stores)
