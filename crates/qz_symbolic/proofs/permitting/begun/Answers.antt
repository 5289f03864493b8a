use Rattle.qz_symbolic.proofs.Growing.{grows, stores_grow}
use Rattle.qz_symbolic.proofs.permitting.begun.Goals as goal

pub stores_fit-requires-clause-stores : goal.stores_fit-requires-clause-stores
stores_fit-requires-clause-stores c =
    stores_grow c.args.diagrams.now c.lives_of.new.diagrams c.args.parts.now c.args.stores.now
    (grows c.args.diagrams.now c.apply.new.self c.lives_of.new.diagrams
    (grows c.args.diagrams.now c.resting_in.new.diagrams c.apply.new.self c.in_ok-resting.ensures.extends c.in_ok-right.ensures.extends) c.in_ok-lives.ensures.extends)
    c.requires.stores
