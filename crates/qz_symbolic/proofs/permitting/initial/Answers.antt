use Rattle.qz_symbolic.proofs.Growing.{stores_grow}
use Rattle.qz_symbolic.proofs.permitting.initial.Goals as goal

pub stores_are_new-requires : goal.stores_are_new-requires
stores_are_new-requires c = stores_grow c.args.diagrams.now c.all_false.new.diagrams c.args.parts.now c.args.stores.now c.in_ok-nowhere.ensures.extends c.requires.stores
