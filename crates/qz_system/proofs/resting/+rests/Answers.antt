use Rattle.std.proofs.Common.{false}
use Rattle.std.specs.Prelude.{slice_index_or}
use Rattle.qz_system.proofs.RestLemmas.{resting_choice}
use Rattle.qz_system.proofs.resting.+rests.Goals as goal

pub resting_in-returns-in-If : goal.resting_in-returns-in-If
resting_in-returns-in-If t c =
    resting_choice (λ n. slice_index_or c.args.places.now n false) c.args.shape.now c.in-If.first c.in-If.second c.get.result.now c.get-in-If.result.now
    c.or_in.result c.resting_in-in_first.result c.resting_in-in_second.result c.in-If.is c.get.ensures c.get-in-If.ensures
    c.resting_in-in_first.ensures c.resting_in-in_second.ensures c.or_in.ensures
