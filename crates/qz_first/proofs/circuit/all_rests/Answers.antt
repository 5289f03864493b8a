use Rattle.std.proofs.Common.{ap}
use Rattle.qz_first.proofs.Declaring.{no_rests}
use Rattle.qz_first.specs.Driven.{rests_as_bits}
use Rattle.qz_first.proofs.Growing.{through}
use Rattle.qz_first.proofs.Walks.{appended_to_none}
use Rattle.qz_first.proofs.circuit.all_rests.Goals as goal

pub returns-clause-extends : goal.returns-clause-extends
returns-clause-extends c = through _ _ _ c.in_ok-enter.ensures.extends c.in_ok-moves.ensures.extends

pub returns-clause-means : goal.returns-clause-means
returns-clause-means c = λ nets reads.
    appended_to_none _ _ _ _ _ (ap (rests_as_bits nets) c.new-rests.ensures.items)
    (c.in_ok-enter.ensures.means nets (c.in_ok-moves.ensures.extends.reads nets reads)) (c.in_ok-moves.ensures.means nets reads)

pub returns-clause-declares : goal.returns-clause-declares
returns-clause-declares c = λ registers below sound start.
    let begun = c.in_ok-enter.ensures.declares registers below start (no_rests registers _ sound _ c.new-rests.ensures.items) in
    (c.in_ok-moves.ensures.declares registers below begun.0).0
