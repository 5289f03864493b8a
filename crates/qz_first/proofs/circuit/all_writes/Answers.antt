use Rattle.std.proofs.Common.{ap}
use Rattle.qz_first.proofs.Declaring.{still_has, no_writes}
use Rattle.qz_first.specs.Driven.{writes_as_bits}
use Rattle.qz_first.proofs.Growing.{through}
use Rattle.qz_first.proofs.Walks.{appended_to_none}
use Rattle.qz_first.proofs.circuit.all_writes.Goals as goal

pub returns-clause-extends : goal.returns-clause-extends
returns-clause-extends c = through _ _ _ c.in_ok-surface.ensures.extends c.in_ok-depth.ensures.extends

pub returns-clause-means : goal.returns-clause-means
returns-clause-means c = λ nets reads.
    appended_to_none _ _ _ _ _ (ap (writes_as_bits nets) c.new-writes.ensures.items)
    (c.in_ok-surface.ensures.means nets (c.in_ok-depth.ensures.extends.reads nets reads)) (c.in_ok-depth.ensures.means nets reads)

pub returns-clause-declares : goal.returns-clause-declares
returns-clause-declares c = λ registers below sound start always.
    let begun = c.in_ok-surface.ensures.declares registers start (no_writes registers _ sound _ c.new-writes.ensures.items) in
    (c.in_ok-depth.ensures.declares registers below (still_has registers _ _ _ c.in_ok-surface.ensures.extends always) begun.0).0
