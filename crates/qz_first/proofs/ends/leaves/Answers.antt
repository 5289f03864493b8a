use Rattle.qz_first.proofs.Declaring.{still_has}
use Rattle.qz_first.proofs.Growing.{through}
use Rattle.qz_first.proofs.ends.leaves.Goals as goal

pub returns-clause-extends : goal.returns-clause-extends
returns-clause-extends c =
    through _ _ _ c.in_ok-again.ensures.extends (through _ _ _ c.not.ensures.extends c.and.ensures.extends)

pub returns-clause-means : goal.returns-clause-means
returns-clause-means c = λ nets reads.
    let at_not = c.and.ensures.extends.reads nets reads in
    let again = c.in_ok-again.ensures.means nets (c.not.ensures.extends.reads nets at_not) in
    let leaving = c.in_ok-ends.ensures.means nets at_not in
    let net = c.in_ok-net.ensures.means nets reads in
    cc

pub returns-clause-declares : goal.returns-clause-declares
returns-clause-declares c = λ registers sound body.
    let again = c.in_ok-again.ensures.declares registers sound in
    let ends = c.in_ok-ends.ensures.declares registers again.sound again.has in
    c.in_ok-net.ensures.declares registers ends.sound
    (still_has registers _ _ _ (through _ _ _ c.in_ok-again.ensures.extends c.not.ensures.extends) body) ends.has
