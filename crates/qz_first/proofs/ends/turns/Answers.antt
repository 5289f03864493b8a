use Rattle.qz_first.proofs.Declaring.{still_has}
use Rattle.qz_first.proofs.Growing.{through}
use Rattle.qz_first.proofs.ends.turns.Goals as goal

pub returns-clause-extends : goal.returns-clause-extends
returns-clause-extends c = through _ _ _ c.in_ok-again.ensures.extends c.and.ensures.extends

pub returns-clause-means : goal.returns-clause-means
returns-clause-means c = λ nets reads.
    let again = c.in_ok-again.ensures.means nets (c.and.ensures.extends.reads nets reads) in
    let net = c.in_ok-net.ensures.means nets reads in
    cc

pub returns-clause-declares : goal.returns-clause-declares
returns-clause-declares c = λ registers sound body.
    let again = c.in_ok-again.ensures.declares registers sound in
    c.in_ok-net.ensures.declares registers again.sound (still_has registers _ _ _ c.in_ok-again.ensures.extends body) again.has
