use Rattle.qz_first.proofs.Declaring.{still_has}
use Rattle.qz_first.proofs.Growing.{through}
use Rattle.qz_first.proofs.ends.ends_after.Goals as goal

pub returns-clause-extends : goal.returns-clause-extends
returns-clause-extends c = through _ _ _ c.and.ensures.extends c.or.ensures.extends

pub returns-clause-means : goal.returns-clause-means
returns-clause-means c = λ nets reads.
    let passed = c.in_ok-passed.ensures.means nets (c.or.ensures.extends.reads nets reads) in
    let net = c.in_ok-net.ensures.means nets reads in
    cc

pub returns-clause-declares : goal.returns-clause-declares
returns-clause-declares c = λ registers sound before at_once resumed.
    let passed = c.in_ok-passed.ensures.declares registers sound before at_once in
    c.in_ok-net.ensures.declares registers passed.sound passed.has (still_has registers _ _ _ c.and.ensures.extends resumed)
