use Rattle.qz_lexer.proofs.CutLemmas.{lexes_same}
use Rattle.qz_lexer.proofs.ExistLemmas.{outcome_exists}
use Rattle.qz_lexer.proofs.lexer.one_outcome.Goals as goal

pub returns : goal.returns
returns c text =
    let found = outcome_exists text in
    record { outcome = found.0; has = found.1; only = λ other has. lexes_same text other found.0 has found.1 }
