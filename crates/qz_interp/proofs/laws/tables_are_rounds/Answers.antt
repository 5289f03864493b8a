use Rattle.qz_interp.proofs.RoundLemmas as lemmas
use Rattle.qz_interp.proofs.laws.tables_are_rounds.Goals as goal

pub returns : goal.returns
returns c = lemmas.tables_are_rounds
