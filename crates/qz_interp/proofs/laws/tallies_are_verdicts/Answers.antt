use Rattle.qz_interp.proofs.TallyLemmas as lemmas
use Rattle.qz_interp.proofs.laws.tallies_are_verdicts.Goals as goal

pub returns : goal.returns
returns c = lemmas.tallies_are_verdicts
