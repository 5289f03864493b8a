use Rattle.qz_interp.proofs.DoubtLemmas as lemmas
use Rattle.qz_interp.proofs.laws.lists_tell_doubts.Goals as goal

pub returns : goal.returns
returns c = lemmas.lists_tell_doubts
