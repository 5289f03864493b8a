use Rattle.qz_interp.proofs.LastLemmas as lemmas
use Rattle.qz_interp.proofs.laws.rounds_come_to_a_decision.Goals as goal

pub returns-clause-zero : goal.returns-clause-zero
returns-clause-zero c = lemmas.nothing_is_round_zero

pub returns-clause-last : goal.returns-clause-last
returns-clause-last c = lemmas.unchanged_is_last

pub returns-clause-definite : goal.returns-clause-definite
returns-clause-definite c = lemmas.undoubted_is_definite

pub returns-clause-doubted : goal.returns-clause-doubted
returns-clause-doubted c = lemmas.doubted_is_not_definite
