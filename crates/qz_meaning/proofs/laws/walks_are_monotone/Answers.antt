use Rattle.qz_meaning.proofs.OpenRising.{whole_rises, open_rises}
use Rattle.qz_meaning.proofs.laws.walks_are_monotone.Goals as goal

pub returns-clause-whole : goal.returns-clause-whole
returns-clause-whole c = whole_rises

pub returns-clause-answered : goal.returns-clause-answered
returns-clause-answered c = open_rises
