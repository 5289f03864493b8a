use Rattle.closing_laws.proofs.AllClosed.{systems_close}
use Rattle.closing_laws.proofs.systems_close_their_programs.Goals as goal

pub returns : goal.returns
returns c = systems_close
