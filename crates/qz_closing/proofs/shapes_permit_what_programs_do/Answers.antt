use Rattle.qz_closing.proofs.Permitted.{shapes_permit}
use Rattle.qz_closing.proofs.shapes_permit_what_programs_do.Goals as goal

pub returns : goal.returns
returns c = shapes_permit
