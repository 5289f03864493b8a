use Rattle.printer_laws.proofs.Laws.{is_read}
use Rattle.printer_laws.proofs.canonical_text_is_read.Goals as goal

pub returns : goal.returns
returns c f spelled = is_read f spelled
