use Rattle.printer_laws.proofs.Laws.{is_printed_again}
use Rattle.printer_laws.proofs.canonical_text_is_printed_again.Goals as goal

pub returns : goal.returns
returns c f g spelled only = is_printed_again f g spelled only
