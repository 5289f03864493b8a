use Rattle.source_laws.proofs.TextFaults.{parse_text}
use Rattle.source_laws.proofs.parse_is_of_texts.Goals as goal

pub returns : goal.returns
returns c bytes offset wrong = parse_text bytes offset wrong
