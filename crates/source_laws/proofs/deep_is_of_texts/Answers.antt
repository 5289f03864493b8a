use Rattle.source_laws.proofs.TextFaults.{deep_text}
use Rattle.source_laws.proofs.deep_is_of_texts.Goals as goal

pub returns : goal.returns
returns c bytes offset wrong = deep_text bytes offset wrong
