use Rattle.qz_reader.specs.Texts.{most}
use Rattle.qz_source.proofs.source.file_of.Goals as goal

pub returns-in-Ok-clause-only : goal.returns-in-Ok-clause-only
returns-in-Ok-clause-only c other is = c.in-Ok.ensures.only most other is
