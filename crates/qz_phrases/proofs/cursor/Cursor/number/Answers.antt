use Rattle.std.proofs.Common.{refl}
use Rattle.qz_phrases.proofs.Tokens.{number_read, number_lacks}
use Rattle.qz_phrases.proofs.cursor.Cursor.number.Goals as goal

pub returns-in-Number : goal.returns-in-Number
returns-in-Number c = number_read c.in-Number.value c.index-self-self.result c.if-self.false c.in-Number.is refl refl

pub returns-in_default : goal.returns-in_default
returns-in_default c = number_lacks c.index-self-self.result c.if-self.false c.in_default.not-Number
