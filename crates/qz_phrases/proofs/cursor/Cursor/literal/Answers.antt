use Rattle.std.proofs.Common.{refl}
use Rattle.qz_phrases.proofs.Tokens.{literal_read, literal_lacks}
use Rattle.qz_phrases.proofs.cursor.Cursor.literal.Goals as goal

pub returns-in-Literal : goal.returns-in-Literal
returns-in-Literal c = literal_read c.in-Literal.width c.in-Literal.value c.index-self-self.result c.if-self.false c.in-Literal.is refl refl

pub returns-in_default : goal.returns-in_default
returns-in_default c = literal_lacks c.index-self-self.result c.if-self.false c.in_default.not-Literal
