use Rattle.std.proofs.Common.{◌∙◌, ap}
use Rattle.qz_phrases.proofs.Combining.{start_is}
use Rattle.qz_phrases.specs.Words.{type_start}
use Rattle.qz_phrases.proofs.Typings.{no_type, some_type}
use Rattle.qz_phrases.proofs.declarations.type_or_bool.Goals as goal

pub returns-in-None : goal.returns-in-None
returns-in-None c room = no_type c.args.cursor.now room (start_is type_start c.args.cursor.now c.peek.ensures c.ty.ensures c.in-None.is)

pub returns-in_default : goal.returns-in_default
returns-in_default c room = some_type c.args.cursor.now c.type_text.new.cursor room c.ty.result (c.ty.ensures ∙ ap type_start c.peek.ensures) c.in_default.not-None c.type_text.result (c.type_text.ensures room)
