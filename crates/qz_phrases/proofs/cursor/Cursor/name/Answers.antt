use Rattle.std.proofs.Common.{◌≡◌, ◌∙◌, ap, sym, refl, rules}
use Rattle.qz_phrases.specs.declared.words.Word.TheVariants as word
use Rattle.qz_phrases.proofs.Tokens.{name_read, name_lacks}
use Rattle.qz_phrases.proofs.cursor.Cursor.name.Goals as goal

pub returns-in_ok-name-in-Name : goal.returns-in_ok-name-in-Name
returns-in_ok-name-in-Name c =
    let same : c.in_ok-name-in-Name.name ≡ c.in-Name.name = search rules in
    name_read c.in_ok-name-in-Name.name c.index-self-self.result c.if-self.false (c.in-Name.is ∙ ap word.Name (sym same)) refl refl

pub returns-in_default : goal.returns-in_default
returns-in_default c = name_lacks c.index-self-self.result c.if-self.false c.in_default.not-Name
