use Rattle.std.proofs.Common.{◌≡◌, sym, ap, ◌∙◌}
use Rattle.std.specs.Str.{chars}
use Rattle.qz_syntax.proofs.SpellingLemmas.{texts_as_characters}
use Rattle.qz_syntax.proofs.names.NamePartialEq.eq.Goals as goal

pub returns : goal.returns
returns c =
    let one = c.as_str.result.now in
    let two = c.as_str-2.result.now in
    let e : c.args.self.now ≡ chars one = sym c.self.view_is ∙ ap chars (sym c.as_str.ensures.value) in
    let f : c.args.other.now ≡ chars two = sym c.other.view_is ∙ ap chars (sym c.as_str-2.ensures.value) in
    c.eq.ensures ∙ texts_as_characters one two c.as_str.utf8 c.as_str-2.utf8 ∙ rw (e, f)
