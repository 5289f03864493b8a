use Rattle.std.proofs.Common.{ap, sym, ◌∙◌, ◌∷◌}
use Rattle.std.specs.Str.{chars}
use Rattle.std.proofs.lemmas.Str.{chars_past_char}
use Rattle.qz_lexer.proofs.runs.first_char.Goals as goal

pub returns : goal.returns
returns c =
    chars_past_char c.args.text.now _ c.in_ok-first.first c.utf8.text (sym c.chars-cursor.ensures.rest ∙ c.in_ok-first.ensures.steps.0)
    ∙ ap (λ rest. c.in_ok-first.first ∷ chars rest) (sym c.as_str.ensures)
