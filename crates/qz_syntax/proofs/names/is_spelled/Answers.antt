use Rattle.std.proofs.Common.{sym, ap, ◌∙◌, ◌++◌}
use Rattle.std.proofs.lemmas.Str.{chars_past_char}
use lib.Utf8.{encode}
use Rattle.qz_syntax.proofs.names.is_spelled.Goals as goal

pub returns-then-is_xid_start : goal.returns-then-is_xid_start
returns-then-is_xid_start c =
    let first = c.in-Some.first in
    let split = sym c.chars-characters.ensures.rest ∙ c.in-Some.ensures.steps.0 ∙ ap (λ rest. encode first ++ rest) (sym c.as_str.ensures) in
    rw (chars_past_char c.args.text.now c.as_str.result.now first c.utf8.text split, ← c.is_xid_start.ensures.value, c.if-is_xid_start.true)
    c.all_continue.ensures
