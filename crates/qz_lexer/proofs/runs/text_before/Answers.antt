use Rattle.std.proofs.Common.{length, ap, ◌∙◌, arith, encode_utf8_all, length-append}
use Rattle.std.specs.Str.{chars}
use Rattle.qz_lexer.proofs.TextLemmas.{bytes_before, seam, front_bytes, front_chars}
use Rattle.qz_lexer.proofs.runs.text_before.Goals as goal

pub overflow_sub-text : goal.overflow_sub-text
overflow_sub-text c =
    let text = bytes_before c.args.text.now c.args.rest.now c.requires.0 c.utf8.text c.utf8.rest c.requires.1 in
    omega (arith, ap length text, length-append (encode_utf8_all c.requires.0) c.args.rest.now)

pub split_at-requires : goal.split_at-requires
split_at-requires c = seam c.args.text.now c.args.rest.now c.requires.0 c.utf8.text c.utf8.rest c.requires.1

pub returns-clause-bytes : goal.returns-clause-bytes
returns-clause-bytes c front e = c.split_at.ensures.front ∙ front_bytes c.args.text.now c.args.rest.now front c.utf8.text c.utf8.rest e

pub returns-clause-characters : goal.returns-clause-characters
returns-clause-characters c front e = ap chars c.split_at.ensures.front ∙ front_chars c.args.text.now c.args.rest.now front c.utf8.text c.utf8.rest e
