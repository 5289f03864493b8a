use Rattle.std.proofs.Common.{◌∙◌}
use Rattle.qz_syntax.specs.Spelling.{reserved_words}
use Rattle.qz_syntax.proofs.SpellingLemmas.{reserved_as_characters}
use Rattle.qz_syntax.proofs.names.is_reserved.Goals as goal

pub returns : goal.returns
unfolding reserved_words
returns c = c.is_among.ensures ∙ reserved_as_characters c.args.text.now c.utf8.text
