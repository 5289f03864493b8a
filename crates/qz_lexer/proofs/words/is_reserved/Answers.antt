use Rattle.std.proofs.Common.{◌≡◌, ◌∙◌, bytes_eq}
use Rattle.std.specs.List.{list_any}
use Rattle.qz_lexer.specs.Words.{reserved_words}
use Rattle.qz_lexer.proofs.WordLemmas.{is_reserved-bytes}
use Rattle.qz_lexer.proofs.words.is_reserved.Goals as goal

pub returns : goal.returns
unfolding reserved_words
returns c =
    let by_bytes : c.contains.result ≡ list_any (λ word. bytes_eq word c.args.word.now) reserved_words = c.contains.ensures.value in
    by_bytes ∙ is_reserved-bytes c.args.word.now c.utf8.word
