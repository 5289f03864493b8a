-- The two lists of words are one.
use Rattle.std.proofs.Common.{ℕ, List, ◌≡◌, refl, ap}
use Rattle.std.specs.List.{list_any}
use Rattle.std.specs.Str.{bytes_eq}
use Rattle.qz_lexer.specs.Words.{reserved_words as lexer_words}
use Rattle.qz_syntax.specs.Spelling.{reserved_words}
use Rattle.qz_first.proofs.reader.reserved_words_agree.Goals as goal

same_words : lexer_words ≡ reserved_words
unfolding lexer_words reserved_words
same_words = refl

pub returns : goal.returns
returns c characters = ap (λ (words : List (List ℕ)). list_any (λ word. bytes_eq word characters) words) same_words
