-- The words of the tokens so far.
use Rattle.std.proofs.Common.{◌≡◌, map, take}
use Rattle.qz_lexer.specs.Lexemes.{lexeme}
use Rattle.qz_source.specs.Spots.{spot_of}
use Rattle.qz_source.proofs.words.spots.Given as goal

abbrev pub invariant-loop-token : goal.invariant-loop-token
invariant-loop-token l = l.spots.items ≡ map spot_of (map lexeme (take l.token-index l.tokens))
