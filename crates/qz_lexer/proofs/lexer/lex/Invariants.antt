use Rattle.std.proofs.Common.{length, map}
use denote.Text.{Utf8}
use denote.Shadow.{shadow}
use Rattle.std.specs.Str.{chars}
use Rattle.qz_lexer.specs.Lexemes.{lexeme}
use Rattle.qz_lexer.proofs.LexLemmas.{CutSoFar}
use Rattle.qz_lexer.proofs.lexer.lex.Given as goal

-- The text is cut up to the rest, with these tokens.
abbrev pub invariant-loop-rest : goal.invariant-loop-rest
invariant-loop-rest l = record {
  utf8 : shadow (Utf8 l.rest);
  so_far : CutSoFar (chars l.text) (chars l.rest) (map lexeme l.tokens.items);
}

abbrev pub decreases-loop-rest : goal.decreases-loop-rest
decreases-loop-rest l = length l.rest
