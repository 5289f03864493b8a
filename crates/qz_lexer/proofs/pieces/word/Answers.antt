use Rattle.std.proofs.Common.{◌≡◌, sym, ap, ◌∙◌, arith, subst, Some}
use Rattle.std.specs.Str.{chars}
use Rattle.qz_lexer.specs.declared.tokens.TokenKind.{TokenKind}
use Rattle.qz_lexer.specs.Pieces.{BeginsWith}
use Rattle.qz_lexer.specs.Words.{is_reserved}
use Rattle.qz_lexer.proofs.PieceLemmas.{no_long_word, begins_name, begins_keyword}
use Rattle.qz_lexer.proofs.pieces.word.Goals as goal
use Rattle.qz_lexer.proofs.pieces.word.Goals.{then-is_reserved, else-is_reserved}

pub returns-then-count-gt64 : goal.returns-then-count-gt64
returns-then-count-gt64 c =
    let run = c.skip-count.ensures in
    no_long_word _ run.run _ c.requires run.split run.whole (omega arith)

pub text_before-requires : goal.text_before-requires
text_before-requires c = (c.skip-count.ensures.run, c.skip-count.ensures.split)

pub returns : goal.returns
returns c =
    let run = c.skip-count.ensures in
    let tested : c.is_reserved.result ≡ is_reserved run.run = c.is_reserved.ensures ∙ ap is_reserved (c.text_before.ensures.characters run.run run.split) in
    let begins : TokenKind → Type 0 = λ kind. BeginsWith (chars c.args.text.now) (Some kind) (chars c.skip-count.result.1.now) in
    elim c.if-is_reserved.branch [
      | then-is_reserved w ↦ subst begins (sym w.kind-is) (begins_keyword _ run.run _ c.requires run.split run.whole (omega arith) (sym tested ∙ w.if-is_reserved.true))
      | else-is_reserved w ↦ subst begins (sym w.kind-is) (begins_name _ run.run _ c.requires run.split run.whole (omega arith) (sym tested ∙ w.if-is_reserved.false))
    ]
