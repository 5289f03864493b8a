use Rattle.std.proofs.Common.{◌≡◌, ◌∷◌, ap, sym, ◌∙◌, lit<}
use Rattle.qz_lexer.proofs.TextLemmas.{chars_two, not_two}
use Rattle.qz_lexer.proofs.CommentLemmas.{no_line, takes_line}
use Rattle.qz_lexer.proofs.comments.line_comment.Goals as goal

pub returns-in_err-line : goal.returns-in_err-line
returns-in_err-line c =
    rw c.from_residual.ensures (no_line _ (not_two 47 47 c.args.text.now (lit< tt) (lit< tt) c.utf8.text c.in_err-line.ensures.cases))

pub returns : goal.returns
returns c =
    let found = c.in_ok-line.ensures.cases in
    let text : c.args.text.now ≡ 47 ∷ 47 ∷ c.in_ok-line.line.now = found.1.1 ∙ ap (λ l. 47 ∷ 47 ∷ l) (sym found.2) in
    takes_line _ _ _ _ (chars_two 47 47 _ _ (lit< tt) (lit< tt) c.utf8.text text) c.skip.ensures
