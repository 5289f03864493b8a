use Rattle.std.proofs.Common.{◌≡◌, ◌∷◌, ap, sym, ◌∙◌, lit<, subst}
use Rattle.std.specs.Str.{chars}
use Rattle.qz_lexer.proofs.TextLemmas.{chars_two, not_two, utf8_past_two}
use Rattle.qz_lexer.specs.Runs.{Takes}
use Rattle.qz_lexer.specs.Blanks.{IsBlockComment}
use Rattle.qz_lexer.proofs.CommentLemmas.{no_block_start, no_block_end, takes_block, no_end, end_chars, end_first}
use Rattle.qz_lexer.proofs.comments.block_comment.Goals as goal

pub returns-in_err-inside : goal.returns-in_err-inside
returns-in_err-inside c =
    rw c.from_residual.ensures (no_block_start _ (not_two 47 42 c.args.text.now (lit< tt) (lit< tt) c.utf8.text c.in_err-inside.ensures.cases))

pub returns-in_err-after : goal.returns-in_err-after
returns-in_err-after c =
    let found = c.in_ok-inside.ensures.cases in
    let text : c.args.text.now ≡ 47 ∷ 42 ∷ c.in_ok-inside.inside.now = found.1.1 ∙ ap (λ l. 47 ∷ 42 ∷ l) (sym found.2) in
    let inside = utf8_past_two 47 42 _ _ (lit< tt) (lit< tt) c.utf8.text text in
    rw c.from_residual-in_err-after.ensures
    (no_block_end _ _ (chars_two 47 42 _ _ (lit< tt) (lit< tt) c.utf8.text text) (no_end _ inside c.in_err-after.ensures.cases))

pub returns : goal.returns
returns c =
    let found = c.in_ok-inside.ensures.cases in
    let text : c.args.text.now ≡ 47 ∷ 42 ∷ c.in_ok-inside.inside.now = found.1.1 ∙ ap (λ l. 47 ∷ 42 ∷ l) (sym found.2) in
    let inside = utf8_past_two 47 42 _ _ (lit< tt) (lit< tt) c.utf8.text text in
    let end = c.in_ok-after.ensures.cases in
    let split = end.2.1.split in
    subst (λ after. Takes IsBlockComment (chars c.args.text.now) (chars after)) (sym end.4)
    (takes_block _ _ _ _ (chars_two 47 42 _ _ (lit< tt) (lit< tt) c.utf8.text text) (end_chars _ _ _ inside split) (end_first _ _ _ inside split end.2.0))
