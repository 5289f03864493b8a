use Rattle.std.proofs.Common.{◌≡◌, ◌∷◌, ap, sym, ◌∙◌, lit<, arith}
use Rattle.qz_lexer.proofs.TextLemmas.{chars_two, not_two}
use Rattle.qz_lexer.proofs.ValueLemmas.{no_value_start, no_value_count, takes_value}
use Rattle.qz_lexer.proofs.values.value.Goals as goal
use Rattle.qz_lexer.proofs.values.value.Goals.{else-count-ge1-via-then-count-ge1+else-count-le20, else-count-ge1-via-else-count-ge1}

pub returns-in_err-digits : goal.returns-in_err-digits
returns-in_err-digits c =
    rw c.from_residual.ensures (no_value_start _ (not_two 39 100 c.args.text.now (lit< tt) (lit< tt) c.utf8.text c.in_err-digits.ensures.cases))

pub returns-then-count-le20 : goal.returns-then-count-le20
returns-then-count-le20 c =
    let found = c.in_ok-digits.ensures.cases in
    let text : c.args.text.now ≡ 39 ∷ 100 ∷ c.in_ok-digits.digits.now = found.1.1 ∙ ap (λ l. 39 ∷ 100 ∷ l) (sym found.2) in
    takes_value _ _ _ _ (chars_two 39 100 _ _ (lit< tt) (lit< tt) c.utf8.text text) c.skip-count.ensures (omega arith) (omega arith)

pub returns-else-count-ge1 : goal.returns-else-count-ge1
returns-else-count-ge1 c =
    let found = c.in_ok-digits.ensures.cases in
    let text : c.args.text.now ≡ 39 ∷ 100 ∷ c.in_ok-digits.digits.now = found.1.1 ∙ ap (λ l. 39 ∷ 100 ∷ l) (sym found.2) in
    no_value_count _ _ _ _ (chars_two 39 100 _ _ (lit< tt) (lit< tt) c.utf8.text text) c.skip-count.ensures
    (λ some few.
    elim c.else-count-ge1.branch [
      | else-count-ge1-via-then-count-ge1+else-count-le20 w ↦ omega arith
      | else-count-ge1-via-else-count-ge1 w ↦ omega arith
    ])
