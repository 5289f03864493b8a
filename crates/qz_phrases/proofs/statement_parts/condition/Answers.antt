use Rattle.std.proofs.Common.{refl}
use Rattle.std.proofs.lemmas.Result.{err_from_is_err_and}
use Rattle.qz_phrases.specs.declared.words.Mark.TheVariants as mark
use Rattle.qz_phrases.proofs.Combining.{failed, meaning_reads, meaning_fails, seq_first, seq_second, seq_reads, seq_some, fill_then}
use Rattle.qz_phrases.proofs.Fills.{mark_fill, expr_fill}
use Rattle.qz_phrases.proofs.statement_parts.condition.Goals as goal

pub returns-in_err-at : goal.returns-in_err-at
returns-in_err-at c some =
    let returned = err_from_is_err_and c.from_residual.result c.from_residual.ensures.1 in
    rw (returned.1, returned.2) (failed c.in_err-at.field-0.0 (c.in_err-at.ensures c.args.room) (λ f. meaning_fails (λ p. record { at = p.0; expr = p.1.0 }) (seq_first (fill_then (expr_fill c.args.room some) (mark_fill mark.CloseParen) (λ words h. refl)) (λ words h. refl) f)))

pub returns-in_err-expr : goal.returns-in_err-expr
returns-in_err-expr c some =
    let returned = err_from_is_err_and c.from_residual-in_err-expr.result c.from_residual-in_err-expr.ensures.1 in
    rw (returned.1, returned.2) (failed c.in_err-expr.field-0.0 (c.in_err-expr.ensures) (λ f. meaning_fails (λ p. record { at = p.0; expr = p.1.0 }) (seq_second (fill_then (expr_fill c.args.room some) (mark_fill mark.CloseParen) (λ words h. refl)) (λ words h. refl) (c.in_ok-at.ensures c.args.room).it (seq_first (mark_fill mark.CloseParen) (λ words h. refl) f))))

pub returns-in_err-pass : goal.returns-in_err-pass
returns-in_err-pass c some =
    let returned = err_from_is_err_and c.from_residual-in_err-pass.result c.from_residual-in_err-pass.ensures.1 in
    rw (returned.1, returned.2) (failed c.in_err-pass.field-0.0 (c.in_err-pass.ensures c.args.room) (λ f. meaning_fails (λ p. record { at = p.0; expr = p.1.0 }) (seq_second (fill_then (expr_fill c.args.room some) (mark_fill mark.CloseParen) (λ words h. refl)) (λ words h. refl) (c.in_ok-at.ensures c.args.room).it (seq_second (mark_fill mark.CloseParen) (λ words h. refl) (c.in_ok-expr.ensures).it f))))

pub returns : goal.returns
returns c some =
    meaning_reads (λ p. record { at = p.0; expr = p.1.0 }) (seq_some (c.in_ok-at.ensures c.args.room) (seq_reads (c.in_ok-expr.ensures).it (c.in_ok-pass.ensures c.args.room).it))
