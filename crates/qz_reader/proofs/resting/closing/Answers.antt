use Rattle.std.proofs.Common.{refl}
use Rattle.std.proofs.lemmas.Result.{err_from_is_err_and}
use Rattle.qz_phrases.proofs.Combining.{failed, meaning_reads, meaning_fails, seq_first, seq_second, seq_reads, seq_some, fill_then}
use Rattle.qz_phrases.proofs.Fills.{cond_fill}
use Rattle.qz_reader.proofs.StatementFills.{semicolon}
use Rattle.qz_reader.proofs.resting.closing.Goals as goal

pub returns-in_err-pass : goal.returns-in_err-pass
returns-in_err-pass c some =
    let returned = err_from_is_err_and c.from_residual.result c.from_residual.ensures.1 in
    rw (returned.1, returned.2) (failed c.in_err-pass.field-0.0 (c.in_err-pass.ensures c.args.room) (λ f. (meaning_fails (λ p. p.1.0) (seq_first (fill_then (cond_fill c.args.room some) semicolon (λ words h. refl)) (λ words h. refl) f))))

pub returns-in_err-cond : goal.returns-in_err-cond
returns-in_err-cond c some =
    let returned = err_from_is_err_and c.from_residual-in_err-cond.result c.from_residual-in_err-cond.ensures.1 in
    rw (returned.1, returned.2) (failed c.in_err-cond.field-0.0 (c.in_err-cond.ensures some) (λ f. (meaning_fails (λ p. p.1.0) (seq_second (fill_then (cond_fill c.args.room some) semicolon (λ words h. refl)) (λ words h. refl) (c.in_ok-pass.ensures c.args.room).it (seq_first semicolon (λ words h. refl) f)))))

pub returns-in_err-pass-2 : goal.returns-in_err-pass-2
returns-in_err-pass-2 c some =
    let returned = err_from_is_err_and c.from_residual-in_err-pass-2.result c.from_residual-in_err-pass-2.ensures.1 in
    rw (returned.1, returned.2) (failed c.in_err-pass-2.field-0.0 (c.in_err-pass-2.ensures c.args.room) (λ f. (meaning_fails (λ p. p.1.0) (seq_second (fill_then (cond_fill c.args.room some) semicolon (λ words h. refl)) (λ words h. refl) (c.in_ok-pass.ensures c.args.room).it (seq_second semicolon (λ words h. refl) (c.in_ok-cond.ensures some).it f)))))

pub returns : goal.returns
returns c some =
    (meaning_reads (λ p. p.1.0) (seq_some (c.in_ok-pass.ensures c.args.room) (seq_reads (c.in_ok-cond.ensures some).it (c.in_ok-pass-2.ensures c.args.room).it)))
