use Rattle.std.proofs.Common.{refl}
use Rattle.std.proofs.lemmas.Result.{err_from_is_err_and}
use Rattle.qz_phrases.proofs.Combining.{failed, meaning_reads, meaning_fails, seq_first, seq_second, seq_some}
use Rattle.qz_reader.proofs.StatementFills.{semicolon}
use Rattle.qz_reader.proofs.resting.bare.Goals as goal

pub returns-in_err-at : goal.returns-in_err-at
returns-in_err-at c room =
    let returned = err_from_is_err_and c.from_residual.result c.from_residual.ensures.1 in
    rw (returned.1, returned.2) (failed c.in_err-at.field-0.0 (c.in_err-at.ensures room) (λ f. (meaning_fails (λ p. p.0) (seq_first semicolon (λ words h. refl) f))))

pub returns-in_err-pass : goal.returns-in_err-pass
returns-in_err-pass c room =
    let returned = err_from_is_err_and c.from_residual-in_err-pass.result c.from_residual-in_err-pass.ensures.1 in
    rw (returned.1, returned.2) (failed c.in_err-pass.field-0.0 (c.in_err-pass.ensures room) (λ f. (meaning_fails (λ p. p.0) (seq_second semicolon (λ words h. refl) (c.in_ok-at.ensures room).it f))))

pub returns : goal.returns
returns c room =
    (meaning_reads (λ p. p.0) (seq_some (c.in_ok-at.ensures room) (c.in_ok-pass.ensures room).it))
