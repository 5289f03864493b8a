use Rattle.std.proofs.Common.{refl}
use Rattle.std.proofs.lemmas.Result.{err_from_is_err_and}
use Rattle.qz_phrases.proofs.Combining.{failed, meaning_reads, meaning_fails, seq_first, seq_second, seq_reads, seq_some, fill_then}
use Rattle.qz_syntax.specs.declared.file_statements.FileStmt.TheVariants as stmt
use Rattle.qz_reader.proofs.StatementFills.{semicolon, emitted_fill}
use Rattle.qz_reader.proofs.resting.emit.Goals as goal

pub returns-in_err-pass : goal.returns-in_err-pass
returns-in_err-pass c room =
    let returned = err_from_is_err_and c.from_residual.result c.from_residual.ensures.1 in
    rw (returned.1, returned.2) (failed c.in_err-pass.field-0.0 (c.in_err-pass.ensures room) (λ f. (meaning_fails (λ p. stmt.Emit p.1.0) (seq_first (fill_then emitted_fill semicolon (λ words h. refl)) (λ words h. refl) f))))

pub returns-in_err-target : goal.returns-in_err-target
returns-in_err-target c room =
    let returned = err_from_is_err_and c.from_residual-in_err-target.result c.from_residual-in_err-target.ensures.1 in
    rw (returned.1, returned.2) (failed c.in_err-target.field-0.0 (c.in_err-target.ensures room) (λ f. (meaning_fails (λ p. stmt.Emit p.1.0) (seq_second (fill_then emitted_fill semicolon (λ words h. refl)) (λ words h. refl) (c.in_ok-pass.ensures room).it (seq_first semicolon (λ words h. refl) f)))))

pub returns-in_err-pass-2 : goal.returns-in_err-pass-2
returns-in_err-pass-2 c room =
    let returned = err_from_is_err_and c.from_residual-in_err-pass-2.result c.from_residual-in_err-pass-2.ensures.1 in
    rw (returned.1, returned.2) (failed c.in_err-pass-2.field-0.0 (c.in_err-pass-2.ensures room) (λ f. (meaning_fails (λ p. stmt.Emit p.1.0) (seq_second (fill_then emitted_fill semicolon (λ words h. refl)) (λ words h. refl) (c.in_ok-pass.ensures room).it (seq_second semicolon (λ words h. refl) (c.in_ok-target.ensures room).it f)))))

pub returns : goal.returns
returns c room =
    (meaning_reads (λ p. stmt.Emit p.1.0) (seq_some (c.in_ok-pass.ensures room) (seq_reads (c.in_ok-target.ensures room).it (c.in_ok-pass-2.ensures room).it)))
