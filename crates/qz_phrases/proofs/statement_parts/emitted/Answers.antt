use Rattle.std.proofs.Common.{refl}
use Rattle.std.proofs.lemmas.Result.{err_from_is_err_and}
use Rattle.qz_phrases.specs.declared.words.Mark.TheVariants as mark
use Rattle.qz_phrases.proofs.Combining.{always, start_is, started_reads, started_fails, failed, meaning_reads, meaning_fails, seq_first, seq_second, seq_reads, seq_some, fill_then}
use Rattle.qz_phrases.proofs.Fills.{mark_fill}
use Rattle.qz_phrases.specs.Words.{emit_start}
use Rattle.qz_phrases.specs.StatementParts.{emitted_row}
use Rattle.qz_phrases.proofs.Fills.{target_fill}
use Rattle.qz_phrases.proofs.statement_parts.emitted.Goals as goal

pub returns-in_err-pass-in-Paren : goal.returns-in_err-pass-in-Paren
returns-in_err-pass-in-Paren c room =
    let returned = err_from_is_err_and c.from_residual.result c.from_residual.ensures.1 in
    rw (returned.1, returned.2) (failed c.in_err-pass-in-Paren.field-0.0 (c.in_err-pass-in-Paren.ensures room) (λ f. started_fails emit_start (λ start. always (emitted_row start)) (start_is emit_start c.args.cursor.now c.peek.ensures c.emit.ensures c.in-Paren.is) (meaning_fails (λ p. p.1.0) (seq_first (fill_then target_fill (mark_fill mark.CloseParen) (λ words h. refl)) (λ words h. refl) f))))

pub returns-in_err-inside-in-Paren : goal.returns-in_err-inside-in-Paren
returns-in_err-inside-in-Paren c room =
    let returned = err_from_is_err_and c.from_residual-in_err-inside-in-Paren.result c.from_residual-in_err-inside-in-Paren.ensures.1 in
    rw (returned.1, returned.2) (failed c.in_err-inside-in-Paren.field-0.0 (c.in_err-inside-in-Paren.ensures room) (λ f. started_fails emit_start (λ start. always (emitted_row start)) (start_is emit_start c.args.cursor.now c.peek.ensures c.emit.ensures c.in-Paren.is) (meaning_fails (λ p. p.1.0) (seq_second (fill_then target_fill (mark_fill mark.CloseParen) (λ words h. refl)) (λ words h. refl) (c.in_ok-pass-in-Paren.ensures room).it (seq_first (mark_fill mark.CloseParen) (λ words h. refl) f)))))

pub returns-in_err-pass-in-Paren-2 : goal.returns-in_err-pass-in-Paren-2
returns-in_err-pass-in-Paren-2 c room =
    let returned = err_from_is_err_and c.from_residual-in_err-pass-in-Paren-2.result c.from_residual-in_err-pass-in-Paren-2.ensures.1 in
    rw (returned.1, returned.2) (failed c.in_err-pass-in-Paren-2.field-0.0 (c.in_err-pass-in-Paren-2.ensures room) (λ f. started_fails emit_start (λ start. always (emitted_row start)) (start_is emit_start c.args.cursor.now c.peek.ensures c.emit.ensures c.in-Paren.is) (meaning_fails (λ p. p.1.0) (seq_second (fill_then target_fill (mark_fill mark.CloseParen) (λ words h. refl)) (λ words h. refl) (c.in_ok-pass-in-Paren.ensures room).it (seq_second (mark_fill mark.CloseParen) (λ words h. refl) (c.in_ok-inside-in-Paren.ensures room).it f)))))

pub returns-in_ok-pass-in-Paren-2 : goal.returns-in_ok-pass-in-Paren-2
returns-in_ok-pass-in-Paren-2 c room =
    started_reads emit_start (λ start. always (emitted_row start)) (start_is emit_start c.args.cursor.now c.peek.ensures c.emit.ensures c.in-Paren.is) (meaning_reads (λ p. p.1.0) (seq_some (c.in_ok-pass-in-Paren.ensures room) (seq_reads (c.in_ok-inside-in-Paren.ensures room).it (c.in_ok-pass-in-Paren-2.ensures room).it)))

pub returns-in_err-plain-in-Target : goal.returns-in_err-plain-in-Target
returns-in_err-plain-in-Target c room =
    let returned = err_from_is_err_and c.from_residual-in_err-plain-in-Target.result c.from_residual-in_err-plain-in-Target.ensures.1 in
    rw (returned.1, returned.2) (failed c.in_err-plain-in-Target.field-0.0 (c.in_err-plain-in-Target.ensures room) (λ f. started_fails emit_start (λ start. always (emitted_row start)) (start_is emit_start c.args.cursor.now c.peek.ensures c.emit.ensures c.in-Target.is) (f)))

pub returns-in_ok-plain-in-Target : goal.returns-in_ok-plain-in-Target
returns-in_ok-plain-in-Target c room =
    started_reads emit_start (λ start. always (emitted_row start)) (start_is emit_start c.args.cursor.now c.peek.ensures c.emit.ensures c.in-Target.is) ((c.in_ok-plain-in-Target.ensures room))
