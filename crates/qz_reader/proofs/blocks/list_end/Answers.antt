use Rattle.std.proofs.Common.{true, false}
use Rattle.std.proofs.lemmas.Result.{err_from_is_err_and}
use Rattle.qz_phrases.proofs.Combining.{failed, meaning_reads, meaning_fails, always, start_is, started_reads, started_fails, no_phrase}
use Rattle.qz_reader.specs.Starts.{end_start}
use Rattle.qz_reader.specs.Statements.{end_row}
use Rattle.qz_reader.proofs.blocks.list_end.Goals as goal

pub returns-in_err-pass-in-Bars : goal.returns-in_err-pass-in-Bars
returns-in_err-pass-in-Bars c room =
    let returned = err_from_is_err_and c.from_residual.result c.from_residual.ensures.1 in
    rw (returned.1, returned.2) (failed c.in_err-pass-in-Bars.field-0.0 (c.in_err-pass-in-Bars.ensures room) (λ f. started_fails end_start (λ e. always (end_row e)) (start_is end_start c.args.cursor.now c.peek.ensures c.of.ensures c.in-Bars.is) (meaning_fails (λ _. true) f)))

pub returns-in_ok-pass-in-Bars : goal.returns-in_ok-pass-in-Bars
returns-in_ok-pass-in-Bars c room =
    started_reads end_start (λ e. always (end_row e)) (start_is end_start c.args.cursor.now c.peek.ensures c.of.ensures c.in-Bars.is) (meaning_reads (λ _. true) (c.in_ok-pass-in-Bars.ensures room))

pub returns-in_err-pass-in-Brace : goal.returns-in_err-pass-in-Brace
returns-in_err-pass-in-Brace c room =
    let returned = err_from_is_err_and c.from_residual-in_err-pass-in-Brace.result c.from_residual-in_err-pass-in-Brace.ensures.1 in
    rw (returned.1, returned.2) (failed c.in_err-pass-in-Brace.field-0.0 (c.in_err-pass-in-Brace.ensures room) (λ f. started_fails end_start (λ e. always (end_row e)) (start_is end_start c.args.cursor.now c.peek.ensures c.of.ensures c.in-Brace.is) (meaning_fails (λ _. false) f)))

pub returns-in_ok-pass-in-Brace : goal.returns-in_ok-pass-in-Brace
returns-in_ok-pass-in-Brace c room =
    started_reads end_start (λ e. always (end_row e)) (start_is end_start c.args.cursor.now c.peek.ensures c.of.ensures c.in-Brace.is) (meaning_reads (λ _. false) (c.in_ok-pass-in-Brace.ensures room))

pub returns-in-None : goal.returns-in-None
returns-in-None c room =
    started_fails end_start (λ e. always (end_row e)) (start_is end_start c.args.cursor.now c.peek.ensures c.of.ensures c.in-None.is) (no_phrase (λ others agrees levels y rest h. h))
