use Rattle.std.proofs.Common.{refl, true, false, arith}
use Rattle.std.proofs.lemmas.Result.{err_from_is_err_and}
use Rattle.qz_phrases.specs.declared.words.Mark.TheVariants as mark
use Rattle.qz_phrases.proofs.Combining.{failed, meaning_reads, meaning_fails, seq_first, seq_second, seq_some, fill_then, start_is, started_reads, started_fails, no_phrase, then, always}
use Rattle.qz_syntax.specs.declared.file_statements.FileStmt.TheVariants as stmt
use Rattle.qz_phrases.specs.Phrases.{one}
use Rattle.qz_phrases.specs.StatementParts.{a_cond, awaited}
use Rattle.qz_phrases.proofs.Handing.{started_hands}
use Rattle.qz_phrases.proofs.Fills.{cond_fill}
use Rattle.qz_reader.specs.Starts.{rest_start}
use Rattle.qz_reader.specs.Statements.{rest_row}
use Rattle.qz_reader.proofs.Leading.{led_deep, grounded}
use Rattle.qz_reader.proofs.Hollow.{no_await, no_cond_end, await_here, immediate_here}
use Rattle.qz_reader.proofs.StatementFills.{semicolon, await_fill}
use Rattle.qz_reader.proofs.resting.resting.Goals as goal

pub returns-in_err-bare-in-Pause : goal.returns-in_err-bare-in-Pause
returns-in_err-bare-in-Pause c =
    let returned = err_from_is_err_and c.from_residual.result c.from_residual.ensures.1 in
    rw (returned.1, returned.2) (failed c.in_err-bare-in-Pause.field-0.0 (c.in_err-bare-in-Pause.ensures c.args.room) (λ f. started_fails rest_start (rest_row c.args.label) (start_is rest_start c.args.cursor.now c.peek.ensures c.of.ensures c.in-Pause.is) (meaning_fails (λ _. stmt.Pause c.args.label) f)))

pub returns-in_ok-bare-in-Pause : goal.returns-in_ok-bare-in-Pause
returns-in_ok-bare-in-Pause c =
    started_reads rest_start (rest_row c.args.label) (start_is rest_start c.args.cursor.now c.peek.ensures c.of.ensures c.in-Pause.is) (meaning_reads (λ _. stmt.Pause c.args.label) (c.in_ok-bare-in-Pause.ensures c.args.room))

pub returns-in_err-bare-in-Halt : goal.returns-in_err-bare-in-Halt
returns-in_err-bare-in-Halt c =
    let returned = err_from_is_err_and c.from_residual-in_err-bare-in-Halt.result c.from_residual-in_err-bare-in-Halt.ensures.1 in
    rw (returned.1, returned.2) (failed c.in_err-bare-in-Halt.field-0.0 (c.in_err-bare-in-Halt.ensures c.args.room) (λ f. started_fails rest_start (rest_row c.args.label) (start_is rest_start c.args.cursor.now c.peek.ensures c.of.ensures c.in-Halt.is) (meaning_fails (λ _. stmt.Halt c.args.label) f)))

pub returns-in_ok-bare-in-Halt : goal.returns-in_ok-bare-in-Halt
returns-in_ok-bare-in-Halt c =
    started_reads rest_start (rest_row c.args.label) (start_is rest_start c.args.cursor.now c.peek.ensures c.of.ensures c.in-Halt.is) (meaning_reads (λ _. stmt.Halt c.args.label) (c.in_ok-bare-in-Halt.ensures c.args.room))

pub returns-in_err-pass-in-Immediate : goal.returns-in_err-pass-in-Immediate
returns-in_err-pass-in-Immediate c =
    let returned = err_from_is_err_and c.from_residual-in_err-pass-in-Immediate.result c.from_residual-in_err-pass-in-Immediate.ensures.1 in
    rw (returned.1, returned.2) (failed c.in_err-pass-in-Immediate.field-0.0 (c.in_err-pass-in-Immediate.ensures c.args.room) (λ f. started_fails rest_start (rest_row c.args.label) (start_is rest_start c.args.cursor.now c.peek.ensures c.of.ensures c.in-Immediate.is) (meaning_fails (λ p. p.1) (seq_first (await_fill c.args.label true c.args.room c.if-room-lt1-2.false) (λ words h. refl) f))))

pub returns-in_err-rest-in-Immediate : goal.returns-in_err-rest-in-Immediate
returns-in_err-rest-in-Immediate c =
    let returned = err_from_is_err_and c.from_residual-in_err-rest-in-Immediate.result c.from_residual-in_err-rest-in-Immediate.ensures.1 in
    rw (returned.1, returned.2) (failed c.in_err-rest-in-Immediate.field-0.0 (c.in_err-rest-in-Immediate.ensures c.if-room-lt1-2.false) (λ f. started_fails rest_start (rest_row c.args.label) (start_is rest_start c.args.cursor.now c.peek.ensures c.of.ensures c.in-Immediate.is) (meaning_fails (λ p. p.1) (seq_second (await_fill c.args.label true c.args.room c.if-room-lt1-2.false) (λ words h. refl) (c.in_ok-pass-in-Immediate.ensures c.args.room).it f))))

pub returns-in_ok-rest-in-Immediate : goal.returns-in_ok-rest-in-Immediate
returns-in_ok-rest-in-Immediate c =
    started_reads rest_start (rest_row c.args.label) (start_is rest_start c.args.cursor.now c.peek.ensures c.of.ensures c.in-Immediate.is) (meaning_reads (λ p. p.1) (seq_some (c.in_ok-pass-in-Immediate.ensures c.args.room) (c.in_ok-rest-in-Immediate.ensures c.if-room-lt1-2.false).it))

pub returns-then-room-lt1 : goal.returns-then-room-lt1
returns-then-room-lt1 c =
    started_fails rest_start (rest_row c.args.label) (start_is rest_start c.args.cursor.now c.peek.ensures c.of.ensures c.in-Await.is) (led_deep mark.Await (λ p. stmt.Await c.args.label false p.1.0) (await_here _ (start_is rest_start c.args.cursor.now c.peek.ensures c.of.ensures c.in-Await.is)) (fill_then (cond_fill 1 (omega arith)) semicolon (λ words h. refl)) (grounded (then a_cond (always (one mark.Semicolon))) c.args.room c.if-room-lt1.true no_cond_end))

pub returns-then-room-lt1-2 : goal.returns-then-room-lt1-2
returns-then-room-lt1-2 c =
    started_fails rest_start (rest_row c.args.label) (start_is rest_start c.args.cursor.now c.peek.ensures c.of.ensures c.in-Immediate.is) (led_deep mark.Immediate (λ p. p.1) (immediate_here _ (start_is rest_start c.args.cursor.now c.peek.ensures c.of.ensures c.in-Immediate.is)) (await_fill c.args.label true 1 (omega arith)) (grounded (awaited c.args.label true) c.args.room c.if-room-lt1-2.true (no_await c.args.label true)))

pub returns-else-room-lt1 : goal.returns-else-room-lt1
returns-else-room-lt1 c =
    started_hands rest_start (rest_row c.args.label) c.args.room c.args.cursor.now c.awaited.new.cursor (start_is rest_start c.args.cursor.now c.peek.ensures c.of.ensures c.in-Await.is) c.awaited.result (c.awaited.ensures c.if-room-lt1.false)

pub returns-in-None : goal.returns-in-None
returns-in-None c =
    started_fails rest_start (rest_row c.args.label) (start_is rest_start c.args.cursor.now c.peek.ensures c.of.ensures c.in-None.is) (no_phrase (λ others agrees levels y rest h. h))
