use Rattle.std.proofs.Common.{refl, false, Some, arith}
use Rattle.std.proofs.lemmas.Result.{err_from_is_err_and}
use Rattle.qz_phrases.specs.declared.words.Mark.TheVariants as mark
use Rattle.qz_phrases.proofs.Combining.{failed, meaning_reads, meaning_fails, seq_first, seq_second, seq_some, fill_then, start_is, started_reads, started_fails, no_phrase, then, always}
use Rattle.qz_syntax.specs.declared.file_statements.FileStmt.TheVariants as stmt
use Rattle.qz_phrases.specs.Phrases.{one}
use Rattle.qz_phrases.specs.Expressions.{an_expr}
use Rattle.qz_phrases.proofs.Fills.{expr_fill}
use Rattle.qz_reader.specs.Starts.{named_start}
use Rattle.qz_reader.specs.Statements.{named_row}
use Rattle.qz_reader.proofs.Leading.{led_deep, grounded}
use Rattle.qz_reader.proofs.Hollow.{no_expr_end, equals_here}
use Rattle.qz_reader.proofs.StatementFills.{semicolon, resting_fill}
use Rattle.qz_reader.proofs.resting.after_name.Goals as goal

pub returns-in_err-equals-in-Equals : goal.returns-in_err-equals-in-Equals
returns-in_err-equals-in-Equals c =
    let returned = err_from_is_err_and c.from_residual.result c.from_residual.ensures.1 in
    rw (returned.1, returned.2) (failed c.in_err-equals-in-Equals.field-0.0 (c.in_err-equals-in-Equals.ensures c.if-room-lt1.false) (λ f. started_fails named_start (named_row c.args.name) (start_is named_start c.args.cursor.now c.peek.ensures c.of.ensures c.in-Equals.is) (meaning_fails (λ p. stmt.Assign (record { next = false; name = c.args.name }) p.0 p.1) f)))

pub returns-in_ok-equals-in-Equals : goal.returns-in_ok-equals-in-Equals
returns-in_ok-equals-in-Equals c =
    started_reads named_start (named_row c.args.name) (start_is named_start c.args.cursor.now c.peek.ensures c.of.ensures c.in-Equals.is) (meaning_reads (λ p. stmt.Assign (record { next = false; name = c.args.name }) p.0 p.1) (c.in_ok-equals-in-Equals.ensures c.if-room-lt1.false))

pub returns-in_err-args-in-Paren : goal.returns-in_err-args-in-Paren
returns-in_err-args-in-Paren c =
    let returned = err_from_is_err_and c.from_residual-in_err-args-in-Paren.result c.from_residual-in_err-args-in-Paren.ensures.1 in
    rw (returned.1, returned.2) (failed c.in_err-args-in-Paren.field-0.0 (c.in_err-args-in-Paren.ensures) (λ f. started_fails named_start (named_row c.args.name) (start_is named_start c.args.cursor.now c.peek.ensures c.of.ensures c.in-Paren.is) (meaning_fails (λ es. stmt.Call c.args.name es) f)))

pub returns-in_ok-args-in-Paren : goal.returns-in_ok-args-in-Paren
returns-in_ok-args-in-Paren c =
    started_reads named_start (named_row c.args.name) (start_is named_start c.args.cursor.now c.peek.ensures c.of.ensures c.in-Paren.is) (meaning_reads (λ es. stmt.Call c.args.name es) (c.in_ok-args-in-Paren.ensures))

pub returns-in_err-pass-in-Colon : goal.returns-in_err-pass-in-Colon
returns-in_err-pass-in-Colon c =
    let returned = err_from_is_err_and c.from_residual-in_err-pass-in-Colon.result c.from_residual-in_err-pass-in-Colon.ensures.1 in
    rw (returned.1, returned.2) (failed c.in_err-pass-in-Colon.field-0.0 (c.in_err-pass-in-Colon.ensures c.args.room) (λ f. started_fails named_start (named_row c.args.name) (start_is named_start c.args.cursor.now c.peek.ensures c.of.ensures c.in-Colon.is) (meaning_fails (λ p. p.1) (seq_first (resting_fill (Some c.args.name)) (λ words h. refl) f))))

pub returns-in_err-rest-in-Colon : goal.returns-in_err-rest-in-Colon
returns-in_err-rest-in-Colon c =
    let returned = err_from_is_err_and c.from_residual-in_err-rest-in-Colon.result c.from_residual-in_err-rest-in-Colon.ensures.1 in
    rw (returned.1, returned.2) (failed c.in_err-rest-in-Colon.field-0.0 (c.in_err-rest-in-Colon.ensures) (λ f. started_fails named_start (named_row c.args.name) (start_is named_start c.args.cursor.now c.peek.ensures c.of.ensures c.in-Colon.is) (meaning_fails (λ p. p.1) (seq_second (resting_fill (Some c.args.name)) (λ words h. refl) (c.in_ok-pass-in-Colon.ensures c.args.room).it f))))

pub returns-in_ok-rest-in-Colon : goal.returns-in_ok-rest-in-Colon
returns-in_ok-rest-in-Colon c =
    started_reads named_start (named_row c.args.name) (start_is named_start c.args.cursor.now c.peek.ensures c.of.ensures c.in-Colon.is) (meaning_reads (λ p. p.1) (seq_some (c.in_ok-pass-in-Colon.ensures c.args.room) (c.in_ok-rest-in-Colon.ensures).it))

pub returns-then-room-lt1 : goal.returns-then-room-lt1
returns-then-room-lt1 c =
    started_fails named_start (named_row c.args.name) (start_is named_start c.args.cursor.now c.peek.ensures c.of.ensures c.in-Equals.is) (meaning_fails (λ p. stmt.Assign (record { next = false; name = c.args.name }) p.0 p.1) (led_deep mark.Equals (λ p. (p.0, p.1.0)) (equals_here _ (start_is named_start c.args.cursor.now c.peek.ensures c.of.ensures c.in-Equals.is)) (fill_then (expr_fill 1 (omega arith)) semicolon (λ words h. refl)) (grounded (then (an_expr 1) (always (one mark.Semicolon))) c.args.room c.if-room-lt1.true no_expr_end)))

pub returns-in-None : goal.returns-in-None
returns-in-None c =
    started_fails named_start (named_row c.args.name) (start_is named_start c.args.cursor.now c.peek.ensures c.of.ensures c.in-None.is) (no_phrase (λ others agrees levels y rest h. h))
