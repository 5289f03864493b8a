use Rattle.std.proofs.Common.{rules, ◌≡◌, ◌∙◌, ◌-◌, ◌≤◌, true, [], Err, Some, None, refl, sym, ap, subst, arith}
use Rattle.std.proofs.lemmas.Result.{err_from_is_err_and}
use Rattle.qz_syntax.specs.declared.file_statements.FileStmt.TheVariants as stmt
use Rattle.qz_phrases.specs.declared.words.Mark.TheVariants as mark
use Rattle.qz_phrases.specs.Phrases.{one}
use Rattle.qz_phrases.specs.Reading.{ReadsSome, Reads}
use Rattle.qz_phrases.proofs.Climbing.{shorter}
use Rattle.qz_phrases.proofs.Combining.{always, failed, meaning_reads, meaning_fails, seq_first, seq_second, seq_reads, seq_some, fill_then, start_is, started_reads, started_fails, no_phrase}
use Rattle.qz_phrases.proofs.Handing.{started_hands, nest_hands}
use Rattle.qz_phrases.proofs.Typings.{skims, reads}
use Rattle.qz_reader.specs.declared.starts.StmtStart.TheVariants as starts
use Rattle.qz_reader.specs.Starts.{preempt_start, weak_start, immediate_start, else_start, ends_list, stmt_start, stmt_need}
use Rattle.qz_reader.specs.Statements.{guarded, preempted, an_else, lists, decls, rounded, a_stmt}
use Rattle.qz_reader.proofs.Listing.{StmtsSoFar, no_stmts, stmts_more, stmts_fails, stmts_unended, stmts_end, ListsSoFar, no_lists, lists_more, lists_fails, lists_end}
use Rattle.qz_reader.proofs.StatementFills.{closing_fill, stmt_fill, else_fill, decls_fill, lists_fill, preemption_fill, after_weak_fill, after_immediate_fill}
use Rattle.qz_reader.proofs.StatementDepth.{stmt_kind, stmt_nests, stmt_deep, no_stmt, as_reads, as_fails, as_hands, some_need, preempt_kind, weak_kind, immediate_kind, else_kind, else_missing}
use Rattle.qz_reader.proofs.statements.+statement.Goals as goal

pub conditional-returns-in_err-cond : goal.conditional-returns-in_err-cond
conditional-returns-in_err-cond t c =
    record { reads = λ some. let returned = err_from_is_err_and c.from_residual.result c.from_residual.ensures.1 in rw (returned.1, returned.2) (failed c.in_err-cond.field-0.0 (c.in_err-cond.ensures some) (λ f. (meaning_fails (λ p. stmt.If p.0 p.1.0 p.1.1) (seq_first (fill_then (stmt_fill c.args.room some) else_fill (λ words h. h)) (λ words h. refl) f)))) }

pub conditional-returns-in_err-yes : goal.conditional-returns-in_err-yes
conditional-returns-in_err-yes t c =
    record { reads = λ some. let returned = err_from_is_err_and c.from_residual-in_err-yes.result c.from_residual-in_err-yes.ensures.1 in rw (returned.1, returned.2) (failed c.in_err-yes.field-0.0 (c.in_err-yes.ensures.reads) (λ f. (meaning_fails (λ p. stmt.If p.0 p.1.0 p.1.1) (seq_second (fill_then (stmt_fill c.args.room some) else_fill (λ words h. h)) (λ words h. refl) (c.in_ok-cond.ensures some).it (seq_first else_fill (λ words h. h) f))))) }

pub conditional-returns-in_err-no : goal.conditional-returns-in_err-no
conditional-returns-in_err-no t c =
    record { reads = λ some. let returned = err_from_is_err_and c.from_residual-in_err-no.result c.from_residual-in_err-no.ensures.1 in rw (returned.1, returned.2) (failed c.in_err-no.field-0.0 (reads (λ levels. an_else (a_stmt levels)) c.args.room c.inner.new.cursor c.other.new.cursor c.in_err-no.field-0.0 (c.in_err-no.ensures.reads some)) (λ f. (meaning_fails (λ p. stmt.If p.0 p.1.0 p.1.1) (seq_second (fill_then (stmt_fill c.args.room some) else_fill (λ words h. h)) (λ words h. refl) (c.in_ok-cond.ensures some).it (seq_second else_fill (λ words h. h) (c.in_ok-yes.ensures.reads).it f))))) }

pub conditional-returns : goal.conditional-returns
conditional-returns t c =
    record { reads = λ some. (meaning_reads (λ p. stmt.If p.0 p.1.0 p.1.1) (seq_some (c.in_ok-cond.ensures some) (seq_reads (c.in_ok-yes.ensures.reads).it (c.in_ok-no.ensures.reads some)))) }

pub do_while-returns-in_err-pass : goal.do_while-returns-in_err-pass
do_while-returns-in_err-pass t c =
    record { reads = λ some. let returned = err_from_is_err_and c.from_residual.result c.from_residual.ensures.1 in rw (returned.1, returned.2) (failed c.in_err-pass.field-0.0 (c.in_err-pass.ensures c.args.room) (λ f. (meaning_fails (λ p. stmt.DoWhile p.1.0 p.1.1) (seq_first (fill_then (stmt_fill c.args.room some) (closing_fill mark.While c.args.room some) (λ words h. refl)) (λ words h. refl) f)))) }

pub do_while-returns-in_err-body : goal.do_while-returns-in_err-body
do_while-returns-in_err-body t c =
    record { reads = λ some. let returned = err_from_is_err_and c.from_residual-in_err-body.result c.from_residual-in_err-body.ensures.1 in rw (returned.1, returned.2) (failed c.in_err-body.field-0.0 (c.in_err-body.ensures.reads) (λ f. (meaning_fails (λ p. stmt.DoWhile p.1.0 p.1.1) (seq_second (fill_then (stmt_fill c.args.room some) (closing_fill mark.While c.args.room some) (λ words h. refl)) (λ words h. refl) (c.in_ok-pass.ensures c.args.room).it (seq_first (closing_fill mark.While c.args.room some) (λ words h. refl) f))))) }

pub do_while-returns-in_err-cond : goal.do_while-returns-in_err-cond
do_while-returns-in_err-cond t c =
    record { reads = λ some. let returned = err_from_is_err_and c.from_residual-in_err-cond.result c.from_residual-in_err-cond.ensures.1 in rw (returned.1, returned.2) (failed c.in_err-cond.field-0.0 (c.in_err-cond.ensures some) (λ f. (meaning_fails (λ p. stmt.DoWhile p.1.0 p.1.1) (seq_second (fill_then (stmt_fill c.args.room some) (closing_fill mark.While c.args.room some) (λ words h. refl)) (λ words h. refl) (c.in_ok-pass.ensures c.args.room).it (seq_second (closing_fill mark.While c.args.room some) (λ words h. refl) (c.in_ok-body.ensures.reads).it f))))) }

pub do_while-returns : goal.do_while-returns
do_while-returns t c =
    record { reads = λ some. (meaning_reads (λ p. stmt.DoWhile p.1.0 p.1.1) (seq_some (c.in_ok-pass.ensures c.args.room) (seq_reads (c.in_ok-body.ensures.reads).it (c.in_ok-cond.ensures some).it))) }

pub loop_statement-returns-in_err-pass : goal.loop_statement-returns-in_err-pass
loop_statement-returns-in_err-pass t c =
    record { reads = λ some. let returned = err_from_is_err_and c.from_residual.result c.from_residual.ensures.1 in rw (returned.1, returned.2) (failed c.in_err-pass.field-0.0 (c.in_err-pass.ensures c.args.room) (λ f. (meaning_fails (λ p. stmt.Loop p.1) (seq_first (stmt_fill c.args.room some) (λ words h. refl) f)))) }

pub loop_statement-returns-in_err-body : goal.loop_statement-returns-in_err-body
loop_statement-returns-in_err-body t c =
    record { reads = λ some. let returned = err_from_is_err_and c.from_residual-in_err-body.result c.from_residual-in_err-body.ensures.1 in rw (returned.1, returned.2) (failed c.in_err-body.field-0.0 (c.in_err-body.ensures.reads) (λ f. (meaning_fails (λ p. stmt.Loop p.1) (seq_second (stmt_fill c.args.room some) (λ words h. refl) (c.in_ok-pass.ensures c.args.room).it f)))) }

pub loop_statement-returns : goal.loop_statement-returns
loop_statement-returns t c =
    record { reads = λ some. (meaning_reads (λ p. stmt.Loop p.1) (seq_some (c.in_ok-pass.ensures c.args.room) (c.in_ok-body.ensures.reads).it)) }

pub weak-returns-in_err-pass : goal.weak-returns-in_err-pass
weak-returns-in_err-pass t c =
    record { reads = λ some. let returned = err_from_is_err_and c.from_residual.result c.from_residual.ensures.1 in rw (returned.1, returned.2) (failed c.in_err-pass.field-0.0 (c.in_err-pass.ensures c.args.room) (λ f. (meaning_fails (λ p. p.1) (seq_first (after_weak_fill c.args.room some) (λ words h. refl) f)))) }

pub weak-returns-in_err-found : goal.weak-returns-in_err-found
weak-returns-in_err-found t c =
    record { reads = λ some. let returned = err_from_is_err_and c.from_residual-in_err-found.result c.from_residual-in_err-found.ensures.1 in rw (returned.1, returned.2) (failed c.in_err-found.field-0.0 (c.in_err-found.ensures.reads some) (λ f. (meaning_fails (λ p. p.1) (seq_second (after_weak_fill c.args.room some) (λ words h. refl) (c.in_ok-pass.ensures c.args.room).it f)))) }

pub weak-returns : goal.weak-returns
weak-returns t c =
    record { reads = λ some. (meaning_reads (λ p. p.1) (seq_some (c.in_ok-pass.ensures c.args.room) (c.in_ok-found.ensures.reads some).it)) }

pub immediate-returns-in_err-pass : goal.immediate-returns-in_err-pass
immediate-returns-in_err-pass t c =
    record { reads = λ some. let returned = err_from_is_err_and c.from_residual.result c.from_residual.ensures.1 in rw (returned.1, returned.2) (failed c.in_err-pass.field-0.0 (c.in_err-pass.ensures c.args.room) (λ f. (meaning_fails (λ p. p.1) (seq_first (after_immediate_fill c.args.room some) (λ words h. refl) f)))) }

pub immediate-returns-in_err-found : goal.immediate-returns-in_err-found
immediate-returns-in_err-found t c =
    record { reads = λ some. let returned = err_from_is_err_and c.from_residual-in_err-found.result c.from_residual-in_err-found.ensures.1 in rw (returned.1, returned.2) (failed c.in_err-found.field-0.0 (c.in_err-found.ensures.reads some) (λ f. (meaning_fails (λ p. p.1) (seq_second (after_immediate_fill c.args.room some) (λ words h. refl) (c.in_ok-pass.ensures c.args.room).it f)))) }

pub immediate-returns : goal.immediate-returns
immediate-returns t c =
    record { reads = λ some. (meaning_reads (λ p. p.1) (seq_some (c.in_ok-pass.ensures c.args.room) (c.in_ok-found.ensures.reads some).it)) }

pub block-returns-in_err-pass : goal.block-returns-in_err-pass
block-returns-in_err-pass t c =
    record { reads = let returned = err_from_is_err_and c.from_residual.result c.from_residual.ensures.1 in rw (returned.1, returned.2) (failed c.in_err-pass.field-0.0 (c.in_err-pass.ensures c.args.room) (λ f. (meaning_fails (λ p. record { decls = p.1.0; lists = p.1.1 }) (seq_first (fill_then decls_fill lists_fill (λ words h. refl)) (λ words h. refl) f)))) }

pub block-returns-in_err-decls : goal.block-returns-in_err-decls
block-returns-in_err-decls t c =
    record { reads = let returned = err_from_is_err_and c.from_residual-in_err-decls.result c.from_residual-in_err-decls.ensures.1 in rw (returned.1, returned.2) (failed c.in_err-decls.field-0.0 (reads (always decls) c.args.room c.pass.new.self c.declarations.new.cursor c.in_err-decls.field-0.0 (c.in_err-decls.ensures c.args.room)) (λ f. (meaning_fails (λ p. record { decls = p.1.0; lists = p.1.1 }) (seq_second (fill_then decls_fill lists_fill (λ words h. refl)) (λ words h. refl) (c.in_ok-pass.ensures c.args.room).it (seq_first lists_fill (λ words h. refl) f))))) }

pub block-returns-in_err-lists : goal.block-returns-in_err-lists
block-returns-in_err-lists t c =
    record { reads = let returned = err_from_is_err_and c.from_residual-in_err-lists.result c.from_residual-in_err-lists.ensures.1 in rw (returned.1, returned.2) (failed c.in_err-lists.field-0.0 (reads (λ levels. lists (a_stmt levels)) c.args.room c.declarations.new.cursor c.lists.new.cursor c.in_err-lists.field-0.0 c.in_err-lists.ensures.reads) (λ f. (meaning_fails (λ p. record { decls = p.1.0; lists = p.1.1 }) (seq_second (fill_then decls_fill lists_fill (λ words h. refl)) (λ words h. refl) (c.in_ok-pass.ensures c.args.room).it (seq_second lists_fill (λ words h. refl) (c.in_ok-decls.ensures c.args.room) f))))) }

pub block-returns : goal.block-returns
block-returns t c =
    record { reads = (meaning_reads (λ p. record { decls = p.1.0; lists = p.1.1 }) (seq_some (c.in_ok-pass.ensures c.args.room) (seq_reads (c.in_ok-decls.ensures c.args.room) (c.in_ok-lists.ensures.reads)))) }

pub preempting-returns-in_err-pass : goal.preempting-returns-in_err-pass
preempting-returns-in_err-pass t c =
    record { reads = λ some. let returned = err_from_is_err_and c.from_residual.result c.from_residual.ensures.1 in rw (returned.1, returned.2) (failed c.in_err-pass.field-0.0 (subst (λ m. Reads (always (one m)) c.args.room c.args.cursor.now c.pass.new.self (Err c.in_err-pass.field-0.0)) c.mark.ensures (c.in_err-pass.ensures c.args.room)) (λ f. (meaning_fails (λ q. preempted c.args.form c.args.weak c.args.immediate q.1.0 q.1.1) (seq_first (fill_then (stmt_fill c.args.room some) (closing_fill mark.When c.args.room some) (λ words h. refl)) (λ words h. refl) f)))) }

pub preempting-returns-in_err-body : goal.preempting-returns-in_err-body
preempting-returns-in_err-body t c =
    record { reads = λ some. let opened = rw c.mark.ensures at (c.in_ok-pass.ensures c.args.room) in let returned = err_from_is_err_and c.from_residual-in_err-body.result c.from_residual-in_err-body.ensures.1 in rw (returned.1, returned.2) (failed c.in_err-body.field-0.0 (c.in_err-body.ensures.reads) (λ f. (meaning_fails (λ q. preempted c.args.form c.args.weak c.args.immediate q.1.0 q.1.1) (seq_second (fill_then (stmt_fill c.args.room some) (closing_fill mark.When c.args.room some) (λ words h. refl)) (λ words h. refl) opened.it (seq_first (closing_fill mark.When c.args.room some) (λ words h. refl) f))))) }

pub preempting-returns-in_err-cond : goal.preempting-returns-in_err-cond
preempting-returns-in_err-cond t c =
    record { reads = λ some. let opened = rw c.mark.ensures at (c.in_ok-pass.ensures c.args.room) in let returned = err_from_is_err_and c.from_residual-in_err-cond.result c.from_residual-in_err-cond.ensures.1 in rw (returned.1, returned.2) (failed c.in_err-cond.field-0.0 (c.in_err-cond.ensures some) (λ f. (meaning_fails (λ q. preempted c.args.form c.args.weak c.args.immediate q.1.0 q.1.1) (seq_second (fill_then (stmt_fill c.args.room some) (closing_fill mark.When c.args.room some) (λ words h. refl)) (λ words h. refl) opened.it (seq_second (closing_fill mark.When c.args.room some) (λ words h. refl) (c.in_ok-body.ensures.reads).it f))))) }

pub preempting-returns : goal.preempting-returns
preempting-returns t c =
    record { reads = λ some. let opened = rw c.mark.ensures at (c.in_ok-pass.ensures c.args.room) in rw c.preempted.ensures (meaning_reads (λ q. preempted c.args.form c.args.weak c.args.immediate q.1.0 q.1.1) (seq_some opened (seq_reads (c.in_ok-body.ensures.reads).it (c.in_ok-cond.ensures some).it))) }

pub round_statement-returns-in_err-cond : goal.round_statement-returns-in_err-cond
round_statement-returns-in_err-cond t c =
    record { reads = λ some. let returned = err_from_is_err_and c.from_residual.result c.from_residual.ensures.1 in rw (returned.1, returned.2) (failed c.in_err-cond.field-0.0 (subst (λ m. Reads (guarded m) c.args.room c.args.cursor.now c.guarded.new.cursor (Err c.in_err-cond.field-0.0)) c.mark.ensures (c.in_err-cond.ensures some)) (λ f. (meaning_fails (λ p. rounded c.args.round p.0 p.1) (seq_first (stmt_fill c.args.room some) (λ words h. refl) f)))) }

pub round_statement-returns-in_err-body : goal.round_statement-returns-in_err-body
round_statement-returns-in_err-body t c =
    record { reads = λ some. let opened = rw c.mark.ensures at (c.in_ok-cond.ensures some) in let returned = err_from_is_err_and c.from_residual-in_err-body.result c.from_residual-in_err-body.ensures.1 in rw (returned.1, returned.2) (failed c.in_err-body.field-0.0 (c.in_err-body.ensures.reads) (λ f. (meaning_fails (λ p. rounded c.args.round p.0 p.1) (seq_second (stmt_fill c.args.room some) (λ words h. refl) opened.it f)))) }

pub round_statement-returns : goal.round_statement-returns
round_statement-returns t c =
    record { reads = λ some. let opened = rw c.mark.ensures at (c.in_ok-cond.ensures some) in rw c.rounded.ensures (meaning_reads (λ p. rounded c.args.round p.0 p.1) (seq_some opened (c.in_ok-body.ensures.reads).it)) }

pub statement-returns-then-room-need : goal.statement-returns-then-room-need
statement-returns-then-room-need t c =
    record { reads = stmt_deep c.args.cursor.now c.of-start.result c.args.room (c.of-start.ensures ∙ ap stmt_start c.peek.ensures) (omega (arith, c.if-room-need.true, c.need.ensures)) }

pub statement-returns-in-None : goal.statement-returns-in-None
statement-returns-in-None t c =
    record { reads = no_stmt c.args.cursor.now c.of-start.result c.args.room (c.of-start.ensures ∙ ap stmt_start c.peek.ensures) c.in-None.is }

pub statement-returns-in_default : goal.statement-returns-in_default
statement-returns-in_default t c =
    let some : 1 ≤ c.args.room = omega (arith, some_need c.of-start.result c.in_default.not-None, c.need.ensures, c.if-room-need.false) in
    record {
      reads = nest_hands stmt_nests c.args.room c.args.cursor.now c.by_start.new.cursor some c.by_start.result
          (started_hands stmt_start stmt_kind (c.args.room - 1) c.args.cursor.now c.by_start.new.cursor (c.of-start.ensures ∙ ap stmt_start c.peek.ensures) c.by_start.result (c.by_start.ensures.reads (omega (arith, some, c.need.ensures, c.if-room-need.false))));
    }

pub statement-overflow_sub-room : goal.statement-overflow_sub-room
statement-overflow_sub-room t c =
    omega (arith, some_need c.of-start.result c.in_default.not-None, c.need.ensures, c.if-room-need.false)

pub by_start-returns-in_err-bare-in-Nothing : goal.by_start-returns-in_err-bare-in-Nothing
by_start-returns-in_err-bare-in-Nothing t c =
    record { reads = λ need. let returned = err_from_is_err_and c.from_residual.result c.from_residual.ensures.1 in rw (returned.1, returned.2) (failed c.in_err-bare-in-Nothing.field-0.0 (c.in_err-bare-in-Nothing.ensures c.args.room) (λ f. as_fails c.in-Nothing.is (meaning_fails (λ _. stmt.Nothing) f))) }

pub by_start-returns-in_ok-bare-in-Nothing : goal.by_start-returns-in_ok-bare-in-Nothing
by_start-returns-in_ok-bare-in-Nothing t c =
    record { reads = λ need. as_reads c.in-Nothing.is (meaning_reads (λ _. stmt.Nothing) (c.in_ok-bare-in-Nothing.ensures c.args.room)) }

pub by_start-returns-in_err-bare-in-Pause : goal.by_start-returns-in_err-bare-in-Pause
by_start-returns-in_err-bare-in-Pause t c =
    record { reads = λ need. let returned = err_from_is_err_and c.from_residual-in_err-bare-in-Pause.result c.from_residual-in_err-bare-in-Pause.ensures.1 in rw (returned.1, returned.2) (failed c.in_err-bare-in-Pause.field-0.0 (c.in_err-bare-in-Pause.ensures c.args.room) (λ f. as_fails c.in-Pause.is (meaning_fails (λ _. (stmt.Pause None)) f))) }

pub by_start-returns-in_ok-bare-in-Pause : goal.by_start-returns-in_ok-bare-in-Pause
by_start-returns-in_ok-bare-in-Pause t c =
    record { reads = λ need. as_reads c.in-Pause.is (meaning_reads (λ _. (stmt.Pause None)) (c.in_ok-bare-in-Pause.ensures c.args.room)) }

pub by_start-returns-in_err-bare-in-Halt : goal.by_start-returns-in_err-bare-in-Halt
by_start-returns-in_err-bare-in-Halt t c =
    record { reads = λ need. let returned = err_from_is_err_and c.from_residual-in_err-bare-in-Halt.result c.from_residual-in_err-bare-in-Halt.ensures.1 in rw (returned.1, returned.2) (failed c.in_err-bare-in-Halt.field-0.0 (c.in_err-bare-in-Halt.ensures c.args.room) (λ f. as_fails c.in-Halt.is (meaning_fails (λ _. (stmt.Halt None)) f))) }

pub by_start-returns-in_ok-bare-in-Halt : goal.by_start-returns-in_ok-bare-in-Halt
by_start-returns-in_ok-bare-in-Halt t c =
    record { reads = λ need. as_reads c.in-Halt.is (meaning_reads (λ _. (stmt.Halt None)) (c.in_ok-bare-in-Halt.ensures c.args.room)) }

pub by_start-returns-in_err-block-in-Block : goal.by_start-returns-in_err-block-in-Block
by_start-returns-in_err-block-in-Block t c =
    record { reads = λ need. let returned = err_from_is_err_and c.from_residual-in_err-block-in-Block.result c.from_residual-in_err-block-in-Block.ensures.1 in rw (returned.1, returned.2) (failed c.in_err-block-in-Block.field-0.0 c.in_err-block-in-Block.ensures.reads (λ f. as_fails c.in-Block.is (meaning_fails (λ b. stmt.Block b) f))) }

pub by_start-returns-in_ok-block-in-Block : goal.by_start-returns-in_ok-block-in-Block
by_start-returns-in_ok-block-in-Block t c =
    record { reads = λ need. as_reads c.in-Block.is (meaning_reads (λ b. stmt.Block b) c.in_ok-block-in-Block.ensures.reads) }

pub by_start-returns-in-None : goal.by_start-returns-in-None
by_start-returns-in-None t c =
    record { reads = λ need. as_fails c.in-None.is (no_phrase (λ others agrees levels y rest h. h)) }

pub by_start-returns-in-Await : goal.by_start-returns-in-Await
by_start-returns-in-Await t c =
    record { reads = λ need. as_hands c.args.start starts.Await c.args.room c.args.cursor.now c.awaited.new.cursor c.awaited.result c.in-Await.is (c.awaited.ensures (omega (arith, need, ap stmt_need c.in-Await.is))) }

pub by_start-returns-in-Immediate : goal.by_start-returns-in-Immediate
by_start-returns-in-Immediate t c =
    record { reads = λ need. as_hands c.args.start starts.Immediate c.args.room c.args.cursor.now c.immediate.new.cursor c.immediate.result c.in-Immediate.is (c.immediate.ensures.reads (omega (arith, need, ap stmt_need c.in-Immediate.is))) }

pub by_start-returns-in-Weak : goal.by_start-returns-in-Weak
by_start-returns-in-Weak t c =
    record { reads = λ need. as_hands c.args.start starts.Weak c.args.room c.args.cursor.now c.weak.new.cursor c.weak.result c.in-Weak.is (c.weak.ensures.reads (omega (arith, need, ap stmt_need c.in-Weak.is))) }

pub by_start-returns-in-Preempt : goal.by_start-returns-in-Preempt
by_start-returns-in-Preempt t c =
    record { reads = λ need. as_hands c.args.start (starts.Preempt c.in-Preempt.form) c.args.room c.args.cursor.now c.preempting.new.cursor c.preempting.result c.in-Preempt.is (c.preempting.ensures.reads (omega (arith, need, ap stmt_need c.in-Preempt.is))) }

pub by_start-returns-in-Next : goal.by_start-returns-in-Next
by_start-returns-in-Next t c =
    record { reads = λ need. as_hands c.args.start starts.Next c.args.room c.args.cursor.now c.next_assigned.new.cursor c.next_assigned.result c.in-Next.is (c.next_assigned.ensures (omega (arith, need, ap stmt_need c.in-Next.is))) }

pub by_start-returns-in-If : goal.by_start-returns-in-If
by_start-returns-in-If t c =
    record { reads = λ need. as_hands c.args.start starts.If c.args.room c.args.cursor.now c.conditional.new.cursor c.conditional.result c.in-If.is (c.conditional.ensures.reads (omega (arith, need, ap stmt_need c.in-If.is))) }

pub by_start-returns-in-Do : goal.by_start-returns-in-Do
by_start-returns-in-Do t c =
    record { reads = λ need. as_hands c.args.start starts.Do c.args.room c.args.cursor.now c.do_while.new.cursor c.do_while.result c.in-Do.is (c.do_while.ensures.reads (omega (arith, need, ap stmt_need c.in-Do.is))) }

pub by_start-returns-in-Round : goal.by_start-returns-in-Round
by_start-returns-in-Round t c =
    record { reads = λ need. as_hands c.args.start (starts.Round c.in-Round.round) c.args.room c.args.cursor.now c.round_statement.new.cursor c.round_statement.result c.in-Round.is (c.round_statement.ensures.reads (omega (arith, need, ap stmt_need c.in-Round.is))) }

pub by_start-returns-in-Loop : goal.by_start-returns-in-Loop
by_start-returns-in-Loop t c =
    record { reads = λ need. as_hands c.args.start starts.Loop c.args.room c.args.cursor.now c.loop_statement.new.cursor c.loop_statement.result c.in-Loop.is (c.loop_statement.ensures.reads (omega (arith, need, ap stmt_need c.in-Loop.is))) }

pub by_start-returns-in-Name : goal.by_start-returns-in-Name
by_start-returns-in-Name t c =
    record { reads = λ need. as_hands c.args.start starts.Name c.args.room c.args.cursor.now c.named.new.cursor c.named.result c.in-Name.is (c.named.ensures) }

pub by_start-returns-in-Emit : goal.by_start-returns-in-Emit
by_start-returns-in-Emit t c =
    record { reads = λ need. as_hands c.args.start starts.Emit c.args.room c.args.cursor.now c.emit.new.cursor c.emit.result c.in-Emit.is (c.emit.ensures c.args.room) }

pub inner-returns-in_err-found : goal.inner-returns-in_err-found
inner-returns-in_err-found t c =
    record { reads = let returned = err_from_is_err_and c.from_residual.result c.from_residual.ensures.1 in rw (returned.1, returned.2) (failed c.in_err-found.field-0.0 c.in_err-found.ensures.reads (λ f. f)) }

pub inner-returns-in_err-boxed : goal.inner-returns-in_err-boxed
inner-returns-in_err-boxed t c =
    record { reads = let returned = err_from_is_err_and c.from_residual-in_err-boxed.result c.from_residual-in_err-boxed.ensures.1 in rw (returned.1, returned.2) tt }

pub inner-returns : goal.inner-returns
inner-returns t c =
    let boxed : c.in_ok-boxed.boxed ≡ c.in_ok-found.found = search rules in
    record { reads = subst (λ s. ReadsSome a_stmt c.args.room c.args.cursor.now c.statement.new.cursor s) (sym boxed) c.in_ok-found.ensures.reads }

pub preemption-returns-in-Form : goal.preemption-returns-in-Form
preemption-returns-in-Form t c =
    record { reads = λ some. started_hands preempt_start (preempt_kind c.args.weak c.args.immediate) c.args.room c.args.cursor.now c.preempting.new.cursor (start_is preempt_start c.args.cursor.now c.peek.ensures c.of.ensures c.in-Form.is) c.preempting.result (c.preempting.ensures.reads some) }

pub preemption-returns-in-None : goal.preemption-returns-in-None
preemption-returns-in-None t c =
    record { reads = λ some. started_fails preempt_start (preempt_kind c.args.weak c.args.immediate) (start_is preempt_start c.args.cursor.now c.peek.ensures c.of.ensures c.in-None.is) (no_phrase (λ others agrees levels y rest h. h)) }

pub after_weak-returns-in_err-pass-in-Immediate : goal.after_weak-returns-in_err-pass-in-Immediate
after_weak-returns-in_err-pass-in-Immediate t c =
    record { reads = λ some. let returned = err_from_is_err_and c.from_residual.result c.from_residual.ensures.1 in rw (returned.1, returned.2) (failed c.in_err-pass-in-Immediate.field-0.0 (c.in_err-pass-in-Immediate.ensures c.args.room) (λ f. started_fails weak_start weak_kind (start_is weak_start c.args.cursor.now c.peek.ensures c.of.ensures c.in-Immediate.is) (meaning_fails (λ p. p.1) (seq_first (preemption_fill true true c.args.room some) (λ words h. refl) f)))) }

pub after_weak-returns-in_err-found-in-Immediate : goal.after_weak-returns-in_err-found-in-Immediate
after_weak-returns-in_err-found-in-Immediate t c =
    record { reads = λ some. let returned = err_from_is_err_and c.from_residual-in_err-found-in-Immediate.result c.from_residual-in_err-found-in-Immediate.ensures.1 in rw (returned.1, returned.2) (failed c.in_err-found-in-Immediate.field-0.0 (c.in_err-found-in-Immediate.ensures.reads some) (λ f. started_fails weak_start weak_kind (start_is weak_start c.args.cursor.now c.peek.ensures c.of.ensures c.in-Immediate.is) (meaning_fails (λ p. p.1) (seq_second (preemption_fill true true c.args.room some) (λ words h. refl) (c.in_ok-pass-in-Immediate.ensures c.args.room).it f)))) }

pub after_weak-returns-in_ok-found-in-Immediate : goal.after_weak-returns-in_ok-found-in-Immediate
after_weak-returns-in_ok-found-in-Immediate t c =
    record { reads = λ some. started_reads weak_start weak_kind (start_is weak_start c.args.cursor.now c.peek.ensures c.of.ensures c.in-Immediate.is) (meaning_reads (λ p. p.1) (seq_some (c.in_ok-pass-in-Immediate.ensures c.args.room) (c.in_ok-found-in-Immediate.ensures.reads some).it)) }

pub after_weak-returns-in-Plain : goal.after_weak-returns-in-Plain
after_weak-returns-in-Plain t c =
    record { reads = λ some. started_hands weak_start weak_kind c.args.room c.args.cursor.now c.preemption-in-Plain.new.cursor (start_is weak_start c.args.cursor.now c.peek.ensures c.of.ensures c.in-Plain.is) c.preemption-in-Plain.result (c.preemption-in-Plain.ensures.reads some) }

pub after_immediate-returns-in-Await : goal.after_immediate-returns-in-Await
after_immediate-returns-in-Await t c =
    record { reads = λ some. started_hands immediate_start immediate_kind c.args.room c.args.cursor.now c.awaited.new.cursor (start_is immediate_start c.args.cursor.now c.peek.ensures c.of.ensures c.in-Await.is) c.awaited.result (c.awaited.ensures some) }

pub after_immediate-returns-in-Preempt : goal.after_immediate-returns-in-Preempt
after_immediate-returns-in-Preempt t c =
    record { reads = λ some. started_hands immediate_start immediate_kind c.args.room c.args.cursor.now c.preemption.new.cursor (start_is immediate_start c.args.cursor.now c.peek.ensures c.of.ensures c.in-Preempt.is) c.preemption.result (c.preemption.ensures.reads some) }

pub other-returns-in_err-pass-in-Else : goal.other-returns-in_err-pass-in-Else
other-returns-in_err-pass-in-Else t c =
    record { reads = λ some. let returned = err_from_is_err_and c.from_residual.result c.from_residual.ensures.1 in rw (returned.1, returned.2) (skims (λ levels. an_else (a_stmt levels)) c.args.room c.args.cursor.now c.pass.new.self c.in_err-pass-in-Else.field-0.0 (failed c.in_err-pass-in-Else.field-0.0 (c.in_err-pass-in-Else.ensures c.args.room) (λ f. started_fails else_start else_kind (start_is else_start c.args.cursor.now c.peek.ensures c.of.ensures c.in-Else.is) (meaning_fails (λ p. Some p.1) (seq_first (stmt_fill c.args.room some) (λ words h. refl) f))))) }

pub other-returns-in_err-side-in-Else : goal.other-returns-in_err-side-in-Else
other-returns-in_err-side-in-Else t c =
    record { reads = λ some. let returned = err_from_is_err_and c.from_residual-in_err-side-in-Else.result c.from_residual-in_err-side-in-Else.ensures.1 in rw (returned.1, returned.2) (skims (λ levels. an_else (a_stmt levels)) c.args.room c.args.cursor.now c.inner.new.cursor c.in_err-side-in-Else.field-0.0 (failed c.in_err-side-in-Else.field-0.0 c.in_err-side-in-Else.ensures.reads (λ f. started_fails else_start else_kind (start_is else_start c.args.cursor.now c.peek.ensures c.of.ensures c.in-Else.is) (meaning_fails (λ p. Some p.1) (seq_second (stmt_fill c.args.room some) (λ words h. refl) (c.in_ok-pass-in-Else.ensures c.args.room).it f))))) }

pub other-returns-in_ok-side-in-Else : goal.other-returns-in_ok-side-in-Else
other-returns-in_ok-side-in-Else t c =
    record { reads = λ some. (started_reads else_start else_kind (start_is else_start c.args.cursor.now c.peek.ensures c.of.ensures c.in-Else.is) (meaning_reads (λ p. Some p.1) (seq_some (c.in_ok-pass-in-Else.ensures c.args.room) c.in_ok-side-in-Else.ensures.reads.it))).it }

pub other-returns-in-None : goal.other-returns-in-None
other-returns-in-None t c =
    record { reads = λ some. else_missing c.args.cursor.now c.args.room (start_is else_start c.args.cursor.now c.peek.ensures c.of.ensures c.in-None.is) }

pub list-loop-alloc-init : goal.list-loop-alloc-init
list-loop-alloc-init t c =
    let empty : c.new-list.result ≡ [] = search rules in
    subst (λ ss. StmtsSoFar c.args.room c.args.cursor.now ss c.args.cursor.now) (sym empty) (no_stmts c.args.room c.args.cursor.now)

pub list-loop-alloc-preserved : goal.list-loop-alloc-preserved
list-loop-alloc-preserved t c =
    subst (λ ss. StmtsSoFar c.args.room c.args.cursor.now ss c.statement.new.cursor) (sym c.in_ok-push.ensures.ok)
    (stmts_more c.args.room c.args.cursor.now c.loop-alloc.cursor c.statement.new.cursor c.loop-alloc.list c.in_ok-next.next c.loop-alloc.invariant (sym (ap ends_list c.peek.ensures) ∙ sym c.ends_list.ensures ∙ c.loop-alloc-test.true) c.in_ok-next.ensures.reads)

pub list-loop-alloc-smaller : goal.list-loop-alloc-smaller
list-loop-alloc-smaller t c =
    let k = c.in_ok-next.ensures.reads in shorter c.loop-alloc.cursor c.statement.new.cursor k.it.front k.some k.it.read

pub list-returns-in_err-next : goal.list-returns-in_err-next
list-returns-in_err-next t c =
    record { reads = let returned = err_from_is_err_and c.from_residual.result c.from_residual.ensures.1 in rw (returned.1, returned.2) (failed c.in_err-next.field-0.0 c.in_err-next.ensures.reads (λ f. stmts_fails c.args.room c.args.cursor.now c.loop-alloc.cursor c.statement.new.cursor c.loop-alloc.list c.in_err-next.field-0.0 c.loop-alloc.invariant (sym (ap ends_list c.peek.ensures) ∙ sym c.ends_list.ensures ∙ c.loop-alloc-test.true) f)) }

pub list-returns-in_err-more : goal.list-returns-in_err-more
list-returns-in_err-more t c =
    record { reads = let returned = err_from_is_err_and c.from_residual-in_err-more.result c.from_residual-in_err-more.ensures.1 in rw (returned.1, returned.2) (failed c.in_err-more.field-0.0 (c.in_err-more.ensures c.args.room) (λ f. stmts_unended c.args.room c.args.cursor.now c.loop-alloc.cursor c.list_end.new.cursor c.loop-alloc.list c.in_err-more.field-0.0 c.loop-alloc.invariant (sym (ap ends_list c.peek.ensures) ∙ sym c.ends_list.ensures ∙ c.loop-alloc-test.false) f)) }

pub list-returns : goal.list-returns
list-returns t c =
    record { reads = stmts_end c.args.room c.args.cursor.now c.loop-alloc.cursor c.list_end.new.cursor c.loop-alloc.list c.in_ok-more.more c.loop-alloc.invariant (sym (ap ends_list c.peek.ensures) ∙ sym c.ends_list.ensures ∙ c.loop-alloc-test.false) (c.in_ok-more.ensures c.args.room) }

pub lists-loop-more-init : goal.lists-loop-more-init
lists-loop-more-init t c =
    let empty : c.new-lists.result ≡ [] = search rules in
    subst (λ ls. ListsSoFar c.args.room c.args.cursor.now ls true c.args.cursor.now) (sym empty) (no_lists c.args.room c.args.cursor.now)

pub lists-loop-more-preserved : goal.lists-loop-more-preserved
lists-loop-more-preserved t c =
    subst (λ ls. ListsSoFar c.args.room c.args.cursor.now ls c.in_ok-list.another c.list.new.cursor) (sym c.in_ok-push.ensures.ok)
    (lists_more c.args.room c.args.cursor.now c.loop-more.cursor c.list.new.cursor c.loop-more.lists c.loop-more.more c.in_ok-list.list c.in_ok-list.another c.loop-more.invariant c.loop-more-test.true c.in_ok-list.ensures.reads)

pub lists-loop-more-smaller : goal.lists-loop-more-smaller
lists-loop-more-smaller t c =
    let k = c.in_ok-list.ensures.reads in shorter c.loop-more.cursor c.list.new.cursor k.it.front k.some k.it.read

pub lists-returns-in_err-list : goal.lists-returns-in_err-list
lists-returns-in_err-list t c =
    record { reads = let returned = err_from_is_err_and c.from_residual.result c.from_residual.ensures.1 in rw (returned.1, returned.2) (skims (λ levels. lists (a_stmt levels)) c.args.room c.args.cursor.now c.list.new.cursor c.in_err-list.field-0.0 (failed c.in_err-list.field-0.0 c.in_err-list.ensures.reads (λ f. lists_fails c.args.room c.args.cursor.now c.loop-more.cursor c.list.new.cursor c.loop-more.lists c.loop-more.more c.in_err-list.field-0.0 c.loop-more.invariant c.loop-more-test.true f))) }

pub lists-returns : goal.lists-returns
lists-returns t c =
    record { reads = lists_end c.args.room c.args.cursor.now c.loop-more.cursor c.loop-more.lists c.loop-more.more c.loop-more.invariant c.loop-more-test.false }
