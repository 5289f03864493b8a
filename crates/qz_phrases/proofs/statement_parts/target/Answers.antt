use Rattle.std.proofs.Common.{false}
use Rattle.std.proofs.lemmas.Result.{err_from_is_err_and}
use Rattle.qz_phrases.proofs.Combining.{always, start_is, started_reads, started_fails, failed, meaning_reads, meaning_fails, no_phrase}
use Rattle.std.proofs.Common.{Result, Ok, Err}
use Rattle.qz_syntax.specs.declared.file_statements.Target.{Target}
use Rattle.qz_phrases.specs.declared.cursor.Fault.{Fault}
use Rattle.qz_phrases.specs.Reading.{Reads}
use Rattle.qz_phrases.specs.Words.{target_start}
use Rattle.qz_phrases.specs.StatementParts.{target_row, next_target, a_target}
use Rattle.qz_phrases.proofs.statement_parts.target.Goals as goal

pub returns-in_err-name-in-Name : goal.returns-in_err-name-in-Name
returns-in_err-name-in-Name c room =
    let returned = err_from_is_err_and c.from_residual.result c.from_residual.ensures.1 in
    rw (returned.1, returned.2) (failed c.in_err-name-in-Name.field-0.0 (c.in_err-name-in-Name.ensures room) (λ f. started_fails target_start (λ start. always (target_row start)) (start_is target_start c.args.cursor.now c.peek.ensures c.target.ensures c.in-Name.is) (meaning_fails (λ n. record { next = false; name = n }) f)))

pub returns-in_ok-name-in-Name : goal.returns-in_ok-name-in-Name
returns-in_ok-name-in-Name c room =
    started_reads target_start (λ start. always (target_row start)) (start_is target_start c.args.cursor.now c.peek.ensures c.target.ensures c.in-Name.is) (meaning_reads (λ n. record { next = false; name = n }) (c.in_ok-name-in-Name.ensures room))

pub returns-in-None : goal.returns-in-None
returns-in-None c room = started_fails target_start (λ start. always (target_row start)) (start_is target_start c.args.cursor.now c.peek.ensures c.target.ensures c.in-None.is) (no_phrase (λ others agrees levels y rest h. h))

pub returns-in-Next : goal.returns-in-Next
returns-in-Next c room = on_result (c.next_target.result) (c.next_target.ensures room)
  where
    on_result : (result : Result Target Fault) → Reads (always next_target) room c.args.cursor.now c.next_target.new.cursor result → Reads (always a_target) room c.args.cursor.now c.next_target.new.cursor result
    on_result (Ok t) h = started_reads target_start (λ start. always (target_row start)) (start_is target_start c.args.cursor.now c.peek.ensures c.target.ensures c.in-Next.is) h
    on_result (Err why) h = failed why h (λ f. started_fails target_start (λ start. always (target_row start)) (start_is target_start c.args.cursor.now c.peek.ensures c.target.ensures c.in-Next.is) f)
