use Rattle.std.proofs.Common.{refl}
use Rattle.std.proofs.lemmas.Result.{err_from_is_err_and}
use Rattle.qz_phrases.proofs.Combining.{failed, meaning_reads, meaning_fails, seq_first, seq_second, seq_some}
use Rattle.qz_syntax.specs.declared.file_statements.FileStmt.TheVariants as stmt
use Rattle.qz_reader.proofs.StatementFills.{value_fill}
use Rattle.qz_reader.proofs.resting.next_assigned.Goals as goal

pub returns-in_err-target : goal.returns-in_err-target
returns-in_err-target c some =
    let returned = err_from_is_err_and c.from_residual.result c.from_residual.ensures.1 in
    rw (returned.1, returned.2) (failed c.in_err-target.field-0.0 (c.in_err-target.ensures c.args.room) (λ f. (meaning_fails (λ p. stmt.Assign p.0 p.1.0 p.1.1) (seq_first (value_fill c.args.room some) (λ words h. refl) f))))

pub returns-in_err-equals : goal.returns-in_err-equals
returns-in_err-equals c some =
    let returned = err_from_is_err_and c.from_residual-in_err-equals.result c.from_residual-in_err-equals.ensures.1 in
    rw (returned.1, returned.2) (failed c.in_err-equals.field-0.0 (c.in_err-equals.ensures some) (λ f. (meaning_fails (λ p. stmt.Assign p.0 p.1.0 p.1.1) (seq_second (value_fill c.args.room some) (λ words h. refl) (c.in_ok-target.ensures c.args.room).it f))))

pub returns : goal.returns
returns c some =
    (meaning_reads (λ p. stmt.Assign p.0 p.1.0 p.1.1) (seq_some (c.in_ok-target.ensures c.args.room) (c.in_ok-equals.ensures some).it))
