use Rattle.std.proofs.lemmas.Result.{err_from_is_err_and}
use Rattle.qz_phrases.proofs.Combining.{failed, meaning_reads, meaning_fails, always, start_is, started_reads, started_fails, no_phrase}
use Rattle.qz_syntax.specs.declared.declarations.Dir.TheVariants as dir
use Rattle.qz_reader.specs.Formals.{dir_start, dir_row}
use Rattle.qz_reader.proofs.formals.direction.Goals as goal

pub returns-in_err-pass-in-In : goal.returns-in_err-pass-in-In
returns-in_err-pass-in-In c room =
    let returned = err_from_is_err_and c.from_residual.result c.from_residual.ensures.1 in
    rw (returned.1, returned.2) (failed c.in_err-pass-in-In.field-0.0 (c.in_err-pass-in-In.ensures room) (λ f. started_fails dir_start (λ d. always (dir_row d)) (start_is dir_start c.args.cursor.now c.peek.ensures c.of.ensures c.in-In.is) (meaning_fails (λ _. dir.In) f)))

pub returns-in_ok-pass-in-In : goal.returns-in_ok-pass-in-In
returns-in_ok-pass-in-In c room =
    started_reads dir_start (λ d. always (dir_row d)) (start_is dir_start c.args.cursor.now c.peek.ensures c.of.ensures c.in-In.is) (meaning_reads (λ _. dir.In) (c.in_ok-pass-in-In.ensures room))

pub returns-in_err-pass-in-Out : goal.returns-in_err-pass-in-Out
returns-in_err-pass-in-Out c room =
    let returned = err_from_is_err_and c.from_residual-in_err-pass-in-Out.result c.from_residual-in_err-pass-in-Out.ensures.1 in
    rw (returned.1, returned.2) (failed c.in_err-pass-in-Out.field-0.0 (c.in_err-pass-in-Out.ensures room) (λ f. started_fails dir_start (λ d. always (dir_row d)) (start_is dir_start c.args.cursor.now c.peek.ensures c.of.ensures c.in-Out.is) (meaning_fails (λ _. dir.Out) f)))

pub returns-in_ok-pass-in-Out : goal.returns-in_ok-pass-in-Out
returns-in_ok-pass-in-Out c room =
    started_reads dir_start (λ d. always (dir_row d)) (start_is dir_start c.args.cursor.now c.peek.ensures c.of.ensures c.in-Out.is) (meaning_reads (λ _. dir.Out) (c.in_ok-pass-in-Out.ensures room))

pub returns-in-None : goal.returns-in-None
returns-in-None c room =
    started_fails dir_start (λ d. always (dir_row d)) (start_is dir_start c.args.cursor.now c.peek.ensures c.of.ensures c.in-None.is) (no_phrase (λ others agrees levels y rest h. h))
