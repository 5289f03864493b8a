use Rattle.std.proofs.Common.{◌≡◌, [], rules}
use Rattle.std.proofs.lemmas.Result.{err_from_is_err_and}
use Rattle.qz_phrases.proofs.Combining.{failed, meaning_reads, meaning_fails, start_is, started_reads, started_fails}
use Rattle.qz_phrases.proofs.Handing.{started_hands}
use Rattle.qz_reader.specs.Starts.{args_start}
use Rattle.qz_reader.specs.Statements.{args_row}
use Rattle.qz_reader.proofs.resting.arguments.Goals as goal

pub returns-in_err-pass-in-Close : goal.returns-in_err-pass-in-Close
returns-in_err-pass-in-Close c =
    let returned = err_from_is_err_and c.from_residual.result c.from_residual.ensures.1 in
    rw (returned.1, returned.2) (failed c.in_err-pass-in-Close.field-0.0 (c.in_err-pass-in-Close.ensures c.args.room) (λ f. started_fails args_start args_row (start_is args_start c.args.cursor.now c.peek.ensures c.of.ensures c.in-Close.is) (meaning_fails (λ _. []) f)))

pub returns-in_ok-pass-in-Close : goal.returns-in_ok-pass-in-Close
returns-in_ok-pass-in-Close c =
    let empty : c.new-none.result ≡ [] = search rules in
    rw empty (started_reads args_start args_row (start_is args_start c.args.cursor.now c.peek.ensures c.of.ensures c.in-Close.is) (meaning_reads (λ _. []) (c.in_ok-pass-in-Close.ensures c.args.room)))

pub returns-in-Argument : goal.returns-in-Argument
returns-in-Argument c =
    started_hands args_start args_row c.args.room c.args.cursor.now c.some_arguments.new.cursor (start_is args_start c.args.cursor.now c.peek.ensures c.of.ensures c.in-Argument.is) c.some_arguments.result c.some_arguments.ensures
