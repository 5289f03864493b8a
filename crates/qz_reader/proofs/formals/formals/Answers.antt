use Rattle.std.proofs.Common.{◌≡◌, [], rules}
use Rattle.std.proofs.lemmas.Result.{err_from_is_err_and}
use Rattle.qz_phrases.proofs.Combining.{failed, meaning_reads, meaning_fails, always, start_is, started_reads, started_fails}
use Rattle.qz_phrases.proofs.Handing.{started_hands}
use Rattle.qz_reader.specs.Formals.{formals_start, formals_row}
use Rattle.qz_reader.proofs.formals.formals.Goals as goal

pub returns-in_err-pass-in-Close : goal.returns-in_err-pass-in-Close
returns-in_err-pass-in-Close c room =
    let returned = err_from_is_err_and c.from_residual.result c.from_residual.ensures.1 in
    rw (returned.1, returned.2) (failed c.in_err-pass-in-Close.field-0.0 (c.in_err-pass-in-Close.ensures room) (λ f. started_fails formals_start (λ s. always (formals_row s)) (start_is formals_start c.args.cursor.now c.peek.ensures c.of.ensures c.in-Close.is) (meaning_fails (λ _. []) f)))

pub returns-in_ok-pass-in-Close : goal.returns-in_ok-pass-in-Close
returns-in_ok-pass-in-Close c room =
    let empty : c.new-none.result ≡ [] = search rules in
    rw empty (started_reads formals_start (λ s. always (formals_row s)) (start_is formals_start c.args.cursor.now c.peek.ensures c.of.ensures c.in-Close.is) (meaning_reads (λ _. []) (c.in_ok-pass-in-Close.ensures room)))

pub returns-in-Formal : goal.returns-in-Formal
returns-in-Formal c room =
    started_hands formals_start (λ s. always (formals_row s)) room c.args.cursor.now c.some_formals.new.cursor (start_is formals_start c.args.cursor.now c.peek.ensures c.of.ensures c.in-Formal.is) c.some_formals.result (c.some_formals.ensures room)
