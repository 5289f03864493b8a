use Rattle.std.proofs.Common.{refl}
use Rattle.std.proofs.lemmas.Result.{err_from_is_err_and}
use Rattle.qz_phrases.proofs.Combining.{failed, meaning_reads, meaning_fails}
use Rattle.qz_phrases.proofs.Following.{by_first_fails, by_second_fails, by_some}
use Rattle.qz_reader.specs.Statements.{after_name}
use Rattle.qz_reader.proofs.StatementFills.{name_rest_fill}
use Rattle.qz_reader.proofs.resting.named.Goals as goal

pub returns-in_err-name : goal.returns-in_err-name
returns-in_err-name c =
    let returned = err_from_is_err_and c.from_residual.result c.from_residual.ensures.1 in
    rw (returned.1, returned.2) (failed c.in_err-name.field-0.0 (c.in_err-name.ensures c.args.room) (λ f. meaning_fails (λ p. p.1) (by_first_fails after_name (λ n. name_rest_fill n) (λ n words h. refl) f)))

pub returns-in_err-found : goal.returns-in_err-found
returns-in_err-found c =
    let returned = err_from_is_err_and c.from_residual-in_err-found.result c.from_residual-in_err-found.ensures.1 in
    rw (returned.1, returned.2) (failed c.in_err-found.field-0.0 (c.in_err-found.ensures) (λ f. meaning_fails (λ p. p.1) (by_second_fails after_name (name_rest_fill c.in_ok-name.name) (λ words h. refl) (c.in_ok-name.ensures c.args.room).it f)))

pub returns : goal.returns
returns c =
    meaning_reads (λ p. p.1) (by_some after_name (c.in_ok-name.ensures c.args.room) (c.in_ok-found.ensures).it)
