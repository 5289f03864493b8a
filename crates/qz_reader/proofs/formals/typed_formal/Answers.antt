use Rattle.std.proofs.Common.{refl}
use Rattle.std.proofs.lemmas.Result.{err_from_is_err_and}
use Rattle.qz_phrases.proofs.Combining.{failed, meaning_reads, meaning_fails, always}
use Rattle.qz_phrases.proofs.Following.{by_first_fails, by_second_fails, by_some}
use Rattle.qz_reader.specs.Formals.{directed}
use Rattle.qz_reader.proofs.FormalFills.{directed_fill}
use Rattle.qz_reader.proofs.formals.typed_formal.Goals as goal

pub returns-in_err-class : goal.returns-in_err-class
returns-in_err-class c room =
    let returned = err_from_is_err_and c.from_residual.result c.from_residual.ensures.1 in
    rw (returned.1, returned.2) (failed c.in_err-class.field-0.0 (c.in_err-class.ensures room) (λ f. meaning_fails (λ p. p.1) (by_first_fails (λ k. always (directed k)) (λ k. directed_fill k) (λ k words h. refl) f)))

pub returns-in_err-formal : goal.returns-in_err-formal
returns-in_err-formal c room =
    let returned = err_from_is_err_and c.from_residual-in_err-formal.result c.from_residual-in_err-formal.ensures.1 in
    rw (returned.1, returned.2) (failed c.in_err-formal.field-0.0 (c.in_err-formal.ensures room) (λ f. meaning_fails (λ p. p.1) (by_second_fails (λ k. always (directed k)) (directed_fill (c.in_ok-class.class, c.in_ok-class.ty)) (λ words h. refl) (c.in_ok-class.ensures room).it f)))

pub returns : goal.returns
returns c room =
    meaning_reads (λ p. p.1) (by_some (λ k. always (directed k)) (c.in_ok-class.ensures room) (c.in_ok-formal.ensures room).it)
