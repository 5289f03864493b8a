use Rattle.std.proofs.Common.{refl}
use Rattle.std.proofs.lemmas.Result.{err_from_is_err_and}
use Rattle.qz_phrases.proofs.Combining.{failed, meaning_reads, meaning_fails, seq_first, seq_second, seq_some}
use Rattle.qz_phrases.proofs.Typings.{names_fill}
use Rattle.qz_phrases.proofs.declarations.declaration.Goals as goal

pub returns-in_err-class : goal.returns-in_err-class
returns-in_err-class c room =
    let returned = err_from_is_err_and c.from_residual.result c.from_residual.ensures.1 in
    rw (returned.1, returned.2) (failed c.in_err-class.field-0.0 (c.in_err-class.ensures room) (λ f. meaning_fails (λ p. record { class = p.0.0; ty = p.0.1; names = p.1 }) (seq_first names_fill (λ words h. refl) f)))

pub returns-in_err-names : goal.returns-in_err-names
returns-in_err-names c room =
    let returned = err_from_is_err_and c.from_residual-in_err-names.result c.from_residual-in_err-names.ensures.1 in
    rw (returned.1, returned.2) (failed c.in_err-names.field-0.0 (c.in_err-names.ensures room) (λ f. meaning_fails (λ p. record { class = p.0.0; ty = p.0.1; names = p.1 }) (seq_second names_fill (λ words h. refl) (c.in_ok-class.ensures room).it f)))

pub returns : goal.returns
returns c room =
    meaning_reads (λ p. record { class = p.0.0; ty = p.0.1; names = p.1 }) (seq_some (c.in_ok-class.ensures room) (c.in_ok-names.ensures room).it)
