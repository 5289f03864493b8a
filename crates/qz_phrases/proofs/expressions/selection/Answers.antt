use Rattle.std.proofs.Common.{refl}
use Rattle.std.proofs.lemmas.Result.{err_from_is_err_and}
use Rattle.qz_phrases.proofs.Combining.{meaning_reads, meaning_fails, seq_first, seq_second, seq_some, failed}
use Rattle.qz_phrases.proofs.Tails.{filled_end}
use Rattle.qz_phrases.proofs.expressions.selection.Goals as goal

pub returns-in_err-high : goal.returns-in_err-high
returns-in_err-high c room =
    let returned = err_from_is_err_and c.from_residual.result c.from_residual.ensures.1 in
    rw (returned.1, returned.2) (failed c.in_err-high.field-0.0 (c.in_err-high.ensures room) (λ f. meaning_fails (λ p. (p.0.0, p.1)) (seq_first filled_end (λ words h. refl) f)))

pub returns-in_err-low : goal.returns-in_err-low
returns-in_err-low c room =
    let returned = err_from_is_err_and c.from_residual-in_err-low.result c.from_residual-in_err-low.ensures.1 in
    rw (returned.1, returned.2) (failed c.in_err-low.field-0.0 (c.in_err-low.ensures room) (λ f. meaning_fails (λ p. (p.0.0, p.1)) (seq_second filled_end (λ words h. refl) (c.in_ok-high.ensures room).it f)))

pub returns : goal.returns
returns c room = meaning_reads (λ p. (p.0.0, p.1)) (seq_some (c.in_ok-high.ensures room) (c.in_ok-low.ensures room).it)
