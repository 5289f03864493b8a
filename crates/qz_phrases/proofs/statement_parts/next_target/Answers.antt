use Rattle.std.proofs.Common.{refl, true}
use Rattle.std.proofs.lemmas.Result.{err_from_is_err_and}
use Rattle.qz_phrases.specs.declared.words.Mark.TheVariants as mark
use Rattle.qz_phrases.proofs.Combining.{failed, meaning_reads, meaning_fails, seq_first, seq_second, seq_reads, seq_some, fill_then}
use Rattle.qz_phrases.proofs.Fills.{mark_fill, name_fill}
use Rattle.qz_phrases.proofs.statement_parts.next_target.Goals as goal

pub returns-in_err-pass : goal.returns-in_err-pass
returns-in_err-pass c room =
    let returned = err_from_is_err_and c.from_residual.result c.from_residual.ensures.1 in
    rw (returned.1, returned.2) (failed c.in_err-pass.field-0.0 (c.in_err-pass.ensures room) (λ f. meaning_fails (λ p. record { next = true; name = p.1.1.0 }) (seq_first (fill_then (mark_fill mark.OpenParen) (fill_then name_fill (mark_fill mark.CloseParen) (λ words h. refl)) (λ words h. refl)) (λ words h. refl) f)))

pub returns-in_err-pass-2 : goal.returns-in_err-pass-2
returns-in_err-pass-2 c room =
    let returned = err_from_is_err_and c.from_residual-in_err-pass-2.result c.from_residual-in_err-pass-2.ensures.1 in
    rw (returned.1, returned.2) (failed c.in_err-pass-2.field-0.0 (c.in_err-pass-2.ensures room) (λ f. meaning_fails (λ p. record { next = true; name = p.1.1.0 }) (seq_second (fill_then (mark_fill mark.OpenParen) (fill_then name_fill (mark_fill mark.CloseParen) (λ words h. refl)) (λ words h. refl)) (λ words h. refl) (c.in_ok-pass.ensures room).it (seq_first (fill_then name_fill (mark_fill mark.CloseParen) (λ words h. refl)) (λ words h. refl) f))))

pub returns-in_err-name : goal.returns-in_err-name
returns-in_err-name c room =
    let returned = err_from_is_err_and c.from_residual-in_err-name.result c.from_residual-in_err-name.ensures.1 in
    rw (returned.1, returned.2) (failed c.in_err-name.field-0.0 (c.in_err-name.ensures room) (λ f. meaning_fails (λ p. record { next = true; name = p.1.1.0 }) (seq_second (fill_then (mark_fill mark.OpenParen) (fill_then name_fill (mark_fill mark.CloseParen) (λ words h. refl)) (λ words h. refl)) (λ words h. refl) (c.in_ok-pass.ensures room).it (seq_second (fill_then name_fill (mark_fill mark.CloseParen) (λ words h. refl)) (λ words h. refl) (c.in_ok-pass-2.ensures room).it (seq_first (mark_fill mark.CloseParen) (λ words h. refl) f)))))

pub returns-in_err-pass-3 : goal.returns-in_err-pass-3
returns-in_err-pass-3 c room =
    let returned = err_from_is_err_and c.from_residual-in_err-pass-3.result c.from_residual-in_err-pass-3.ensures.1 in
    rw (returned.1, returned.2) (failed c.in_err-pass-3.field-0.0 (c.in_err-pass-3.ensures room) (λ f. meaning_fails (λ p. record { next = true; name = p.1.1.0 }) (seq_second (fill_then (mark_fill mark.OpenParen) (fill_then name_fill (mark_fill mark.CloseParen) (λ words h. refl)) (λ words h. refl)) (λ words h. refl) (c.in_ok-pass.ensures room).it (seq_second (fill_then name_fill (mark_fill mark.CloseParen) (λ words h. refl)) (λ words h. refl) (c.in_ok-pass-2.ensures room).it (seq_second (mark_fill mark.CloseParen) (λ words h. refl) (c.in_ok-name.ensures room).it f)))))

pub returns : goal.returns
returns c room =
    meaning_reads (λ p. record { next = true; name = p.1.1.0 }) (seq_some (c.in_ok-pass.ensures room) (seq_reads (c.in_ok-pass-2.ensures room).it (seq_reads (c.in_ok-name.ensures room).it (c.in_ok-pass-3.ensures room).it)))
