use Rattle.std.proofs.Common.{refl}
use Rattle.std.proofs.lemmas.Result.{err_from_is_err_and}
use Rattle.qz_phrases.proofs.Combining.{failed, meaning_reads, meaning_fails, seq_first, seq_second, seq_reads, seq_some, fill_then}
use Rattle.qz_phrases.specs.declared.words.Mark.TheVariants as mark
use Rattle.qz_phrases.proofs.Fills.{mark_fill, name_fill}
use Rattle.qz_reader.proofs.FormalFills.{formals_fill}
use Rattle.qz_reader.proofs.formals.head.Goals as goal

pub returns-in_err-pass : goal.returns-in_err-pass
returns-in_err-pass c room =
    let returned = err_from_is_err_and c.from_residual.result c.from_residual.ensures.1 in
    rw (returned.1, returned.2) (failed c.in_err-pass.field-0.0 (c.in_err-pass.ensures room) (λ f. (meaning_fails (λ p. record { name = p.1.0; formals = p.1.1.1 }) (seq_first (fill_then name_fill (fill_then (mark_fill mark.OpenParen) formals_fill (λ words h. refl)) (λ words h. refl)) (λ words h. refl) f))))

pub returns-in_err-name : goal.returns-in_err-name
returns-in_err-name c room =
    let returned = err_from_is_err_and c.from_residual-in_err-name.result c.from_residual-in_err-name.ensures.1 in
    rw (returned.1, returned.2) (failed c.in_err-name.field-0.0 (c.in_err-name.ensures room) (λ f. (meaning_fails (λ p. record { name = p.1.0; formals = p.1.1.1 }) (seq_second (fill_then name_fill (fill_then (mark_fill mark.OpenParen) formals_fill (λ words h. refl)) (λ words h. refl)) (λ words h. refl) (c.in_ok-pass.ensures room).it (seq_first (fill_then (mark_fill mark.OpenParen) formals_fill (λ words h. refl)) (λ words h. refl) f)))))

pub returns-in_err-pass-2 : goal.returns-in_err-pass-2
returns-in_err-pass-2 c room =
    let returned = err_from_is_err_and c.from_residual-in_err-pass-2.result c.from_residual-in_err-pass-2.ensures.1 in
    rw (returned.1, returned.2) (failed c.in_err-pass-2.field-0.0 (c.in_err-pass-2.ensures room) (λ f. (meaning_fails (λ p. record { name = p.1.0; formals = p.1.1.1 }) (seq_second (fill_then name_fill (fill_then (mark_fill mark.OpenParen) formals_fill (λ words h. refl)) (λ words h. refl)) (λ words h. refl) (c.in_ok-pass.ensures room).it (seq_second (fill_then (mark_fill mark.OpenParen) formals_fill (λ words h. refl)) (λ words h. refl) (c.in_ok-name.ensures room).it (seq_first formals_fill (λ words h. refl) f))))))

pub returns-in_err-formals : goal.returns-in_err-formals
returns-in_err-formals c room =
    let returned = err_from_is_err_and c.from_residual-in_err-formals.result c.from_residual-in_err-formals.ensures.1 in
    rw (returned.1, returned.2) (failed c.in_err-formals.field-0.0 (c.in_err-formals.ensures room) (λ f. (meaning_fails (λ p. record { name = p.1.0; formals = p.1.1.1 }) (seq_second (fill_then name_fill (fill_then (mark_fill mark.OpenParen) formals_fill (λ words h. refl)) (λ words h. refl)) (λ words h. refl) (c.in_ok-pass.ensures room).it (seq_second (fill_then (mark_fill mark.OpenParen) formals_fill (λ words h. refl)) (λ words h. refl) (c.in_ok-name.ensures room).it (seq_second formals_fill (λ words h. refl) (c.in_ok-pass-2.ensures room).it f))))))

pub returns : goal.returns
returns c room =
    (meaning_reads (λ p. record { name = p.1.0; formals = p.1.1.1 }) (seq_some (c.in_ok-pass.ensures room) (seq_reads (c.in_ok-name.ensures room).it (seq_reads (c.in_ok-pass-2.ensures room).it (c.in_ok-formals.ensures room).it))))
