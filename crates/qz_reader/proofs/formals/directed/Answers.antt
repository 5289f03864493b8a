use Rattle.std.proofs.Common.{refl}
use Rattle.std.proofs.lemmas.Result.{err_from_is_err_and}
use Rattle.qz_phrases.proofs.Combining.{failed, meaning_reads, meaning_fails, seq_first, seq_second, seq_some}
use Rattle.qz_phrases.proofs.Fills.{name_fill}
use Rattle.qz_reader.proofs.formals.directed.Goals as goal

pub returns-in_err-dir : goal.returns-in_err-dir
returns-in_err-dir c room =
    let returned = err_from_is_err_and c.from_residual.result c.from_residual.ensures.1 in
    rw (returned.1, returned.2) (failed c.in_err-dir.field-0.0 (c.in_err-dir.ensures room) (λ f. (meaning_fails (λ p. record { class = c.args.class; dir = p.0; ty = c.args.ty; name = p.1 }) (seq_first name_fill (λ words h. refl) f))))

pub returns-in_err-name : goal.returns-in_err-name
returns-in_err-name c room =
    let returned = err_from_is_err_and c.from_residual-in_err-name.result c.from_residual-in_err-name.ensures.1 in
    rw (returned.1, returned.2) (failed c.in_err-name.field-0.0 (c.in_err-name.ensures room) (λ f. (meaning_fails (λ p. record { class = c.args.class; dir = p.0; ty = c.args.ty; name = p.1 }) (seq_second name_fill (λ words h. refl) (c.in_ok-dir.ensures room).it f))))

pub returns : goal.returns
returns c room =
    (meaning_reads (λ p. record { class = c.args.class; dir = p.0; ty = c.args.ty; name = p.1 }) (seq_some (c.in_ok-dir.ensures room) (c.in_ok-name.ensures room).it))
