use Rattle.std.proofs.Common.{ℕ}
use Rattle.std.proofs.lemmas.Result.{err_from_is_err_and}
use Rattle.qz_phrases.proofs.Combining.{failed, meaning_reads, meaning_fails, led_second, seq_some}
use Rattle.qz_phrases.specs.declared.words.Spot.{Spot}
use Rattle.qz_phrases.specs.declared.words.Word.TheVariants as word
use Rattle.qz_phrases.specs.declared.words.Mark.TheVariants as mark
use Rattle.qz_reader.proofs.Led.{led_first}
use Rattle.qz_reader.proofs.FormalFills.{formal_fill}
use Rattle.qz_reader.proofs.formals.next_formal.Goals as goal

abbrev comma : ℕ → Spot
comma at = record { word = word.Mark mark.Comma; at = at }

pub returns-in_err-pass : goal.returns-in_err-pass
returns-in_err-pass c room =
    let returned = err_from_is_err_and c.from_residual.result c.from_residual.ensures.1 in
    rw (returned.1, returned.2) (failed c.in_err-pass.field-0.0 (c.in_err-pass.ensures room) (λ f. (meaning_fails (λ p. p.1) (led_first comma (formal_fill c.args.last) f))))

pub returns-in_err-formal : goal.returns-in_err-formal
returns-in_err-formal c room =
    let returned = err_from_is_err_and c.from_residual-in_err-formal.result c.from_residual-in_err-formal.ensures.1 in
    rw (returned.1, returned.2) (failed c.in_err-formal.field-0.0 (c.in_err-formal.ensures room) (λ f. (meaning_fails (λ p. p.1) (led_second comma (formal_fill c.args.last) (c.in_ok-pass.ensures room).it f))))

pub returns : goal.returns
returns c room =
    (meaning_reads (λ p. p.1) (seq_some (c.in_ok-pass.ensures room) (c.in_ok-formal.ensures room).it))
