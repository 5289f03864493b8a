use Rattle.std.proofs.Common.{ℕ, refl, Option, Some, None}
use Rattle.std.proofs.lemmas.Result.{err_from_is_err_and}
use Rattle.qz_phrases.specs.declared.words.Mark.TheVariants as mark
use Rattle.qz_phrases.specs.declared.words.Word.TheVariants as word
use Rattle.qz_phrases.specs.declared.words.IndexStart.{IndexStart}
use Rattle.qz_phrases.specs.Words.{index_start}
use Rattle.qz_phrases.specs.Phrases.{Kind, one, number}
use Rattle.qz_phrases.specs.Expressions.{index_end}
use Rattle.qz_phrases.proofs.Combining.{always, start_is, started_reads, started_fails, meaning_reads, meaning_fails, then, Fill, seq_first, seq_second, seq_reads, seq_some, no_phrase, failed, fill_token, fill_led}
use Rattle.qz_phrases.proofs.expressions.index_end.Goals as goal

abbrev rows : IndexStart → Kind (Option ℕ)
rows start = always (index_end start)

pub returns-in_err-pass-in-Close : goal.returns-in_err-pass-in-Close
returns-in_err-pass-in-Close c room =
    let returned = err_from_is_err_and c.from_residual.result c.from_residual.ensures.1 in
    rw (returned.1, returned.2) (failed c.in_err-pass-in-Close.field-0.0 (c.in_err-pass-in-Close.ensures room) (λ f. started_fails index_start rows (start_is index_start c.args.cursor.now c.peek.ensures c.index.ensures c.in-Close.is) (meaning_fails (λ _. None) f)))

pub returns-in_ok-pass-in-Close : goal.returns-in_ok-pass-in-Close
returns-in_ok-pass-in-Close c room =
    started_reads index_start rows (start_is index_start c.args.cursor.now c.peek.ensures c.index.ensures c.in-Close.is) (meaning_reads (λ _. None) (c.in_ok-pass-in-Close.ensures room))

-- `l}`, `}` in place of what is missing
abbrev closing : Kind ℕ
closing = always (one mark.CloseBrace)

abbrev brace : {room : ℕ} → Fill closing room
brace = fill_token (λ at. record { word = word.Mark mark.CloseBrace; at = at }) 0

abbrev low_index : {room : ℕ} → Fill (then (always number) closing) room
low_index = fill_led (λ (n : ℕ × ℕ). record { word = word.Number n.0; at = n.1 }) (0, 0) brace

pub returns-in_err-pass-in-Colon : goal.returns-in_err-pass-in-Colon
returns-in_err-pass-in-Colon c room =
    let returned = err_from_is_err_and c.from_residual-in_err-pass-in-Colon.result c.from_residual-in_err-pass-in-Colon.ensures.1 in
    rw (returned.1, returned.2) (failed c.in_err-pass-in-Colon.field-0.0 (c.in_err-pass-in-Colon.ensures room)
    (λ f. started_fails index_start rows (start_is index_start c.args.cursor.now c.peek.ensures c.index.ensures c.in-Colon.is) (meaning_fails (λ p. Some p.1.0.0) (seq_first low_index (λ words h. refl) f))))

pub returns-in_err-low-in-Colon : goal.returns-in_err-low-in-Colon
returns-in_err-low-in-Colon c room =
    let returned = err_from_is_err_and c.from_residual-in_err-low-in-Colon.result c.from_residual-in_err-low-in-Colon.ensures.1 in
    rw (returned.1, returned.2) (failed c.in_err-low-in-Colon.field-0.0 (c.in_err-low-in-Colon.ensures room)
    (λ f. started_fails index_start rows (start_is index_start c.args.cursor.now c.peek.ensures c.index.ensures c.in-Colon.is) (meaning_fails (λ p. Some p.1.0.0)
    (seq_second low_index (λ words h. refl) (c.in_ok-pass-in-Colon.ensures room).it (seq_first brace (λ words h. refl) f)))))

pub returns-in_err-pass-in-Colon-2 : goal.returns-in_err-pass-in-Colon-2
returns-in_err-pass-in-Colon-2 c room =
    let returned = err_from_is_err_and c.from_residual-in_err-pass-in-Colon-2.result c.from_residual-in_err-pass-in-Colon-2.ensures.1 in
    rw (returned.1, returned.2) (failed c.in_err-pass-in-Colon-2.field-0.0 (c.in_err-pass-in-Colon-2.ensures room)
    (λ f. started_fails index_start rows (start_is index_start c.args.cursor.now c.peek.ensures c.index.ensures c.in-Colon.is) (meaning_fails (λ p. Some p.1.0.0)
    (seq_second low_index (λ words h. refl) (c.in_ok-pass-in-Colon.ensures room).it (seq_second brace (λ words h. refl) (c.in_ok-low-in-Colon.ensures room).it f)))))

pub returns-in_ok-pass-in-Colon-2 : goal.returns-in_ok-pass-in-Colon-2
returns-in_ok-pass-in-Colon-2 c room =
    started_reads index_start rows (start_is index_start c.args.cursor.now c.peek.ensures c.index.ensures c.in-Colon.is) (meaning_reads (λ p. Some p.1.0.0)
    (seq_some (c.in_ok-pass-in-Colon.ensures room) (seq_reads (c.in_ok-low-in-Colon.ensures room).it (c.in_ok-pass-in-Colon-2.ensures room).it)))

pub returns-in-None : goal.returns-in-None
returns-in-None c room =
    started_fails index_start rows (start_is index_start c.args.cursor.now c.peek.ensures c.index.ensures c.in-None.is) (no_phrase (λ others agrees levels y rest h. h))
