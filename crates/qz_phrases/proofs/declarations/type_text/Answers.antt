use Rattle.std.proofs.Common.{refl}
use Rattle.std.proofs.lemmas.Result.{err_from_is_err_and}
use Rattle.qz_phrases.specs.declared.words.Mark.TheVariants as mark
use Rattle.qz_phrases.proofs.Combining.{always, start_is, started_reads, started_fails, failed, meaning_reads, meaning_fails, seq_first, seq_second, seq_reads, seq_some, no_phrase, fill_then}
use Rattle.qz_phrases.proofs.Fills.{mark_fill, number_fill}
use Rattle.qz_syntax.specs.declared.files.TypeText.TheVariants as type
use Rattle.qz_phrases.specs.Words.{type_start}
use Rattle.qz_phrases.specs.Declarations.{type_row}
use Rattle.qz_phrases.proofs.declarations.type_text.Goals as goal

pub returns-in_err-pass-in-Bool : goal.returns-in_err-pass-in-Bool
returns-in_err-pass-in-Bool c room =
    let returned = err_from_is_err_and c.from_residual.result c.from_residual.ensures.1 in
    rw (returned.1, returned.2) (failed c.in_err-pass-in-Bool.field-0.0 (c.in_err-pass-in-Bool.ensures room) (λ f. started_fails type_start (λ start. always (type_row start)) (start_is type_start c.args.cursor.now c.peek.ensures c.ty.ensures c.in-Bool.is) (meaning_fails (λ _. type.Bool) f)))

pub returns-in_ok-pass-in-Bool : goal.returns-in_ok-pass-in-Bool
returns-in_ok-pass-in-Bool c room =
    started_reads type_start (λ start. always (type_row start)) (start_is type_start c.args.cursor.now c.peek.ensures c.ty.ensures c.in-Bool.is) (meaning_reads (λ _. type.Bool) (c.in_ok-pass-in-Bool.ensures room))

pub returns-in_err-pass-in-Bv : goal.returns-in_err-pass-in-Bv
returns-in_err-pass-in-Bv c room =
    let returned = err_from_is_err_and c.from_residual-in_err-pass-in-Bv.result c.from_residual-in_err-pass-in-Bv.ensures.1 in
    rw (returned.1, returned.2) (failed c.in_err-pass-in-Bv.field-0.0 (c.in_err-pass-in-Bv.ensures room) (λ f. started_fails type_start (λ start. always (type_row start)) (start_is type_start c.args.cursor.now c.peek.ensures c.ty.ensures c.in-Bv.is) (meaning_fails (λ p. type.Bv p.1.1.0.0 p.1.1.0.1) (seq_first (fill_then (mark_fill mark.OpenBracket) (fill_then number_fill (mark_fill mark.CloseBracket) (λ words h. refl)) (λ words h. refl)) (λ words h. refl) f))))

pub returns-in_err-pass-in-Bv-2 : goal.returns-in_err-pass-in-Bv-2
returns-in_err-pass-in-Bv-2 c room =
    let returned = err_from_is_err_and c.from_residual-in_err-pass-in-Bv-2.result c.from_residual-in_err-pass-in-Bv-2.ensures.1 in
    rw (returned.1, returned.2) (failed c.in_err-pass-in-Bv-2.field-0.0 (c.in_err-pass-in-Bv-2.ensures room) (λ f. started_fails type_start (λ start. always (type_row start)) (start_is type_start c.args.cursor.now c.peek.ensures c.ty.ensures c.in-Bv.is) (meaning_fails (λ p. type.Bv p.1.1.0.0 p.1.1.0.1) (seq_second (fill_then (mark_fill mark.OpenBracket) (fill_then number_fill (mark_fill mark.CloseBracket) (λ words h. refl)) (λ words h. refl)) (λ words h. refl) (c.in_ok-pass-in-Bv.ensures room).it (seq_first (fill_then number_fill (mark_fill mark.CloseBracket) (λ words h. refl)) (λ words h. refl) f)))))

pub returns-in_err-width-in-Bv : goal.returns-in_err-width-in-Bv
returns-in_err-width-in-Bv c room =
    let returned = err_from_is_err_and c.from_residual-in_err-width-in-Bv.result c.from_residual-in_err-width-in-Bv.ensures.1 in
    rw (returned.1, returned.2) (failed c.in_err-width-in-Bv.field-0.0 (c.in_err-width-in-Bv.ensures room) (λ f. started_fails type_start (λ start. always (type_row start)) (start_is type_start c.args.cursor.now c.peek.ensures c.ty.ensures c.in-Bv.is) (meaning_fails (λ p. type.Bv p.1.1.0.0 p.1.1.0.1) (seq_second (fill_then (mark_fill mark.OpenBracket) (fill_then number_fill (mark_fill mark.CloseBracket) (λ words h. refl)) (λ words h. refl)) (λ words h. refl) (c.in_ok-pass-in-Bv.ensures room).it (seq_second (fill_then number_fill (mark_fill mark.CloseBracket) (λ words h. refl)) (λ words h. refl) (c.in_ok-pass-in-Bv-2.ensures room).it (seq_first (mark_fill mark.CloseBracket) (λ words h. refl) f))))))

pub returns-in_err-pass-in-Bv-3 : goal.returns-in_err-pass-in-Bv-3
returns-in_err-pass-in-Bv-3 c room =
    let returned = err_from_is_err_and c.from_residual-in_err-pass-in-Bv-3.result c.from_residual-in_err-pass-in-Bv-3.ensures.1 in
    rw (returned.1, returned.2) (failed c.in_err-pass-in-Bv-3.field-0.0 (c.in_err-pass-in-Bv-3.ensures room) (λ f. started_fails type_start (λ start. always (type_row start)) (start_is type_start c.args.cursor.now c.peek.ensures c.ty.ensures c.in-Bv.is) (meaning_fails (λ p. type.Bv p.1.1.0.0 p.1.1.0.1) (seq_second (fill_then (mark_fill mark.OpenBracket) (fill_then number_fill (mark_fill mark.CloseBracket) (λ words h. refl)) (λ words h. refl)) (λ words h. refl) (c.in_ok-pass-in-Bv.ensures room).it (seq_second (fill_then number_fill (mark_fill mark.CloseBracket) (λ words h. refl)) (λ words h. refl) (c.in_ok-pass-in-Bv-2.ensures room).it (seq_second (mark_fill mark.CloseBracket) (λ words h. refl) (c.in_ok-width-in-Bv.ensures room).it f))))))

pub returns-in_ok-pass-in-Bv-3 : goal.returns-in_ok-pass-in-Bv-3
returns-in_ok-pass-in-Bv-3 c room =
    started_reads type_start (λ start. always (type_row start)) (start_is type_start c.args.cursor.now c.peek.ensures c.ty.ensures c.in-Bv.is) (meaning_reads (λ p. type.Bv p.1.1.0.0 p.1.1.0.1) (seq_some (c.in_ok-pass-in-Bv.ensures room) (seq_reads (c.in_ok-pass-in-Bv-2.ensures room).it (seq_reads (c.in_ok-width-in-Bv.ensures room).it (c.in_ok-pass-in-Bv-3.ensures room).it))))

pub returns-in-None : goal.returns-in-None
returns-in-None c room = started_fails type_start (λ start. always (type_row start)) (start_is type_start c.args.cursor.now c.peek.ensures c.ty.ensures c.in-None.is) (no_phrase (λ others agrees levels y rest h. h))
