use Rattle.std.proofs.lemmas.Result.{err_from_is_err_and}
use Rattle.qz_phrases.proofs.Combining.{always, start_is, started_reads, started_fails, failed, meaning_reads, meaning_fails, seq_first, seq_second, seq_some, no_phrase}
use Rattle.qz_syntax.specs.declared.declarations.Class.TheVariants as class
use Rattle.qz_phrases.specs.Words.{typing_start}
use Rattle.qz_phrases.specs.Declarations.{typing_row, type_or_bool}
use Rattle.qz_phrases.proofs.Typings.{reads, no_type_fill}
use Rattle.std.proofs.Common.{subst, Err}
use Rattle.qz_phrases.specs.Phrases.{one}
use Rattle.qz_phrases.specs.Reading.{Reads}
use Rattle.qz_phrases.proofs.declarations.typing.Goals as goal

pub returns-in_err-pass-in-Class : goal.returns-in_err-pass-in-Class
returns-in_err-pass-in-Class c room =
    let returned = err_from_is_err_and c.from_residual.result c.from_residual.ensures.1 in
    rw (returned.1, returned.2) (failed c.in_err-pass-in-Class.field-0.0 (subst (λ m. Reads (always (one m)) room c.args.cursor.now c.pass.new.self (Err c.in_err-pass-in-Class.field-0.0)) c.class_mark.ensures (c.in_err-pass-in-Class.ensures room))
    (λ f. started_fails typing_start (λ start. always (typing_row start)) (start_is typing_start c.args.cursor.now c.peek.ensures c.typing.ensures c.in-Class.is) (meaning_fails (λ p. (c.in-Class.class, p.1)) (seq_first no_type_fill (λ words h. h) f))))

pub returns-in_err-ty-in-Class : goal.returns-in_err-ty-in-Class
returns-in_err-ty-in-Class c room =
    let opened = rw c.class_mark.ensures at (c.in_ok-pass-in-Class.ensures room) in
    let returned = err_from_is_err_and c.from_residual-in_err-ty-in-Class.result c.from_residual-in_err-ty-in-Class.ensures.1 in
    rw (returned.1, returned.2) (failed c.in_err-ty-in-Class.field-0.0 (reads (always type_or_bool) room c.pass.new.self c.type_or_bool.new.cursor c.in_err-ty-in-Class.field-0.0 (c.in_err-ty-in-Class.ensures room))
    (λ f. started_fails typing_start (λ start. always (typing_row start)) (start_is typing_start c.args.cursor.now c.peek.ensures c.typing.ensures c.in-Class.is) (meaning_fails (λ p. (c.in-Class.class, p.1)) (seq_second no_type_fill (λ words h. h) opened.it f))))

pub returns-in_ok-ty-in-Class : goal.returns-in_ok-ty-in-Class
returns-in_ok-ty-in-Class c room =
    let opened = rw c.class_mark.ensures at (c.in_ok-pass-in-Class.ensures room) in
    started_reads typing_start (λ start. always (typing_row start)) (start_is typing_start c.args.cursor.now c.peek.ensures c.typing.ensures c.in-Class.is) (meaning_reads (λ p. (c.in-Class.class, p.1)) (seq_some opened (c.in_ok-ty-in-Class.ensures room)))

pub returns-in_err-ty-in-Type : goal.returns-in_err-ty-in-Type
returns-in_err-ty-in-Type c room =
    let returned = err_from_is_err_and c.from_residual-in_err-ty-in-Type.result c.from_residual-in_err-ty-in-Type.ensures.1 in
    rw (returned.1, returned.2) (failed c.in_err-ty-in-Type.field-0.0 (c.in_err-ty-in-Type.ensures room)
    (λ f. started_fails typing_start (λ start. always (typing_row start)) (start_is typing_start c.args.cursor.now c.peek.ensures c.typing.ensures c.in-Type.is) (meaning_fails (λ t. (class.Mem, t)) f)))

pub returns-in_ok-ty-in-Type : goal.returns-in_ok-ty-in-Type
returns-in_ok-ty-in-Type c room = started_reads typing_start (λ start. always (typing_row start)) (start_is typing_start c.args.cursor.now c.peek.ensures c.typing.ensures c.in-Type.is) (meaning_reads (λ t. (class.Mem, t)) (c.in_ok-ty-in-Type.ensures room))

pub returns-in-None : goal.returns-in-None
returns-in-None c room = started_fails typing_start (λ start. always (typing_row start)) (start_is typing_start c.args.cursor.now c.peek.ensures c.typing.ensures c.in-None.is) (no_phrase (λ others agrees levels y rest h. h))
