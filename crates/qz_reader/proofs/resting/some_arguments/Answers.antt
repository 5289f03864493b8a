use Rattle.std.proofs.Common.{ℕ, ◌≡◌, ◌∙◌, [], ◌∷◌, ◌++◌, refl, ap, rules, sym, subst, append-nil, append_assoc}
use Rattle.std.proofs.lemmas.Result.{err_from_is_err_and}
use Rattle.qz_syntax.specs.declared.file_expressions.FileExpr.{FileExpr}
use Rattle.qz_phrases.specs.declared.words.Mark.TheVariants as mark
use Rattle.qz_phrases.specs.Words.{is_comma}
use Rattle.qz_phrases.specs.Phrases.{Kind, one}
use Rattle.qz_phrases.specs.StatementParts.{next_arg}
use Rattle.qz_phrases.specs.Reading.{ReadsSome}
use Rattle.qz_phrases.proofs.Combining.{Fill, always, failed, meaning_reads, meaning_fails, seq_first, seq_second, seq_some}
use Rattle.qz_phrases.proofs.Climbing.{shorter}
use Rattle.qz_phrases.proofs.Fills.{mark_fill}
use Rattle.qz_phrases.proofs.Lists.{end_fill, none_yet, one_more, ended, item_fails, end_fails}
use Rattle.qz_reader.specs.Statements.{some_args}
use Rattle.qz_reader.proofs.ArgumentRows.{comma_comes, no_comma_comes}
use Rattle.qz_reader.proofs.Hollow.{expr_room}
use Rattle.qz_reader.proofs.StatementFills.{args_end_fill}
use Rattle.qz_reader.proofs.resting.some_arguments.Goals as goal

abbrev item : Unit {0} → Kind FileExpr
item s = next_arg

abbrev after : FileExpr → Unit {0}
after n = tt

abbrev ending : Unit {0} → Kind ℕ
ending s = always (one mark.CloseParen)

abbrev closing : {room : ℕ} → (s : Unit {0}) → Fill (ending s) room
closing s = mark_fill mark.CloseParen

pub returns-in_err-first : goal.returns-in_err-first
returns-in_err-first c =
    let returned = err_from_is_err_and c.from_residual.result c.from_residual.ensures.1 in
    rw (returned.1, returned.2) (failed c.in_err-first.field-0.0 (c.in_err-first.ensures) (λ f. meaning_fails (λ p. p.0 ∷ p.1.0) (seq_first args_end_fill (λ words h. refl) f)))

pub loop-alloc-init : goal.loop-alloc-init
loop-alloc-init c = ([], sym (append-nil c.push.new.self), none_yet item after ending c.args.room c.expression.new.cursor tt)

pub loop-alloc-preserved : goal.loop-alloc-preserved
loop-alloc-preserved c =
    let inv = c.loop-alloc.invariant in
    let some = expr_room c.args.room c.args.cursor.now c.expression.new.cursor c.in_ok-first.first c.in_ok-first.ensures in (
      inv.0 ++ c.in_ok-next.next ∷ [],
      c.in_ok-push-2.ensures.ok ∙ ap (λ ns. ns ++ c.in_ok-next.next ∷ []) inv.1 ∙ append_assoc c.push.new.self inv.0 (c.in_ok-next.next ∷ []),
      one_more item after ending c.args.room c.expression.new.cursor tt inv.0 tt c.loop-alloc.cursor inv.2 c.next_argument.new.cursor c.in_ok-next.next
          (comma_comes c.loop-alloc.cursor c.next_argument.new.cursor (c.in_ok-next.ensures some).it.moves (sym (ap is_comma c.peek.ensures) ∙ sym c.is_comma.ensures ∙ c.loop-alloc-test.true)) (c.in_ok-next.ensures some),
    )

pub loop-alloc-smaller : goal.loop-alloc-smaller
loop-alloc-smaller c =
    let some = expr_room c.args.room c.args.cursor.now c.expression.new.cursor c.in_ok-first.first c.in_ok-first.ensures in
    let k = c.in_ok-next.ensures some in shorter c.loop-alloc.cursor c.next_argument.new.cursor k.it.front k.some k.it.read

pub returns-in_err-next : goal.returns-in_err-next
returns-in_err-next c =
    let inv = c.loop-alloc.invariant in
    let some = expr_room c.args.room c.args.cursor.now c.expression.new.cursor c.in_ok-first.first c.in_ok-first.ensures in
    let returned = err_from_is_err_and c.from_residual-in_err-next.result c.from_residual-in_err-next.ensures.1 in
    rw (returned.1, returned.2) (failed c.in_err-next.field-0.0 (c.in_err-next.ensures some)
    (λ f. meaning_fails (λ p. p.0 ∷ p.1.0) (seq_second args_end_fill (λ words h. refl) (c.in_ok-first.ensures).it
    (item_fails item after ending c.args.room c.expression.new.cursor tt inv.0 tt c.loop-alloc.cursor inv.2 (end_fill closing) (λ s words h. refl) c.next_argument.new.cursor c.in_err-next.field-0.0
    (comma_comes c.loop-alloc.cursor c.next_argument.new.cursor f.moves (sym (ap is_comma c.peek.ensures) ∙ sym c.is_comma.ensures ∙ c.loop-alloc-test.true)) f))))

pub returns-in_err-pass : goal.returns-in_err-pass
returns-in_err-pass c =
    let inv = c.loop-alloc.invariant in
    let returned = err_from_is_err_and c.from_residual-in_err-pass.result c.from_residual-in_err-pass.ensures.1 in
    rw (returned.1, returned.2) (failed c.in_err-pass.field-0.0 (c.in_err-pass.ensures c.args.room)
    (λ f. meaning_fails (λ p. p.0 ∷ p.1.0) (seq_second args_end_fill (λ words h. refl) (c.in_ok-first.ensures).it
    (end_fails item after ending c.args.room c.expression.new.cursor tt inv.0 tt c.loop-alloc.cursor inv.2 (end_fill closing) (λ s words h. refl) c.pass.new.self c.in_err-pass.field-0.0
    (no_comma_comes c.loop-alloc.cursor c.pass.new.self f.moves (sym (ap is_comma c.peek.ensures) ∙ sym c.is_comma.ensures ∙ c.loop-alloc-test.false)) f))))

pub returns : goal.returns
returns c =
    let inv = c.loop-alloc.invariant in
    let k = c.in_ok-pass.ensures c.args.room in
    let pushed : c.push.new.self ≡ c.in_ok-first.first ∷ [] = search rules in
    subst (λ es. ReadsSome some_args c.args.room c.args.cursor.now c.pass.new.self es) (sym (inv.1 ∙ ap (λ es. es ++ inv.0) pushed))
    (meaning_reads (λ p. p.0 ∷ p.1.0) (seq_some (c.in_ok-first.ensures)
    (ended item after ending c.args.room c.expression.new.cursor tt inv.0 tt c.loop-alloc.cursor inv.2 c.pass.new.self c.in_ok-pass.field-0
    (no_comma_comes c.loop-alloc.cursor c.pass.new.self k.it.moves (sym (ap is_comma c.peek.ensures) ∙ sym c.is_comma.ensures ∙ c.loop-alloc-test.false)) k.it)))
