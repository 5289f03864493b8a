use Rattle.std.proofs.Common.{ℕ, ◌≡◌, ◌∙◌, List, [], ◌∷◌, ◌++◌, Option, refl, ap, rules, sym, subst, append-nil, append_assoc}
use Rattle.std.proofs.lemmas.Result.{err_from_is_err_and}
use Rattle.qz_syntax.specs.declared.declarations.Class.{Class}
use Rattle.qz_syntax.specs.declared.files.TypeText.{TypeText}
use Rattle.qz_syntax.specs.declared.files.FileFormal.{FileFormal}
use Rattle.qz_phrases.specs.declared.words.Mark.TheVariants as mark
use Rattle.qz_phrases.specs.Words.{is_comma}
use Rattle.qz_phrases.specs.Phrases.{Kind, one}
use Rattle.qz_phrases.specs.Reading.{ReadsSome}
use Rattle.qz_phrases.proofs.Climbing.{shorter}
use Rattle.qz_phrases.proofs.Combining.{Fill, always, failed, meaning_it, meaning_reads, meaning_fails}
use Rattle.qz_phrases.proofs.Following.{by_first_fails, by_second_fails, by_some}
use Rattle.qz_phrases.proofs.Fills.{mark_fill}
use Rattle.qz_phrases.proofs.Lists.{end_fill, none_yet, one_more, ended, item_fails, end_fails}
use Rattle.qz_reader.specs.Formals.{next_formal, typing_of, more_formals, some_formals}
use Rattle.qz_reader.proofs.FormalFills.{more_fill}
use Rattle.qz_reader.proofs.ArgumentRows.{comma_comes, no_comma_before}
use Rattle.qz_reader.proofs.formals.some_formals.Goals as goal

abbrev item : Option (Class × TypeText) → Kind FileFormal
item s = always (next_formal s)

abbrev ending : Option (Class × TypeText) → Kind ℕ
ending s = always (one mark.CloseParen)

abbrev closing : {room : ℕ} → (s : Option (Class × TypeText)) → Fill (ending s) room
closing s = mark_fill mark.CloseParen

abbrev rest_of : FileFormal → Kind (List FileFormal)
rest_of f = always (more_formals f)

pub returns-in_err-first : goal.returns-in_err-first
returns-in_err-first c room =
    let returned = err_from_is_err_and c.from_residual.result c.from_residual.ensures.1 in
    rw (returned.1, returned.2) (failed c.in_err-first.field-0.0 (c.in_err-first.ensures room) (λ f. meaning_fails (λ p. p.0 ∷ p.1) (by_first_fails rest_of (λ f. more_fill f) (λ f words h. refl) f)))

pub loop-last-init : goal.loop-last-init
loop-last-init c = ([], sym (append-nil c.push.new.self), λ room. none_yet item typing_of ending room c.formal.new.cursor (typing_of c.in_ok-first.first))

pub loop-last-preserved : goal.loop-last-preserved
loop-last-preserved c =
    let inv = c.loop-last.invariant in (
      inv.0 ++ c.in_ok-next.next ∷ [],
      c.in_ok-push-2.ensures.ok ∙ ap (λ ns. ns ++ c.in_ok-next.next ∷ []) inv.1 ∙ append_assoc c.push.new.self inv.0 (c.in_ok-next.next ∷ []),
      λ room. one_more item typing_of ending room c.formal.new.cursor (typing_of c.in_ok-first.first) inv.0 c.loop-last.last c.loop-last.cursor (inv.2 room) c.next_formal.new.cursor c.in_ok-next.next
          (comma_comes c.loop-last.cursor c.next_formal.new.cursor (c.in_ok-next.ensures room).it.moves (sym (ap is_comma c.peek.ensures) ∙ sym c.is_comma.ensures ∙ c.loop-last-test.true)) (c.in_ok-next.ensures room),
    )

pub loop-last-smaller : goal.loop-last-smaller
loop-last-smaller c = let k = c.in_ok-next.ensures 0 in shorter c.loop-last.cursor c.next_formal.new.cursor k.it.front k.some k.it.read

pub returns-in_err-next : goal.returns-in_err-next
returns-in_err-next c room =
    let inv = c.loop-last.invariant in
    let returned = err_from_is_err_and c.from_residual-in_err-next.result c.from_residual-in_err-next.ensures.1 in
    rw (returned.1, returned.2) (failed c.in_err-next.field-0.0 (c.in_err-next.ensures room)
    (λ f. meaning_fails (λ p. p.0 ∷ p.1) (by_second_fails rest_of (more_fill c.in_ok-first.first) (λ words h. refl) (c.in_ok-first.ensures room).it
    (meaning_fails (λ p. p.0) (item_fails item typing_of ending room c.formal.new.cursor (typing_of c.in_ok-first.first) inv.0 c.loop-last.last c.loop-last.cursor (inv.2 room) (end_fill closing) (λ s words h. refl) c.next_formal.new.cursor c.in_err-next.field-0.0
    (comma_comes c.loop-last.cursor c.next_formal.new.cursor f.moves (sym (ap is_comma c.peek.ensures) ∙ sym c.is_comma.ensures ∙ c.loop-last-test.true)) f)))))

pub returns-in_err-pass : goal.returns-in_err-pass
returns-in_err-pass c room =
    let inv = c.loop-last.invariant in
    let returned = err_from_is_err_and c.from_residual-in_err-pass.result c.from_residual-in_err-pass.ensures.1 in
    rw (returned.1, returned.2) (failed c.in_err-pass.field-0.0 (c.in_err-pass.ensures room)
    (λ f. meaning_fails (λ p. p.0 ∷ p.1) (by_second_fails rest_of (more_fill c.in_ok-first.first) (λ words h. refl) (c.in_ok-first.ensures room).it
    (meaning_fails (λ p. p.0) (end_fails item typing_of ending room c.formal.new.cursor (typing_of c.in_ok-first.first) inv.0 c.loop-last.last c.loop-last.cursor (inv.2 room) (end_fill closing) (λ s words h. refl) c.pass.new.self c.in_err-pass.field-0.0
    (λ others agrees levels x rest h. no_comma_before c.loop-last.cursor c.pass.new.self f.moves (sym (ap is_comma c.peek.ensures) ∙ sym c.is_comma.ensures ∙ c.loop-last-test.false) others agrees h.0.0 h.2.0 h.2.1) f)))))

pub returns : goal.returns
returns c room =
    let inv = c.loop-last.invariant in
    let k = c.in_ok-pass.ensures room in
    let pushed : c.push.new.self ≡ c.in_ok-first.first ∷ [] = search rules in
    subst (λ fs. ReadsSome (always some_formals) room c.args.cursor.now c.pass.new.self fs) (sym (inv.1 ∙ ap (λ fs. fs ++ inv.0) pushed))
    (meaning_reads (λ p. p.0 ∷ p.1) (by_some rest_of (c.in_ok-first.ensures room)
    (meaning_it (λ p. p.0) (ended item typing_of ending room c.formal.new.cursor (typing_of c.in_ok-first.first) inv.0 c.loop-last.last c.loop-last.cursor (inv.2 room) c.pass.new.self c.in_ok-pass.field-0
    (λ others agrees levels x rest h. no_comma_before c.loop-last.cursor c.pass.new.self k.it.moves (sym (ap is_comma c.peek.ensures) ∙ sym c.is_comma.ensures ∙ c.loop-last-test.false) others agrees h.0.0 h.2.0 h.2.1) k.it))))
