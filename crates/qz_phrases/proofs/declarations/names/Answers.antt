use Rattle.std.proofs.Common.{ℕ, ◌≡◌, ◌∙◌, [], refl, ap}
use Rattle.std.proofs.lemmas.Result.{err_from_is_err_and}
use Rattle.qz_syntax.specs.declared.file_expressions.NameAt.{NameAt}
use Rattle.qz_phrases.specs.declared.words.Mark.TheVariants as mark
use Rattle.qz_phrases.specs.Phrases.{Kind}
use Rattle.qz_phrases.proofs.Combining.{Fill, always, failed, meaning_reads, meaning_fails, seq_first, seq_second, seq_some}
use Rattle.qz_phrases.proofs.Fills.{mark_fill}
use Rattle.qz_phrases.proofs.Typings.{semicolon_fill}
use Rattle.std.proofs.Common.{◌∷◌, ◌++◌, rules, sym, subst, append-nil, append_assoc}
use Rattle.qz_phrases.specs.Phrases.{one}
use Rattle.qz_phrases.specs.Declarations.{next_name, names}
use Rattle.qz_phrases.specs.Reading.{ReadsSome}
use Rattle.qz_phrases.proofs.Climbing.{shorter}
use Rattle.qz_phrases.proofs.Lists.{end_fill, none_yet, one_more, ended, item_fails, end_fails}
use Rattle.qz_phrases.proofs.Typings.{comma_here, no_comma_here}
use Rattle.qz_phrases.specs.Words.{is_comma}
use Rattle.qz_phrases.proofs.Ahead.{agrees_before}
use Rattle.qz_phrases.proofs.declarations.names.Goals as goal

abbrev item : Unit {0} → Kind NameAt
item s = always next_name

abbrev after : NameAt → Unit {0}
after n = tt

abbrev ending : Unit {0} → Kind ℕ
ending s = always (one mark.Semicolon)

abbrev closing : {room : ℕ} → (s : Unit {0}) → Fill (ending s) room
closing s = mark_fill mark.Semicolon

pub returns-in_err-first : goal.returns-in_err-first
returns-in_err-first c room =
    let returned = err_from_is_err_and c.from_residual.result c.from_residual.ensures.1 in
    rw (returned.1, returned.2) (failed c.in_err-first.field-0.0 (c.in_err-first.ensures room) (λ f. meaning_fails (λ p. p.0 ∷ p.1.0) (seq_first semicolon_fill (λ words h. refl) f)))

pub loop-cursor-init : goal.loop-cursor-init
loop-cursor-init c = ([], sym (append-nil c.push.new.self), λ room. none_yet item after ending room c.name.new.self tt)

pub loop-cursor-preserved : goal.loop-cursor-preserved
loop-cursor-preserved c =
    let inv = c.loop-cursor.invariant in (
      inv.0 ++ c.in_ok-next.next ∷ [],
      c.in_ok-push-2.ensures.ok ∙ ap (λ ns. ns ++ c.in_ok-next.next ∷ []) inv.1 ∙ append_assoc c.push.new.self inv.0 (c.in_ok-next.next ∷ []),
      λ room. one_more item after ending room c.name.new.self tt c.loop-cursor.invariant.0 tt c.loop-cursor.cursor (c.loop-cursor.invariant.2 room) c.next_name.new.cursor c.in_ok-next.next
          (λ others agrees levels at rest h. comma_here c.loop-cursor.cursor others (agrees_before c.loop-cursor.cursor c.next_name.new.cursor others (c.in_ok-next.ensures room).it.moves agrees) (sym (ap is_comma c.peek.ensures) ∙ sym c.is_comma.ensures ∙ c.loop-cursor-test.true) at rest h) (c.in_ok-next.ensures room),
    )

pub loop-cursor-smaller : goal.loop-cursor-smaller
loop-cursor-smaller c = let k = c.in_ok-next.ensures 0 in shorter c.loop-cursor.cursor c.next_name.new.cursor k.it.front k.some k.it.read

pub returns-in_err-next : goal.returns-in_err-next
returns-in_err-next c room =
    let inv = c.loop-cursor.invariant in
    let returned = err_from_is_err_and c.from_residual-in_err-next.result c.from_residual-in_err-next.ensures.1 in
    rw (returned.1, returned.2) (failed c.in_err-next.field-0.0 (c.in_err-next.ensures room)
    (λ f. meaning_fails (λ p. p.0 ∷ p.1.0) (seq_second semicolon_fill (λ words h. refl) (c.in_ok-first.ensures room).it
    (item_fails item after ending room c.name.new.self tt inv.0 tt c.loop-cursor.cursor (inv.2 room) (end_fill closing) (λ s words h. refl) c.next_name.new.cursor c.in_err-next.field-0.0
    (λ others agrees levels at rest h. comma_here c.loop-cursor.cursor others (agrees_before c.loop-cursor.cursor c.next_name.new.cursor others f.moves agrees) (sym (ap is_comma c.peek.ensures) ∙ sym c.is_comma.ensures ∙ c.loop-cursor-test.true) at rest h) f))))

pub returns-in_err-pass : goal.returns-in_err-pass
returns-in_err-pass c room =
    let inv = c.loop-cursor.invariant in
    let returned = err_from_is_err_and c.from_residual-in_err-pass.result c.from_residual-in_err-pass.ensures.1 in
    rw (returned.1, returned.2) (failed c.in_err-pass.field-0.0 (c.in_err-pass.ensures room)
    (λ f. meaning_fails (λ p. p.0 ∷ p.1.0) (seq_second semicolon_fill (λ words h. refl) (c.in_ok-first.ensures room).it
    (end_fails item after ending room c.name.new.self tt inv.0 tt c.loop-cursor.cursor (inv.2 room) (end_fill closing) (λ s words h. refl) c.pass.new.self c.in_err-pass.field-0.0
    (λ others agrees levels n rest h. no_comma_here c.loop-cursor.cursor others (agrees_before c.loop-cursor.cursor c.pass.new.self others f.moves agrees) (sym (ap is_comma c.peek.ensures) ∙ sym c.is_comma.ensures ∙ c.loop-cursor-test.false) n rest h) f))))

pub returns : goal.returns
returns c room =
    let inv = c.loop-cursor.invariant in
    let k = c.in_ok-pass.ensures room in
    let pushed : c.push.new.self ≡ c.in_ok-first.first ∷ [] = search rules in
    subst (λ ns. ReadsSome (always names) room c.args.cursor.now c.pass.new.self ns) (sym (inv.1 ∙ ap (λ ns. ns ++ inv.0) pushed))
    (meaning_reads (λ p. p.0 ∷ p.1.0) (seq_some (c.in_ok-first.ensures room)
    (ended item after ending room c.name.new.self tt inv.0 tt c.loop-cursor.cursor (inv.2 room) c.pass.new.self c.in_ok-pass.field-0
    (λ others agrees levels n rest h. no_comma_here c.loop-cursor.cursor others (agrees_before c.loop-cursor.cursor c.pass.new.self others k.it.moves agrees) (sym (ap is_comma c.peek.ensures) ∙ sym c.is_comma.ensures ∙ c.loop-cursor-test.false) n rest h) k.it)))
