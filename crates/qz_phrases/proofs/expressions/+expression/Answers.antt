use Rattle.std.proofs.Common.{ℕ, ◌≡◌, ◌≤◌, ◌+◌, ◌-◌, ◌∙◌, rules, refl, sym, ap, subst, Err, arith}
use Rattle.std.proofs.lemmas.Result.{err_from_is_err_and}
use Rattle.qz_syntax.specs.declared.file_expressions.FileExpr.TheVariants as expr
use Rattle.qz_phrases.specs.declared.words.Mark.TheVariants as mark
use Rattle.qz_phrases.specs.declared.words.HeadStart.TheVariants as head
use Rattle.qz_phrases.specs.declared.words.Word.TheVariants as word
use Rattle.qz_phrases.specs.declared.expressions.Tail.TheVariants as tailed
use Rattle.qz_phrases.specs.Words.{head_start, head_strength, tail_start, tail_strength, tail_left, binary_right, strength}
use Rattle.qz_phrases.specs.Phrases.{one}
use Rattle.qz_phrases.specs.Expressions.{an_expr, an_operand}
use Rattle.qz_phrases.specs.Reading.{upcoming, Reads, Fails}
use Rattle.qz_phrases.specs.Parts.{head_need, Sized}
use Rattle.qz_phrases.proofs.Ahead.{moves_on}
use Rattle.qz_phrases.proofs.Combining.{Fill, always, then, start_is, failed, meaning_reads, meaning_fails, seq_first, seq_second, seq_reads, seq_some, fill_token, fill_then, fill_led}
use Rattle.qz_phrases.proofs.Sizes.{raised, least_none, least_first, least_second, least_meaning, least_max}
use Rattle.qz_phrases.proofs.Climbing.{so_far_operand, operand_fault, whole, too_weak, too_high, tail_fault, one_more, so_far_high, so_far_same, shorter}
use Rattle.qz_phrases.proofs.Operands.{filled, operand_fails, operand_sized, operand_deep, no_operand}
use Rattle.qz_phrases.proofs.Tails.{tail_fails, tail_sized, no_tail, tail_next, right_range, filled_indices}
use Rattle.qz_phrases.proofs.expressions.+expression.Goals as goal

-- one word in place of one that is missing
abbrev close : {room : ℕ} → Fill (always (one mark.CloseParen)) room
close = fill_token (λ at. record { word = word.Mark mark.CloseParen; at = at }) 0

abbrev inside : (room : ℕ) → 1 ≤ room → Fill (then (an_expr 1) (always (one mark.CloseParen))) room
inside room some = fill_then (filled 1 room (omega arith) (omega arith) some) close (λ words h. refl)

abbrev colon_no : (room : ℕ) → 1 ≤ room → Fill (then (always (one mark.Colon)) (an_expr 1)) room
colon_no room some = fill_led (λ at. record { word = word.Mark mark.Colon; at = at }) 0 (filled 1 room (omega arith) (omega arith) some)

abbrev yes_no : (room : ℕ) → 1 ≤ room → Fill (then (an_expr 1) (then (always (one mark.Colon)) (an_expr 1))) room
yes_no room some = fill_then (filled 1 room (omega arith) (omega arith) some) (colon_no room some) (λ words h. refl)

pub operand-returns-then-room-need : goal.operand-returns-then-room-need
operand-returns-then-room-need t c =
    record { reads = operand_deep c.args.cursor.now c.head-start.result c.args.room (c.head-start.ensures ∙ ap head_start c.peek.ensures) (omega (arith, c.if-room-need.true, c.need.ensures)) }

pub operand-returns-in-None : goal.operand-returns-in-None
operand-returns-in-None t c =
    record { reads = no_operand c.args.cursor.now c.head-start.result c.args.room (c.head-start.ensures ∙ ap head_start c.peek.ensures) c.in-None.is }

pub operand-returns-in_err-at-in-Bool : goal.operand-returns-in_err-at-in-Bool
operand-returns-in_err-at-in-Bool t c =
    record { reads = let returned = err_from_is_err_and c.from_residual.result c.from_residual.ensures.1 in rw (returned.1, returned.2) (failed c.in_err-at-in-Bool.field-0.0 (subst (λ m. Reads (always (one m)) (c.args.room - 1) c.args.cursor.now c.pass.new.self (Err c.in_err-at-in-Bool.field-0.0)) c.bool_mark.ensures (c.in_err-at-in-Bool.ensures (c.args.room - 1))) (λ f. operand_fails (start_is head_start c.args.cursor.now c.peek.ensures c.head-start.ensures c.in-Bool.is) (omega (arith, c.if-room-need.false, c.need.ensures, ap head_need c.in-Bool.is)) (meaning_fails (λ at. expr.Bool c.in-Bool.value at) f))) }

pub operand-returns-in_ok-at-in-Bool : goal.operand-returns-in_ok-at-in-Bool
operand-returns-in_ok-at-in-Bool t c =
    record { reads = (operand_sized (start_is head_start c.args.cursor.now c.peek.ensures c.head-start.ensures c.in-Bool.is) (omega (arith, c.if-room-need.false, c.need.ensures, ap head_need c.in-Bool.is)) (meaning_reads (λ at. expr.Bool c.in-Bool.value at) (rw c.bool_mark.ensures at (c.in_ok-at-in-Bool.ensures 0))) least_none, ap head_strength (start_is head_start c.args.cursor.now c.peek.ensures c.head-start.ensures c.in-Bool.is)) }

pub operand-returns-in_err-width-in-Literal : goal.operand-returns-in_err-width-in-Literal
operand-returns-in_err-width-in-Literal t c =
    record { reads = let returned = err_from_is_err_and c.from_residual-in_err-width-in-Literal.result c.from_residual-in_err-width-in-Literal.ensures.1 in rw (returned.1, returned.2) (failed c.in_err-width-in-Literal.field-0.0 (c.in_err-width-in-Literal.ensures (c.args.room - 1)) (λ f. operand_fails (start_is head_start c.args.cursor.now c.peek.ensures c.head-start.ensures c.in-Literal.is) (omega (arith, c.if-room-need.false, c.need.ensures, ap head_need c.in-Literal.is)) (meaning_fails (λ (n : ℕ × ℕ × ℕ). expr.Lit n.0 n.1 n.2) f))) }

pub operand-returns-in_ok-width-in-Literal : goal.operand-returns-in_ok-width-in-Literal
operand-returns-in_ok-width-in-Literal t c =
    record { reads = (operand_sized (start_is head_start c.args.cursor.now c.peek.ensures c.head-start.ensures c.in-Literal.is) (omega (arith, c.if-room-need.false, c.need.ensures, ap head_need c.in-Literal.is)) (meaning_reads (λ (n : ℕ × ℕ × ℕ). expr.Lit n.0 n.1 n.2) (c.in_ok-width-in-Literal.ensures 0)) least_none, ap head_strength (start_is head_start c.args.cursor.now c.peek.ensures c.head-start.ensures c.in-Literal.is)) }

pub operand-returns-in_err-name-in-Name : goal.operand-returns-in_err-name-in-Name
operand-returns-in_err-name-in-Name t c =
    record { reads = let returned = err_from_is_err_and c.from_residual-in_err-name-in-Name.result c.from_residual-in_err-name-in-Name.ensures.1 in rw (returned.1, returned.2) (failed c.in_err-name-in-Name.field-0.0 (c.in_err-name-in-Name.ensures (c.args.room - 1)) (λ f. operand_fails (start_is head_start c.args.cursor.now c.peek.ensures c.head-start.ensures c.in-Name.is) (omega (arith, c.if-room-need.false, c.need.ensures, ap head_need c.in-Name.is)) (meaning_fails expr.Name f))) }

pub operand-returns-in_ok-name-in-Name : goal.operand-returns-in_ok-name-in-Name
operand-returns-in_ok-name-in-Name t c =
    record { reads = (operand_sized (start_is head_start c.args.cursor.now c.peek.ensures c.head-start.ensures c.in-Name.is) (omega (arith, c.if-room-need.false, c.need.ensures, ap head_need c.in-Name.is)) (meaning_reads expr.Name (c.in_ok-name-in-Name.ensures 0)) least_none, ap head_strength (start_is head_start c.args.cursor.now c.peek.ensures c.head-start.ensures c.in-Name.is)) }

pub parenthesised-returns-in_err-at : goal.parenthesised-returns-in_err-at
parenthesised-returns-in_err-at t c =
    record { reads = λ here. let returned = err_from_is_err_and c.from_residual.result c.from_residual.ensures.1 in rw (returned.1, returned.2) (failed c.in_err-at.field-0.0 (c.in_err-at.ensures (c.args.room - 1)) (λ f. operand_fails here (omega (arith, c.if-room-lt2.false)) (meaning_fails (λ p. expr.Paren p.0 p.1.0) (seq_first (inside (c.args.room - 1) (omega (arith, c.if-room-lt2.false))) (λ words h. refl) f)))) }

pub parenthesised-returns-in_err-inner : goal.parenthesised-returns-in_err-inner
parenthesised-returns-in_err-inner t c =
    record { reads = λ here. let returned = err_from_is_err_and c.from_residual-in_err-inner.result c.from_residual-in_err-inner.ensures.1 in rw (returned.1, returned.2) (failed c.in_err-inner.field-0.0 (c.in_err-inner.ensures.reads (omega arith) (omega arith)) (λ f. operand_fails here (omega (arith, c.if-room-lt2.false)) (meaning_fails (λ p. expr.Paren p.0 p.1.0) (seq_second (inside (c.args.room - 1) (omega (arith, c.if-room-lt2.false))) (λ words h. refl) (c.in_ok-at.ensures (c.args.room - 1)).it (seq_first close (λ words h. refl) f))))) }

pub parenthesised-returns-in_err-pass : goal.parenthesised-returns-in_err-pass
parenthesised-returns-in_err-pass t c =
    record { reads = λ here. let returned = err_from_is_err_and c.from_residual-in_err-pass.result c.from_residual-in_err-pass.ensures.1 in rw (returned.1, returned.2) (failed c.in_err-pass.field-0.0 (c.in_err-pass.ensures (c.args.room - 1)) (λ f. operand_fails here (omega (arith, c.if-room-lt2.false)) (meaning_fails (λ p. expr.Paren p.0 p.1.0) (seq_second (inside (c.args.room - 1) (omega (arith, c.if-room-lt2.false))) (λ words h. refl) (c.in_ok-at.ensures (c.args.room - 1)).it (seq_second close (λ words h. refl) (raised (c.args.room - 1) (c.in_ok-inner.ensures.reads (omega arith) (omega arith)).low (c.in_ok-inner.ensures.reads (omega arith) (omega arith)).it).it f))))) }

pub parenthesised-overflow_add-height : goal.parenthesised-overflow_add-height
parenthesised-overflow_add-height t c =
    let some : 2 ≤ c.args.room = (omega (arith, c.if-room-lt2.false)) in
    let low = (c.in_ok-inner.ensures.reads (omega arith) (omega arith)).low in omega (arith, low, some, c.ranges.room.fits)

pub parenthesised-returns-in_err-boxed : goal.parenthesised-returns-in_err-boxed
parenthesised-returns-in_err-boxed t c =
    record { reads = λ here. let returned = err_from_is_err_and c.from_residual-in_err-boxed.result c.from_residual-in_err-boxed.ensures.1 in rw (returned.1, returned.2) tt }

pub parenthesised-returns : goal.parenthesised-returns
parenthesised-returns t c =
    let some : 2 ≤ c.args.room = (omega (arith, c.if-room-lt2.false)) in
    let inner = (c.in_ok-inner.ensures.reads (omega arith) (omega arith)) in
    let closing = (c.in_ok-pass.ensures c.in_ok-inner.inner.height).it in
    let boxed : c.in_ok-boxed.boxed ≡ c.in_ok-inner.inner.expr = search rules in
    record {
      reads = λ here. (
        subst (λ e. Sized an_operand c.args.room (c.in_ok-inner.inner.height + 1) c.args.cursor.now c.pass-2.new.self (expr.Paren c.in_ok-at.at e)) (sym boxed) (operand_sized here (omega (arith, inner.low, some)) (meaning_reads (λ p. expr.Paren p.0 p.1.0) (seq_some (c.in_ok-at.ensures c.in_ok-inner.inner.height) (seq_reads inner.it.it closing)))
            (least_meaning (λ p. expr.Paren p.0 p.1.0) (least_second (moves_on _ _ _ inner.it.it.moves closing.moves) (c.in_ok-at.ensures c.in_ok-inner.inner.height).it (least_first (always (one mark.CloseParen)) closing.moves (record { least = inner.least }))))),
        ap head_strength here,
      );
    }

pub prefixed-returns-in_err-at : goal.prefixed-returns-in_err-at
prefixed-returns-in_err-at t c =
    record { reads = λ here. let returned = err_from_is_err_and c.from_residual.result c.from_residual.ensures.1 in rw (returned.1, returned.2) (failed c.in_err-at.field-0.0 (subst (λ m. Reads (always (one m)) (c.args.room - 1) c.args.cursor.now c.pass.new.self (Err c.in_err-at.field-0.0)) c.unary_mark.ensures (c.in_err-at.ensures (c.args.room - 1))) (λ f. operand_fails here (omega (arith, c.if-room-lt2.false)) (meaning_fails (λ p. expr.Un c.args.op p.0 p.1) (seq_first (filled 9 (c.args.room - 1) (omega arith) (omega arith) (omega (arith, c.if-room-lt2.false))) (λ words h. refl) f)))) }

pub prefixed-returns-in_err-inner : goal.prefixed-returns-in_err-inner
prefixed-returns-in_err-inner t c =
    let opened = rw c.unary_mark.ensures at (c.in_ok-at.ensures (c.args.room - 1)) in
    record { reads = λ here. let returned = err_from_is_err_and c.from_residual-in_err-inner.result c.from_residual-in_err-inner.ensures.1 in rw (returned.1, returned.2) (failed c.in_err-inner.field-0.0 (c.in_err-inner.ensures.reads (omega arith) (omega arith)) (λ f. operand_fails here (omega (arith, c.if-room-lt2.false)) (meaning_fails (λ p. expr.Un c.args.op p.0 p.1) (seq_second (filled 9 (c.args.room - 1) (omega arith) (omega arith) (omega (arith, c.if-room-lt2.false))) (λ words h. refl) opened.it f)))) }

pub prefixed-overflow_add-height : goal.prefixed-overflow_add-height
prefixed-overflow_add-height t c =
    let some : 2 ≤ c.args.room = (omega (arith, c.if-room-lt2.false)) in
    let low = (c.in_ok-inner.ensures.reads (omega arith) (omega arith)).low in omega (arith, low, some, c.ranges.room.fits)

pub prefixed-returns-in_err-arg : goal.prefixed-returns-in_err-arg
prefixed-returns-in_err-arg t c =
    record { reads = λ here. let returned = err_from_is_err_and c.from_residual-in_err-arg.result c.from_residual-in_err-arg.ensures.1 in rw (returned.1, returned.2) tt }

pub prefixed-returns : goal.prefixed-returns
prefixed-returns t c =
    let some : 2 ≤ c.args.room = (omega (arith, c.if-room-lt2.false)) in
    let inner = (c.in_ok-inner.ensures.reads (omega arith) (omega arith)) in
    let opened = rw c.unary_mark.ensures at (c.in_ok-at.ensures c.in_ok-inner.inner.height) in
    let boxed : c.in_ok-arg.arg ≡ c.in_ok-inner.inner.expr = search rules in
    record { reads = λ here. (subst (λ e. Sized an_operand c.args.room (c.in_ok-inner.inner.height + 1) c.args.cursor.now c.climb.new.cursor (expr.Un c.args.op c.in_ok-at.at e)) (sym boxed) (operand_sized here (omega (arith, inner.low, some)) (meaning_reads (λ p. expr.Un c.args.op p.0 p.1) (seq_some opened inner.it.it)) (least_meaning (λ p. expr.Un c.args.op p.0 p.1) (least_second inner.it.it.moves opened.it (record { least = inner.least })))), ap head_strength here) }

pub continuation-returns-in_err-at-in-Binary : goal.continuation-returns-in_err-at-in-Binary
continuation-returns-in_err-at-in-Binary t c =
    record { reads = let returned = err_from_is_err_and c.from_residual.result c.from_residual.ensures.1 in rw (returned.1, returned.2) (λ some. failed c.in_err-at-in-Binary.field-0.0 (subst (λ m. Reads (always (one m)) c.args.room c.args.cursor.now c.pass.new.self (Err c.in_err-at-in-Binary.field-0.0)) c.binary_mark.ensures (c.in_err-at-in-Binary.ensures c.args.room)) (λ f. tail_fails (start_is tail_start c.args.cursor.now c.peek.ensures c.tail.ensures c.in-Binary.is) (meaning_fails (λ p. tailed.Binary c.in-Binary.op p.0 p.1) (seq_first (filled (binary_right c.in-Binary.op) c.args.room (right_range c.in-Binary.op).0 (omega (arith, (right_range c.in-Binary.op).1)) some) (λ words h. refl) f)))) }

pub continuation-returns-in_err-right-in-Binary : goal.continuation-returns-in_err-right-in-Binary
continuation-returns-in_err-right-in-Binary t c =
    let opened = rw c.binary_mark.ensures at (c.in_ok-at-in-Binary.ensures c.args.room) in
    let range = right_range c.in-Binary.op in
    let right = c.in_err-right-in-Binary.ensures.reads (omega (arith, range.0, c.binary_right.ensures)) (omega (arith, range.1, c.binary_right.ensures)) in
    record { reads = let returned = err_from_is_err_and c.from_residual-in_err-right-in-Binary.result c.from_residual-in_err-right-in-Binary.ensures.1 in rw (returned.1, returned.2) (λ some. failed c.in_err-right-in-Binary.field-0.0 right (λ f. tail_fails (start_is tail_start c.args.cursor.now c.peek.ensures c.tail.ensures c.in-Binary.is) (meaning_fails (λ p. tailed.Binary c.in-Binary.op p.0 p.1) (seq_second (filled (binary_right c.in-Binary.op) c.args.room (right_range c.in-Binary.op).0 (omega (arith, (right_range c.in-Binary.op).1)) some) (λ words h. refl) opened.it (subst (λ n. Fails (an_expr n) c.args.room c.pass.new.self c.climb.new.cursor c.in_err-right-in-Binary.field-0.0) c.binary_right.ensures f))))) }

pub continuation-returns-in_ok-right-in-Binary : goal.continuation-returns-in_ok-right-in-Binary
continuation-returns-in_ok-right-in-Binary t c =
    let opened = rw c.binary_mark.ensures at (c.in_ok-at-in-Binary.ensures c.in_ok-right-in-Binary.right.height) in
    let any = rw c.binary_right.ensures at (c.in_ok-right-in-Binary.ensures.reads) in
    let right = any (right_range c.in-Binary.op).0 (right_range c.in-Binary.op).1 in
    record { reads = tail_sized (start_is tail_start c.args.cursor.now c.peek.ensures c.tail.ensures c.in-Binary.is) right.low (meaning_reads (λ p. tailed.Binary c.in-Binary.op p.0 p.1) (seq_some opened right.it.it)) (least_meaning (λ p. tailed.Binary c.in-Binary.op p.0 p.1) (least_second right.it.it.moves opened.it (record { least = right.least }))) }

pub continuation-returns-in_err-at-in-Concat : goal.continuation-returns-in_err-at-in-Concat
continuation-returns-in_err-at-in-Concat t c =
    record { reads = let returned = err_from_is_err_and c.from_residual-in_err-at-in-Concat.result c.from_residual-in_err-at-in-Concat.ensures.1 in rw (returned.1, returned.2) (λ some. failed c.in_err-at-in-Concat.field-0.0 (c.in_err-at-in-Concat.ensures c.args.room) (λ f. tail_fails (start_is tail_start c.args.cursor.now c.peek.ensures c.tail.ensures c.in-Concat.is) (meaning_fails (λ p. tailed.Concat p.0 p.1) (seq_first (filled 9 c.args.room (omega arith) (omega arith) some) (λ words h. refl) f)))) }

pub continuation-returns-in_err-right-in-Concat : goal.continuation-returns-in_err-right-in-Concat
continuation-returns-in_err-right-in-Concat t c =
    record { reads = let returned = err_from_is_err_and c.from_residual-in_err-right-in-Concat.result c.from_residual-in_err-right-in-Concat.ensures.1 in rw (returned.1, returned.2) (λ some. failed c.in_err-right-in-Concat.field-0.0 (c.in_err-right-in-Concat.ensures.reads (omega arith) (omega arith)) (λ f. tail_fails (start_is tail_start c.args.cursor.now c.peek.ensures c.tail.ensures c.in-Concat.is) (meaning_fails (λ p. tailed.Concat p.0 p.1) (seq_second (filled 9 c.args.room (omega arith) (omega arith) some) (λ words h. refl) (c.in_ok-at-in-Concat.ensures c.args.room).it f)))) }

pub continuation-returns-in_ok-right-in-Concat : goal.continuation-returns-in_ok-right-in-Concat
continuation-returns-in_ok-right-in-Concat t c =
    let right = c.in_ok-right-in-Concat.ensures.reads (omega arith) (omega arith) in
    record { reads = tail_sized (start_is tail_start c.args.cursor.now c.peek.ensures c.tail.ensures c.in-Concat.is) right.low (meaning_reads (λ p. tailed.Concat p.0 p.1) (seq_some (c.in_ok-at-in-Concat.ensures c.in_ok-right-in-Concat.right.height) right.it.it)) (least_meaning (λ p. tailed.Concat p.0 p.1) (least_second right.it.it.moves (c.in_ok-at-in-Concat.ensures c.in_ok-right-in-Concat.right.height).it (record { least = right.least }))) }

pub continuation-returns-in_err-at-in-Choose : goal.continuation-returns-in_err-at-in-Choose
continuation-returns-in_err-at-in-Choose t c =
    record { reads = let returned = err_from_is_err_and c.from_residual-in_err-at-in-Choose.result c.from_residual-in_err-at-in-Choose.ensures.1 in rw (returned.1, returned.2) (λ some. failed c.in_err-at-in-Choose.field-0.0 (c.in_err-at-in-Choose.ensures c.args.room) (λ f. tail_fails (start_is tail_start c.args.cursor.now c.peek.ensures c.tail.ensures c.in-Choose.is) (meaning_fails (λ p. tailed.Choose p.0 p.1.0 p.1.1.1) (seq_first (yes_no c.args.room some) (λ words h. refl) f)))) }

pub continuation-returns-in_err-yes-in-Choose : goal.continuation-returns-in_err-yes-in-Choose
continuation-returns-in_err-yes-in-Choose t c =
    record { reads = let returned = err_from_is_err_and c.from_residual-in_err-yes-in-Choose.result c.from_residual-in_err-yes-in-Choose.ensures.1 in rw (returned.1, returned.2) (λ some. failed c.in_err-yes-in-Choose.field-0.0 (c.in_err-yes-in-Choose.ensures.reads (omega arith) (omega arith)) (λ f. tail_fails (start_is tail_start c.args.cursor.now c.peek.ensures c.tail.ensures c.in-Choose.is) (meaning_fails (λ p. tailed.Choose p.0 p.1.0 p.1.1.1) (seq_second (yes_no c.args.room some) (λ words h. refl) (c.in_ok-at-in-Choose.ensures c.args.room).it (seq_first (colon_no c.args.room some) (λ words h. refl) f))))) }

pub continuation-returns-in_err-pass-in-Choose : goal.continuation-returns-in_err-pass-in-Choose
continuation-returns-in_err-pass-in-Choose t c =
    let yes = c.in_ok-yes-in-Choose.ensures.reads (omega arith) (omega arith) in
    record { reads = let returned = err_from_is_err_and c.from_residual-in_err-pass-in-Choose.result c.from_residual-in_err-pass-in-Choose.ensures.1 in rw (returned.1, returned.2) (λ some. failed c.in_err-pass-in-Choose.field-0.0 (c.in_err-pass-in-Choose.ensures c.args.room) (λ f. tail_fails (start_is tail_start c.args.cursor.now c.peek.ensures c.tail.ensures c.in-Choose.is) (meaning_fails (λ p. tailed.Choose p.0 p.1.0 p.1.1.1) (seq_second (yes_no c.args.room some) (λ words h. refl) (c.in_ok-at-in-Choose.ensures c.args.room).it (seq_second (colon_no c.args.room some) (λ words h. refl) (raised c.args.room yes.low yes.it).it (seq_first (filled 1 c.args.room (omega arith) (omega arith) some) (λ words h. refl) f)))))) }

pub continuation-returns-in_err-no-in-Choose : goal.continuation-returns-in_err-no-in-Choose
continuation-returns-in_err-no-in-Choose t c =
    let yes = c.in_ok-yes-in-Choose.ensures.reads (omega arith) (omega arith) in
    record { reads = let returned = err_from_is_err_and c.from_residual-in_err-no-in-Choose.result c.from_residual-in_err-no-in-Choose.ensures.1 in rw (returned.1, returned.2) (λ some. failed c.in_err-no-in-Choose.field-0.0 (c.in_err-no-in-Choose.ensures.reads (omega arith) (omega arith)) (λ f. tail_fails (start_is tail_start c.args.cursor.now c.peek.ensures c.tail.ensures c.in-Choose.is) (meaning_fails (λ p. tailed.Choose p.0 p.1.0 p.1.1.1) (seq_second (yes_no c.args.room some) (λ words h. refl) (c.in_ok-at-in-Choose.ensures c.args.room).it (seq_second (colon_no c.args.room some) (λ words h. refl) (raised c.args.room yes.low yes.it).it (seq_second (filled 1 c.args.room (omega arith) (omega arith) some) (λ words h. refl) (c.in_ok-pass-in-Choose.ensures c.args.room).it f)))))) }

pub continuation-returns-in_ok-no-in-Choose : goal.continuation-returns-in_ok-no-in-Choose
continuation-returns-in_ok-no-in-Choose t c =
    let yes = c.in_ok-yes-in-Choose.ensures.reads (omega arith) (omega arith) in
    let no = c.in_ok-no-in-Choose.ensures.reads (omega arith) (omega arith) in
    let high = c.max.result in
    let first = raised high (omega (arith, c.max.ensures)) yes.it in
    let second = raised high (omega (arith, c.max.ensures)) no.it in
    let colon = (c.in_ok-pass-in-Choose.ensures high).it in
    let opened = c.in_ok-at-in-Choose.ensures high in
    record {
      reads = tail_sized (start_is tail_start c.args.cursor.now c.peek.ensures c.tail.ensures c.in-Choose.is) (omega (arith, c.max.ensures, yes.low, no.low)) (meaning_reads (λ p. tailed.Choose p.0 p.1.0 p.1.1.1) (seq_some opened (seq_reads first.it (seq_reads colon second.it))))
          (least_meaning (λ p. tailed.Choose p.0 p.1.0 p.1.1.1) (least_second (moves_on _ _ _ first.it.moves (moves_on _ _ _ colon.moves second.it.moves)) opened.it
          (least_max c.max.ensures (least_first (then (always (one mark.Colon)) (an_expr 1)) (moves_on _ _ _ colon.moves second.it.moves) (record { least = yes.least }))
          (least_second (moves_on _ _ _ colon.moves second.it.moves) first.it (least_second second.it.moves colon (record { least = no.least }))))));
    }

pub continuation-returns-in_err-at-in-Select : goal.continuation-returns-in_err-at-in-Select
continuation-returns-in_err-at-in-Select t c =
    record { reads = let returned = err_from_is_err_and c.from_residual-in_err-at-in-Select.result c.from_residual-in_err-at-in-Select.ensures.1 in rw (returned.1, returned.2) (λ some. failed c.in_err-at-in-Select.field-0.0 (c.in_err-at-in-Select.ensures c.args.room) (λ f. tail_fails (start_is tail_start c.args.cursor.now c.peek.ensures c.tail.ensures c.in-Select.is) (meaning_fails (λ p. tailed.Select p.0 p.1.0 p.1.1) (seq_first filled_indices (λ words h. refl) f)))) }

pub continuation-returns-in_err-high-in-Select : goal.continuation-returns-in_err-high-in-Select
continuation-returns-in_err-high-in-Select t c =
    record { reads = let returned = err_from_is_err_and c.from_residual-in_err-high-in-Select.result c.from_residual-in_err-high-in-Select.ensures.1 in rw (returned.1, returned.2) (λ some. failed c.in_err-high-in-Select.field-0.0 (c.in_err-high-in-Select.ensures c.args.room) (λ f. tail_fails (start_is tail_start c.args.cursor.now c.peek.ensures c.tail.ensures c.in-Select.is) (meaning_fails (λ p. tailed.Select p.0 p.1.0 p.1.1) (seq_second filled_indices (λ words h. refl) (c.in_ok-at-in-Select.ensures c.args.room).it f)))) }

pub continuation-returns-in_ok-high-in-Select : goal.continuation-returns-in_ok-high-in-Select
continuation-returns-in_ok-high-in-Select t c =
    record { reads = tail_sized (start_is tail_start c.args.cursor.now c.peek.ensures c.tail.ensures c.in-Select.is) (omega arith) (meaning_reads (λ p. tailed.Select p.0 p.1.0 p.1.1) (seq_some (c.in_ok-at-in-Select.ensures 0) (c.in_ok-high-in-Select.ensures 0).it)) least_none }

pub continuation-returns-in-None : goal.continuation-returns-in-None
continuation-returns-in-None t c =
    record { reads = λ some. no_tail c.args.cursor.now c.tail.result c.args.room (c.tail.ensures ∙ ap tail_start c.peek.ensures) c.in-None.is }

pub climb-returns-in_err-left : goal.climb-returns-in_err-left
climb-returns-in_err-left t c =
    record { reads = λ pos nine. let returned = err_from_is_err_and c.from_residual.result c.from_residual.ensures.1 in rw (returned.1, returned.2) (failed c.in_err-left.field-0.0 (c.in_err-left.ensures.reads) (λ f. operand_fault c.args.least c.args.room c.args.cursor.now c.operand.new.cursor c.in_err-left.field-0.0 pos nine f)) }

pub climb-loop-alloc-init : goal.climb-loop-alloc-init
climb-loop-alloc-init t c =
    λ pos nine. so_far_operand c.args.least c.args.room c.args.cursor.now c.operand.new.cursor c.in_ok-left.left.expr c.in_ok-left.left.strength c.in_ok-left.left.height nine c.in_ok-left.ensures.reads.0 c.in_ok-left.ensures.reads.1

pub climb-returns-then-strength-least : goal.climb-returns-then-strength-least
climb-returns-then-strength-least t c =
    record { reads = λ pos nine. whole c.args.least c.args.room c.args.cursor.now c.loop-alloc.left.expr c.loop-alloc.left.strength c.loop-alloc.left.height c.loop-alloc.cursor pos (c.loop-alloc.invariant pos nine) (omega (arith, c.if-strength-least.true, c.strength.ensures, ap tail_strength (c.tail-start.ensures ∙ ap tail_start c.peek.ensures))) }

pub climb-returns-then-left : goal.climb-returns-then-left
climb-returns-then-left t c =
    record { reads = λ pos nine. too_weak c.args.least c.args.room c.args.cursor.now c.loop-alloc.left.expr c.loop-alloc.left.strength c.loop-alloc.left.height c.loop-alloc.cursor pos (c.loop-alloc.invariant pos nine) (omega (arith, c.if-strength-least.false, c.strength.ensures, ap tail_strength (c.tail-start.ensures ∙ ap tail_start c.peek.ensures))) (omega (arith, c.if-left.true, c.left.ensures, ap tail_left (c.tail-start.ensures ∙ ap tail_start c.peek.ensures))) }

pub climb-returns-then-left-room : goal.climb-returns-then-left-room
climb-returns-then-left-room t c =
    record { reads = λ pos nine. let goes : c.args.least ≤ strength (upcoming c.loop-alloc.cursor) = (omega (arith, c.if-strength-least.false, c.strength.ensures, ap tail_strength (c.tail-start.ensures ∙ ap tail_start c.peek.ensures))) in let n = tail_next c.loop-alloc.cursor (omega (arith, pos, goes)) in too_high c.args.least c.args.room c.args.cursor.now c.loop-alloc.left.expr c.loop-alloc.left.strength c.loop-alloc.left.height c.loop-alloc.cursor pos (c.loop-alloc.invariant pos nine) (omega (arith, c.if-strength-least.false, c.strength.ensures, ap tail_strength (c.tail-start.ensures ∙ ap tail_start c.peek.ensures))) c.if-left-room.true (omega (arith, c.if-left.false, c.left.ensures, ap tail_left (c.tail-start.ensures ∙ ap tail_start c.peek.ensures))) n.0 n.1 n.2 n.3 }

pub climb-returns-in_err-next : goal.climb-returns-in_err-next
climb-returns-in_err-next t c =
    record { reads = λ pos nine. let returned = err_from_is_err_and c.from_residual-in_err-next.result c.from_residual-in_err-next.ensures.1 in rw (returned.1, returned.2) (failed c.in_err-next.field-0.0 (c.in_err-next.ensures.reads (omega (arith, so_far_high c.args.least c.args.room c.args.cursor.now c.loop-alloc.left.expr c.loop-alloc.left.strength c.loop-alloc.left.height c.loop-alloc.cursor (c.loop-alloc.invariant pos nine), c.if-left-room.false))) (λ f. tail_fault c.args.least c.args.room c.args.cursor.now c.loop-alloc.left.expr c.loop-alloc.left.strength c.loop-alloc.left.height c.loop-alloc.cursor pos (c.loop-alloc.invariant pos nine) (omega (arith, c.if-strength-least.false, c.strength.ensures, ap tail_strength (c.tail-start.ensures ∙ ap tail_start c.peek.ensures))) c.continuation.new.cursor c.in_err-next.field-0.0 c.if-left-room.false (omega (arith, c.if-left.false, c.left.ensures, ap tail_left (c.tail-start.ensures ∙ ap tail_start c.peek.ensures))) f)) }

pub climb-returns-in_err-applied : goal.climb-returns-in_err-applied
climb-returns-in_err-applied t c =
    record { reads = λ pos nine. let returned = err_from_is_err_and c.from_residual-in_err-applied.result c.from_residual-in_err-applied.ensures.1 in rw (returned.1, returned.2, c.in_err-applied.ensures.memory) tt }

pub climb-overflow_add-left : goal.climb-overflow_add-left
climb-overflow_add-left t c =
    omega (arith, c.if-left-room.false, c.in_ok-next.ensures.reads.low, c.max.ensures, c.ranges.room.fits)

pub climb-loop-alloc-smaller : goal.climb-loop-alloc-smaller
climb-loop-alloc-smaller t c =
    shorter c.loop-alloc.cursor c.continuation.new.cursor c.in_ok-next.ensures.reads.it.it.front c.in_ok-next.ensures.reads.it.some c.in_ok-next.ensures.reads.it.it.read

pub climb-loop-alloc-preserved : goal.climb-loop-alloc-preserved
climb-loop-alloc-preserved t c =
    λ pos nine. so_far_same c.in_ok-applied.field-0 c.strength-in-loop-alloc.result (c.max.result + 1) c.in_ok-applied.ensures.made (c.strength-in-loop-alloc.ensures ∙ ap tail_strength (c.tail-start.ensures ∙ ap tail_start c.peek.ensures)) (omega (arith, c.max.ensures)) (one_more c.args.least c.args.room c.args.cursor.now c.loop-alloc.left.expr c.loop-alloc.left.strength c.loop-alloc.left.height c.loop-alloc.cursor pos (c.loop-alloc.invariant pos nine) (omega (arith, c.if-strength-least.false, c.strength.ensures, ap tail_strength (c.tail-start.ensures ∙ ap tail_start c.peek.ensures))) c.continuation.new.cursor c.in_ok-next.next.tail c.in_ok-next.next.height c.if-left-room.false (omega (arith, c.if-left.false, c.left.ensures, ap tail_left (c.tail-start.ensures ∙ ap tail_start c.peek.ensures))) c.in_ok-next.ensures.reads)

pub operand-returns-in-Paren : goal.operand-returns-in-Paren
operand-returns-in-Paren t c = record { reads = c.parenthesised.ensures.reads (start_is head_start c.args.cursor.now c.peek.ensures c.head-start.ensures c.in-Paren.is) }

pub operand-returns-in-Unary : goal.operand-returns-in-Unary
operand-returns-in-Unary t c = record { reads = c.prefixed.ensures.reads (start_is head_start c.args.cursor.now c.peek.ensures c.head-start.ensures c.in-Unary.is) }

pub parenthesised-returns-then-room-lt2 : goal.parenthesised-returns-then-room-lt2
parenthesised-returns-then-room-lt2 t c = record { reads = λ here. operand_deep c.args.cursor.now (head.Paren) c.args.room here c.if-room-lt2.true }

pub prefixed-returns-then-room-lt2 : goal.prefixed-returns-then-room-lt2
prefixed-returns-then-room-lt2 t c = record { reads = λ here. operand_deep c.args.cursor.now (head.Unary c.args.op) c.args.room here c.if-room-lt2.true }
