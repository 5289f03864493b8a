use Rattle.std.proofs.Common.{◌≡◌, ◌+◌, ◌∷◌, drop, subst, arith}
use Rattle.std.proofs.lemmas.List.{drop_more}
use Rattle.std.proofs.lemmas.Result.{err_from_is_err_and}
use Rattle.qz_first.proofs.ReadingLemmas.{on_not_built}
use Rattle.qz_first.proofs.CoreLemmas.{CoresSoFar, no_turn, one_core_more, no_core_among}
use Rattle.qz_first.proofs.typing.+core.Goals as goal

pub members-returns-in_err-statement-clause-none :
    goal.members-returns-in_err-statement-clause-none
members-returns-in_err-statement-clause-none t c =
    let i = c.loop-part.part-index in
    let rest = drop (i + 1) c.args.parts.now in
    let split : drop i c.args.parts.now ≡ c.part-item.result ∷ rest = rw c.part-item.is (drop_more c.args.parts.now i c.part-item.result (omega arith)) in
    let so_far = subst (CoresSoFar c.args.numbers.now c.args.parts.now c.args.counts.now c.loop-part.members c.loop-part.counts) split c.loop-part.invariant in
    let returned = err_from_is_err_and c.from_residual.result c.from_residual.ensures.1 in
    rw (returned.1, returned.2) (on_not_built c.in_err-statement.field-0.0
    (no_core_among c.args.numbers.now c.args.parts.now c.args.counts.now c.loop-part.members c.loop-part.counts c.part-item.result rest so_far)
    c.in_err-statement.ensures.none)

pub members-loop-part-preserved : goal.members-loop-part-preserved
members-loop-part-preserved t c =
    let i = c.loop-part.part-index in
    let rest = drop (i + 1) c.args.parts.now in
    let split : drop i c.args.parts.now ≡ c.part-item.result ∷ rest = rw c.part-item.is (drop_more c.args.parts.now i c.part-item.result (omega arith)) in
    let so_far = subst (CoresSoFar c.args.numbers.now c.args.parts.now c.args.counts.now c.loop-part.members c.loop-part.counts) split c.loop-part.invariant in
    rw c.in_ok-push.ensures.ok (one_core_more c.args.numbers.now c.args.parts.now c.args.counts.now c.loop-part.members c.loop-part.counts c.statement.new.counts
    c.part-item.result rest c.in_ok-statement.field-0 so_far c.in_ok-statement.ensures.core)

pub statement-returns-in_default-clause-none : goal.statement-returns-in_default-clause-none
statement-returns-in_default-clause-none t c =
    rw c.in-Loop.is (no_turn c.args.numbers.now c.in-Loop.body c.args.counts.now c.in_default.ensures)
