use Rattle.std.proofs.Common.{sym, ◌∙◌, subst, rules}
use Rattle.std.proofs.lemmas.Result.{err_from_is_err_and}
use Rattle.qz_first.specs.Reading.{upcoming, NoStatement}
use Rattle.qz_first.proofs.ReadingLemmas.{no_word, no_block, no_part, one_part_more, shorter, on_not_built}
use Rattle.qz_first.proofs.reader.+statement.Goals as goal

pub statement-returns-in_default-clause-none : goal.statement-returns-in_default-clause-none
statement-returns-in_default-clause-none t c = no_word c.args.level (upcoming c.args.cursor.now) (search rules)

pub statement-returns-in_err-statements-in-Block-clause-none :
    goal.statement-returns-in_err-statements-in-Block-clause-none
statement-returns-in_err-statements-in-Block-clause-none t c =
    let returned = err_from_is_err_and c.from_residual-in_err-statements-in-Block.result c.from_residual-in_err-statements-in-Block.ensures.1 in
    rw (returned.1, returned.2) (on_not_built c.in_err-statements-in-Block.field-0.0
    (no_block c.args.level (upcoming c.args.cursor.now) (upcoming c.first_word.new.cursor) (search rules)) c.in_err-statements-in-Block.ensures.none)

pub statements-returns-in_err-statement-clause-none :
    goal.statements-returns-in_err-statement-clause-none
statements-returns-in_err-statement-clause-none t c =
    let returned = err_from_is_err_and c.from_residual.result c.from_residual.ensures.1 in
    rw (returned.1, returned.2) (on_not_built c.in_err-statement.field-0.0
    (λ (none : NoStatement c.args.level (upcoming c.accept.new.self)).
    no_part c.args.level (upcoming c.args.cursor.now) c.loop-alloc.parts (upcoming c.loop-alloc.cursor) c.loop-alloc.invariant
    c.loop-alloc-test.ensures.none (subst (NoStatement c.args.level) c.loop-alloc-test.ensures.same none)) c.in_err-statement.ensures.none)

pub statements-loop-alloc-smaller : goal.statements-loop-alloc-smaller
statements-loop-alloc-smaller t c =
    shorter c.in_ok-statement.field-0 (upcoming c.loop-alloc.cursor) (upcoming c.statement.new.cursor) (sym c.loop-alloc-test.ensures.same ∙ c.in_ok-statement.ensures.read)

pub statements-loop-alloc-preserved : goal.statements-loop-alloc-preserved
statements-loop-alloc-preserved t c =
    rw c.in_ok-push.ensures.ok (one_part_more c.args.level (upcoming c.args.cursor.now) c.loop-alloc.parts (upcoming c.loop-alloc.cursor) c.loop-alloc.invariant
    c.in_ok-statement.field-0 (upcoming c.statement.new.cursor) c.loop-alloc-test.ensures.none (sym c.loop-alloc-test.ensures.same ∙ c.in_ok-statement.ensures.read) c.in_ok-statement.ensures.fits)
