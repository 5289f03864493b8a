use Rattle.std.proofs.Common.{sym, ◌∙◌, subst}
use Rattle.std.proofs.lemmas.Result.{err_from_is_err_and}
use Rattle.qz_first.specs.Reading.{upcoming, NoText}
use Rattle.qz_first.proofs.ReadingLemmas.{on_not_built}
use Rattle.qz_first.proofs.FormalLemmas.{no_later_formal, one_formal_more, no_end_of_formals, formals_read}
use Rattle.std.proofs.Common.{codes}
use Rattle.qz_first.proofs.reader.formals.Goals as goal

pub returns-in_err-formal-2-clause-none : goal.returns-in_err-formal-2-clause-none
returns-in_err-formal-2-clause-none c =
    let returned = err_from_is_err_and c.from_residual-in_err-formal-2.result c.from_residual-in_err-formal-2.ensures.1 in
    rw (returned.1, returned.2) (on_not_built c.in_err-formal-2.field-0.0
    (no_later_formal (upcoming c.args.cursor.now) c.loop-alloc.formals (upcoming c.loop-alloc.cursor) c.loop-alloc.invariant
    (upcoming c.accept-in-loop-alloc.new.self) c.loop-alloc-test.ensures.read) c.in_err-formal-2.ensures.none)

pub loop-alloc-preserved : goal.loop-alloc-preserved
loop-alloc-preserved c =
    rw c.in_ok-push-2.ensures.ok (one_formal_more (upcoming c.args.cursor.now) c.loop-alloc.formals (upcoming c.loop-alloc.cursor) c.loop-alloc.invariant
    (upcoming c.accept-in-loop-alloc.new.self) (upcoming c.formal-in-loop-alloc.new.cursor) c.in_ok-formal-2.field-0 c.loop-alloc-test.ensures.read
    c.in_ok-formal-2.ensures.output c.in_ok-formal-2.ensures.read)

pub returns-in_err-pass-clause-none : goal.returns-in_err-pass-clause-none
returns-in_err-pass-clause-none c =
    let returned = err_from_is_err_and c.from_residual-in_err-pass.result c.from_residual-in_err-pass.ensures.1 in
    rw (returned.1, returned.2) (on_not_built c.in_err-pass.field-0.0
    (λ (none : NoText (codes ")") (upcoming c.accept-in-loop-alloc.new.self)).
    no_end_of_formals (upcoming c.args.cursor.now) c.loop-alloc.formals (upcoming c.loop-alloc.cursor) c.loop-alloc.invariant
    c.loop-alloc-test.ensures.none (subst (NoText (codes ")")) c.loop-alloc-test.ensures.same none)) c.in_err-pass.ensures.none)

pub returns-clause-read : goal.returns-clause-read
returns-clause-read c =
    formals_read (upcoming c.args.cursor.now) c.loop-alloc.formals (upcoming c.loop-alloc.cursor) c.loop-alloc.invariant
    (upcoming c.pass.new.self) (sym c.loop-alloc-test.ensures.same ∙ c.in_ok-pass.ensures.read)
