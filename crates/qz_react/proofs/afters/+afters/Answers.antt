use Rattle.qz_meaning.specs.Residing.{walk}
use Rattle.qz_react.specs.Contexts.{context_of}
use Rattle.qz_react.proofs.Writing.{if_ok}
use Rattle.qz_react.proofs.Ways.{abort_lands, loop_lands, bound_lands, parallel_lands}
use Rattle.qz_react.proofs.afters.+afters.Goals as goal

pub after-returns-in-Bind-clause-rested : goal.after-returns-in-Bind-clause-rested
after-returns-in-Bind-clause-rested t c =
    if_ok c.after_bound.result _ _ c.after_bound.ensures.rested
    (λ one h step p. bound_lands step c.args.s.now c.in-Bind.body c.get-in-Bind.result.now c.in-Bind.bindings c.as_slice-in-Bind.result.now
    (context_of c.args.here.now) c.args.r.now c.args.way one c.in-Bind.is c.get-in-Bind.ensures c.as_slice-in-Bind.ensures (h step p))

pub after_abort-returns-clause-rested : goal.after_abort-returns-clause-rested
after_abort-returns-clause-rested t c step p =
    abort_lands step c.args.kind (walk step c.args.body.now) c.args.condition.now (context_of c.args.here.now) (context_of c.after.new.here)
    c.args.r.now c.inside_of.result.now c.args.way c.in_ok-one.one c.in_ok-next.next c.in_ok-c.c
    c.inside_of.ensures c.in_ok-one.ensures.here (c.in_ok-one.ensures.rested step p) (c.in_ok-c.ensures step p.sees) c.in_ok-next.ensures

pub after_loop-returns-clause-rested : goal.after_loop-returns-clause-rested
after_loop-returns-clause-rested t c step p =
    loop_lands step c.args.number (walk step c.args.body.now) c.args.condition.now (context_of c.args.here.now) (context_of c.after.new.here)
    c.args.r.now c.inside_of.result.now c.args.way c.in_ok-one.one c.in_ok-c.c c.in_ok-ends.ends c.in_ok-turns.turns c.in_ok-place.place
    c.inside_of.ensures c.in_ok-one.ensures.here (c.in_ok-one.ensures.rested step p) (c.in_ok-c.ensures step p.sees)
    c.in_ok-turns.ensures c.in_ok-ends.ensures (c.in_ok-place.ensures.place step p)

pub after_parallel-returns-clause-rested : goal.after_parallel-returns-clause-rested
after_parallel-returns-clause-rested t c step p =
    parallel_lands step c.args.parts.now c.loop-part.part-index c.loop-part.others.now (context_of c.args.here.now) c.args.r.now c.args.way
    c.loop-part.so_far c.loop-part.places.items c.all_members.result c.loop-part-test.false
    (c.loop-part.invariant.ended step p) (c.loop-part.invariant.places step p) c.all_members.ensures
