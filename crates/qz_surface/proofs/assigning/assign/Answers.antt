use Rattle.qz_control.proofs.Growing.{through}
use Rattle.qz_control.specs.Contexts.{context_of}
use Rattle.qz_control.specs.Typed.{declared_type, expr_type}
use Rattle.qz_surface.proofs.Deeds.{written}
use Rattle.qz_surface.proofs.Typing.{agree_some, typed_more, writes_grow}
use Rattle.qz_surface.proofs.assigning.assign.Goals as goal

pub value-requires : goal.value-requires
value-requires c = agree_some (declared_type c.args.owner.now c.args.target) (expr_type c.args.owner.now c.args.e.now) c.requires.agree

pub returns-clause-writes : goal.returns-clause-writes
returns-clause-writes c = λ v views.
    let at_guard = c.in_ok-ends.ensures.grows.views v views in
    written v _ _ (context_of c.args.marks.now) c.args.delayed c.args.target _ _ _ _ _ c.in_ok-push.ensures.items c.of_variable.ensures
    (c.in_ok-guard.ensures.means v at_guard) (c.in_ok-given.ensures.means v (c.in_ok-guard.ensures.grows.views v at_guard))

pub returns-clause-typed : goal.returns-clause-typed
returns-clause-typed c = λ before.
    let grown = through _ _ _ c.in_ok-guard.ensures.grows c.in_ok-ends.ensures.grows in
    typed_more c.args.owner.now _ _ _ _ _ (expr_type c.args.owner.now c.args.e.now) c.in_ok-push.ensures.items
    grown c.in_ok-given.ensures.ty c.requires.agree (c.in_ok-ends.ensures.grows.bools _ c.in_ok-guard.ensures.ty)
    (writes_grow _ _ _ _ (through _ _ _ c.in_ok-given.ensures.grows grown) before)
