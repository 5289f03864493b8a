use Rattle.std.proofs.Common.{refl, ap, ◌∙◌}
use Rattle.qz_values.specs.Knowledge.{both}
use Rattle.qz_meaning.specs.Expressions.{value_here}
use Rattle.qz_control.specs.Circuits.{known, Grows}
use Rattle.qz_control.specs.Contexts.{context_of}
use Rattle.qz_control.specs.Guarded.{goes}
use Rattle.qz_control.specs.Mirror.{mirror_of}
use Rattle.qz_control.proofs.Choosing.{on_ok}
use Rattle.qz_control.proofs.Growing.{through}
use Rattle.qz_terms.proofs.Steps.{ends_of_all_more}
use Rattle.qz_terms.proofs.Choosing.{mirror_if}
use Rattle.qz_surface.specs.Written.{read_writes}
use Rattle.qz_surface.proofs.Deeds.{joined}
use Rattle.qz_surface.proofs.Steps.{in_turn_more, at_once_more}
use Rattle.qz_surface.proofs.Typing.{writes_grow}
use Rattle.qz_surface.proofs.starting.+surface.Goals as goal

pub start_in_turn-loop-index-preserved : goal.start_in_turn-loop-index-preserved
start_in_turn-loop-index-preserved t c =
    let grown = through _ _ _ c.in_ok-guard.ensures.grows c.in_ok-so_far-2.ensures.grows in
    record {
      grows = through _ _ _ c.loop-index.invariant.grows (through _ _ _ c.in_ok-here.ensures.grows grown);
      marks = c.in_ok-here.ensures.marks ∙ c.loop-index.invariant.marks;
      guard = c.in_ok-so_far-2.ensures.grows.bools _ c.in_ok-guard.ensures.ty;
      ty = c.in_ok-so_far-2.ensures.ty;
      ends = λ v views.
          let at_guard = c.in_ok-so_far-2.ensures.grows.views v views in
          let at_here = c.in_ok-guard.ensures.grows.views v at_guard in
          ends_of_all_more c.args.parts.now c.loop-index.index c.member-part.result.now c.member-part.ensures.within c.member-part.ensures.is v.leaves.scene _ _ c.loop-index.invariant.marks
          c.args.m _ _ _ (c.in_ok-here.ensures.ends v at_here) (c.in_ok-so_far-2.ensures.means v views)
          ∙ c.loop-index.invariant.ends v (c.in_ok-here.ensures.grows.views v at_here);
      writes = λ v views.
          let at_guard = c.in_ok-so_far-2.ensures.grows.views v views in
          let at_here = c.in_ok-guard.ensures.grows.views v at_guard in
          in_turn_more c.args.parts.now c.loop-index.index c.member-part.result.now c.member-part.ensures.within c.member-part.ensures.is v.leaves.scene _ _ c.loop-index.invariant.marks
          (known v c.args.live) c.args.m (read_writes v c.loop-index.writes.items) _ _ _ _ (c.in_ok-here.ensures.ends v at_here) (c.in_ok-guard.ensures.means v at_guard) (c.in_ok-here.ensures.writes v at_here)
          ∙ c.loop-index.invariant.writes v (c.in_ok-here.ensures.grows.views v at_here);
      typed = λ before. writes_grow _ _ _ _ grown (c.in_ok-here.ensures.typed (c.loop-index.invariant.typed before));
    }

pub start_at_once-loop-index-preserved : goal.start_at_once-loop-index-preserved
start_at_once-loop-index-preserved t c =
    record {
      grows = through _ _ _ c.loop-index.invariant.grows (through _ _ _ c.in_ok-here.ensures.grows c.in_ok-so_far-2.ensures.grows);
      marks = c.in_ok-here.ensures.marks ∙ c.loop-index.invariant.marks;
      ty = c.in_ok-so_far-2.ensures.ty;
      ends = λ v views.
          let at_here = c.in_ok-so_far-2.ensures.grows.views v views in
          ends_of_all_more c.args.parts.now c.loop-index.index c.member-part.result.now c.member-part.ensures.within c.member-part.ensures.is v.leaves.scene _ _ c.loop-index.invariant.marks
          c.args.m _ _ _ (c.in_ok-here.ensures.ends v at_here) (c.in_ok-so_far-2.ensures.means v views)
          ∙ c.loop-index.invariant.ends v (c.in_ok-here.ensures.grows.views v at_here);
      writes = λ v views.
          let at_here = c.in_ok-so_far-2.ensures.grows.views v views in
          at_once_more c.args.parts.now c.loop-index.index c.member-part.result.now c.member-part.ensures.within c.member-part.ensures.is v.leaves.scene _ _ c.loop-index.invariant.marks
          (known v c.args.live) c.args.m (read_writes v c.loop-index.writes.items) _ _ (c.in_ok-here.ensures.writes v at_here)
          ∙ c.loop-index.invariant.writes v (c.in_ok-here.ensures.grows.views v at_here);
      typed = λ before. writes_grow _ _ _ _ c.in_ok-so_far-2.ensures.grows (c.in_ok-here.ensures.typed (c.loop-index.invariant.typed before));
    }

pub start_loop-returns-clause-writes : goal.start_loop-returns-clause-writes
start_loop-returns-clause-writes t c = λ v views. c.in_ok-surface.ensures.writes v (c.in_ok-ends.ensures.grows.views v views)

pub start_loop-returns-clause-typed : goal.start_loop-returns-clause-typed
start_loop-returns-clause-typed t c = λ before. writes_grow _ _ _ _ c.in_ok-ends.ensures.grows (c.in_ok-surface.ensures.typed before)

pub start_aborted-returns-clause-ends : goal.start_aborted-returns-clause-ends
start_aborted-returns-clause-ends t c = λ v views.
    let at_inner = c.in_ok-ends.ensures.grows.views v views in
    let at_guard = c.in_ok-inner.ensures.grows.views v at_inner in
    let at_c = c.in_ok-guard.ensures.grows.views v at_guard in
    rw (c.in_ok-ends.ensures.means v views, c.in_ok-c.ensures.means v at_c, c.in_ok-inner.ensures.ends v at_inner) refl

pub start_aborted-returns-clause-writes : goal.start_aborted-returns-clause-writes
start_aborted-returns-clause-writes t c = λ v views.
    let at_inner = c.in_ok-ends.ensures.grows.views v views in
    let at_guard = c.in_ok-inner.ensures.grows.views v at_inner in
    let at_c = c.in_ok-guard.ensures.grows.views v at_guard in
    rw (c.in_ok-inner.ensures.writes v at_inner, c.in_ok-guard.ensures.means v at_guard, c.in_ok-c.ensures.means v at_c) refl

pub start_aborted-returns-clause-typed : goal.start_aborted-returns-clause-typed
start_aborted-returns-clause-typed t c = λ before.
    writes_grow _ _ _ _ c.in_ok-ends.ensures.grows (c.in_ok-inner.ensures.typed
    (writes_grow _ _ _ _ (through _ _ _ c.in_ok-c.ensures.grows c.in_ok-guard.ensures.grows) before))

pub start_suspended-returns-clause-ends : goal.start_suspended-returns-clause-ends
start_suspended-returns-clause-ends t c = λ v views.
    let at_inner = c.in_ok-ends.ensures.grows.views v views in
    let at_guard = c.in_ok-inner.ensures.grows.views v at_inner in
    let at_c = c.in_ok-guard.ensures.grows.views v at_guard in
    rw (c.in_ok-ends.ensures.means v views, c.in_ok-c.ensures.means v at_c, c.in_ok-inner.ensures.ends v at_inner) refl

pub start_suspended-returns-clause-writes : goal.start_suspended-returns-clause-writes
start_suspended-returns-clause-writes t c = λ v views.
    let at_inner = c.in_ok-ends.ensures.grows.views v views in
    let at_guard = c.in_ok-inner.ensures.grows.views v at_inner in
    let at_c = c.in_ok-guard.ensures.grows.views v at_guard in
    rw (c.in_ok-inner.ensures.writes v at_inner, c.in_ok-guard.ensures.means v at_guard, c.in_ok-c.ensures.means v at_c) refl

pub start_suspended-returns-clause-typed : goal.start_suspended-returns-clause-typed
start_suspended-returns-clause-typed t c = λ before.
    writes_grow _ _ _ _ c.in_ok-ends.ensures.grows (c.in_ok-inner.ensures.typed
    (writes_grow _ _ _ _ (through _ _ _ c.in_ok-c.ensures.grows c.in_ok-guard.ensures.grows) before))

pub start_scope-returns-clause-ends : goal.start_scope-returns-clause-ends
start_scope-returns-clause-ends t c = λ v views.
    c.in_ok-ends.ensures.ends v views
    ∙ ap (λ ctx. (mirror_of v.leaves.scene c.args.body.now).walk.ends ctx c.args.m) c.in_ok-covered.ensures.entered

pub start_scope-returns-clause-writes : goal.start_scope-returns-clause-writes
start_scope-returns-clause-writes t c = λ v views.
    rw (c.in_ok-ends.ensures.writes v views, c.in_ok-covered.ensures.entered) refl

pub surface-returns-in_ok-id-in-If-clause-ends : goal.surface-returns-in_ok-id-in-If-clause-ends
surface-returns-in_ok-id-in-If-clause-ends t c = λ v views.
    let at_other = c.in_ok-id-in-If.ensures.grows.views v views in
    let at_one = c.in_ok-other-in-If.ensures.grows.views v at_other in
    let at_sides = c.in_ok-one-in-If.ensures.grows.views v at_one in
    let at_c = c.in_ok-sides-in-If.ensures.grows.views v at_sides in
    rw (
      mirror_if v.leaves.scene c.args.s.now c.in-If.condition c.in-If.first c.in-If.second c.get.result.now c.get-in-If.result.now c.in-If.is c.get.ensures c.get-in-If.ensures,
      c.in_ok-id-in-If.ensures.means v views,
      c.in_ok-c-in-If.ensures.means v at_c,
      c.in_ok-one-in-If.ensures.ends v at_one,
      c.in_ok-other-in-If.ensures.ends v at_other,
      c.in_ok-one-in-If.ensures.marks,
    ) refl

pub surface-returns-in_ok-id-in-If-clause-writes : goal.surface-returns-in_ok-id-in-If-clause-writes
surface-returns-in_ok-id-in-If-clause-writes t c = λ v views.
    let at_other = c.in_ok-id-in-If.ensures.grows.views v views in
    let at_one = c.in_ok-other-in-If.ensures.grows.views v at_other in
    let at_sides = c.in_ok-one-in-If.ensures.grows.views v at_one in
    let at_c = c.in_ok-sides-in-If.ensures.grows.views v at_sides in
    let ctx = context_of c.args.marks.now in
    let condition = value_here v.leaves.scene ctx c.in-If.condition in
    rw (
      mirror_if v.leaves.scene c.args.s.now c.in-If.condition c.in-If.first c.in-If.second c.get.result.now c.get-in-If.result.now c.in-If.is c.get.ensures c.get-in-If.ensures,
      c.in_ok-other-in-If.ensures.writes v at_other,
      c.in_ok-one-in-If.ensures.writes v at_one,
      c.in_ok-sides-in-If.ensures.first v at_sides,
      c.in_ok-sides-in-If.ensures.second v at_sides,
      c.in_ok-c-in-If.ensures.means v at_c,
      c.in_ok-one-in-If.ensures.marks,
    )
    (joined (known v c.args.live) (read_writes v c.args.writes.now.items)
    ((mirror_of v.leaves.scene c.get.result.now).walk.start ctx (both (known v c.args.start) condition) c.args.m)
    ((mirror_of v.leaves.scene c.get-in-If.result.now).walk.start ctx (goes condition (known v c.args.start)) c.args.m))

pub surface-returns-in_ok-id-in-If-clause-typed : goal.surface-returns-in_ok-id-in-If-clause-typed
surface-returns-in_ok-id-in-If-clause-typed t c = λ before.
    let there = writes_grow _ _ _ _ (through _ _ _ c.in_ok-c-in-If.ensures.grows c.in_ok-sides-in-If.ensures.grows) before in
    writes_grow _ _ _ _ c.in_ok-id-in-If.ensures.grows (c.in_ok-other-in-If.ensures.typed (c.in_ok-one-in-If.ensures.typed there))

pub start_in_turn-loop-index-init : goal.start_in_turn-loop-index-init
start_in_turn-loop-index-init t c = record {
  grows = c.in_ok-so_far.ensures.grows;
  marks = refl;
  guard = c.in_ok-so_far.ensures.grows.bools _ c.requires.start;
  ty = c.in_ok-so_far.ensures.ty;
  ends = λ v views. rw (c.in_ok-so_far.ensures.means v views) refl;
  writes = λ v views. refl;
  typed = λ before. writes_grow _ _ _ _ c.in_ok-so_far.ensures.grows before;
}

pub start_at_once-loop-index-init : goal.start_at_once-loop-index-init
start_at_once-loop-index-init t c = record {
  grows = c.in_ok-so_far.ensures.grows;
  marks = refl;
  ty = c.in_ok-so_far.ensures.ty;
  ends = λ v views. rw (c.in_ok-so_far.ensures.means v views) refl;
  writes = λ v views. refl;
  typed = λ before. writes_grow _ _ _ _ c.in_ok-so_far.ensures.grows before;
}

pub surface-returns-in-Nothing-clause-typed : goal.surface-returns-in-Nothing-clause-typed
surface-returns-in-Nothing-clause-typed t c =
    on_ok c.truth-in-Nothing.result {P = Grows c.args.circuit.now c.truth-in-Nothing.new.self} (λ grows before. writes_grow _ _ _ _ grows before) c.truth-in-Nothing.ensures.grows

pub surface-returns-in-Pause-clause-typed : goal.surface-returns-in-Pause-clause-typed
surface-returns-in-Pause-clause-typed t c =
    on_ok c.truth.result {P = Grows c.args.circuit.now c.truth.new.self} (λ grows before. writes_grow _ _ _ _ grows before) c.truth.ensures.grows
