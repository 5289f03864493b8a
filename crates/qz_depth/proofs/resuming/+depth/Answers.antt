use Rattle.std.proofs.Common.{refl, ap, ◌∙◌}
use Rattle.qz_values.specs.Knowledge.{both}
use Rattle.qz_syntax.specs.declared.places.Mark.TheVariants as mark
use Rattle.qz_meaning.specs.Expressions.{value_here}
use Rattle.qz_control.specs.Circuits.{known, Grows}
use Rattle.qz_control.specs.Contexts.{context_of}
use Rattle.qz_control.specs.Guarded.{goes, lively}
use Rattle.qz_control.specs.Mirror.{mirror_of}
use Rattle.qz_control.proofs.Choosing.{on_ok}
use Rattle.qz_control.proofs.Growing.{through}
use Rattle.qz_terms.proofs.Steps.{any_inside_more, ends_of_all_more, ended_all_more, ended_each_more}
use Rattle.qz_terms.proofs.Choosing.{mirror_if}
use Rattle.qz_surface.specs.Written.{read_writes}
use Rattle.qz_surface.proofs.Typing.{writes_grow}
use Rattle.qz_depth.proofs.Runs.{shown_joined}
use Rattle.qz_depth.proofs.Steps.{run_all_more, run_each_more}
use Rattle.qz_depth.proofs.resuming.+depth.Goals as goal

pub resume_in_turn-loop-index-preserved : goal.resume_in_turn-loop-index-preserved
resume_in_turn-loop-index-preserved t c =
    let told = through _ _ _ c.in_ok-alive.ensures.grows c.in_ok-so_far-2.ensures.grows in
    let grown = through _ _ _ c.in_ok-guard.ensures.grows told in
    record {
      grows = through _ _ _ c.loop-index.invariant.grows (through _ _ _ c.in_ok-here.ensures.grows grown);
      marks = c.in_ok-here.ensures.marks ∙ c.loop-index.invariant.marks;
      guard = told.bools _ c.in_ok-guard.ensures.ty;
      alive = c.in_ok-so_far-2.ensures.grows.bools _ c.in_ok-alive.ensures.ty;
      ty = c.in_ok-so_far-2.ensures.ty;
      inside = λ v views.
          let at_alive = c.in_ok-so_far-2.ensures.grows.views v views in
          let at_guard = c.in_ok-alive.ensures.grows.views v at_alive in
          let at_here = c.in_ok-guard.ensures.grows.views v at_guard in
          any_inside_more c.args.parts.now c.loop-index.index c.member-part.result.now c.member-part.ensures.within c.member-part.ensures.is v.leaves.scene _ _ c.loop-index.invariant.marks
          v.leaves.at _ _ _ (c.in_ok-here.ensures.inside v at_here) (c.in_ok-so_far-2.ensures.inside v views)
          ∙ c.loop-index.invariant.inside v (c.in_ok-here.ensures.grows.views v at_here);
      ended = λ v views.
          let at_alive = c.in_ok-so_far-2.ensures.grows.views v views in
          let at_guard = c.in_ok-alive.ensures.grows.views v at_alive in
          let at_here = c.in_ok-guard.ensures.grows.views v at_guard in
          ended_all_more c.args.parts.now c.loop-index.index c.member-part.result.now c.member-part.ensures.within c.member-part.ensures.is v.leaves.scene _ _ c.loop-index.invariant.marks
          v.leaves.at _ _ _ _ _ _ _ (c.in_ok-here.ensures.inside v at_here) (c.in_ok-here.ensures.ended v at_here) (c.in_ok-here.ensures.ends v at_here) (c.in_ok-so_far-2.ensures.inside v views) (c.in_ok-so_far-2.ensures.ended v views)
          ∙ c.loop-index.invariant.ended v (c.in_ok-here.ensures.grows.views v at_here);
      ends = λ v views.
          let at_alive = c.in_ok-so_far-2.ensures.grows.views v views in
          let at_guard = c.in_ok-alive.ensures.grows.views v at_alive in
          let at_here = c.in_ok-guard.ensures.grows.views v at_guard in
          ends_of_all_more c.args.parts.now c.loop-index.index c.member-part.result.now c.member-part.ensures.within c.member-part.ensures.is v.leaves.scene _ _ c.loop-index.invariant.marks
          mark.Zero _ _ _ (c.in_ok-here.ensures.ends v at_here) (c.in_ok-so_far-2.ensures.ends v views)
          ∙ c.loop-index.invariant.ends v (c.in_ok-here.ensures.grows.views v at_here);
      writes = λ v views.
          let at_alive = c.in_ok-so_far-2.ensures.grows.views v views in
          let at_guard = c.in_ok-alive.ensures.grows.views v at_alive in
          let at_here = c.in_ok-guard.ensures.grows.views v at_guard in
          run_all_more c.args.parts.now c.loop-index.index c.member-part.result.now c.member-part.ensures.within c.member-part.ensures.is v.leaves.scene _ _ c.loop-index.invariant.marks
          v.leaves.at (read_writes v c.loop-index.writes.items) _ _ _ _ _ _ _ _ _ (c.in_ok-here.ensures.inside v at_here) (c.in_ok-here.ensures.ended v at_here) (c.in_ok-here.ensures.ends v at_here) (c.in_ok-alive.ensures.means v at_alive) (c.in_ok-guard.ensures.means v at_guard) (c.in_ok-here.ensures.writes v at_here)
          ∙ c.loop-index.invariant.writes v (c.in_ok-here.ensures.grows.views v at_here);
      typed = λ before. writes_grow _ _ _ _ grown (c.in_ok-here.ensures.typed (c.loop-index.invariant.typed before));
    }

pub resume_each-loop-index-preserved : goal.resume_each-loop-index-preserved
resume_each-loop-index-preserved t c =
    record {
      grows = through _ _ _ c.loop-index.invariant.grows (through _ _ _ c.in_ok-here.ensures.grows c.in_ok-so_far-2.ensures.grows);
      marks = c.in_ok-here.ensures.marks ∙ c.loop-index.invariant.marks;
      ty = c.in_ok-so_far-2.ensures.ty;
      inside = λ v views.
          let at_here = c.in_ok-so_far-2.ensures.grows.views v views in
          any_inside_more c.args.parts.now c.loop-index.index c.member-part.result.now c.member-part.ensures.within c.member-part.ensures.is v.leaves.scene _ _ c.loop-index.invariant.marks
          v.leaves.at _ _ _ (c.in_ok-here.ensures.inside v at_here) (c.in_ok-so_far-2.ensures.inside v views)
          ∙ c.loop-index.invariant.inside v (c.in_ok-here.ensures.grows.views v at_here);
      ended = λ v views.
          let at_here = c.in_ok-so_far-2.ensures.grows.views v views in
          ended_each_more c.args.parts.now c.loop-index.index c.member-part.result.now c.member-part.ensures.within c.member-part.ensures.is v.leaves.scene _ _ c.loop-index.invariant.marks
          v.leaves.at _ _ _ _ (c.in_ok-here.ensures.inside v at_here) (c.in_ok-here.ensures.ended v at_here) (c.in_ok-so_far-2.ensures.ended v views)
          ∙ c.loop-index.invariant.ended v (c.in_ok-here.ensures.grows.views v at_here);
      ends = λ v views.
          let at_here = c.in_ok-so_far-2.ensures.grows.views v views in
          ends_of_all_more c.args.parts.now c.loop-index.index c.member-part.result.now c.member-part.ensures.within c.member-part.ensures.is v.leaves.scene _ _ c.loop-index.invariant.marks
          mark.Zero _ _ _ (c.in_ok-here.ensures.ends v at_here) (c.in_ok-so_far-2.ensures.ends v views)
          ∙ c.loop-index.invariant.ends v (c.in_ok-here.ensures.grows.views v at_here);
      writes = λ v views.
          let at_here = c.in_ok-so_far-2.ensures.grows.views v views in
          run_each_more c.args.parts.now c.loop-index.index c.member-part.result.now c.member-part.ensures.within c.member-part.ensures.is v.leaves.scene _ _ c.loop-index.invariant.marks
          v.leaves.at (read_writes v c.loop-index.writes.items) _ _ _ _ (c.in_ok-here.ensures.writes v at_here)
          ∙ c.loop-index.invariant.writes v (c.in_ok-here.ensures.grows.views v at_here);
      typed = λ before. writes_grow _ _ _ _ c.in_ok-so_far-2.ensures.grows (c.in_ok-here.ensures.typed (c.loop-index.invariant.typed before));
    }

pub resume_in_turn-loop-index-init : goal.resume_in_turn-loop-index-init
resume_in_turn-loop-index-init t c = record {
  grows = c.in_ok-so_far.ensures.grows;
  marks = refl;
  guard = c.in_ok-so_far.ensures.grows.bools _ c.requires.start;
  alive = c.in_ok-so_far.ensures.grows.bools _ c.requires.live;
  ty = c.in_ok-so_far.ensures.ty;
  inside = λ v views. rw (c.in_ok-so_far.ensures.inside v views) refl;
  ended = λ v views. rw (c.in_ok-so_far.ensures.inside v views, c.in_ok-so_far.ensures.ended v views) refl;
  ends = λ v views. rw (c.in_ok-so_far.ensures.ends v views) refl;
  writes = λ v views. refl;
  typed = λ before. writes_grow _ _ _ _ c.in_ok-so_far.ensures.grows before;
}

pub resume_each-loop-index-init : goal.resume_each-loop-index-init
resume_each-loop-index-init t c = record {
  grows = c.in_ok-so_far.ensures.grows;
  marks = refl;
  ty = c.in_ok-so_far.ensures.ty;
  inside = λ v views. rw (c.in_ok-so_far.ensures.inside v views) refl;
  ended = λ v views. rw (c.in_ok-so_far.ensures.ended v views) refl;
  ends = λ v views. rw (c.in_ok-so_far.ensures.ends v views) refl;
  writes = λ v views. refl;
  typed = λ before. writes_grow _ _ _ _ c.in_ok-so_far.ensures.grows before;
}

pub resume_at_once-returns-clause-inside : goal.resume_at_once-returns-clause-inside
resume_at_once-returns-clause-inside t c = λ v views. c.in_ok-all.ensures.inside v (c.in_ok-ended.ensures.grows.views v views)

pub resume_at_once-returns-clause-ends : goal.resume_at_once-returns-clause-ends
resume_at_once-returns-clause-ends t c = λ v views. c.in_ok-all.ensures.ends v (c.in_ok-ended.ensures.grows.views v views)

pub resume_at_once-returns-clause-writes : goal.resume_at_once-returns-clause-writes
resume_at_once-returns-clause-writes t c = λ v views. c.in_ok-all.ensures.writes v (c.in_ok-ended.ensures.grows.views v views)

pub resume_at_once-returns-clause-ended : goal.resume_at_once-returns-clause-ended
resume_at_once-returns-clause-ended t c = λ v views.
    let at_all = c.in_ok-ended.ensures.grows.views v views in
    rw (c.in_ok-ended.ensures.means v views, c.in_ok-all.ensures.inside v at_all, c.in_ok-all.ensures.ended v at_all) refl

pub resume_at_once-returns-clause-typed : goal.resume_at_once-returns-clause-typed
resume_at_once-returns-clause-typed t c = λ before. writes_grow _ _ _ _ c.in_ok-ended.ensures.grows (c.in_ok-all.ensures.typed before)

pub resume_loop-returns-clause-inside : goal.resume_loop-returns-clause-inside
resume_loop-returns-clause-inside t c = λ v views.
    let at_surface = c.in_ok-terms.ensures.grows.views v views in
    let at_again = c.in_ok-surface.ensures.grows.views v at_surface in
    let at_inner = c.in_ok-again.ensures.grows.views v at_again in
    let at_c = c.in_ok-inner.ensures.grows.views v at_inner in
    rw (
      c.in_ok-terms.ensures.inside,
      c.in_ok-inner.ensures.inside v at_inner,
    ) refl

pub resume_loop-returns-clause-ended : goal.resume_loop-returns-clause-ended
resume_loop-returns-clause-ended t c = λ v views.
    let at_surface = c.in_ok-terms.ensures.grows.views v views in
    let at_again = c.in_ok-surface.ensures.grows.views v at_surface in
    let at_inner = c.in_ok-again.ensures.grows.views v at_again in
    let at_c = c.in_ok-inner.ensures.grows.views v at_inner in
    rw (
      c.in_ok-terms.ensures.ended v views,
      c.in_ok-inner.ensures.inside v at_inner,
      c.in_ok-inner.ensures.ended v at_inner,
      c.in_ok-c.ensures.means v at_c,
    ) refl

pub resume_loop-returns-clause-writes : goal.resume_loop-returns-clause-writes
resume_loop-returns-clause-writes t c = λ v views.
    let at_surface = c.in_ok-terms.ensures.grows.views v views in
    let at_again = c.in_ok-surface.ensures.grows.views v at_surface in
    let at_inner = c.in_ok-again.ensures.grows.views v at_again in
    let at_c = c.in_ok-inner.ensures.grows.views v at_inner in
    let ctx = context_of c.args.marks.now in
    let body = mirror_of v.leaves.scene c.args.body.now in
    let condition = value_here v.leaves.scene ctx c.args.condition.now in
    rw (
      c.in_ok-surface.ensures.writes v at_surface,
      c.in_ok-inner.ensures.writes v at_inner,
      c.in_ok-inner.ensures.inside v at_inner,
      c.in_ok-again.ensures.means v at_again,
      c.in_ok-inner.ensures.ended v at_inner,
      c.in_ok-c.ensures.means v at_c,
      c.in_ok-inner.ensures.marks,
    )
    (shown_joined (read_writes v c.args.writes.now.items) (body.run ctx v.leaves.at (known v c.args.act) (known v c.args.live) (known v c.args.start))
    (lively (body.inside v.leaves.at) (body.walk.start ctx (both (both (known v c.args.act) (body.ended ctx v.leaves.at)) condition) (mark.Loop c.args.number))))

pub resume_loop-returns-clause-typed : goal.resume_loop-returns-clause-typed
resume_loop-returns-clause-typed t c = λ before.
    let resumed = c.in_ok-inner.ensures.typed (writes_grow _ _ _ _ c.in_ok-c.ensures.grows before) in
    writes_grow _ _ _ _ c.in_ok-terms.ensures.grows (c.in_ok-surface.ensures.typed (writes_grow _ _ _ _ c.in_ok-again.ensures.grows resumed))

pub resume_aborted-returns-clause-inside : goal.resume_aborted-returns-clause-inside
resume_aborted-returns-clause-inside t c = λ v views.
    let at_inner = c.in_ok-terms.ensures.grows.views v views in
    let at_begun = c.in_ok-inner.ensures.grows.views v at_inner in
    let at_resumed = c.in_ok-begun.ensures.grows.views v at_begun in
    let at_c = c.in_ok-resumed.ensures.grows.views v at_resumed in
    rw (
      c.in_ok-terms.ensures.inside,
      c.in_ok-inner.ensures.inside v at_inner,
    ) refl

pub resume_aborted-returns-clause-ended : goal.resume_aborted-returns-clause-ended
resume_aborted-returns-clause-ended t c = λ v views.
    let at_inner = c.in_ok-terms.ensures.grows.views v views in
    let at_begun = c.in_ok-inner.ensures.grows.views v at_inner in
    let at_resumed = c.in_ok-begun.ensures.grows.views v at_begun in
    let at_c = c.in_ok-resumed.ensures.grows.views v at_resumed in
    rw (
      c.in_ok-terms.ensures.ended v views,
      c.in_ok-inner.ensures.inside v at_inner,
      c.in_ok-inner.ensures.ended v at_inner,
      c.in_ok-c.ensures.means v at_c,
    ) refl

pub resume_aborted-returns-clause-ends : goal.resume_aborted-returns-clause-ends
resume_aborted-returns-clause-ends t c = λ v views.
    let at_inner = c.in_ok-terms.ensures.grows.views v views in
    let at_begun = c.in_ok-inner.ensures.grows.views v at_inner in
    let at_resumed = c.in_ok-begun.ensures.grows.views v at_begun in
    let at_c = c.in_ok-resumed.ensures.grows.views v at_resumed in
    rw (
      c.in_ok-terms.ensures.ends v views,
      c.in_ok-c.ensures.means v at_c,
      c.in_ok-inner.ensures.ends v at_inner,
    ) refl

pub resume_aborted-returns-clause-writes : goal.resume_aborted-returns-clause-writes
resume_aborted-returns-clause-writes t c = λ v views.
    let at_inner = c.in_ok-terms.ensures.grows.views v views in
    let at_begun = c.in_ok-inner.ensures.grows.views v at_inner in
    let at_resumed = c.in_ok-begun.ensures.grows.views v at_begun in
    let at_c = c.in_ok-resumed.ensures.grows.views v at_resumed in
    rw (
      c.in_ok-inner.ensures.writes v at_inner,
      c.in_ok-resumed.ensures.means v at_resumed,
      c.in_ok-begun.ensures.means v at_begun,
      c.in_ok-c.ensures.means v at_c,
    ) refl

pub resume_aborted-returns-clause-typed : goal.resume_aborted-returns-clause-typed
resume_aborted-returns-clause-typed t c = λ before.
    writes_grow _ _ _ _ c.in_ok-terms.ensures.grows
    (c.in_ok-inner.ensures.typed (writes_grow _ _ _ _ (through _ _ _ c.in_ok-c.ensures.grows (through _ _ _ c.in_ok-resumed.ensures.grows c.in_ok-begun.ensures.grows)) before))

pub resume_suspended-returns-clause-inside : goal.resume_suspended-returns-clause-inside
resume_suspended-returns-clause-inside t c = λ v views.
    let at_inner = c.in_ok-terms.ensures.grows.views v views in
    let at_guard = c.in_ok-inner.ensures.grows.views v at_inner in
    let at_c = c.in_ok-guard.ensures.grows.views v at_guard in
    rw (
      c.in_ok-terms.ensures.inside,
      c.in_ok-inner.ensures.inside v at_inner,
    ) refl

pub resume_suspended-returns-clause-ended : goal.resume_suspended-returns-clause-ended
resume_suspended-returns-clause-ended t c = λ v views.
    let at_inner = c.in_ok-terms.ensures.grows.views v views in
    let at_guard = c.in_ok-inner.ensures.grows.views v at_inner in
    let at_c = c.in_ok-guard.ensures.grows.views v at_guard in
    rw (
      c.in_ok-terms.ensures.ended v views,
      c.in_ok-inner.ensures.inside v at_inner,
      c.in_ok-inner.ensures.ended v at_inner,
      c.in_ok-c.ensures.means v at_c,
    ) refl

pub resume_suspended-returns-clause-ends : goal.resume_suspended-returns-clause-ends
resume_suspended-returns-clause-ends t c = λ v views.
    let at_inner = c.in_ok-terms.ensures.grows.views v views in
    let at_guard = c.in_ok-inner.ensures.grows.views v at_inner in
    let at_c = c.in_ok-guard.ensures.grows.views v at_guard in
    rw (
      c.in_ok-terms.ensures.ends v views,
      c.in_ok-c.ensures.means v at_c,
      c.in_ok-inner.ensures.ends v at_inner,
    ) refl

pub resume_suspended-returns-clause-writes : goal.resume_suspended-returns-clause-writes
resume_suspended-returns-clause-writes t c = λ v views.
    let at_inner = c.in_ok-terms.ensures.grows.views v views in
    let at_guard = c.in_ok-inner.ensures.grows.views v at_inner in
    let at_c = c.in_ok-guard.ensures.grows.views v at_guard in
    rw (
      c.in_ok-inner.ensures.writes v at_inner,
      c.in_ok-guard.ensures.means v at_guard,
      c.in_ok-c.ensures.means v at_c,
    ) refl

pub resume_suspended-returns-clause-typed : goal.resume_suspended-returns-clause-typed
resume_suspended-returns-clause-typed t c = λ before.
    writes_grow _ _ _ _ c.in_ok-terms.ensures.grows
    (c.in_ok-inner.ensures.typed (writes_grow _ _ _ _ (through _ _ _ c.in_ok-c.ensures.grows c.in_ok-guard.ensures.grows) before))

pub resume_held-returns-clause-inside : goal.resume_held-returns-clause-inside
resume_held-returns-clause-inside t c = λ v views.
    let at_inner = c.in_ok-terms.ensures.grows.views v views in
    let at_guards = c.in_ok-inner.ensures.grows.views v at_inner in
    let at_held = c.in_ok-guards.ensures.grows.views v at_guards in
    let at_c = c.in_ok-held.ensures.grows.views v at_held in
    rw (
      c.in_ok-terms.ensures.inside v views,
      c.in_ok-held.ensures.means v at_held,
      c.in_ok-inner.ensures.inside v at_inner,
    ) refl

pub resume_held-returns-clause-ended : goal.resume_held-returns-clause-ended
resume_held-returns-clause-ended t c = λ v views.
    let at_inner = c.in_ok-terms.ensures.grows.views v views in
    let at_guards = c.in_ok-inner.ensures.grows.views v at_inner in
    let at_held = c.in_ok-guards.ensures.grows.views v at_guards in
    let at_c = c.in_ok-held.ensures.grows.views v at_held in
    rw (
      c.in_ok-terms.ensures.ended v views,
      c.in_ok-held.ensures.means v at_held,
      c.in_ok-c.ensures.means v at_c,
      c.in_ok-inner.ensures.inside v at_inner,
      c.in_ok-inner.ensures.ended v at_inner,
      c.in_ok-inner.ensures.ends v at_inner,
    ) refl

pub resume_held-returns-clause-ends : goal.resume_held-returns-clause-ends
resume_held-returns-clause-ends t c = λ v views.
    let at_inner = c.in_ok-terms.ensures.grows.views v views in
    let at_guards = c.in_ok-inner.ensures.grows.views v at_inner in
    let at_held = c.in_ok-guards.ensures.grows.views v at_guards in
    let at_c = c.in_ok-held.ensures.grows.views v at_held in
    rw (
      c.in_ok-terms.ensures.ends v views,
      c.in_ok-c.ensures.means v at_c,
      c.in_ok-inner.ensures.ends v at_inner,
    ) refl

pub resume_held-returns-clause-writes : goal.resume_held-returns-clause-writes
resume_held-returns-clause-writes t c = λ v views.
    let at_inner = c.in_ok-terms.ensures.grows.views v views in
    let at_guards = c.in_ok-inner.ensures.grows.views v at_inner in
    let at_held = c.in_ok-guards.ensures.grows.views v at_guards in
    let at_c = c.in_ok-held.ensures.grows.views v at_held in
    rw (
      c.in_ok-inner.ensures.writes v at_inner,
      c.in_ok-guards.ensures.act v at_guards,
      c.in_ok-guards.ensures.live v at_guards,
      c.in_ok-guards.ensures.start v at_guards,
      c.in_ok-held.ensures.means v at_held,
      c.in_ok-c.ensures.means v at_c,
    ) refl

pub resume_held-returns-clause-typed : goal.resume_held-returns-clause-typed
resume_held-returns-clause-typed t c = λ before.
    writes_grow _ _ _ _ c.in_ok-terms.ensures.grows
    (c.in_ok-inner.ensures.typed (writes_grow _ _ _ _ (through _ _ _ c.in_ok-c.ensures.grows (through _ _ _ c.in_ok-held.ensures.grows c.in_ok-guards.ensures.grows)) before))

pub resume_scope-returns-clause-ended : goal.resume_scope-returns-clause-ended
resume_scope-returns-clause-ended t c = λ v views.
    c.in_ok-told.ensures.ended v views
    ∙ ap (λ ctx. (mirror_of v.leaves.scene c.args.body.now).ended ctx v.leaves.at) c.in_ok-covered.ensures.entered

pub resume_scope-returns-clause-ends : goal.resume_scope-returns-clause-ends
resume_scope-returns-clause-ends t c = λ v views.
    c.in_ok-told.ensures.ends v views
    ∙ ap (λ ctx. (mirror_of v.leaves.scene c.args.body.now).walk.ends ctx mark.Zero) c.in_ok-covered.ensures.entered

pub resume_scope-returns-clause-writes : goal.resume_scope-returns-clause-writes
resume_scope-returns-clause-writes t c = λ v views.
    rw (c.in_ok-told.ensures.writes v views, c.in_ok-covered.ensures.entered) refl

pub depth-returns-in_ok-told-in-If-clause-inside : goal.depth-returns-in_ok-told-in-If-clause-inside
depth-returns-in_ok-told-in-If-clause-inside t c = λ v views.
    let at_other = c.in_ok-told-in-If.ensures.grows.views v views in
    let at_one = c.in_ok-other-in-If.ensures.grows.views v at_other in
    let at_sides = c.in_ok-one-in-If.ensures.grows.views v at_one in
    let at_c = c.in_ok-sides-in-If.ensures.grows.views v at_sides in
    rw (
      mirror_if v.leaves.scene c.args.s.now c.in-If.condition c.in-If.first c.in-If.second c.get.result.now c.get-in-If.result.now c.in-If.is c.get.ensures c.get-in-If.ensures,
      c.in_ok-told-in-If.ensures.inside v views,
      c.in_ok-one-in-If.ensures.inside v at_one,
      c.in_ok-other-in-If.ensures.inside v at_other,
    ) refl

pub depth-returns-in_ok-told-in-If-clause-ended : goal.depth-returns-in_ok-told-in-If-clause-ended
depth-returns-in_ok-told-in-If-clause-ended t c = λ v views.
    let at_other = c.in_ok-told-in-If.ensures.grows.views v views in
    let at_one = c.in_ok-other-in-If.ensures.grows.views v at_other in
    let at_sides = c.in_ok-one-in-If.ensures.grows.views v at_one in
    let at_c = c.in_ok-sides-in-If.ensures.grows.views v at_sides in
    rw (
      mirror_if v.leaves.scene c.args.s.now c.in-If.condition c.in-If.first c.in-If.second c.get.result.now c.get-in-If.result.now c.in-If.is c.get.ensures c.get-in-If.ensures,
      c.in_ok-told-in-If.ensures.ended v views,
      c.in_ok-one-in-If.ensures.inside v at_one,
      c.in_ok-one-in-If.ensures.ended v at_one,
      c.in_ok-other-in-If.ensures.ended v at_other,
      c.in_ok-one-in-If.ensures.marks,
    ) refl

pub depth-returns-in_ok-told-in-If-clause-ends : goal.depth-returns-in_ok-told-in-If-clause-ends
depth-returns-in_ok-told-in-If-clause-ends t c = λ v views.
    let at_other = c.in_ok-told-in-If.ensures.grows.views v views in
    let at_one = c.in_ok-other-in-If.ensures.grows.views v at_other in
    let at_sides = c.in_ok-one-in-If.ensures.grows.views v at_one in
    let at_c = c.in_ok-sides-in-If.ensures.grows.views v at_sides in
    rw (
      mirror_if v.leaves.scene c.args.s.now c.in-If.condition c.in-If.first c.in-If.second c.get.result.now c.get-in-If.result.now c.in-If.is c.get.ensures c.get-in-If.ensures,
      c.in_ok-told-in-If.ensures.ends v views,
      c.in_ok-c-in-If.ensures.means v at_c,
      c.in_ok-one-in-If.ensures.ends v at_one,
      c.in_ok-other-in-If.ensures.ends v at_other,
      c.in_ok-one-in-If.ensures.marks,
    ) refl

pub depth-returns-in_ok-told-in-If-clause-writes : goal.depth-returns-in_ok-told-in-If-clause-writes
depth-returns-in_ok-told-in-If-clause-writes t c = λ v views.
    let at_other = c.in_ok-told-in-If.ensures.grows.views v views in
    let at_one = c.in_ok-other-in-If.ensures.grows.views v at_other in
    let at_sides = c.in_ok-one-in-If.ensures.grows.views v at_one in
    let at_c = c.in_ok-sides-in-If.ensures.grows.views v at_sides in
    let ctx = context_of c.args.marks.now in
    let condition = value_here v.leaves.scene ctx c.in-If.condition in
    rw (
      mirror_if v.leaves.scene c.args.s.now c.in-If.condition c.in-If.first c.in-If.second c.get.result.now c.get-in-If.result.now c.in-If.is c.get.ensures c.get-in-If.ensures,
      c.in_ok-other-in-If.ensures.writes v at_other,
      c.in_ok-one-in-If.ensures.writes v at_one,
      c.in_ok-sides-in-If.ensures.first v at_sides,
      c.in_ok-sides-in-If.ensures.second v at_sides,
      c.in_ok-c-in-If.ensures.means v at_c,
      c.in_ok-one-in-If.ensures.marks,
    )
    (shown_joined (read_writes v c.args.writes.now.items)
    ((mirror_of v.leaves.scene c.get.result.now).run ctx v.leaves.at (known v c.args.act) (known v c.args.live) (both (known v c.args.start) condition))
    ((mirror_of v.leaves.scene c.get-in-If.result.now).run ctx v.leaves.at (known v c.args.act) (known v c.args.live) (goes condition (known v c.args.start))))

pub depth-returns-in_ok-told-in-If-clause-typed : goal.depth-returns-in_ok-told-in-If-clause-typed
depth-returns-in_ok-told-in-If-clause-typed t c = λ before.
    let there = writes_grow _ _ _ _ (through _ _ _ c.in_ok-c-in-If.ensures.grows c.in_ok-sides-in-If.ensures.grows) before in
    writes_grow _ _ _ _ c.in_ok-told-in-If.ensures.grows (c.in_ok-other-in-If.ensures.typed (c.in_ok-one-in-If.ensures.typed there))

pub depth-returns-in-Nothing-clause-typed : goal.depth-returns-in-Nothing-clause-typed
depth-returns-in-Nothing-clause-typed t c =
    on_ok c.passing.result {P = Grows c.args.circuit.now c.passing.new.circuit} (λ grows before. writes_grow _ _ _ _ grows before) c.passing.ensures.grows

pub depth-returns-in-Pause-clause-typed : goal.depth-returns-in-Pause-clause-typed
depth-returns-in-Pause-clause-typed t c =
    on_ok c.of_pause.result {P = Grows c.args.circuit.now c.of_pause.new.circuit} (λ grows before. writes_grow _ _ _ _ grows before) c.of_pause.ensures.grows
