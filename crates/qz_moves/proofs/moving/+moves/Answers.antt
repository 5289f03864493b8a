use Rattle.std.proofs.Common.{refl, ap, append_assoc, ◌∙◌}
use Rattle.qz_syntax.specs.declared.places.Mark.TheVariants as mark
use Rattle.qz_control.specs.Mirror.{mirror_of}
use Rattle.qz_control.specs.Circuits.{Grows}
use Rattle.qz_control.proofs.Choosing.{on_ok}
use Rattle.qz_control.proofs.Growing.{through}
use Rattle.qz_terms.proofs.Steps.{any_inside_more, ends_of_all_more, ended_all_more, ended_each_more}
use Rattle.qz_terms.proofs.Choosing.{mirror_if}
use Rattle.qz_moves.proofs.Steps.{moved_all_more, move_all_more, moved_each_more, move_each_more}
use Rattle.qz_moves.specs.Appended.{read_spots}
use Rattle.qz_moves.proofs.Appending.{tests_grow, rested, scoped, tests_rested, tests_scoped}
use Rattle.qz_moves.proofs.moving.+moves.Goals as goal

pub move_in_turn-loop-index-preserved : goal.move_in_turn-loop-index-preserved
move_in_turn-loop-index-preserved t c =
    let grown = through _ _ _ c.in_ok-guard.ensures.grows c.in_ok-so_far-2.ensures.grows in
    record {
      grows = through _ _ _ c.loop-index.invariant.grows (through _ _ _ c.in_ok-here.ensures.grows grown);
      marks = c.in_ok-here.ensures.marks ∙ c.loop-index.invariant.marks;
      guard = c.in_ok-so_far-2.ensures.grows.bools _ c.in_ok-guard.ensures.ty;
      ty = c.in_ok-so_far-2.ensures.ty;
      inside = λ v views.
          let at_guard = c.in_ok-so_far-2.ensures.grows.views v views in
          let at_here = c.in_ok-guard.ensures.grows.views v at_guard in
          any_inside_more c.args.parts.now c.loop-index.index c.member-part.result.now c.member-part.ensures.within c.member-part.ensures.is v.leaves.scene _ _ c.loop-index.invariant.marks
          v.leaves.at _ _ _ (c.in_ok-here.ensures.inside v at_here) (c.in_ok-so_far-2.ensures.inside v views)
          ∙ c.loop-index.invariant.inside v (c.in_ok-here.ensures.grows.views v at_here);
      ended = λ v views.
          let at_guard = c.in_ok-so_far-2.ensures.grows.views v views in
          let at_here = c.in_ok-guard.ensures.grows.views v at_guard in
          ended_all_more c.args.parts.now c.loop-index.index c.member-part.result.now c.member-part.ensures.within c.member-part.ensures.is v.leaves.scene _ _ c.loop-index.invariant.marks
          v.leaves.at _ _ _ _ _ _ _ (c.in_ok-here.ensures.inside v at_here) (c.in_ok-here.ensures.ended v at_here) (c.in_ok-here.ensures.ends v at_here) (c.in_ok-so_far-2.ensures.inside v views) (c.in_ok-so_far-2.ensures.ended v views)
          ∙ c.loop-index.invariant.ended v (c.in_ok-here.ensures.grows.views v at_here);
      ends = λ v views.
          let at_guard = c.in_ok-so_far-2.ensures.grows.views v views in
          let at_here = c.in_ok-guard.ensures.grows.views v at_guard in
          ends_of_all_more c.args.parts.now c.loop-index.index c.member-part.result.now c.member-part.ensures.within c.member-part.ensures.is v.leaves.scene _ _ c.loop-index.invariant.marks
          mark.Zero _ _ _ (c.in_ok-here.ensures.ends v at_here) (c.in_ok-so_far-2.ensures.ends v views)
          ∙ c.loop-index.invariant.ends v (c.in_ok-here.ensures.grows.views v at_here);
      rests = λ v views.
          let at_guard = c.in_ok-so_far-2.ensures.grows.views v views in
          let at_here = c.in_ok-guard.ensures.grows.views v at_guard in
          moved_all_more c.args.parts.now c.loop-index.index c.member-part.result.now c.member-part.ensures.within c.member-part.ensures.is v.leaves.scene _ _ c.loop-index.invariant.marks
          v.leaves.at _ _ _ _ _ _ _ _ _ _ (c.in_ok-here.ensures.rests v at_here) (c.in_ok-here.ensures.inside v at_here) (c.in_ok-here.ensures.ended v at_here) (c.in_ok-here.ensures.ends v at_here) (c.in_ok-guard.ensures.means v at_guard) (c.in_ok-so_far-2.ensures.rests v views)
          ∙ c.loop-index.invariant.rests v (c.in_ok-here.ensures.grows.views v at_here);
      spots = λ v views.
          let at_guard = c.in_ok-so_far-2.ensures.grows.views v views in
          let at_here = c.in_ok-guard.ensures.grows.views v at_guard in
          move_all_more c.args.parts.now c.loop-index.index c.member-part.result.now c.member-part.ensures.within c.member-part.ensures.is v.leaves.scene _ _ c.loop-index.invariant.marks
          v.leaves.at (read_spots v c.loop-index.spots.items) _ _ _ _ _ _ _ _ (c.in_ok-here.ensures.inside v at_here) (c.in_ok-here.ensures.ended v at_here) (c.in_ok-here.ensures.ends v at_here) (c.in_ok-guard.ensures.means v at_guard) (c.in_ok-here.ensures.spots v at_here)
          ∙ c.loop-index.invariant.spots v (c.in_ok-here.ensures.grows.views v at_here);
      tests = λ before. tests_grow _ _ _ grown (c.in_ok-here.ensures.tests (c.loop-index.invariant.tests before));
    }

pub move_each-loop-index-preserved : goal.move_each-loop-index-preserved
move_each-loop-index-preserved t c =
    record {
      grows = through _ _ _ c.loop-index.invariant.grows (through _ _ _ c.in_ok-here.ensures.grows c.in_ok-so_far-2.ensures.grows);
      marks = c.in_ok-here.ensures.marks ∙ c.loop-index.invariant.marks;
      ty = c.in_ok-so_far-2.ensures.ty;
      inside = λ v views.
          let at_here = c.in_ok-so_far-2.ensures.grows.views v views in
          any_inside_more c.args.parts.now c.loop-index.index c.member-part.result.now c.member-part.ensures.within c.member-part.ensures.is v.leaves.scene _ _ c.loop-index.invariant.marks
          v.leaves.at _ _ _ (c.in_ok-here.ensures.inside v at_here) (c.in_ok-so_far-2.ensures.inside v views)
          ∙ c.loop-index.invariant.inside v (c.in_ok-here.ensures.grows.views v at_here);
      ended = λ v views.
          let at_here = c.in_ok-so_far-2.ensures.grows.views v views in
          ended_each_more c.args.parts.now c.loop-index.index c.member-part.result.now c.member-part.ensures.within c.member-part.ensures.is v.leaves.scene _ _ c.loop-index.invariant.marks
          v.leaves.at _ _ _ _ (c.in_ok-here.ensures.inside v at_here) (c.in_ok-here.ensures.ended v at_here) (c.in_ok-so_far-2.ensures.ended v views)
          ∙ c.loop-index.invariant.ended v (c.in_ok-here.ensures.grows.views v at_here);
      ends = λ v views.
          let at_here = c.in_ok-so_far-2.ensures.grows.views v views in
          ends_of_all_more c.args.parts.now c.loop-index.index c.member-part.result.now c.member-part.ensures.within c.member-part.ensures.is v.leaves.scene _ _ c.loop-index.invariant.marks
          mark.Zero _ _ _ (c.in_ok-here.ensures.ends v at_here) (c.in_ok-so_far-2.ensures.ends v views)
          ∙ c.loop-index.invariant.ends v (c.in_ok-here.ensures.grows.views v at_here);
      rests = λ v views.
          let at_here = c.in_ok-so_far-2.ensures.grows.views v views in
          moved_each_more c.args.parts.now c.loop-index.index c.member-part.result.now c.member-part.ensures.within c.member-part.ensures.is v.leaves.scene _ _ c.loop-index.invariant.marks
          v.leaves.at _ _ _ _ _ _ (c.in_ok-here.ensures.rests v at_here) (c.in_ok-so_far-2.ensures.rests v views)
          ∙ c.loop-index.invariant.rests v (c.in_ok-here.ensures.grows.views v at_here);
      spots = λ v views.
          let at_here = c.in_ok-so_far-2.ensures.grows.views v views in
          move_each_more c.args.parts.now c.loop-index.index c.member-part.result.now c.member-part.ensures.within c.member-part.ensures.is v.leaves.scene _ _ c.loop-index.invariant.marks
          v.leaves.at (read_spots v c.loop-index.spots.items) _ _ _ _ (c.in_ok-here.ensures.spots v at_here)
          ∙ c.loop-index.invariant.spots v (c.in_ok-here.ensures.grows.views v at_here);
      tests = λ before. tests_grow _ _ _ c.in_ok-so_far-2.ensures.grows (c.in_ok-here.ensures.tests (c.loop-index.invariant.tests before));
    }

pub move_at_once-returns-clause-inside : goal.move_at_once-returns-clause-inside
move_at_once-returns-clause-inside t c = λ v views. c.in_ok-all.ensures.inside v (c.in_ok-ended.ensures.grows.views v views)

pub move_at_once-returns-clause-ends : goal.move_at_once-returns-clause-ends
move_at_once-returns-clause-ends t c = λ v views. c.in_ok-all.ensures.ends v (c.in_ok-ended.ensures.grows.views v views)

pub move_at_once-returns-clause-rests : goal.move_at_once-returns-clause-rests
move_at_once-returns-clause-rests t c = λ v views. c.in_ok-all.ensures.rests v (c.in_ok-ended.ensures.grows.views v views)

pub move_at_once-returns-clause-spots : goal.move_at_once-returns-clause-spots
move_at_once-returns-clause-spots t c = λ v views. c.in_ok-all.ensures.spots v (c.in_ok-ended.ensures.grows.views v views)

pub move_at_once-returns-clause-ended : goal.move_at_once-returns-clause-ended
move_at_once-returns-clause-ended t c = λ v views.
    let at_all = c.in_ok-ended.ensures.grows.views v views in
    rw (c.in_ok-ended.ensures.means v views, c.in_ok-all.ensures.inside v at_all, c.in_ok-all.ensures.ended v at_all) refl

pub move_loop-returns-clause-inside : goal.move_loop-returns-clause-inside
move_loop-returns-clause-inside t c = λ v views.
    let at_terms = c.in_ok-rests.ensures.grows.views v views in
    let at_entered = c.in_ok-terms.ensures.grows.views v at_terms in
    let at_again = c.in_ok-entered.ensures.grows.views v at_entered in
    let at_inner = c.in_ok-again.ensures.grows.views v at_again in
    let at_c = c.in_ok-inner.ensures.grows.views v at_inner in
    rw (
      c.in_ok-terms.ensures.inside,
      c.in_ok-inner.ensures.inside v at_inner,
    ) refl

pub move_loop-returns-clause-ended : goal.move_loop-returns-clause-ended
move_loop-returns-clause-ended t c = λ v views.
    let at_terms = c.in_ok-rests.ensures.grows.views v views in
    let at_entered = c.in_ok-terms.ensures.grows.views v at_terms in
    let at_again = c.in_ok-entered.ensures.grows.views v at_entered in
    let at_inner = c.in_ok-again.ensures.grows.views v at_again in
    let at_c = c.in_ok-inner.ensures.grows.views v at_inner in
    rw (
      c.in_ok-terms.ensures.ended v at_terms,
      c.in_ok-inner.ensures.inside v at_inner,
      c.in_ok-inner.ensures.ended v at_inner,
      c.in_ok-c.ensures.means v at_c,
    ) refl

pub move_loop-returns-clause-ends : goal.move_loop-returns-clause-ends
move_loop-returns-clause-ends t c = λ v views. c.in_ok-terms.ensures.ends v (c.in_ok-rests.ensures.grows.views v views)

pub move_loop-returns-clause-rests : goal.move_loop-returns-clause-rests
move_loop-returns-clause-rests t c = λ v views.
    let at_terms = c.in_ok-rests.ensures.grows.views v views in
    let at_entered = c.in_ok-terms.ensures.grows.views v at_terms in
    let at_again = c.in_ok-entered.ensures.grows.views v at_entered in
    let at_inner = c.in_ok-again.ensures.grows.views v at_again in
    let at_c = c.in_ok-inner.ensures.grows.views v at_inner in
    rw (
      c.in_ok-rests.ensures.means v views,
      c.in_ok-entered.ensures.rests v at_entered,
      c.in_ok-inner.ensures.rests v at_inner,
      c.in_ok-again.ensures.means v at_again,
      c.in_ok-inner.ensures.ended v at_inner,
      c.in_ok-c.ensures.means v at_c,
      c.in_ok-inner.ensures.marks,
    ) refl

pub move_loop-returns-clause-spots : goal.move_loop-returns-clause-spots
move_loop-returns-clause-spots t c = λ v views.
    let at_terms = c.in_ok-rests.ensures.grows.views v views in
    let at_entered = c.in_ok-terms.ensures.grows.views v at_terms in
    let at_again = c.in_ok-entered.ensures.grows.views v at_entered in
    let at_inner = c.in_ok-again.ensures.grows.views v at_again in
    let at_c = c.in_ok-inner.ensures.grows.views v at_inner in
    rw (
      c.in_ok-entered.ensures.spots v at_entered,
      c.in_ok-inner.ensures.spots v at_inner,
      c.in_ok-again.ensures.means v at_again,
      c.in_ok-inner.ensures.ended v at_inner,
      c.in_ok-c.ensures.means v at_c,
      c.in_ok-inner.ensures.marks,
    ) (simp append_assoc)

pub move_aborted-returns-clause-inside : goal.move_aborted-returns-clause-inside
move_aborted-returns-clause-inside t c = λ v views.
    let at_inner = c.in_ok-terms.ensures.grows.views v views in
    let at_guard = c.in_ok-inner.ensures.grows.views v at_inner in
    let at_on = c.in_ok-guard.ensures.grows.views v at_guard in
    let at_c = c.in_ok-on.ensures.grows.views v at_on in
    rw (
      c.in_ok-terms.ensures.inside,
      c.in_ok-inner.ensures.inside v at_inner,
    ) refl

pub move_aborted-returns-clause-ended : goal.move_aborted-returns-clause-ended
move_aborted-returns-clause-ended t c = λ v views.
    let at_inner = c.in_ok-terms.ensures.grows.views v views in
    let at_guard = c.in_ok-inner.ensures.grows.views v at_inner in
    let at_on = c.in_ok-guard.ensures.grows.views v at_guard in
    let at_c = c.in_ok-on.ensures.grows.views v at_on in
    rw (
      c.in_ok-terms.ensures.ended v views,
      c.in_ok-inner.ensures.inside v at_inner,
      c.in_ok-inner.ensures.ended v at_inner,
      c.in_ok-c.ensures.means v at_c,
    ) refl

pub move_aborted-returns-clause-ends : goal.move_aborted-returns-clause-ends
move_aborted-returns-clause-ends t c = λ v views.
    let at_inner = c.in_ok-terms.ensures.grows.views v views in
    let at_guard = c.in_ok-inner.ensures.grows.views v at_inner in
    let at_on = c.in_ok-guard.ensures.grows.views v at_guard in
    let at_c = c.in_ok-on.ensures.grows.views v at_on in
    rw (
      c.in_ok-terms.ensures.ends v views,
      c.in_ok-c.ensures.means v at_c,
      c.in_ok-inner.ensures.ends v at_inner,
    ) refl

pub move_aborted-returns-clause-rests : goal.move_aborted-returns-clause-rests
move_aborted-returns-clause-rests t c = λ v views.
    let at_inner = c.in_ok-terms.ensures.grows.views v views in
    let at_guard = c.in_ok-inner.ensures.grows.views v at_inner in
    let at_on = c.in_ok-guard.ensures.grows.views v at_guard in
    let at_c = c.in_ok-on.ensures.grows.views v at_on in
    rw (
      c.in_ok-inner.ensures.rests v at_inner,
      c.in_ok-on.ensures.means v at_on,
      c.in_ok-guard.ensures.means v at_guard,
      c.in_ok-c.ensures.means v at_c,
    ) refl

pub move_aborted-returns-clause-spots : goal.move_aborted-returns-clause-spots
move_aborted-returns-clause-spots t c = λ v views.
    let at_inner = c.in_ok-terms.ensures.grows.views v views in
    let at_guard = c.in_ok-inner.ensures.grows.views v at_inner in
    let at_on = c.in_ok-guard.ensures.grows.views v at_guard in
    let at_c = c.in_ok-on.ensures.grows.views v at_on in
    rw (
      c.in_ok-inner.ensures.spots v at_inner,
      c.in_ok-on.ensures.means v at_on,
      c.in_ok-guard.ensures.means v at_guard,
      c.in_ok-c.ensures.means v at_c,
    ) refl

pub move_suspended-returns-clause-inside : goal.move_suspended-returns-clause-inside
move_suspended-returns-clause-inside t c = λ v views.
    let at_inner = c.in_ok-terms.ensures.grows.views v views in
    let at_ways = c.in_ok-inner.ensures.grows.views v at_inner in
    let at_c = c.in_ok-ways.ensures.grows.views v at_ways in
    rw (
      c.in_ok-terms.ensures.inside,
      c.in_ok-inner.ensures.inside v at_inner,
    ) refl

pub move_suspended-returns-clause-ended : goal.move_suspended-returns-clause-ended
move_suspended-returns-clause-ended t c = λ v views.
    let at_inner = c.in_ok-terms.ensures.grows.views v views in
    let at_ways = c.in_ok-inner.ensures.grows.views v at_inner in
    let at_c = c.in_ok-ways.ensures.grows.views v at_ways in
    rw (
      c.in_ok-terms.ensures.ended v views,
      c.in_ok-inner.ensures.inside v at_inner,
      c.in_ok-inner.ensures.ended v at_inner,
      c.in_ok-c.ensures.means v at_c,
    ) refl

pub move_suspended-returns-clause-ends : goal.move_suspended-returns-clause-ends
move_suspended-returns-clause-ends t c = λ v views.
    let at_inner = c.in_ok-terms.ensures.grows.views v views in
    let at_ways = c.in_ok-inner.ensures.grows.views v at_inner in
    let at_c = c.in_ok-ways.ensures.grows.views v at_ways in
    rw (
      c.in_ok-terms.ensures.ends v views,
      c.in_ok-c.ensures.means v at_c,
      c.in_ok-inner.ensures.ends v at_inner,
    ) refl

pub move_suspended-returns-clause-rests : goal.move_suspended-returns-clause-rests
move_suspended-returns-clause-rests t c = λ v views.
    let at_inner = c.in_ok-terms.ensures.grows.views v views in
    let at_ways = c.in_ok-inner.ensures.grows.views v at_inner in
    let at_c = c.in_ok-ways.ensures.grows.views v at_ways in
    rw (
      c.in_ok-inner.ensures.rests v at_inner,
      c.in_ok-ways.ensures.stay v at_ways,
      c.in_ok-ways.ensures.go v at_ways,
      c.in_ok-c.ensures.means v at_c,
    ) refl

pub move_suspended-returns-clause-spots : goal.move_suspended-returns-clause-spots
move_suspended-returns-clause-spots t c = λ v views.
    let at_inner = c.in_ok-terms.ensures.grows.views v views in
    let at_ways = c.in_ok-inner.ensures.grows.views v at_inner in
    let at_c = c.in_ok-ways.ensures.grows.views v at_ways in
    rw (
      c.in_ok-inner.ensures.spots v at_inner,
      c.in_ok-ways.ensures.stay v at_ways,
      c.in_ok-ways.ensures.go v at_ways,
      c.in_ok-c.ensures.means v at_c,
    ) refl

pub move_held-returns-clause-inside : goal.move_held-returns-clause-inside
move_held-returns-clause-inside t c = λ v views.
    let at_terms = c.in_ok-rests.ensures.grows.views v views in
    let at_inner = c.in_ok-terms.ensures.grows.views v at_terms in
    let at_ways = c.in_ok-inner.ensures.grows.views v at_inner in
    let at_guards = c.in_ok-ways.ensures.grows.views v at_ways in
    let at_held = c.in_ok-guards.ensures.grows.views v at_guards in
    let at_c = c.in_ok-held.ensures.grows.views v at_held in
    rw (
      c.in_ok-terms.ensures.inside v at_terms,
      c.in_ok-held.ensures.means v at_held,
      c.in_ok-inner.ensures.inside v at_inner,
    ) refl

pub move_held-returns-clause-ended : goal.move_held-returns-clause-ended
move_held-returns-clause-ended t c = λ v views.
    let at_terms = c.in_ok-rests.ensures.grows.views v views in
    let at_inner = c.in_ok-terms.ensures.grows.views v at_terms in
    let at_ways = c.in_ok-inner.ensures.grows.views v at_inner in
    let at_guards = c.in_ok-ways.ensures.grows.views v at_ways in
    let at_held = c.in_ok-guards.ensures.grows.views v at_guards in
    let at_c = c.in_ok-held.ensures.grows.views v at_held in
    rw (
      c.in_ok-terms.ensures.ended v at_terms,
      c.in_ok-held.ensures.means v at_held,
      c.in_ok-c.ensures.means v at_c,
      c.in_ok-inner.ensures.inside v at_inner,
      c.in_ok-inner.ensures.ended v at_inner,
      c.in_ok-inner.ensures.ends v at_inner,
    ) refl

pub move_held-returns-clause-ends : goal.move_held-returns-clause-ends
move_held-returns-clause-ends t c = λ v views.
    let at_terms = c.in_ok-rests.ensures.grows.views v views in
    let at_inner = c.in_ok-terms.ensures.grows.views v at_terms in
    let at_ways = c.in_ok-inner.ensures.grows.views v at_inner in
    let at_guards = c.in_ok-ways.ensures.grows.views v at_ways in
    let at_held = c.in_ok-guards.ensures.grows.views v at_guards in
    let at_c = c.in_ok-held.ensures.grows.views v at_held in
    rw (
      c.in_ok-terms.ensures.ends v at_terms,
      c.in_ok-c.ensures.means v at_c,
      c.in_ok-inner.ensures.ends v at_inner,
    ) refl

pub move_held-returns-clause-rests : goal.move_held-returns-clause-rests
move_held-returns-clause-rests t c = λ v views.
    let at_terms = c.in_ok-rests.ensures.grows.views v views in
    let at_inner = c.in_ok-terms.ensures.grows.views v at_terms in
    let at_ways = c.in_ok-inner.ensures.grows.views v at_inner in
    let at_guards = c.in_ok-ways.ensures.grows.views v at_ways in
    let at_held = c.in_ok-guards.ensures.grows.views v at_guards in
    let at_c = c.in_ok-held.ensures.grows.views v at_held in
    rw (
      c.in_ok-rests.ensures.means v views,
      c.in_ok-inner.ensures.rests v at_inner,
      c.in_ok-guards.ensures.here v at_guards,
      c.in_ok-guards.ensures.body v at_guards,
      c.in_ok-ways.ensures.stay v at_ways,
      c.in_ok-ways.ensures.go v at_ways,
      c.in_ok-held.ensures.means v at_held,
      c.in_ok-c.ensures.means v at_c,
    ) refl

pub move_held-returns-clause-spots : goal.move_held-returns-clause-spots
move_held-returns-clause-spots t c = λ v views.
    let at_terms = c.in_ok-rests.ensures.grows.views v views in
    let at_inner = c.in_ok-terms.ensures.grows.views v at_terms in
    let at_ways = c.in_ok-inner.ensures.grows.views v at_inner in
    let at_guards = c.in_ok-ways.ensures.grows.views v at_ways in
    let at_held = c.in_ok-guards.ensures.grows.views v at_guards in
    let at_c = c.in_ok-held.ensures.grows.views v at_held in
    rw (
      c.in_ok-inner.ensures.spots v at_inner,
      rested v _ _ _ _ c.in_ok-rest_at.ensures,
      c.in_ok-guards.ensures.here v at_guards,
      c.in_ok-guards.ensures.body v at_guards,
      c.in_ok-ways.ensures.stay v at_ways,
      c.in_ok-ways.ensures.go v at_ways,
      c.in_ok-held.ensures.means v at_held,
      c.in_ok-c.ensures.means v at_c,
    ) (simp append_assoc)

pub move_scope-returns-clause-ended : goal.move_scope-returns-clause-ended
move_scope-returns-clause-ended t c = λ v views.
    c.in_ok-moved.ensures.ended v views
    ∙ ap (λ ctx. (mirror_of v.leaves.scene c.args.body.now).ended ctx v.leaves.at) c.in_ok-covered.ensures.entered

pub move_scope-returns-clause-ends : goal.move_scope-returns-clause-ends
move_scope-returns-clause-ends t c = λ v views.
    c.in_ok-moved.ensures.ends v views
    ∙ ap (λ ctx. (mirror_of v.leaves.scene c.args.body.now).walk.ends ctx mark.Zero) c.in_ok-covered.ensures.entered

pub move_scope-returns-clause-rests : goal.move_scope-returns-clause-rests
move_scope-returns-clause-rests t c = λ v views.
    rw (c.in_ok-moved.ensures.rests v views, c.in_ok-covered.ensures.entered) refl

pub move_scope-returns-clause-spots : goal.move_scope-returns-clause-spots
move_scope-returns-clause-spots t c = λ v views.
    rw (
      scoped v _ _ _ _ _ c.in_ok-keep.ensures,
      c.in_ok-moved.ensures.spots v views,
      c.in_ok-moved.ensures.rests v views,
      c.in_ok-covered.ensures.entered,
    ) (simp append_assoc)

pub moves-returns-in_ok-moved-in-If-clause-inside : goal.moves-returns-in_ok-moved-in-If-clause-inside
moves-returns-in_ok-moved-in-If-clause-inside t c = λ v views.
    let at_other = c.in_ok-moved-in-If.ensures.grows.views v views in
    let at_one = c.in_ok-other-in-If.ensures.grows.views v at_other in
    let at_sides = c.in_ok-one-in-If.ensures.grows.views v at_one in
    let at_c = c.in_ok-sides-in-If.ensures.grows.views v at_sides in
    rw (
      mirror_if v.leaves.scene c.args.s.now c.in-If.condition c.in-If.first c.in-If.second c.get.result.now c.get-in-If.result.now c.in-If.is c.get.ensures c.get-in-If.ensures,
      c.in_ok-moved-in-If.ensures.inside v views,
      c.in_ok-one-in-If.ensures.inside v at_one,
      c.in_ok-other-in-If.ensures.inside v at_other,
    ) refl

pub moves-returns-in_ok-moved-in-If-clause-ended : goal.moves-returns-in_ok-moved-in-If-clause-ended
moves-returns-in_ok-moved-in-If-clause-ended t c = λ v views.
    let at_other = c.in_ok-moved-in-If.ensures.grows.views v views in
    let at_one = c.in_ok-other-in-If.ensures.grows.views v at_other in
    let at_sides = c.in_ok-one-in-If.ensures.grows.views v at_one in
    let at_c = c.in_ok-sides-in-If.ensures.grows.views v at_sides in
    rw (
      mirror_if v.leaves.scene c.args.s.now c.in-If.condition c.in-If.first c.in-If.second c.get.result.now c.get-in-If.result.now c.in-If.is c.get.ensures c.get-in-If.ensures,
      c.in_ok-moved-in-If.ensures.ended v views,
      c.in_ok-one-in-If.ensures.inside v at_one,
      c.in_ok-one-in-If.ensures.ended v at_one,
      c.in_ok-other-in-If.ensures.ended v at_other,
      c.in_ok-one-in-If.ensures.marks,
    ) refl

pub moves-returns-in_ok-moved-in-If-clause-ends : goal.moves-returns-in_ok-moved-in-If-clause-ends
moves-returns-in_ok-moved-in-If-clause-ends t c = λ v views.
    let at_other = c.in_ok-moved-in-If.ensures.grows.views v views in
    let at_one = c.in_ok-other-in-If.ensures.grows.views v at_other in
    let at_sides = c.in_ok-one-in-If.ensures.grows.views v at_one in
    let at_c = c.in_ok-sides-in-If.ensures.grows.views v at_sides in
    rw (
      mirror_if v.leaves.scene c.args.s.now c.in-If.condition c.in-If.first c.in-If.second c.get.result.now c.get-in-If.result.now c.in-If.is c.get.ensures c.get-in-If.ensures,
      c.in_ok-moved-in-If.ensures.ends v views,
      c.in_ok-c-in-If.ensures.means v at_c,
      c.in_ok-one-in-If.ensures.ends v at_one,
      c.in_ok-other-in-If.ensures.ends v at_other,
      c.in_ok-one-in-If.ensures.marks,
    ) refl

pub moves-returns-in_ok-moved-in-If-clause-rests : goal.moves-returns-in_ok-moved-in-If-clause-rests
moves-returns-in_ok-moved-in-If-clause-rests t c = λ v views.
    let at_other = c.in_ok-moved-in-If.ensures.grows.views v views in
    let at_one = c.in_ok-other-in-If.ensures.grows.views v at_other in
    let at_sides = c.in_ok-one-in-If.ensures.grows.views v at_one in
    let at_c = c.in_ok-sides-in-If.ensures.grows.views v at_sides in
    rw (
      mirror_if v.leaves.scene c.args.s.now c.in-If.condition c.in-If.first c.in-If.second c.get.result.now c.get-in-If.result.now c.in-If.is c.get.ensures c.get-in-If.ensures,
      c.in_ok-moved-in-If.ensures.rests v views,
      c.in_ok-one-in-If.ensures.rests v at_one,
      c.in_ok-other-in-If.ensures.rests v at_other,
      c.in_ok-sides-in-If.ensures.first v at_sides,
      c.in_ok-sides-in-If.ensures.second v at_sides,
      c.in_ok-c-in-If.ensures.means v at_c,
      c.in_ok-one-in-If.ensures.marks,
    ) refl

pub moves-returns-in_ok-moved-in-If-clause-spots : goal.moves-returns-in_ok-moved-in-If-clause-spots
moves-returns-in_ok-moved-in-If-clause-spots t c = λ v views.
    let at_other = c.in_ok-moved-in-If.ensures.grows.views v views in
    let at_one = c.in_ok-other-in-If.ensures.grows.views v at_other in
    let at_sides = c.in_ok-one-in-If.ensures.grows.views v at_one in
    let at_c = c.in_ok-sides-in-If.ensures.grows.views v at_sides in
    rw (
      mirror_if v.leaves.scene c.args.s.now c.in-If.condition c.in-If.first c.in-If.second c.get.result.now c.get-in-If.result.now c.in-If.is c.get.ensures c.get-in-If.ensures,
      c.in_ok-other-in-If.ensures.spots v at_other,
      c.in_ok-one-in-If.ensures.spots v at_one,
      c.in_ok-sides-in-If.ensures.first v at_sides,
      c.in_ok-sides-in-If.ensures.second v at_sides,
      c.in_ok-c-in-If.ensures.means v at_c,
      c.in_ok-one-in-If.ensures.marks,
    ) (simp append_assoc)

pub move_at_once-returns-clause-tests : goal.move_at_once-returns-clause-tests
move_at_once-returns-clause-tests t c = λ before. tests_grow _ _ _ c.in_ok-ended.ensures.grows (c.in_ok-all.ensures.tests before)

pub move_loop-returns-clause-tests : goal.move_loop-returns-clause-tests
move_loop-returns-clause-tests t c = λ before.
    let moved = c.in_ok-inner.ensures.tests (tests_grow _ _ _ c.in_ok-c.ensures.grows before) in
    tests_grow _ _ _ (through _ _ _ c.in_ok-terms.ensures.grows c.in_ok-rests.ensures.grows)
    (c.in_ok-entered.ensures.tests (tests_grow _ _ _ c.in_ok-again.ensures.grows moved))

pub move_aborted-returns-clause-tests : goal.move_aborted-returns-clause-tests
move_aborted-returns-clause-tests t c = λ before.
    tests_grow _ _ _ c.in_ok-terms.ensures.grows
    (c.in_ok-inner.ensures.tests (tests_grow _ _ _ (through _ _ _ c.in_ok-c.ensures.grows (through _ _ _ c.in_ok-on.ensures.grows c.in_ok-guard.ensures.grows)) before))

pub move_suspended-returns-clause-tests : goal.move_suspended-returns-clause-tests
move_suspended-returns-clause-tests t c = λ before.
    tests_grow _ _ _ c.in_ok-terms.ensures.grows
    (c.in_ok-inner.ensures.tests (tests_grow _ _ _ (through _ _ _ c.in_ok-c.ensures.grows c.in_ok-ways.ensures.grows) before))

pub move_held-returns-clause-tests : goal.move_held-returns-clause-tests
move_held-returns-clause-tests t c = λ before.
    let there = tests_grow _ _ _ (through _ _ _ c.in_ok-c.ensures.grows (through _ _ _ c.in_ok-held.ensures.grows (through _ _ _ c.in_ok-guards.ensures.grows c.in_ok-ways.ensures.grows))) before in
    tests_grow _ _ _ (through _ _ _ c.in_ok-terms.ensures.grows c.in_ok-rests.ensures.grows)
    (c.in_ok-inner.ensures.tests (tests_rested _ _ _ _ _ c.in_ok-rest_at.ensures (c.in_ok-ways.ensures.grows.bools _ c.in_ok-guards.ensures.here_ty) there))

pub move_scope-returns-clause-tests : goal.move_scope-returns-clause-tests
move_scope-returns-clause-tests t c = λ before.
    tests_scoped _ _ _ _ _ _ c.in_ok-keep.ensures c.in_ok-moved.ensures.ty.rests (c.in_ok-moved.ensures.tests before)

pub moves-returns-in_ok-moved-in-If-clause-tests : goal.moves-returns-in_ok-moved-in-If-clause-tests
moves-returns-in_ok-moved-in-If-clause-tests t c = λ before.
    let there = tests_grow _ _ _ (through _ _ _ c.in_ok-c-in-If.ensures.grows c.in_ok-sides-in-If.ensures.grows) before in
    tests_grow _ _ _ c.in_ok-moved-in-If.ensures.grows (c.in_ok-other-in-If.ensures.tests (c.in_ok-one-in-If.ensures.tests there))

pub move_in_turn-loop-index-init : goal.move_in_turn-loop-index-init
move_in_turn-loop-index-init t c = record {
  grows = c.in_ok-so_far.ensures.grows;
  marks = refl;
  guard = c.in_ok-so_far.ensures.grows.bools _ c.requires.start;
  ty = c.in_ok-so_far.ensures.ty;
  inside = λ v views. rw (c.in_ok-so_far.ensures.inside v views) refl;
  ended = λ v views. rw (c.in_ok-so_far.ensures.inside v views, c.in_ok-so_far.ensures.ended v views) refl;
  ends = λ v views. rw (c.in_ok-so_far.ensures.ends v views) refl;
  rests = λ v views. rw (c.in_ok-so_far.ensures.rests v views) refl;
  spots = λ v views. refl;
  tests = λ before. tests_grow _ _ _ c.in_ok-so_far.ensures.grows before;
}

pub move_each-loop-index-init : goal.move_each-loop-index-init
move_each-loop-index-init t c = record {
  grows = c.in_ok-so_far.ensures.grows;
  marks = refl;
  ty = c.in_ok-so_far.ensures.ty;
  inside = λ v views. rw (c.in_ok-so_far.ensures.inside v views) refl;
  ended = λ v views. rw (c.in_ok-so_far.ensures.ended v views) refl;
  ends = λ v views. rw (c.in_ok-so_far.ensures.ends v views) refl;
  rests = λ v views. rw (c.in_ok-so_far.ensures.rests v views) refl;
  spots = λ v views. refl;
  tests = λ before. tests_grow _ _ _ c.in_ok-so_far.ensures.grows before;
}

pub moves-returns-in-Nothing-clause-tests : goal.moves-returns-in-Nothing-clause-tests
moves-returns-in-Nothing-clause-tests t c =
    on_ok c.moved_nowhere.result {P = Grows c.args.circuit.now c.moved_nowhere.new.circuit} (λ grows before. tests_grow _ _ _ grows before) c.moved_nowhere.ensures.grows
