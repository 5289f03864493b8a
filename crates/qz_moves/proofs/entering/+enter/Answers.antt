use Rattle.std.proofs.Common.{refl, ap, sym, append_assoc, append-nil, ◌++◌, ◌∷◌, ◌∙◌}
use Rattle.qz_control.specs.Mirror.{mirror_of}
use Rattle.qz_control.specs.Circuits.{Grows}
use Rattle.qz_control.proofs.Choosing.{on_ok}
use Rattle.qz_control.proofs.Growing.{through}
use Rattle.qz_terms.proofs.Steps.{ends_of_all_more}
use Rattle.qz_terms.proofs.Choosing.{mirror_if}
use Rattle.qz_moves.proofs.Steps.{rests_all_more, enter_all_more, rests_each_more, enter_each_more}
use Rattle.qz_moves.specs.Appended.{read_spots}
use Rattle.qz_moves.proofs.Appending.{tests_grow, rested, scoped, tests_rested, tests_scoped}
use Rattle.qz_moves.proofs.entering.+enter.Goals as goal

pub enter_in_turn-loop-index-preserved : goal.enter_in_turn-loop-index-preserved
enter_in_turn-loop-index-preserved t c =
    let grown = through _ _ _ c.in_ok-guard.ensures.grows c.in_ok-so_far-2.ensures.grows in
    record {
      grows = through _ _ _ c.loop-index.invariant.grows (through _ _ _ c.in_ok-here.ensures.grows grown);
      marks = c.in_ok-here.ensures.marks ∙ c.loop-index.invariant.marks;
      guard = c.in_ok-so_far-2.ensures.grows.bools _ c.in_ok-guard.ensures.ty;
      ty = c.in_ok-so_far-2.ensures.ty;
      ends = λ v views.
          let at_guard = c.in_ok-so_far-2.ensures.grows.views v views in
          let at_here = c.in_ok-guard.ensures.grows.views v at_guard in
          ends_of_all_more c.args.parts.now c.loop-index.index c.member-part.result.now c.member-part.ensures.within c.member-part.ensures.is v.leaves.scene _ _ c.loop-index.invariant.marks
          c.args.m _ _ _ (c.in_ok-here.ensures.ends v at_here) (c.in_ok-so_far-2.ensures.ends v views)
          ∙ c.loop-index.invariant.ends v (c.in_ok-here.ensures.grows.views v at_here);
      rests = λ v views.
          let at_guard = c.in_ok-so_far-2.ensures.grows.views v views in
          let at_here = c.in_ok-guard.ensures.grows.views v at_guard in
          rests_all_more c.args.parts.now c.loop-index.index c.member-part.result.now c.member-part.ensures.within c.member-part.ensures.is v.leaves.scene _ _ c.loop-index.invariant.marks
          c.args.m _ _ _ _ _ _ (c.in_ok-here.ensures.rests v at_here) (c.in_ok-here.ensures.ends v at_here) (c.in_ok-guard.ensures.means v at_guard) (c.in_ok-so_far-2.ensures.rests v views)
          ∙ c.loop-index.invariant.rests v (c.in_ok-here.ensures.grows.views v at_here);
      spots = λ v views.
          let at_guard = c.in_ok-so_far-2.ensures.grows.views v views in
          let at_here = c.in_ok-guard.ensures.grows.views v at_guard in
          enter_all_more c.args.parts.now c.loop-index.index c.member-part.result.now c.member-part.ensures.within c.member-part.ensures.is v.leaves.scene _ _ c.loop-index.invariant.marks
          c.args.m (read_spots v c.loop-index.spots.items) _ _ _ _ (c.in_ok-here.ensures.ends v at_here) (c.in_ok-guard.ensures.means v at_guard) (c.in_ok-here.ensures.spots v at_here)
          ∙ c.loop-index.invariant.spots v (c.in_ok-here.ensures.grows.views v at_here);
      tests = λ before. tests_grow _ _ _ grown (c.in_ok-here.ensures.tests (c.loop-index.invariant.tests before));
    }

pub enter_at_once-loop-index-preserved : goal.enter_at_once-loop-index-preserved
enter_at_once-loop-index-preserved t c = record {
  grows = through _ _ _ c.loop-index.invariant.grows (through _ _ _ c.in_ok-here.ensures.grows c.in_ok-so_far-2.ensures.grows);
  marks = c.in_ok-here.ensures.marks ∙ c.loop-index.invariant.marks;
  ty = c.in_ok-so_far-2.ensures.ty;
  ends = λ v views.
      let at_here = c.in_ok-so_far-2.ensures.grows.views v views in
      ends_of_all_more c.args.parts.now c.loop-index.index c.member-part.result.now c.member-part.ensures.within c.member-part.ensures.is v.leaves.scene _ _ c.loop-index.invariant.marks
      c.args.m _ _ _ (c.in_ok-here.ensures.ends v at_here) (c.in_ok-so_far-2.ensures.ends v views)
      ∙ c.loop-index.invariant.ends v (c.in_ok-here.ensures.grows.views v at_here);
  rests = λ v views.
      let at_here = c.in_ok-so_far-2.ensures.grows.views v views in
      rests_each_more c.args.parts.now c.loop-index.index c.member-part.result.now c.member-part.ensures.within c.member-part.ensures.is v.leaves.scene _ _ c.loop-index.invariant.marks
      c.args.m _ _ _ _ (c.in_ok-here.ensures.rests v at_here) (c.in_ok-so_far-2.ensures.rests v views)
      ∙ c.loop-index.invariant.rests v (c.in_ok-here.ensures.grows.views v at_here);
  spots = λ v views.
      let at_here = c.in_ok-so_far-2.ensures.grows.views v views in
      enter_each_more c.args.parts.now c.loop-index.index c.member-part.result.now c.member-part.ensures.within c.member-part.ensures.is v.leaves.scene _ _ c.loop-index.invariant.marks
      c.args.m (read_spots v c.loop-index.spots.items) _ _ (c.in_ok-here.ensures.spots v at_here)
      ∙ c.loop-index.invariant.spots v (c.in_ok-here.ensures.grows.views v at_here);
  tests = λ before. tests_grow _ _ _ c.in_ok-so_far-2.ensures.grows (c.in_ok-here.ensures.tests (c.loop-index.invariant.tests before));
}

pub enter_loop-returns-clause-rests : goal.enter_loop-returns-clause-rests
enter_loop-returns-clause-rests t c = λ v views. c.in_ok-inner.ensures.rests v (c.in_ok-ends.ensures.grows.views v views)

pub enter_loop-returns-clause-spots : goal.enter_loop-returns-clause-spots
enter_loop-returns-clause-spots t c = λ v views. c.in_ok-inner.ensures.spots v (c.in_ok-ends.ensures.grows.views v views)

pub enter_aborted-returns-clause-ends : goal.enter_aborted-returns-clause-ends
enter_aborted-returns-clause-ends t c = λ v views.
    let at_inner = c.in_ok-ends.ensures.grows.views v views in
    let at_guard = c.in_ok-inner.ensures.grows.views v at_inner in
    let at_c = c.in_ok-guard.ensures.grows.views v at_guard in
    rw (c.in_ok-ends.ensures.means v views, c.in_ok-c.ensures.means v at_c, c.in_ok-inner.ensures.ends v at_inner) refl

pub enter_aborted-returns-clause-rests : goal.enter_aborted-returns-clause-rests
enter_aborted-returns-clause-rests t c = λ v views.
    let at_inner = c.in_ok-ends.ensures.grows.views v views in
    let at_guard = c.in_ok-inner.ensures.grows.views v at_inner in
    let at_c = c.in_ok-guard.ensures.grows.views v at_guard in
    rw (c.in_ok-inner.ensures.rests v at_inner, c.in_ok-guard.ensures.means v at_guard, c.in_ok-c.ensures.means v at_c) refl

pub enter_aborted-returns-clause-spots : goal.enter_aborted-returns-clause-spots
enter_aborted-returns-clause-spots t c = λ v views.
    let at_inner = c.in_ok-ends.ensures.grows.views v views in
    let at_guard = c.in_ok-inner.ensures.grows.views v at_inner in
    let at_c = c.in_ok-guard.ensures.grows.views v at_guard in
    rw (c.in_ok-inner.ensures.spots v at_inner, c.in_ok-guard.ensures.means v at_guard, c.in_ok-c.ensures.means v at_c) refl

pub enter_suspended-returns-clause-ends : goal.enter_suspended-returns-clause-ends
enter_suspended-returns-clause-ends t c = λ v views.
    let at_inner = c.in_ok-ends.ensures.grows.views v views in
    let at_c = c.in_ok-inner.ensures.grows.views v at_inner in
    rw (c.in_ok-ends.ensures.means v views, c.in_ok-c.ensures.means v at_c, c.in_ok-inner.ensures.ends v at_inner) refl

pub enter_suspended-returns-clause-rests : goal.enter_suspended-returns-clause-rests
enter_suspended-returns-clause-rests t c = λ v views. c.in_ok-inner.ensures.rests v (c.in_ok-ends.ensures.grows.views v views)

pub enter_suspended-returns-clause-spots : goal.enter_suspended-returns-clause-spots
enter_suspended-returns-clause-spots t c = λ v views. c.in_ok-inner.ensures.spots v (c.in_ok-ends.ensures.grows.views v views)

pub enter_held-returns-clause-ends : goal.enter_held-returns-clause-ends
enter_held-returns-clause-ends t c = λ v views.
    let at_ends = c.in_ok-rests.ensures.grows.views v views in
    let at_inner = c.in_ok-ends.ensures.grows.views v at_ends in
    let at_sides = c.in_ok-inner.ensures.grows.views v at_inner in
    let at_c = c.in_ok-sides.ensures.grows.views v at_sides in
    rw (c.in_ok-ends.ensures.means v at_ends, c.in_ok-c.ensures.means v at_c, c.in_ok-inner.ensures.ends v at_inner) refl

pub enter_held-returns-clause-rests : goal.enter_held-returns-clause-rests
enter_held-returns-clause-rests t c = λ v views.
    let at_ends = c.in_ok-rests.ensures.grows.views v views in
    let at_inner = c.in_ok-ends.ensures.grows.views v at_ends in
    let at_sides = c.in_ok-inner.ensures.grows.views v at_inner in
    let at_c = c.in_ok-sides.ensures.grows.views v at_sides in
    rw (
      c.in_ok-rests.ensures.means v views,
      c.in_ok-inner.ensures.rests v at_inner,
      c.in_ok-sides.ensures.first v at_sides,
      c.in_ok-sides.ensures.second v at_sides,
      c.in_ok-c.ensures.means v at_c,
    ) refl

pub enter_held-returns-clause-spots : goal.enter_held-returns-clause-spots
enter_held-returns-clause-spots t c = λ v views.
    let at_ends = c.in_ok-rests.ensures.grows.views v views in
    let at_inner = c.in_ok-ends.ensures.grows.views v at_ends in
    let at_sides = c.in_ok-inner.ensures.grows.views v at_inner in
    let at_c = c.in_ok-sides.ensures.grows.views v at_sides in
    rw (
      c.in_ok-inner.ensures.spots v at_inner,
      rested v _ _ _ _ c.in_ok-rest_at.ensures,
      c.in_ok-sides.ensures.first v at_sides,
      c.in_ok-sides.ensures.second v at_sides,
      c.in_ok-c.ensures.means v at_c,
    ) (simp append_assoc)

pub enter_scope-returns-clause-ends : goal.enter_scope-returns-clause-ends
enter_scope-returns-clause-ends t c = λ v views.
    c.in_ok-entered.ensures.ends v views
    ∙ ap (λ ctx. (mirror_of v.leaves.scene c.args.body.now).walk.ends ctx c.args.m) c.in_ok-covered.ensures.entered

pub enter_scope-returns-clause-rests : goal.enter_scope-returns-clause-rests
enter_scope-returns-clause-rests t c = λ v views.
    rw (c.in_ok-entered.ensures.rests v views, c.in_ok-covered.ensures.entered) refl

pub enter_scope-returns-clause-spots : goal.enter_scope-returns-clause-spots
enter_scope-returns-clause-spots t c = λ v views.
    rw (
      scoped v _ _ _ _ _ c.in_ok-keep.ensures,
      c.in_ok-entered.ensures.spots v views,
      c.in_ok-entered.ensures.rests v views,
      c.in_ok-covered.ensures.entered,
    ) (simp append_assoc)

pub enter-returns-in_ok-entered-in-If-clause-ends : goal.enter-returns-in_ok-entered-in-If-clause-ends
enter-returns-in_ok-entered-in-If-clause-ends t c = λ v views.
    let at_other = c.in_ok-entered-in-If.ensures.grows.views v views in
    let at_one = c.in_ok-other-in-If.ensures.grows.views v at_other in
    let at_sides = c.in_ok-one-in-If.ensures.grows.views v at_one in
    let at_c = c.in_ok-sides-in-If.ensures.grows.views v at_sides in
    rw (
      mirror_if v.leaves.scene c.args.s.now c.in-If.condition c.in-If.first c.in-If.second c.get.result.now c.get-in-If.result.now c.in-If.is c.get.ensures c.get-in-If.ensures,
      c.in_ok-entered-in-If.ensures.ends v views,
      c.in_ok-c-in-If.ensures.means v at_c,
      c.in_ok-one-in-If.ensures.ends v at_one,
      c.in_ok-other-in-If.ensures.ends v at_other,
      c.in_ok-one-in-If.ensures.marks,
    ) refl

pub enter-returns-in_ok-entered-in-If-clause-rests : goal.enter-returns-in_ok-entered-in-If-clause-rests
enter-returns-in_ok-entered-in-If-clause-rests t c = λ v views.
    let at_other = c.in_ok-entered-in-If.ensures.grows.views v views in
    let at_one = c.in_ok-other-in-If.ensures.grows.views v at_other in
    let at_sides = c.in_ok-one-in-If.ensures.grows.views v at_one in
    let at_c = c.in_ok-sides-in-If.ensures.grows.views v at_sides in
    rw (
      mirror_if v.leaves.scene c.args.s.now c.in-If.condition c.in-If.first c.in-If.second c.get.result.now c.get-in-If.result.now c.in-If.is c.get.ensures c.get-in-If.ensures,
      c.in_ok-entered-in-If.ensures.rests v views,
      c.in_ok-one-in-If.ensures.rests v at_one,
      c.in_ok-other-in-If.ensures.rests v at_other,
      c.in_ok-sides-in-If.ensures.first v at_sides,
      c.in_ok-sides-in-If.ensures.second v at_sides,
      c.in_ok-c-in-If.ensures.means v at_c,
      c.in_ok-one-in-If.ensures.marks,
    ) refl

pub enter-returns-in_ok-entered-in-If-clause-spots : goal.enter-returns-in_ok-entered-in-If-clause-spots
enter-returns-in_ok-entered-in-If-clause-spots t c = λ v views.
    let at_other = c.in_ok-entered-in-If.ensures.grows.views v views in
    let at_one = c.in_ok-other-in-If.ensures.grows.views v at_other in
    let at_sides = c.in_ok-one-in-If.ensures.grows.views v at_one in
    let at_c = c.in_ok-sides-in-If.ensures.grows.views v at_sides in
    rw (
      mirror_if v.leaves.scene c.args.s.now c.in-If.condition c.in-If.first c.in-If.second c.get.result.now c.get-in-If.result.now c.in-If.is c.get.ensures c.get-in-If.ensures,
      c.in_ok-other-in-If.ensures.spots v at_other,
      c.in_ok-one-in-If.ensures.spots v at_one,
      c.in_ok-sides-in-If.ensures.first v at_sides,
      c.in_ok-sides-in-If.ensures.second v at_sides,
      c.in_ok-c-in-If.ensures.means v at_c,
      c.in_ok-one-in-If.ensures.marks,
    ) (simp append_assoc)

pub enter_loop-returns-clause-tests : goal.enter_loop-returns-clause-tests
enter_loop-returns-clause-tests t c = λ before. tests_grow _ _ _ c.in_ok-ends.ensures.grows (c.in_ok-inner.ensures.tests before)

pub enter_aborted-returns-clause-tests : goal.enter_aborted-returns-clause-tests
enter_aborted-returns-clause-tests t c = λ before.
    tests_grow _ _ _ c.in_ok-ends.ensures.grows (c.in_ok-inner.ensures.tests
    (tests_grow _ _ _ (through _ _ _ c.in_ok-c.ensures.grows c.in_ok-guard.ensures.grows) before))

pub enter_suspended-returns-clause-tests : goal.enter_suspended-returns-clause-tests
enter_suspended-returns-clause-tests t c = λ before.
    tests_grow _ _ _ c.in_ok-ends.ensures.grows (c.in_ok-inner.ensures.tests (tests_grow _ _ _ c.in_ok-c.ensures.grows before))

pub enter_held-returns-clause-tests : goal.enter_held-returns-clause-tests
enter_held-returns-clause-tests t c = λ before.
    let there = tests_grow _ _ _ (through _ _ _ c.in_ok-c.ensures.grows c.in_ok-sides.ensures.grows) before in
    tests_grow _ _ _ (through _ _ _ c.in_ok-ends.ensures.grows c.in_ok-rests.ensures.grows)
    (c.in_ok-inner.ensures.tests (tests_rested _ _ _ _ _ c.in_ok-rest_at.ensures c.in_ok-sides.ensures.first_ty there))

pub enter_scope-returns-clause-tests : goal.enter_scope-returns-clause-tests
enter_scope-returns-clause-tests t c = λ before.
    tests_scoped _ _ _ _ _ _ c.in_ok-keep.ensures c.in_ok-entered.ensures.ty.rests (c.in_ok-entered.ensures.tests before)

pub enter-returns-in_ok-entered-in-If-clause-tests : goal.enter-returns-in_ok-entered-in-If-clause-tests
enter-returns-in_ok-entered-in-If-clause-tests t c = λ before.
    let there = tests_grow _ _ _ (through _ _ _ c.in_ok-c-in-If.ensures.grows c.in_ok-sides-in-If.ensures.grows) before in
    tests_grow _ _ _ c.in_ok-entered-in-If.ensures.grows (c.in_ok-other-in-If.ensures.tests (c.in_ok-one-in-If.ensures.tests there))

pub enter_in_turn-loop-index-init : goal.enter_in_turn-loop-index-init
enter_in_turn-loop-index-init t c = record {
  grows = c.in_ok-so_far.ensures.grows;
  marks = refl;
  guard = c.in_ok-so_far.ensures.grows.bools _ c.requires.start;
  ty = c.in_ok-so_far.ensures.ty;
  ends = λ v views. rw (c.in_ok-so_far.ensures.ends v views) refl;
  rests = λ v views. rw (c.in_ok-so_far.ensures.rests v views) refl;
  spots = λ v views. refl;
  tests = λ before. tests_grow _ _ _ c.in_ok-so_far.ensures.grows before;
}

pub enter_at_once-loop-index-init : goal.enter_at_once-loop-index-init
enter_at_once-loop-index-init t c = record {
  grows = c.in_ok-so_far.ensures.grows;
  marks = refl;
  ty = c.in_ok-so_far.ensures.ty;
  ends = λ v views. rw (c.in_ok-so_far.ensures.ends v views) refl;
  rests = λ v views. rw (c.in_ok-so_far.ensures.rests v views) refl;
  spots = λ v views. refl;
  tests = λ before. tests_grow _ _ _ c.in_ok-so_far.ensures.grows before;
}

pub enter-returns-in-Nothing-clause-tests : goal.enter-returns-in-Nothing-clause-tests
enter-returns-in-Nothing-clause-tests t c =
    on_ok c.entered_nowhere.result {P = Grows c.args.circuit.now c.entered_nowhere.new.circuit} (λ grows before. tests_grow _ _ _ grows before) c.entered_nowhere.ensures.grows
