use Rattle.std.proofs.Common.{refl, ap, ◌∙◌}
use Rattle.qz_syntax.specs.declared.places.Mark.TheVariants as mark
use Rattle.qz_control.specs.Mirror.{mirror_of}
use Rattle.qz_control.proofs.Growing.{through}
use Rattle.qz_terms.proofs.Steps.{any_inside_more, ends_of_all_more, ended_all_more, ended_each_more}
use Rattle.qz_terms.proofs.Choosing.{mirror_if}
use Rattle.qz_terms.proofs.resting.+terms.Goals as goal

pub terms_in_turn-loop-index-preserved : goal.terms_in_turn-loop-index-preserved
terms_in_turn-loop-index-preserved t c = record {
  grows = through _ _ _ c.loop-index.invariant.grows (through _ _ _ c.in_ok-told.ensures.grows c.in_ok-so_far-2.ensures.grows);
  marks = c.in_ok-told.ensures.marks ∙ c.loop-index.invariant.marks;
  ty = c.in_ok-so_far-2.ensures.ty;
  inside = λ v views.
      let at_told = c.in_ok-so_far-2.ensures.grows.views v views in
      any_inside_more c.args.parts.now c.loop-index.index c.member-part.result.now c.member-part.ensures.within c.member-part.ensures.is v.leaves.scene _ _ c.loop-index.invariant.marks
      v.leaves.at _ _ _ (c.in_ok-told.ensures.inside v at_told) (c.in_ok-so_far-2.ensures.inside v views)
      ∙ c.loop-index.invariant.inside v (c.in_ok-told.ensures.grows.views v at_told);
  ended = λ v views.
      let at_told = c.in_ok-so_far-2.ensures.grows.views v views in
      ended_all_more c.args.parts.now c.loop-index.index c.member-part.result.now c.member-part.ensures.within c.member-part.ensures.is v.leaves.scene _ _ c.loop-index.invariant.marks
      v.leaves.at _ _ _ _ _ _ _ (c.in_ok-told.ensures.inside v at_told) (c.in_ok-told.ensures.ended v at_told) (c.in_ok-told.ensures.ends v at_told) (c.in_ok-so_far-2.ensures.inside v views) (c.in_ok-so_far-2.ensures.ended v views)
      ∙ c.loop-index.invariant.ended v (c.in_ok-told.ensures.grows.views v at_told);
  ends = λ v views.
      let at_told = c.in_ok-so_far-2.ensures.grows.views v views in
      ends_of_all_more c.args.parts.now c.loop-index.index c.member-part.result.now c.member-part.ensures.within c.member-part.ensures.is v.leaves.scene _ _ c.loop-index.invariant.marks
      mark.Zero _ _ _ (c.in_ok-told.ensures.ends v at_told) (c.in_ok-so_far-2.ensures.ends v views)
      ∙ c.loop-index.invariant.ends v (c.in_ok-told.ensures.grows.views v at_told);
}

pub terms_of_each-loop-index-preserved : goal.terms_of_each-loop-index-preserved
terms_of_each-loop-index-preserved t c = record {
  grows = through _ _ _ c.loop-index.invariant.grows (through _ _ _ c.in_ok-told.ensures.grows c.in_ok-so_far-2.ensures.grows);
  marks = c.in_ok-told.ensures.marks ∙ c.loop-index.invariant.marks;
  ty = c.in_ok-so_far-2.ensures.ty;
  inside = λ v views.
      let at_told = c.in_ok-so_far-2.ensures.grows.views v views in
      any_inside_more c.args.parts.now c.loop-index.index c.member-part.result.now c.member-part.ensures.within c.member-part.ensures.is v.leaves.scene _ _ c.loop-index.invariant.marks
      v.leaves.at _ _ _ (c.in_ok-told.ensures.inside v at_told) (c.in_ok-so_far-2.ensures.inside v views)
      ∙ c.loop-index.invariant.inside v (c.in_ok-told.ensures.grows.views v at_told);
  ended = λ v views.
      let at_told = c.in_ok-so_far-2.ensures.grows.views v views in
      ended_each_more c.args.parts.now c.loop-index.index c.member-part.result.now c.member-part.ensures.within c.member-part.ensures.is v.leaves.scene _ _ c.loop-index.invariant.marks
      v.leaves.at _ _ _ _ (c.in_ok-told.ensures.inside v at_told) (c.in_ok-told.ensures.ended v at_told) (c.in_ok-so_far-2.ensures.ended v views)
      ∙ c.loop-index.invariant.ended v (c.in_ok-told.ensures.grows.views v at_told);
  ends = λ v views.
      let at_told = c.in_ok-so_far-2.ensures.grows.views v views in
      ends_of_all_more c.args.parts.now c.loop-index.index c.member-part.result.now c.member-part.ensures.within c.member-part.ensures.is v.leaves.scene _ _ c.loop-index.invariant.marks
      mark.Zero _ _ _ (c.in_ok-told.ensures.ends v at_told) (c.in_ok-so_far-2.ensures.ends v views)
      ∙ c.loop-index.invariant.ends v (c.in_ok-told.ensures.grows.views v at_told);
}

pub terms_of_loop-returns-clause-inside : goal.terms_of_loop-returns-clause-inside
terms_of_loop-returns-clause-inside t c = λ v views.
    rw c.in_ok-terms.ensures.inside (c.in_ok-told.ensures.inside v (c.in_ok-terms.ensures.grows.views v views))

pub terms_of_loop-returns-clause-ended : goal.terms_of_loop-returns-clause-ended
terms_of_loop-returns-clause-ended t c = λ v views.
    let at_told = c.in_ok-terms.ensures.grows.views v views in
    let at_c = c.in_ok-told.ensures.grows.views v at_told in
    rw (
      c.in_ok-terms.ensures.ended v views,
      c.in_ok-c.ensures.means v at_c,
      c.in_ok-told.ensures.inside v at_told,
      c.in_ok-told.ensures.ended v at_told,
    ) refl

pub terms_of_abort-returns-clause-inside : goal.terms_of_abort-returns-clause-inside
terms_of_abort-returns-clause-inside t c = λ v views.
    rw c.in_ok-terms.ensures.inside (c.in_ok-told.ensures.inside v (c.in_ok-terms.ensures.grows.views v views))

pub terms_of_abort-returns-clause-ended : goal.terms_of_abort-returns-clause-ended
terms_of_abort-returns-clause-ended t c = λ v views.
    let at_told = c.in_ok-terms.ensures.grows.views v views in
    let at_c = c.in_ok-told.ensures.grows.views v at_told in
    rw (
      c.in_ok-terms.ensures.ended v views,
      c.in_ok-c.ensures.means v at_c,
      c.in_ok-told.ensures.inside v at_told,
      c.in_ok-told.ensures.ended v at_told,
    ) refl

pub terms_of_abort-returns-clause-ends : goal.terms_of_abort-returns-clause-ends
terms_of_abort-returns-clause-ends t c = λ v views.
    let at_told = c.in_ok-terms.ensures.grows.views v views in
    let at_c = c.in_ok-told.ensures.grows.views v at_told in
    rw (c.in_ok-terms.ensures.ends v views, c.in_ok-c.ensures.means v at_c, c.in_ok-told.ensures.ends v at_told) refl

pub terms_of_suspend-returns-clause-inside : goal.terms_of_suspend-returns-clause-inside
terms_of_suspend-returns-clause-inside t c = λ v views.
    rw c.in_ok-terms.ensures.inside (c.in_ok-told.ensures.inside v (c.in_ok-terms.ensures.grows.views v views))

pub terms_of_suspend-returns-clause-ended : goal.terms_of_suspend-returns-clause-ended
terms_of_suspend-returns-clause-ended t c = λ v views.
    let at_told = c.in_ok-terms.ensures.grows.views v views in
    let at_c = c.in_ok-told.ensures.grows.views v at_told in
    rw (
      c.in_ok-terms.ensures.ended v views,
      c.in_ok-c.ensures.means v at_c,
      c.in_ok-told.ensures.inside v at_told,
      c.in_ok-told.ensures.ended v at_told,
    ) refl

pub terms_of_suspend-returns-clause-ends : goal.terms_of_suspend-returns-clause-ends
terms_of_suspend-returns-clause-ends t c = λ v views.
    let at_told = c.in_ok-terms.ensures.grows.views v views in
    let at_c = c.in_ok-told.ensures.grows.views v at_told in
    rw (c.in_ok-terms.ensures.ends v views, c.in_ok-c.ensures.means v at_c, c.in_ok-told.ensures.ends v at_told) refl

pub terms_of_held-returns-clause-inside : goal.terms_of_held-returns-clause-inside
terms_of_held-returns-clause-inside t c = λ v views.
    let at_held = c.in_ok-terms.ensures.grows.views v views in
    let at_told = c.in_ok-held.ensures.grows.views v at_held in
    rw (c.in_ok-terms.ensures.inside v views, c.in_ok-held.ensures.means v at_held, c.in_ok-told.ensures.inside v at_told) refl

pub terms_of_held-returns-clause-ended : goal.terms_of_held-returns-clause-ended
terms_of_held-returns-clause-ended t c = λ v views.
    let at_held = c.in_ok-terms.ensures.grows.views v views in
    let at_told = c.in_ok-held.ensures.grows.views v at_held in
    let at_c = c.in_ok-told.ensures.grows.views v at_told in
    rw (
      c.in_ok-terms.ensures.ended v views,
      c.in_ok-held.ensures.means v at_held,
      c.in_ok-c.ensures.means v at_c,
      c.in_ok-told.ensures.inside v at_told,
      c.in_ok-told.ensures.ended v at_told,
      c.in_ok-told.ensures.ends v at_told,
    ) refl

pub terms_of_held-returns-clause-ends : goal.terms_of_held-returns-clause-ends
terms_of_held-returns-clause-ends t c = λ v views.
    let at_held = c.in_ok-terms.ensures.grows.views v views in
    let at_told = c.in_ok-held.ensures.grows.views v at_held in
    let at_c = c.in_ok-told.ensures.grows.views v at_told in
    rw (c.in_ok-terms.ensures.ends v views, c.in_ok-c.ensures.means v at_c, c.in_ok-told.ensures.ends v at_told) refl

pub terms_at_once-returns-clause-ended : goal.terms_at_once-returns-clause-ended
terms_at_once-returns-clause-ended t c = λ v views.
    let at_all = c.in_ok-ended.ensures.grows.views v views in
    rw (c.in_ok-ended.ensures.means v views, c.in_ok-all.ensures.inside v at_all, c.in_ok-all.ensures.ended v at_all) refl

pub terms_of_scope-returns-clause-ended : goal.terms_of_scope-returns-clause-ended
terms_of_scope-returns-clause-ended t c = λ v views.
    c.in_ok-told.ensures.ended v views
    ∙ ap (λ ctx. (mirror_of v.leaves.scene c.args.body.now).ended ctx v.leaves.at) c.in_ok-covered.ensures.entered

pub terms_of_scope-returns-clause-ends : goal.terms_of_scope-returns-clause-ends
terms_of_scope-returns-clause-ends t c = λ v views.
    c.in_ok-told.ensures.ends v views
    ∙ ap (λ ctx. (mirror_of v.leaves.scene c.args.body.now).walk.ends ctx mark.Zero) c.in_ok-covered.ensures.entered

pub terms_of-returns-in_ok-told-in-If-clause-inside : goal.terms_of-returns-in_ok-told-in-If-clause-inside
terms_of-returns-in_ok-told-in-If-clause-inside t c = λ v views.
    let at_other = c.in_ok-told-in-If.ensures.grows.views v views in
    let at_one = c.in_ok-other-in-If.ensures.grows.views v at_other in
    let at_c = c.in_ok-one-in-If.ensures.grows.views v at_one in
    rw (
      mirror_if v.leaves.scene c.args.s.now c.in-If.condition c.in-If.first c.in-If.second c.get.result.now c.get-in-If.result.now c.in-If.is c.get.ensures c.get-in-If.ensures,
      c.in_ok-told-in-If.ensures.inside v views,
      c.in_ok-one-in-If.ensures.inside v at_one,
      c.in_ok-other-in-If.ensures.inside v at_other,
    ) refl

pub terms_of-returns-in_ok-told-in-If-clause-ended : goal.terms_of-returns-in_ok-told-in-If-clause-ended
terms_of-returns-in_ok-told-in-If-clause-ended t c = λ v views.
    let at_other = c.in_ok-told-in-If.ensures.grows.views v views in
    let at_one = c.in_ok-other-in-If.ensures.grows.views v at_other in
    let at_c = c.in_ok-one-in-If.ensures.grows.views v at_one in
    rw (
      mirror_if v.leaves.scene c.args.s.now c.in-If.condition c.in-If.first c.in-If.second c.get.result.now c.get-in-If.result.now c.in-If.is c.get.ensures c.get-in-If.ensures,
      c.in_ok-told-in-If.ensures.ended v views,
      c.in_ok-one-in-If.ensures.inside v at_one,
      c.in_ok-one-in-If.ensures.ended v at_one,
      c.in_ok-other-in-If.ensures.ended v at_other,
      c.in_ok-one-in-If.ensures.marks,
    ) refl

pub terms_of-returns-in_ok-told-in-If-clause-ends : goal.terms_of-returns-in_ok-told-in-If-clause-ends
terms_of-returns-in_ok-told-in-If-clause-ends t c = λ v views.
    let at_other = c.in_ok-told-in-If.ensures.grows.views v views in
    let at_one = c.in_ok-other-in-If.ensures.grows.views v at_other in
    let at_c = c.in_ok-one-in-If.ensures.grows.views v at_one in
    rw (
      mirror_if v.leaves.scene c.args.s.now c.in-If.condition c.in-If.first c.in-If.second c.get.result.now c.get-in-If.result.now c.in-If.is c.get.ensures c.get-in-If.ensures,
      c.in_ok-told-in-If.ensures.ends v views,
      c.in_ok-c-in-If.ensures.means v at_c,
      c.in_ok-one-in-If.ensures.ends v at_one,
      c.in_ok-other-in-If.ensures.ends v at_other,
      c.in_ok-one-in-If.ensures.marks,
    ) refl

pub terms_at_once-returns-clause-inside : goal.terms_at_once-returns-clause-inside
terms_at_once-returns-clause-inside t c = λ v views. c.in_ok-all.ensures.inside v (c.in_ok-ended.ensures.grows.views v views)

pub terms_at_once-returns-clause-ends : goal.terms_at_once-returns-clause-ends
terms_at_once-returns-clause-ends t c = λ v views. c.in_ok-all.ensures.ends v (c.in_ok-ended.ensures.grows.views v views)
