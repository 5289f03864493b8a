use Rattle.std.proofs.Common.{refl, ap, ◌∙◌}
use Rattle.qz_control.specs.Mirror.{mirror_of}
use Rattle.qz_control.proofs.Growing.{through}
use Rattle.qz_terms.proofs.Steps.{ends_of_all_more}
use Rattle.qz_terms.proofs.Choosing.{mirror_if}
use Rattle.qz_terms.proofs.starting.+ends.Goals as goal

pub ends_all-loop-index-preserved : goal.ends_all-loop-index-preserved
ends_all-loop-index-preserved t c = record {
  grows = through _ _ _ c.loop-index.invariant.grows (through _ _ _ c.in_ok-here.ensures.grows c.in_ok-so_far-2.ensures.grows);
  marks = c.in_ok-here.ensures.marks ∙ c.loop-index.invariant.marks;
  ty = c.in_ok-so_far-2.ensures.ty;
  ends = λ v views.
      let at_here = c.in_ok-so_far-2.ensures.grows.views v views in
      ends_of_all_more c.args.parts.now c.loop-index.index c.member-part.result.now c.member-part.ensures.within c.member-part.ensures.is v.leaves.scene _ _ c.loop-index.invariant.marks
      c.args.m _ _ _ (c.in_ok-here.ensures.means v at_here) (c.in_ok-so_far-2.ensures.means v views)
      ∙ c.loop-index.invariant.ends v (c.in_ok-here.ensures.grows.views v at_here);
}

pub ends_aborted-returns-clause-means : goal.ends_aborted-returns-clause-means
ends_aborted-returns-clause-means t c = λ v views.
    let at_ends = c.in_ok-id.ensures.grows.views v views in
    let at_c = c.in_ok-ends.ensures.grows.views v at_ends in
    rw (c.in_ok-id.ensures.means v views, c.in_ok-c.ensures.means v at_c, c.in_ok-ends.ensures.means v at_ends) refl

pub ends_suspended-returns-clause-means : goal.ends_suspended-returns-clause-means
ends_suspended-returns-clause-means t c = λ v views.
    let at_ends = c.in_ok-id.ensures.grows.views v views in
    let at_c = c.in_ok-ends.ensures.grows.views v at_ends in
    rw (c.in_ok-id.ensures.means v views, c.in_ok-c.ensures.means v at_c, c.in_ok-ends.ensures.means v at_ends) refl

pub ends_scope-returns-clause-means : goal.ends_scope-returns-clause-means
ends_scope-returns-clause-means t c = λ v views.
    c.in_ok-id.ensures.means v views
    ∙ ap (λ ctx. (mirror_of v.leaves.scene c.args.body.now).walk.ends ctx c.args.m) c.in_ok-covered.ensures.entered

pub ends_at_once-returns-in_ok-id-in-If-clause-means : goal.ends_at_once-returns-in_ok-id-in-If-clause-means
ends_at_once-returns-in_ok-id-in-If-clause-means t c = λ v views.
    let at_other = c.in_ok-id-in-If.ensures.grows.views v views in
    let at_one = c.in_ok-other-in-If.ensures.grows.views v at_other in
    let at_c = c.in_ok-one-in-If.ensures.grows.views v at_one in
    rw (
      mirror_if v.leaves.scene c.args.s.now c.in-If.condition c.in-If.first c.in-If.second c.get.result.now c.get-in-If.result.now c.in-If.is c.get.ensures c.get-in-If.ensures,
      c.in_ok-id-in-If.ensures.means v views,
      c.in_ok-c-in-If.ensures.means v at_c,
      c.in_ok-one-in-If.ensures.means v at_one,
      c.in_ok-other-in-If.ensures.means v at_other,
      c.in_ok-one-in-If.ensures.marks,
    ) refl
