use Rattle.std.proofs.Common.{refl, ◌∙◌}
use Rattle.qz_values.specs.Knowledge.{either}
use Rattle.qz_control.specs.Circuits.{Means, Grows, known}
use Rattle.qz_control.specs.Mirror.{mirror_of}
use Rattle.qz_control.proofs.Choosing.{both_ok, inside_choice}
use Rattle.qz_control.proofs.Growing.{through}
use Rattle.qz_control.proofs.Members.{inside_step}
use Rattle.qz_control.proofs.resting.+inside.Goals as goal

pub inside_any-loop-part-preserved : goal.inside_any-loop-part-preserved
inside_any-loop-part-preserved t c = record {
  grows = through _ _ _ c.loop-part.invariant.grows (through _ _ _ c.in_ok-here.ensures.grows c.in_ok-so_far-2.ensures.grows);
  ty = c.in_ok-so_far-2.ensures.ty;
  rest = λ v views.
      let at_or = c.in_ok-so_far-2.ensures.grows.views v views in
      inside_step c.args.parts.now c.loop-part.part-index c.part-item.result c.loop-part-test.true c.part-item.is v.leaves.scene v.leaves.at _ _ _
      (c.in_ok-here.ensures.means v at_or) (c.in_ok-so_far-2.ensures.means v views)
      ∙ c.loop-part.invariant.rest v (c.in_ok-here.ensures.grows.views v at_or);
}

pub inside_or_held-returns-clause-means : goal.inside_or_held-returns-clause-means
inside_or_held-returns-clause-means t c = λ v views.
    let at_body = c.in_ok-id.ensures.grows.views v views in
    rw (
      c.in_ok-id.ensures.means v views,
      c.in_ok-in_body.ensures.means v at_body,
      c.in_ok-held.ensures.means v (c.in_ok-in_body.ensures.grows.views v at_body),
    ) refl

pub inside-returns-in_ok-in_second-in-If-clause-means : goal.inside-returns-in_ok-in_second-in-If-clause-means
inside-returns-in_ok-in_second-in-If-clause-means t c =
    both_ok c.or.result
    (λ id. Means c.or.new.self id (λ v. either (known v c.in_ok-in_first-in-If.in_first) (known v c.in_ok-in_second-in-If.in_second)))
    (Grows c.inside-in-If.new.circuit c.or.new.self)
    (λ id. Means c.or.new.self id (λ v. (mirror_of v.leaves.scene c.args.s.now).inside v.leaves.at))
    c.or.ensures.means c.or.ensures.grows
    (λ id means grows v views.
    let at_second = grows.views v views in
    inside_choice v.leaves.scene c.args.s.now c.in-If.field-0 c.in-If.first c.in-If.second c.get.result.now c.get-in-If.result.now v.leaves.at
    (known v id) (known v c.in_ok-in_first-in-If.in_first) (known v c.in_ok-in_second-in-If.in_second) c.in-If.is c.get.ensures c.get-in-If.ensures
    (means v views) (c.in_ok-in_first-in-If.ensures.means v (c.in_ok-in_second-in-If.ensures.grows.views v at_second))
    (c.in_ok-in_second-in-If.ensures.means v at_second))
