use Rattle.std.proofs.Common.{◌∙◌}
use Rattle.qz_first.proofs.Declaring.{still_has, writes_stay}
use Rattle.qz_first.proofs.Growing.{through}
use Rattle.qz_first.proofs.Walks.{start_step, at_once_step}
use Rattle.qz_first.proofs.surface.+surface.Goals as goal

pub surface_of_loop-returns-clause-extends : goal.surface_of_loop-returns-clause-extends
surface_of_loop-returns-clause-extends t c = through _ _ _ c.in_ok-surface.ensures.extends c.constant.ensures.extends

pub surface_of_loop-returns-clause-means : goal.surface_of_loop-returns-clause-means
surface_of_loop-returns-clause-means t c = λ nets reads.
    c.in_ok-surface.ensures.means nets (c.constant.ensures.extends.reads nets reads)

pub surface_of_all-loop-part-preserved : goal.surface_of_all-loop-part-preserved
surface_of_all-loop-part-preserved t c = record {
  extends = through _ _ _ c.loop-part.invariant.extends
      (through _ _ _ c.in_ok-part_ends.ensures.extends (through _ _ _ c.and.ensures.extends c.and-in-loop-part.ensures.extends));
  ends = λ nets reads.
      let at_start = c.and-in-loop-part.ensures.extends.reads nets reads in
      let at_surface = c.and.ensures.extends.reads nets at_start in
      at_once_step c.args.parts.now c.loop-part.part-index c.part-item.result c.loop-part-test.true c.part-item.is _ _ _
      (c.in_ok-part_ends.ensures.ends nets at_surface) (c.in_ok-ends-2.ensures.means nets reads)
      ∙ c.loop-part.invariant.ends nets (c.in_ok-part_ends.ensures.extends.reads nets at_surface);
  rest = λ nets reads.
      let at_start = c.and-in-loop-part.ensures.extends.reads nets reads in
      let at_surface = c.and.ensures.extends.reads nets at_start in
      start_step c.args.parts.now c.loop-part.part-index c.part-item.result c.loop-part-test.true c.part-item.is _ _ _ _ _
      (c.in_ok-part_ends.ensures.means nets at_surface) (c.in_ok-part_ends.ensures.ends nets at_surface) (c.in_ok-start.ensures.means nets at_start)
      ∙ c.loop-part.invariant.rest nets (c.in_ok-part_ends.ensures.extends.reads nets at_surface);
  declares = λ registers has writes.
      let before = c.loop-part.invariant.declares registers has writes in
      let written = c.in_ok-part_ends.ensures.declares registers before.1 before.0 in
      let start = c.in_ok-start.ensures.declares registers written.0.sound
      (still_has registers _ _ _ c.in_ok-part_ends.ensures.extends before.1) written.1 in
      let ends = c.in_ok-ends-2.ensures.declares registers start.sound
      (still_has registers _ _ _ (through _ _ _ c.in_ok-part_ends.ensures.extends c.and.ensures.extends) before.2)
      (still_has registers _ _ _ c.and.ensures.extends written.1) in (
        writes_stay registers _ _ (through _ _ _ c.and.ensures.extends c.and-in-loop-part.ensures.extends) ends.sound _ written.0,
        still_has registers _ _ _ c.and-in-loop-part.ensures.extends start.has,
        ends.has,
      );
}
