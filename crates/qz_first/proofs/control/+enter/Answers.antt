use Rattle.std.proofs.Common.{◌∙◌}
use Rattle.qz_first.proofs.Declaring.{still_has, rests_stay}
use Rattle.qz_first.proofs.Growing.{through}
use Rattle.qz_first.proofs.Walks.{member_below, enter_step, at_once_step}
use Rattle.qz_first.proofs.control.+enter.Goals as goal

pub enter_loop-returns-clause-extends : goal.enter_loop-returns-clause-extends
enter_loop-returns-clause-extends t c = through _ _ _ c.in_ok-enter.ensures.extends c.constant.ensures.extends

pub enter_loop-returns-clause-means : goal.enter_loop-returns-clause-means
enter_loop-returns-clause-means t c = λ nets reads.
    c.in_ok-enter.ensures.means nets (c.constant.ensures.extends.reads nets reads)

pub enter_first-loop-part-preserved : goal.enter_first-loop-part-preserved
enter_first-loop-part-preserved t c = record {
  extends = through _ _ _ c.loop-part.invariant.extends
      (through _ _ _ c.in_ok-part_ends.ensures.extends (through _ _ _ c.and.ensures.extends c.and-in-loop-part.ensures.extends));
  ends = λ nets reads.
      let at_start = c.and-in-loop-part.ensures.extends.reads nets reads in
      let at_surface = c.and.ensures.extends.reads nets at_start in
      at_once_step c.args.parts.now c.loop-part.part-index c.part-item.result c.loop-part-test.true c.part-item.is _ _ _
      (c.in_ok-part_ends.ensures.ends nets at_surface) (c.in_ok-ends-2.ensures.means nets reads)
      ∙ c.loop-part.invariant.ends nets (c.in_ok-part_ends.ensures.extends.reads nets at_surface);
  rest = λ nets reads.
      let at_start = c.and-in-loop-part.ensures.extends.reads nets reads in
      let at_surface = c.and.ensures.extends.reads nets at_start in
      enter_step c.args.parts.now c.loop-part.part-index c.part-item.result c.loop-part-test.true c.part-item.is _ _ _ _ _
      (c.in_ok-part_ends.ensures.means nets at_surface) (c.in_ok-part_ends.ensures.ends nets at_surface) (c.in_ok-start.ensures.means nets at_start)
      ∙ c.loop-part.invariant.rest nets (c.in_ok-part_ends.ensures.extends.reads nets at_surface);
  declares = λ registers below has rests.
      let before = c.loop-part.invariant.declares registers below has rests in
      let entered = c.in_ok-part_ends.ensures.declares registers
      (member_below c.args.parts.now c.loop-part.part-index c.part-item.result c.loop-part-test.true c.part-item.is registers below) before.1 before.0 in
      let start = c.in_ok-start.ensures.declares registers entered.0.sound
      (still_has registers _ _ _ c.in_ok-part_ends.ensures.extends before.1) entered.1 in
      let ends = c.in_ok-ends-2.ensures.declares registers start.sound
      (still_has registers _ _ _ (through _ _ _ c.in_ok-part_ends.ensures.extends c.and.ensures.extends) before.2)
      (still_has registers _ _ _ c.and.ensures.extends entered.1) in (
        rests_stay registers _ _ (through _ _ _ c.and.ensures.extends c.and-in-loop-part.ensures.extends) ends.sound _ entered.0,
        still_has registers _ _ _ c.and-in-loop-part.ensures.extends start.has,
        ends.has,
      );
}
