use Rattle.std.proofs.Common.{◌∙◌, ap, ◌&&◌, not}
use Rattle.qz_first.proofs.Declaring.{still_has, writes_stay}
use Rattle.qz_first.proofs.Walks.{member_below, ended_by, ended_step, resume_step, appended_again}
use Rattle.qz_first.specs.BitNets.{bit_at}
use Rattle.qz_first.specs.Mirror.{mirror_of, bit_of}
use Rattle.qz_first.proofs.Growing.{through}
use Rattle.qz_first.proofs.depth.+depth.Goals as goal

pub depth_of_all-loop-part-preserved : goal.depth_of_all-loop-part-preserved
depth_of_all-loop-part-preserved t c = record {
  extends = through _ _ _ c.loop-part.invariant.extends
      (through _ _ _ c.in_ok-resumed.ensures.extends
      (through _ _ _ c.and.ensures.extends (through _ _ _ c.in_ok-at_once.ensures.extends c.in_ok-so_far-2.ensures.extends)));
  ends = λ nets reads.
      let at_surface = c.in_ok-so_far-2.ensures.extends.reads nets reads in
      let at_depth = c.and.ensures.extends.reads nets (c.in_ok-at_once.ensures.extends.reads nets at_surface) in
      ended_step c.args.parts.now c.loop-part.part-index c.part-item.result c.loop-part-test.true c.part-item.is nets.registers _ _
      (ended_by c.part-item.result nets.registers _ _ _ _ (c.in_ok-at_once.ensures.ends nets at_surface) (c.in_ok-resumed.ensures.ends nets at_depth)
      (c.in_ok-so_far-2.ensures.means nets reads))
      ∙ c.loop-part.invariant.ends nets (c.in_ok-resumed.ensures.extends.reads nets at_depth);
  rest = λ nets reads.
      let at_surface = c.in_ok-so_far-2.ensures.extends.reads nets reads in
      let at_start = c.in_ok-at_once.ensures.extends.reads nets at_surface in
      let at_depth = c.and.ensures.extends.reads nets at_start in
      resume_step c.args.parts.now c.loop-part.part-index c.part-item.result c.loop-part-test.true c.part-item.is nets.registers _ _ _ _ _ _ _
      (c.in_ok-resumed.ensures.means nets at_depth) (c.in_ok-start.ensures.means nets at_start) (c.in_ok-at_once.ensures.means nets at_surface)
      (ended_by c.part-item.result nets.registers _ _ _ _ (c.in_ok-at_once.ensures.ends nets at_surface) (c.in_ok-resumed.ensures.ends nets at_depth)
      (c.in_ok-so_far-2.ensures.means nets reads))
      ∙ c.loop-part.invariant.rest nets (c.in_ok-resumed.ensures.extends.reads nets at_depth);
  declares = λ registers below has writes.
      let before = c.loop-part.invariant.declares registers below has writes in
      let here = member_below c.args.parts.now c.loop-part.part-index c.part-item.result c.loop-part-test.true c.part-item.is registers below in
      let act = still_has registers _ _ _ c.loop-part.invariant.extends has in
      let resumed = c.in_ok-resumed.ensures.declares registers here act before.0 in
      let start = c.in_ok-start.ensures.declares registers resumed.0.sound (still_has registers _ _ _ c.in_ok-resumed.ensures.extends act)
      (still_has registers _ _ _ c.in_ok-resumed.ensures.extends before.1) in
      let written = c.in_ok-at_once.ensures.declares registers start.has (writes_stay registers _ _ c.and.ensures.extends start.sound _ resumed.0) in
      let ends = c.in_ok-so_far-2.ensures.declares registers written.0.sound
      (still_has registers _ _ _ (through _ _ _ c.in_ok-resumed.ensures.extends (through _ _ _ c.and.ensures.extends c.in_ok-at_once.ensures.extends)) before.1)
      written.1
      (still_has registers _ _ _ (through _ _ _ c.and.ensures.extends c.in_ok-at_once.ensures.extends) resumed.1) in
      (writes_stay registers _ _ c.in_ok-so_far-2.ensures.extends ends.sound _ written.0, ends.has);
}

pub depth_of_loop-returns-clause-extends : goal.depth_of_loop-returns-clause-extends
depth_of_loop-returns-clause-extends t c =
    through _ _ _ c.in_ok-body_ends.ensures.extends
    (through _ _ _ c.in_ok-turns.ensures.extends
    (through _ _ _ c.and.ensures.extends (through _ _ _ c.in_ok-surface.ensures.extends c.in_ok-ends.ensures.extends)))

pub depth_of_loop-returns-clause-ends : goal.depth_of_loop-returns-clause-ends
depth_of_loop-returns-clause-ends t c = λ nets reads.
    let at_again = c.in_ok-surface.ensures.extends.reads nets (c.in_ok-ends.ensures.extends.reads nets reads) in
    let at_depth = c.in_ok-turns.ensures.extends.reads nets (c.and.ensures.extends.reads nets at_again) in
    c.in_ok-ends.ensures.means nets reads
    ∙ ap (λ b. b && not (bit_of c.args.condition.now)) (c.in_ok-body_ends.ensures.ends nets at_depth)

pub depth_of_loop-returns-clause-means : goal.depth_of_loop-returns-clause-means
depth_of_loop-returns-clause-means t c = λ nets reads.
    let at_surface = c.in_ok-ends.ensures.extends.reads nets reads in
    let at_again = c.in_ok-surface.ensures.extends.reads nets at_surface in
    let at_turns = c.and.ensures.extends.reads nets at_again in
    let at_depth = c.in_ok-turns.ensures.extends.reads nets at_turns in
    let again = c.in_ok-again.ensures.means nets at_again in
    let turns = c.in_ok-turns.ensures.means nets at_turns in
    let ends = c.in_ok-body_ends.ensures.ends nets at_depth in
    appended_again _ _ _ _ (mirror_of c.args.body.now).start _ _
    (c.in_ok-body_ends.ensures.means nets at_depth) (c.in_ok-surface.ensures.means nets at_surface)
    (again ∙ ap (λ b. bit_at nets c.args.act && b) (turns ∙ ap (λ b. b && bit_of c.args.condition.now) ends))

pub depth_of_loop-returns-clause-declares : goal.depth_of_loop-returns-clause-declares
depth_of_loop-returns-clause-declares t c = λ registers below has writes.
    let resumed = c.in_ok-body_ends.ensures.declares registers below has writes in
    let turns = c.in_ok-turns.ensures.declares registers resumed.0.sound resumed.1 in
    let again = c.in_ok-again.ensures.declares registers turns.sound
    (still_has registers _ _ _ (through _ _ _ c.in_ok-body_ends.ensures.extends c.in_ok-turns.ensures.extends) has) turns.has in
    let written = c.in_ok-surface.ensures.declares registers again.has
    (writes_stay registers _ _ (through _ _ _ c.in_ok-turns.ensures.extends c.and.ensures.extends) again.sound _ resumed.0) in
    let ends = c.in_ok-ends.ensures.declares registers written.0.sound
    (still_has registers _ _ _ (through _ _ _ c.in_ok-turns.ensures.extends (through _ _ _ c.and.ensures.extends c.in_ok-surface.ensures.extends)) resumed.1) in
    (writes_stay registers _ _ c.in_ok-ends.ensures.extends ends.sound _ written.0, ends.has)
