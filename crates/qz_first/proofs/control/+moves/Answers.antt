use Rattle.std.proofs.Common.{◌∙◌, ap, ◌&&◌, not}
use Rattle.qz_first.proofs.Declaring.{still_has, rests_stay}
use Rattle.qz_first.proofs.Walks.{member_below, ended_by, ended_step, move_step, appended_again}
use Rattle.qz_first.specs.Mirror.{mirror_of, bit_of}
use Rattle.qz_first.proofs.Growing.{through}
use Rattle.qz_first.proofs.control.+moves.Goals as goal

pub moves_on-loop-part-preserved : goal.moves_on-loop-part-preserved
moves_on-loop-part-preserved t c = record {
  extends = through _ _ _ c.loop-part.invariant.extends
      (through _ _ _ c.in_ok-resumed.ensures.extends (through _ _ _ c.in_ok-at_once.ensures.extends c.in_ok-so_far-2.ensures.extends));
  ends = λ nets reads.
      let at_enter = c.in_ok-so_far-2.ensures.extends.reads nets reads in
      let at_moves = c.in_ok-at_once.ensures.extends.reads nets at_enter in
      ended_step c.args.parts.now c.loop-part.part-index c.part-item.result c.loop-part-test.true c.part-item.is nets.registers _ _
      (ended_by c.part-item.result nets.registers _ _ _ _ (c.in_ok-at_once.ensures.ends nets at_enter) (c.in_ok-resumed.ensures.ends nets at_moves)
      (c.in_ok-so_far-2.ensures.means nets reads))
      ∙ c.loop-part.invariant.ends nets (c.in_ok-resumed.ensures.extends.reads nets at_moves);
  rest = λ nets reads.
      let at_enter = c.in_ok-so_far-2.ensures.extends.reads nets reads in
      let at_moves = c.in_ok-at_once.ensures.extends.reads nets at_enter in
      move_step c.args.parts.now c.loop-part.part-index c.part-item.result c.loop-part-test.true c.part-item.is nets.registers _ _ _ _ _
      (c.in_ok-resumed.ensures.means nets at_moves) (c.in_ok-at_once.ensures.means nets at_enter)
      (ended_by c.part-item.result nets.registers _ _ _ _ (c.in_ok-at_once.ensures.ends nets at_enter) (c.in_ok-resumed.ensures.ends nets at_moves)
      (c.in_ok-so_far-2.ensures.means nets reads))
      ∙ c.loop-part.invariant.rest nets (c.in_ok-resumed.ensures.extends.reads nets at_moves);
  declares = λ registers below rests.
      let before = c.loop-part.invariant.declares registers below rests in
      let here = member_below c.args.parts.now c.loop-part.part-index c.part-item.result c.loop-part-test.true c.part-item.is registers below in
      let moved = c.in_ok-resumed.ensures.declares registers here before.0 in
      let so_far = still_has registers _ _ _ c.in_ok-resumed.ensures.extends before.1 in
      let entered = c.in_ok-at_once.ensures.declares registers here so_far moved.0 in
      let ends = c.in_ok-so_far-2.ensures.declares registers entered.0.sound (still_has registers _ _ _ c.in_ok-at_once.ensures.extends so_far)
      entered.1 (still_has registers _ _ _ c.in_ok-at_once.ensures.extends moved.1) in
      (rests_stay registers _ _ c.in_ok-so_far-2.ensures.extends ends.sound _ entered.0, ends.has);
}

pub moves_round-returns-clause-extends : goal.moves_round-returns-clause-extends
moves_round-returns-clause-extends t c =
    through _ _ _ c.in_ok-body_ends.ensures.extends
    (through _ _ _ c.in_ok-turns.ensures.extends (through _ _ _ c.in_ok-enter.ensures.extends c.in_ok-ends.ensures.extends))

pub moves_round-returns-clause-ends : goal.moves_round-returns-clause-ends
moves_round-returns-clause-ends t c = λ nets reads.
    let at_turns = c.in_ok-enter.ensures.extends.reads nets (c.in_ok-ends.ensures.extends.reads nets reads) in
    let at_moves = c.in_ok-turns.ensures.extends.reads nets at_turns in
    c.in_ok-ends.ensures.means nets reads
    ∙ ap (λ b. b && not (bit_of c.args.condition.now)) (c.in_ok-body_ends.ensures.ends nets at_moves)

pub moves_round-returns-clause-means : goal.moves_round-returns-clause-means
moves_round-returns-clause-means t c = λ nets reads.
    let at_enter = c.in_ok-ends.ensures.extends.reads nets reads in
    let at_turns = c.in_ok-enter.ensures.extends.reads nets at_enter in
    let at_moves = c.in_ok-turns.ensures.extends.reads nets at_turns in
    let turns = c.in_ok-turns.ensures.means nets at_turns in
    let ends = c.in_ok-body_ends.ensures.ends nets at_moves in
    appended_again _ _ _ _ (mirror_of c.args.body.now).enter _ _
    (c.in_ok-body_ends.ensures.means nets at_moves) (c.in_ok-enter.ensures.means nets at_enter)
    (turns ∙ ap (λ b. b && bit_of c.args.condition.now) ends)

pub moves_round-returns-clause-declares : goal.moves_round-returns-clause-declares
moves_round-returns-clause-declares t c = λ registers below rests.
    let moved = c.in_ok-body_ends.ensures.declares registers below rests in
    let turns = c.in_ok-turns.ensures.declares registers moved.0.sound moved.1 in
    let entered = c.in_ok-enter.ensures.declares registers below turns.has (rests_stay registers _ _ c.in_ok-turns.ensures.extends turns.sound _ moved.0) in
    let ends = c.in_ok-ends.ensures.declares registers entered.0.sound
    (still_has registers _ _ _ (through _ _ _ c.in_ok-turns.ensures.extends c.in_ok-enter.ensures.extends) moved.1) in
    (rests_stay registers _ _ c.in_ok-ends.ensures.extends ends.sound _ entered.0, ends.has)
