use Rattle.std.proofs.Common.{◌∙◌, ◌+◌, get_or, take, ap, refl, arith}
use Rattle.std.specs.Prelude.{slice_set, slice_get, slice_index_or}
use Rattle.std.proofs.lemmas.List.{length-set}
use Rattle.qz_symbolic.proofs.OwnSpots.{marked, mark_there, cell_wide, cell_within, cell_small, cell_bits, cell_after}
use Rattle.qz_symbolic.specs.Variables.{spots}
use Rattle.qz_symbolic.specs.Positions.{bit_size}
use Rattle.qz_symbolic.proofs.Spots.{cell_start_small}
use Rattle.qz_symbolic.proofs.variables.cell_variables.Goals as goal

pub overflow_add-next : goal.overflow_add-next
overflow_add-next c =
    let within = cell_within c.args.parts.now c.args.n c.args.ty c.requires.cell in
    let small = cell_start_small c.args.parts.now c.requires.parts 0 c.args.n (omega arith) (omega arith) in
    let at = c.requires.next.each 0 (omega arith) in
    omega (arith, small, at)

pub take_each-requires-clause-long : goal.take_each-requires-clause-long
take_each-requires-clause-long c =
    let most = cell_wide c.args.parts.now c.requires.parts c.args.n c.args.ty c.requires.cell in
    let same = length-set c.args.next.now 0 (slice_index_or c.args.next.now 0 0 + 1) in
    let long = c.requires.next.long in
    omega (arith, most, same, long, c.width.ensures)

pub take_each-requires-clause-small : goal.take_each-requires-clause-small
take_each-requires-clause-small c = λ j below.
    cell_small c.args.parts.now c.requires.parts c.args.n c.args.ty c.requires.cell
    (slice_set c.args.next.now 0 (slice_index_or c.args.next.now 0 0 + 1))
    (marked c.args.parts.now c.args.n c.args.next.now (slice_set c.args.next.now 0 (slice_index_or c.args.next.now 0 0 + 1)) c.requires.next refl)
    j (omega (arith, below, c.width.ensures))

pub returns-clause-cell : goal.returns-clause-cell
returns-clause-cell c = record {
  mark = ap (slice_get (spots c.args.parts.now)) (c.requires.next.each 0 (omega arith)) ∙ mark_there c.args.parts.now c.requires.parts c.args.n c.args.ty c.requires.cell;
  bits =
      let most = cell_wide c.args.parts.now c.requires.parts c.args.n c.args.ty c.requires.cell in
      let same = length-set c.args.next.now 0 (slice_index_or c.args.next.now 0 0 + 1) in
      let long = c.requires.next.long in
      cell_bits c.args.parts.now c.requires.parts c.args.n c.args.ty c.requires.cell
      (slice_set c.args.next.now 0 (slice_index_or c.args.next.now 0 0 + 1))
      (marked c.args.parts.now c.args.n c.args.next.now (slice_set c.args.next.now 0 (slice_index_or c.args.next.now 0 0 + 1)) c.requires.next refl)
      c.in_ok-bits.bits.items (omega (arith, most, same, long))
      (c.in_ok-bits.ensures.bits ∙ ap (λ w. take w (slice_set c.args.next.now 0 (slice_index_or c.args.next.now 0 0 + 1))) c.width.ensures);
}

pub returns-clause-next : goal.returns-clause-next
returns-clause-next c =
    let same = length-set c.args.next.now 0 (slice_index_or c.args.next.now 0 0 + 1) in
    let long = c.requires.next.long in
    cell_after c.args.parts.now c.requires.parts c.args.n c.args.ty c.requires.cell
    (slice_set c.args.next.now 0 (slice_index_or c.args.next.now 0 0 + 1))
    (marked c.args.parts.now c.args.n c.args.next.now (slice_set c.args.next.now 0 (slice_index_or c.args.next.now 0 0 + 1)) c.requires.next refl)
    c.take_each.new.next (omega (arith, same, long)) c.take_each.auto.next
    (λ j below. c.in_ok-bits.ensures.next j below ∙ ap (λ w. get_or (slice_set c.args.next.now 0 (slice_index_or c.args.next.now 0 0 + 1)) j 0 + bit_size w j) c.width.ensures)
