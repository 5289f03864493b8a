use Rattle.std.proofs.Common.{◌∙◌, ◌+◌, get_or, take, ap, arith}
use Rattle.qz_symbolic.specs.Positions.{bit_size}
use Rattle.qz_symbolic.proofs.OwnSpots.{input_wide, input_small, input_bits, input_after}
use Rattle.qz_symbolic.proofs.variables.input_variables.Goals as goal

pub take_each-requires-clause-long : goal.take_each-requires-clause-long
take_each-requires-clause-long c =
    let most = input_wide c.args.parts.now c.requires.parts c.args.n c.args.ty c.requires.input in
    let long = c.requires.next.long in
    omega (arith, most, long, c.width.ensures)

pub take_each-requires-clause-small : goal.take_each-requires-clause-small
take_each-requires-clause-small c = λ j below.
    input_small c.args.parts.now c.requires.parts c.args.n c.args.ty c.requires.input c.args.next.now c.requires.next j (omega (arith, below, c.width.ensures))

pub returns-clause-input : goal.returns-clause-input
returns-clause-input c = record {
  bits =
      let most = input_wide c.args.parts.now c.requires.parts c.args.n c.args.ty c.requires.input in
      let long = c.requires.next.long in
      input_bits c.args.parts.now c.requires.parts c.args.n c.args.ty c.requires.input c.args.next.now c.requires.next
      c.in_ok-bits.bits.items (omega (arith, most, long)) (c.in_ok-bits.ensures.bits ∙ ap (λ w. take w c.args.next.now) c.width.ensures);
}

pub returns-clause-next : goal.returns-clause-next
returns-clause-next c =
    input_after c.args.parts.now c.requires.parts c.args.n c.args.ty c.requires.input c.args.next.now c.requires.next
    c.take_each.new.next c.take_each.auto.next
    (λ j below. c.in_ok-bits.ensures.next j below ∙ ap (λ w. get_or c.args.next.now j 0 + bit_size w j) c.width.ensures)
