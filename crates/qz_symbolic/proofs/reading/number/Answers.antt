use Rattle.std.proofs.Common.{◌≡◌, ◌+◌, ◌-◌, ◌<◌, ℕ, drop, length, get_or, false, ap, arith, length-drop}
use Rattle.std.proofs.lemmas.List.{get_or_default}
use Rattle.qz_rails.proofs.BitNumbers.{digit_small}
use Rattle.qz_symbolic.specs.Spelling.{spelled_number}
use Rattle.qz_symbolic.proofs.ReadBack.{more_number, number_below, bit_digit}
use Rattle.qz_symbolic.proofs.reading.number.Goals as goal

pub overflow_mul-number : goal.overflow_mul-number
overflow_mul-number c =
    let test = c.loop-left-test.true in
    let within = c.loop-left.invariant.within in
    let short = c.requires.short in
    let is = c.loop-left.invariant.number in
    let small = number_below c.args.bits.now (drop c.loop-left.left c.args.variables.now) 63 (let long = length-drop c.loop-left.left c.args.variables.now in omega (arith, long, test, within, short)) in
    omega (arith, is, small)

pub overflow_add-number : goal.overflow_add-number
overflow_add-number c =
    let test = c.loop-left-test.true in
    let within = c.loop-left.invariant.within in
    let short = c.requires.short in
    let is = c.loop-left.invariant.number in
    let small = number_below c.args.bits.now (drop c.loop-left.left c.args.variables.now) 63 (let long = length-drop c.loop-left.left c.args.variables.now in omega (arith, long, test, within, short)) in
    let e = bit_digit (get_or c.args.bits.now (get_or c.args.variables.now (c.loop-left.left - 1) 0) false) in
    let d = digit_small (get_or c.args.bits.now (get_or c.args.variables.now (c.loop-left.left - 1) 0) false) in
    omega (arith, is, small, e, d)

pub loop-left-preserved : goal.loop-left-preserved
loop-left-preserved c =
    let test = c.loop-left-test.true in
    let within = c.loop-left.invariant.within in
    record {
      within = omega (arith, within);
      number =
          let below : c.loop-left.left - 1 < length c.args.variables.now = omega (arith, test, within) in
          let next : c.loop-left.left - 1 + 1 ≡ c.loop-left.left = omega (arith, test) in
          let variable : ℕ = get_or c.args.variables.now (c.loop-left.left - 1) 0 in
          let e = bit_digit (get_or c.args.bits.now (get_or c.args.variables.now (c.loop-left.left - 1) 0) false) in
          let is = c.loop-left.invariant.number in
          let step = more_number c.args.bits.now c.args.variables.now (c.loop-left.left - 1) (get_or c.args.variables.now (c.loop-left.left - 1) 0) below
          (get_or_default c.args.variables.now (c.loop-left.left - 1) 0 (get_or c.args.variables.now (c.loop-left.left - 1) 0) below) in
          let same : spelled_number c.args.bits.now (drop (c.loop-left.left - 1 + 1) c.args.variables.now) ≡ spelled_number c.args.bits.now (drop c.loop-left.left c.args.variables.now) =
          ap (λ k. spelled_number c.args.bits.now (drop k c.args.variables.now)) next in
          omega (arith, e, is, step, same);
    }
