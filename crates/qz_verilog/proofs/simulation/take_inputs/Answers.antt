use Rattle.std.proofs.Common.{◌≡◌, ◌<◌, length, get_or, sym, ap, subst, ◌∙◌}
use Rattle.std.proofs.lemmas.Bool.{false≢true}
use Rattle.qz_syntax.specs.declared.declarations.Port.{Port}
use Rattle.qz_values.specs.Values.{value_of, IsValue}
use Rattle.qz_verilog.proofs.Clocking.{IsValue-row_of, row_of-step}
use Rattle.qz_verilog.proofs.simulation.take_inputs.Goals as goal
use Rattle.qz_verilog.proofs.simulation.take_inputs.Goals.{in-Some, in_default}

pub loop-number-preserved : goal.loop-number-preserved
loop-number-preserved c =
    let ports = c.args.ports.now in
    let numbers = c.args.numbers.now in
    let k = c.loop-number.number in
    let d = c.index-ports-number.result in
    let below : k < length ports = c.loop-number-test.true in
    let there : k < length numbers = rw c.requires.count below in
    let room : k < length c.loop-number.values = rw (c.loop-number.auto.values, c.requires.room) below in
    let value = value_of (get_or ports k d).ty (get_or numbers k 0) in
    let of_port : value_of d.ty (get_or numbers k 0) ≡ value = ap (λ (p : Port). value_of p.ty (get_or numbers k 0)) c.index-ports-number.is in
    elim c.match-new.branch [
      | in-Some w ↦
          let is : w.in-Some.value ≡ value = w.in-Some.ensures.value ∙ of_port in
          rw (w.values-is, is) (row_of-step ports numbers c.loop-number.values k d 0 below there room ∙ c.loop-number.invariant)
      | in_default w ↦
          let fits : IsValue value = IsValue-row_of ports numbers c.requires.types c.requires.fit k d 0 below in
          absurd (false≢true (w.in_default.ensures.some.1 (subst IsValue (sym of_port) fits)))
    ]
