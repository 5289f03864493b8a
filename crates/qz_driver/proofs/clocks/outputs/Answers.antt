use Rattle.std.proofs.Common.{◌≡◌, ℕ, suc, ◌+◌, ◌*◌, ◌-◌, List, [], length, sym, ap, subst, ◌∙◌, arith}
use Rattle.std.specs.List.{AllByRecursion}
use Rattle.std.proofs.lemmas.List.{length-append}
use Rattle.qz_values.specs.declared.Value.{Value}
use Rattle.qz_verilog.specs.declared.modules.VModule.{VModule}
use Rattle.qz_verilog.specs.Validity.{port_types}
use Rattle.qz_verilog.specs.Simulation.{row_of}
use Rattle.qz_verilog.specs.Runs.{IsRow as IsInputs, IsClock}
use Rattle.qz_trace.specs.Rows.{IsRow, rows_of, rows_in}
use Rattle.qz_trace.proofs.RowLemmas.{times_suc, times_one_more}
use Rattle.qz_driver.proofs.ClockLemmas.{Ran, row_fits, ran_none, ran_step, ran_all}
use Rattle.qz_driver.proofs.clocks.outputs.Goals as goal

pub loop-init : goal.loop-init
loop-init c =
    let rows = c.args.rows.now in
    let all : rows.steps - 0 ≡ rows.steps = omega arith in
    let ins = port_types c.args.circuit.inputs in
    let rest = c.as_slice-rest.result.now in
    let is : rest ≡ rows.values.items = c.as_slice-rest.ensures.value in
    let made = c.in_ok-sim.ensures in
    record {
      left = ap length is ∙ (c.requires.rows.whole ∙ ap (λ n. rows.width * n) (sym all));
      held = grind (arith, c.new-values.ensures.items);
      room = c.as_mut_slice-row.ensures.len ∙ c.in_ok-held.ensures.len;
      same = ap (λ s. s.circuit) made;
      each = subst (λ (l : List ℕ). AllByRecursion (IsRow ins) (rows_of rows.width (rows.steps - 0) l)) (sym is)
          (subst (λ (n : ℕ). AllByRecursion (IsRow ins) (rows_of rows.width n rows.values.items)) (sym all) c.requires.rows.each);
      ran =
          subst (λ (registers : List Value). Ran c.args.circuit (rows_in rows) (rows_of rows.width (rows.steps - 0) rest) registers []) (sym (ap (λ s. s.registers) made))
          (subst (λ (l : List ℕ). Ran c.args.circuit (rows_in rows) (rows_of rows.width (rows.steps - 0) l) c.args.circuit.regs []) (sym is)
          (subst (λ (n : ℕ). Ran c.args.circuit (rows_in rows) (rows_of rows.width n rows.values.items) c.args.circuit.regs []) (sym all)
          (ran_none c.args.circuit (rows_in rows))));
    }

pub clock-requires-clause-inputs_fit : goal.clock-requires-clause-inputs_fit
clock-requires-clause-inputs_fit c =
    let rows = c.args.rows.now in
    let ins = port_types c.args.circuit.inputs in
    let k = rows.steps - (c.loop.counter + 1) in
    let less : rows.steps - c.loop.counter ≡ suc k = omega (arith, c.loop-test.true) in
    let each : AllByRecursion (IsRow ins) (rows_of rows.width (suc k) c.loop.rest.now) =
    subst (λ (n : ℕ). AllByRecursion (IsRow ins) (rows_of rows.width n c.loop.rest.now)) less c.loop.invariant.each in
    let fits : IsRow ins c.split_at.result.0.now = subst (IsRow ins) (sym c.split_at.ensures.front) each.0 in
    subst (λ (m : VModule). IsInputs m (row_of (port_types m.inputs) c.split_at.result.0.now)) (sym c.loop.invariant.same) (row_fits ins c.split_at.result.0.now fits)

pub loop-preserved : goal.loop-preserved
loop-preserved c =
    let rows = c.args.rows.now in
    let w = rows.width in
    let width = c.len-width.result in
    let circuit : VModule = c.args.circuit in
    let ins = port_types circuit.inputs in
    let done = c.loop.counter in
    let k = rows.steps - (done + 1) in
    let less : rows.steps - done ≡ suc k = omega (arith, c.loop-test.true) in
    let rest = c.loop.rest.now in
    let values = c.loop.values.items in
    let out = c.clock.new.outputs in
    let s = c.split_at.ensures in
    let left = c.loop.invariant.left ∙ (ap (λ n. w * n) less ∙ times_suc w k) in
    let back = s.back_len in
    let joined = c.in_ok-extend_from_slice.ensures.items in
    let more : AllByRecursion (IsRow ins) (rows_of w (suc k) rest) =
    subst (λ (n : ℕ). AllByRecursion (IsRow ins) (rows_of w n rest)) less c.loop.invariant.each in
    let ran : Ran circuit (rows_in rows) (rows_of w (suc k) rest) c.loop.sim.registers (rows_of width done values) =
    subst (λ (n : ℕ). Ran circuit (rows_in rows) (rows_of w n rest) c.loop.sim.registers (rows_of width done values)) less c.loop.invariant.ran in
    let clock : IsClock circuit c.loop.sim.registers (row_of ins c.split_at.result.0.now) (row_of (port_types circuit.outputs) out) c.clock.new.self.registers =
    subst (λ (m : VModule). IsClock m c.loop.sim.registers (row_of (port_types m.inputs) c.split_at.result.0.now) (row_of (port_types m.outputs) out) c.clock.new.self.registers)
    c.loop.invariant.same c.clock.ensures.clock in
    let size : length out ≡ width = c.clock.auto.outputs ∙ c.loop.invariant.room in
    let one : done + 1 ≡ suc done = omega arith in
    let product = times_one_more width done in
    let held = c.loop.invariant.held in
    record {
      left = omega (arith, left, back);
      held = ap length joined ∙ (length-append values out ∙ omega (arith, held, size, product));
      room = size;
      same = c.clock.ensures.circuit ∙ c.loop.invariant.same;
      each = subst (λ (l : List ℕ). AllByRecursion (IsRow ins) (rows_of w k l)) (sym s.back) more.1;
      ran = subst (λ (n : ℕ). Ran circuit (rows_in rows) (rows_of w k c.split_at.result.1.now) c.clock.new.self.registers (rows_of width n c.extend_from_slice.new.self.items)) (sym one)
          (ran_step circuit w width done k (rows_in rows) rest values c.split_at.result.0.now out c.split_at.result.1.now c.extend_from_slice.new.self.items c.loop.sim.registers c.clock.new.self.registers
          ran s.front s.back joined held size clock);
    }

pub returns : goal.returns
returns c =
    let rows = c.args.rows.now in
    let circuit : VModule = c.args.circuit in
    let none : rows.steps - c.loop.counter ≡ 0 = omega (arith, c.loop-test.false) in
    let all : c.loop.counter ≡ rows.steps = omega (arith, c.loop-test.false, c.loop.auto.counter-end) in
    let P : ℕ → Type 0 = λ n. Ran circuit (rows_in rows) (rows_of rows.width n c.loop.rest.now) c.loop.sim.registers (rows_of c.len-width.result c.loop.counter c.loop.values.items) in
    let ran : Ran circuit (rows_in rows) [] c.loop.sim.registers (rows_of c.len-width.result c.loop.counter c.loop.values.items) = subst P none c.loop.invariant.ran in
    let Q : ℕ → Type 0 = λ n. Ran circuit (rows_in rows) [] c.loop.sim.registers (rows_of c.len-width.result n c.loop.values.items) in
    record {
      width = c.len-width.ensures;
      whole = c.loop.invariant.held ∙ ap (λ n. c.len-width.result * n) all;
      run = ran_all circuit (rows_in rows) (rows_of c.len-width.result rows.steps c.loop.values.items) c.loop.sim.registers (subst Q all ran);
    }
