use Rattle.std.proofs.Common.{◌≡◌, ◌+◌, List, refl, subst, ◌∙◌, arith}
use Rattle.qz_values.specs.declared.Value.{Value}
use Rattle.qz_syntax.specs.declared.modules.Module.{Module}
use Rattle.qz_syntax.specs.declared.modules.Whole.{Whole}
use Rattle.qz_trace.specs.declared.traces.Trace.{Trace}
use Rattle.qz_meaning.specs.Programs.{Program, program_of}
use Rattle.qz_meaning.specs.Configurations.{Configuration}
use Rattle.qz_interp.specs.Machines.{configuration_of}
use Rattle.qz_interp.specs.declared.steps.StepRefusal.{StepRefusal}
use Rattle.qz_interp.specs.OnlySteps.{IsOnlyStep, IsRefusal}
use Rattle.qz_run.specs.Stepping.{IsStopFor}
use Rattle.qz_run.proofs.FormalLemmas.{inputs_typed}
use Rattle.qz_run.proofs.GoingLemmas.{row_count, going_first, going_on, going_row, going_fits, going_more, going_done, going_stopped, where_it_fits}
use Rattle.qz_run.proofs.runs.run_rows.Goals as goal

pub loop-step-init : goal.loop-step-init
loop-step-init c = record {
  room = c.as_mut_slice-given.ensures.len ∙ c.in_ok-held.ensures.len;
  same = refl;
  going = going_first (program_of c.args.machine.now.whole.module) c.args.types.now c.args.inputs.now c.args.width c.as_slice-rest.result.now c.new-values.result.items (configuration_of c.args.machine.now)
      c.requires.inputs c.requires.types c.as_slice-rest.ensures.value c.new-values.ensures.items c.requires.beginning;
}

pub split_at-requires : goal.split_at-requires
split_at-requires c =
    going_on (program_of c.args.machine.now.whole.module) c.args.types.now c.args.inputs.now c.args.width c.loop-step.step c.loop-step.rest.now c.loop-step.values.items
    (configuration_of c.loop-step.machine) c.loop-step.invariant.going c.loop-step-test.true

pub take_numbers-requires-clause-types : goal.take_numbers-requires-clause-types
take_numbers-requires-clause-types c = inputs_typed c.args.machine.now.whole.module c.args.types.now c.requires.well_formed c.requires.types

pub take_numbers-requires-clause-row : goal.take_numbers-requires-clause-row
take_numbers-requires-clause-row c =
    going_row (program_of c.args.machine.now.whole.module) c.args.types.now c.args.inputs.now c.args.width c.loop-step.step c.loop-step.rest.now c.loop-step.values.items
    (configuration_of c.loop-step.machine) c.loop-step.invariant.going c.loop-step-test.true c.split_at.result.0.now c.split_at.ensures.front

pub take_numbers-requires-clause-count : goal.take_numbers-requires-clause-count
take_numbers-requires-clause-count c =
    row_count c.args.types.now c.split_at.result.0.now
    (going_row (program_of c.args.machine.now.whole.module) c.args.types.now c.args.inputs.now c.args.width c.loop-step.step c.loop-step.rest.now c.loop-step.values.items
    (configuration_of c.loop-step.machine) c.loop-step.invariant.going c.loop-step-test.true c.split_at.result.0.now c.split_at.ensures.front)

pub loop-step-preserved : goal.loop-step-preserved
loop-step-preserved c =
    let m : Module = c.args.machine.now.whole.module in
    let at : Configuration = configuration_of c.loop-step.machine in
    let next : Configuration = configuration_of c.step.new.self in
    let row : List Value = c.as_slice.result.now in
    let out : List Value = c.step.new.outputs in
    let told = c.as_slice.ensures.value ∙ c.in_ok-take_numbers.ensures in
    let fits = going_fits m c.args.types.now c.args.inputs.now c.args.width c.loop-step.step c.loop-step.rest.now c.loop-step.values.items c.split_at.result.0.now row at _
    c.loop-step.invariant.going c.loop-step-test.true c.requires.well_formed c.requires.types c.split_at.ensures.front told (c.loop-step.invariant.room ∙ c.requires.width) in
    let taken : IsOnlyStep (program_of m) at row out next =
    where_it_fits c.loop-step.machine.whole c.args.machine.now.whole at row _ c.loop-step.invariant.same fits (λ (n : Module). IsOnlyStep (program_of n) at row out next) c.in-Ok.ensures.steps in
    record {
      room = c.step.auto.outputs ∙ c.loop-step.invariant.room;
      same = c.in-Ok.ensures.program ∙ c.loop-step.invariant.same;
      going = going_more (program_of m) c.args.types.now c.args.inputs.now c.args.width c.loop-step.step c.loop-step.rest.now c.loop-step.values.items at
          c.loop-step.invariant.going c.loop-step-test.true c.split_at.result.0.now c.split_at.result.1.now c.push_numbers.new.numbers.items row out next
          c.split_at.ensures.front c.split_at.ensures.back told c.in_ok-push_numbers-in-Ok.ensures (c.step.auto.outputs ∙ c.loop-step.invariant.room) taken;
    }

pub returns : goal.returns
returns c =
    let p : Program = program_of c.args.machine.now.whole.module in
    let outs : Trace = record { width = c.args.width; steps = c.args.inputs.now.steps; values = c.loop-step.values } in
    let past = c.loop-step-test.false in
    let within = c.loop-step.auto.step-end in
    let all : c.loop-step.step ≡ c.args.inputs.now.steps = omega (arith, past, within) in
    going_done p c.args.types.now c.args.inputs.now outs c.loop-step.step c.loop-step.rest.now (configuration_of c.loop-step.machine) c.loop-step.invariant.going all
    c.requires.types refl c.requires.width

pub returns-in-Err : goal.returns-in-Err
returns-in-Err c =
    let w : Whole = c.args.machine.now.whole in
    let m : Module = w.module in
    let at : Configuration = configuration_of c.loop-step.machine in
    let row : List Value = c.as_slice.result.now in
    let why : StepRefusal = c.in-Err.refusal in
    let told = c.as_slice.ensures.value ∙ c.in_ok-take_numbers.ensures in
    let fits = going_fits m c.args.types.now c.args.inputs.now c.args.width c.loop-step.step c.loop-step.rest.now c.loop-step.values.items c.split_at.result.0.now row at _
    c.loop-step.invariant.going c.loop-step-test.true c.requires.well_formed c.requires.types c.split_at.ensures.front told (c.loop-step.invariant.room ∙ c.requires.width) in
    let refused : IsRefusal (program_of m) at row why =
    where_it_fits c.loop-step.machine.whole w at row _ c.loop-step.invariant.same fits (λ (n : Module). IsRefusal (program_of n) at row why) c.in-Err.ensures.refused in
    let stops : IsStopFor w (c.loop-step.step + 1) why c.stop_at.result =
    subst (λ (x : Whole). IsStopFor x (c.loop-step.step + 1) why c.stop_at.result) (c.in-Err.ensures.program ∙ c.loop-step.invariant.same) c.stop_at.ensures in
    going_stopped w c.args.types.now c.args.inputs.now c.args.width c.loop-step.step (c.loop-step.step + 1) c.loop-step.rest.now c.loop-step.values.items c.split_at.result.0.now row at why
    c.stop_at.result c.loop-step.invariant.going c.loop-step-test.true c.requires.types c.split_at.ensures.front told refl refused stops
