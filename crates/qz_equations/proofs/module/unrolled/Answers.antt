use Rattle.std.proofs.Common.{◌≡◌, ◌≤◌, List, refl, ap, sym, subst, ◌∙◌, arith, length, map, take}
use Rattle.qz_values.specs.declared.Ty.{Ty}
use Rattle.qz_values.specs.declared.Value.{Value}
use Rattle.qz_verilog.specs.declared.nets.Rhs.{Rhs}
use Rattle.qz_verilog.specs.Validity.{AreNetsOf, port_types}
use Rattle.qz_verilog.specs.Meaning.{value_at, Satisfies}
use Rattle.qz_verilog.specs.Runs.{nets_of}
use Rattle.qz_system.specs.declared.valuation.Valuation.{Valuation}
use Rattle.qz_wires.specs.declared.rails.Rail.{Rail}
use Rattle.qz_wires.specs.WireTable.{types_in, Reads}
use Rattle.qz_equations.specs.Registers.{AreOver, Holds, registers_at, inputs_at}
use Rattle.qz_equations.specs.Does.{ClocksAt}
use Rattle.qz_equations.specs.Modules.{rail_values}
use Rattle.qz_equations.proofs.Keeping.{over_kept, instances_kept}
use Rattle.qz_equations.proofs.RegisterLemmas.{begins_with}
use Rattle.qz_equations.proofs.KnownLemmas.{ends_of}
use Rattle.qz_equations.proofs.ModuleLemmas.{same_types, is_valid, settled_values, outputs_within, outputs_typed, outputs_values}
use Rattle.qz_equations.proofs.module.unrolled.Goals as goal

pub values_of-requires : goal.values_of-requires
values_of-requires c =
    let rails = c.in_ok-last.last.instances.items in
    let within : length c.args.parts.now.outputs ≤ length rails = outputs_within c.args.parts.now c.requires rails c.in_ok-last.ensures.last.instances.count in
    let a = c.len.ensures in
    let b = ap length c.deref.ensures.value in
    omega (arith, within, a, b)

pub returns-clause-valid : goal.returns-clause-valid
returns-clause-valid c =
    let parts = c.args.parts.now in
    let W = c.nexts.new.wires in
    let rails = c.in_ok-last.last.instances.items in
    let first : AreOver parts c.new-wires.result = record {
      inputs = c.new-wires.ensures.inputs ∙ c.in_ok-inputs.ensures ∙ c.as_slice.ensures;
      regs = c.new-wires.ensures.regs ∙ c.from_vec-regs.ensures ∙ c.in_ok-initial.ensures;
    } in
    let over : AreOver parts W = over_kept c.in_ok-taken.ensures.extends (over_kept c.in_ok-last.ensures.extends first) in
    let outs : c.in_ok-outs.outs.items ≡ rail_values (take (length parts.outputs) rails) = c.in_ok-outs.ensures
    ∙ ap (λ (xs : List Rail). rail_values (take c.len.result xs)) c.deref.ensures.value ∙ ap (λ n. rail_values (take n rails)) c.len.ensures in
    let typed = outputs_typed parts c.requires rails c.in_ok-last.ensures.last.instances.count (types_in W)
    (instances_kept c.in_ok-taken.ensures.extends c.in_ok-last.ensures.last.instances) in
    is_valid parts c.requires W over c.in_ok-outs.outs.items c.in_ok-taken.taken.items c.in_ok-m.m c.in_ok-m.ensures
    (subst (AreNetsOf (types_in W) (port_types parts.outputs)) (sym outs) typed) c.in_ok-taken.ensures.typed

pub returns-clause-does : goal.returns-clause-does
returns-clause-does c =
    let parts = c.args.parts.now in
    let W = c.nexts.new.wires in
    let m = c.in_ok-m.m in
    let is = c.in_ok-m.ensures in
    let rails = c.in_ok-last.last.instances.items in
    let first : AreOver parts c.new-wires.result = record {
      inputs = c.new-wires.ensures.inputs ∙ c.in_ok-inputs.ensures ∙ c.as_slice.ensures;
      regs = c.new-wires.ensures.regs ∙ c.from_vec-regs.ensures ∙ c.in_ok-initial.ensures;
    } in
    let over : AreOver parts W = over_kept c.in_ok-taken.ensures.extends (over_kept c.in_ok-last.ensures.extends first) in
    let outs : c.in_ok-outs.outs.items ≡ rail_values (take (length parts.outputs) rails) = c.in_ok-outs.ensures
    ∙ ap (λ (xs : List Rail). rail_values (take c.len.result xs)) c.deref.ensures.value ∙ ap (λ n. rail_values (take n rails)) c.len.ensures in
    let reads = λ (v : Valuation) (outs next : List Value) (clock : ClocksAt parts m v outs next).
    let nets = nets_of (registers_at parts v) (inputs_at parts v) clock.wires in
    let r : Reads nets W = record {
      assigned = subst (λ (wires : List (Ty × Rhs)). Satisfies wires nets) is.wires_are clock.settles.assigned;
    } in r in
    record {
      name = is.name;
      inputs = is.inputs;
      outputs = is.outputs;
      begins = λ v fits started initial. is.regs ∙ begins_with parts v fits started initial;
      steps = λ v knows delayed step.
          let holds = λ (wires : List Value).
          let h : Holds parts v (nets_of (registers_at parts v) (inputs_at parts v) wires) =
          record { fits = step.fits; permitted = step.permitted; registers = refl; inputs = refl } in h in
          record {
            outs = λ row next clock.
                let nets = nets_of (registers_at parts v) (inputs_at parts v) clock.wires in
                let r = reads v row next clock in
                let stays = step.definite.stays in
                let shown = c.in_ok-last.ensures.means nets (c.in_ok-taken.ensures.extends.reads nets r) v (holds clock.wires) knows delayed stays.know
                step.definite.is_nth stays.reads in
                let ends = ends_of parts c.requires v nets c.in_ok-last.last knows delayed stays step.definite.known step.definite.told shown in
                clock.outs_are ∙ ap (map (value_at nets)) (is.outs_are ∙ outs)
                ∙ outputs_values parts c.requires rails c.in_ok-last.ensures.last.instances.count nets knows ends.instances ends.known;
            nexts = λ row next clock w comes.
                let nets = nets_of (registers_at parts v) (inputs_at parts v) clock.wires in
                let r = reads v row next clock in
                let stays = comes.definite.last.stays in
                let shown = c.in_ok-last.ensures.means nets (c.in_ok-taken.ensures.extends.reads nets r) v (holds clock.wires) knows delayed stays.know
                step.definite.is_nth stays.reads in
                let ends = ends_of parts c.requires v nets c.in_ok-last.last knows delayed stays step.definite.known step.definite.told shown in
                let typed = settled_values parts v step.fits W m (same_types parts c.requires W over c.in_ok-outs.outs.items c.in_ok-taken.taken.items m is)
                is.inputs is.regs (returns-clause-valid c) clock.wires clock.settles in
                clock.next_are ∙ ap (map (value_at nets)) is.nexts_are
                ∙ c.in_ok-taken.ensures.means nets r typed knows delayed stays.know ends w
                (record { fits = comes.fits_too; started = comes.is_started; places = comes.next_places; stores = comes.next_stores });
          };
    }
