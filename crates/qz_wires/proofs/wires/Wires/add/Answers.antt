use Rattle.std.proofs.Common.{refl, ap, ◌∙◌, sym, Some}
use Rattle.indexmap.specs.IndexSet.{insert_key}
use Rattle.std.specs.List.{list_any}
use Rattle.qz_values.specs.declared.Ty.{Ty}
use Rattle.qz_verilog.specs.declared.nets.Rhs.{Rhs}
use Rattle.qz_verilog.specs.Meaning.{right_side}
use Rattle.qz_wires.proofs.SameWires.{wire_eq, same_wire}
use Rattle.qz_wires.proofs.Growing.{Grown, kept, grown, grown_extends, wire_there}
use Rattle.qz_wires.proofs.wires.Wires.add.Goals as goal

pub invariant_of-self : goal.invariant_of-self
invariant_of-self c = record {
  sound = kept c.args.self.now.inputs c.args.self.now.regs wire_eq c.args.self.now.table.keys c.insert_full.new.self.keys (c.args.ty, c.args.right)
      c.args.self.now.sound c.requires c.insert_full.result c.insert_full.ensures.keys c.insert_full.ensures.err;
}

pub returns-clause-extends : goal.returns-clause-extends
returns-clause-extends c =
    let old = c.args.self.now in
    let more : Grown old.inputs old.regs old.table.keys (insert_key wire_eq old.table.keys (c.args.ty, c.args.right)) = grown old.inputs old.regs old.table.keys (c.args.ty, c.args.right) (list_any (wire_eq (c.args.ty, c.args.right)) old.table.keys) old.sound c.requires in
    grown_extends old _ refl refl (λ k wire at. rw c.in_ok-number.ensures.keys (more.keeps k wire at))

pub returns-clause-typed : goal.returns-clause-typed
returns-clause-typed c =
    let h = c.in_ok-number.ensures.stored in
    wire_there c.insert_full.new.self.keys c.in_ok-number.number h.0 h.1
    ∙ ap (λ (w : Ty × Rhs). Some w.0) (sym (same_wire (c.args.ty, c.args.right) h.0 h.2))

pub returns-clause-means : goal.returns-clause-means
returns-clause-means c = λ nets reads.
    let h = c.in_ok-number.ensures.stored in
    reads.assigned _ h.0 h.1 ∙ ap (λ (w : Ty × Rhs). right_side nets w.1) (sym (same_wire (c.args.ty, c.args.right) h.0 h.2))
