use Rattle.std.proofs.Common.{◌+◌, arith, length-append, refl, ℕ, List, [], ◌∷◌, ◌++◌, map, not, length, replicate, ap, sym, ◌∙◌, subst}
use Rattle.qz_values.specs.Values.{no}
use Rattle.std.proofs.Math.ListN.{length-map, length-replicate}
use Rattle.qz_verilog.specs.declared.nets.Ref.{Ref}
use Rattle.qz_verilog.specs.declared.nets.Ref.TheVariants as net
use Rattle.qz_first.specs.declared.driven.DrivenWrite.{DrivenWrite}
use Rattle.qz_first.specs.declared.driven.DrivenPlace.{DrivenPlace}
use Rattle.qz_first.specs.Does.{port_of}
use Rattle.qz_first.specs.Driven.{writes_as_bits, rests_as_bits, AreDriven, DeclaresWrites, DeclaresRests, DeclaresRow}
use Rattle.qz_first.specs.BitNets.{Nets, bool_wire}
use Rattle.qz_values.specs.declared.Ty.{Ty}
use Rattle.qz_verilog.specs.declared.nets.Rhs.{Rhs}
use Rattle.qz_first.specs.WireTable.{Reads, Has}
use Rattle.qz_first.proofs.Implementing.{clock_is_step, first_rests_below, is_bit_module, rights_there, IsMade}
use Rattle.qz_first.proofs.Growing.{through}
use Rattle.qz_first.proofs.Declaring.{still_has, sound_empty, writes_stay, rests_stay, row_stays}
use Rattle.qz_first.proofs.circuit.circuit.Goals as goal

pub returns : goal.returns
returns c =
    let table = c.nexts.new.wires in
    let writes = c.as_slice-2.result.now in
    let rests = c.as_slice-3.result.now in
    let at_outs = λ (nets : Nets) (reads : Reads nets table). c.in_ok-nexts.ensures.extends.reads nets reads in
    let at_rests = λ (nets : Nets) (reads : Reads nets table). c.in_ok-outs.ensures.extends.reads nets (at_outs nets reads) in
    let at_writes = λ (nets : Nets) (reads : Reads nets table). c.in_ok-rests.ensures.extends.reads nets (at_rests nets reads) in
    let at_always = λ (nets : Nets) (reads : Reads nets table). c.in_ok-writes.ensures.extends.reads nets (at_writes nets reads) in
    let made : IsMade c.args.m _ table c.in_ok-start.start c.in_ok-always.always writes rests = record {
      wires = ap (map (λ (wire : Ty × Rhs). wire.1)) (c.in_ok-bool_wires.ensures ∙ ap (map bool_wire) c.as_slice-4.ensures) ∙ rights_there _;
      starting = λ nets reads. c.in_ok-start.ensures.means nets (c.constant.ensures.extends.reads nets (at_always nets reads))
          ∙ ap (λ (k : ℕ). not (nets.registers k)) c.len-places.ensures;
      always_true = λ nets reads. c.in_ok-always.ensures.means nets (at_always nets reads);
      written = λ nets reads. ap (writes_as_bits nets) c.as_slice-2.ensures.value ∙ c.in_ok-writes.ensures.means nets (at_writes nets reads);
      rested = λ nets reads. ap (rests_as_bits nets) c.as_slice-3.ensures.value ∙ c.in_ok-rests.ensures.means nets (at_rests nets reads);
      count = ap length c.from_vec.ensures ∙ c.in_ok-outs.ensures.count ∙ c.len.ensures;
      outs = λ nets reads.
          let P : List Ref → Type 0 = λ row. AreDriven nets (writes_as_bits nets writes) row in
          subst P (sym c.from_vec.ensures) (c.in_ok-outs.ensures.means nets (at_outs nets reads));
      nexts = λ nets reads.
          let row = c.in_ok-nexts.ensures.means nets reads in
          (row.0, c.from_vec-2.ensures ∙ row.1, row.2 ∙ c.len-places.ensures, row.3);
    } in
    record {
      name = refl;
      outputs = c.in_ok-outputs.ensures ∙ ap (map port_of) c.as_slice.ensures;
      begins = c.in_ok-initial.ensures ∙ ap (λ (n : ℕ). replicate n no ++ no ∷ []) c.len-places.ensures;
      valid = λ first.
          let registers = length c.args.m.labels + 1 in
          let below = first_rests_below c.args.m first in
          let last : Has registers c.new-wires.result (net.Reg c.len-places.result) =
          record { declared = let e = c.len-places.ensures in omega arith } in
          let start = c.in_ok-start.ensures.declares registers (sound_empty registers c.new-wires.result c.new-wires.ensures) last in
          let always = c.in_ok-always.ensures.declares registers start.sound in
          let begun = still_has registers _ _ _ c.constant.ensures.extends start.has in
          let written = c.in_ok-writes.ensures.declares registers below always.sound begun always.has in
          let rested = c.in_ok-rests.ensures.declares registers below written.sound (still_has registers _ _ _ c.in_ok-writes.ensures.extends begun) in
          let P : List DrivenWrite → Type 0 = λ items. DeclaresWrites registers c.all_rests.new.wires items in
          let outs = c.in_ok-outs.ensures.declares registers
          (subst P (sym c.as_slice-2.ensures.value) (writes_stay registers _ _ c.in_ok-rests.ensures.extends rested.sound _ written)) in
          let Q : List DrivenPlace → Type 0 = λ items. DeclaresRests registers c.outs.new.wires items in
          let stays = still_has registers _ _ _
          (through _ _ _ c.in_ok-writes.ensures.extends (through _ _ _ c.in_ok-rests.ensures.extends c.in_ok-outs.ensures.extends)) always.has in
          let nexts = c.in_ok-nexts.ensures.declares registers
          (subst Q (sym c.as_slice-3.ensures.value) (rests_stay registers _ _ c.in_ok-outs.ensures.extends outs.sound _ rested)) stays in
          let R : List Ref → Type 0 = λ row. DeclaresRow registers table row in
          is_bit_module _ table registers c.args.m first
          c.new.ensures
          (c.in_ok-outputs.ensures ∙ ap (map port_of) c.as_slice.ensures)
          (c.in_ok-initial.ensures ∙ ap (λ (n : ℕ). replicate n no ++ no ∷ []) c.len-places.ensures)
          (c.in_ok-bool_wires.ensures ∙ ap (map bool_wire) c.as_slice-4.ensures)
          (ap length c.in_ok-initial.ensures ∙ length-append (replicate c.len-places.result no) (no ∷ [])
          ∙ ap (λ n. n + 1) (length-replicate c.len-places.result no ∙ c.len-places.ensures))
          (ap length c.from_vec-2.ensures ∙ c.in_ok-nexts.ensures.count ∙ ap (λ n. n + 1) c.len-places.ensures)
          (ap length c.from_vec.ensures ∙ c.in_ok-outs.ensures.count ∙ c.len.ensures
          ∙ sym (ap length c.in_ok-outputs.ensures ∙ length-map c.as_slice.result.now port_of ∙ ap length c.as_slice.ensures))
          (subst R (sym c.from_vec.ensures) (row_stays registers _ _ c.in_ok-nexts.ensures.extends nexts.sound _ outs))
          (subst R (sym c.from_vec-2.ensures) nexts);
      clock = clock_is_step c.args.m _ table c.in_ok-start.start c.in_ok-always.always writes rests made;
    }
