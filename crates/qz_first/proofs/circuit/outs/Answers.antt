use Rattle.std.proofs.Common.{◌≡◌, ◌+◌, List, length, drop, ap, ◌∙◌, sym, subst, get_or}
use Rattle.std.proofs.lemmas.List.{at_drop_more}
use Rattle.qz_first.proofs.Declaring.{still_has, row_stays}
use Rattle.qz_first.specs.Driven.{DeclaresRow}
use Rattle.qz_verilog.specs.declared.nets.Ref.{Ref}
use Rattle.qz_verilog.specs.declared.nets.Ref.TheVariants.{Input}
use Rattle.qz_first.specs.declared.driven.DrivenWrite.{DrivenWrite}
use Rattle.qz_first.specs.Driven.{writes_as_bits, AreDrivenAfter}
use Rattle.qz_first.proofs.Growing.{through}
use Rattle.qz_first.proofs.Driving.{whole, one_more}
use Rattle.qz_first.proofs.circuit.outs.Goals as goal

pub loop-write-preserved : goal.loop-write-preserved
loop-write-preserved c =
    let writes = c.args.writes.now in
    let old = c.loop-write.outs.items in
    let new = c.drive.new.nets in
    let none : DrivenWrite = record { output = 0; guard = Input 0; value = Input 0 } in
    let write = get_or writes c.loop-write.write-index none in
    let kept : length new ≡ length c.as_mut_slice.result.now = c.drive.auto.nets in
    let length_is : length new ≡ length old = kept ∙ ap length c.as_mut_slice.ensures.value in
    let same = whole c.loop-write.outs.len new old c.loop-write.outs.ok.0 length_is in
    record {
      extends = through _ _ _ c.loop-write.invariant.extends (through _ _ _ c.and.ensures.extends c.in_ok-drive.ensures.extends);
      count = ap length same ∙ length_is ∙ c.loop-write.invariant.count;
      rest = λ nets reads.
          let at_and = c.in_ok-drive.ensures.extends.reads nets reads in
          let rest = writes_as_bits nets (drop (c.loop-write.write-index + 1) writes) in
          let P : List Ref → Type 0 = λ row. AreDrivenAfter nets rest row (writes_as_bits nets writes) in
          subst P (sym same)
          (one_more nets write.output _ _ _ rest _ old _ new c.as_mut_slice.ensures.value kept (c.in_ok-driven.ensures.means nets at_and)
          (c.in_ok-drive.ensures.means nets reads)
          (at_drop_more (writes_as_bits nets) writes c.loop-write.write-index none c.loop-write-test.true)
          (c.loop-write.invariant.rest nets (c.and.ensures.extends.reads nets at_and)));
      declares = λ registers declared.
          let before = c.loop-write.invariant.declares registers declared in
          let within = c.loop-write-test.true in
          let guard = still_has registers _ _ _ c.loop-write.invariant.extends (declared.guards c.loop-write.write-index none within) in
          let value = still_has registers _ _ _ c.loop-write.invariant.extends (declared.values c.loop-write.write-index none within) in
          let driven = c.in_ok-driven.ensures.declares registers before.sound guard value in
          let P : List Ref → Type 0 = λ row. DeclaresRow registers c.and.new.self row in
          let Q : List Ref → Type 0 = λ row. DeclaresRow registers c.drive.new.wires row in
          subst Q (sym same)
          (c.in_ok-drive.ensures.declares registers driven.has
          (subst P (sym c.as_mut_slice.ensures.value) (row_stays registers _ _ c.and.ensures.extends driven.sound _ before)));
    }
