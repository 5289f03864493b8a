use Rattle.std.proofs.Common.{◌≡◌, ◌+◌, List, length, drop, ap, ◌∙◌, sym, subst, get_or, refl}
use Rattle.std.proofs.lemmas.List.{at_drop_more}
use Rattle.qz_first.proofs.Declaring.{still_has}
use Rattle.qz_first.specs.Driven.{DeclaresRow}
use Rattle.qz_verilog.specs.declared.nets.Ref.{Ref}
use Rattle.qz_verilog.specs.declared.nets.Ref.TheVariants.{Input}
use Rattle.qz_first.specs.declared.driven.DrivenPlace.{DrivenPlace}
use Rattle.qz_first.specs.Driven.{rests_as_bits, AreDrivenAfter}
use Rattle.qz_first.specs.BitNets.{bit_at}
use Rattle.qz_first.proofs.Growing.{through}
use Rattle.qz_first.proofs.Driving.{whole, one_more}
use Rattle.qz_first.proofs.circuit.next_places.Goals as goal

pub loop-rest-preserved : goal.loop-rest-preserved
loop-rest-preserved c =
    let rests = c.args.rests.now in
    let old = c.loop-rest.nexts.items in
    let new = c.drive.new.nets in
    let none : DrivenPlace = record { place = 0; when = Input 0 } in
    let rest = get_or rests c.loop-rest.rest-index none in
    let kept : length new ≡ length c.as_mut_slice.result.now = c.drive.auto.nets in
    let length_is : length new ≡ length old = kept ∙ ap length c.as_mut_slice.ensures.value in
    let same = whole c.loop-rest.nexts.len new old c.loop-rest.nexts.ok.0 length_is in
    record {
      extends = through _ _ _ c.loop-rest.invariant.extends c.in_ok-drive.ensures.extends;
      count = ap length same ∙ length_is ∙ c.loop-rest.invariant.count;
      rest = λ nets reads.
          let left = rests_as_bits nets (drop (c.loop-rest.rest-index + 1) rests) in
          let P : List Ref → Type 0 = λ row. AreDrivenAfter nets left row (rests_as_bits nets rests) in
          subst P (sym same)
          (one_more nets rest.place rest.when (bit_at nets rest.when) _ left _ old _ new c.as_mut_slice.ensures.value kept refl
          (c.in_ok-drive.ensures.means nets reads)
          (at_drop_more (rests_as_bits nets) rests c.loop-rest.rest-index none c.loop-rest-test.true)
          (c.loop-rest.invariant.rest nets (c.in_ok-drive.ensures.extends.reads nets reads)));
      declares = λ registers declared.
          let before = c.loop-rest.invariant.declares registers declared in
          let when = still_has registers _ _ _ c.loop-rest.invariant.extends (declared.each c.loop-rest.rest-index none c.loop-rest-test.true) in
          let P : List Ref → Type 0 = λ row. DeclaresRow registers c.loop-rest.wires row in
          let Q : List Ref → Type 0 = λ row. DeclaresRow registers c.drive.new.wires row in
          subst Q (sym same)
          (c.in_ok-drive.ensures.declares registers when (subst P (sym c.as_mut_slice.ensures.value) before));
    }
