use Rattle.std.proofs.Common.{◌≡◌, ◌∙◌, ap, refl}
use Rattle.qz_dd.specs.Tables.{Reads}
use Rattle.qz_rails.specs.Bits.{bits_in}
use Rattle.qz_rails.proofs.Telling.{bits_length}
use Rattle.qz_tallies.proofs.Telling.{one_write_by}
use Rattle.qz_tallies.proofs.tally.Tally.of_write.Goals as goal

pub returns-clause-means : goal.returns-clause-means
returns-clause-means c = λ reading reads.
    let r5 : Reads reading c.opposite.new.diagrams = c.in_ok-nobody.ensures.extends.reads reading reads in
    let r4 : Reads reading c.apply-4.new.self = c.in_ok-off.ensures.extends.reads reading r5 in
    let r3 : Reads reading c.apply-3.new.self = c.in_ok-one.ensures.extends.reads reading r4 in
    let r2 : Reads reading c.apply-2.new.self = c.in_ok-torn.ensures.extends.reads reading r3 in
    let r1 : Reads reading c.apply.new.self = c.in_ok-hit.ensures.extends.reads reading r2 in
    let g = c.args.guard.now in
    let v = c.args.value.now in
    let items : c.extend_from_slice.new.self.items ≡ v.bits.items =
    rw (c.in_ok-extend_from_slice.ensures.items, c.new-bits.ensures.items, c.deref-2.ensures.value) refl in
    one_write_by c.args.ty (reading.values c.first-side.result.0)
    (reading.values g.clash.0, reading.values g.known.0, bits_in reading g.bits.items)
    (reading.values v.clash.0, reading.values v.known.0, bits_in reading v.bits.items)
    (reading.values c.in_ok-torn.torn.0, reading.values c.in_ok-one.one.0, reading.values c.in_ok-nobody.nobody.0, bits_in reading c.extend_from_slice.new.self.items)
    (rw c.deref.ensures.value at c.first-side.ensures.means reading)
    (rw (← c.in_ok-on.ensures.means reading r1, ← c.in_ok-hit.ensures.means reading r2) (c.in_ok-torn.ensures.means reading r3))
    (rw (← c.in_ok-on.ensures.means reading r1) (c.in_ok-one.ensures.means reading r4))
    (rw (← c.in_ok-off.ensures.means reading r5) (c.in_ok-nobody.ensures.means reading reads))
    (ap (bits_in reading) items)
    (bits_length reading g.bits.items ∙ c.requires.guard.width)
