use Rattle.std.proofs.Common.{◌∙◌, sym}
use Rattle.qz_dd.specs.Tables.{Reads}
use Rattle.qz_rails.specs.Bits.{bits_in}
use Rattle.qz_rails.proofs.Telling.{bits_length}
use Rattle.qz_tallies.proofs.Telling.{joined_by}
use Rattle.qz_tallies.proofs.tally.Tally.join.Goals as goal

pub returns-clause-means : goal.returns-clause-means
returns-clause-means c = λ reading reads.
    let r3 : Reads reading c.apply-2.new.self = c.in_ok-bits.ensures.extends.reads reading reads in
    let r2 : Reads reading c.apply.new.self = c.in_ok-nobody.ensures.extends.reads reading r3 in
    let r1 : Reads reading c.torn_with.new.diagrams = c.in_ok-one.ensures.extends.reads reading r2 in
    let a = c.args.self.now in
    let b = c.args.other.now in
    joined_by c.args.ty
    (reading.values a.torn.0, reading.values a.one.0, reading.values a.nobody.0, bits_in reading a.bits.items)
    (reading.values b.torn.0, reading.values b.one.0, reading.values b.nobody.0, bits_in reading b.bits.items)
    (reading.values c.in_ok-torn.torn.0, reading.values c.in_ok-one.one.0, reading.values c.in_ok-nobody.nobody.0, bits_in reading c.in_ok-bits.bits.items)
    (c.in_ok-torn.ensures.means reading r1)
    (c.in_ok-one.ensures.means reading r2)
    (c.in_ok-nobody.ensures.means reading r3)
    (rw (c.deref.ensures.value, c.deref-2.ensures.value) at c.in_ok-bits.ensures.means reading reads)
    (bits_length reading a.bits.items ∙ c.requires.mine.width ∙ sym (bits_length reading b.bits.items ∙ c.requires.other.width))
