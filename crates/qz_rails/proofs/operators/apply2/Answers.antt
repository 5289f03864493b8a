use Rattle.std.proofs.Common.{◌∙◌}
use Rattle.qz_dd.specs.Tables.{Reads}
use Rattle.qz_rails.specs.Bits.{bits_in}
use Rattle.qz_rails.proofs.Telling.{tells2_by, bits_length}
use Rattle.qz_rails.proofs.operators.apply2.Goals as goal

pub returns-clause-means : goal.returns-clause-means
returns-clause-means c = λ reading reads.
    let before : Reads reading c.where_known.new.diagrams = c.in_ok-bits.ensures.extends.reads reading reads in
    let first : Reads reading c.apply.new.self = c.in_ok-known.ensures.extends.reads reading before in
    let a = c.args.a.now in
    let b = c.args.b.now in
    tells2_by c.args.op c.args.ty
    (reading.values a.clash.0, reading.values a.known.0, bits_in reading a.bits.items)
    (reading.values b.clash.0, reading.values b.known.0, bits_in reading b.bits.items)
    (reading.values c.in_ok-clash.clash.0, reading.values c.in_ok-known.known.0, bits_in reading c.in_ok-bits.bits.items)
    (c.in_ok-clash.ensures.means reading first)
    (c.in_ok-known.ensures.means reading before)
    (rw (c.deref.ensures.value, c.deref-2.ensures.value) at c.in_ok-bits.ensures.means reading reads)
    c.requires.takes
    (bits_length reading a.bits.items ∙ c.requires.a.width)
    (bits_length reading b.bits.items ∙ c.requires.b.width)
