use Rattle.std.proofs.Common.{◌∙◌, sym}
use Rattle.qz_dd.specs.Tables.{Reads}
use Rattle.qz_rails.specs.Bits.{bits_in}
use Rattle.qz_rails.proofs.Telling.{bits_length}
use Rattle.qz_tallies.proofs.TellingStores.{settling_by}
use Rattle.qz_tallies.proofs.tally.Tally.settle_with.Goals as goal

pub returns-clause-means : goal.returns-clause-means
returns-clause-means c = λ reading reads.
    let before : Reads reading c.apply.new.self = c.in_ok-bits.ensures.extends.reads reading reads in
    let a = c.args.self.now in
    settling_by c.args.ty (reading.values a.torn.0, reading.values a.one.0, reading.values a.nobody.0, bits_in reading a.bits.items)
    (bits_in reading c.args.otherwise.now) (reading.values c.in_ok-known.known.0) (bits_in reading c.in_ok-bits.bits.items)
    (c.in_ok-known.ensures.means reading before)
    (rw c.deref.ensures.value at c.in_ok-bits.ensures.means reading reads)
    (bits_length reading a.bits.items ∙ c.requires.mine.width ∙ sym (bits_length reading c.args.otherwise.now ∙ c.requires.width))
