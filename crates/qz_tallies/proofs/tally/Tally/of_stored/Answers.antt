use Rattle.std.proofs.Common.{◌≡◌, ap, refl}
use Rattle.qz_rails.specs.Bits.{bits_in}
use Rattle.qz_tallies.proofs.TellingStores.{stored_by}
use Rattle.qz_tallies.proofs.tally.Tally.of_stored.Goals as goal

pub returns-clause-means : goal.returns-clause-means
returns-clause-means c = λ reading reads.
    let s = c.args.stored.now in
    let items : c.extend_from_slice.new.self.items ≡ s.bits.items =
    rw (c.in_ok-extend_from_slice.ensures.items, c.new-bits.ensures.items, c.deref.ensures.value) refl in
    stored_by c.args.ty (reading.values c.constant.result.0) (reading.values s.pending.0) (reading.values c.in_ok-idle.idle.0)
    (bits_in reading c.extend_from_slice.new.self.items) (bits_in reading s.bits.items)
    (c.constant.ensures.means reading reads) (c.in_ok-idle.ensures.means reading reads) (ap (bits_in reading) items)
