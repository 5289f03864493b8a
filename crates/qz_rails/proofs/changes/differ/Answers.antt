use Rattle.std.proofs.Common.{◌∙◌, sym}
use Rattle.qz_dd.specs.Tables.{Reads}
use Rattle.qz_rails.specs.Bits.{bits_in}
use Rattle.qz_rails.proofs.Telling.{bits_length}
use Rattle.qz_rails.proofs.Changing.{differs_by}
use Rattle.qz_rails.proofs.changes.differ.Goals as goal

pub returns-clause-means : goal.returns-clause-means
returns-clause-means c = λ reading reads.
    let r3 : Reads reading c.apply-2.new.self = c.in_ok-r.ensures.extends.reads reading reads in
    let r2 : Reads reading c.apply.new.self = c.in_ok-other_clash.ensures.extends.reads reading r3 in
    let r1 : Reads reading c.opposite.new.diagrams = c.in_ok-seen.ensures.extends.reads reading r2 in
    let r0 : Reads reading c.unlike.new.diagrams = c.in_ok-no_clash.ensures.extends.reads reading r1 in
    let a = c.args.a.now in
    let b = c.args.b.now in
    differs_by c.args.ty
    (reading.values a.clash.0, reading.values a.known.0, bits_in reading a.bits.items)
    (reading.values b.clash.0, reading.values b.known.0, bits_in reading b.bits.items)
    (reading.values c.in_ok-r.r.0)
    (bits_length reading a.bits.items ∙ c.requires.a.width ∙ sym (bits_length reading b.bits.items ∙ c.requires.b.width))
    (rw (
      ← c.in_ok-unlike.ensures.means reading r0,
      ← c.in_ok-no_clash.ensures.means reading r1,
      ← c.in_ok-seen.ensures.means reading r2,
      ← c.in_ok-other_clash.ensures.means reading r3,
    )
    (c.in_ok-r.ensures.means reading reads))
