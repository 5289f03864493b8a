use Rattle.std.proofs.Common.{◌≡◌, ◌∙◌, ◌++◌, ap, refl}
use Rattle.std.proofs.lemmas.List.{map-append}
use Rattle.qz_dd.specs.declared.node.DdId.{DdId}
use Rattle.qz_dd.specs.Tables.{Reads}
use Rattle.qz_rails.specs.Bits.{bits_in}
use Rattle.qz_rails.proofs.Telling.{bits_length}
use Rattle.qz_rails.proofs.Selecting.{tells_concat_by}
use Rattle.qz_rails.proofs.selections.concat.Goals as goal

pub returns-clause-means : goal.returns-clause-means
returns-clause-means c = λ reading reads.
    let before : Reads reading c.apply.new.self = c.in_ok-known.ensures.extends.reads reading reads in
    let a = c.args.a.now in
    let b = c.args.b.now in
    let items : c.extend_from_slice-2.new.self.items ≡ b.bits.items ++ a.bits.items =
    rw (c.in_ok-extend_from_slice-2.ensures.items, c.in_ok-extend_from_slice.ensures.items, c.new-bits.ensures.items, c.deref.ensures.value, c.deref-2.ensures.value) refl in
    tells_concat_by c.args.a_ty c.args.b_ty
    (reading.values a.clash.0, reading.values a.known.0, bits_in reading a.bits.items)
    (reading.values b.clash.0, reading.values b.known.0, bits_in reading b.bits.items)
    (reading.values c.in_ok-clash.clash.0, reading.values c.in_ok-known.known.0, bits_in reading c.extend_from_slice-2.new.self.items)
    (c.in_ok-clash.ensures.means reading before)
    (c.in_ok-known.ensures.means reading reads)
    (ap (bits_in reading) items ∙ map-append (λ (d : DdId). reading.values d.0) b.bits.items a.bits.items)
    (bits_length reading a.bits.items ∙ c.requires.a.width)
    (bits_length reading b.bits.items ∙ c.requires.b.width)
