use Rattle.std.proofs.Common.{◌∙◌, ◌&&◌, ◌||◌, sym, ap}
use Rattle.qz_dd.specs.Tables.{Reads}
use Rattle.qz_rails.specs.Bits.{bits_in}
use Rattle.qz_rails.proofs.Telling.{bits_length}
use Rattle.qz_rails.proofs.Selecting.{tells_choice_by}
use Rattle.qz_rails.proofs.operators.choose.Goals as goal

pub returns-clause-means : goal.returns-clause-means
returns-clause-means c = λ reading reads.
    let r6 : Reads reading c.apply-3.new.self = c.in_ok-bits.ensures.extends.reads reading reads in
    let r5 : Reads reading c.ite-2.new.self = c.in_ok-known.ensures.extends.reads reading r6 in
    let r4 : Reads reading c.apply-2.new.self = c.in_ok-known_there.ensures.extends.reads reading r5 in
    let r3 : Reads reading c.apply.new.self = c.in_ok-clash.ensures.extends.reads reading r4 in
    let r2 : Reads reading c.ite.new.self = c.in_ok-chosen_clash.ensures.extends.reads reading r3 in
    let x = c.args.c.now in
    let a = c.args.a.now in
    let b = c.args.b.now in
    tells_choice_by c.args.ty (reading.values c.first-side.result.0)
    (reading.values x.clash.0, reading.values x.known.0, bits_in reading x.bits.items)
    (reading.values a.clash.0, reading.values a.known.0, bits_in reading a.bits.items)
    (reading.values b.clash.0, reading.values b.known.0, bits_in reading b.bits.items)
    (reading.values c.in_ok-clash.clash.0, reading.values c.in_ok-known.known.0, bits_in reading c.in_ok-bits.bits.items)
    (rw c.deref.ensures.value at c.first-side.ensures.means reading)
    (c.in_ok-clash.ensures.means reading r4 ∙ ap (λ v. reading.values x.clash.0 || v)
    (c.in_ok-chosen_clash.ensures.means reading r3 ∙ ap (λ v. reading.values x.known.0 && v) (c.in_ok-clash_there.ensures.means reading r2)))
    (c.in_ok-known.ensures.means reading r6 ∙ ap (λ v. reading.values x.known.0 && v) (c.in_ok-known_there.ensures.means reading r5))
    (rw (c.deref-2.ensures.value, c.deref-3.ensures.value) at c.in_ok-bits.ensures.means reading reads)
    (bits_length reading x.bits.items ∙ c.requires.c.width)
    (bits_length reading a.bits.items ∙ c.requires.a.width ∙ sym (bits_length reading b.bits.items ∙ c.requires.b.width))
