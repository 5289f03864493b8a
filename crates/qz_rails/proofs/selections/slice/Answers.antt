use Rattle.std.proofs.Common.{◌≡◌, ◌∙◌, ◌+◌, ◌-◌, take, drop, sym, ap, refl, arith}
use Rattle.std.proofs.lemmas.List.{take-map, drop-map}
use Rattle.qz_dd.specs.declared.node.DdId.{DdId}
use Rattle.qz_rails.specs.Bits.{bits_in}
use Rattle.qz_rails.proofs.Selecting.{tells_slice}
use Rattle.qz_rails.proofs.selections.slice.Goals as goal

pub returns-clause-means : goal.returns-clause-means
returns-clause-means c = λ reading.
    let a = c.args.a.now in
    let size : c.args.high + 1 - c.args.low ≡ c.args.high - c.args.low + 1 = omega (arith, c.requires.some) in
    let items : c.extend_from_slice.new.self.items ≡ take (c.args.high - c.args.low + 1) (drop c.args.low a.bits.items) =
    rw (c.in_ok-extend_from_slice.ensures.items, c.new-bits.ensures.items, c.deref.ensures.value, size) refl in
    tells_slice c.args.ty (reading.values a.clash.0) (reading.values a.known.0) (bits_in reading a.bits.items) (bits_in reading c.extend_from_slice.new.self.items) c.args.high c.args.low
    (ap (bits_in reading) items ∙ sym (take-map (λ (d : DdId). reading.values d.0) (c.args.high - c.args.low + 1) (drop c.args.low a.bits.items)) ∙
    ap (take (c.args.high - c.args.low + 1)) (sym (drop-map (λ (d : DdId). reading.values d.0) c.args.low a.bits.items)))
