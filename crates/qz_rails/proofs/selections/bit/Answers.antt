use Rattle.std.proofs.Common.{◌∙◌, false, [], ◌∷◌, sym, ap, arith}
use Rattle.std.proofs.lemmas.List.{get_or-map}
use Rattle.qz_dd.specs.declared.node.DdId.{DdId}
use Rattle.qz_rails.specs.Bits.{bits_in}
use Rattle.qz_rails.proofs.Selecting.{tells_bit}
use Rattle.qz_rails.proofs.selections.bit.Goals as goal

pub returns-clause-means : goal.returns-clause-means
returns-clause-means c = λ reading.
    let a = c.args.a.now in
    tells_bit c.args.ty (reading.values a.clash.0) (reading.values a.known.0) (bits_in reading a.bits.items) (bits_in reading c.in_ok-bits.bits.items) c.args.i
    (ap (bits_in reading) c.in_ok-bits.ensures ∙ ap (λ b. b ∷ []) (ap (λ (d : DdId). reading.values d.0) c.index.ensures ∙
    sym (get_or-map (λ (d : DdId). reading.values d.0) a.bits.items c.args.i c.index.result.now false (omega (arith, c.requires.within, c.requires.a.width)))))
