use Rattle.std.proofs.Common.{◌∙◌}
use Rattle.qz_rails.specs.Bits.{bits_in}
use Rattle.qz_rails.proofs.Telling.{bits_length}
use Rattle.qz_rails.proofs.Selecting.{tells1}
use Rattle.qz_rails.proofs.operators.apply1.Goals as goal

pub returns-clause-means : goal.returns-clause-means
returns-clause-means c = λ reading reads.
    let a = c.args.a.now in
    tells1 c.args.op c.args.ty (reading.values a.clash.0) (reading.values a.known.0) (bits_in reading a.bits.items) (bits_in reading c.in_ok-bits.bits.items)
    (rw c.deref.ensures.value at c.in_ok-bits.ensures.means reading reads) c.requires.takes (bits_length reading a.bits.items ∙ c.requires.a.width)
