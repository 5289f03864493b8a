use Rattle.std.proofs.Common.{◌∙◌, ap, ap₂}
use Rattle.qz_values.specs.Types.{width_of}
use Rattle.qz_rails.specs.Bits.{bits_in, digits_of}
use Rattle.qz_rails.proofs.TellingLeaves.{tells_constant}
use Rattle.qz_rails.proofs.leaves.constant.Goals as goal

pub returns-clause-means : goal.returns-clause-means
returns-clause-means c = λ reading reads.
    tells_constant c.args.value (reading.values c.constant.result.0) (reading.values c.constant-2.result.0) (bits_in reading c.in_ok-bits.bits.items)
    c.requires (c.constant.ensures.means reading reads) (c.constant-2.ensures.means reading reads)
    (c.in_ok-bits.ensures.means reading reads ∙ ap₂ digits_of (c.width.ensures ∙ ap width_of c.ty.ensures) c.bits.ensures)
