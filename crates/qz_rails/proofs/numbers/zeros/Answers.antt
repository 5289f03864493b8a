use Rattle.std.proofs.Common.{◌∙◌, ap}
use Rattle.std.proofs.lemmas.Nat.{pow_pos}
use Rattle.qz_rails.specs.Bits.{number_of}
use Rattle.qz_rails.proofs.Digits.{digits_number}
use Rattle.qz_rails.proofs.numbers.zeros.Goals as goal

pub returns-clause-means : goal.returns-clause-means
returns-clause-means c = λ reading reads.
    ap number_of (c.in_ok-bits.ensures.means reading reads) ∙ digits_number c.width.result 0 (pow_pos c.width.result)
