use Rattle.std.proofs.Common.{◌∙◌, List, not, ap, sym}
use Rattle.std.specs.Prelude.{◌&&◌}
use Rattle.std.specs.List.{list_all}
use Rattle.std.proofs.lemmas.List.{drop_all}
use Rattle.qz_dd.specs.declared.node.DdId.{DdId}
use Rattle.qz_rails.specs.Bits.{bits_in}
use Rattle.qz_symbolic.proofs.StoreBits.{zero_bits, and_all}
use Rattle.qz_symbolic.proofs.permitting.all_false.Goals as goal

pub returns-clause-zero : goal.returns-clause-zero
returns-clause-zero c = λ reading reads.
    let none = drop_all c.loop-number.number-index c.args.numbers.now c.loop-number-test.false in
    sym (and_all (reading.values c.loop-number.so_far.0))
    ∙ ap (λ (xs : List DdId). reading.values c.loop-number.so_far.0 && list_all not (bits_in reading xs)) (sym none)
    ∙ c.loop-number.invariant.means reading reads ∙ zero_bits (bits_in reading c.args.numbers.now)
