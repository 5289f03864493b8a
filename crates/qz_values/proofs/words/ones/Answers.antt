use Rattle.std.proofs.Common.{◌≡◌, ◌-◌, ◌^◌, ◌∙◌, ap, arith}
use Rattle.std.proofs.lemmas.Nat.Bits.{ones_shr}
use Rattle.qz_values.proofs.words.ones.Goals as goal

pub returns : goal.returns
returns c =
    let e : 64 - (64 - c.args.width) ≡ c.args.width = omega arith in
    ones_shr 64 (64 - c.args.width) (omega arith) ∙ ap (λ k. 2 ^ k - 1) e
