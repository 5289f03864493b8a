use Rattle.std.proofs.Common.{◌≡◌, ◌-◌, ◌≤◌, ◌^◌, ◌∙◌, ap, sym, arith}
use Rattle.std.proofs.lemmas.Nat.Bits.{ones_shr}
use Rattle.qz_values.specs.Types.{width_of}
use Rattle.qz_trace.proofs.fields.largest.Goals as goal

pub returns-in-Bv : goal.returns-in-Bv
returns-in-Bv c =
    let width : width_of c.args.ty ≡ c.in-Bv.width = ap width_of c.in-Bv.is in
    let high : c.in-Bv.width ≤ 64 = omega (arith, c.requires.at_most_64, width) in
    let e : 64 - (64 - c.in-Bv.width) ≡ c.in-Bv.width = omega (arith, high) in
    ones_shr 64 (64 - c.in-Bv.width) (omega arith) ∙ (ap (λ k. 2 ^ k - 1) e ∙ ap (λ k. 2 ^ k - 1) (sym width))
