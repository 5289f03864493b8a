use Rattle.std.proofs.Common.{◌≡◌, ◌<◌, ◌^◌, arith, sym, ap, ◌∙◌}
use Rattle.std.specs.Fmt.{decimal}
use Rattle.std.specs.Str.Parse.{digits_value}
use Rattle.std.proofs.lemmas.Nat.{pow_pos}
use Rattle.qz_values.specs.Types.{width_of}
use Rattle.qz_trace.specs.Faults.{IsDecimal}
use Rattle.qz_trace.proofs.Decimals.{decimal_of, held}
use Rattle.qz_trace.proofs.fields.number_of.Goals as goal

pub returns-in-Some : goal.returns-in-Some
returns-in-Some c =
    let is : c.in-Some.number ≡ digits_value 10 c.args.field.now = c.in-Some.ensures.some in
    let small : c.in-Some.number < 2 ^ width_of c.args.ty = omega (arith, pow_pos (width_of c.args.ty), c.if-number-largest.true, c.largest.ensures) in
    let word : c.in-Some.number < 2 ^ 64 = held c.args.ty c.in-Some.number c.requires small in
    let field : IsDecimal c.args.field.now = c.is_decimal.ensures.0 c.if-not-is_decimal.false in
    (small, sym (decimal_of c.args.field.now field (omega (arith, is, word))) ∙ ap decimal (sym is))
