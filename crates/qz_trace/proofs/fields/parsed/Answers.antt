use Rattle.std.proofs.Common.{ℕ, ◌<◌, ◌≤◌, ◌^◌, length, Result, Ok, Err, IfNone, arith, sym, subst}
use Rattle.std.specs.Result.{OkIff, result_ok}
use Rattle.std.specs.Str.Parse.{digits_value}
use Rattle.std.proofs.lemmas.Str.{IsUtf8-from_ascii}
use Rattle.std.proofs.lemmas.Fmt.{IsAscii-from_digits}
use Rattle.std.proofs.lemmas.Str.Parse.{parse_digits}
use Rattle.qz_trace.specs.Faults.{AreDigits}
use Rattle.qz_trace.proofs.Decimals.{own}
use Rattle.qz_trace.proofs.fields.parsed.Goals as goal

-- where the digits aren't parsed, they are too large
too_large : {E : Type 0} (v : ℕ) (P : Type 0) (r : Result ℕ E) → P → OkIff r (P × (v < 2 ^ 64)) v → IfNone (result_ok r) (2 ^ 64 ≤ v)
too_large v P (Ok n) some is = tt
too_large v P (Err e) some is = let no : (v < 2 ^ 64 → ⊥) = λ small. is (some, small) in omega (arith, no)

pub returns-in-Ok-clause-none : goal.returns-in-Ok-clause-none
returns-in-Ok-clause-none c =
    let text = c.in-Ok.ensures.cases.0 in
    let digits : AreDigits c.in-Ok.text.now = subst AreDigits (sym text) c.requires.digits in
    let is = parse_digits own 64 c.in-Ok.text.now c.parse.result c.parse.ensures.value.0 digits in
    let some : 0 < length c.in-Ok.text.now = subst (λ l. 0 < length l) (sym text) c.requires.some in
    let none = too_large (digits_value 10 c.in-Ok.text.now) (0 < length c.in-Ok.text.now) c.parse.result some is in
    subst (λ o. IfNone o (2 ^ 64 ≤ digits_value 10 c.args.field.now)) (sym c.ok.ensures.value)
    (subst (λ l. IfNone (result_ok c.parse.result) (2 ^ 64 ≤ digits_value 10 l)) text none)

pub returns-in-Err-clause-none : goal.returns-in-Err-clause-none
returns-in-Err-clause-none c =
    absurd (c.in-Err.ensures.cases.0 (IsUtf8-from_ascii c.args.field.now (IsAscii-from_digits c.args.field.now (own.to c.args.field.now c.requires.digits))))
