use Rattle.std.proofs.Common.{sym, subst}
use Rattle.std.specs.Fmt.{decimal}
use Rattle.std.specs.Str.Parse.{ParsesUnsigned}
use Rattle.std.proofs.lemmas.Fmt.{IsAscii-decimal}
use Rattle.std.proofs.lemmas.Str.{IsUtf8-from_ascii}
use Rattle.std.specs.Str.{IsUtf8}
use Rattle.qz_vread.proofs.Decimals.{parsed_reads, no_number, unplain}
use Rattle.qz_vread.proofs.numbers.number.Goals as goal

pub returns-then-not-begins_plainly : goal.returns-then-not-begins_plainly
returns-then-not-begins_plainly c = no_number c.args.bytes.now (unplain c.args.bytes.now (c.begins_plainly.ensures.other c.if-not-begins_plainly.true))

pub returns-in-Ok : goal.returns-in-Ok
returns-in-Ok c =
    let plain = c.begins_plainly.ensures.plain c.if-not-begins_plainly.false in
    rw c.ok.ensures.value
    (parsed_reads c.args.bytes.now c.parse.result (subst (λ bs. ParsesUnsigned 64 10 bs c.parse.result) c.in-Ok.ensures.cases.0 c.parse.ensures.value.0) plain.0 plain.1)

pub returns-in-Err : goal.returns-in-Err
returns-in-Err c =
    no_number c.args.bytes.now (λ n small e. c.in-Err.ensures.cases.0 (subst IsUtf8 (sym e) (IsUtf8-from_ascii (decimal n) (IsAscii-decimal n small))))
