use Rattle.std.proofs.Common.{◌≡◌, true, nat_le, arith}
use Rattle.std.proofs.lemmas.Bool.Decides.{nat_tests}
use Rattle.qz_syntax.proofs.names.is_name.Goals as goal

pub returns : goal.returns
returns c =
    let short : nat_le c.character_count.result 64 ≡ true = grind (arith, nat_tests) in
    rw (← c.is_spelled.ensures, c.if-not-is_spelled.false, ← c.character_count.ensures, short, ← c.is_reserved.ensures)
