use Rattle.std.proofs.Common.{arith}
use Rattle.qz_lexer.proofs.PieceLemmas.{no_long_number, begins_number, begins_literal}
use Rattle.qz_lexer.proofs.pieces.number.Goals as goal

pub returns-then-count-gt20 : goal.returns-then-count-gt20
returns-then-count-gt20 c =
    let run = c.skip-count.ensures in
    no_long_number _ run.run _ c.requires run.split run.whole (omega arith)

pub returns-in-Some : goal.returns-in-Some
returns-in-Some c =
    let run = c.skip-count.ensures in
    begins_literal _ run.run _ c.requires run.split run.whole _ (omega arith) c.in-Some.ensures

pub returns-in-None : goal.returns-in-None
returns-in-None c =
    let run = c.skip-count.ensures in
    begins_number _ run.run _ c.requires run.split run.whole (omega arith) c.in-None.ensures
