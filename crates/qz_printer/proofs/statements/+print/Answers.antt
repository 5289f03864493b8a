use Rattle.std.proofs.Common.{arith}
use Rattle.std.specs.List.{flat_map}
use Rattle.qz_phrases.specs.declared.words.Mark.TheVariants as mark
use Rattle.qz_printer.specs.Statements.{stmt_words}
use Rattle.qz_printer.proofs.Written.{from_written, list_written}
use Rattle.qz_printer.proofs.statements.+print.Goals as goal

pub statements-loop-s-preserved : goal.statements-loop-s-preserved
statements-loop-s-preserved t c =
    list_written stmt_words c.args.list.now c.loop-s.s-index c.s-item.result _ _ _ (omega arith) c.s-item.is c.in_ok-statement.ensures c.loop-s.invariant

pub lists-loop-number-preserved : goal.lists-loop-number-preserved
lists-loop-number-preserved t c =
    from_written mark.BarBar (λ list. flat_map stmt_words list) c.as_slice-list-items.result.now c.loop-number.number c.list-item.result _ _ _ _ (omega arith)
    c.list-item.is c.in_ok-bars.ensures (rw c.as_slice.ensures at c.in_ok-statements.ensures) c.loop-number.invariant
