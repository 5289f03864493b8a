use Rattle.std.proofs.Common.{arith}
use Rattle.qz_phrases.specs.declared.words.Mark.TheVariants as mark
use Rattle.qz_printer.specs.Expressions.{expr_words}
use Rattle.qz_printer.proofs.Written.{from_written}
use Rattle.qz_printer.proofs.statement_parts.arguments.Goals as goal

pub loop-number-preserved : goal.loop-number-preserved
loop-number-preserved c =
    from_written mark.Comma expr_words c.args.args.now c.loop-number.number c.index-args-number.result _ _ _ _ (omega arith) c.index-args-number.is
    c.in_ok-comma.ensures c.in_ok-expression.ensures c.loop-number.invariant
