use Rattle.std.proofs.Common.{arith}
use Rattle.qz_printer.specs.Declarations.{decl_words}
use Rattle.qz_printer.proofs.Written.{list_written}
use Rattle.qz_printer.proofs.declarations.declarations.Goals as goal

pub loop-decl-preserved : goal.loop-decl-preserved
loop-decl-preserved c =
    list_written decl_words c.args.decls.now c.loop-decl.decl-index c.decl-item.result _ _ _ (omega arith) c.decl-item.is c.in_ok-declaration.ensures c.loop-decl.invariant
