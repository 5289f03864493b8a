use Rattle.std.proofs.Common.{◌≡◌, arith}
use Rattle.qz_types.specs.Scopes.{meanings_of}
use Rattle.qz_types.proofs.CoreDeclarationLemmas.{declares_locals_next}
use Rattle.qz_types.proofs.core_declarations.declare.Goals as goal

pub loop-decl-preserved : goal.loop-decl-preserved
loop-decl-preserved c =
    declares_locals_next c.args.decls.now c.loop-decl.decl-index c.decl-item.result (meanings_of c.args.names.now) (meanings_of c.loop-decl.names)
    (meanings_of c.declare_names.new.names) c.args.numbers.now c.loop-decl.numbers c.declare_names.new.numbers
    _ c.loop-decl.locals c.declare_names.new.locals (omega arith) c.decl-item.is c.loop-decl.invariant c.in_ok-declare_names.ensures
