use Rattle.std.proofs.Common.{◌≡◌, arith}
use Rattle.qz_types.specs.Scopes.{meanings_of}
use Rattle.qz_types.proofs.CoreDeclarationLemmas.{declares_names_next}
use Rattle.qz_types.proofs.core_declarations.declare_names.Goals as goal

pub loop-name-preserved : goal.loop-name-preserved
loop-name-preserved c =
    declares_names_next c.args.decl.now c.as_slice-name-items.result.now c.loop-name.name-index c.name-item.result (meanings_of c.args.names.now) (meanings_of c.loop-name.names)
    (meanings_of c.declare_name.new.names) c.args.numbers.now c.loop-name.numbers c.declare_name.new.numbers
    c.args.locals.now c.loop-name.locals c.declare_name.new.locals (omega arith) c.name-item.is c.loop-name.invariant c.in_ok-declare_name.ensures
