use Rattle.std.proofs.Common.{◌≡◌, take}
use Rattle.qz_types.specs.Scopes.{meanings_of}
use Rattle.qz_types.specs.CoreDeclarations.{core_decls, local_names}
use Rattle.qz_types.specs.DeclaredLocals.{DeclaresLocals}
use Rattle.qz_types.proofs.core_declarations.declare.Given as goal

abbrev pub invariant-loop-decl : goal.invariant-loop-decl
invariant-loop-decl l =
    DeclaresLocals (local_names (take l.decl-index l.decls)) (core_decls (take l.decl-index l.decls))
    (meanings_of l.initial.names) (meanings_of l.names) l.initial.numbers l.numbers l.initial.locals l.locals
