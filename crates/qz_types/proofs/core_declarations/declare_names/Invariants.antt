use Rattle.std.proofs.Common.{◌≡◌, map, take}
use Rattle.qz_types.specs.Scopes.{meanings_of}
use Rattle.qz_types.specs.CoreDeclarations.{core_local}
use Rattle.qz_types.specs.DeclaredLocals.{DeclaresLocals}
use Rattle.qz_types.proofs.core_declarations.declare_names.Given as goal

abbrev pub invariant-loop-name : goal.invariant-loop-name
invariant-loop-name l =
    DeclaresLocals (take l.name-index l.name-items) (map (core_local l.decl) (take l.name-index l.name-items))
    (meanings_of l.initial.names) (meanings_of l.names) l.initial.numbers l.numbers l.initial.locals l.locals
