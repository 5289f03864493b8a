use Rattle.std.proofs.Common.{◌≡◌, drop}
use Rattle.qz_types.specs.Meanings.{no_meanings}
use Rattle.qz_types.specs.Scopes.{meanings_of}
use Rattle.qz_types.specs.Declarations.{declared}
use Rattle.qz_types.specs.CoreDeclarations.{formal_numbers}
use Rattle.qz_types.proofs.core_declarations.root_names.Given as goal

abbrev pub invariant-loop-place : goal.invariant-loop-place
invariant-loop-place l = declared (formal_numbers l.place (drop l.place l.formals)) (meanings_of l.names) ≡ declared (formal_numbers 0 l.formals) no_meanings
