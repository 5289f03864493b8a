use Rattle.std.proofs.Common.{◌≡◌, length}
use Rattle.qz_types.specs.Meanings.{before}
use Rattle.qz_types.specs.Scopes.{meanings_of}
use Rattle.qz_types.proofs.scope.Scope.undo.Given as goal

abbrev pub invariant-loop-was : goal.invariant-loop-was
invariant-loop-was g l = before l.declared (meanings_of l.self) ≡ before l.initial.declared (meanings_of l.initial.self)

abbrev pub decreases-loop-was : goal.decreases-loop-was
decreases-loop-was g l = length l.declared
