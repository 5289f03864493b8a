use Rattle.std.proofs.Common.{rules}
use Rattle.qz_types.specs.Scopes.{meanings_of}
use Rattle.qz_types.proofs.scope.Scope.get.Goals as goal

pub returns : goal.returns
unfolding meanings_of
returns g c = search rules
