use Rattle.std.proofs.Common.{rules}
use Rattle.std.proofs.Math.Path.{fun_ext}
use Rattle.qz_types.specs.Scopes.{meanings_of}
use Rattle.qz_types.proofs.scope.Scope.new.Goals as goal

pub returns : goal.returns
unfolding meanings_of
returns g c = fun_ext (λ name. search rules)
