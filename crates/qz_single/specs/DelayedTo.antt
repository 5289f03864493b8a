-- The variables of a set.
use Rattle.std.specs.Prelude.{Bool}
use Rattle.indexmap.specs.IndexSet.{contains}
use Rattle.qz_syntax.specs.declared.expressions.Var.{Var}
use Rattle.qz_syntax.specs.contracts.expressions.VarPartialEq.TheImpl.{eq-value}
use Rattle.qz_single.specs.declared.delayed.Delayed.{Delayed}

-- whether a variable is in the set
unfoldable pub has : Delayed → Var → Bool
has delayed x = contains (eq-value).it delayed.variables x
