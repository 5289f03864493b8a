use Rattle.qz_values.proofs.Monotone.{Below-self, Below-trans, same_from_Below}
use Rattle.qz_values.proofs.laws.order_is_partial.Goals as goal

pub returns : goal.returns
returns c = record { reflexive = Below-self; transitive = Below-trans; antisymmetric = same_from_Below }
