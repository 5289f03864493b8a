-- The nets that tell of a statement in which control may rest.
use Rattle.qz_control.specs.declared.circuit.Circuit.{Circuit}
use Rattle.qz_control.specs.Circuits.{IsBool}
use Rattle.qz_terms.specs.declared.told.Terms.{Terms}

-- each of them is a bool
pub record AreBools (c : Circuit) (terms : Terms) : Type 0 where
  pub inside : IsBool c terms.inside
  pub ended : IsBool c terms.ended
  pub ends : IsBool c terms.ends
