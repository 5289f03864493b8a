-- The nets that tell of a statement which is entered, or in which control moves.
use Rattle.qz_control.specs.declared.circuit.Circuit.{Circuit}
use Rattle.qz_control.specs.Circuits.{IsBool}
use Rattle.qz_terms.specs.Told.{AreBools}
use Rattle.qz_moves.specs.declared.entered.Entered.{Entered}
use Rattle.qz_moves.specs.declared.moved.Moved.{Moved}

-- each of them is a bool
pub record AreEntered (c : Circuit) (entered : Entered) : Type 0 where
  pub ends : IsBool c entered.ends
  pub rests : IsBool c entered.rests

-- each of them is a bool
pub record AreMoved (c : Circuit) (moved : Moved) : Type 0 where
  pub terms : AreBools c moved.terms
  pub rests : IsBool c moved.rests
