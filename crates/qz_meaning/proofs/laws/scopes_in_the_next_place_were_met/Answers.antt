use Rattle.qz_meaning.proofs.NextPlaces.{scopes_were_met}
use Rattle.qz_meaning.proofs.laws.scopes_in_the_next_place_were_met.Goals as goal

pub returns : goal.returns
returns c = scopes_were_met
