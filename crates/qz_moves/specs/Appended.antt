-- The spots that were appended to a list, as a view has them.
use Rattle.std.specs.Prelude.{ℕ, ◌≡◌, List, [], ◌∷◌, ◌++◌, map}
use Rattle.qz_values.specs.declared.Know.{Know}
use Rattle.qz_nets.specs.declared.net.NetId.{NetId}
use Rattle.qz_syntax.specs.declared.places.Mark.{Mark}
use Rattle.qz_meaning.specs.Instances.{local_instance}
use Rattle.qz_meaning.specs.Landings.{Spot, At, Keeps}
use Rattle.qz_control.specs.declared.circuit.Circuit.{Circuit}
use Rattle.qz_control.specs.Circuits.{View, Views, known, IsBool}
use Rattle.qz_control.specs.Guarded.{Guarded}
use Rattle.qz_moves.specs.declared.spots.Rest.{Rest}
use Rattle.qz_moves.specs.declared.spots.Rest.TheVariants as rest
use Rattle.qz_moves.specs.declared.spots.NetSpot.{NetSpot}

-- what is so
abbrev pub spot_of : Rest → Spot
spot_of (rest.At place) = At place
spot_of (rest.Keeps n m) = Keeps (local_instance n m)

-- a spot, with what is known of its net
abbrev pub read_spot : View → NetSpot → Spot × Know
read_spot v one = (spot_of one.rest, known v one.when)

abbrev pub read_spots : View → List NetSpot → Guarded
read_spots v spots = map (read_spot v) spots

-- the locals of a scope, with one net for all
abbrev pub kept : List ℕ → Mark → NetId → List NetSpot
kept locals m when = map (λ n. record { rest = rest.Keeps n m; when = when }) locals

-- the net of each of these is a bool
abbrev pub AreTests : Circuit → List NetSpot → Type 0
AreTests c [] = Unit {0}
AreTests c (one ∷ others) = IsBool c one.when × AreTests c others

-- in each view of the circuit the list has these more
abbrev pub Appends : Circuit → List NetSpot → List NetSpot → (View → Guarded) → Type 0
Appends c old new more = (v : View) → Views v c → read_spots v new ≡ read_spots v old ++ more v
