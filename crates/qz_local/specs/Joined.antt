-- What spots say of one place, or of one copy of a local.
use Rattle.std.specs.Prelude.{Bool, false, ◌==◌, [], ◌∷◌, if◌then◌else◌}
use Rattle.qz_values.specs.declared.Know.{Know}
use Rattle.qz_values.specs.Knowledge.{either}
use Rattle.qz_meaning.specs.Instances.{is_same_instance, local_instance}
use Rattle.qz_meaning.specs.Landings.{Spot, At, Keeps}
use Rattle.qz_control.specs.Guarded.{Guarded}
use Rattle.qz_moves.specs.declared.spots.Rest.{Rest}
use Rattle.qz_moves.specs.declared.spots.Rest.TheVariants as rest

-- whether a spot says that control rests at this place, or that the local's scope is kept or entered by
-- the instance with this mark
abbrev pub says : Rest → Spot → Bool
says (rest.At place) (At here) = here == place
says (rest.Keeps n m) (Keeps i) = is_same_instance i (local_instance n m)
says one spot = false

-- what is then known of it, where this much is known already: whether any of the spots that say it is so
abbrev pub joined : Rest → Know → Guarded → Know
joined one k [] = k
joined one k (spot ∷ spots) = joined one (if says one spot.0 then either k spot.1 else k) spots
