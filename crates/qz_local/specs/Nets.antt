-- The nets of what is so after a step.
use Rattle.std.specs.Prelude.{◌≡◌, Option, Some, None}
use Rattle.indexmap.specs.IndexMap.{get}
use Rattle.qz_values.specs.declared.Know.{Know}
use Rattle.qz_values.specs.declared.Know.TheVariants.{Known}
use Rattle.qz_values.specs.Values.{no}
use Rattle.qz_nets.specs.declared.net.NetId.{NetId}
use Rattle.qz_control.specs.declared.circuit.Circuit.{Circuit}
use Rattle.qz_control.specs.Circuits.{View, known, IsBool}
use Rattle.qz_moves.specs.declared.spots.Rest.{Rest}
use Rattle.qz_moves.specs.contracts.spots.RestPartialEq.TheImpl.{eq-value}
use Rattle.qz_local.specs.declared.nexts.Nexts.{Nexts}

-- the net of a place or a copy, or none where it is never so
abbrev pub net_of : Nexts → Rest → Option NetId
net_of all one = get (eq-value).it all.nets one

-- what is known of a net, where there is one
abbrev pub known_or_no : View → Option NetId → Know
known_or_no v (Some id) = known v id
known_or_no v None = Known no

-- whether it is so
abbrev pub next_known : View → Nexts → Rest → Know
next_known v all one = known_or_no v (net_of all one)

-- each of the nets is a bool
pub record HasBools (c : Circuit) (all : Nexts) : Type 0 where
  pub each : (one : Rest) (id : NetId) → net_of all one ≡ Some id → IsBool c id
