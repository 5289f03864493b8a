use Rattle.std.proofs.Common.{◌≡◌, ◌++◌, drop}
use Rattle.std.specs.List.{filter_map}
use Rattle.qz_single.specs.Numbering.{next_of}
use Rattle.qz_single.proofs.spots.add_nexts.Given as goal

abbrev pub invariant-loop-spot : goal.invariant-loop-spot
invariant-loop-spot l = l.nexts ++ filter_map next_of (drop l.spot-index l.spots) ≡ l.initial.nexts ++ filter_map next_of l.spots
