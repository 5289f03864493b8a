use Rattle.std.proofs.Common.{◌≡◌, ◌++◌, drop}
use Rattle.std.specs.List.{filter_map}
use Rattle.qz_syntax.specs.declared.modules.Module.{Module}
use Rattle.qz_single.specs.Numbering.{carry_of}
use Rattle.qz_single.specs.Numbered.{IsNumbering}
use Rattle.qz_single.proofs.spots.add_carries.Given as goal

abbrev pub invariant-loop-spot : goal.invariant-loop-spot
invariant-loop-spot l = (m : Module) → IsNumbering m l.numbering
    → l.carries ++ filter_map (carry_of m) (drop l.spot-index l.spots) ≡ l.initial.carries ++ filter_map (carry_of m) l.spots
