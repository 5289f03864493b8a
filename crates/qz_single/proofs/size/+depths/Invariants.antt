use Rattle.std.proofs.Common.{◌≡◌, nat_lt, max, fold, map, drop}
use Rattle.qz_syntax.specs.Numbers.{depth_of}
use Rattle.qz_single.proofs.size.+depths.Given as goal

abbrev pub invariant-any_is_deeper-loop-part : goal.invariant-any_is_deeper-loop-part
invariant-any_is_deeper-loop-part l =
    nat_lt l.limit (fold max 0 (map depth_of (drop l.part-index l.parts))) ≡ nat_lt l.limit (fold max 0 (map depth_of l.parts))
