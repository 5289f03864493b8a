use Rattle.std.proofs.Common.{◌≡◌, ◌+◌, ◌≤◌, min, drop}
use Rattle.std.specs.List.{sum_by}
use Rattle.qz_syntax.specs.Sizes.{units_inside, largest_size}
use Rattle.qz_syntax.proofs.sizes.+sizes.Given as goal

abbrev pub invariant-units_of_all-loop-part : goal.invariant-units_of_all-loop-part
invariant-units_of_all-loop-part l = record {
  rest : min (l.units + sum_by (λ part. units_inside part l.loops) (drop l.part-index l.parts)) largest_size ≡ min (sum_by (λ part. units_inside part l.loops) l.parts) largest_size;
  fits : l.units ≤ largest_size;
}
