use Rattle.std.proofs.Common.{◌≡◌, map, drop, false}
use Rattle.std.specs.Prelude.{slice_index_or}
use Rattle.qz_system.specs.Restings.{living, living_of, living_over}
use Rattle.qz_system.proofs.resting.+lives.Given as goal

abbrev pub invariant-living_in_any-loop-part : goal.invariant-living_in_any-loop-part
invariant-living_in_any-loop-part l =
    living_over l.so_far (map (living_of (λ n. slice_index_or l.places n false) l.cell) (drop l.part-index l.parts))
    ≡ living_over (living false false) (map (living_of (λ n. slice_index_or l.places n false) l.cell) l.parts)
