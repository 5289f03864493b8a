use Rattle.std.proofs.Common.{◌≡◌, map, drop, true, false}
use Rattle.std.specs.Prelude.{slice_index_or}
use Rattle.qz_system.specs.Restings.{resting, resting_of, in_one, in_some}
use Rattle.qz_system.proofs.resting.+rests.Given as goal

abbrev pub invariant-resting_in_one-loop-part : goal.invariant-resting_in_one-loop-part
invariant-resting_in_one-loop-part l =
    in_one l.so_far (map (resting_of (λ n. slice_index_or l.places n false)) (drop l.part-index l.parts))
    ≡ in_one (resting true false) (map (resting_of (λ n. slice_index_or l.places n false)) l.parts)

abbrev pub invariant-resting_in_some-loop-part : goal.invariant-resting_in_some-loop-part
invariant-resting_in_some-loop-part l =
    in_some l.so_far (map (resting_of (λ n. slice_index_or l.places n false)) (drop l.part-index l.parts))
    ≡ in_some (resting true false) (map (resting_of (λ n. slice_index_or l.places n false)) l.parts)
