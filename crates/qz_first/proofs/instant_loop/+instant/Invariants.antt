use Rattle.std.proofs.Common.{◌≡◌, [], drop}
use Rattle.std.specs.List.{slice_get, flat_map}
use Rattle.qz_syntax.specs.Endings.{instant_loops}
use Rattle.qz_first.proofs.instant_loop.+instant.Given as goal

abbrev pub invariant-instant_loop_among-loop-part : goal.invariant-instant_loop_among-loop-part
invariant-instant_loop_among-loop-part l =
    slice_get (flat_map (λ part. instant_loops [] part) (drop l.part-index l.parts)) 0
    ≡ slice_get (flat_map (λ part. instant_loops [] part) l.parts) 0
