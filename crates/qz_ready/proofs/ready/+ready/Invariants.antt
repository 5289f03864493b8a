use Rattle.std.proofs.Common.{◌≡◌, drop, map}
use Rattle.std.specs.List.{list_all}
use Rattle.qz_control.specs.Ready.{is_ready}
use Rattle.qz_ready.proofs.ready.+ready.Given as goal

abbrev pub invariant-are_ready-loop-part : goal.invariant-are_ready-loop-part
invariant-are_ready-loop-part l =
    list_all (λ part. part) (map (is_ready l.owner) (drop l.part-index l.parts)) ≡ list_all (λ part. part) (map (is_ready l.owner) l.parts)
