use Rattle.std.proofs.Common.{◌≡◌, ◌&&◌, [], slice_get, map, drop}
use Rattle.std.specs.Option.{option_or}
use Rattle.std.specs.List.{flat_map, list_all}
use Rattle.qz_syntax.specs.Endings.{instant_loops, may_end_of}
use Rattle.qz_expand.proofs.endings.+endings.Given as goal

abbrev pub invariant-ending_of_all-loop-part : goal.invariant-ending_of_all-loop-part
invariant-ending_of_all-loop-part l = record {
  ends : (l.all.may_end && list_all (λ ends. ends) (map (λ part. may_end_of [] part) (drop l.part-index l.parts)))
      ≡ list_all (λ ends. ends) (map (λ part. may_end_of [] part) l.parts);
  instant : option_or l.all.instant (slice_get (flat_map (λ part. instant_loops [] part) (drop l.part-index l.parts)) 0)
      ≡ slice_get (flat_map (λ part. instant_loops [] part) l.parts) 0;
}
