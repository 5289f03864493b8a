use Rattle.std.proofs.Common.{◌≡◌, ◌++◌, map, drop, Some}
use Rattle.std.specs.List.{flat_map}
use Rattle.qz_meaning.specs.Scenes.{Passing}
use Rattle.qz_meaning.specs.Sequences.{start_in_turn, ends_of_all}
use Rattle.qz_meaning.specs.Parallels.{parallel}
use Rattle.qz_meaning.specs.Residing.{residing, walk, Walk}
use Rattle.qz_react.specs.Contexts.{context_of}
use Rattle.qz_react.specs.Seeing.{Sees, named, written}
use Rattle.qz_react.proofs.starts.+starts.Given as goal

abbrev pub invariant-start_parts-loop-part : goal.invariant-start_parts-loop-part
invariant-start_parts-loop-part l = record {
  same : context_of l.here ≡ context_of l.initial.here;
  ends : (step : Passing) → Sees l.view.table.now l.view.env.now step
      → ends_of_all (context_of l.initial.here) (map (walk step) (drop l.part-index l.parts)) l.so_far l.m
      ≡ ends_of_all (context_of l.initial.here) (map (walk step) l.parts) l.fn.so_far l.m;
  writes : (step : Passing) → Sees l.view.table.now l.view.env.now step
      → map (written (named l.view.table.now)) l.out.items
      ++ map Some (start_in_turn (context_of l.initial.here) (map (walk step) (drop l.part-index l.parts)) l.guard l.m)
      ≡ map (written (named l.view.table.now)) l.initial.out.items
      ++ map Some (start_in_turn (context_of l.initial.here) (map (walk step) l.parts) l.fn.g l.m);
}

abbrev pub invariant-start_all-loop-part : goal.invariant-start_all-loop-part
invariant-start_all-loop-part l = record {
  same : context_of l.here ≡ context_of l.initial.here;
  ends : (step : Passing) → Sees l.view.table.now l.view.env.now step
      → ends_of_all (context_of l.initial.here) (map (walk step) (drop l.part-index l.parts)) l.so_far l.m
      ≡ (parallel (residing step) (map (walk step) l.parts)).ends (context_of l.initial.here) l.m;
  writes : (step : Passing) → Sees l.view.table.now l.view.env.now step
      → map (written (named l.view.table.now)) l.out.items
      ++ map Some ((parallel (residing step) (map (walk step) (drop l.part-index l.parts))).start (context_of l.initial.here) l.g l.m)
      ≡ map (written (named l.view.table.now)) l.initial.out.items
      ++ map Some ((parallel (residing step) (map (walk step) l.parts)).start (context_of l.initial.here) l.g l.m);
}
