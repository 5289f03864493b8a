use Rattle.std.proofs.Common.{◌≡◌, ◌++◌, map, drop}
use Rattle.qz_meaning.specs.Scenes.{Passing}
use Rattle.qz_meaning.specs.Sequences.{ends_of_all, rest_in_first}
use Rattle.qz_meaning.specs.Parallels.{parallel}
use Rattle.qz_meaning.specs.Residing.{residing, walk, Walk}
use Rattle.qz_react.specs.Contexts.{context_of}
use Rattle.qz_react.specs.Landing.{Passes, sought}
use Rattle.qz_react.proofs.rests.+rests.Given as goal

abbrev pub invariant-rest_parts-loop-part : goal.invariant-rest_parts-loop-part
invariant-rest_parts-loop-part l = record {
  same : context_of l.here ≡ context_of l.initial.here;
  ends : (step : Passing) → Passes l.land.module.now l.land.view.table.now l.land.view.env.now step
      → ends_of_all (context_of l.initial.here) (map (walk step) (drop l.part-index l.parts)) l.so_far l.m
      ≡ ends_of_all (context_of l.initial.here) (map (walk step) l.parts) l.fn.so_far l.m;
  place : (step : Passing) → Passes l.land.module.now l.land.view.table.now l.land.view.env.now step
      → sought (residing step) (context_of l.initial.here) l.search (map (walk step) (drop l.part-index l.parts)) l.m
      ≡ rest_in_first (residing step) (context_of l.initial.here) (map (walk step) l.parts) l.fn.number l.m;
}

abbrev pub invariant-rest_all-loop-part : goal.invariant-rest_all-loop-part
invariant-rest_all-loop-part l = record {
  same : context_of l.here ≡ context_of l.initial.here;
  ends : (step : Passing) → Passes l.land.module.now l.land.view.table.now l.land.view.env.now step
      → ends_of_all (context_of l.initial.here) (map (walk step) (drop l.part-index l.parts)) l.so_far l.m
      ≡ (parallel (residing step) (map (walk step) l.parts)).ends (context_of l.initial.here) l.m;
  places : (step : Passing) → Passes l.land.module.now l.land.view.table.now l.land.view.env.now step
      → l.branches.items ++ map (λ (part : Walk). part.rest (context_of l.initial.here) l.m) (map (walk step) (drop l.part-index l.parts))
      ≡ map (λ (part : Walk). part.rest (context_of l.initial.here) l.m) (map (walk step) l.parts);
}
