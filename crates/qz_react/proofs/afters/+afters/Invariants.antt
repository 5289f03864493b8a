use Rattle.std.proofs.Common.{◌≡◌, ◌++◌, map, drop, None}
use Rattle.qz_meaning.specs.Scenes.{Passing}
use Rattle.qz_meaning.specs.Residuals.{branches_of}
use Rattle.qz_meaning.specs.Parallels.{parallel, resting, ended_of_all, each_branch}
use Rattle.qz_meaning.specs.Residing.{residing, walk, Walk}
use Rattle.qz_react.specs.Contexts.{context_of}
use Rattle.qz_react.specs.Landing.{Passes, by_way}
use Rattle.qz_react.proofs.afters.+afters.Given as goal

abbrev pub invariant-after_parallel-loop-part : goal.invariant-after_parallel-loop-part
invariant-after_parallel-loop-part l = record {
  same : context_of l.here ≡ context_of l.initial.here;
  ended : (step : Passing) → Passes l.land.module.now l.land.view.table.now l.land.view.env.now step
      → ended_of_all (context_of l.initial.here) (resting (map (walk step) (drop l.part-index l.parts)) l.others) l.so_far
      ≡ (parallel (residing step) (map (walk step) l.parts)).ended (context_of l.initial.here) l.r;
  places : (step : Passing) → Passes l.land.module.now l.land.view.table.now l.land.view.env.now step
      → l.places.items ++ each_branch None (λ (part : Walk) inside. by_way l.way (part.after (context_of l.initial.here) inside) (part.kept inside)) (map (walk step) (drop l.part-index l.parts)) l.others
      ≡ each_branch None (λ (part : Walk) inside. by_way l.way (part.after (context_of l.initial.here) inside) (part.kept inside)) (map (walk step) l.parts) (branches_of l.r);
}
