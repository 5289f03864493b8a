use Rattle.std.proofs.Common.{◌≡◌, ◌++◌, map, drop, Some, flat_map}
use Rattle.qz_values.specs.declared.Know.TheVariants.{Known}
use Rattle.qz_values.specs.Values.{yes}
use Rattle.qz_syntax.specs.declared.places.Residual.{Residual}
use Rattle.qz_meaning.specs.Scenes.{Passing}
use Rattle.qz_meaning.specs.Parallels.{parallel, resting, ended_of_all}
use Rattle.qz_meaning.specs.Residing.{residing, walk, Walk}
use Rattle.qz_react.specs.Contexts.{context_of}
use Rattle.qz_react.specs.Seeing.{Sees, named, written}
use Rattle.qz_react.proofs.resumes.+resumes.Given as goal

abbrev pub invariant-resume_parallel-loop-part : goal.invariant-resume_parallel-loop-part
invariant-resume_parallel-loop-part l = record {
  same : context_of l.here ≡ context_of l.initial.here;
  ended : (step : Passing) → Sees l.view.table.now l.view.env.now step
      → ended_of_all (context_of l.initial.here) (resting (map (walk step) (drop l.part-index l.parts)) l.others) l.so_far
      ≡ (parallel (residing step) (map (walk step) l.parts)).ended (context_of l.initial.here) l.r;
  writes : (step : Passing) → Sees l.view.table.now l.view.env.now step
      → map (written (named l.view.table.now)) l.out.items
      ++ map Some (flat_map (λ (one : Walk × Residual). one.0.resume (context_of l.initial.here) one.1 l.g) (resting (map (walk step) (drop l.part-index l.parts)) l.others))
      ≡ map (written (named l.view.table.now)) l.initial.out.items
      ++ map Some ((parallel (residing step) (map (walk step) l.parts)).resume (context_of l.initial.here) l.r l.g);
}
