use Rattle.std.proofs.Common.{◌≡◌, ◌++◌, map, drop, Some, flat_map}
use Rattle.qz_syntax.specs.declared.places.Residual.{Residual}
use Rattle.qz_meaning.specs.Layouts.{Layout}
use Rattle.qz_meaning.specs.Parallels.{parallel_layout, resting}
use Rattle.qz_meaning.specs.Residing.{whole_layout}
use Rattle.qz_react.specs.Seeing.{named, met_by}
use Rattle.qz_react.proofs.meets.+meets_resume.Given as goal

abbrev pub invariant-meet_parallel-loop-part : goal.invariant-meet_parallel-loop-part
invariant-meet_parallel-loop-part l =
    map (met_by (named l.table)) l.out.items
    ++ map Some (flat_map (λ (one : Layout × Residual). one.0.met_on_resume one.1) (resting (map whole_layout (drop l.part-index l.parts)) l.others))
    ≡ map (met_by (named l.table)) l.initial.out.items ++ map Some ((parallel_layout (map whole_layout l.parts)).met_on_resume l.r)
