use Rattle.std.proofs.Common.{◌≡◌, ◌++◌, map, drop, Some}
use Rattle.qz_meaning.specs.Scopes.{met_new, met_kept}
use Rattle.qz_react.specs.Seeing.{named, met_by}
use Rattle.qz_react.proofs.meets.meet_kept.Given as goal

abbrev pub invariant-loop-local : goal.invariant-loop-local
invariant-loop-local l =
    map (met_by (named l.table)) l.out.items ++ map Some (met_kept (drop l.local-index l.locals) l.others)
    ≡ map (met_by (named l.table)) l.initial.out.items ++ map Some (met_kept l.locals l.stores)
