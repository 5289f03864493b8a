use Rattle.std.proofs.Common.{take}
use Rattle.std.specs.List.{flat_map}
use Rattle.qz_types.specs.Scopes.{meanings_of}
use Rattle.qz_types.specs.Declarations.{Declares, label_names}
use Rattle.qz_types.specs.FileFaults.{labels_of}
use Rattle.qz_types.proofs.labels.+labels.Given as goal

abbrev pub invariant-lists-loop-list : goal.invariant-lists-loop-list
invariant-lists-loop-list l =
    Declares (label_names (flat_map (λ list. flat_map labels_of list) (take l.list-index l.list-items)))
    (meanings_of l.initial.seen) (meanings_of l.seen) l.initial.first.fault l.first.fault

abbrev pub invariant-statements-loop-s : goal.invariant-statements-loop-s
invariant-statements-loop-s l =
    Declares (label_names (flat_map labels_of (take l.s-index l.list))) (meanings_of l.initial.seen) (meanings_of l.seen) l.initial.first.fault l.first.fault
