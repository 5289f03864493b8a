use Rattle.std.proofs.Common.{◌≡◌, ◌||◌, map, drop}
use Rattle.std.specs.List.{list_any}
use Rattle.qz_syntax.specs.declared.expressions.Var.{Var}
use Rattle.qz_meaning.specs.Programs.{delays}
use Rattle.qz_single.specs.DelayedTo.{has}
use Rattle.qz_single.proofs.delayed.+adding.Given as goal

abbrev pub invariant-add_all-loop-part : goal.invariant-add_all-loop-part
invariant-add_all-loop-part l =
    (x : Var) → (has l.delayed x || list_any (λ part. part) (map (delays x) (drop l.part-index l.parts)))
    ≡ (has l.fn.delayed x || list_any (λ part. part) (map (delays x) l.parts))
