use Rattle.std.proofs.Common.{◌≡◌, ◌++◌, ◌-◌, map}
use Rattle.std.specs.Fmt.{decimal}
use Rattle.std.specs.List.{range_with_len}
use Rattle.qz_expand.proofs.texts.loop_texts.Given as goal

abbrev pub invariant-loop-number : goal.invariant-loop-number
invariant-loop-number l =
    l.texts.items ++ map decimal (range_with_len l.number-counter (l.loops - l.number-counter)) ≡ map decimal (range_with_len 0 l.loops)
