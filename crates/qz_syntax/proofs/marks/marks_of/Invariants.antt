use Rattle.std.proofs.Common.{◌≡◌, ◌∷◌, map, take}
use Rattle.qz_syntax.specs.declared.places.Mark.TheVariants.{Zero, Loop}
use Rattle.qz_syntax.proofs.marks.marks_of.Given as goal

abbrev pub invariant-loop-number : goal.invariant-loop-number
invariant-loop-number l = l.marks.items ≡ Zero ∷ map Loop (take l.number-index l.number-items)
