-- What is written and what is to come is all.
use Rattle.std.proofs.Common.{◌≡◌, ◌++◌, ◌∷◌, drop, string_bytes}
use Rattle.std.specs.List.{flat_map}
use Rattle.std.specs.Fmt.{decimal}
use Rattle.qz_trace.proofs.print.push_others.Given as goal

abbrev pub invariant-loop-number : goal.invariant-loop-number
invariant-loop-number l =
    string_bytes l.text ++ flat_map (λ m. 32 ∷ decimal m) (drop l.number-index l.numbers)
    ≡ string_bytes l.initial.text ++ flat_map (λ m. 32 ∷ decimal m) l.numbers
