use Rattle.std.proofs.Common.{◌≡◌, ◌<◌, ℕ, Some, get_or, length}
use Rattle.std.specs.Prelude.{slice_get, slice_index_or}
use Rattle.qz_values.specs.declared.Know.TheVariants.{Unknown}
use Rattle.qz_syntax.specs.declared.places.Later.TheVariants as later
use Rattle.qz_system.specs.declared.parts.Inst.{Inst}
use Rattle.qz_system.specs.Writers.{held}
use Rattle.qz_system.specs.Rounds.{settles}
use Rattle.qz_system.proofs.settling.settle_values.Given as goal

abbrev pub invariant-loop-number : goal.invariant-loop-number
invariant-loop-number l =
    (n : ℕ) → n < l.number → (one : Inst) → slice_get l.parts.instances n ≡ Some one
    → slice_index_or l.now n Unknown ≡ settles l.parts l.v one (held (slice_index_or l.verdicts n later.Absent))
