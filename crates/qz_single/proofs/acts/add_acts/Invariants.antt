use Rattle.std.proofs.Common.{◌≡◌, ◌++◌, map, take}
use Rattle.qz_syntax.specs.declared.modules.Module.{Module}
use Rattle.qz_single.specs.Numbering.{act_of}
use Rattle.qz_single.specs.Numbered.{IsNumbering}
use Rattle.qz_single.proofs.acts.add_acts.Given as goal

abbrev pub invariant-loop-write : goal.invariant-loop-write
invariant-loop-write l = (m : Module) → IsNumbering m l.numbering → l.acts ≡ l.initial.acts ++ map (act_of m) (take l.write-index l.writes)
