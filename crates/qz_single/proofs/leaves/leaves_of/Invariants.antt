use Rattle.std.proofs.Common.{◌≡◌, map, take}
use Rattle.qz_syntax.specs.declared.modules.Module.{Module}
use Rattle.qz_single.specs.Numbering.{leaf_of}
use Rattle.qz_single.specs.Numbered.{IsNumbering}
use Rattle.qz_single.proofs.leaves.leaves_of.Given as goal

abbrev pub invariant-loop-kind : goal.invariant-loop-kind
invariant-loop-kind l = (m : Module) → IsNumbering m l.numbering → l.leaves ≡ map (leaf_of m) (take l.kind-index l.kinds)
