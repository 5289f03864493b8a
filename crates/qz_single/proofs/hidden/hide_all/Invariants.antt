use Rattle.std.proofs.Common.{◌≡◌, ◌++◌, map, drop}
use Rattle.qz_control.specs.Circuits.{View, Views, known, Grows}
use Rattle.qz_control.specs.Shown.{hide}
use Rattle.qz_surface.specs.Written.{read_writes, AreWrites}
use Rattle.qz_single.proofs.hidden.hide_all.Given as goal

abbrev pub invariant-loop-write : goal.invariant-loop-write
invariant-loop-write l = record {
  grows : Grows l.fn.circuit l.circuit;
  left : AreWrites l.owner l.circuit (drop l.write-index l.writes);
  typed : AreWrites l.owner l.circuit l.hidden.items;
  hidden : (v : View) → Views v l.circuit
      → read_writes v l.hidden.items ++ map (hide (known v l.live)) (read_writes v (drop l.write-index l.writes)) ≡ map (hide (known v l.live)) (read_writes v l.writes);
}
