use Rattle.std.proofs.Common.{◌≡◌, ◌++◌, map, drop}
use Rattle.qz_values.specs.declared.Know.TheVariants.{Known}
use Rattle.qz_values.specs.Values.{yes}
use Rattle.qz_meaning.specs.Sequences.{start_in_turn, ends_of_all}
use Rattle.qz_control.specs.Circuits.{View, Views, known, Grows, IsBool}
use Rattle.qz_control.specs.Contexts.{context_of}
use Rattle.qz_control.specs.Mirrors.{walks}
use Rattle.qz_control.specs.Mirror.{mirror_of}
use Rattle.qz_surface.specs.Written.{read_writes, hidden, start_at_once, AreWrites}
use Rattle.qz_surface.proofs.starting.+surface.Given as goal

abbrev pub invariant-start_in_turn-loop-index : goal.invariant-start_in_turn-loop-index
invariant-start_in_turn-loop-index l = record {
  grows : Grows l.fn.circuit l.circuit;
  marks : context_of l.marks ≡ context_of l.fn.marks;
  guard : IsBool l.circuit l.guard;
  ty : IsBool l.circuit l.so_far;
  ends : (v : View) → Views v l.circuit →
      ends_of_all (context_of l.fn.marks) (walks (map (mirror_of v.leaves.scene) (drop l.index l.parts))) (known v l.so_far) l.m
      ≡ ends_of_all (context_of l.fn.marks) (walks (map (mirror_of v.leaves.scene) l.parts)) (Known yes) l.m;
  writes : (v : View) → Views v l.circuit →
      read_writes v l.writes.items ++ hidden (known v l.live) (start_in_turn (context_of l.fn.marks) (walks (map (mirror_of v.leaves.scene) (drop l.index l.parts))) (known v l.guard) l.m)
      ≡ read_writes v l.fn.writes.items ++ hidden (known v l.live) (start_in_turn (context_of l.fn.marks) (walks (map (mirror_of v.leaves.scene) l.parts)) (known v l.fn.start) l.m);
  typed : AreWrites l.owner l.fn.circuit l.fn.writes.items → AreWrites l.owner l.circuit l.writes.items;
}

abbrev pub invariant-start_at_once-loop-index : goal.invariant-start_at_once-loop-index
invariant-start_at_once-loop-index l = record {
  grows : Grows l.fn.circuit l.circuit;
  marks : context_of l.marks ≡ context_of l.fn.marks;
  ty : IsBool l.circuit l.so_far;
  ends : (v : View) → Views v l.circuit →
      ends_of_all (context_of l.fn.marks) (walks (map (mirror_of v.leaves.scene) (drop l.index l.parts))) (known v l.so_far) l.m
      ≡ ends_of_all (context_of l.fn.marks) (walks (map (mirror_of v.leaves.scene) l.parts)) (Known yes) l.m;
  writes : (v : View) → Views v l.circuit →
      read_writes v l.writes.items ++ hidden (known v l.live) (start_at_once (context_of l.fn.marks) (walks (map (mirror_of v.leaves.scene) (drop l.index l.parts))) (known v l.start) l.m)
      ≡ read_writes v l.fn.writes.items ++ hidden (known v l.live) (start_at_once (context_of l.fn.marks) (walks (map (mirror_of v.leaves.scene) l.parts)) (known v l.start) l.m);
  typed : AreWrites l.owner l.fn.circuit l.fn.writes.items → AreWrites l.owner l.circuit l.writes.items;
}
