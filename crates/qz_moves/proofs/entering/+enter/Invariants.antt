use Rattle.std.proofs.Common.{◌≡◌, ◌++◌, map, drop}
use Rattle.qz_values.specs.declared.Know.TheVariants.{Known}
use Rattle.qz_values.specs.Values.{yes, no}
use Rattle.qz_meaning.specs.Sequences.{ends_of_all}
use Rattle.qz_control.specs.Circuits.{View, Views, known, Grows, IsBool}
use Rattle.qz_control.specs.Contexts.{context_of}
use Rattle.qz_control.specs.Mirrors.{walks}
use Rattle.qz_control.specs.MemberMirrors.{enter_all, rests_all, enter_each, rests_each}
use Rattle.qz_control.specs.Mirror.{mirror_of}
use Rattle.qz_moves.specs.Told.{AreEntered}
use Rattle.qz_moves.specs.Appended.{read_spots, AreTests}
use Rattle.qz_moves.proofs.entering.+enter.Given as goal

abbrev pub invariant-enter_in_turn-loop-index : goal.invariant-enter_in_turn-loop-index
invariant-enter_in_turn-loop-index l = record {
  grows : Grows l.fn.circuit l.circuit;
  marks : context_of l.marks ≡ context_of l.fn.marks;
  guard : IsBool l.circuit l.guard;
  ty : AreEntered l.circuit l.so_far;
  ends : (v : View) → Views v l.circuit →
      ends_of_all (context_of l.fn.marks) (walks (map (mirror_of v.leaves.scene) (drop l.index l.parts))) (known v l.so_far.ends) l.m
      ≡ ends_of_all (context_of l.fn.marks) (walks (map (mirror_of v.leaves.scene) l.parts)) (Known yes) l.m;
  rests : (v : View) → Views v l.circuit →
      rests_all (context_of l.fn.marks) (map (mirror_of v.leaves.scene) (drop l.index l.parts)) l.m (known v l.guard) (known v l.so_far.rests)
      ≡ rests_all (context_of l.fn.marks) (map (mirror_of v.leaves.scene) l.parts) l.m (known v l.fn.start) (Known no);
  spots : (v : View) → Views v l.circuit →
      read_spots v l.spots.items ++ enter_all (context_of l.fn.marks) (map (mirror_of v.leaves.scene) (drop l.index l.parts)) l.m (known v l.guard)
      ≡ read_spots v l.fn.spots.items ++ enter_all (context_of l.fn.marks) (map (mirror_of v.leaves.scene) l.parts) l.m (known v l.fn.start);
  tests : AreTests l.fn.circuit l.fn.spots.items → AreTests l.circuit l.spots.items;
}

abbrev pub invariant-enter_at_once-loop-index : goal.invariant-enter_at_once-loop-index
invariant-enter_at_once-loop-index l = record {
  grows : Grows l.fn.circuit l.circuit;
  marks : context_of l.marks ≡ context_of l.fn.marks;
  ty : AreEntered l.circuit l.so_far;
  ends : (v : View) → Views v l.circuit →
      ends_of_all (context_of l.fn.marks) (walks (map (mirror_of v.leaves.scene) (drop l.index l.parts))) (known v l.so_far.ends) l.m
      ≡ ends_of_all (context_of l.fn.marks) (walks (map (mirror_of v.leaves.scene) l.parts)) (Known yes) l.m;
  rests : (v : View) → Views v l.circuit →
      rests_each (context_of l.fn.marks) (map (mirror_of v.leaves.scene) (drop l.index l.parts)) l.m (known v l.start) (known v l.so_far.rests)
      ≡ rests_each (context_of l.fn.marks) (map (mirror_of v.leaves.scene) l.parts) l.m (known v l.start) (Known no);
  spots : (v : View) → Views v l.circuit →
      read_spots v l.spots.items ++ enter_each (context_of l.fn.marks) (map (mirror_of v.leaves.scene) (drop l.index l.parts)) l.m (known v l.start)
      ≡ read_spots v l.fn.spots.items ++ enter_each (context_of l.fn.marks) (map (mirror_of v.leaves.scene) l.parts) l.m (known v l.start);
  tests : AreTests l.fn.circuit l.fn.spots.items → AreTests l.circuit l.spots.items;
}
