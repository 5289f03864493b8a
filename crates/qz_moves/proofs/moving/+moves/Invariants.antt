use Rattle.std.proofs.Common.{◌≡◌, ◌++◌, map, drop}
use Rattle.qz_values.specs.declared.Know.TheVariants.{Known}
use Rattle.qz_values.specs.Values.{yes, no}
use Rattle.qz_syntax.specs.declared.places.Mark.TheVariants as mark
use Rattle.qz_meaning.specs.Sequences.{ends_of_all}
use Rattle.qz_control.specs.Circuits.{View, Views, known, Grows, IsBool}
use Rattle.qz_control.specs.Contexts.{context_of}
use Rattle.qz_control.specs.Mirrors.{walks, any_inside}
use Rattle.qz_control.specs.MemberMirrors.{ended_all, ended_each, move_all, moved_all, move_each, moved_each}
use Rattle.qz_control.specs.Mirror.{mirror_of}
use Rattle.qz_moves.specs.Told.{AreMoved}
use Rattle.qz_moves.specs.Appended.{read_spots, AreTests}
use Rattle.qz_moves.proofs.moving.+moves.Given as goal

abbrev pub invariant-move_in_turn-loop-index : goal.invariant-move_in_turn-loop-index
invariant-move_in_turn-loop-index l = record {
  grows : Grows l.fn.circuit l.circuit;
  marks : context_of l.marks ≡ context_of l.fn.marks;
  guard : IsBool l.circuit l.guard;
  ty : AreMoved l.circuit l.so_far;
  inside : (v : View) → Views v l.circuit →
      any_inside (map (mirror_of v.leaves.scene) (drop l.index l.parts)) v.leaves.at (known v l.so_far.terms.inside)
      ≡ any_inside (map (mirror_of v.leaves.scene) l.parts) v.leaves.at (Known no);
  ended : (v : View) → Views v l.circuit →
      ended_all (context_of l.fn.marks) (map (mirror_of v.leaves.scene) (drop l.index l.parts)) v.leaves.at (known v l.so_far.terms.inside) (known v l.so_far.terms.ended)
      ≡ ended_all (context_of l.fn.marks) (map (mirror_of v.leaves.scene) l.parts) v.leaves.at (Known no) (Known no);
  ends : (v : View) → Views v l.circuit →
      ends_of_all (context_of l.fn.marks) (walks (map (mirror_of v.leaves.scene) (drop l.index l.parts))) (known v l.so_far.terms.ends) mark.Zero
      ≡ ends_of_all (context_of l.fn.marks) (walks (map (mirror_of v.leaves.scene) l.parts)) (Known yes) mark.Zero;
  rests : (v : View) → Views v l.circuit →
      moved_all (context_of l.fn.marks) (map (mirror_of v.leaves.scene) (drop l.index l.parts)) v.leaves.at (known v l.stay) (known v l.go) (known v l.guard) (known v l.so_far.rests)
      ≡ moved_all (context_of l.fn.marks) (map (mirror_of v.leaves.scene) l.parts) v.leaves.at (known v l.stay) (known v l.go) (known v l.fn.start) (Known no);
  spots : (v : View) → Views v l.circuit →
      read_spots v l.spots.items
      ++ move_all (context_of l.fn.marks) (map (mirror_of v.leaves.scene) (drop l.index l.parts)) v.leaves.at (known v l.stay) (known v l.go) (known v l.guard)
      ≡ read_spots v l.fn.spots.items
      ++ move_all (context_of l.fn.marks) (map (mirror_of v.leaves.scene) l.parts) v.leaves.at (known v l.stay) (known v l.go) (known v l.fn.start);
  tests : AreTests l.fn.circuit l.fn.spots.items → AreTests l.circuit l.spots.items;
}

abbrev pub invariant-move_each-loop-index : goal.invariant-move_each-loop-index
invariant-move_each-loop-index l = record {
  grows : Grows l.fn.circuit l.circuit;
  marks : context_of l.marks ≡ context_of l.fn.marks;
  ty : AreMoved l.circuit l.so_far;
  inside : (v : View) → Views v l.circuit →
      any_inside (map (mirror_of v.leaves.scene) (drop l.index l.parts)) v.leaves.at (known v l.so_far.terms.inside)
      ≡ any_inside (map (mirror_of v.leaves.scene) l.parts) v.leaves.at (Known no);
  ended : (v : View) → Views v l.circuit →
      ended_each (context_of l.fn.marks) (map (mirror_of v.leaves.scene) (drop l.index l.parts)) v.leaves.at (known v l.so_far.terms.ended)
      ≡ ended_each (context_of l.fn.marks) (map (mirror_of v.leaves.scene) l.parts) v.leaves.at (Known yes);
  ends : (v : View) → Views v l.circuit →
      ends_of_all (context_of l.fn.marks) (walks (map (mirror_of v.leaves.scene) (drop l.index l.parts))) (known v l.so_far.terms.ends) mark.Zero
      ≡ ends_of_all (context_of l.fn.marks) (walks (map (mirror_of v.leaves.scene) l.parts)) (Known yes) mark.Zero;
  rests : (v : View) → Views v l.circuit →
      moved_each (context_of l.fn.marks) (map (mirror_of v.leaves.scene) (drop l.index l.parts)) v.leaves.at (known v l.stay) (known v l.go) (known v l.start) (known v l.so_far.rests)
      ≡ moved_each (context_of l.fn.marks) (map (mirror_of v.leaves.scene) l.parts) v.leaves.at (known v l.stay) (known v l.go) (known v l.start) (Known no);
  spots : (v : View) → Views v l.circuit →
      read_spots v l.spots.items
      ++ move_each (context_of l.fn.marks) (map (mirror_of v.leaves.scene) (drop l.index l.parts)) v.leaves.at (known v l.stay) (known v l.go) (known v l.start)
      ≡ read_spots v l.fn.spots.items
      ++ move_each (context_of l.fn.marks) (map (mirror_of v.leaves.scene) l.parts) v.leaves.at (known v l.stay) (known v l.go) (known v l.start);
  tests : AreTests l.fn.circuit l.fn.spots.items → AreTests l.circuit l.spots.items;
}
