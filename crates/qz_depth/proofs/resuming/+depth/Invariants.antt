use Rattle.std.proofs.Common.{◌≡◌, ◌++◌, map, drop}
use Rattle.qz_values.specs.declared.Know.TheVariants.{Known}
use Rattle.qz_values.specs.Values.{yes, no}
use Rattle.qz_syntax.specs.declared.places.Mark.TheVariants as mark
use Rattle.qz_meaning.specs.Sequences.{ends_of_all}
use Rattle.qz_control.specs.Circuits.{View, Views, known, Grows, IsBool}
use Rattle.qz_control.specs.Contexts.{context_of}
use Rattle.qz_control.specs.Mirrors.{walks, any_inside}
use Rattle.qz_control.specs.MemberMirrors.{ended_all, ended_each, run_all, run_each}
use Rattle.qz_control.specs.Mirror.{mirror_of}
use Rattle.qz_control.specs.Shown.{shown}
use Rattle.qz_terms.specs.Told.{AreBools}
use Rattle.qz_surface.specs.Written.{read_writes, AreWrites}
use Rattle.qz_depth.proofs.resuming.+depth.Given as goal

abbrev pub invariant-resume_in_turn-loop-index : goal.invariant-resume_in_turn-loop-index
invariant-resume_in_turn-loop-index l = record {
  grows : Grows l.fn.circuit l.circuit;
  marks : context_of l.marks ≡ context_of l.fn.marks;
  guard : IsBool l.circuit l.guard;
  alive : IsBool l.circuit l.alive;
  ty : AreBools l.circuit l.so_far;
  inside : (v : View) → Views v l.circuit →
      any_inside (map (mirror_of v.leaves.scene) (drop l.index l.parts)) v.leaves.at (known v l.so_far.inside)
      ≡ any_inside (map (mirror_of v.leaves.scene) l.parts) v.leaves.at (Known no);
  ended : (v : View) → Views v l.circuit →
      ended_all (context_of l.fn.marks) (map (mirror_of v.leaves.scene) (drop l.index l.parts)) v.leaves.at (known v l.so_far.inside) (known v l.so_far.ended)
      ≡ ended_all (context_of l.fn.marks) (map (mirror_of v.leaves.scene) l.parts) v.leaves.at (Known no) (Known no);
  ends : (v : View) → Views v l.circuit →
      ends_of_all (context_of l.fn.marks) (walks (map (mirror_of v.leaves.scene) (drop l.index l.parts))) (known v l.so_far.ends) mark.Zero
      ≡ ends_of_all (context_of l.fn.marks) (walks (map (mirror_of v.leaves.scene) l.parts)) (Known yes) mark.Zero;
  writes : (v : View) → Views v l.circuit →
      read_writes v l.writes.items
      ++ shown (run_all (context_of l.fn.marks) (map (mirror_of v.leaves.scene) (drop l.index l.parts)) v.leaves.at (known v l.act) (known v l.alive) (known v l.guard))
      ≡ read_writes v l.fn.writes.items
      ++ shown (run_all (context_of l.fn.marks) (map (mirror_of v.leaves.scene) l.parts) v.leaves.at (known v l.act) (known v l.fn.live) (known v l.fn.start));
  typed : AreWrites l.owner l.fn.circuit l.fn.writes.items → AreWrites l.owner l.circuit l.writes.items;
}

abbrev pub invariant-resume_each-loop-index : goal.invariant-resume_each-loop-index
invariant-resume_each-loop-index l = record {
  grows : Grows l.fn.circuit l.circuit;
  marks : context_of l.marks ≡ context_of l.fn.marks;
  ty : AreBools l.circuit l.so_far;
  inside : (v : View) → Views v l.circuit →
      any_inside (map (mirror_of v.leaves.scene) (drop l.index l.parts)) v.leaves.at (known v l.so_far.inside)
      ≡ any_inside (map (mirror_of v.leaves.scene) l.parts) v.leaves.at (Known no);
  ended : (v : View) → Views v l.circuit →
      ended_each (context_of l.fn.marks) (map (mirror_of v.leaves.scene) (drop l.index l.parts)) v.leaves.at (known v l.so_far.ended)
      ≡ ended_each (context_of l.fn.marks) (map (mirror_of v.leaves.scene) l.parts) v.leaves.at (Known yes);
  ends : (v : View) → Views v l.circuit →
      ends_of_all (context_of l.fn.marks) (walks (map (mirror_of v.leaves.scene) (drop l.index l.parts))) (known v l.so_far.ends) mark.Zero
      ≡ ends_of_all (context_of l.fn.marks) (walks (map (mirror_of v.leaves.scene) l.parts)) (Known yes) mark.Zero;
  writes : (v : View) → Views v l.circuit →
      read_writes v l.writes.items
      ++ shown (run_each (context_of l.fn.marks) (map (mirror_of v.leaves.scene) (drop l.index l.parts)) v.leaves.at (known v l.act) (known v l.live) (known v l.start))
      ≡ read_writes v l.fn.writes.items
      ++ shown (run_each (context_of l.fn.marks) (map (mirror_of v.leaves.scene) l.parts) v.leaves.at (known v l.act) (known v l.live) (known v l.start));
  typed : AreWrites l.owner l.fn.circuit l.fn.writes.items → AreWrites l.owner l.circuit l.writes.items;
}
