use Rattle.std.proofs.Common.{◌≡◌, map, drop}
use Rattle.qz_values.specs.declared.Know.TheVariants.{Known}
use Rattle.qz_values.specs.Values.{yes, no}
use Rattle.qz_syntax.specs.declared.places.Mark.TheVariants as mark
use Rattle.qz_meaning.specs.Sequences.{ends_of_all}
use Rattle.qz_control.specs.Circuits.{View, Views, known, Grows}
use Rattle.qz_control.specs.Contexts.{context_of}
use Rattle.qz_control.specs.Mirrors.{walks, any_inside}
use Rattle.qz_control.specs.MemberMirrors.{ended_all, ended_each}
use Rattle.qz_control.specs.Mirror.{mirror_of}
use Rattle.qz_terms.specs.Told.{AreBools}
use Rattle.qz_terms.proofs.resting.+terms.Given as goal

abbrev pub invariant-terms_in_turn-loop-index : goal.invariant-terms_in_turn-loop-index
invariant-terms_in_turn-loop-index l = record {
  grows : Grows l.fn.circuit l.circuit;
  marks : context_of l.marks ≡ context_of l.fn.marks;
  ty : AreBools l.circuit l.so_far;
  inside : (v : View) → Views v l.circuit →
      any_inside (map (mirror_of v.leaves.scene) (drop l.index l.parts)) v.leaves.at (known v l.so_far.inside)
      ≡ any_inside (map (mirror_of v.leaves.scene) l.parts) v.leaves.at (Known no);
  ended : (v : View) → Views v l.circuit →
      ended_all (context_of l.fn.marks) (map (mirror_of v.leaves.scene) (drop l.index l.parts)) v.leaves.at (known v l.so_far.inside) (known v l.so_far.ended)
      ≡ ended_all (context_of l.fn.marks) (map (mirror_of v.leaves.scene) l.parts) v.leaves.at (Known no) (Known no);
  ends : (v : View) → Views v l.circuit →
      ends_of_all (context_of l.fn.marks) (walks (map (mirror_of v.leaves.scene) (drop l.index l.parts))) (known v l.so_far.ends) mark.Zero
      ≡ ends_of_all (context_of l.fn.marks) (walks (map (mirror_of v.leaves.scene) l.parts)) (Known yes) mark.Zero;
}

abbrev pub invariant-terms_of_each-loop-index : goal.invariant-terms_of_each-loop-index
invariant-terms_of_each-loop-index l = record {
  grows : Grows l.fn.circuit l.circuit;
  marks : context_of l.marks ≡ context_of l.fn.marks;
  ty : AreBools l.circuit l.so_far;
  inside : (v : View) → Views v l.circuit →
      any_inside (map (mirror_of v.leaves.scene) (drop l.index l.parts)) v.leaves.at (known v l.so_far.inside)
      ≡ any_inside (map (mirror_of v.leaves.scene) l.parts) v.leaves.at (Known no);
  ended : (v : View) → Views v l.circuit →
      ended_each (context_of l.fn.marks) (map (mirror_of v.leaves.scene) (drop l.index l.parts)) v.leaves.at (known v l.so_far.ended)
      ≡ ended_each (context_of l.fn.marks) (map (mirror_of v.leaves.scene) l.parts) v.leaves.at (Known yes);
  ends : (v : View) → Views v l.circuit →
      ends_of_all (context_of l.fn.marks) (walks (map (mirror_of v.leaves.scene) (drop l.index l.parts))) (known v l.so_far.ends) mark.Zero
      ≡ ends_of_all (context_of l.fn.marks) (walks (map (mirror_of v.leaves.scene) l.parts)) (Known yes) mark.Zero;
}
