use Rattle.std.proofs.Common.{◌≡◌, map, drop}
use Rattle.qz_values.specs.declared.Know.TheVariants.{Known}
use Rattle.qz_values.specs.Values.{no}
use Rattle.qz_control.specs.Circuits.{View, Views, known, Grows, IsBool}
use Rattle.qz_control.specs.Mirrors.{any_inside}
use Rattle.qz_control.specs.Mirror.{mirror_of}
use Rattle.qz_control.proofs.resting.+inside.Given as goal

abbrev pub invariant-inside_any-loop-part : goal.invariant-inside_any-loop-part
invariant-inside_any-loop-part l = record {
  grows : Grows l.fn.circuit l.circuit;
  ty : IsBool l.circuit l.so_far;
  rest : (v : View) → Views v l.circuit →
      any_inside (map (mirror_of v.leaves.scene) (drop l.part-index l.parts)) v.leaves.at (known v l.so_far)
      ≡ any_inside (map (mirror_of v.leaves.scene) l.parts) v.leaves.at (Known no);
}
