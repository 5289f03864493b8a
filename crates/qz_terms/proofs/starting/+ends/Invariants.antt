use Rattle.std.proofs.Common.{◌≡◌, map, drop}
use Rattle.qz_values.specs.declared.Know.TheVariants.{Known}
use Rattle.qz_values.specs.Values.{yes}
use Rattle.qz_meaning.specs.Sequences.{ends_of_all}
use Rattle.qz_control.specs.Circuits.{View, Views, known, Grows, IsBool}
use Rattle.qz_control.specs.Contexts.{context_of}
use Rattle.qz_control.specs.Mirrors.{walks}
use Rattle.qz_control.specs.Mirror.{mirror_of}
use Rattle.qz_terms.proofs.starting.+ends.Given as goal

abbrev pub invariant-ends_all-loop-index : goal.invariant-ends_all-loop-index
invariant-ends_all-loop-index l = record {
  grows : Grows l.fn.circuit l.circuit;
  marks : context_of l.marks ≡ context_of l.fn.marks;
  ty : IsBool l.circuit l.so_far;
  ends : (v : View) → Views v l.circuit →
      ends_of_all (context_of l.fn.marks) (walks (map (mirror_of v.leaves.scene) (drop l.index l.parts))) (known v l.so_far) l.m
      ≡ ends_of_all (context_of l.fn.marks) (walks (map (mirror_of v.leaves.scene) l.parts)) (Known yes) l.m;
}
