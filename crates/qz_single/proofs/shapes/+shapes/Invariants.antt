use Rattle.std.proofs.Common.{◌≡◌, map, take}
use Rattle.qz_closing.specs.ShapesOf.{shape_of}
use Rattle.qz_single.proofs.shapes.+shapes.Given as goal

abbrev pub invariant-shapes_of-loop-part : goal.invariant-shapes_of-loop-part
invariant-shapes_of-loop-part l = l.shapes ≡ map (shape_of l.outputs) (take l.part-index l.parts)
