use Rattle.std.proofs.Common.{◌≡◌, ◌++◌, map, drop}
use Rattle.std.specs.List.{concat}
use Rattle.qz_system.specs.Shapes.{shape_places}
use Rattle.qz_system.proofs.shaped.+places.Given as goal

abbrev pub invariant-add_places_of_all-loop-part : goal.invariant-add_places_of_all-loop-part
invariant-add_places_of_all-loop-part l =
    l.places.items ++ concat (map shape_places (drop l.part-index l.parts)) ≡ l.fn.places.items ++ concat (map shape_places l.parts)
