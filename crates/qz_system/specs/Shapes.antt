-- The places and the cells in a shape, each kind as the list of them in tree order.
use Rattle.std.specs.Prelude.{ℕ, List, [], ◌∷◌, ◌++◌}
use Rattle.std.specs.List.{concat}
use Rattle.qz_system.specs.declared.shape.Shape.{Shape}
use Rattle.qz_system.specs.declared.shape.Shape.TheOpen.{Shape-F}
use Rattle.qz_system.specs.declared.shape.Shape.TheFolds.{fold-Shape}

-- the results of a shape's parts, in tree order
abbrev pub parts_of : {A : Type 0} → Shape-F A → List A
parts_of Shape-F.Leaf = []
parts_of (Shape-F.Place place) = []
parts_of (Shape-F.Seq parts) = parts
parts_of (Shape-F.Par parts) = parts
parts_of (Shape-F.If first second) = first ∷ second ∷ []
parts_of (Shape-F.Body body) = body ∷ []
parts_of (Shape-F.Hold place body) = body ∷ []
parts_of (Shape-F.Scope cells body) = body ∷ []

-- a pause has its place, and a suspend its hold place
abbrev pub own_places : Shape-F (List ℕ) → List ℕ
own_places (Shape-F.Place place) = place ∷ []
own_places (Shape-F.Hold place body) = place ∷ []
own_places other = []

-- a scope has its cells
abbrev pub own_cells : Shape-F (List ℕ) → List ℕ
own_cells (Shape-F.Scope cells body) = cells
own_cells other = []

-- the places
abbrev pub shape_places : Shape → List ℕ
shape_places = fold-Shape (List ℕ) (λ node. own_places node ++ concat (parts_of node))

-- the cells, where their scopes are
abbrev pub shape_cells : Shape → List ℕ
shape_cells = fold-Shape (List ℕ) (λ node. own_cells node ++ concat (parts_of node))
