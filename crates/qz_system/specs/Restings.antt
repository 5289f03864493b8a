-- Where control rests in a shape, by the bits of its places.
use Rattle.std.specs.Prelude.{ℕ, Bool, true, false, not, ◌&&◌, ◌||◌, List, [], ◌∷◌, if◌then◌else◌}
use Rattle.qz_syntax.specs.Numbers.{contains}
use Rattle.qz_system.specs.declared.shape.Shape.{Shape}
use Rattle.qz_system.specs.declared.shape.Shape.TheOpen.{Shape-F}
use Rattle.qz_system.specs.declared.shape.Shape.TheFolds.{fold-Shape}
use Rattle.qz_system.specs.declared.resting.Resting.{Resting}
use Rattle.qz_system.specs.declared.resting.Living.{Living}

abbrev pub resting : Bool → Bool → Resting
resting nowhere somewhere = record { nowhere = nowhere; somewhere = somewhere }

-- where control rests in one of these at most, and one more
abbrev pub or_in : Resting → Resting → Resting
or_in so_far one = resting (so_far.nowhere && one.nowhere) ((so_far.somewhere && one.nowhere) || (so_far.nowhere && one.somewhere))

-- where control may rest in some of these, and one more
abbrev pub and_in : Resting → Resting → Resting
and_in so_far one =
    resting (so_far.nowhere && one.nowhere) ((so_far.somewhere && (one.nowhere || one.somewhere)) || (so_far.nowhere && one.somewhere))

-- members of which control rests in one
abbrev pub in_one : Resting → List Resting → Resting
in_one so_far [] = so_far
in_one so_far (one ∷ others) = in_one (or_in so_far one) others

-- members of which control rests in at least one
abbrev pub in_some : Resting → List Resting → Resting
in_some so_far [] = so_far
in_some so_far (one ∷ others) = in_some (and_in so_far one) others

-- at a place
abbrev pub at_place : Bool → Resting
at_place bit = resting (not bit) bit

-- one shape, with that of each part in its place
abbrev pub node_resting : (ℕ → Bool) → Shape-F Resting → Resting
node_resting bits Shape-F.Leaf = resting true false
node_resting bits (Shape-F.Place place) = at_place (bits place)
node_resting bits (Shape-F.Seq parts) = in_one (resting true false) parts
node_resting bits (Shape-F.Par parts) = in_some (resting true false) parts
node_resting bits (Shape-F.If first second) = or_in first second
node_resting bits (Shape-F.Body body) = body
node_resting bits (Shape-F.Hold place body) = or_in (at_place (bits place)) body
node_resting bits (Shape-F.Scope cells body) = body

-- whether control rests nowhere in a shape, and whether it rests there as the shape permits
abbrev pub resting_of : (ℕ → Bool) → Shape → Resting
resting_of bits = fold-Shape Resting (node_resting bits)

abbrev pub living : Bool → Bool → Living
living rests lives = record { rests = rests; lives = lives }

-- members
abbrev pub beside : Living → Living → Living
beside so_far one = living (so_far.rests || one.rests) (so_far.lives || one.lives)

abbrev pub living_over : Living → List Living → Living
living_over so_far [] = so_far
living_over so_far (one ∷ others) = living_over (beside so_far one) others

-- one shape, with that of each part in its place
abbrev pub node_living : (ℕ → Bool) → ℕ → Shape-F Living → Living
node_living bits cell Shape-F.Leaf = living false false
node_living bits cell (Shape-F.Place place) = living (bits place) false
node_living bits cell (Shape-F.Seq parts) = living_over (living false false) parts
node_living bits cell (Shape-F.Par parts) = living_over (living false false) parts
node_living bits cell (Shape-F.If first second) = beside first second
node_living bits cell (Shape-F.Body body) = body
node_living bits cell (Shape-F.Hold place body) = beside (living (bits place) false) body
node_living bits cell (Shape-F.Scope cells body) = living body.rests (body.lives || (contains cells cell && body.rests))

-- whether control rests at a place of a shape, and whether at one in the scope of a cell
abbrev pub living_of : (ℕ → Bool) → ℕ → Shape → Living
living_of bits cell = fold-Shape Living (node_living bits cell)
