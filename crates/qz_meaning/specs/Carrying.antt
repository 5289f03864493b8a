-- What spots say: the places where control rests, and the instances by which scopes are kept or entered.
use Rattle.std.specs.Prelude.{ℕ, ◌==◌, Bool, true, false, List, [], ◌∷◌, Option, Some, None, if◌then◌else◌}
use Rattle.qz_syntax.specs.declared.expressions.Var.{Var}
use Rattle.qz_syntax.specs.declared.expressions.Var.TheVariants as var
use Rattle.qz_meaning.specs.Instances.{Instance}
use Rattle.qz_meaning.specs.Landings.{Spot, At, Keeps, Enters, GoesOn, Stays}

-- the places where control rests
abbrev pub places_in : List Spot → List ℕ
places_in [] = []
places_in (At place ∷ spots) = place ∷ places_in spots
places_in (Keeps i ∷ spots) = places_in spots
places_in (Enters call m ∷ spots) = places_in spots
places_in (GoesOn call ∷ spots) = places_in spots
places_in (Stays number ∷ spots) = places_in spots

-- whether a variable is the local with this number
abbrev pub is_local : Var → ℕ → Bool
is_local (var.Formal k) n = false
is_local (var.Local k) n = k == n
is_local (var.Bound k) n = false

-- the instance by which a local's scope is kept or entered, or none where it is gone
abbrev pub kept_by : List Spot → ℕ → Option Instance
kept_by [] n = None
kept_by (At place ∷ spots) n = kept_by spots n
kept_by (Keeps i ∷ spots) n = if is_local i.variable n then Some i else kept_by spots n
kept_by (Enters call m ∷ spots) n = kept_by spots n
kept_by (GoesOn call ∷ spots) n = kept_by spots n
kept_by (Stays number ∷ spots) n = kept_by spots n

-- whether anything is told of the next place
abbrev pub is_somewhere : List Spot → Bool
is_somewhere [] = false
is_somewhere (spot ∷ spots) = true
