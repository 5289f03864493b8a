-- What files hold, where it is told.
use Rattle.std.specs.Prelude.{ℕ, List, Option, Some, None}

-- the bytes under each name, by the name's bytes
abbrev pub Held : Type 0
Held = List ℕ → Option (List ℕ)

-- the bytes under a name, and none where what is held isn't told
abbrev pub held_under : Option Held → List ℕ → Option (List ℕ)
held_under None name = None
held_under (Some held) name = held name
