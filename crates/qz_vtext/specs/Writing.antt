-- What is written at once of a text.
use Rattle.std.specs.Prelude.{ℕ, List, ◌++◌, codes}
use Rattle.std.specs.List.{flat_map}

-- lines of the list of ports, each after the one before it
abbrev pub later_ports : List (List ℕ) → List ℕ
later_ports lines = flat_map (λ line. codes ",\n" ++ line) lines
