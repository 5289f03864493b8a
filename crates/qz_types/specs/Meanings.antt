-- What names stand for at a place of a file.
use Rattle.std.specs.Prelude.{ℕ, List, [], ◌∷◌, Option, Some, None, if◌then◌else◌}
use Rattle.std.specs.Str.{bytes_eq}
use Rattle.qz_types.specs.declared.scope.Was.{Was}

-- for each name what it stands for, if anything
abbrev pub Meanings : Type 0 → Type 0
Meanings T = List ℕ → Option T

-- no name stands for anything
abbrev pub no_meanings : {T : Type 0} → Meanings T
no_meanings name = None

-- one name stands for something else, or for nothing
abbrev pub updated : {T : Type 0} → Meanings T → List ℕ → Option T → Meanings T
updated meanings name meaning other = if bytes_eq name other then meaning else meanings other

-- what names stood for before some declarations, of which the last is undone first
abbrev pub before : {T : Type 0} → List (Was T) → Meanings T → Meanings T
before [] meanings = meanings
before (was ∷ later) meanings = updated (before later meanings) was.name was.meaning
