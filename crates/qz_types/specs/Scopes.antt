-- What names stand for in a scope.
use Rattle.std.specs.Prelude.{ℕ, List, Option}
use Rattle.std.specs.Str.{bytes_eq}
use Rattle.indexmap.specs.IndexMap.{get}
use Rattle.qz_types.specs.declared.scope.Scope.{Scope}
use Rattle.qz_types.specs.Meanings.{Meanings}

-- what a scope says of each name
unfoldable pub meanings_of : {T : Type 0} → Scope T → Meanings T
meanings_of scope name = get bytes_eq scope.entries name
