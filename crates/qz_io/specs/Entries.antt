-- What a list of entries holds, of which the first with a name counts.
use Rattle.std.specs.Prelude.{ℕ, List, Bool, Option, String, Vec, string_bytes, bytes_eq, find, option_map}
use Rattle.std.specs.declared.alloc.Global.{Global}
use Rattle.qz_io.specs.Held.{Held}

-- a name and its bytes
abbrev pub Entry : Type 0
Entry = String Global × Vec ℕ Global

-- the entry has this name
abbrev pub has_name : List ℕ → Entry → Bool
has_name name entry = bytes_eq (string_bytes entry.0) name

-- the bytes of the first entry with each name
abbrev pub held_in : List Entry → Held
held_in entries name = option_map (λ entry. entry.1.items) (find (has_name name) entries)

-- the bytes of the name that is kept, if one is
abbrev pub kept_name : Option (String Global) → Option (List ℕ)
kept_name kept = option_map string_bytes kept
