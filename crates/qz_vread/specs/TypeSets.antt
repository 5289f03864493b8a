-- Types, each of which is among some or not.
use Rattle.std.specs.Prelude.{◌≡◌, Bool, false, ◌||◌, List, get_or}
use Rattle.std.specs.List.{list_any}
use Rattle.qz_values.specs.declared.Ty.{Ty}
use Rattle.qz_values.specs.declared.Ty.TheVariants.{Bool as Truth, Bv}
use Rattle.qz_values.specs.Types.{is_same_type}
use Rattle.qz_vread.specs.declared.driven.TypeSet.{TypeSet}

-- whether the type is among them
abbrev pub has : TypeSet → Ty → Bool
has types Truth = types.has_bool
has types (Bv width) = get_or types.widths width false

-- just these types more
abbrev pub Adds : TypeSet → TypeSet → List Ty → Type 0
Adds old new types = (t : Ty) → has new t ≡ (has old t || list_any (λ u. is_same_type t u) types)
