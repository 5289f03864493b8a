-- The types that are written in a text, and checks that are made only where there are types.
use Rattle.std.specs.Prelude.{ℕ, List, [], Option, Some, None, if◌then◌else◌}
use Rattle.qz_values.specs.declared.Ty.{Ty}
use Rattle.qz_values.specs.declared.Ty.TheVariants.{Bool as Truth, Bv}
use Rattle.qz_values.specs.Types.{is_type}
use Rattle.qz_syntax.specs.declared.files.TypeText.{TypeText}
use Rattle.qz_syntax.specs.declared.files.TypeText.TheVariants as text
use Rattle.qz_types.specs.declared.faults.Fault.{Fault}
use Rattle.qz_types.specs.declared.faults.TypeKind.TheVariants.{WidthRange}
use Rattle.qz_types.specs.Faults.{unless}

-- the type of vectors of a width, if there is one
abbrev pub vectors : ℕ → Option Ty
vectors width = if is_type (Bv width) then Some (Bv width) else None

-- the type that is written, if there is one
abbrev pub type_of_text : TypeText → Option Ty
type_of_text text.Bool = Some Truth
type_of_text (text.Bv width at) = vectors width

-- a width outside 1 to 64
abbrev pub type_faults : TypeText → List Fault
type_faults text.Bool = []
type_faults (text.Bv width at) = unless (is_type (Bv width)) WidthRange at

-- what is said of a type, if there is one
abbrev pub where_typed : Option Ty → (Ty → List Fault) → List Fault
where_typed None check = []
where_typed (Some t) check = check t

-- what is said of two types, if there are both
abbrev pub where_both : Option Ty → Option Ty → (Ty → Ty → List Fault) → List Fault
where_both s t check = where_typed s (λ a. where_typed t (λ b. check a b))
