-- What is said against a file: faults of a kind at an offset, and which of some is the first.
use Rattle.std.specs.Prelude.{◌≡◌, ℕ, ◌<◌, ◌≤◌, ◌⊎◌, Bool, false, ◌&&◌, ◌||◌, ◌==◌, nat_lt, nat_le, List, [], ◌∷◌, Option, Some, None, All, Contains, IsTrue, if◌then◌else◌}
use Rattle.qz_types.specs.declared.faults.TypeKind.{TypeKind}
use Rattle.qz_types.specs.declared.faults.TypeKind.TheVariants.{UnknownName, DoubleName, TypeDiffers, WidthRange, LiteralRange, WriteToInput, NotWritable, ArgCount, ArgClass, SliceRange, TooMany}
use Rattle.qz_types.specs.declared.faults.Fault.{Fault}

-- the place of a kind in the order of the kinds
abbrev pub rank : TypeKind → ℕ
rank UnknownName = 0
rank DoubleName = 1
rank TypeDiffers = 2
rank WidthRange = 3
rank LiteralRange = 4
rank WriteToInput = 5
rank NotWritable = 6
rank ArgCount = 7
rank ArgClass = 8
rank SliceRange = 9
rank TooMany = 10

-- a fault comes before one with a greater offset, and at one offset before one of a later kind
abbrev pub comes_before : Fault → Fault → Bool
comes_before a b = nat_lt a.offset b.offset || (a.offset == b.offset && nat_lt (rank a.kind) (rank b.kind))

-- a fault of a kind at an offset
abbrev pub fault_at : TypeKind → ℕ → Fault
fault_at kind offset = record { offset = offset; kind = kind }

-- a fault where a test fails
abbrev pub unless : Bool → TypeKind → ℕ → List Fault
unless test kind offset = if test then [] else fault_at kind offset ∷ []

-- among these faults, and none of them comes before it
pub record IsFirst (faults : List Fault) (fault : Fault) : Type 0 where
  pub stands : Contains faults fault
  pub first : All (λ other. comes_before other fault ≡ false) faults

-- the earlier of two faults, if there are any
abbrev pub earlier : Option Fault → Fault → Option Fault
earlier None fault = Some fault
earlier (Some first) fault = Some (if comes_before fault first then fault else first)

-- the first fault, with some more faults
abbrev pub first_with : Option Fault → List Fault → Option Fault
first_with first [] = first
first_with first (fault ∷ faults) = first_with (earlier first fault) faults
