-- What stands against a module as the whole program of a name: the first of three causes.
use Rattle.std.specs.Prelude.{◌≡◌, ◌≢◌, ℕ, ◌<◌, ◌≤◌, List, [], Some, slice_get}
use Rattle.std.specs.Str.{chars}
use Rattle.qz_syntax.specs.declared.modules.Module.{Module}
use Rattle.qz_syntax.specs.declared.names.Name.{Name}
use Rattle.qz_syntax.specs.declared.names.Text.{Text}
use Rattle.qz_syntax.specs.declared.refusals.LinkRefusal.{LinkRefusal}
use Rattle.qz_syntax.specs.declared.refusals.LinkRefusal.TheVariants.{Duplicate, Missing, Mismatch, Recursive, InstantLoop, Size, Memory}
use Rattle.qz_syntax.specs.Endings.{instant_loops}
use Rattle.qz_syntax.specs.Sizes.{whole_size_of}

-- how large a whole program may be
abbrev pub largest_program : ℕ
largest_program = 100000

-- the top's name is another
pub record IsMissing (top : List ℕ) (m : Module) (name : Text) : Type 0 where
  pub is_named : name ≡ top
  pub other : m.name ≢ chars top

-- the first loop in tree order whose body may end at once has this number
pub record IsInstant (top : List ℕ) (m : Module) (name : Name) (number : ℕ) : Type 0 where
  pub is_top : m.name ≡ chars top
  pub is_named : name ≡ m.name
  pub first : slice_get (instant_loops [] m.body) 0 ≡ Some number

-- the whole program is too large; a statement that stands too deep makes it the largest
pub record IsTooLarge (top : List ℕ) (m : Module) (units : ℕ) : Type 0 where
  pub is_top : m.name ≡ chars top
  pub no_instant : instant_loops [] m.body ≡ []
  pub size : units ≡ whole_size_of m
  pub above : largest_program < units

-- what is told against the module comes exactly where it is the first cause; no cause has several modules
abbrev pub StandsAgainst : List ℕ → Module → LinkRefusal → Type 0
StandsAgainst top m (Duplicate name) = ⊥
StandsAgainst top m (Missing name) = IsMissing top m name
StandsAgainst top m (Mismatch caller callee) = ⊥
StandsAgainst top m (Recursive name) = ⊥
StandsAgainst top m (InstantLoop name number) = IsInstant top m name number
StandsAgainst top m (Size units) = IsTooLarge top m units
StandsAgainst top m Memory = Unit {0}

-- nothing stands against it
pub record IsAccepted (top : List ℕ) (m : Module) : Type 0 where
  pub is_top : m.name ≡ chars top
  pub no_instant : instant_loops [] m.body ≡ []
  pub size : whole_size_of m ≤ largest_program

-- that a top of this name is missing, or that there was no memory to say so
abbrev pub IsMissingOrMemory : List ℕ → LinkRefusal → Type 0
IsMissingOrMemory top (Missing name) = name ≡ top
IsMissingOrMemory top Memory = Unit {0}
IsMissingOrMemory top other = ⊥

-- that a module is too large, or that there was no memory
abbrev pub IsLargeOrMemory : Module → LinkRefusal → Type 0
IsLargeOrMemory m (Size units) = (units ≡ whole_size_of m) × (largest_program < units)
IsLargeOrMemory m Memory = Unit {0}
IsLargeOrMemory m other = ⊥

-- that this loop of the module of this name may end at once, or that there was no memory to say so
abbrev pub IsInstantOrMemory : Name → ℕ → LinkRefusal → Type 0
IsInstantOrMemory name number (InstantLoop other loop) = (other ≡ name) × (loop ≡ number)
IsInstantOrMemory name number Memory = Unit {0}
IsInstantOrMemory name number other = ⊥
