-- What stands against bytes as a program of a name.
use Rattle.std.specs.Prelude.{◌≡◌, ◌≢◌, ℕ, ◌<◌, List, []}
use Rattle.std.specs.Str.{chars}
use Rattle.qz_syntax.specs.declared.files.File.{File}
use Rattle.qz_syntax.specs.declared.modules.Module.{Module}
use Rattle.qz_syntax.specs.declared.modules.Typed.{Typed}
use Rattle.qz_syntax.specs.Sizes.{size_of}
use Rattle.qz_source.specs.declared.faults.SourceFault.{SourceFault}
use Rattle.qz_source.specs.declared.faults.SourceFault.TheVariants as fault
use Rattle.qz_source.specs.Sources.{IsSource, IsSourceFault}
use Rattle.qz_types.specs.Faults.{IsFirst, fault_at}
use Rattle.qz_types.specs.CoreModules.{core_of}
use Rattle.qz_types.specs.FileFaults.{faults_of}
use Rattle.qz_expand.specs.Refusals.{IsInstant, IsTooLarge, largest_program}
use Rattle.qz_program.specs.Programs.{IsModuleOf}
use Rattle.qz_program.specs.declared.causes.NoProgram.{NoProgram}
use Rattle.qz_program.specs.declared.causes.NoProgram.TheVariants.{NotUtf8, Lex, Parse, Deep, Types, Prototypes, FileSize, Missing, InstantLoop, Size, Memory}

-- the cause that a fault of the bytes is
abbrev pub source_cause : SourceFault → NoProgram
source_cause (fault.NotUtf8 offset) = NotUtf8 offset
source_cause (fault.Lex offset) = Lex offset
source_cause (fault.Parse offset) = Parse offset
source_cause (fault.Deep offset) = Deep offset
source_cause fault.Memory = Memory

-- a typed source without prototypes that is too large
pub record IsLargeFile (t : Typed) (units : ℕ) : Type 0 where
  pub alone : t.protos ≡ []
  pub size : units ≡ size_of t.module
  pub above : largest_program < units

-- what stands against a typed source by itself
abbrev pub StandsAgainstTyped : Typed → NoProgram → Type 0
StandsAgainstTyped t Prototypes = t.protos ≢ []
StandsAgainstTyped t (FileSize units) = IsLargeFile t units
StandsAgainstTyped t why = ⊥

-- what stands against a module as the whole program of a name
abbrev pub StandsAgainstLink : List ℕ → Module → NoProgram → Type 0
StandsAgainstLink name m Missing = m.name ≢ chars name
StandsAgainstLink name m (InstantLoop who number) = IsInstant name m who number
StandsAgainstLink name m (Size units) = IsTooLarge name m units
StandsAgainstLink name m Memory = Unit {0}
StandsAgainstLink name m why = ⊥

-- nothing is said against the file's types, but this stands against it by itself
pub record HasTypedCause (f : File) (why : NoProgram) : Type 0 where
  pub no_fault : faults_of f ≡ []
  pub stands : StandsAgainstTyped (core_of f) why

-- the file's module stands alone, but this stands against it as a whole program
pub record HasLinkCause (name : List ℕ) (f : File) (why : NoProgram) : Type 0 where
  pub root : Module
  pub is : IsModuleOf f root
  pub stands : StandsAgainstLink name root why

-- What stands against a file as the program of a name; memory may run out on any.
abbrev pub StandsAgainstFile : List ℕ → File → NoProgram → Type 0
StandsAgainstFile name f (NotUtf8 offset) = ⊥
StandsAgainstFile name f (Lex offset) = ⊥
StandsAgainstFile name f (Parse offset) = ⊥
StandsAgainstFile name f (Deep offset) = ⊥
StandsAgainstFile name f (Types offset kind) = IsFirst (faults_of f) (fault_at kind offset)
StandsAgainstFile name f Prototypes = HasTypedCause f Prototypes
StandsAgainstFile name f (FileSize units) = HasTypedCause f (FileSize units)
StandsAgainstFile name f Missing = HasLinkCause name f Missing
StandsAgainstFile name f (InstantLoop who number) = HasLinkCause name f (InstantLoop who number)
StandsAgainstFile name f (Size units) = HasLinkCause name f (Size units)
StandsAgainstFile name f Memory = Unit {0}

-- the bytes spell a file against which this stands
pub record HasFileCause (name bytes : List ℕ) (why : NoProgram) : Type 0 where
  pub file : File
  pub source : IsSource bytes file
  pub stands : StandsAgainstFile name file why

-- What stands against bytes as the program of a name: each cause comes only where none before it does. Memory may
-- run out on any bytes.
abbrev pub StandsAgainst : List ℕ → List ℕ → NoProgram → Type 0
StandsAgainst name bytes (NotUtf8 offset) = IsSourceFault bytes (fault.NotUtf8 offset)
StandsAgainst name bytes (Lex offset) = IsSourceFault bytes (fault.Lex offset)
StandsAgainst name bytes (Parse offset) = IsSourceFault bytes (fault.Parse offset)
StandsAgainst name bytes (Deep offset) = IsSourceFault bytes (fault.Deep offset)
StandsAgainst name bytes (Types offset kind) = HasFileCause name bytes (Types offset kind)
StandsAgainst name bytes Prototypes = HasFileCause name bytes Prototypes
StandsAgainst name bytes (FileSize units) = HasFileCause name bytes (FileSize units)
StandsAgainst name bytes Missing = HasFileCause name bytes Missing
StandsAgainst name bytes (InstantLoop who number) = HasFileCause name bytes (InstantLoop who number)
StandsAgainst name bytes (Size units) = HasFileCause name bytes (Size units)
StandsAgainst name bytes Memory = Unit {0}
