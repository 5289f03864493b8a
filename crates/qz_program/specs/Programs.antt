-- The whole program that a source makes.
use Rattle.std.specs.Prelude.{◌≡◌, ℕ, ◌≤◌, List, []}
use Rattle.qz_syntax.specs.declared.files.File.{File}
use Rattle.qz_syntax.specs.declared.modules.Module.{Module}
use Rattle.qz_syntax.specs.declared.modules.Typed.{Typed}
use Rattle.qz_syntax.specs.declared.modules.Whole.{Whole}
use Rattle.qz_syntax.specs.Sizes.{size_of}
use Rattle.qz_source.specs.Sources.{IsSource}
use Rattle.qz_types.specs.CoreModules.{core_of}
use Rattle.qz_types.specs.FileFaults.{faults_of}
use Rattle.qz_expand.specs.Refusals.{IsAccepted, largest_program}
use Rattle.qz_expand.specs.Texts.{names_of}

-- a typed source that has no prototypes and isn't too large
pub record IsAlone (t : Typed) : Type 0 where
  pub alone : t.protos ≡ []
  pub small : size_of t.module ≤ largest_program

-- nothing is said against the file's types, and this is its module, which stands alone
pub record IsModuleOf (f : File) (m : Module) : Type 0 where
  pub no_fault : faults_of f ≡ []
  pub alone : IsAlone (core_of f)
  pub is : m ≡ (core_of f).module

-- the whole program with this module as its top, which has this name
pub record IsLinked (name : List ℕ) (m : Module) (w : Whole) : Type 0 where
  pub accepted : IsAccepted name m
  pub is : w.module ≡ m
  pub names : w.names ≡ names_of m

-- the whole program of this name that the file makes
pub record IsOf (name : List ℕ) (f : File) (w : Whole) : Type 0 where
  pub root : Module
  pub is : IsModuleOf f root
  pub linked : IsLinked name root w

-- the whole program of this name that the bytes make
pub record IsProgramOf (name bytes : List ℕ) (w : Whole) : Type 0 where
  pub file : File
  pub source : IsSource bytes file
  pub program : IsOf name file w
