-- What canonical texts are read as.
use Rattle.std.specs.Prelude.{◌≡◌, ℕ, List}
use Rattle.qz_syntax.specs.declared.files.File.{File}
use Rattle.qz_source.specs.Sources.{IsSource}
use Rattle.printer_laws.specs.Offsets.{IsAlike}

-- a text can spell this file, but for offsets
pub record CanBeSpelled (f : File) : Type 0 where
  pub bytes : List ℕ
  pub file : File
  pub source : IsSource bytes file
  pub alike : IsAlike f file

-- the bytes are a text of this file, but for offsets
pub record IsReadAs (bytes : List ℕ) (f : File) : Type 0 where
  pub file : File
  pub source : IsSource bytes file
  pub alike : IsAlike f file

-- this file and no other is what the bytes spell
pub record IsOnlySource (bytes : List ℕ) (f : File) : Type 0 where
  pub source : IsSource bytes f
  pub only : (other : File) → IsSource bytes other → other ≡ f
