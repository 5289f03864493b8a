-- What words say as a whole: a file, or the first word with which none begins.
use Rattle.std.specs.Prelude.{ℕ, ◌≡◌, ◌<◌, ◌≤◌, ◌+◌, List, [], ◌++◌, length, take, drop}
use Rattle.qz_syntax.specs.declared.files.File.{File}
use Rattle.qz_phrases.specs.declared.words.Spot.{Spot}
use Rattle.qz_reader.specs.declared.texts.WordsFault.{WordsFault}
use Rattle.qz_reader.specs.declared.texts.WordsFault.TheVariants as fault
use Rattle.qz_reader.specs.Files.{a_file}

-- these words are spelled by this file, where its statements have at most so many levels
abbrev pub IsFile : ℕ → List Spot → File → Type 0
IsFile levels words f = a_file levels f words []

-- How many levels the statements of a file have at most. The block of its module is one level more.
abbrev pub most : ℕ
most = 127

-- some file begins with the words before this place
pub record BeginsFile (levels : ℕ) (words : List Spot) (at : ℕ) : Type 0 where
  pub front : List Spot
  pub before : words ≡ front ++ drop at words
  pub more : List Spot
  pub file : File
  pub is : IsFile levels (front ++ more) file

-- with the words up to and with this place begins no file, of however many levels, but with those before it does
pub record IsParse (words : List Spot) (at : ℕ) : Type 0 where
  pub none : (others : List Spot) → take (at + 1) others ≡ take (at + 1) words → (levels : ℕ) (f : File) → IsFile levels others f → ⊥
  pub begins : BeginsFile most words at

-- a word stands at this place, only a file of too many levels begins so, but one that is within them begins with
-- the words before
pub record IsDeep (words : List Spot) (at : ℕ) : Type 0 where
  pub there : at < length words
  pub none : (others : List Spot) → take (at + 1) others ≡ take (at + 1) words → (levels : ℕ) → levels ≤ most → (f : File) → IsFile levels others f → ⊥
  pub begins : BeginsFile most words at
  pub deeper : (levels : ℕ) × BeginsFile levels words (at + 1)

abbrev pub Refuses : List Spot → WordsFault → Type 0
Refuses words (fault.Parse at) = IsParse words at
Refuses words (fault.Deep at) = IsDeep words at
Refuses words fault.Memory = Unit {0}
