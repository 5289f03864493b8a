-- The mode `build`: the row of its name and its file.
use Rattle.std.specs.Prelude.{ℕ, ◌≡◌, ◌++◌, List, [], ◌∷◌, None, codes}
use Rattle.qz_diag.specs.Causes.{Cause, NotBuilt, InstantLoop}
use Rattle.qz_diag.specs.Causes.{Absent as CauseAbsent}
use Rattle.qz_first.specs.Limits.{largest_source}
use Rattle.qz_first.specs.Built.{IsNotBuilt, IsInstant, IsBuilt}
use Rattle.qz_first.specs.Texts.{HasCircuit}
use Rattle.qz_driver.specs.Rows.{Row, Content, TooLong, Bytes}
use Rattle.qz_driver.specs.Rows.{Absent as ContentAbsent}

-- a cause that stands against the bytes of the file
abbrev pub IsOfBytes : List ℕ → List ℕ → List ℕ → Cause → Type 0
IsOfBytes name file bytes (NotBuilt other) = (other ≡ file) × IsNotBuilt name bytes
IsOfBytes name file bytes (InstantLoop number who) = IsInstant name bytes number who
IsOfBytes name file bytes cause = ⊥

-- a cause that stands against what is found under the file's name
abbrev pub IsOfContent : List ℕ → List ℕ → Content → Cause → Type 0
IsOfContent name file ContentAbsent cause = cause ≡ CauseAbsent file
IsOfContent name file TooLong cause = cause ≡ NotBuilt file
IsOfContent name file (Bytes bytes) cause = IsOfBytes name file bytes cause

abbrev pub build_against : List ℕ → List ℕ → List Content → Cause → Type 0
build_against name file [] cause = ⊥
build_against name file (content ∷ []) cause = IsOfContent name file content cause
build_against name file (content ∷ more ∷ others) cause = ⊥

-- the bytes of the file are built, and this is the text of a circuit that does their program
pub record BuildMakes (name : List ℕ) (contents : List Content) (text : List ℕ) : Type 0 where
  pub bytes : List ℕ
  pub there : contents ≡ Bytes bytes ∷ []
  pub built : IsBuilt name bytes
  pub circuit : HasCircuit name bytes text

-- the name of the file that is put
abbrev pub verilog_name : List ℕ → List ℕ
verilog_name name = name ++ codes ".v"

abbrev pub build_row : List ℕ → List ℕ → Row
build_row name file = record {
  reads = record { name = file; limit = largest_source } ∷ [];
  against = build_against name file;
  puts = verilog_name name;
  makes = BuildMakes name;
  says = None;
}
