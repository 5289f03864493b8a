-- Lines that take a draft to a module.
use Rattle.std.specs.Prelude.{◌≡◌, ℕ, List, [], ◌∷◌, ◌++◌}
use Rattle.qz_verilog.specs.declared.modules.VModule.{VModule}
use Rattle.qz_vread.specs.declared.drafts.Draft.{Draft}
use Rattle.qz_vread.specs.declared.drafts.Stage.TheVariants as stage
use Rattle.qz_vread.specs.Drafts.{IsStep}
use Rattle.qz_vread.specs.Drafted.{written, module_of, IsSound}
use Rattle.qz_vtext.specs.Text.{lines_of, joined}
use Rattle.qz_vread.specs.Refusals.{IsModule, AreLines}

-- one line after the other, they take it to the last line of the module
abbrev pub Path : Draft → List (List ℕ) → VModule → Type 0
Path d [] m = (d.stage ≡ stage.Nothing) × (module_of d ≡ m)
Path d (line ∷ lines) m = (new : Draft) × (IsStep d line new × Path new lines m)

-- the module has the lines that were read, and those that took the draft to it
pub record Reached (d : Draft) (lines : List (List ℕ)) (m : VModule) : Type 0 where
  pub is : IsModule m
  pub text : lines_of m ≡ written d ++ lines

-- some lines take it to a module
pub record Finish (d : Draft) : Type 0 where
  pub lines : List (List ℕ)
  pub whole : VModule
  pub path : Path d lines whole

-- a draft of which all lines so far were read, and the bytes that are left
pub record IsReading (bytes : List ℕ) (d : Draft) (rest : List ℕ) : Type 0 where
  pub whole : bytes ≡ joined (written d) ++ rest
  pub lines : AreLines (written d)
  pub sound : IsSound d
  -- each text that begins with the lines so far goes on from this draft
  pub follows : (m : VModule) (more : List (List ℕ)) → IsModule m → lines_of m ≡ written d ++ more → Path d more m
