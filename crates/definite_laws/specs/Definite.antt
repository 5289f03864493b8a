-- The laws of definiteness: a system that closes a program is definite exactly where the program is.
use Rattle.std.specs.Prelude.{◌≡◌, ℕ, List, []}
use Rattle.qz_values.specs.declared.Know.{Know}
use Rattle.qz_syntax.specs.declared.modules.Whole.{Whole}
use Rattle.qz_syntax.specs.declared.places.Later.{Later}
use Rattle.qz_syntax.specs.WellFormed.{IsWellFormed}
use Rattle.qz_meaning.specs.Programs.{program_of}
use Rattle.qz_meaning.specs.Rounds.{round, IsDefinite as ProgramIsDefinite}
use Rattle.qz_meaning.specs.Valuations.{Valuation as OfProgram, IsPermitted}
use Rattle.qz_system.specs.declared.parts.SystemParts.{SystemParts}
use Rattle.qz_system.specs.declared.valuation.Valuation.{Valuation}
use Rattle.qz_system.specs.Parts.{AreParts}
use Rattle.qz_system.specs.Nexts.{IsNthRound, IsDefinite}
use Rattle.qz_closing.specs.Encoding.{Encodes}
use Rattle.qz_closing.specs.Closes.{KnowsAlike, TellsAlike, Closes}

-- a system that is definite at a valuation, with what it comes to
pub record SystemIsDefinite (parts : SystemParts) (v : Valuation) : Type 0 where
  pub knows : List Know
  pub delayed : List Later
  pub definite : IsDefinite parts v knows delayed

-- the round with a number knows the same in both
pub record KnowsAsRound (w : Whole) (at : OfProgram) (number : ℕ) (knows : List Know) (delayed : List Later) : Type 0 where
  pub known : KnowsAlike (program_of w.module) at.configuration (round (program_of w.module) at.configuration at.inputs number) knows
  pub told : TellsAlike (program_of w.module) at.configuration (round (program_of w.module) at.configuration at.inputs number) delayed

-- each round of a system that closes a program is the program's with this number
abbrev pub RoundsAreAlike : Type 0
RoundsAreAlike = (w : Whole) (parts : SystemParts) → IsWellFormed [] w.module → AreParts parts → Closes parts w
    → (at : OfProgram) (v : Valuation) → IsPermitted (program_of w.module) at → Encodes (program_of w.module) at v
    → (number : ℕ) (knows : List Know) (delayed : List Later) → IsNthRound parts v number knows delayed → KnowsAsRound w at number knows delayed

-- where it is definite, so is the program
abbrev pub DefiniteSystemsAreOfDefinite : Type 0
DefiniteSystemsAreOfDefinite = (w : Whole) (parts : SystemParts) → IsWellFormed [] w.module → AreParts parts → Closes parts w
    → (at : OfProgram) (v : Valuation) → IsPermitted (program_of w.module) at → Encodes (program_of w.module) at v
    → SystemIsDefinite parts v → ProgramIsDefinite (program_of w.module) at.configuration at.inputs
