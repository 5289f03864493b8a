-- When a system closes a whole program: what it is made of, its valuations, its rounds, and what comes next.
use Rattle.std.specs.Prelude.{◌≡◌, ℕ, true, List, Some, None, slice_get}
use Rattle.qz_values.specs.declared.Value.{Value}
use Rattle.qz_values.specs.declared.Know.{Know}
use Rattle.qz_values.specs.declared.Know.TheVariants.{Known}
use Rattle.qz_syntax.specs.declared.declarations.Dir.TheVariants as dir
use Rattle.qz_syntax.specs.declared.modules.Whole.{Whole}
use Rattle.qz_syntax.specs.declared.places.Later.{Later}
use Rattle.qz_syntax.specs.declared.places.Later.TheVariants as later
use Rattle.qz_syntax.specs.Sizes.{whole_size_of}
use Rattle.qz_meaning.specs.Instances.{Instance}
use Rattle.qz_meaning.specs.Layouts.{Met}
use Rattle.qz_meaning.specs.Programs.{Program, program_of}
use Rattle.qz_meaning.specs.Configurations.{Configuration}
use Rattle.qz_meaning.specs.Settling.{Environment, step_met, met_as}
use Rattle.qz_meaning.specs.Rounds.{next_round}
use Rattle.qz_meaning.specs.MacroSteps.{HasInputs, next_configuration}
use Rattle.qz_meaning.specs.Valuations.{Valuation as OfProgram, IsPermitted}
use Rattle.qz_system.specs.declared.parts.SystemParts.{SystemParts}
use Rattle.qz_system.specs.declared.valuation.Valuation.{Valuation}
use Rattle.qz_system.specs.Valuations.{Fits, is_permitted}
use Rattle.qz_system.specs.Rounds.{HaveTypes, IsRound}
use Rattle.qz_system.specs.Nexts.{IsNext}
use Rattle.qz_closing.specs.ProgramParts.{ports_in, cells_of, insts_of}
use Rattle.qz_closing.specs.Encoding.{EncodesPlace, Encodes}

-- the system's name, ports, cells, places, instances and size are the program's, with their names and texts
pub record HasParts (w : Whole) (parts : SystemParts) : Type 0 where
  pub name : parts.name ≡ w.module.name
  pub inputs : parts.inputs ≡ ports_in dir.In w.module.formals
  pub outputs : parts.outputs ≡ ports_in dir.Out w.module.formals
  pub cells : parts.cells ≡ cells_of w
  pub places : parts.places ≡ w.names.places
  pub instances : parts.instances ≡ insts_of w
  pub units : parts.units ≡ whole_size_of w.module

-- a valuation of the system that is permitted
pub record IsPermittedAt (parts : SystemParts) (v : Valuation) : Type 0 where
  pub fits : Fits parts v
  pub permitted : is_permitted parts v ≡ true

-- a permitted valuation of the program that a valuation of the system encodes
pub record IsEncoded (p : Program) (v : Valuation) : Type 0 where
  pub at : OfProgram
  pub permitted : IsPermitted p at
  pub encodes : Encodes p at v

-- both have the same permitted valuations
pub record HasValuations (p : Program) (parts : SystemParts) : Type 0 where
  pub of_program : (at : OfProgram) → IsPermitted p at → (v : Valuation) → Encodes p at v → IsPermittedAt parts v
  pub of_system : (v : Valuation) → IsPermittedAt parts v → IsEncoded p v

-- at each instance that the step meets the same is known
abbrev pub KnowsAlike : Program → Configuration → Environment → List Know → Type 0
KnowsAlike p c env knows = (k : ℕ) (i : Instance) (one : Met) → slice_get p.instances k ≡ Some i → met_as i (step_met p c) ≡ Some one
    → slice_get knows k ≡ Some (env.now i)

-- and of each delayed value
abbrev pub TellsAlike : Program → Configuration → Environment → List Later → Type 0
TellsAlike p c env delayed = (k : ℕ) (i : Instance) (one : Met) → slice_get p.instances k ≡ Some i → met_as i (step_met p c) ≡ Some one
    → slice_get delayed k ≡ Some (env.later i)

-- an instance that the step doesn't meet is known, and nothing is delayed for it
pub record IsIdle (knows : List Know) (delayed : List Later) (k : ℕ) : Type 0 where
  pub value : Value
  pub known : slice_get knows k ≡ Some (Known value)
  pub absent : slice_get delayed k ≡ Some later.Absent

abbrev pub IdlesElsewhere : Program → Configuration → List Know → List Later → Type 0
IdlesElsewhere p c knows delayed = (k : ℕ) (i : Instance) → slice_get p.instances k ≡ Some i → met_as i (step_met p c) ≡ None
    → IsIdle knows delayed k

-- a round of the system against the next round of the program, from what is known before
pub record RoundAlike (p : Program) (at : OfProgram) (env : Environment) (knows : List Know) (delayed : List Later) : Type 0 where
  pub known : KnowsAlike p at.configuration (next_round p at.configuration at.inputs env) knows
  pub told : TellsAlike p at.configuration (next_round p at.configuration at.inputs env) delayed

-- from equal knowledge before, each round comes to the same
abbrev pub RoundsAlike : Program → SystemParts → OfProgram → Valuation → Type 0
RoundsAlike p parts at v = (env : Environment) → HasInputs p env at.inputs
    → (before after : List Know) (delayed : List Later) → HaveTypes parts before → KnowsAlike p at.configuration env before
    → IsRound parts v before after delayed → RoundAlike p at env after delayed

-- whatever was known before, instances that aren't met are known after a round
abbrev pub RoundsIdle : Program → SystemParts → OfProgram → Valuation → Type 0
RoundsIdle p parts at v = (before after : List Know) (delayed : List Later) → HaveTypes parts before → IsRound parts v before after delayed
    → IdlesElsewhere p at.configuration after delayed

-- where the system is definite, its next valuation is that of the macro step
abbrev pub NextsAlike : Program → SystemParts → OfProgram → Valuation → Type 0
NextsAlike p parts at v = (env : Environment) → HasInputs p env at.inputs
    → (knows : List Know) (delayed : List Later) → HaveTypes parts knows → KnowsAlike p at.configuration env knows → TellsAlike p at.configuration env delayed
    → (next : Valuation) → IsNext parts v knows delayed next → EncodesPlace p (next_configuration p at.configuration env) next

-- what is the same at a valuation
pub record AgreesAt (p : Program) (parts : SystemParts) (at : OfProgram) (v : Valuation) : Type 0 where
  pub rounds : RoundsAlike p parts at v
  pub idle : RoundsIdle p parts at v
  pub nexts : NextsAlike p parts at v

-- the system closes the whole program
pub record Closes (parts : SystemParts) (w : Whole) : Type 0 where
  pub parts_are : HasParts w parts
  pub valuations : HasValuations (program_of w.module) parts
  pub agrees : (at : OfProgram) (v : Valuation) → IsPermitted (program_of w.module) at → Encodes (program_of w.module) at v
      → AgreesAt (program_of w.module) parts at v
