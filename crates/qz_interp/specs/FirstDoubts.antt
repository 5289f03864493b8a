-- The first instance that isn't definite, and that the lists of a round tell it.
use Rattle.std.specs.Prelude.{◌≡◌, ℕ, ◌<◌, Bool, true, false, List, Some, None, slice_get, MatchOption}
use Rattle.qz_values.specs.declared.Know.{Know}
use Rattle.qz_syntax.specs.declared.places.Later.{Later}
use Rattle.qz_syntax.specs.declared.refusals.Doubt.{Doubt}
use Rattle.qz_meaning.specs.Instances.{Instance}
use Rattle.qz_meaning.specs.Layouts.{Met}
use Rattle.qz_meaning.specs.Programs.{Program}
use Rattle.qz_meaning.specs.Configurations.{Configuration}
use Rattle.qz_meaning.specs.Settling.{Environment, step_met, met_as}
use Rattle.qz_interp.specs.declared.doubts.Doubted.{Doubted}
use Rattle.qz_interp.specs.declared.slots.Slot.{Slot}
use Rattle.qz_interp.specs.Doubts.{doubt_of, doubt_of_later, doubted_from}
use Rattle.qz_interp.specs.RoundTables.{AreSlotsOf}

-- lists that have for each instance, by its number, what an environment has
pub record AreLists (p : Program) (env : Environment) (known : List Know) (delayed : List Later) : Type 0 where
  pub now : (k : ℕ) (i : Instance) → slice_get p.instances k ≡ Some i → slice_get known k ≡ Some (env.now i)
  pub later : (k : ℕ) (i : Instance) → slice_get p.instances k ≡ Some i → slice_get delayed k ≡ Some (env.later i)

-- nothing at the instance is in doubt
pub record HasNoDoubt (env : Environment) (i : Instance) : Type 0 where
  pub now : doubt_of (env.now i) ≡ None
  pub later : doubt_of_later (env.later i) ≡ None

-- what is in doubt at the instance: its value, or else its delayed value
abbrev pub IsInDoubt : Environment → Instance → Bool → Doubt → Type 0
IsInDoubt env i false why = doubt_of (env.now i) ≡ Some why
IsInDoubt env i true why = (doubt_of (env.now i) ≡ None) × (doubt_of_later (env.later i) ≡ Some why)

-- nothing is in doubt at those instances with numbers below this one that the step meets
abbrev pub NoDoubtBelow : Program → Configuration → Environment → ℕ → Type 0
NoDoubtBelow p c env limit = (k : ℕ) (i : Instance) (one : Met) → k < limit → slice_get p.instances k ≡ Some i
    → met_as i (step_met p c) ≡ Some one → HasNoDoubt env i

-- nothing is in doubt at any instance that the step meets
abbrev pub NoDoubt : Program → Configuration → Environment → Type 0
NoDoubt p c env = (k : ℕ) (i : Instance) (one : Met) → slice_get p.instances k ≡ Some i
    → met_as i (step_met p c) ≡ Some one → HasNoDoubt env i

-- the first doubt: of an instance that the step meets, with none before it
pub record IsFirstDoubt (p : Program) (c : Configuration) (env : Environment) (d : Doubted) : Type 0 where
  pub instance : Instance
  pub number : slice_get p.instances d.number ≡ Some instance
  pub met : Met
  pub is_met : met_as instance (step_met p c) ≡ Some met
  pub doubt : IsInDoubt env instance d.delayed d.doubt
  pub first : NoDoubtBelow p c env d.number

-- the lists tell the first doubt of their environment, or that there is none
abbrev pub ListsTellDoubts : Type 0
ListsTellDoubts = (p : Program) (c : Configuration) (env : Environment) (slots : List Slot) (known : List Know) (delayed : List Later)
    → AreSlotsOf p c slots → AreLists p env known delayed
    → MatchOption (doubted_from 0 slots known delayed) (NoDoubt p c env) (IsFirstDoubt p c env)
