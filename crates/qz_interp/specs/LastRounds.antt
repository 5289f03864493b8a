-- What the lists of rounds come to: the first round, the last one, and whether it is definite.
use Rattle.std.specs.Prelude.{◌≡◌, ℕ, suc, List, length, replicate, Option, Some, MatchOption, slice_get}
use Rattle.std.specs.List.{AllByRecursion}
use Rattle.qz_values.specs.declared.Value.{Value}
use Rattle.qz_values.specs.declared.Know.{Know}
use Rattle.qz_values.specs.declared.Know.TheVariants as know
use Rattle.qz_syntax.specs.declared.modules.Module.{Module}
use Rattle.qz_syntax.specs.declared.places.Later.{Later}
use Rattle.qz_syntax.specs.declared.places.Later.TheVariants as later
use Rattle.qz_syntax.specs.WellFormed.{IsNumbered}
use Rattle.qz_meaning.specs.Layouts.{Met}
use Rattle.qz_meaning.specs.Programs.{Program, program_of}
use Rattle.qz_meaning.specs.Configurations.{Configuration, IsValuationOf}
use Rattle.qz_meaning.specs.Settling.{Environment, step_met}
use Rattle.qz_meaning.specs.Rounds.{round, IsLast, IsLeast, IsDefinite}
use Rattle.qz_interp.specs.declared.doubts.Doubted.{Doubted}
use Rattle.qz_interp.specs.FirstDoubts.{AreLists, NoDoubt, IsFirstDoubt}

-- the instance is one of the program's
pub record HasNumber (p : Program) (one : Met) : Type 0 where
  pub number : ℕ
  pub at : slice_get p.instances number ≡ Some one.instance

-- each instance that the step meets is one of the program's
abbrev pub HaveNumbers : Program → Configuration → Type 0
HaveNumbers p c = AllByRecursion (HasNumber p) (step_met p c)

-- in round 0 nothing is known of any instance
abbrev pub NothingIsRoundZero : Type 0
NothingIsRoundZero = (m : Module) → IsNumbered m → (c : Configuration) (row : List Value)
    → AreLists (program_of m) (round (program_of m) c row 0)
    (replicate (length (program_of m).instances) know.Unknown) (replicate (length (program_of m).instances) later.Unknown)

-- where a round leaves the lists as they were, the one before was the last
abbrev pub UnchangedIsLast : Type 0
UnchangedIsLast = (p : Program) (c : Configuration) (row : List Value) (n : ℕ) (known : List Know) (delayed : List Later)
    → HaveNumbers p c → AreLists p (round p c row n) known delayed → AreLists p (round p c row (suc n)) known delayed → IsLast p c row n

-- where nothing is in doubt in the last round, the configuration with the row is definite
abbrev pub UndoubtedIsDefinite : Type 0
UndoubtedIsDefinite = (m : Module) → IsNumbered m → (c : Configuration) (row : List Value) (n : ℕ) → IsValuationOf (program_of m) c row
    → HaveNumbers (program_of m) c → IsLast (program_of m) c row n → NoDoubt (program_of m) c (round (program_of m) c row n)
    → IsDefinite (program_of m) c row

-- where something is in doubt in the last round it isn't
abbrev pub DoubtedIsNotDefinite : Type 0
DoubtedIsNotDefinite = (p : Program) (c : Configuration) (row : List Value) (n : ℕ) (d : Doubted)
    → IsLast p c row n → IsFirstDoubt p c (round p c row n) d → IsDefinite p c row → ⊥

-- lists in which round n stands, for some n after which nothing changes
pub record AreLastRound (p : Program) (c : Configuration) (row : List Value) (known : List Know) (delayed : List Later) : Type 0 where
  pub number : ℕ
  pub last : IsLast p c row number
  pub lists : AreLists p (round p c row number) known delayed

-- why a configuration with a row isn't definite: the first doubt of its least environment
pub record IsRefusedFor (p : Program) (c : Configuration) (row : List Value) (d : Doubted) : Type 0 where
  pub least : Environment
  pub is_least : IsLeast p c row least
  pub first : IsFirstDoubt p c least d

-- whether a configuration with a row is definite, or why it isn't
abbrev pub Decides : Program → Configuration → List Value → Option Doubted → Type 0
Decides p c row answer = MatchOption answer (IsDefinite p c row) (IsRefusedFor p c row)
