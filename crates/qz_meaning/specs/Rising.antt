-- More and less knowledge of instances, in walks, verdicts and environments.
use Rattle.std.specs.Prelude.{◌≡◌, ℕ, List}
use Rattle.std.specs.List.{AllZip}
use Rattle.qz_values.specs.declared.Know.{Know}
use Rattle.qz_values.specs.Order.{Below}
use Rattle.qz_syntax.specs.declared.statements.Arg.{Arg}
use Rattle.qz_syntax.specs.declared.places.Mark.{Mark}
use Rattle.qz_syntax.specs.declared.places.Later.{Later}
use Rattle.qz_syntax.specs.declared.places.Later.TheVariants as later
use Rattle.qz_syntax.specs.declared.places.Residual.{Residual}
use Rattle.qz_meaning.specs.Instances.{Instance}
use Rattle.qz_meaning.specs.Scenes.{Scene, Context}
use Rattle.qz_meaning.specs.Accounts.{Write, Account}
use Rattle.qz_meaning.specs.Behaviors.{Behavior}
use Rattle.qz_meaning.specs.Calls.{Calls, Given, Input, Output, Passed, Answers}
use Rattle.qz_meaning.specs.Landings.{Deed, Wrote, Starts, Resumes}
use Rattle.qz_meaning.specs.Verdicts.{Verdict, Nobody, Open, One, Torn}
use Rattle.qz_meaning.specs.Settling.{Environment}

-- no instance is known less in the second scene
abbrev pub SceneBelow : Scene → Scene → Type 0
SceneBelow s t = (i : Instance) → Below (s i) (t i)

-- the locals have the same instances, and no bound argument is known less in the second context
pub record ContextBelow (c d : Context) : Type 0 where
  pub marks : (n : ℕ) → c.marks n ≡ d.marks n
  pub bound : (n : ℕ) → Below (c.bound n) (d.bound n)

-- the same is written to, and neither guard nor value is known less in the second write
pub record WriteBelow (v w : Write) : Type 0 where
  pub target : v.target ≡ w.target
  pub delayed : v.delayed ≡ w.delayed
  pub guard : Below v.guard w.guard
  pub value : Below v.value w.value

-- an input isn't known less, and an output is the same instance
abbrev pub GivenBelow : Given → Given → Type 0
GivenBelow (Input v) (Input w) = Below v w
GivenBelow (Input v) (Output j) = ⊥
GivenBelow (Output i) (Input w) = ⊥
GivenBelow (Output i) (Output j) = i ≡ j

-- the same call, of whose arguments none is known less
pub record PassedBelow (p q : Passed) : Type 0 where
  pub call : p.call ≡ q.call
  pub arguments : AllZip GivenBelow p.arguments q.arguments

-- the same is done, and nothing is known less of it
abbrev pub DeedBelow : Deed → Deed → Type 0
DeedBelow (Wrote v) (Wrote w) = WriteBelow v w
DeedBelow (Wrote v) (Starts q h n) = ⊥
DeedBelow (Wrote v) (Resumes q h) = ⊥
DeedBelow (Starts p g m) (Wrote w) = ⊥
DeedBelow (Starts p g m) (Starts q h n) = PassedBelow p q × Below g h × (m ≡ n)
DeedBelow (Starts p g m) (Resumes q h) = ⊥
DeedBelow (Resumes p g) (Wrote w) = ⊥
DeedBelow (Resumes p g) (Starts q h n) = ⊥
DeedBelow (Resumes p g) (Resumes q h) = PassedBelow p q × Below g h

-- no call's answer is known less
pub record AnswersBelow (a b : Answers) : Type 0 where
  pub ends_at_once : (number : ℕ) (m : Mark) → Below (a.ends_at_once number m) (b.ends_at_once number m)
  pub ends : (number : ℕ) → Below (a.ends number) (b.ends number)

-- From contexts and guards that are known more, the second ends by what is known more, and does what the
-- first does in the same order, each deed related to its own.
pub record Rises {D T : Type 0} (R : D → D → Type 0) (a b : Behavior D T) : Type 0 where
  pub ends : (c d : Context) (m : Mark) → ContextBelow c d → Below (a.ends c m) (b.ends d m)
  pub start : (c d : Context) (g h : Know) (m : Mark) → ContextBelow c d → Below g h → AllZip R (a.start c g m) (b.start d h m)
  pub ended : (c d : Context) (r : Residual) → ContextBelow c d → Below (a.ended c r) (b.ended d r)
  pub resume : (c d : Context) (r : Residual) (g h : Know) → ContextBelow c d → Below g h → AllZip R (a.resume c r g) (b.resume d r h)

-- deeds that are writes are related where the writes rise
abbrev pub ListsRising : {D T : Type 0} → (D → D → Type 0) → Account D T → Account D T → Type 0
ListsRising R a b = (v w : Write) → WriteBelow v w → R (a.wrote v) (b.wrote w)

-- the same call rises
abbrev pub CallsRise : {D T : Type 0} → (D → D → Type 0) → Calls D T → Calls D T → Type 0
CallsRise R a b = (number : ℕ) (arguments : List Arg) → Rises R (a number arguments) (b number arguments)

-- what is open may come to anything, and all else can only be torn
abbrev pub VerdictBelow : Verdict → Verdict → Type 0
VerdictBelow Open b = Unit {0}
VerdictBelow Nobody Nobody = Unit {0}
VerdictBelow Nobody Open = ⊥
VerdictBelow Nobody (One w) = ⊥
VerdictBelow Nobody Torn = Unit {0}
VerdictBelow (One v) Nobody = ⊥
VerdictBelow (One v) Open = ⊥
VerdictBelow (One v) (One w) = v ≡ w
VerdictBelow (One v) Torn = Unit {0}
VerdictBelow Torn Nobody = ⊥
VerdictBelow Torn Open = ⊥
VerdictBelow Torn (One w) = ⊥
VerdictBelow Torn Torn = Unit {0}

-- that there is no delayed value is known as a value is
abbrev pub LaterBelow : Later → Later → Type 0
LaterBelow later.Unknown b = Unit {0}
LaterBelow later.Absent later.Unknown = ⊥
LaterBelow later.Absent later.Absent = Unit {0}
LaterBelow later.Absent (later.Known w) = ⊥
LaterBelow later.Absent later.Clash = Unit {0}
LaterBelow (later.Known v) later.Unknown = ⊥
LaterBelow (later.Known v) later.Absent = ⊥
LaterBelow (later.Known v) (later.Known w) = v ≡ w
LaterBelow (later.Known v) later.Clash = Unit {0}
LaterBelow later.Clash later.Unknown = ⊥
LaterBelow later.Clash later.Absent = ⊥
LaterBelow later.Clash (later.Known w) = ⊥
LaterBelow later.Clash later.Clash = Unit {0}

-- nothing is known less in the second environment
pub record EnvironmentBelow (a b : Environment) : Type 0 where
  pub now : SceneBelow a.now b.now
  pub later : (i : Instance) → LaterBelow (a.later i) (b.later i)
