-- The laws of more and less knowledge: it never gives less in what a walk does, nor in what that settles.
use Rattle.std.specs.Prelude.{Bool, List}
use Rattle.std.specs.List.{AllZip}
use Rattle.qz_values.specs.Order.{Below}
use Rattle.qz_syntax.specs.declared.statements.Stmt.{Stmt}
use Rattle.qz_meaning.specs.Instances.{Instance}
use Rattle.qz_meaning.specs.Scenes.{Scene, Passing}
use Rattle.qz_meaning.specs.Accounts.{Write}
use Rattle.qz_meaning.specs.Layouts.{Met}
use Rattle.qz_meaning.specs.Calls.{Answers}
use Rattle.qz_meaning.specs.Residing.{walk}
use Rattle.qz_meaning.specs.Programs.{Program}
use Rattle.qz_meaning.specs.Landings.{open_walk}
use Rattle.qz_meaning.specs.Verdicts.{verdict}
use Rattle.qz_meaning.specs.Settling.{settles_now, settles_later}
use Rattle.qz_meaning.specs.Rising.{SceneBelow, AnswersBelow, WriteBelow, DeedBelow, Rises, VerdictBelow, LaterBelow}

-- the walks of a whole program are monotone
abbrev pub WalksRise : Type 0
WalksRise = (a b : Passing) → SceneBelow a.now b.now → (s : Stmt) → Rises WriteBelow (walk a s) (walk b s)

-- the open walks of a module are monotone, also in what calls answer
abbrev pub OpenWalksRise : Type 0
OpenWalksRise = (a b : Scene) → SceneBelow a b → (answers others : Answers) → AnswersBelow answers others → (s : Stmt)
    → Rises DeedBelow (open_walk a answers s) (open_walk b others s)

-- verdicts are monotone
abbrev pub VerdictsRise : Type 0
VerdictsRise = (i : Instance) (delayed : Bool) (ws vs : List Write)
    → AllZip WriteBelow ws vs → VerdictBelow (verdict i delayed ws) (verdict i delayed vs)

-- and so is what an instance that is met settles to
abbrev pub SettledRises : Type 0
SettledRises = (p : Program) (ws vs : List Write) (one : Met)
    → AllZip WriteBelow ws vs → Below (settles_now p ws one) (settles_now p vs one)

-- and its delayed value
abbrev pub SettledLaterRises : Type 0
SettledLaterRises = (ws vs : List Write) (one : Met)
    → AllZip WriteBelow ws vs → LaterBelow (settles_later ws one) (settles_later vs one)
