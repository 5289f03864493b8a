-- The law of modules without prototypes: they call nothing, so that their open walks are those of whole programs.
use Rattle.std.specs.Prelude.{◌≡◌, []}
use Rattle.qz_syntax.specs.declared.modules.Module.{Module}
use Rattle.qz_syntax.specs.WellFormed.{IsWellFormed}
use Rattle.qz_meaning.specs.Scenes.{Scene}
use Rattle.qz_meaning.specs.Calls.{Answers, open_layout}
use Rattle.qz_meaning.specs.Walks.{behavior, layout}
use Rattle.qz_meaning.specs.Residing.{no_calls, whole_layout}
use Rattle.qz_meaning.specs.Landings.{landing, open_walk}

-- whatever calls would answer, the walk is that without calls
abbrev pub WalksStandAlone : Type 0
WalksStandAlone = (m : Module) → IsWellFormed [] m → (scene : Scene) (answers : Answers)
    → open_walk scene answers m.body ≡ behavior scene landing (no_calls landing) m.body

-- and so is the layout
abbrev pub LayoutsStandAlone : Type 0
LayoutsStandAlone = (m : Module) → IsWellFormed [] m → layout open_layout m.body ≡ whole_layout m.body
