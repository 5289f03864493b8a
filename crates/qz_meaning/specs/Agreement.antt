-- When the two accounts of a walk say the same: its writes with residuals and stores, and its deeds with spots.
use Rattle.std.specs.Prelude.{◌≡◌, ℕ, IsTrue, List, [], map, Option, Some, None}
use Rattle.std.specs.Option.{option_map}
use Rattle.qz_values.specs.declared.Know.{Know}
use Rattle.qz_syntax.specs.declared.statements.Stmt.{Stmt}
use Rattle.qz_syntax.specs.declared.places.Mark.{Mark}
use Rattle.qz_syntax.specs.declared.places.Residual.{Residual}
use Rattle.qz_meaning.specs.Scenes.{Passing, Context, store_from}
use Rattle.qz_meaning.specs.Layouts.{Layout}
use Rattle.qz_meaning.specs.Behaviors.{Behavior}
use Rattle.qz_meaning.specs.Walks.{behavior}
use Rattle.qz_meaning.specs.Residing.{no_calls, Walk, walk, whole_layout}
use Rattle.qz_meaning.specs.Landings.{Deed, Wrote, Spot, landing}
use Rattle.qz_meaning.specs.Carrying.{places_in, kept_by, is_somewhere}
use Rattle.qz_meaning.specs.Valuations.{resting_places, store_among}

-- control can rest so, at the places that the spots name, and the store of each local there comes from the
-- instance by which the spots say that its scope is kept or entered
pub record RestsAsTold (step : Passing) (l : Layout) (r : Residual) (spots : List Spot) : Type 0 where
  pub fits : IsTrue (l.fits r)
  pub places : resting_places r ≡ places_in spots
  pub stores : (n : ℕ) → store_among (l.stores_at r) n ≡ option_map (store_from step) (kept_by spots n)
  pub somewhere : IsTrue (is_somewhere spots)

-- the same where control may rest nowhere
abbrev pub GoesAsTold : Passing → Layout → Option Residual → List Spot → Type 0
GoesAsTold step l None spots = spots ≡ []
GoesAsTold step l (Some r) spots = RestsAsTold step l r spots

-- both walks end alike and write the same, and where control goes is told alike
pub record AccountsAgree (step : Passing) (a : Walk) (b : Behavior Deed (List Spot)) (l : Layout) : Type 0 where
  pub ends : (ctx : Context) (m : Mark) → a.ends ctx m ≡ b.ends ctx m
  pub start : (ctx : Context) (g : Know) (m : Mark) → map Wrote (a.start ctx g m) ≡ b.start ctx g m
  pub ended : (ctx : Context) (r : Residual) → a.ended ctx r ≡ b.ended ctx r
  pub resume : (ctx : Context) (r : Residual) (g : Know) → map Wrote (a.resume ctx r g) ≡ b.resume ctx r g
  pub rest : (ctx : Context) (m : Mark) → GoesAsTold step l (a.rest ctx m) (b.rest ctx m)
  pub after : (ctx : Context) (r : Residual) → IsTrue (l.fits r) → GoesAsTold step l (a.after ctx r) (b.after ctx r)
  pub kept : (r : Residual) → IsTrue (l.fits r) → GoesAsTold step l (a.kept r) (b.kept r)

-- so it is for every statement, where no call is walked
abbrev pub TheAccountsAgree : Type 0
TheAccountsAgree = (step : Passing) (s : Stmt)
    → AccountsAgree step (walk step s) (behavior step.now landing (no_calls landing) s) (whole_layout s)
