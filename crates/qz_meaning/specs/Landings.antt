-- The account of a module's open walk: its writes and calls, and where control rests as one flat list.
use Rattle.std.specs.Prelude.{ℕ, List, [], ◌∷◌, ◌++◌, map}
use Rattle.std.specs.List.{flat_map}
use Rattle.qz_values.specs.declared.Know.{Know}
use Rattle.qz_syntax.specs.declared.statements.Stmt.{Stmt}
use Rattle.qz_syntax.specs.declared.places.Mark.{Mark}
use Rattle.qz_meaning.specs.Instances.{Instance, local_instance}
use Rattle.qz_meaning.specs.Scenes.{Scene}
use Rattle.qz_meaning.specs.Accounts.{Write, Account}
use Rattle.qz_meaning.specs.Behaviors.{Behavior}
use Rattle.qz_meaning.specs.Calls.{Passed, CallAccount, Answers, open_call}
use Rattle.qz_meaning.specs.Walks.{behavior}

-- what a walk does: a write, or a call that is started or resumed with a guard
pub data Deed : Type 0 where
  Wrote : Write → Deed
  Starts : Passed → Know → Mark → Deed
  Resumes : Passed → Know → Deed

-- one thing that is so after a step: control rests at a place, a scope is kept or entered by an instance of
-- its local, or a call is entered, goes on or stays as it is
pub data Spot : Type 0 where
  At : ℕ → Spot
  Keeps : Instance → Spot
  Enters : Passed → Mark → Spot
  GoesOn : Passed → Spot
  Stays : ℕ → Spot

-- the locals of a scope, by their instances with this mark
abbrev pub keeps : List ℕ → Mark → List Spot
keeps locals m = map (λ n. Keeps (local_instance n m)) locals

-- a scope is kept or entered where control rests somewhere in it
abbrev pub scoped : List ℕ → Mark → List Spot → List Spot
scoped locals m [] = []
scoped locals m (spot ∷ spots) = (spot ∷ spots) ++ keeps locals m

-- writes and calls are deeds, and where control rests is a list of spots, inner scopes first
abbrev pub landing : Account Deed (List Spot)
landing = record {
  wrote = Wrote;
  nowhere = [];
  at = λ place. At place ∷ [];
  hold = λ place. At place ∷ [];
  in_member = λ number inside. inside;
  in_members = λ insides. flat_map (λ inside. inside) insides;
  in_side = λ side inside. inside;
  in_body = λ inside. inside;
  in_scope = scoped;
}

-- calls are deeds and spots
abbrev pub landing_calls : CallAccount Deed (List Spot)
landing_calls = record {
  starts = λ call g m. Starts call g m;
  resumes = λ call g. Resumes call g;
  enters = λ call m. Enters call m ∷ [];
  goes_on = λ call. GoesOn call ∷ [];
  stays = λ number. Stays number ∷ [];
}

-- what a statement does to the module that it stands in, where its calls answer so
abbrev pub open_walk : Scene → Answers → Stmt → Behavior Deed (List Spot)
open_walk scene answers = behavior scene landing (open_call scene [] landing_calls answers)
