-- The account of a whole program's walk: its writes, and residuals with the stores that the step leaves.
use Rattle.std.specs.Prelude.{ℕ, List, map, Option, Some, None, is_some, if◌then◌else◌}
use Rattle.std.specs.List.{list_any}
use Rattle.std.specs.Option.{option_map}
use Rattle.qz_syntax.specs.declared.statements.Stmt.{Stmt}
use Rattle.qz_syntax.specs.declared.places.Mark.{Mark}
use Rattle.qz_syntax.specs.declared.places.Store.{Store}
use Rattle.qz_syntax.specs.declared.places.Residual.{Residual}
use Rattle.qz_syntax.specs.declared.places.Residual.TheVariants.{At, Hold, InSeq, InPar, InIf, InBody, InScope}
use Rattle.qz_meaning.specs.Instances.{local_instance}
use Rattle.qz_meaning.specs.Scenes.{Passing, store_from}
use Rattle.qz_meaning.specs.Accounts.{Write, Account}
use Rattle.qz_meaning.specs.Layouts.{Layout, bare}
use Rattle.qz_meaning.specs.Behaviors.{Behavior, idle}
use Rattle.qz_meaning.specs.Calls.{Calls}
use Rattle.qz_meaning.specs.Walks.{behavior, layout}

-- the locals' stores that come from their instances with this mark
abbrev pub stores_from : Passing → List ℕ → Mark → List Store
stores_from step locals m = map (λ n. store_from step (local_instance n m)) locals

-- control rests in the parallel where it rests in some member
abbrev pub in_some_branch : List (Option Residual) → Option Residual
in_some_branch branches = if list_any (λ branch. is_some branch) branches then Some (InPar branches) else None

-- where control rests, with the stores of its scopes
abbrev pub residing : Passing → Account Write (Option Residual)
residing step = record {
  wrote = λ w. w;
  nowhere = None;
  at = λ place. Some (At place);
  hold = λ place. Some (Hold place);
  in_member = λ number inside. option_map (λ r. InSeq number r) inside;
  in_members = in_some_branch;
  in_side = λ side inside. option_map (λ r. InIf side r) inside;
  in_body = λ inside. option_map (λ r. InBody r) inside;
  in_scope = λ locals m inside. option_map (λ r. InScope (stores_from step locals m) r) inside;
}

-- in a whole program each call is replaced by its callee's body, so none is walked
abbrev pub no_calls : {D T : Type 0} → Account D T → Calls D T
no_calls acc number arguments = idle acc

-- a walk of a whole program
abbrev pub Walk : Type 0
Walk = Behavior Write (Option Residual)

-- what a statement of a whole program does in a step
abbrev pub walk : Passing → Stmt → Walk
walk step = behavior step.now (residing step) (no_calls (residing step))

-- the layout of a statement of a whole program
abbrev pub whole_layout : Stmt → Layout
whole_layout = layout (λ number. bare)
