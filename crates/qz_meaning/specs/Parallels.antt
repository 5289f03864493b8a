-- Statements all at once.
use Rattle.std.specs.Prelude.{Bool, true, false, ◌&&◌, List, [], ◌∷◌, map, Option, Some, None, is_some}
use Rattle.std.specs.List.{flat_map, list_any}
use Rattle.qz_values.specs.declared.Know.{Know}
use Rattle.qz_values.specs.declared.Know.TheVariants.{Known}
use Rattle.qz_values.specs.Values.{yes}
use Rattle.qz_values.specs.Knowledge.{both}
use Rattle.qz_syntax.specs.declared.places.Residual.{Residual, out-Residual}
use Rattle.qz_syntax.specs.declared.places.Residual.TheOpen.{Residual-F}
use Rattle.qz_meaning.specs.Scenes.{Context}
use Rattle.qz_meaning.specs.Residuals.{branches_of}
use Rattle.qz_meaning.specs.Accounts.{Account}
use Rattle.qz_meaning.specs.Layouts.{PlaceBits, Layout}
use Rattle.qz_meaning.specs.Behaviors.{Behavior}
use Rattle.qz_meaning.specs.Sequences.{ends_of_all, all_away}

-- the members in which control rests, each with where it does
abbrev pub resting : {A : Type 0} → List A → List (Option Residual) → List (A × Residual)
resting [] branches = []
resting (part ∷ parts) [] = []
resting (part ∷ parts) (None ∷ branches) = resting parts branches
resting (part ∷ parts) (Some r ∷ branches) = (part, r) ∷ resting parts branches

-- the ends so far, and those of all members that are resumed
abbrev pub ended_of_all : {D T : Type 0} → Context → List (Behavior D T × Residual) → Know → Know
ended_of_all ctx [] so_far = so_far
ended_of_all ctx (one ∷ others) so_far = ended_of_all ctx others (both so_far (one.0.ended ctx one.1))

-- something for each member in which control rests, and something else for each other one
abbrev pub each_branch : {A T : Type 0} → T → (A → Residual → T) → List A → List (Option Residual) → List T
each_branch none f [] branches = []
each_branch none f (part ∷ parts) [] = []
each_branch none f (part ∷ parts) (None ∷ branches) = none ∷ each_branch none f parts branches
each_branch none f (part ∷ parts) (Some r ∷ branches) = f part r ∷ each_branch none f parts branches

-- All members are started, and it ends where all do. Those inside are resumed, the others are done.
abbrev pub parallel : {D T : Type 0} → Account D T → List (Behavior D T) → Behavior D T
parallel {D = D} {T = T} acc parts = record {
  ends = λ ctx m. ends_of_all ctx parts (Known yes) m;
  start = λ ctx g m. flat_map (λ (part : Behavior D T). part.start ctx g m) parts;
  ended = λ ctx r. ended_of_all ctx (resting parts (branches_of r)) (Known yes);
  resume = λ ctx r g. flat_map (λ (one : Behavior D T × Residual). one.0.resume ctx one.1 g) (resting parts (branches_of r));
  rest = λ ctx m. acc.in_members (map (λ (part : Behavior D T). part.rest ctx m) parts);
  after = λ ctx r. acc.in_members (each_branch acc.nowhere (λ part inside. part.after ctx inside) parts (branches_of r));
  kept = λ r. acc.in_members (each_branch acc.nowhere (λ part inside. part.kept inside) parts (branches_of r));
}

-- whether there is a branch for each member, and control can rest in each member that has one so
abbrev pub fits_each : List Layout → List (Option Residual) → Bool
fits_each [] [] = true
fits_each [] (branch ∷ branches) = false
fits_each (part ∷ parts) [] = false
fits_each (part ∷ parts) (None ∷ branches) = fits_each parts branches
fits_each (part ∷ parts) (Some r ∷ branches) = part.fits r && fits_each parts branches

-- control rests in at least one member of a parallel
abbrev pub fits_in_some : List Layout → Residual-F Residual → Bool
fits_in_some parts (Residual-F.InPar branches) = list_any (λ branch. is_some branch) branches && fits_each parts branches
fits_in_some parts other = false

-- the bits say that control rests so in each member that has a branch, and in no other one
abbrev pub at_each : PlaceBits → List Layout → List (Option Residual) → Bool
at_each bits [] branches = true
at_each bits (part ∷ parts) [] = false
at_each bits (part ∷ parts) (None ∷ branches) = part.away bits && at_each bits parts branches
at_each bits (part ∷ parts) (Some r ∷ branches) = part.at bits r && at_each bits parts branches

-- a resume comes past the members inside
abbrev pub parallel_layout : List Layout → Layout
parallel_layout parts = record {
  met_on_start = λ m. flat_map (λ (part : Layout). part.met_on_start m) parts;
  met_on_resume = λ r. flat_map (λ (one : Layout × Residual). one.0.met_on_resume one.1) (resting parts (branches_of r));
  fits = λ r. fits_in_some parts (out-Residual r);
  stores_at = λ r. flat_map (λ (one : Layout × Residual). one.0.stores_at one.1) (resting parts (branches_of r));
  at = λ bits r. at_each bits parts (branches_of r);
  away = λ bits. all_away bits parts;
}
