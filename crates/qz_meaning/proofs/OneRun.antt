-- Where every configuration that is passed is definite there is exactly one run.
use Rattle.std.proofs.Common.{◌≡◌, ℕ, true, List, [], ◌∷◌, map, length, refl, ap, ap₂, subst, ◌∙◌, arith}
use Rattle.std.proofs.lemmas.Bool.{false≢true, and_parts}
use Rattle.qz_values.specs.declared.Value.{Value}
use Rattle.qz_syntax.specs.declared.expressions.Var.TheVariants as var
use Rattle.qz_syntax.specs.declared.modules.Module.{Module}
use Rattle.qz_syntax.specs.declared.places.Store.{Store}
use Rattle.qz_syntax.specs.declared.places.Place.{Place}
use Rattle.qz_syntax.specs.declared.places.Place.TheVariants as place
use Rattle.qz_syntax.specs.WellFormed.{IsWellFormed}
use Rattle.qz_meaning.specs.Programs.{Program, program_of}
use Rattle.qz_meaning.specs.Configurations.{IsValuationOf, Configuration, initial, IsPlaceIn}
use Rattle.qz_meaning.specs.Runs.{RunsFrom, HaveOneSolutionEach, IsOnlyRun}
use Rattle.qz_meaning.specs.Valuations.{Valuation, is_store_of, IsPermittedPlace, IsPermitted, are_output_stores}
use Rattle.qz_meaning.specs.StepLaws.{HasOneStep}
use Rattle.qz_meaning.specs.RunLaws.{IsDefiniteFrom}
use Rattle.qz_meaning.proofs.OneStep.{one_step}

map_long : {A B : Type 0} (f : A → B) (xs : List A) → length (map f xs) ≡ length xs
map_long f [] = refl
map_long f (x ∷ xs) = let more = map_long f xs in omega (arith, more)

-- what runs from a configuration on there are
pub record OneRun (p : Program) (c : Configuration) (rows : List (List Value)) : Type 0 where
  pub outputs : List (List Value)
  pub passed : List Configuration
  pub runs : RunsFrom p c rows outputs passed
  pub one_solution : HaveOneSolutionEach p c rows passed
  pub only : (others : List (List Value)) (past : List Configuration) → RunsFrom p c rows others past → (others ≡ outputs) × (past ≡ passed)

no_rows : (p : Program) (c : Configuration) (others : List (List Value)) (past : List Configuration) → RunsFrom p c [] others past → (others ≡ []) × (past ≡ [])
no_rows p c [] [] h = (refl, refl)
no_rows p c [] (next ∷ past) h = absurd h
no_rows p c (out ∷ others) past h = absurd h

more_rows : (p : Program) (c : Configuration) (row : List Value) (rows : List (List Value)) (step : HasOneStep p c row) (rest : OneRun p step.next rows)
    → (others : List (List Value)) (past : List Configuration) → RunsFrom p c (row ∷ rows) others past → (others ≡ step.outputs ∷ rest.outputs) × (past ≡ step.next ∷ rest.passed)
more_rows p c row rows step rest [] past h = absurd h
more_rows p c row rows step rest (out ∷ others) [] h = absurd h
more_rows p c row rows step rest (out ∷ others) (next ∷ past) h =
    let is : next ≡ step.next = step.only_next out next h.0 in
    let more = rest.only others past (subst (λ (n : Configuration). RunsFrom p n rows others past) is h.1) in (
      ap₂ (λ (x : List Value) (xs : List (List Value)). x ∷ xs) (step.only_outputs out next h.0) more.0,
      ap₂ (λ (x : Configuration) (xs : List Configuration). x ∷ xs) is more.1,
    )

module _ (m : Module) (well : IsWellFormed [] m) where
  abbrev p : Program
  p = program_of m

  runs_from : (rows : List (List Value)) (c : Configuration) → IsDefiniteFrom p c rows → OneRun p c rows
  runs_from [] c definite = record { outputs = []; passed = []; runs = tt; one_solution = tt; only = no_rows p c }
  runs_from (row ∷ rows) c definite =
      let step = one_step m well c row definite.0 in
      let rest = runs_from rows step.next (definite.1 step.outputs step.next step.step) in
      record {
        outputs = step.outputs ∷ rest.outputs;
        passed = step.next ∷ rest.passed;
        runs = (step.step, rest.runs);
        one_solution = (step.one_solution, rest.one_solution);
        only = more_rows p c row rows step rest;
      }

  pub one_run : (rows : List (List Value)) → IsDefiniteFrom p (initial p) rows → (outputs : List (List Value)) × IsOnlyRun p rows outputs
  one_run rows definite =
      let run = runs_from rows (initial p) definite in (
        run.outputs,
        record {
          passed = run.passed;
          runs = run.runs;
          one_solution = run.one_solution;
          only_outputs = λ others it. (run.only others it.0 it.1).0;
          only_way = λ others past it. (run.only others past it).1;
        },
      )

stores_long : (p : Program) (outputs : List ℕ) (stores : List Store) → are_output_stores p outputs stores ≡ true → length stores ≡ length outputs
stores_long p [] [] h = refl
stores_long p [] (s ∷ stores) h = absurd (false≢true h)
stores_long p (n ∷ outputs) [] h = absurd (false≢true h)
stores_long p (n ∷ outputs) (s ∷ stores) h = let more : length stores ≡ length outputs = stores_long p outputs stores (and_parts (is_store_of p (var.Formal n) s) (are_output_stores p outputs stores) h).1 in omega (arith, more)

placed_by : (p : Program) (c : Configuration) (where_at : Place) → IsPermittedPlace p c where_at → IsPlaceIn p where_at × (length c.outputs ≡ length p.outputs)
placed_by p c place.NotStarted h = (tt, ap (λ (it : Configuration). length it.outputs) h ∙ map_long _ p.outputs)
placed_by p c (place.Rest r) h = let two = and_parts _ _ h in (two.0, stores_long p p.outputs c.outputs (and_parts _ _ two.1).1)
placed_by p c place.Ended h = (tt, stores_long p p.outputs c.outputs h)

-- a permitted valuation is one of the program
pub permitted_is_valuation : (p : Program) (v : Valuation) → IsPermitted p v → IsValuationOf p v.configuration v.inputs
permitted_is_valuation p v h =
    let placed = placed_by p v.configuration v.configuration.place h.place in
    record { configuration = record { place = placed.0; outputs = placed.1 }; inputs = h.inputs }
