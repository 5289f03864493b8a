-- Runs that go on step by step.
use Rattle.std.proofs.Common.{◌≡◌, ℕ, suc, ◌+◌, ◌*◌, List, [], ◌∷◌, ◌++◌, map, length, Some, refl, sym, ap, ap₂, subst, ◌∙◌, append_assoc, append-nil, arith}
use Rattle.std.specs.Prelude.{slice_get, take, drop}
use Rattle.std.proofs.lemmas.List.{map-append, length-append}
use Rattle.qz_values.specs.declared.Ty.{Ty}
use Rattle.qz_values.specs.declared.Value.{Value}
use Rattle.qz_values.specs.Values.{bits_of}
use Rattle.qz_syntax.specs.declared.modules.Whole.{Whole}
use Rattle.qz_syntax.specs.declared.refusals.Doubt.{Doubt}
use Rattle.qz_meaning.specs.Instances.{Instance}
use Rattle.qz_meaning.specs.Programs.{Program, program_of}
use Rattle.qz_meaning.specs.Configurations.{Configuration, initial}
use Rattle.qz_meaning.specs.Rounds.{IsDefinite}
use Rattle.qz_meaning.specs.Runs.{RunsFrom, HaveOneSolutionEach}
use Rattle.qz_meaning.specs.RunLaws.{IsDefiniteFrom}
use Rattle.qz_trace.specs.Rows.{rows_of}
use Rattle.qz_trace.proofs.RowLemmas.{rows_more}
use Rattle.qz_interp.specs.declared.doubts.Doubted.{Doubted}
use Rattle.qz_interp.specs.OnlySteps.{IsOnlyStep, IsNotDefinite}
use Rattle.qz_run.specs.Inputs.{values_of}
use Rattle.qz_run.specs.Runs.{IsDefiniteRun, last_of, doubt_text, IsFirstIndefinite, AreOutputs}

-- a definite run from a configuration on, the only one, and where it leads
pub record Runs (p : Program) (c : Configuration) (rows outs : List (List Value)) (to : Configuration) : Type 0 where
  pub passed : List Configuration
  pub runs : RunsFrom p c rows outs passed
  pub one_solution : HaveOneSolutionEach p c rows passed
  pub definite : IsDefiniteFrom p c rows
  pub only : (others : List (List Value)) (past : List Configuration) → RunsFrom p c rows others past → (others ≡ outs) × (past ≡ passed)
  pub leads : last_of c passed ≡ to

no_rows : (p : Program) (c : Configuration) (others : List (List Value)) (past : List Configuration) → RunsFrom p c [] others past → (others ≡ []) × (past ≡ [])
no_rows p c [] [] h = (refl, refl)
no_rows p c [] (next ∷ past) h = absurd h
no_rows p c (out ∷ others) past h = absurd h

runs_none : (p : Program) (c : Configuration) → Runs p c [] [] c
runs_none p c = record { passed = []; runs = tt; one_solution = tt; definite = tt; only = no_rows p c; leads = refl }

-- one step before a run
runs_first : (p : Program) (c : Configuration) (row out : List Value) (next : Configuration) (rows outs : List (List Value)) (to : Configuration)
    → IsOnlyStep p c row out next → Runs p next rows outs to → Runs p c (row ∷ rows) (out ∷ outs) to
runs_first p c row out next rows outs to step rest = record {
  passed = next ∷ rest.passed;
  runs = (step.step, rest.runs);
  one_solution = (step.one_solution, rest.one_solution);
  definite = (step.definite, λ others after it. subst (λ (n : Configuration). IsDefiniteFrom p n rows) (sym (step.only_next others after it)) rest.definite);
  only = only;
  leads = rest.leads;
} where
  only : (others : List (List Value)) (past : List Configuration) → RunsFrom p c (row ∷ rows) others past → (others ≡ out ∷ outs) × (past ≡ next ∷ rest.passed)
  only [] past h = absurd h
  only (one ∷ others) [] h = absurd h
  only (one ∷ others) (after ∷ past) h =
      let more = rest.only others past (subst (λ (n : Configuration). RunsFrom p n rows others past) (step.only_next one after h.0) h.1) in (
        ap₂ (λ (x : List Value) (xs : List (List Value)). x ∷ xs) (step.only_outputs one after h.0) more.0,
        ap₂ (λ (x : Configuration) (xs : List Configuration). x ∷ xs) (step.only_next one after h.0) more.1,
      )

-- so many of the rows are done, with these outputs, and whatever runs from here on makes a run over them all
pub record Ran (p : Program) (types : List Ty) (all rest : List (List ℕ)) (c : Configuration) (count : ℕ) (outs : List (List ℕ)) : Type 0 where
  pub done : List (List ℕ)
  pub all_are : all ≡ done ++ rest
  pub count_is : length done ≡ count
  pub given : List (List Value)
  pub outs_are : outs ≡ map (map bits_of) given
  pub goes_on : (rows more : List (List Value)) (to : Configuration) → Runs p c rows more to → Runs p (initial p) (map (values_of types) done ++ rows) (given ++ more) to

pub ran_none : (p : Program) (types : List Ty) (all : List (List ℕ)) → Ran p types all all (initial p) 0 []
ran_none p types all = record { done = []; all_are = refl; count_is = refl; given = []; outs_are = refl; goes_on = λ rows more to it. it }

ran_more : (p : Program) (types : List Ty) (all rest : List (List ℕ)) (row : List ℕ) (c next : Configuration) (count : ℕ) (outs : List (List ℕ)) (out : List Value)
    → Ran p types all (row ∷ rest) c count outs → IsOnlyStep p c (values_of types row) out next
    → Ran p types all rest next (suc count) (outs ++ (map bits_of out ∷ []))
ran_more p types all rest row c next count outs out ran step = record {
  done = ran.done ++ (row ∷ []);
  all_are = ran.all_are ∙ sym (append_assoc ran.done (row ∷ []) rest);
  count_is = let longer = length-append ran.done (row ∷ []) in let before = ran.count_is in omega (arith, longer, before);
  given = ran.given ++ (out ∷ []);
  outs_are = ap (λ l. l ++ (map bits_of out ∷ [])) ran.outs_are ∙ sym (map-append (map bits_of) ran.given (out ∷ []));
  goes_on = λ rows more to it.
      let first = ran.goes_on (values_of types row ∷ rows) (out ∷ more) to (runs_first p c (values_of types row) out next rows more to step it) in
      subst (λ (r : List (List Value)). Runs p (initial p) r ((ran.given ++ (out ∷ [])) ++ more) to) (sym (joins rows))
      (subst (λ (o : List (List Value)). Runs p (initial p) (map (values_of types) ran.done ++ (values_of types row ∷ rows)) o to) (sym (append_assoc ran.given (out ∷ []) more)) first);
} where
  joins : (rows : List (List Value)) → map (values_of types) (ran.done ++ (row ∷ [])) ++ rows ≡ map (values_of types) ran.done ++ (values_of types row ∷ rows)
  joins rows = ap (λ l. l ++ rows) (map-append (values_of types) ran.done (row ∷ []))
      ∙ append_assoc (map (values_of types) ran.done) (values_of types row ∷ []) rows

-- one step more: the row in front of what is left, and its outputs after those so far
pub ran_step : (p : Program) (types : List Ty) (w width done left : ℕ) (all : List (List ℕ)) (rest values row later more : List ℕ) (out : List Value) (c next : Configuration)
    → Ran p types all (rows_of w (suc left) rest) c done (rows_of width done values)
    → row ≡ take w rest → later ≡ drop w rest → more ≡ values ++ map bits_of out → length values ≡ width * done → length (map bits_of out) ≡ width
    → IsOnlyStep p c (values_of types row) out next
    → Ran p types all (rows_of w left later) next (suc done) (rows_of width (suc done) more)
ran_step p types w width done left all rest values row later more out c next ran front back joined held size step =
    let P : List ℕ → Type 0 = λ r. IsOnlyStep p c (values_of types r) out next in
    let on = ran_more p types all (rows_of w left (drop w rest)) (take w rest) c next done (rows_of width done values) out ran (subst P front step) in
    let told : rows_of width (suc done) more ≡ rows_of width done values ++ (map bits_of out ∷ []) =
    ap (rows_of width (suc done)) joined ∙ rows_more width done values (map bits_of out) held size in
    let Q : List (List ℕ) → Type 0 = λ outs. Ran p types all (rows_of w left (drop w rest)) next (suc done) outs in
    let R : List ℕ → Type 0 = λ l. Ran p types all (rows_of w left l) next (suc done) (rows_of width (suc done) more) in
    subst R (sym back) (subst Q (sym told) on)

is_definite_run : (p : Program) (rows outs : List (List Value)) (to : Configuration) → Runs p (initial p) rows outs to → IsDefiniteRun p rows outs
is_definite_run p rows outs to it = record {
  definite = it.definite;
  only = record {
    passed = it.passed;
    runs = it.runs;
    one_solution = it.one_solution;
    only_outputs = λ others run. (it.only others run.0 run.1).0;
    only_way = λ others past run. (it.only others past run).1;
  };
}

-- the run over the rows that are done
ran_so_far : (p : Program) (types : List Ty) (all rest : List (List ℕ)) (c : Configuration) (count : ℕ) (outs : List (List ℕ)) (ran : Ran p types all rest c count outs)
    → Runs p (initial p) (map (values_of types) ran.done) ran.given c
ran_so_far p types all rest c count outs ran =
    subst (λ (r : List (List Value)). Runs p (initial p) r ran.given c) (append-nil (map (values_of types) ran.done))
    (subst (λ (o : List (List Value)). Runs p (initial p) (map (values_of types) ran.done ++ []) o c) (append-nil ran.given) (ran.goes_on [] [] c (runs_none p c)))

-- all rows are done
pub ran_all : (p : Program) (types : List Ty) (all : List (List ℕ)) (c : Configuration) (count : ℕ) (outs : List (List ℕ)) → Ran p types all [] c count outs
    → AreOutputs p (map (values_of types) all) outs
ran_all p types all c count outs ran = record {
  outs = ran.given;
  run = subst (λ (rows : List (List ℕ)). IsDefiniteRun p (map (values_of types) rows) ran.given) (sym (ran.all_are ∙ append-nil ran.done))
      (is_definite_run p (map (values_of types) ran.done) ran.given c (ran_so_far p types all [] c count outs ran));
  are = ran.outs_are;
}

-- the next row isn't definite
pub ran_stop : (w : Whole) (types : List Ty) (all rest : List (List ℕ)) (row : List ℕ) (c : Configuration) (count step : ℕ) (outs : List (List ℕ)) (doubted : Doubted) (name : List ℕ)
    → Ran (program_of w.module) types all (row ∷ rest) c count outs → step ≡ count + 1
    → IsNotDefinite (program_of w.module) c (values_of types row) doubted → (i : Instance) → slice_get (program_of w.module).instances doubted.number ≡ Some i
    → name ≡ doubt_text w i doubted.delayed
    → IsFirstIndefinite w (map (values_of types) all) step name doubted.doubt
unfolding is_definite_run
ran_stop w types all rest row c count step outs doubted name ran number stands i there named =
    let p : Program = program_of w.module in
    let so_far = ran_so_far p types all (row ∷ rest) c count outs ran in
    record {
      before = map (values_of types) ran.done;
      row = values_of types row;
      after = map (values_of types) rest;
      rows_are = ap (map (values_of types)) ran.all_are ∙ map-append (values_of types) ran.done (row ∷ rest);
      number = number ∙ ap (λ n. n + 1) (sym (map_long ran.done ∙ ran.count_is));
      outs = ran.given;
      run = is_definite_run p (map (values_of types) ran.done) ran.given c so_far;
      doubted = doubted;
      stands = subst (λ (at : Configuration). IsNotDefinite p at (values_of types row) doubted) (sym so_far.leads) stands;
      instance = i;
      is_instance = there;
      named = named;
      is_why = refl;
    }
  where
    map_long : (rows : List (List ℕ)) → length (map (values_of types) rows) ≡ length rows
    map_long [] = refl
    map_long (r ∷ rows) = ap suc (map_long rows)

-- a definite run over rows is definite in each of its steps
definite_there : (p : Program) (c : Configuration) (before : List (List Value)) (row : List Value) (after outs : List (List Value)) (passed : List Configuration)
    → RunsFrom p c before outs passed → IsDefiniteFrom p c (before ++ (row ∷ after)) → IsDefinite p (last_of c passed) row
definite_there p c [] row after [] [] runs definite = definite.0
definite_there p c [] row after [] (next ∷ passed) runs definite = absurd runs
definite_there p c [] row after (out ∷ outs) passed runs definite = absurd runs
definite_there p c (one ∷ before) row after [] passed runs definite = absurd runs
definite_there p c (one ∷ before) row after (out ∷ outs) [] runs definite = absurd runs
definite_there p c (one ∷ before) row after (out ∷ outs) (next ∷ passed) runs definite =
    definite_there p next before row after outs passed runs.1 (definite.1 out next runs.0)

-- no step isn't definite where there is a definite run over all rows
pub never_indefinite : (w : Whole) (rows outs : List (List Value)) (step : ℕ) (name : List ℕ) (why : Doubt)
    → IsDefiniteRun (program_of w.module) rows outs → IsFirstIndefinite w rows step name why → ⊥
never_indefinite w rows outs step name why run first =
    let p : Program = program_of w.module in
    first.stands.indefinite (definite_there p (initial p) first.before first.row first.after first.outs first.run.only.passed first.run.only.runs
    (subst (IsDefiniteFrom p (initial p)) first.rows_are run.definite))
