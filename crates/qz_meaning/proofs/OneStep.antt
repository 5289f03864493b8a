-- A definite configuration with inputs has exactly one macro step.
use Rattle.std.proofs.Common.{◌≡◌, ℕ, zero, suc, ◌+◌, ◌<◌, ◌≤◌, Bool, true, false, List, [], ◌∷◌, map, length, refl, sym, ap, ap₂, subst, ◌∙◌, ◌⊎◌, inl, inr, arith}
use Rattle.std.specs.Prelude.{◌==◌, if◌then◌else◌, is_some, slice_get}
use Rattle.std.specs.List.{AllByRecursion}
use Rattle.std.proofs.lemmas.Bool.{false≢true, cases_lt, eqb-true}
use Rattle.qz_values.specs.declared.Value.{Value}
use Rattle.qz_values.specs.declared.Know.{Know}
use Rattle.qz_values.specs.declared.Know.TheVariants.{Unknown, Known, Clash}
use Rattle.qz_syntax.specs.declared.declarations.Dir.{Dir}
use Rattle.qz_syntax.specs.declared.declarations.Dir.TheVariants as dir
use Rattle.qz_syntax.specs.declared.declarations.Formal.{Formal}
use Rattle.qz_syntax.specs.declared.expressions.Var.TheVariants as var
use Rattle.qz_syntax.specs.declared.modules.Module.{Module}
use Rattle.qz_syntax.specs.declared.places.Mark.TheVariants as mark
use Rattle.qz_syntax.specs.declared.places.Store.{Store}
use Rattle.qz_syntax.specs.declared.places.Place.{Place}
use Rattle.qz_syntax.specs.declared.places.Place.TheVariants as place
use Rattle.qz_syntax.specs.Typing.{no_sight}
use Rattle.qz_syntax.specs.WellFormed.{declared_by, IsWellFormed}
use Rattle.qz_meaning.specs.Instances.{formal_instance}
use Rattle.qz_meaning.specs.Scenes.{root, store_of, store_from}
use Rattle.qz_meaning.specs.Layouts.{Met}
use Rattle.qz_meaning.specs.Programs.{Program, is_same_direction, numbers_in, times, program_of}
use Rattle.qz_meaning.specs.Configurations.{IsConfiguration, Configuration, layout_of, IsPlaceIn}
use Rattle.qz_meaning.specs.Settling.{Environment, passing, body_under, met_at, met_outputs, step_met}
use Rattle.qz_meaning.specs.Rounds.{AgreeAt, IsKnown, IsPlainAt, IsDefinite}
use Rattle.qz_meaning.specs.MacroSteps.{IsStep, HasInputs, IsSolution, rest_or_end, next_place, next_configuration}
use Rattle.qz_meaning.specs.StepLaws.{HasOneStep}
use Rattle.qz_meaning.proofs.Lists.{all_parts}
use Rattle.qz_meaning.proofs.Finding.{head_or, tail_of}
use Rattle.qz_meaning.proofs.Orderly.{same_number, own_numbers}
use Rattle.qz_meaning.proofs.Solutions.{solution_agrees, least_is_solution}
use Rattle.qz_meaning.proofs.Reading.{Seen, Same, walks_same}

-- each formal is an input or an output
formal_somewhere : (formals : List Formal) (k n j : ℕ) → j ≡ k + n → is_some (slice_get formals n) ≡ true
    → 1 ≤ times j (numbers_in dir.In k formals) + times j (numbers_in dir.Out k formals)
formal_somewhere [] k n j e h = absurd (false≢true h)
formal_somewhere (formal ∷ formals) k zero j e h =
    here formal.dir (k == j) (let is : k ≡ j = omega (arith, e) in subst (λ i. (k == i) ≡ true) is (same_number k)) (numbers_in dir.In (k + 1) formals) (numbers_in dir.Out (k + 1) formals) where
      here : (d : Dir) (b : Bool) → (k == j) ≡ true → (xs ys : List ℕ)
          → 1 ≤ times j (if is_same_direction d dir.In then k ∷ xs else xs) + times j (if is_same_direction d dir.Out then k ∷ ys else ys)
      here dir.In b is xs ys = let one = ap {B = ℕ} (λ (t : Bool). if t then 1 else 0) is in omega (arith, one)
      here dir.Out b is xs ys = let one = ap {B = ℕ} (λ (t : Bool). if t then 1 else 0) is in omega (arith, one)
formal_somewhere (formal ∷ formals) k (suc n) j e h =
    there formal.dir (numbers_in dir.In (k + 1) formals) (numbers_in dir.Out (k + 1) formals) (formal_somewhere formals (k + 1) n j (omega (arith, e)) h) where
      there : (d : Dir) (xs ys : List ℕ) → 1 ≤ times j xs + times j ys
          → 1 ≤ times j (if is_same_direction d dir.In then k ∷ xs else xs) + times j (if is_same_direction d dir.Out then k ∷ ys else ys)
      there dir.In xs ys h = omega (arith, h)
      there dir.Out xs ys h = omega (arith, h)

input_same : (f g : ℕ → Know) (inputs : List ℕ) (n : ℕ) → map f inputs ≡ map g inputs → 1 ≤ times n inputs → f n ≡ g n
input_same f g [] n e h = absurd (omega (arith, h))
input_same f g (x ∷ inputs) n e h = by_test (λ k. input_same f g inputs n (ap tail_of e) k) (x == n) refl h where
  by_test : (1 ≤ times n inputs → f n ≡ g n) → (b : Bool) → (x == n) ≡ b → 1 ≤ (if b then 1 else 0) + times n inputs → f n ≡ g n
  by_test later true i k = subst (λ j. f j ≡ g j) (eqb-true x n i) (ap (head_or Unknown) e)
  by_test later false i k = later (omega (arith, k))

output_same : (a b : Environment) (outputs : List ℕ) (stores : List Store) → length stores ≡ length outputs → AllByRecursion (λ (one : Met). AgreeAt one a b) (met_outputs outputs stores)
    → (n : ℕ) → 1 ≤ times n outputs → a.now (formal_instance n) ≡ b.now (formal_instance n)
output_same a b [] stores long all n h = absurd (omega (arith, h))
output_same a b (x ∷ outputs) [] long all n h = absurd (omega (arith, long))
output_same a b (x ∷ outputs) (s ∷ stores) long all n h = by_test (λ k. output_same a b outputs stores (omega (arith, long)) all.1 n k) (x == n) refl h where
  by_test : (1 ≤ times n outputs → a.now (formal_instance n) ≡ b.now (formal_instance n)) → (t : Bool) → (x == n) ≡ t → 1 ≤ (if t then 1 else 0) + times n outputs
      → a.now (formal_instance n) ≡ b.now (formal_instance n)
  by_test later true i k = subst (λ j. a.now (formal_instance j) ≡ b.now (formal_instance j)) (eqb-true x n i) all.0.now
  by_test later false i k = later (omega (arith, k))

-- the values and the stores of outputs are the same
outputs_same : (a b : Environment) (outputs : List ℕ) (stores : List Store) → length stores ≡ length outputs → AllByRecursion (λ (one : Met). AgreeAt one a b) (met_outputs outputs stores)
    → map (λ n. a.now (formal_instance n)) outputs ≡ map (λ n. b.now (formal_instance n)) outputs
outputs_same a b [] stores long all = refl
outputs_same a b (x ∷ outputs) [] long all = absurd (omega (arith, long))
outputs_same a b (x ∷ outputs) (s ∷ stores) long all =
    ap₂ (λ (k : Know) (l : List Know). k ∷ l) all.0.now (outputs_same a b outputs stores (omega (arith, long)) all.1)

stores_same : (p : Program) (a b : Environment) (outputs : List ℕ) (stores : List Store) → length stores ≡ length outputs → AllByRecursion (λ (one : Met). AgreeAt one a b) (met_outputs outputs stores)
    → map (λ n. store_from (passing p a) (formal_instance n)) outputs ≡ map (λ n. store_from (passing p b) (formal_instance n)) outputs
stores_same p a b [] stores long all = refl
stores_same p a b (x ∷ outputs) [] long all = absurd (omega (arith, long))
stores_same p a b (x ∷ outputs) (s ∷ stores) long all =
    ap₂ (λ (k : Store) (l : List Store). k ∷ l)
    (ap₂ (store_of (p.class_of (var.Formal x)) (p.type_of (var.Formal x))) all.0.now all.0.later) (stores_same p a b outputs stores (omega (arith, long)) all.1)

known_value : (k : Know) → IsKnown k → (v : Value) × (k ≡ Known v)
known_value Unknown h = absurd h
known_value (Known v) h = (v, refl)
known_value Clash h = absurd h

-- outputs that are known have values
outputs_known : (env : Environment) (outputs : List ℕ) (stores : List Store) → length stores ≡ length outputs → AllByRecursion (IsPlainAt env) (met_outputs outputs stores)
    → (values : List Value) × (map (λ n. env.now (formal_instance n)) outputs ≡ map (λ (v : Value). Known v) values)
outputs_known env [] stores long all = ([], refl)
outputs_known env (x ∷ outputs) [] long all = absurd (omega (arith, long))
outputs_known env (x ∷ outputs) (s ∷ stores) long all =
    let one = known_value (env.now (formal_instance x)) all.0.now in
    let more = outputs_known env outputs stores (omega (arith, long)) all.1 in
    (one.0 ∷ more.0, ap₂ (λ (k : Know) (l : List Know). k ∷ l) one.1 more.1)

value_or : Know → Value → Value
value_or Unknown d = d
value_or (Known v) d = v
value_or Clash d = d

nil≢cons : (k : Know) (l : List Know) → [] ≡ k ∷ l → ⊥
nil≢cons k l e = cc

same_values : (xs ys : List Value) → map (λ (v : Value). Known v) xs ≡ map (λ (v : Value). Known v) ys → xs ≡ ys
unfolding value_or
same_values [] [] e = refl
same_values [] (y ∷ ys) e = absurd (nil≢cons _ _ e)
same_values (x ∷ xs) [] e = absurd (nil≢cons _ _ (sym e))
same_values (x ∷ xs) (y ∷ ys) e =
    ap₂ (λ (v : Value) (l : List Value). v ∷ l) (ap (λ l. value_or (head_or Unknown l) x) e) (same_values xs ys (ap tail_of e))

-- what agrees with one environment agrees with another
agree_through : (it a b : Environment) (met : List Met) → AllByRecursion (λ (one : Met). AgreeAt one it a) met → AllByRecursion (λ (one : Met). AgreeAt one it b) met
    → AllByRecursion (λ (one : Met). AgreeAt one a b) met
agree_through it a b [] x y = tt
agree_through it a b (one ∷ met) x y = (record { now = sym x.0.now ∙ y.0.now; later = sym x.0.later ∙ y.0.later }, agree_through it a b met x.1 y.1)

module _ (m : Module) (well : IsWellFormed [] m) (c : Configuration) (row : List Value) where
  abbrev p : Program
  p = program_of m

  module _ (placed : IsConfiguration p c) (a b : Environment) (first : HasInputs p a row) (second : HasInputs p b row)
      (agree : AllByRecursion (λ (one : Met). AgreeAt one a b) (step_met p c)) where
    parts : AllByRecursion (λ (one : Met). AgreeAt one a b) (met_outputs p.outputs c.outputs) × AllByRecursion (λ (one : Met). AgreeAt one a b) (met_at (layout_of p) c.place)
    parts = all_parts (λ (one : Met). AgreeAt one a b) (met_outputs p.outputs c.outputs) (met_at (layout_of p) c.place) agree

    formals_same : (n : ℕ) → is_some (slice_get m.formals n) ≡ true → a.now (formal_instance n) ≡ b.now (formal_instance n)
    formals_same n h = by_order (cases_lt 0 (times n p.inputs)) where
      by_order : (0 < times n p.inputs) ⊎ (times n p.inputs ≤ 0) → a.now (formal_instance n) ≡ b.now (formal_instance n)
      by_order (inl more) = input_same (λ i. a.now (formal_instance i)) (λ i. b.now (formal_instance i)) p.inputs n (first ∙ sym second) (omega (arith, more))
      by_order (inr none) =
          let some = formal_somewhere m.formals 0 n n (omega arith) h in
          output_same a b p.outputs c.outputs placed.outputs parts.0 n (omega (arith, none, some))

    at_root : Seen p (declared_by [] m) a b formals_same no_sight root root
    at_root = record { marks = λ n. refl; locals = λ n h. absurd (false≢true h); bound = λ n h. absurd (false≢true h) }

    same : Same p (declared_by [] m) a b formals_same (body_under p a) (body_under p b) (layout_of p) no_sight
    same = walks_same p (declared_by [] m) a b formals_same m.body no_sight well.sound

    place_same : (where_at : Place) → IsPlaceIn p where_at → AllByRecursion (λ (one : Met). AgreeAt one a b) (met_at (layout_of p) where_at)
        → next_place (body_under p a) where_at ≡ next_place (body_under p b) where_at
    place_same place.NotStarted fits all = ap rest_or_end (same.starts root root mark.Zero at_root all).rest
    place_same (place.Rest r) fits all = ap rest_or_end (same.resumes root root r at_root fits all).after
    place_same place.Ended fits all = refl

    -- the configuration after the step is the same
    pub next_same : next_configuration p c a ≡ next_configuration p c b
    next_same =
        ap₂ (λ (at : Place) (stores : List Store). record { place = at; outputs = stores })
        (place_same c.place placed.place parts.1) (stores_same p a b p.outputs c.outputs placed.outputs parts.0)

    pub values_alike : map (λ n. a.now (formal_instance n)) p.outputs ≡ map (λ n. b.now (formal_instance n)) p.outputs
    values_alike = outputs_same a b p.outputs c.outputs placed.outputs parts.0

  module _ (definite : IsDefinite p c row) where
    solves : IsSolution p c row definite.least
    solves = least_is_solution p c row (own_numbers m well.numbered) definite

    -- every step leads to the configuration under the least environment
    pub leads_to : (others : List Value) (after : Configuration) → IsStep p c row others after → after ≡ next_configuration p c definite.least
    leads_to others after step =
        step.next_is
        ∙ sym (next_same definite.valuation.configuration definite.least step.values solves.inputs step.solution.inputs (solution_agrees p c row step.values step.solution definite))

    known : (values : List Value) × (map (λ n. definite.least.now (formal_instance n)) p.outputs ≡ map (λ (v : Value). Known v) values)
    known = outputs_known definite.least p.outputs c.outputs definite.valuation.configuration.outputs
        (all_parts (IsPlainAt definite.least) (met_outputs p.outputs c.outputs) (met_at (layout_of p) c.place) definite.plain).0

    pub one_step : HasOneStep p c row
    one_step = record {
      outputs = known.0;
      next = next_configuration p c definite.least;
      step = record { values = definite.least; solution = solves; outputs_are = known.1; next_is = refl };
      one_solution = λ a b x y. agree_through definite.least a b (step_met p c) (solution_agrees p c row a x definite) (solution_agrees p c row b y definite);
      only_outputs = λ others after step.
          same_values others known.0
          (sym step.outputs_are
          ∙ sym (values_alike definite.valuation.configuration definite.least step.values solves.inputs step.solution.inputs (solution_agrees p c row step.values step.solution definite))
          ∙ known.1);
      only_next = leads_to;
    }
