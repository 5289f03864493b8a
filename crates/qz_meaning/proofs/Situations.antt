-- Small programs: their configurations, and steps and rounds by what their bodies do written out.
use Rattle.std.proofs.Common.{◌≡◌, ℕ, List, ◌++◌, map, length, sym, ap, ap₂, subst, subst₂, ◌∙◌}
use Rattle.std.specs.Prelude.{IsTrue}
use Rattle.std.specs.List.{AllByRecursion}
use lib.ListN.{length-map}
use Rattle.qz_values.specs.declared.Value.{Value}
use Rattle.qz_values.specs.declared.Know.TheVariants.{Known}
use Rattle.qz_syntax.specs.declared.places.Store.{Store}
use Rattle.qz_syntax.specs.declared.places.Residual.{Residual}
use Rattle.qz_syntax.specs.declared.places.Place.TheVariants as place
use Rattle.qz_meaning.specs.Instances.{Instance, formal_instance}
use Rattle.qz_meaning.specs.Scenes.{Passing, store_from}
use Rattle.qz_meaning.specs.Accounts.{Write}
use Rattle.qz_meaning.specs.Layouts.{Met, Layout}
use Rattle.qz_meaning.specs.Residing.{Walk, walk}
use Rattle.qz_meaning.specs.Programs.{Program}
use Rattle.qz_meaning.specs.Configurations.{Configuration, layout_of, IsRow, IsValuationOf, initial}
use Rattle.qz_meaning.specs.Settling.{Environment, passing, writes_at, step_writes, met_at, met_outputs, step_met, given, met_as}
use Rattle.qz_meaning.specs.Rounds.{now_or_unknown, later_or_unknown, next_round, round, AgreeAt, AgreeWhereMet, IsPlainAt, IsPlain}
use Rattle.qz_meaning.specs.StepLaws.{HasNoClashAt}
use Rattle.qz_meaning.proofs.Solutions.{no_clash}
use Rattle.qz_meaning.specs.MacroSteps.{IsSettledAt, HasInputs, IsSolution, next_place, next_configuration, IsStep}

pub at_first : (p : Program) (row : List Value) → IsRow p row → IsValuationOf p (initial p) row
at_first p row fits = record { configuration = record { place = tt; outputs = length-map p.outputs _ }; inputs = fits }

pub at_rest : (p : Program) (r : Residual) (outputs : List Store) (row : List Value) → IsTrue ((layout_of p).fits r) → length outputs ≡ length p.outputs → IsRow p row
    → IsValuationOf p record { place = place.Rest r; outputs = outputs } row
at_rest p r outputs row rests long fits = record { configuration = record { place = rests; outputs = long }; inputs = fits }

pub at_end : (p : Program) (outputs : List Store) (row : List Value) → length outputs ≡ length p.outputs → IsRow p row
    → IsValuationOf p record { place = place.Ended; outputs = outputs } row
at_end p outputs row long fits = record { configuration = record { place = tt; outputs = long }; inputs = fits }

-- what a program's body does and how control can rest in it, with nothing left of its tree but conditions and values
pub record WrittenOut (p : Program) : Type 0 where
  pub does : Passing → Walk
  pub lays : Layout
  pub does_is : (step : Passing) → walk step p.body ≡ does step
  pub lays_is : layout_of p ≡ lays

module _ (p : Program) (x : WrittenOut p) where
  abbrev pub met_by : Configuration → List Met
  met_by c = met_outputs p.outputs c.outputs ++ met_at x.lays c.place

  abbrev pub writes_by : Configuration → Environment → List Write
  writes_by c env = writes_at (x.does (passing p env)) c.place

  abbrev pub next_by : Configuration → Environment → Configuration
  next_by c env = record {
    place = next_place (x.does (passing p env)) c.place;
    outputs = map (λ n. store_from (passing p env) (formal_instance n)) p.outputs;
  }

  pub met_is : (c : Configuration) → step_met p c ≡ met_by c
  met_is c = ap (λ (l : Layout). met_outputs p.outputs c.outputs ++ met_at l c.place) x.lays_is

  pub writes_is : (c : Configuration) (env : Environment) → step_writes p c env ≡ writes_by c env
  writes_is c env = ap (λ (b : Walk). writes_at b c.place) (x.does_is (passing p env))

  pub next_is : (c : Configuration) (env : Environment) → next_configuration p c env ≡ next_by c env
  next_is c env =
      ap (λ (b : Walk). record { place = next_place b c.place; outputs = map (λ n. store_from (passing p env) (formal_instance n)) p.outputs })
      (x.does_is (passing p env))

  pub rests : (r : Residual) → IsTrue (x.lays.fits r) → IsTrue ((layout_of p).fits r)
  rests r h = subst (λ (l : Layout). IsTrue (l.fits r)) (sym x.lays_is) h

  pub solved : (c : Configuration) (row : List Value) (env : Environment) → IsValuationOf p c row → HasInputs p env row
      → AllByRecursion (IsPlainAt env) (met_by c) → AllByRecursion (IsSettledAt p (writes_by c env) env) (met_by c) → IsSolution p c row env
  solved c row env valuation inputs plain settled = record {
    valuation = valuation;
    inputs = inputs;
    plain = subst (AllByRecursion (IsPlainAt env)) (sym (met_is c)) plain;
    settled = subst₂ (λ (ws : List Write) (mets : List Met). AllByRecursion (IsSettledAt p ws env) mets) (sym (writes_is c env)) (sym (met_is c)) settled;
  }

  pub stepped : (c : Configuration) (row : List Value) (env : Environment) (outputs : List Value) (next : Configuration) → IsSolution p c row env
      → map (λ n. env.now (formal_instance n)) p.outputs ≡ map (λ (v : Value). Known v) outputs → next_by c env ≡ next → IsStep p c row outputs next
  stepped c row env outputs next solution outputs_are is =
      record { values = env; solution = solution; outputs_are = outputs_are; next_is = sym (next_is c env ∙ is) }

  pub round_now : (c : Configuration) (row : List Value) (env : Environment) (i : Instance)
      → (next_round p c row env).now i ≡ now_or_unknown p (writes_by c env) (given p row i) (met_as i (met_by c))
  round_now c row env i =
      ap₂ (λ (ws : List Write) (mets : List Met). now_or_unknown p ws (given p row i) (met_as i mets)) (writes_is c env) (met_is c)

  pub round_later : (c : Configuration) (row : List Value) (env : Environment) (i : Instance)
      → (next_round p c row env).later i ≡ later_or_unknown (writes_by c env) (met_as i (met_by c))
  round_later c row env i =
      ap₂ (λ (ws : List Write) (mets : List Met). later_or_unknown ws (met_as i mets)) (writes_is c env) (met_is c)

  pub agree_by : (c : Configuration) (a b : Environment) → AllByRecursion (λ (one : Met). AgreeAt one a b) (met_by c) → AgreeWhereMet p c a b
  agree_by c a b h = subst (AllByRecursion (λ (one : Met). AgreeAt one a b)) (sym (met_is c)) h

  pub plain_by : (c : Configuration) (env : Environment) → IsPlain p c env → AllByRecursion (IsPlainAt env) (met_by c)
  plain_by c env h = subst (AllByRecursion (IsPlainAt env)) (met_is c) h

  -- where an instance that is met clashes in some round there is no step
  pub unclashed : (c : Configuration) (row : List Value) (n : ℕ) → ¬ AllByRecursion (HasNoClashAt (round p c row n)) (met_by c)
      → (outputs : List Value) (next : Configuration) → ¬ IsStep p c row outputs next
  unclashed c row n clash outputs next step =
      clash (subst (AllByRecursion (HasNoClashAt (round p c row n))) (met_is c) (no_clash p c row step.values step.solution n))
