-- A step leads to a configuration of the program, and every scope that stands there was met.
use Rattle.std.proofs.Common.{◌≡◌, ℕ, Bool, true, false, List, [], ◌∷◌, Option, Some, None, refl, sym, ap, subst, ◌∙◌}
use Rattle.std.specs.Prelude.{if◌then◌else◌}
use Rattle.std.specs.Option.{option_map}
use lib.ListN.{length-map}
use Rattle.std.proofs.lemmas.Bool.{false≢true, eqb-true}
use Rattle.std.proofs.lemmas.List.Folds.{list_any-append}
use Rattle.qz_values.specs.declared.Value.{Value}
use Rattle.qz_syntax.specs.declared.expressions.Var.{Var}
use Rattle.qz_syntax.specs.declared.expressions.Var.TheVariants as var
use Rattle.qz_syntax.specs.declared.places.Mark.{Mark}
use Rattle.qz_syntax.specs.declared.places.Mark.TheVariants as mark
use Rattle.qz_syntax.specs.declared.places.Store.{Store}
use Rattle.qz_syntax.specs.declared.places.Residual.{Residual}
use Rattle.qz_syntax.specs.declared.places.Place.{Place}
use Rattle.qz_syntax.specs.declared.places.Place.TheVariants as place
use Rattle.qz_meaning.specs.Instances.{Instance, is_same_instance, local_instance}
use Rattle.qz_meaning.specs.Scenes.{Passing, root, store_from}
use Rattle.qz_meaning.specs.Layouts.{Met, bare}
use Rattle.qz_meaning.specs.Walks.{behavior}
use Rattle.qz_meaning.specs.Residing.{no_calls}
use Rattle.qz_meaning.specs.Landings.{Spot, At, Keeps, Enters, GoesOn, Stays, landing}
use Rattle.qz_meaning.specs.Carrying.{is_local, kept_by}
use Rattle.qz_meaning.specs.Programs.{Program}
use Rattle.qz_meaning.specs.Configurations.{Configuration, layout_of, IsPlaceIn, IsConfiguration}
use Rattle.qz_meaning.specs.Settling.{Environment, passing, body_under, met_at, met_outputs, step_met}
use Rattle.qz_meaning.specs.MacroSteps.{rest_or_end, next_place, next_configuration, IsStep}
use Rattle.qz_meaning.specs.Valuations.{stores_at_place, store_among}
use Rattle.qz_meaning.specs.Agreement.{GoesAsTold}
use Rattle.qz_meaning.specs.MeetingLaws.{is_met, ComesFromMet}
use Rattle.qz_meaning.proofs.TellingAll.{residuals_tell}
use Rattle.qz_meaning.proofs.CarriedMet.{or_right, Carried, Carries, carries_idle, walks_carry}
use Rattle.qz_meaning.proofs.Lists.{none≢some, some_same}

module _ (p : Program) (env : Environment) where
  told_fits : (o : Option Residual) (xs : List Spot) → GoesAsTold (passing p env) (layout_of p) o xs → IsPlaceIn p (rest_or_end o)
  told_fits None xs h = tt
  told_fits (Some r) xs h = h.fits

  next_fits : (where_at : Place) → IsPlaceIn p where_at → IsPlaceIn p (next_place (body_under p env) where_at)
  next_fits place.NotStarted fits = told_fits _ _ ((residuals_tell (passing p env) p.body).rest root mark.Zero)
  next_fits (place.Rest r) fits = told_fits _ _ ((residuals_tell (passing p env) p.body).after root r fits)
  next_fits place.Ended fits = tt

  -- the configuration under any values is one of the program
  pub next_is_configuration : (c : Configuration) → IsConfiguration p c → IsConfiguration p (next_configuration p c env)
  next_is_configuration c placed = record { place = next_fits c.place placed.place; outputs = length-map p.outputs _ }

pub steps_lead : (p : Program) (c : Configuration) (row outputs : List Value) (next : Configuration) → IsStep p c row outputs next → IsConfiguration p next
steps_lead p c row outputs next step =
    subst (IsConfiguration p) (sym step.next_is) (next_is_configuration p step.values c step.solution.valuation.configuration)

own_local : (j : Instance) (n : ℕ) → is_local j.variable n ≡ true → j ≡ local_instance n j.mark
own_local j n h = ap (λ (x : Var). record { variable = x; mark = j.mark }) (by_variable j.variable h) where
  by_variable : (x : Var) → is_local x n ≡ true → x ≡ var.Local n
  by_variable (var.Formal k) e = absurd (false≢true e)
  by_variable (var.Local k) e = ap (λ (i : ℕ). var.Local i) (eqb-true k n e)
  by_variable (var.Bound k) e = absurd (false≢true e)

module _ (p : Program) (c : Configuration) (placed : IsConfiguration p c) (env : Environment) where
  -- the instance by which the scope of a local is kept is among those that are met
  kept_met : (spots : List Spot) (met : List Met) → Carried spots met → (n : ℕ) (i : Instance) → kept_by spots n ≡ Some i
      → (m : Mark) × (i ≡ local_instance n m) × (is_met i met ≡ true)
  kept_met [] met h n i e = absurd (none≢some i e)
  kept_met (At place ∷ spots) met h n i e = kept_met spots met h.1 n i e
  kept_met (Keeps j ∷ spots) met h n i e = by_test (λ k. kept_met spots met h.1 n i k) (is_local j.variable n) refl e where
    by_test : (kept_by spots n ≡ Some i → (m : Mark) × (i ≡ local_instance n m) × (is_met i met ≡ true)) → (b : Bool) → is_local j.variable n ≡ b → (if b then Some j else kept_by spots n) ≡ Some i
        → (m : Mark) × (i ≡ local_instance n m) × (is_met i met ≡ true)
    by_test later true own k =
        let is = some_same j i k in
        subst (λ (it : Instance). (m : Mark) × (it ≡ local_instance n m) × (is_met it met ≡ true)) is (j.mark, own_local j n own, h.0)
    by_test later false own k = later k
  kept_met (Enters call m ∷ spots) met h n i e = kept_met spots met h.1 n i e
  kept_met (GoesOn call ∷ spots) met h n i e = kept_met spots met h.1 n i e
  kept_met (Stays number ∷ spots) met h n i e = kept_met spots met h.1 n i e

  from_kept : (met : List Met) → ((i : Instance) → is_met i met ≡ true → is_met i (step_met p c) ≡ true) → (spots : List Spot) → Carried spots met
      → (n : ℕ) (store : Store) → option_map (store_from (passing p env)) (kept_by spots n) ≡ Some store → ComesFromMet p c env n store
  from_kept met more spots carried n store e = by_kept (kept_by spots n) refl e where
    by_kept : (o : Option Instance) → kept_by spots n ≡ o → option_map (store_from (passing p env)) o ≡ Some store → ComesFromMet p c env n store
    by_kept None k h = absurd (none≢some store h)
    by_kept (Some i) k h =
        let found = kept_met spots met carried n i k in
        let is = found.1 in
        record {
          mark = found.0;
          met = subst (λ (it : Instance). is_met it (step_met p c) ≡ true) is (more i found.2);
          from = sym (some_same _ _ h) ∙ ap (store_from (passing p env)) is;
        }

  abbrev outer : List Met
  outer = met_outputs p.outputs c.outputs

  -- the stores of the place to which the walk goes
  went : (o : Option Residual) (spots : List Spot) (met : List Met) → GoesAsTold (passing p env) (layout_of p) o spots → Carried spots met
      → ((i : Instance) → is_met i met ≡ true → is_met i (step_met p c) ≡ true)
      → (n : ℕ) (store : Store) → store_among (stores_at_place p (rest_or_end o)) n ≡ Some store → ComesFromMet p c env n store
  went None spots met told carried more n store e = absurd (none≢some store e)
  went (Some r) spots met told carried more n store e = from_kept met more spots carried n store (sym (told.stores n) ∙ e)

  pub scopes_were_met : (n : ℕ) (store : Store) → store_among (stores_at_place p (next_configuration p c env).place) n ≡ Some store → ComesFromMet p c env n store
  scopes_were_met = by_place c.place refl placed.place where
    step : Passing
    step = passing p env

    carries : Carries (behavior env.now landing (no_calls landing) p.body) (layout_of p)
    carries = walks_carry env.now (no_calls landing) (λ number. bare) (λ number arguments. carries_idle bare) p.body

    all_met : (where_at : Place) → c.place ≡ where_at → (i : Instance) → is_met i (met_at (layout_of p) where_at) ≡ true → is_met i (step_met p c) ≡ true
    all_met where_at is i h =
        list_any-append (λ (one : Met). is_same_instance one.instance i) outer (met_at (layout_of p) c.place)
        ∙ or_right _ _ (subst (λ (it : Place). is_met i (met_at (layout_of p) it) ≡ true) (sym is) h)

    by_place : (where_at : Place) → c.place ≡ where_at → IsPlaceIn p where_at
        → (n : ℕ) (store : Store) → store_among (stores_at_place p (next_place (body_under p env) where_at)) n ≡ Some store → ComesFromMet p c env n store
    by_place place.NotStarted is fits n store e =
        went _ _ _ ((residuals_tell step p.body).rest root mark.Zero) (carries.rest root mark.Zero) (all_met place.NotStarted is) n store e
    by_place (place.Rest r) is fits n store e =
        went _ _ _ ((residuals_tell step p.body).after root r fits) (carries.after root r fits) (all_met (place.Rest r) is) n store e
    by_place place.Ended is fits n store e = absurd (none≢some store e)
