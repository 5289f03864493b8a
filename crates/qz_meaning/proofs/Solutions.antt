-- A definite least environment is a solution, and every solution is the same where instances are met.
use Rattle.std.proofs.Common.{◌≡◌, ℕ, zero, suc, List, [], ◌∷◌, map, Option, Some, None, refl, sym, ap, ap₂, subst, ◌∙◌}
use Rattle.std.specs.List.{AllByRecursion}
use Rattle.qz_values.specs.declared.Value.{Value}
use Rattle.qz_values.specs.declared.Know.{Know}
use Rattle.qz_values.specs.declared.Know.TheVariants.{Unknown, Known, Clash}
use Rattle.qz_values.specs.Order.{Below}
use Rattle.qz_values.proofs.Monotone.{Below-self}
use Rattle.qz_syntax.specs.declared.places.Later.{Later}
use Rattle.qz_syntax.specs.declared.places.Later.TheVariants as later
use Rattle.qz_meaning.specs.Instances.{Instance, formal_instance}
use Rattle.qz_meaning.specs.Layouts.{Met}
use Rattle.qz_meaning.specs.Programs.{Program, HasOwnNumbers}
use Rattle.qz_meaning.specs.Configurations.{Configuration}
use Rattle.qz_meaning.specs.Settling.{Environment, step_writes, step_met, settles_now, settles_later, given, met_as}
use Rattle.qz_meaning.specs.Rounds.{now_or_unknown, later_or_unknown, given_or_unknown, first_round, next_round, round, AgreeAt, IsKnown, IsKnownOrAbsent, IsPlainAt, IsDefinite}
use Rattle.qz_meaning.specs.MacroSteps.{HasInputs, IsSettledAt, IsSolution}
use Rattle.qz_meaning.specs.Rising.{LaterBelow, EnvironmentBelow}
use Rattle.qz_meaning.specs.MeetingLaws.{IsMetAlone}
use Rattle.qz_meaning.specs.StepLaws.{HasNoClashAt}
use Rattle.qz_meaning.proofs.Finding.{met_found, given_known, head_or, tail_of}
use Rattle.qz_meaning.proofs.Orderly.{row_fits, met_alone}
use Rattle.qz_meaning.proofs.Rows.{inputs_long}
use Rattle.qz_meaning.proofs.RoundsRise.{later_self, rounds_below, last_is_fixed}

-- knowledge that is plain doesn't rise
plain_same : (a b : Know) → Below a b → IsKnown a → IsKnown b → a ≡ b
plain_same Unknown b p x y = absurd x
plain_same (Known v) Unknown p x y = absurd y
plain_same (Known v) (Known w) p x y = ap (λ (v : Value). Known v) p
plain_same (Known v) Clash p x y = absurd y
plain_same Clash b p x y = absurd x

plain_later_same : (a b : Later) → LaterBelow a b → IsKnownOrAbsent a → IsKnownOrAbsent b → a ≡ b
plain_later_same later.Unknown b p x y = absurd x
plain_later_same later.Absent later.Unknown p x y = absurd y
plain_later_same later.Absent later.Absent p x y = refl
plain_later_same later.Absent (later.Known w) p x y = absurd p
plain_later_same later.Absent later.Clash p x y = absurd y
plain_later_same (later.Known v) later.Unknown p x y = absurd y
plain_later_same (later.Known v) later.Absent p x y = absurd p
plain_later_same (later.Known v) (later.Known w) p x y = ap (λ (v : Value). later.Known v) p
plain_later_same (later.Known v) later.Clash p x y = absurd y
plain_later_same later.Clash b p x y = absurd x

plain_agree : (a b : Environment) (met : List Met) → EnvironmentBelow a b → AllByRecursion (IsPlainAt a) met → AllByRecursion (IsPlainAt b) met
    → AllByRecursion (λ (one : Met). AgreeAt one a b) met
plain_agree a b [] u x y = tt
plain_agree a b (one ∷ met) u x y = (
  record {
    now = plain_same _ _ (u.now one.instance) x.0.now y.0.now;
    later = plain_later_same _ _ (u.later one.instance) x.0.later y.0.later;
  },
  plain_agree a b met u x.1 y.1,
)

-- the inputs stay known
map_keeps : (f g : ℕ → Know) → ((n : ℕ) (v : Value) → g n ≡ Known v → f n ≡ Known v) → (inputs : List ℕ) (row : List Value)
    → map g inputs ≡ map (λ (v : Value). Known v) row → map f inputs ≡ map (λ (v : Value). Known v) row
map_keeps f g keep [] [] h = refl
map_keeps f g keep [] (x ∷ row) h = absurd (nil≢cons h) where
  nil≢cons : [] ≡ Known x ∷ map (λ (v : Value). Known v) row → ⊥
  nil≢cons e = cc
map_keeps f g keep (n ∷ inputs) [] h = absurd (cons≢nil h) where
  cons≢nil : g n ∷ map g inputs ≡ [] → ⊥
  cons≢nil e = cc
map_keeps f g keep (n ∷ inputs) (x ∷ row) h =
    ap₂ (λ (k : Know) (l : List Know). k ∷ l) (keep n x (ap (head_or Unknown) h)) (map_keeps f g keep inputs row (ap tail_of h))

module _ (p : Program) (c : Configuration) (row : List Value) where
  module _ (env : Environment) (solution : IsSolution p c row env) where
    now_at : (i : Instance) (v : Option Value) (one : Option Met) → given p row i ≡ v → met_as i (step_met p c) ≡ one
        → Below (now_or_unknown p (step_writes p c env) v one) (env.now i)
    now_at i (Some v) one e k = subst (Below (Known v)) (sym (given_known p env row i v solution.inputs e)) refl
    now_at i None (Some one) e k =
        let found = met_found (IsSettledAt p (step_writes p c env) env) (step_met p c) i one solution.settled k in
        subst (λ j. Below (settles_now p (step_writes p c env) one) (env.now j)) found.1
        (subst (Below (settles_now p (step_writes p c env) one)) (sym found.0.now) (Below-self _))
    now_at i None None e k = tt

    later_at : (i : Instance) (one : Option Met) → met_as i (step_met p c) ≡ one → LaterBelow (later_or_unknown (step_writes p c env) one) (env.later i)
    later_at i (Some one) k =
        let found = met_found (IsSettledAt p (step_writes p c env) env) (step_met p c) i one solution.settled k in
        subst (λ j. LaterBelow (settles_later (step_writes p c env) one) (env.later j)) found.1
        (subst (LaterBelow (settles_later (step_writes p c env) one)) (sym found.0.later) (later_self _))
    later_at i None k = tt

    -- every solution lies above every round
    pub solution_above : (n : ℕ) → EnvironmentBelow (round p c row n) env
    solution_above = rounds_below p c row env record {
      now = λ i. now_at i (given p row i) (met_as i (step_met p c)) refl refl;
      later = λ i. later_at i (met_as i (step_met p c)) refl;
    }

    clash_below : (k : Know) → Below Clash k → IsKnown k → ⊥
    clash_below Unknown h known = absurd known
    clash_below (Known v) h known = absurd h
    clash_below Clash h known = absurd known

    later_clash_below : (l : Later) → LaterBelow later.Clash l → IsKnownOrAbsent l → ⊥
    later_clash_below later.Unknown h known = absurd known
    later_clash_below later.Absent h known = absurd h
    later_clash_below (later.Known v) h known = absurd h
    later_clash_below later.Clash h known = absurd known

    no_clash_each : (it : Environment) → EnvironmentBelow it env → (met : List Met) → AllByRecursion (IsPlainAt env) met → AllByRecursion (HasNoClashAt it) met
    no_clash_each it below [] plain = tt
    no_clash_each it below (one ∷ met) plain = (
      record {
        now = λ e. clash_below (env.now one.instance) (subst (λ (k : Know). Below k (env.now one.instance)) e (below.now one.instance)) plain.0.now;
        later = λ e. later_clash_below (env.later one.instance) (subst (λ (l : Later). LaterBelow l (env.later one.instance)) e (below.later one.instance)) plain.0.later;
      },
      no_clash_each it below met plain.1,
    )

    -- so no round has a clash
    pub no_clash : (n : ℕ) → AllByRecursion (HasNoClashAt (round p c row n)) (step_met p c)
    no_clash n = no_clash_each (round p c row n) (solution_above n) (step_met p c) solution.plain

    -- so it is the definite least environment where instances are met
    pub solution_agrees : (definite : IsDefinite p c row) → AllByRecursion (λ (one : Met). AgreeAt one definite.least env) (step_met p c)
    solution_agrees definite =
        plain_agree definite.least env (step_met p c)
        (subst (λ (it : Environment). EnvironmentBelow it env) (sym definite.is_least.is) (solution_above definite.is_least.number))
        definite.plain solution.plain

  unknown≢known : (v : Value) → Unknown ≡ Known v → ⊥
  unknown≢known v e = cc

  known_by : (n : ℕ) (i : Instance) (v : Value) (o : Option Value) → given p row i ≡ o → (round p c row zero).now i ≡ Known v → (round p c row n).now i ≡ Known v
  known_by zero i v o e h = h
  known_by (suc n) i v None e h = absurd (unknown≢known v (sym (ap given_or_unknown e) ∙ h))
  known_by (suc n) i v (Some w) e h =
      ap (λ o. now_or_unknown p (step_writes p c (round p c row n)) o (met_as i (step_met p c))) e ∙ sym (ap given_or_unknown e) ∙ h

  inputs_stay : (n : ℕ) → HasInputs p (first_round p row) row → HasInputs p (round p c row n) row
  inputs_stay n h =
      map_keeps (λ k. (round p c row n).now (formal_instance k)) (λ k. (first_round p row).now (formal_instance k))
      (λ k v e. known_by n (formal_instance k) v (given p row (formal_instance k)) refl e) p.inputs row h

  settled_each : (env : Environment) → env ≡ next_round p c row env → (met : List Met) → AllByRecursion (IsMetAlone p c row) met
      → AllByRecursion (IsSettledAt p (step_writes p c env) env) met
  settled_each env e [] h = tt
  settled_each env e (one ∷ met) h = (
    record {
      now = ap (λ (it : Environment). it.now one.instance) e
          ∙ ap₂ (now_or_unknown p (step_writes p c env)) h.0.free h.0.found;
      later = ap (λ (it : Environment). it.later one.instance) e ∙ ap (later_or_unknown (step_writes p c env)) h.0.found;
    },
    settled_each env e met h.1,
  )

  -- a definite least environment is a solution
  pub least_is_solution : HasOwnNumbers p → (definite : IsDefinite p c row) → IsSolution p c row definite.least
  least_is_solution own definite =
      let is = definite.is_least in
      record {
        valuation = definite.valuation;
        inputs = subst (λ (it : Environment). HasInputs p it row) (sym is.is)
            (inputs_stay is.number (row_fits p own c row (inputs_long p p.inputs row definite.valuation.inputs)));
        plain = definite.plain;
        settled = subst (λ (it : Environment). AllByRecursion (IsSettledAt p (step_writes p c it) it) (step_met p c)) (sym is.is)
            (settled_each (round p c row is.number) (last_is_fixed p c row is.number is.last) (step_met p c) (met_alone p own c row));
      }
