-- A program of the first language is definite at every permitted valuation: what its outputs settle to
-- asks nothing of what is known, so nothing changes after the first round.
use Rattle.std.proofs.Common.{◌≡◌, ℕ, zero, suc, Bool, true, false, ◌&&◌, ◌||◌, ◌==◌, List, [], ◌∷◌, map, length, Option, Some, None, refl, sym, ap, ap₂, subst, ◌∙◌, eq-eqb, eqb-true, if◌then◌else◌}
use Rattle.std.specs.List.{AllByRecursion, list_any}
use Rattle.std.proofs.lemmas.Bool.{and_parts, or_left, or_right, false≢true}
use Rattle.qz_values.specs.declared.Ty.{Ty}
use Rattle.qz_values.specs.declared.Ty.TheVariants as ty
use Rattle.qz_values.specs.declared.Value.{Value}
use Rattle.qz_values.specs.declared.Know.TheVariants.{Known}
use Rattle.qz_values.specs.Types.{is_same_type}
use Rattle.qz_values.specs.Values.{truth_of, value_of}
use Rattle.qz_syntax.specs.declared.declarations.Class.{Class}
use Rattle.qz_syntax.specs.declared.declarations.Class.TheVariants.{Event}
use Rattle.qz_syntax.specs.declared.declarations.Dir.TheVariants as dir
use Rattle.qz_syntax.specs.declared.expressions.Var.{Var}
use Rattle.qz_syntax.specs.declared.expressions.Var.TheVariants as var
use Rattle.qz_syntax.specs.declared.modules.Module.{Module}
use Rattle.qz_syntax.specs.declared.places.Later.TheVariants as later
use Rattle.qz_syntax.specs.declared.places.Place.{Place}
use Rattle.qz_syntax.specs.declared.places.Place.TheVariants as place
use Rattle.qz_syntax.specs.declared.places.Store.{Store}
use Rattle.qz_syntax.specs.declared.statements.Stmt.{Stmt}
use Rattle.qz_syntax.proofs.Equations.{fold-Nothing, fold-Assign, fold-Pause, fold-Seq, fold-Loop}
use Rattle.qz_syntax.specs.Numbers.{contains}
use Rattle.qz_meaning.specs.Instances.{formal_instance}
use Rattle.qz_meaning.specs.Scenes.{default_store}
use Rattle.qz_meaning.specs.Layouts.{Met}
use Rattle.qz_meaning.specs.Programs.{Program, formals_of, own_delayed, delays, program_of}
use Rattle.qz_meaning.specs.Configurations.{Configuration, is_of_type, are_inputs, IsRow}
use Rattle.qz_meaning.specs.Settling.{Environment, step_writes, step_met, input_of, met_as}
use Rattle.qz_meaning.specs.Rounds.{now_or_unknown, later_or_unknown, first_round, next_round, AgreeAt, IsKnown, IsKnownOrAbsent, IsPlainAt, IsDefinite}
use Rattle.qz_meaning.specs.Valuations.{is_kept_by, is_store_of, are_output_stores, is_started, rests_at, IsPermittedPlace}
use Rattle.qz_meaning.specs.RunLaws.{IsAlwaysDefinite}
use Rattle.qz_first.specs.Mirror.{mirror_of, is_driven}
use Rattle.qz_first.specs.FirstLanguage.{is_first, IsFirst}
use Rattle.qz_first.specs.BitRuns.{BitState, driven_bits}
use Rattle.qz_first.proofs.FirstInduction.{first_induction}
use Rattle.qz_first.proofs.FirstSteps.{output_met, new_stores, inputs_of, all-map, class_is, type_is, IsPlace, Follows, is_valuation, initial_follows, met_is, settles, undelayed}

-- each member of a list, from those that it contains
members : (ns : List ℕ) (P : ℕ → Type 0) → ((n : ℕ) → contains ns n ≡ true → P n) → AllByRecursion P ns
members [] P h = tt
members (k ∷ ns) P h = (
  h k (or_left (k == k) (contains ns k) (eq-eqb k k refl)),
  members ns P (λ n inside. h n (or_right (k == n) (contains ns n) inside)),
)

-- an output is met with a store that is new
found : (ns : List ℕ) (n : ℕ) → contains ns n ≡ true → met_as (formal_instance n) (map output_met ns) ≡ Some (output_met n)
found [] n h = absurd (false≢true h)
found (k ∷ ns) n h = by (k == n) refl (found ns n)
  where
    by : (b : Bool) → (k == n) ≡ b → (contains ns n ≡ true → met_as (formal_instance n) (map output_met ns) ≡ Some (output_met n))
        → (if (k == n) && true then Some (output_met k) else met_as (formal_instance n) (map output_met ns)) ≡ Some (output_met n)
    by true is later =
        ap (λ b. if b && true then Some (output_met k) else met_as (formal_instance n) (map output_met ns)) is
        ∙ ap (λ number. Some (output_met number)) (eqb-true k n is)
    by false is later =
        ap (λ b. if b && true then Some (output_met k) else met_as (formal_instance n) (map output_met ns)) is
        ∙ later (sym (ap (λ b. b || contains ns n) is) ∙ h)

none_given : (inputs : List ℕ) (n : ℕ) → input_of inputs [] n ≡ None
none_given [] n = refl
none_given (input ∷ inputs) n = refl

same_bool : (t : Ty) → is_same_type t ty.Bool ≡ true → t ≡ ty.Bool
same_bool ty.Bool h = refl
same_bool (ty.Bv width) h = absurd (false≢true h)

module _ (variable : Var) where
  none_delay : (parts : List Stmt) → AllByRecursion (λ s. delays variable s ≡ false) parts
      → list_any (λ part. part) (map (delays variable) parts) ≡ false
  none_delay [] h = refl
  none_delay (s ∷ parts) h = ap₂ (λ a b. a || b) h.0 (none_delay parts h.1)

  -- no statement of the first language delays a value
  no_delay : (outputs : ℕ) (s : Stmt) → is_first outputs s ≡ true → delays variable s ≡ false
  no_delay outputs =
      first_induction outputs (λ s. delays variable s ≡ false)
      (fold-Nothing Bool (own_delayed variable))
      (λ n value inside known. fold-Assign Bool (own_delayed variable) (var.Formal n) value)
      (λ number. fold-Pause Bool (own_delayed variable) number)
      (λ parts h. fold-Seq Bool (own_delayed variable) parts ∙ none_delay parts h)
      (λ number body condition known h. fold-Loop Bool (own_delayed variable) number body condition ∙ ap (λ b. b || false) h)

module _ (m : Module) (first : IsFirst m) where
  abbrev program : Program
  program = program_of m

  abbrev outputs : List ℕ
  outputs = formals_of dir.Out m

  -- the one store that an output can have
  one_store : (n : ℕ) (store : Store) → is_store_of program (var.Formal n) store ≡ true → store ≡ default_store ty.Bool
  one_store n store h = ap₂ (λ (v : Value) (b : Bool). record { value = v; pending = b }) value_is pending.0
    where
      by_form : (t : Ty) (class : Class) (delayed : Bool) → t ≡ ty.Bool → class ≡ Event → delayed ≡ false
          → (is_of_type t store.value && (if store.pending then delayed else is_kept_by class store.value)) ≡ true
          → (is_of_type ty.Bool store.value && (if store.pending then false else (store.value.bits == 0))) ≡ true
      by_form t class delayed is_bool is_event is_plain k =
          subst (λ d. (is_of_type ty.Bool store.value && (if store.pending then d else (store.value.bits == 0))) ≡ true) is_plain
          (subst (λ some. (is_of_type ty.Bool store.value && (if store.pending then delayed else is_kept_by some store.value)) ≡ true) is_event
          (subst (λ x. (is_of_type x store.value && (if store.pending then delayed else is_kept_by class store.value)) ≡ true) is_bool k))

      plain : (is_of_type ty.Bool store.value && (if store.pending then false else (store.value.bits == 0))) ≡ true
      plain =
          by_form (program.type_of (var.Formal n)) (program.class_of (var.Formal n)) (program.is_delayed (var.Formal n))
          (type_is m first n) (class_is m first n) (no_delay (var.Formal n) (length m.formals) m.body first.body) h

      both : (is_of_type ty.Bool store.value ≡ true) × ((if store.pending then false else (store.value.bits == 0)) ≡ true)
      both = and_parts _ _ plain

      by : (b : Bool) → store.pending ≡ b → (if b then false else (store.value.bits == 0)) ≡ true → (store.pending ≡ false) × (store.value.bits ≡ 0)
      by true is k = absurd (false≢true k)
      by false is k = (is, eqb-true store.value.bits 0 k)

      pending : (store.pending ≡ false) × (store.value.bits ≡ 0)
      pending = by store.pending refl both.1

      value_is : store.value ≡ value_of ty.Bool 0
      value_is = ap₂ (λ (t : Ty) (bits : ℕ). value_of t bits) (same_bool store.value.ty (and_parts _ _ both.0).0) pending.1

  only_stores : (ns : List ℕ) (stores : List Store) → are_output_stores program ns stores ≡ true → stores ≡ new_stores ns
  only_stores [] [] h = refl
  only_stores [] (store ∷ stores) h = absurd (false≢true h)
  only_stores (n ∷ ns) [] h = absurd (false≢true h)
  only_stores (n ∷ ns) (store ∷ stores) h =
      let both = and_parts _ _ h in
      ap₂ (λ (one : Store) (more : List Store). one ∷ more) (one_store n store both.0) (only_stores ns stores both.1)

  abbrev state_at : Place → BitState
  state_at from = record { started = is_started from; control = rests_at from }

  -- a permitted configuration is one of the bits
  followed : (c : Configuration) (from : Place) → IsPermittedPlace program c from → (c.outputs ≡ new_stores outputs) × IsPlace m first from (state_at from)
  followed c place.NotStarted h = (
    ap (λ (d : Configuration). d.outputs) h ∙ (initial_follows m first (state_at place.NotStarted) refl (λ k inside. refl)).outputs_are,
    (refl, λ k inside. refl),
  )
  followed c (place.Rest r) h =
      let both = and_parts _ _ h in (
        only_stores outputs c.outputs (and_parts _ _ both.1).1,
        (
          refl,
          both.0,
          λ k inside. refl,
        ),
      )
  followed c place.Ended h = (only_stores outputs c.outputs h, (refl, λ k inside. refl))

  module _ (c : Configuration) (state : BitState) (h : Follows m first c state) where
    -- after each round an output has what its bits say
    has_now : (env : Environment) (n : ℕ) → contains outputs n ≡ true
        → (next_round program c [] env).now (formal_instance n) ≡ Known (truth_of (is_driven (driven_bits (mirror_of m.body) state) n))
    has_now env n inside =
        ap₂ (λ (value : Option Value) (one : Option Met). now_or_unknown program (step_writes program c env) value one)
        (none_given program.inputs n) (ap (met_as (formal_instance n)) (met_is m first c state h) ∙ found outputs n inside)
        ∙ settles m first c state h env n

    has_later : (env : Environment) (n : ℕ) → contains outputs n ≡ true → (next_round program c [] env).later (formal_instance n) ≡ later.Absent
    has_later env n inside =
        ap (λ (one : Option Met). later_or_unknown (step_writes program c env) one)
        (ap (met_as (formal_instance n)) (met_is m first c state h) ∙ found outputs n inside)
        ∙ undelayed m first c state h env n

    -- what holds of each output that is met
    each : (P : Met → Type 0) (env : Environment) → ((n : ℕ) → contains outputs n ≡ true → P (output_met n)) → AllByRecursion P (step_met program c)
    each P env k =
        subst (λ mets. AllByRecursion P mets) (sym (met_is m first c state h))
        (all-map P output_met outputs (members outputs (λ n. P (output_met n)) k))

    abbrev one : Environment
    one = next_round program c [] (first_round program [])

    definite : IsDefinite program c []
    definite = record {
      valuation = is_valuation m first c state h;
      least = one;
      is_least = record {
        number = suc zero;
        last = each (λ met. AgreeAt met one (next_round program c [] one)) one (λ n inside. record {
          now = has_now (first_round program []) n inside ∙ sym (has_now one n inside);
          later = has_later (first_round program []) n inside ∙ sym (has_later one n inside);
        });
        is = refl;
      };
      plain = each (IsPlainAt one) one (λ n inside. record {
        now = subst IsKnown (sym (has_now (first_round program []) n inside)) tt;
        later = subst IsKnownOrAbsent (sym (has_later (first_round program []) n inside)) tt;
      });
    }

  no_inputs : (row : List Value) → are_inputs program [] row ≡ true → row ≡ []
  no_inputs [] h = refl
  no_inputs (v ∷ row) h = absurd (false≢true h)

  pub only_row : (row : List Value) → IsRow program row → row ≡ []
  only_row row h = no_inputs row (subst (λ ns. are_inputs program ns row ≡ true) (inputs_of m.formals first.formals 0) h)

  pub always_definite : IsAlwaysDefinite program
  always_definite v h =
      let there = followed v.configuration v.configuration.place h.place in
      let follows : Follows m first v.configuration (state_at v.configuration.place) = record { outputs_are = there.0; place_is = there.1 } in
      let row = only_row v.inputs h.inputs in
      subst (λ inputs. IsDefinite program v.configuration inputs) (sym row) (definite v.configuration (state_at v.configuration.place) follows)
