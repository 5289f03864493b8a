-- A definite macro step from a permitted valuation leads to permitted ones.
use Rattle.std.proofs.Common.{◌≡◌, ℕ, zero, suc, Bool, true, false, ◌&&◌, List, [], ◌∷◌, map, Option, Some, None, refl, sym, ap, subst, ◌∙◌}
use Rattle.std.specs.Prelude.{◌==◌, if◌then◌else◌, unwrap_or}
use Rattle.std.specs.Option.{option_map_or}
use Rattle.std.specs.List.{list_all, AllByRecursion}
use Rattle.std.proofs.lemmas.Bool.{false≢true, and_parts, and_from, ltb-true, lt-ltb, eqb-true}
use Rattle.std.proofs.lemmas.Nat.{pow_pos}
use Rattle.qz_values.specs.declared.Ty.{Ty}
use Rattle.qz_values.specs.declared.Ty.TheVariants as ty
use Rattle.qz_values.specs.declared.Value.{Value}
use Rattle.qz_values.specs.declared.Know.{Know}
use Rattle.qz_values.specs.declared.Know.TheVariants.{Unknown, Known, Clash}
use Rattle.qz_values.specs.Types.{width_of, is_same_type}
use Rattle.qz_values.specs.Values.{type_of, default_of, yes, is_yes}
use Rattle.qz_values.specs.Fits.{IsOf, HasType}
use Rattle.qz_values.proofs.Typed.{same-is_same_type, is_same_type-self}
use Rattle.qz_syntax.specs.declared.declarations.Class.{Class}
use Rattle.qz_syntax.specs.declared.declarations.Class.TheVariants.{Event, Mem}
use Rattle.qz_syntax.specs.declared.declarations.Formal.{Formal}
use Rattle.qz_syntax.specs.declared.declarations.Decl.{Decl}
use Rattle.qz_syntax.specs.declared.expressions.Var.{Var}
use Rattle.qz_syntax.specs.declared.expressions.Var.TheVariants as var
use Rattle.qz_syntax.specs.declared.modules.Module.{Module}
use Rattle.qz_syntax.specs.declared.places.Mark.TheVariants as mark
use Rattle.qz_syntax.specs.declared.places.Later.{Later}
use Rattle.qz_syntax.specs.declared.places.Later.TheVariants as later
use Rattle.qz_syntax.specs.declared.places.Store.{Store}
use Rattle.qz_syntax.specs.declared.places.Residual.{Residual}
use Rattle.qz_syntax.specs.declared.places.Place.{Place}
use Rattle.qz_syntax.specs.declared.places.Place.TheVariants as place
use Rattle.qz_syntax.specs.Typing.{no_sight}
use Rattle.qz_syntax.specs.WellFormed.{declared_by, IsWellFormed}
use Rattle.qz_meaning.specs.Instances.{Instance, is_same_instance, is_same_mark, local_instance, formal_instance}
use Rattle.qz_meaning.specs.Scenes.{root, store_of, store_from}
use Rattle.qz_meaning.specs.Accounts.{Write}
use Rattle.qz_meaning.specs.Layouts.{Met}
use Rattle.qz_meaning.specs.Programs.{Program, program_of}
use Rattle.qz_meaning.specs.Verdicts.{Verdict, Nobody, Open, One, Torn, is_same_value, enabled, verdict_of_one, join, is_to, tally}
use Rattle.qz_meaning.specs.Configurations.{IsRow, Configuration, layout_of, new_store, initial, is_of_type, are_inputs, IsPlaceIn}
use Rattle.qz_meaning.specs.Settling.{Environment, passing, body_under, writes_at, step_writes, met_at, met_outputs, step_met, store_in, with_pending, settled, settled_later, settles_now, settles_later, input_of, given_to, given, met_as}
use Rattle.qz_meaning.specs.Rounds.{now_or_unknown, later_or_unknown, given_or_unknown, first_round, next_round, round, IsDefinite}
use Rattle.qz_meaning.specs.MacroSteps.{rest_or_end, next_place, next_configuration, IsStep}
use Rattle.qz_meaning.specs.Runs.{IsOnlyRun}
use Rattle.qz_meaning.specs.Valuations.{Valuation, is_kept_by, is_store_of, are_output_stores, IsPermittedPlace, IsPermitted}
use Rattle.qz_meaning.specs.RunLaws.{IsAlwaysDefinite, IsDefiniteFrom}
use Rattle.qz_meaning.proofs.Lists.{all_join, none≢some, some_same}
use Rattle.qz_meaning.proofs.Finding.{same_from_test, met_found}
use Rattle.qz_meaning.proofs.WellTyped.{IsDeclared, IsGood, walks_good}
use Rattle.qz_meaning.proofs.Keeping.{Begun, New, Kept, walks_begin, Left, walks_leave}
use Rattle.qz_meaning.proofs.OneStep.{leads_to}
use Rattle.qz_meaning.proofs.NextPlaces.{next_is_configuration}
use Rattle.qz_meaning.proofs.OneRun.{one_run}

abbrev VerdictSo : (Value → Type 0) → Verdict → Type 0
VerdictSo Q Nobody = Unit {0}
VerdictSo Q Open = Unit {0}
VerdictSo Q (One v) = Q v
VerdictSo Q Torn = Unit {0}

join_so : (Q : Value → Type 0) (a b : Verdict) → VerdictSo Q a → VerdictSo Q b → VerdictSo Q (join a b)
join_so Q Nobody b p q = q
join_so Q Open Nobody p q = tt
join_so Q Open Open p q = tt
join_so Q Open (One w) p q = q
join_so Q Open Torn p q = tt
join_so Q (One v) Nobody p q = p
join_so Q (One v) Open p q = p
join_so Q (One v) (One w) p q = by_same (is_same_value v w) where
  by_same : (same : Bool) → VerdictSo Q (if same then One v else Torn)
  by_same true = p
  by_same false = tt
join_so Q (One v) Torn p q = tt
join_so Q Torn b p q = tt

of_type : (t : Ty) (v : Value) → is_of_type t v ≡ true → IsOf t v
of_type t v h = let two = and_parts _ _ h in record { typed = same-is_same_type _ _ two.0; fits = ltb-true _ _ two.1 }

from_type : (t : Ty) (v : Value) → IsOf t v → is_of_type t v ≡ true
from_type t v h = and_from _ _ (subst (λ u. is_same_type (type_of v) u ≡ true) h.typed (is_same_type-self (type_of v))) (lt-ltb _ _ h.fits)

default_typed : (t : Ty) → IsOf t (default_of t)
default_typed t = record { typed = refl; fits = pow_pos (width_of t) }

module _ (p : Program) where
  -- a value that an instance can be given
  abbrev Holds : Instance → Bool → Value → Type 0
  Holds i delayed v = IsOf (p.type_of i.variable) v × (delayed ≡ true → p.is_delayed i.variable ≡ true)

  to_target : (i : Instance) (delayed : Bool) (w : Write) → is_to i delayed w ≡ true → (w.target ≡ i) × (delayed ≡ true → w.delayed ≡ true)
  to_target i true w h = by_kind w.delayed refl h where
    by_kind : (d : Bool) → w.delayed ≡ d → (if d then is_same_instance w.target i else false) ≡ true → (w.target ≡ i) × (true ≡ true → w.delayed ≡ true)
    by_kind true e k = (same_from_test w.target i k, λ is. e)
    by_kind false e k = absurd (false≢true k)
  to_target i false w h = by_kind w.delayed h where
    by_kind : (d : Bool) → (if d then false else is_same_instance w.target i) ≡ true → (w.target ≡ i) × (false ≡ true → w.delayed ≡ true)
    by_kind true k = absurd (false≢true k)
    by_kind false k = (same_from_test w.target i k, λ is. absurd (false≢true is))

  enabled_so : (i : Instance) (delayed : Bool) (v : Know) → HasType (p.type_of i.variable) v → (delayed ≡ true → p.is_delayed i.variable ≡ true) → VerdictSo (Holds i delayed) (enabled v)
  enabled_so i delayed Unknown h d = tt
  enabled_so i delayed (Known v) h d = (h, d)
  enabled_so i delayed Clash h d = tt

  one_so : (i : Instance) (delayed : Bool) (g v : Know) → HasType (p.type_of i.variable) v → (delayed ≡ true → p.is_delayed i.variable ≡ true) → VerdictSo (Holds i delayed) (verdict_of_one g v)
  one_so i delayed Unknown v h d = tt
  one_so i delayed (Known g) v h d = by_guard (is_yes g) where
    by_guard : (b : Bool) → VerdictSo (Holds i delayed) (if b then enabled v else Nobody)
    by_guard true = enabled_so i delayed v h d
    by_guard false = tt
  one_so i delayed Clash v h d = tt

  tally_so : (i : Instance) (delayed : Bool) (ws : List Write) (k : Verdict) → AllByRecursion (IsGood p) ws → VerdictSo (Holds i delayed) k → VerdictSo (Holds i delayed) (tally i delayed k ws)
  tally_so i delayed [] k all h = h
  tally_so i delayed (w ∷ ws) k all h = tally_so i delayed ws _ all.1 (by_target (is_to i delayed w) refl) where
    by_target : (b : Bool) → is_to i delayed w ≡ b → VerdictSo (Holds i delayed) (if b then join k (verdict_of_one w.guard w.value) else k)
    by_target true e =
        let to = to_target i delayed w e in
        join_so (Holds i delayed) k _ h
        (one_so i delayed w.guard w.value (subst (λ (j : Instance). HasType (p.type_of j.variable) w.value) to.0 all.0.value)
        (λ is. subst (λ (j : Instance). p.is_delayed j.variable ≡ true) to.0 (all.0.delayed (to.1 is))))
    by_target false e = h

  -- a store whose value has the type of its variable
  abbrev MetTyped : Met → Type 0
  MetTyped one = (s : Store) → one.store ≡ Some s → IsOf (p.type_of one.instance.variable) s.value

  store_typed : (one : Met) → MetTyped one → (o : Option Store) → one.store ≡ o → IsOf (p.type_of one.instance.variable) (unwrap_or o (new_store p one.instance.variable)).value
  store_typed one h None e = default_typed _
  store_typed one h (Some s) e = h s e

  settled_typed : (class : Class) (i : Instance) (store : Store) (k : Verdict) → IsOf (p.type_of i.variable) store.value → VerdictSo (Holds i false) k
      → HasType (p.type_of i.variable) (settled class (p.type_of i.variable) store k)
  settled_typed Event i store Nobody h v = default_typed _
  settled_typed Mem i store Nobody h v = h
  settled_typed class i store Open h v = tt
  settled_typed class i store (One w) h v = v.0
  settled_typed class i store Torn h v = tt

  pending_so : (i : Instance) (store : Store) (k : Verdict) → IsOf (p.type_of i.variable) store.value → VerdictSo (Holds i false) k → VerdictSo (Holds i false) (with_pending store k)
  pending_so i store k h v = by_mark store.pending where
    by_mark : (b : Bool) → VerdictSo (Holds i false) (if b then join (One store.value) k else k)
    by_mark true = join_so (Holds i false) (One store.value) k (h, λ e. absurd (false≢true e)) v
    by_mark false = v

  abbrev LaterSo : Instance → Later → Type 0
  LaterSo i later.Unknown = Unit {0}
  LaterSo i later.Absent = Unit {0}
  LaterSo i (later.Known v) = Holds i true v
  LaterSo i later.Clash = Unit {0}

  settled_later_so : (i : Instance) (k : Verdict) → VerdictSo (Holds i true) k → LaterSo i (settled_later k)
  settled_later_so i Nobody h = tt
  settled_later_so i Open h = tt
  settled_later_so i (One v) h = h
  settled_later_so i Torn h = tt

  -- what is known in the environment has the types of the variables
  pub record IsTypedEnvironment (env : Environment) : Type 0 where
    pub now : (i : Instance) → HasType (p.type_of i.variable) (env.now i)
    pub later : (i : Instance) → LaterSo i (env.later i)

  input_typed : (inputs : List ℕ) (row : List Value) → are_inputs p inputs row ≡ true → (n : ℕ) (v : Value) → input_of inputs row n ≡ Some v → IsOf (p.type_of (var.Formal n)) v
  input_typed [] row h n v e = absurd (none≢some v e)
  input_typed (x ∷ inputs) [] h n v e = absurd (none≢some v e)
  input_typed (x ∷ inputs) (w ∷ row) h n v e =
      let two = and_parts _ _ h in by_test (λ k. input_typed inputs row two.1 n v k) two.0 (x == n) refl e where
        by_test : (input_of inputs row n ≡ Some v → IsOf (p.type_of (var.Formal n)) v) → is_of_type (p.type_of (var.Formal x)) w ≡ true → (b : Bool) → (x == n) ≡ b
            → (if b then Some w else input_of inputs row n) ≡ Some v → IsOf (p.type_of (var.Formal n)) v
        by_test later own true i k = subst (λ j. IsOf (p.type_of (var.Formal j)) v) (eqb-true x n i) (of_type _ v (subst (λ u. is_of_type (p.type_of (var.Formal x)) u ≡ true) (some_same w v k) own))
        by_test later own false i k = later k

  module _ (row : List Value) (fits : are_inputs p p.inputs row ≡ true) where
    given_to_typed : (x : Var) (v : Value) → given_to p row x ≡ Some v → IsOf (p.type_of x) v
    given_to_typed (var.Formal n) v e = input_typed p.inputs row fits n v e
    given_to_typed (var.Local n) v e = absurd (none≢some v e)
    given_to_typed (var.Bound n) v e = absurd (none≢some v e)

    given_typed : (i : Instance) (v : Value) → given p row i ≡ Some v → IsOf (p.type_of i.variable) v
    given_typed i v e = by_mark (is_same_mark i.mark mark.Zero) e where
      by_mark : (b : Bool) → (if b then given_to p row i.variable else None) ≡ Some v → IsOf (p.type_of i.variable) v
      by_mark true k = given_to_typed i.variable v k
      by_mark false k = absurd (none≢some v k)

    first_typed : IsTypedEnvironment (first_round p row)
    first_typed = record { now = λ i. by_given i (given p row i) refl; later = λ i. tt } where
      by_given : (i : Instance) (o : Option Value) → given p row i ≡ o → HasType (p.type_of i.variable) (given_or_unknown o)
      by_given i None e = tt
      by_given i (Some v) e = given_typed i v e

    module _ (c : Configuration) (met : AllByRecursion MetTyped (step_met p c)) (good : (env : Environment) → ((i : Instance) → HasType (p.type_of i.variable) (env.now i)) → AllByRecursion (IsGood p) (step_writes p c env)) where
      next_typed : (env : Environment) → IsTypedEnvironment env → IsTypedEnvironment (next_round p c row env)
      next_typed env h = record {
        now = λ i. now_by i (given p row i) (met_as i (step_met p c)) refl refl;
        later = λ i. later_by i (met_as i (step_met p c)) refl;
      } where
        now_by : (i : Instance) (o : Option Value) (one : Option Met) → given p row i ≡ o → met_as i (step_met p c) ≡ one → HasType (p.type_of i.variable) (now_or_unknown p (step_writes p c env) o one)
        now_by i (Some v) one e k = given_typed i v e
        now_by i None None e k = tt
        now_by i None (Some one) e k =
            let found = met_found MetTyped (step_met p c) i one met k in
            let own = store_typed one found.0 one.store refl in
            subst (λ (j : Instance). HasType (p.type_of j.variable) (settles_now p (step_writes p c env) one)) found.1
            (settled_typed (p.class_of one.instance.variable) one.instance (store_in p one) _ own
            (pending_so one.instance (store_in p one) _ own (tally_so one.instance false (step_writes p c env) Nobody (good env h.now) tt)))

        later_by : (i : Instance) (one : Option Met) → met_as i (step_met p c) ≡ one → LaterSo i (later_or_unknown (step_writes p c env) one)
        later_by i None k = tt
        later_by i (Some one) k =
            let found = met_found MetTyped (step_met p c) i one met k in
            subst (λ (j : Instance). LaterSo j (settles_later (step_writes p c env) one)) found.1
            (settled_later_so one.instance _ (tally_so one.instance true (step_writes p c env) Nobody (good env h.now) tt))

      pub rounds_typed : (n : ℕ) → IsTypedEnvironment (round p c row n)
      rounds_typed zero = first_typed
      rounds_typed (suc n) = next_typed (round p c row n) (rounds_typed n)

  kept_good : (class : Class) (t : Ty) (d : Bool) (now : Know) → HasType t now → (l : Later) → ((v : Value) → l ≡ later.Known v → IsOf t v × (d ≡ true))
      → (is_of_type t (store_of class t now l).value && (if (store_of class t now l).pending then d else is_kept_by class (store_of class t now l).value)) ≡ true
  kept_good class t d now h (later.Known v) own = let two = own v refl in and_from _ _ (from_type t v two.0) two.1
  kept_good Event t d now h later.Unknown own = and_from _ _ (from_type t _ (default_typed t)) refl
  kept_good Event t d now h later.Absent own = and_from _ _ (from_type t _ (default_typed t)) refl
  kept_good Event t d now h later.Clash own = and_from _ _ (from_type t _ (default_typed t)) refl
  kept_good Mem t d Unknown h later.Unknown own = and_from _ _ (from_type t _ (default_typed t)) refl
  kept_good Mem t d Unknown h later.Absent own = and_from _ _ (from_type t _ (default_typed t)) refl
  kept_good Mem t d Unknown h later.Clash own = and_from _ _ (from_type t _ (default_typed t)) refl
  kept_good Mem t d (Known v) h later.Unknown own = and_from _ _ (from_type t v h) refl
  kept_good Mem t d (Known v) h later.Absent own = and_from _ _ (from_type t v h) refl
  kept_good Mem t d (Known v) h later.Clash own = and_from _ _ (from_type t v h) refl
  kept_good Mem t d Clash h later.Unknown own = and_from _ _ (from_type t _ (default_typed t)) refl
  kept_good Mem t d Clash h later.Absent own = and_from _ _ (from_type t _ (default_typed t)) refl
  kept_good Mem t d Clash h later.Clash own = and_from _ _ (from_type t _ (default_typed t)) refl

  module _ (env : Environment) (typed : IsTypedEnvironment env) where
    -- a store that comes from an instance is one that its variable can have
    pub store_good : (i : Instance) → is_store_of p i.variable (store_from (passing p env) i) ≡ true
    store_good i =
        kept_good (p.class_of i.variable) (p.type_of i.variable) (p.is_delayed i.variable) (env.now i) (typed.now i) (env.later i)
        (λ v e. let own = subst (λ (l : Later). LaterSo i l) e (typed.later i) in (own.0, own.1 refl))

    pub outputs_good : (outputs : List ℕ) → are_output_stores p outputs (map (λ n. store_from (passing p env) (formal_instance n)) outputs) ≡ true
    outputs_good [] = refl
    outputs_good (n ∷ outputs) = and_from _ _ (store_good (formal_instance n)) (outputs_good outputs)

  outputs_met : (outputs : List ℕ) (stores : List Store) → are_output_stores p outputs stores ≡ true → AllByRecursion MetTyped (met_outputs outputs stores)
  outputs_met [] stores h = tt
  outputs_met (n ∷ outputs) [] h = tt
  outputs_met (n ∷ outputs) (s ∷ stores) h =
      let two = and_parts _ _ h in
      (λ own e. subst (λ (it : Store). IsOf (p.type_of (var.Formal n)) it.value) (some_same s own e) (of_type _ _ (and_parts _ _ two.0).0), outputs_met outputs stores two.1)

  abbrev good_local : ℕ × Store → Bool
  good_local one = is_store_of p (var.Local one.0) one.1

  begun_typed : (one : Met) → Begun good_local one → MetTyped one
  begun_typed one (New other e) s k = absurd (none≢some s (sym e ∙ k))
  begun_typed one (Kept n own h) s k = subst (λ (it : Store). IsOf (p.type_of (var.Local n)) it.value) (some_same own s k) (of_type _ _ (and_parts _ _ h).0)

  all_typed : (met : List Met) → AllByRecursion (Begun good_local) met → AllByRecursion MetTyped met
  all_typed [] h = tt
  all_typed (one ∷ met) h = (begun_typed one h.0, all_typed met h.1)

  default_kept : (class : Class) (t : Ty) → is_kept_by class (default_of t) ≡ true
  default_kept Event t = refl
  default_kept Mem t = refl

  initial_good : (outputs : List ℕ) → are_output_stores p outputs (map (λ n. new_store p (var.Formal n)) outputs) ≡ true
  initial_good [] = refl
  initial_good (n ∷ outputs) =
      and_from _ _ (and_from _ _ (from_type _ _ (default_typed (p.type_of (var.Formal n)))) (default_kept (p.class_of (var.Formal n)) (p.type_of (var.Formal n)))) (initial_good outputs)

  outputs_permitted : (c : Configuration) (where_at : Place) → IsPermittedPlace p c where_at → are_output_stores p p.outputs c.outputs ≡ true
  outputs_permitted c place.NotStarted h = subst (λ (it : Configuration). are_output_stores p p.outputs it.outputs ≡ true) (sym h) (initial_good p.outputs)
  outputs_permitted c (place.Rest r) h = (and_parts _ _ (and_parts _ _ h).1).1
  outputs_permitted c place.Ended h = h

  inside_met : (c : Configuration) (where_at : Place) → IsPermittedPlace p c where_at → AllByRecursion MetTyped (met_at (layout_of p) where_at)
  inside_met c place.NotStarted h = all_typed _ ((walks_begin good_local p.body).start mark.Zero)
  inside_met c (place.Rest r) h = all_typed _ ((walks_begin good_local p.body).resume r (and_parts _ _ (and_parts _ _ h).1).0)
  inside_met c place.Ended h = tt

  met_typed : (c : Configuration) → IsPermittedPlace p c c.place → AllByRecursion MetTyped (step_met p c)
  met_typed c h = all_join MetTyped _ _ (outputs_met p.outputs c.outputs (outputs_permitted c c.place h)) (inside_met c c.place h)

  ended_permitted : (c : Configuration) (o : Option Residual) → IsPlaceIn p (rest_or_end o) → are_output_stores p p.outputs c.outputs ≡ true
      → (left : (r : Residual) → o ≡ Some r → list_all good_local ((layout_of p).stores_at r) ≡ true) → IsPermittedPlace p c (rest_or_end o)
  ended_permitted c None fits outputs left = outputs
  ended_permitted c (Some r) fits outputs left = and_from _ _ fits (and_from _ _ (left r refl) outputs)

module _ (m : Module) (well : IsWellFormed [] m) where
  abbrev q : Program
  q = program_of m

  declares : IsDeclared q (declared_by [] m)
  declares = record {
    formal = λ n one e. ap (λ o. option_map_or (λ (formal : Formal). formal.ty) o ty.Bool) e;
    local = λ n one e. ap (λ o. option_map_or (λ (decl : Decl). decl.ty) o ty.Bool) e;
  }

  good_writes : (c : Configuration) (env : Environment) → ((i : Instance) → HasType (q.type_of i.variable) (env.now i)) → AllByRecursion (IsGood q) (step_writes q c env)
  good_writes c env typed = by_place c.place where
    by_place : (where_at : Place) → AllByRecursion (IsGood q) (writes_at (body_under q env) where_at)
    by_place place.NotStarted =
        (walks_good q (declared_by [] m) declares (passing q env) typed m.body no_sight well.sound (λ x h. h)).start root (Known yes) mark.Zero (λ n t h. absurd (none≢some t h))
    by_place (place.Rest r) =
        (walks_good q (declared_by [] m) declares (passing q env) typed m.body no_sight well.sound (λ x h. h)).resume root r (Known yes) (λ n t h. absurd (none≢some t h))
    by_place place.Ended = tt

  module _ (v : Valuation) (permitted : IsPermitted q v) (definite : IsDefinite q v.configuration v.inputs) where
    least_typed : IsTypedEnvironment q definite.least
    least_typed = subst (IsTypedEnvironment q) (sym definite.is_least.is)
        (rounds_typed q v.inputs permitted.inputs v.configuration (met_typed q v.configuration permitted.place) (good_writes v.configuration) definite.is_least.number)

    left_some : (o : Option Residual) → Left (good_local q) (passing q definite.least) (λ n k. store_good q definite.least least_typed (local_instance n k)) (layout_of q) o
        → (r : Residual) → o ≡ Some r → list_all (good_local q) ((layout_of q).stores_at r) ≡ true
    left_some None h r e = absurd (none≢some r e)
    left_some (Some s) h r e = subst (λ (it : Residual). list_all (good_local q) ((layout_of q).stores_at it) ≡ true) (some_same s r e) h

    next_permitted : (c : Configuration) → are_output_stores q q.outputs c.outputs ≡ true → (where_at : Place) → IsPlaceIn q (next_place (body_under q definite.least) where_at)
        → IsPermittedPlace q c (next_place (body_under q definite.least) where_at)
    next_permitted c outputs place.NotStarted fits =
        ended_permitted q c _ fits outputs
        (left_some _ ((walks_leave (good_local q) (passing q definite.least) (λ n k. store_good q definite.least least_typed (local_instance n k)) m.body).rest root mark.Zero))
    next_permitted c outputs (place.Rest r) fits =
        ended_permitted q c _ fits outputs
        (left_some _ ((walks_leave (good_local q) (passing q definite.least) (λ n k. store_good q definite.least least_typed (local_instance n k)) m.body).after root r))
    next_permitted c outputs place.Ended fits = outputs

    -- a macro step leads to permitted valuations
    pub permitted_stays : (outputs : List Value) (next : Configuration) → IsStep q v.configuration v.inputs outputs next → (row : List Value)
        → IsRow q row → IsPermitted q record { configuration = next; inputs = row }
    permitted_stays outputs next step row fits =
        let placed = definite.valuation.configuration in
        subst (λ (it : Configuration). IsPermitted q record { configuration = it; inputs = row }) (sym (leads_to m well v.configuration v.inputs definite outputs next step)) record {
          place = next_permitted (next_configuration q v.configuration definite.least) (outputs_good q definite.least least_typed q.outputs) v.configuration.place
              (next_is_configuration q definite.least v.configuration placed).place;
          inputs = fits;
        }

  module _ (checked : IsAlwaysDefinite q) where
    definite_from : (rows : List (List Value)) → AllByRecursion (IsRow q) rows → (c : Configuration)
        → ((row : List Value) → IsRow q row → IsPermitted q record { configuration = c; inputs = row }) → IsDefiniteFrom q c rows
    definite_from [] fits c permitted = tt
    definite_from (row ∷ rows) fits c permitted =
        let here = permitted row fits.0 in
        let definite = checked record { configuration = c; inputs = row } here in
        (definite, λ outputs next step. definite_from rows fits.1 next (λ other fit. permitted_stays record { configuration = c; inputs = row } here definite outputs next step other fit))

    -- where every permitted valuation is definite there is exactly one run
    pub checked_runs_once : (rows : List (List Value)) → AllByRecursion (IsRow q) rows → (outputs : List (List Value)) × IsOnlyRun q rows outputs
    checked_runs_once rows fits =
        one_run m well rows (definite_from rows fits (initial q) (λ row fit. record { place = refl; inputs = fit }))
