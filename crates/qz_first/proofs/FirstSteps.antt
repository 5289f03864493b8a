-- The macro steps of a program of the first language are those of its bits.
use Rattle.std.proofs.Common.{◌≡◌, ℕ, zero, suc, ◌+◌, Bool, true, false, not, ◌||◌, List, [], ◌∷◌, ◌++◌, map, length, slice_get, Option, Some, None, refl, sym, ap, ap₂, subst, ◌∙◌, append-nil, if◌then◌else◌}
use Rattle.std.specs.Option.{option_map_or}
use Rattle.std.specs.List.{AllByRecursion, list_all, range_with_len}
use Rattle.std.proofs.lemmas.Bool.{and_parts, false≢true}
use Rattle.std.proofs.lemmas.Simd.{map-map}
use lib.ListN.{length-map}
use mathlib.Core.Path.{fun_ext}
use Rattle.qz_values.specs.declared.Ty.{Ty}
use Rattle.qz_values.specs.declared.Ty.TheVariants as ty
use Rattle.qz_values.specs.declared.Value.{Value}
use Rattle.qz_values.specs.declared.Know.TheVariants.{Known}
use Rattle.qz_values.specs.Types.{is_bool}
use Rattle.qz_values.specs.Values.{truth_of}
use Rattle.qz_syntax.specs.declared.declarations.Class.{Class}
use Rattle.qz_syntax.specs.declared.declarations.Class.TheVariants.{Event, Mem}
use Rattle.qz_syntax.specs.declared.declarations.Dir.{Dir}
use Rattle.qz_syntax.specs.declared.declarations.Dir.TheVariants as dir
use Rattle.qz_syntax.specs.declared.declarations.Formal.{Formal}
use Rattle.qz_syntax.specs.declared.expressions.Var.{Var}
use Rattle.qz_syntax.specs.declared.expressions.Var.TheVariants as var
use Rattle.qz_syntax.specs.declared.modules.Module.{Module}
use Rattle.qz_syntax.specs.declared.places.Later.TheVariants as later
use Rattle.qz_syntax.specs.declared.places.Mark.TheVariants as mark
use Rattle.qz_syntax.specs.declared.places.Place.{Place}
use Rattle.qz_syntax.specs.declared.places.Place.TheVariants as place
use Rattle.qz_syntax.specs.declared.places.Residual.{Residual}
use Rattle.qz_syntax.specs.declared.places.Store.{Store}
use Rattle.qz_syntax.specs.Numbers.{contains, places_of}
use Rattle.qz_meaning.specs.Instances.{formal_instance}
use Rattle.qz_meaning.specs.Scenes.{Passing, root, default_store, store_from}
use Rattle.qz_meaning.specs.Layouts.{Met}
use Rattle.qz_meaning.specs.Residing.{Walk, walk, whole_layout}
use Rattle.qz_meaning.specs.Programs.{Program, numbers_in, formals_of, program_of}
use Rattle.qz_meaning.specs.Configurations.{Configuration, IsPlaceIn, are_inputs, IsValuationOf, initial}
use Rattle.qz_meaning.specs.Settling.{Environment, passing, writes_at, step_writes, met_at, met_outputs, step_met, settled, settles_now, settles_later, settled_later}
use Rattle.qz_meaning.specs.Rounds.{AgreeAt, IsPlainAt}
use Rattle.qz_meaning.specs.MacroSteps.{IsSettledAt, IsSolution, HaveOneSolution, rest_or_end, next_place, next_configuration, IsStep}
use Rattle.qz_meaning.specs.Verdicts.{verdict}
use Rattle.qz_meaning.specs.Valuations.{resting_places}
use Rattle.qz_meaning.specs.LayoutLaws.{AreDifferent}
use Rattle.qz_first.specs.Mirror.{Bits, Mirror, mirror_of, is_driven}
use Rattle.qz_first.specs.FirstLanguage.{is_event_output, IsFirst}
use Rattle.qz_first.specs.FirstWalk.{places_at, CanRest}
use Rattle.qz_first.specs.FirstResumes.{AreWritesOf, ResumesAs, IsStill, IsControl}
use Rattle.qz_first.specs.BitRuns.{moved_bits, BitState, driven_bits, bit_row, next_state}
use Rattle.qz_first.proofs.BitLemmas.{or-false, is_driven-append}
use Rattle.qz_first.proofs.PlaceLemmas.{range-different}
use Rattle.qz_first.proofs.StartMirror.{Started}
use Rattle.qz_first.proofs.ResumeSequences.{Resumed}
use Rattle.qz_first.proofs.FirstResuming.{no_step, walked}
use Rattle.qz_first.proofs.SameWalks.{same_walk}
use Rattle.qz_first.proofs.BitVerdicts.{verdict_driven, verdict_undelayed, settled_driven}

all_from : {A : Type 0} (P : A → Type 0) → ((x : A) → P x) → (xs : List A) → AllByRecursion P xs
all_from P h [] = tt
all_from P h (x ∷ xs) = (h x, all_from P h xs)

pub all-map : {A B : Type 0} (P : B → Type 0) (f : A → B) (xs : List A) → AllByRecursion (λ x. P (f x)) xs → AllByRecursion P (map f xs)
all-map P f [] h = tt
all-map P f (x ∷ xs) h = (h.0, all-map P f xs h.1)

all_of-map : {A B : Type 0} (P : B → Type 0) (f : A → B) (xs : List A) → AllByRecursion P (map f xs) → AllByRecursion (λ x. P (f x)) xs
all_of-map P f [] h = tt
all_of-map P f (x ∷ xs) h = (h.0, all_of-map P f xs h.1)

all_so : {A : Type 0} (P Q : A → Type 0) → ((x : A) → P x → Q x) → (xs : List A) → AllByRecursion P xs → AllByRecursion Q xs
all_so P Q h [] k = tt
all_so P Q h (x ∷ xs) k = (h x k.0, all_so P Q h xs k.1)

map_same : {A B : Type 0} (f g : A → B) (xs : List A) → AllByRecursion (λ x. f x ≡ g x) xs → map f xs ≡ map g xs
map_same f g [] h = refl
map_same f g (x ∷ xs) h = ap₂ (λ y ys. y ∷ ys) h.0 (map_same f g xs h.1)

-- known values are told by what is known
pub known_same : (vs ws : List Value) → map (λ v. Known v) vs ≡ map (λ w. Known w) ws → vs ≡ ws
known_same [] [] h = refl
known_same [] (w ∷ ws) h = absurd (cc)
known_same (v ∷ vs) [] h = absurd (cc)
known_same (v ∷ vs) (w ∷ ws) h =
    let one : v ≡ w = cc in
    let others : map (λ x. Known x) vs ≡ map (λ x. Known x) ws = cc in
    ap₂ (λ (x : Value) (xs : List Value). x ∷ xs) one (known_same vs ws others)

-- the parts of an output of the first language
pub output_parts : (formal : Formal) → is_event_output formal ≡ true → (formal.class ≡ Event) × (formal.dir ≡ dir.Out) × (formal.ty ≡ ty.Bool)
output_parts formal h = by_parts formal.class formal.dir formal.ty h
  where
    by_parts : (c : Class) (d : Dir) (t : Ty) → (elim c [ Event ↦ elim d [ dir.Out ↦ is_bool t | dir.In ↦ false ] | Mem ↦ false ]) ≡ true
        → (c ≡ Event) × (d ≡ dir.Out) × (t ≡ ty.Bool)
    by_parts Event dir.Out ty.Bool e = (refl, refl, refl)
    by_parts Event dir.Out (ty.Bv width) e = absurd (false≢true e)
    by_parts Event dir.In t e = absurd (false≢true e)
    by_parts Mem d t e = absurd (false≢true e)

abbrev AreOutputs : List Formal → Type 0
AreOutputs formals = list_all (λ (formal : Formal). is_event_output formal) formals ≡ true

outputs_of : (formals : List Formal) → AreOutputs formals → (n : ℕ) → numbers_in dir.Out n formals ≡ range_with_len n (length formals)
outputs_of [] h n = refl
outputs_of (formal ∷ formals) h n =
    let parts = and_parts _ _ h in
    rw ((output_parts formal parts.0).1) (ap (λ ns. n ∷ ns) (outputs_of formals parts.1 (n + 1)))

pub inputs_of : (formals : List Formal) → AreOutputs formals → (n : ℕ) → numbers_in dir.In n formals ≡ []
inputs_of [] h n = refl
inputs_of (formal ∷ formals) h n =
    let parts = and_parts _ _ h in rw ((output_parts formal parts.0).1) (inputs_of formals parts.1 (n + 1))

class_of_output : (formals : List Formal) → AreOutputs formals → (n : ℕ)
    → option_map_or (λ (formal : Formal). formal.class) (slice_get formals n) Event ≡ Event
class_of_output [] h n = refl
class_of_output (formal ∷ formals) h zero = (output_parts formal (and_parts _ _ h).0).0
class_of_output (formal ∷ formals) h (suc n) = class_of_output formals (and_parts _ _ h).1 n

type_of_output : (formals : List Formal) → AreOutputs formals → (n : ℕ)
    → option_map_or (λ (formal : Formal). formal.ty) (slice_get formals n) ty.Bool ≡ ty.Bool
type_of_output [] h n = refl
type_of_output (formal ∷ formals) h zero = (output_parts formal (and_parts _ _ h).0).2
type_of_output (formal ∷ formals) h (suc n) = type_of_output formals (and_parts _ _ h).1 n

-- an output with a store that has just come into being
abbrev pub output_met : ℕ → Met
output_met n = record { instance = formal_instance n; store = Some (default_store ty.Bool) }

abbrev pub new_stores : List ℕ → List Store
new_stores outputs = map (λ n. default_store ty.Bool) outputs

met_outputs_new : (outputs : List ℕ) → met_outputs outputs (new_stores outputs) ≡ map output_met outputs
met_outputs_new [] = refl
met_outputs_new (n ∷ outputs) = ap (λ mets. output_met n ∷ mets) (met_outputs_new outputs)

-- the values by which bits drive
abbrev drives : Bits → Var → Bool
drives bits (var.Formal n) = is_driven bits n
drives bits (var.Local n) = false
drives bits (var.Bound n) = false

abbrev values_by : Bits → Environment
values_by bits = record { now = λ i. Known (truth_of (drives bits i.variable)); later = λ i. later.Absent }

module _ (m : Module) (first : IsFirst m) where
  abbrev program : Program
  program = program_of m

  abbrev bits : Mirror
  bits = mirror_of m.body

  abbrev count : ℕ
  count = length m.formals

  abbrev outputs : List ℕ
  outputs = formals_of dir.Out m

  pub class_is : (n : ℕ) → program.class_of (var.Formal n) ≡ Event
  class_is n = class_of_output m.formals first.formals n

  pub type_is : (n : ℕ) → program.type_of (var.Formal n) ≡ ty.Bool
  type_is n = type_of_output m.formals first.formals n

  started : (step : Passing) → Started step m.body
  started step = (walked step count m.body first.body).0

  resumed : (step : Passing) → Resumed step m.body
  resumed step = (walked step count m.body first.body).1 (subst AreDifferent (sym first.places) (range-different 0 (length m.labels)))

  -- control is where the state says
  abbrev pub IsPlace : Place → BitState → Type 0
  IsPlace place.NotStarted state = (state.started ≡ false) × IsControl state.control (places_of m.body) []
  IsPlace (place.Rest r) state =
      (state.started ≡ true)
      × ((whole_layout m.body).fits r ≡ true)
      × IsControl state.control (places_of m.body) (resting_places r)
  IsPlace place.Ended state = (state.started ≡ true) × IsControl state.control (places_of m.body) []

  -- the configuration is the state's, and nothing is delayed
  pub record Follows (c : Configuration) (state : BitState) : Type 0 where
    pub outputs_are : c.outputs ≡ new_stores outputs
    pub place_is : IsPlace c.place state

  place_after : (inside : Option Residual) (state : BitState) → state.started ≡ true → CanRest (whole_layout m.body) inside
      → ((k : ℕ) → contains (places_at inside) k ≡ state.control k) → IsPlace (rest_or_end inside) state
  place_after None state h fits at = (h, λ k inside. sym (at k))
  place_after (Some r) state h fits at = (h, fits, λ k inside. sym (at k))

  -- the walk from a place is as the state's bits say
  record WalksAs (step : Passing) (from : Place) (state : BitState) : Type 0 where
    writes : AreWritesOf (writes_at (walk step m.body) from) (driven_bits bits state)
    met : met_at (whole_layout m.body) from ≡ []
    next : IsPlace (next_place (walk step m.body) from) (next_state bits state)

  walks_as : (step : Passing) (from : Place) (state : BitState) → IsPlace from state → WalksAs step from state
  walks_as step place.NotStarted state h = record {
    writes = subst (λ some. AreWritesOf ((walk step m.body).start root (Known (truth_of true)) mark.Zero) some)
        (sym (ap (λ b. if b then bits.resume state.control true else bits.start true) h.0))
        (record { same = bits.start true; are = (started step).starts.writes root true mark.Zero; drive = λ output. refl });
    met = (started step).starts.meets mark.Zero;
    next = place_after ((walk step m.body).rest root mark.Zero) (next_state bits state) refl ((started step).fits root mark.Zero)
        (λ k. (started step).starts.rests root mark.Zero k
        ∙ ap (λ some. is_driven some k) (sym (ap (λ b. if b then bits.move state.control else bits.enter true) h.0)));
  }
  walks_as step (place.Rest r) state h =
      let here : ResumesAs (walk step m.body) (whole_layout m.body) bits state.control r = (resumed step).resumes state.control r h.1 h.2 in
      record {
        writes = subst (λ some. AreWritesOf ((walk step m.body).resume root r (Known (truth_of true))) some)
            (sym (ap (λ b. if b then bits.resume state.control true else bits.start true) h.0)) (here.writes root true);
        met = here.meets;
        next = place_after ((walk step m.body).after root r) (next_state bits state) refl ((resumed step).fits root r h.1)
            (λ k. here.rests root k ∙ ap (λ some. is_driven some k) (sym (ap (λ b. if b then bits.move state.control else bits.enter true) h.0)));
      }
  walks_as step place.Ended state h =
      let still : IsStill bits state.control = (resumed step).still state.control h.1 in
      record {
        writes = record {
          same = [];
          are = refl;
          drive = λ output. sym (
              ap (λ some. is_driven some output) (ap (λ b. if b then bits.resume state.control true else bits.start true) h.0)
              ∙ still.undriven true output
              );
        };
        met = refl;
        next = (refl, λ k inside. ap (λ some. is_driven some k) (ap (λ b. if b then bits.move state.control else bits.enter true) h.0) ∙ still.unmoved k);
      }

  -- a configuration that the state is of is one of the program, which has no inputs
  pub is_valuation : (c : Configuration) (state : BitState) → Follows c state → IsValuationOf program c []
  is_valuation c state h = record {
    configuration = record { place = by_place c.place h.place_is; outputs = ap length h.outputs_are ∙ length-map outputs (λ n. default_store ty.Bool) };
    inputs = ap (λ ns. are_inputs program ns []) (inputs_of m.formals first.formals 0);
  } where
    by_place : (from : Place) → IsPlace from state → IsPlaceIn program from
    by_place place.NotStarted k = tt
    by_place (place.Rest r) k = k.1
    by_place place.Ended k = tt

  pub initial_follows : (state : BitState) → state.started ≡ false → IsControl state.control (places_of m.body) [] → Follows (initial program) state
  initial_follows state h away = record {
    outputs_are = ap (λ (f : ℕ → Store). map f outputs) (fun_ext (λ n. ap default_store (type_is n)));
    place_is = (h, away);
  }

  pub met_is : (c : Configuration) (state : BitState) → Follows c state → step_met program c ≡ map output_met outputs
  met_is c state h =
      ap₂ (λ xs ys. xs ++ ys) (ap (met_outputs outputs) h.outputs_are ∙ met_outputs_new outputs)
      (walks_as no_step c.place state h.place_is).met
      ∙ append-nil (map output_met outputs)

  pub settles : (c : Configuration) (state : BitState) → Follows c state → (env : Environment) (n : ℕ)
      → settles_now program (step_writes program c env) (output_met n) ≡ Known (truth_of (is_driven (driven_bits bits state) n))
  settles c state h env n =
      ap₂ (λ (class : Class) (type : Ty). settled class type (default_store ty.Bool) (verdict (formal_instance n) false (step_writes program c env))) (class_is n) (type_is n)
      ∙ ap (λ v. settled Event ty.Bool (default_store ty.Bool) v)
      (verdict_driven (step_writes program c env) (driven_bits bits state) (walks_as (passing program env) c.place state h.place_is).writes n)
      ∙ settled_driven (is_driven (driven_bits bits state) n)

  pub undelayed : (c : Configuration) (state : BitState) → Follows c state → (env : Environment) (n : ℕ)
      → settles_later (step_writes program c env) (output_met n) ≡ later.Absent
  undelayed c state h env n =
      ap settled_later (verdict_undelayed (step_writes program c env) (driven_bits bits state) (walks_as (passing program env) c.place state h.place_is).writes n)

  -- the values of the step's row
  row_values : (state : BitState)
      → map (λ n. Known (truth_of (is_driven (driven_bits bits state) n))) outputs ≡ map (λ v. Known v) (map truth_of (bit_row count bits state))
  row_values state =
      ap (λ ns. map (λ n. Known (truth_of (is_driven (driven_bits bits state) n))) ns) (outputs_of m.formals first.formals 0)
      ∙ sym (
      map-map (λ (v : Value). Known v) truth_of (bit_row count bits state)
      ∙ map-map (λ (b : Bool). Known (truth_of b)) (λ output. is_driven (driven_bits bits state) output) (range_with_len 0 count)
      )

  new_store_from : (env : Environment) (n : ℕ) → env.later (formal_instance n) ≡ later.Absent
      → store_from (passing program env) (formal_instance n) ≡ default_store ty.Bool
  new_store_from env n h = rw (h, class_is n, type_is n) refl

  follows_next : (c : Configuration) (state : BitState) → Follows c state → (env : Environment)
      → AllByRecursion (λ n. env.later (formal_instance n) ≡ later.Absent) outputs
      → Follows (next_configuration program c env) (next_state bits state)
  follows_next c state h env absent = record {
    outputs_are = map_same (λ n. store_from (passing program env) (formal_instance n)) (λ n. default_store ty.Bool) outputs
        (all_so (λ n. env.later (formal_instance n) ≡ later.Absent) (λ n. store_from (passing program env) (formal_instance n) ≡ default_store ty.Bool)
        (new_store_from env) outputs absent);
    place_is = (walks_as (passing program env) c.place state h.place_is).next;
  }

  -- there is a step, with the row of the bits
  step_there : (c : Configuration) (state : BitState) → Follows c state
      → IsStep program c [] (map truth_of (bit_row count bits state)) (next_configuration program c (values_by (driven_bits bits state)))
  step_there c state h = record {
    values = env;
    solution = record {
      valuation = is_valuation c state h;
      inputs = ap (λ ns. map (λ n. env.now (formal_instance n)) ns) (inputs_of m.formals first.formals 0);
      plain = subst (λ mets. AllByRecursion (IsPlainAt env) mets) (sym (met_is c state h))
          (all-map (IsPlainAt env) output_met outputs (all_from (λ n. IsPlainAt env (output_met n)) (λ n. record { now = tt; later = tt }) outputs));
      settled = subst (λ mets. AllByRecursion (IsSettledAt program (step_writes program c env) env) mets) (sym (met_is c state h))
          (all-map (IsSettledAt program (step_writes program c env) env) output_met outputs
          (all_from (λ n. IsSettledAt program (step_writes program c env) env (output_met n))
          (λ n. record { now = sym (settles c state h env n); later = sym (undelayed c state h env n) }) outputs));
    };
    outputs_are = row_values state;
    next_is = refl;
  }
    where
      env : Environment
      env = values_by (driven_bits bits state)

  follows_there : (c : Configuration) (state : BitState) → Follows c state
      → Follows (next_configuration program c (values_by (driven_bits bits state))) (next_state bits state)
  follows_there c state h =
      follows_next c state h (values_by (driven_bits bits state)) (all_from (λ n. (values_by (driven_bits bits state)).later (formal_instance n) ≡ later.Absent) (λ n. refl) outputs)

  -- the configuration after a step, by the values that the bits give
  abbrev pub after_step : Configuration → BitState → Configuration
  after_step c state = next_configuration program c (values_by (driven_bits bits state))

  -- there is a step from a configuration that the state is of, to one that the next state is of
  pub step_follows : (c : Configuration) (state : BitState) → Follows c state
      → IsStep program c [] (map truth_of (bit_row count bits state)) (after_step c state) × Follows (after_step c state) (next_state bits state)
  step_follows c state h = (step_there c state h, follows_there c state h)

  settled_at : (c : Configuration) (state : BitState) → Follows c state → (env : Environment) → IsSolution program c [] env
      → AllByRecursion (λ n. IsSettledAt program (step_writes program c env) env (output_met n)) outputs
  settled_at c state h env solution =
      all_of-map (IsSettledAt program (step_writes program c env) env) output_met outputs
      (subst (λ mets. AllByRecursion (IsSettledAt program (step_writes program c env) env) mets) (met_is c state h) solution.settled)

  agree_each : (ns : List ℕ) (a b : Environment) (P Q : ℕ → Type 0) → ((n : ℕ) → P n → Q n → AgreeAt (output_met n) a b)
      → AllByRecursion P ns → AllByRecursion Q ns → AllByRecursion (λ n. AgreeAt (output_met n) a b) ns
  agree_each [] a b P Q f x y = tt
  agree_each (n ∷ ns) a b P Q f x y = (f n x.0 y.0, agree_each ns a b P Q f x.1 y.1)

  -- all solutions agree, as each has what the bits drive
  pub one_solution : (c : Configuration) (state : BitState) → Follows c state → HaveOneSolution program c []
  one_solution c state h a b x y =
      subst (λ mets. AllByRecursion (λ (one : Met). AgreeAt one a b) mets) (sym (met_is c state h))
      (all-map (λ (one : Met). AgreeAt one a b) output_met outputs
      (agree_each outputs a b (λ n. IsSettledAt program (step_writes program c a) a (output_met n)) (λ n. IsSettledAt program (step_writes program c b) b (output_met n))
      (λ n k l. record {
        now = k.now ∙ settles c state h a n ∙ sym (l.now ∙ settles c state h b n);
        later = k.later ∙ undelayed c state h a n ∙ sym (l.later ∙ undelayed c state h b n);
      })
      (settled_at c state h a x) (settled_at c state h b y)))

  -- under all values with which nothing is delayed the configuration after it is the same
  same_after : (c : Configuration) (state : BitState) → Follows c state → (env : Environment)
      → AllByRecursion (λ n. env.later (formal_instance n) ≡ later.Absent) outputs → next_configuration program c env ≡ after_step c state
  same_after c state h env absent =
      ap₂ (λ (place : Place) (stores : List Store). record { place = place; outputs = stores })
      (ap (λ (body : Walk). next_place body c.place)
      (same_walk (passing program env) (passing program (values_by (driven_bits bits state))) count m.body first.body))
      ((follows_next c state h env absent).outputs_are ∙ sym (follows_there c state h).outputs_are)

  -- and it is the only one
  pub step_only : (c : Configuration) (state : BitState) → Follows c state → (out : List Value) (next : Configuration) → IsStep program c [] out next
      → (out ≡ map truth_of (bit_row count bits state)) × (next ≡ after_step c state)
  step_only c state h out next s = (
    known_same out (map truth_of (bit_row count bits state)) (
        sym s.outputs_are
        ∙ map_same (λ n. s.values.now (formal_instance n)) (λ n. Known (truth_of (is_driven (driven_bits bits state) n))) outputs
        (all_so (λ n. IsSettledAt program (step_writes program c s.values) s.values (output_met n))
        (λ n. s.values.now (formal_instance n) ≡ Known (truth_of (is_driven (driven_bits bits state) n)))
        (λ n k. k.now ∙ settles c state h s.values n) outputs (settled_at c state h s.values s.solution))
        ∙ row_values state
        ),
    s.next_is ∙ same_after c state h s.values
        (all_so (λ n. IsSettledAt program (step_writes program c s.values) s.values (output_met n)) (λ n. s.values.later (formal_instance n) ≡ later.Absent)
        (λ n k. k.later ∙ undelayed c state h s.values n) outputs (settled_at c state h s.values s.solution)),
  )

  -- what isn't started rests nowhere
  still_before : (c : Configuration) (state : BitState) → Follows c state → state.started ≡ false → IsStill bits state.control
  still_before c state h e = by_place c.place h.place_is
    where
      by_place : (from : Place) → IsPlace from state → IsStill bits state.control
      by_place place.NotStarted k = (resumed no_step).still state.control k.1
      by_place (place.Rest r) k = absurd (false≢true (sym e ∙ k.0))
      by_place place.Ended k = absurd (false≢true (sym e ∙ k.0))

  -- before the start nothing is resumed, and after it nothing is started: both can be joined
  pub driven_by_both : (c : Configuration) (state : BitState) → Follows c state → (n : ℕ)
      → is_driven (bits.start (not state.started) ++ bits.resume state.control true) n ≡ is_driven (driven_bits bits state) n
  driven_by_both c state h n =
      is_driven-append (bits.start (not state.started)) (bits.resume state.control true) n ∙ by_started state.started refl
    where
      by_started : (b : Bool) → state.started ≡ b
          → (is_driven (bits.start (not state.started)) n || is_driven (bits.resume state.control true) n) ≡ is_driven (driven_bits bits state) n
      by_started true e = rw e (ap (λ b. b || is_driven (bits.resume state.control true) n) ((started no_step).undriven n))
      by_started false e = rw e
          (ap (λ b. is_driven (bits.start true) n || b) ((still_before c state h e).undriven true n) ∙ or-false (is_driven (bits.start true) n))

  pub moved_by_both : (c : Configuration) (state : BitState) → Follows c state → (n : ℕ)
      → is_driven (bits.enter (not state.started) ++ bits.move state.control) n ≡ is_driven (moved_bits bits state) n
  moved_by_both c state h n =
      is_driven-append (bits.enter (not state.started)) (bits.move state.control) n ∙ by_started state.started refl
    where
      by_started : (b : Bool) → state.started ≡ b
          → (is_driven (bits.enter (not state.started)) n || is_driven (bits.move state.control) n) ≡ is_driven (moved_bits bits state) n
      by_started true e = rw e (ap (λ b. b || is_driven (bits.move state.control) n) ((started no_step).unentered n))
      by_started false e = rw e
          (ap (λ b. is_driven (bits.enter true) n || b) ((still_before c state h e).unmoved n) ∙ or-false (is_driven (bits.enter true) n))

  -- what is followed is told by the places alone
  pub follows_alike : (c : Configuration) (state same : BitState) → Follows c state → same.started ≡ state.started
      → ((k : ℕ) → contains (places_of m.body) k ≡ true → same.control k ≡ state.control k) → Follows c same
  follows_alike c state same h e f = record { outputs_are = h.outputs_are; place_is = alike c.place h.place_is }
    where
      alike : (from : Place) → IsPlace from state → IsPlace from same
      alike place.NotStarted k = (e ∙ k.0, λ n inside. f n inside ∙ k.1 n inside)
      alike (place.Rest r) k = (e ∙ k.0, k.1, λ n inside. f n inside ∙ k.2 n inside)
      alike place.Ended k = (e ∙ k.0, λ n inside. f n inside ∙ k.1 n inside)
