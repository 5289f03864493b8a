-- A start of a statement of the first language, and its bits.
use Rattle.std.proofs.Common.{◌≡◌, ℕ, ◌+◌, suc, Bool, true, false, ◌&&◌, ◌||◌, ◌==◌, nat_lt, IsTrue, List, [], ◌∷◌, ◌++◌, map, drop, length, slice_get, Option, Some, None, refl, sym, ap, ap₂, ◌∙◌, add-one, eq-eqb, if◌then◌else◌}
use Rattle.std.specs.Option.{option_map}
use Rattle.std.specs.List.{AllByRecursion, flat_map}
use Rattle.std.proofs.lemmas.Bool.{and_parts, false≢true}
use Rattle.std.proofs.lemmas.List.{map-append}
use Rattle.qz_values.specs.declared.Know.{Know}
use Rattle.qz_values.specs.declared.Know.TheVariants.{Known}
use Rattle.qz_values.specs.Values.{truth_of}
use Rattle.qz_values.specs.Knowledge.{both, knows_yes}
use Rattle.qz_syntax.specs.declared.expressions.Var.TheVariants as var
use Rattle.qz_syntax.specs.declared.expressions.Expr.{Expr}
use Rattle.qz_syntax.specs.declared.places.Mark.{Mark}
use Rattle.qz_syntax.specs.declared.places.Residual.{Residual}
use Rattle.qz_syntax.specs.declared.places.Residual.TheVariants.{InSeq, InBody}
use Rattle.qz_syntax.specs.declared.statements.Stmt.{Stmt}
use Rattle.qz_syntax.proofs.Equations.{fold-Nothing, fold-Assign, fold-Pause, fold-Seq, fold-Loop}
use Rattle.qz_syntax.specs.Numbers.{contains}
use Rattle.qz_meaning.specs.Instances.{formal_instance}
use Rattle.qz_meaning.specs.Scenes.{Passing, Context}
use Rattle.qz_meaning.specs.Accounts.{Write}
use Rattle.qz_meaning.specs.Layouts.{Layout, bare}
use Rattle.qz_meaning.specs.Behaviors.{idle}
use Rattle.qz_meaning.specs.Simple.{assignment, pause, pause_layout}
use Rattle.qz_meaning.specs.Sequences.{sequence, sequence_layout, start_in_turn, ends_of_all, rest_in_first}
use Rattle.qz_meaning.specs.Loops.{loop, loop_layout}
use Rattle.qz_meaning.specs.Calls.{Calls}
use Rattle.qz_meaning.specs.Residing.{residing, no_calls, Walk, walk, whole_layout}
use Rattle.qz_meaning.specs.Valuations.{node_places}
use Rattle.qz_meaning.proofs.Walking.{behavior-Nothing, behavior-Assign, behavior-Pause, behavior-Seq, behavior-Loop, layout-Nothing, layout-Assign, layout-Pause, layout-Seq, layout-Loop}
use Rattle.qz_meaning.proofs.Folding.{fold-At}
use Rattle.qz_meaning.proofs.Resting.{out-At, out-InSeq, out-InBody}
use Rattle.qz_first.specs.Mirror.{Mirror, idle_mirror, driven, pause_mirror, sequence_mirror, loop_mirror, all_at_once, start_all, enter_all, bit_of, node_mirror, mirror_of, is_driven}
use Rattle.qz_first.specs.FirstLanguage.{is_first}
use Rattle.qz_first.specs.FirstWalk.{writes_of, write_of, places_at, CanRest, StartsAs}
use Rattle.qz_first.proofs.FirstInduction.{first_induction}
use Rattle.qz_first.proofs.BitLemmas.{and-true, and-false, and_assoc, or-false, both_known, is_driven-append, places_at-in_seq, places_at-in_body, drop_head, literal_yes}

-- what the induction carries: control can rest where a start leaves it, and without its guard a start drives
-- and enters nothing
pub record Starting (body : Walk) (l : Layout) (mirror : Mirror) : Type 0 where
  pub starts : StartsAs body l mirror
  pub fits : (ctx : Context) (m : Mark) → CanRest l (body.rest ctx m)
  pub undriven : (output : ℕ) → is_driven (mirror.start false) output ≡ false
  pub unentered : (place : ℕ) → is_driven (mirror.enter false) place ≡ false
  pub enters_none : mirror.at_once ≡ true → (g : Bool) (place : ℕ) → is_driven (mirror.enter g) place ≡ false

pub carried : {body same : Walk} {l like : Layout} {mirror image : Mirror} → body ≡ same → l ≡ like → mirror ≡ image
    → Starting same like image → Starting body l mirror
carried p q r t = rw (p, q, r) t

pub starting-idle : (step : Passing) → Starting (idle (residing step)) bare idle_mirror
starting-idle step = record {
  starts = record {
    ends = λ ctx m. refl;
    writes = λ ctx g m. refl;
    rests = λ ctx m place. refl;
    meets = λ m. refl;
  };
  fits = λ ctx m. tt;
  undriven = λ output. refl;
  unentered = λ place. refl;
  enters_none = λ h g place. refl;
}

pub starting-assignment : (step : Passing) (n : ℕ) (value : Expr) → bit_of value ≡ true
    → Starting (assignment step.now (residing step) false (var.Formal n) value) bare
    (record idle_mirror { start = λ g. driven (var.Formal n) value g })
starting-assignment step n value h = record {
  starts = record {
    ends = λ ctx m. refl;
    writes = λ ctx g m. ap₂ (λ (b : Bool) (v : Know). record {
      target = formal_instance n;
      delayed = false;
      guard = Known (truth_of b);
      value = v;
    } ∷ []) (sym (and-true g) ∙ ap (λ b. g && b) (sym h)) (literal_yes step.now ctx value h);
    rests = λ ctx m place. refl;
    meets = λ m. refl;
  };
  fits = λ ctx m. tt;
  undriven = λ output. ap (λ b. b || false) (and-false (n == output));
  unentered = λ place. refl;
  enters_none = λ h g place. refl;
}

pub starting-pause : (step : Passing) (number : ℕ) → Starting (pause (residing step) number) (pause_layout number) (pause_mirror number)
starting-pause step number = record {
  starts = record {
    ends = λ ctx m. refl;
    writes = λ ctx g m. refl;
    rests = λ ctx m place. ap (λ places. contains places place) (fold-At (List ℕ) node_places number)
        ∙ ap (λ b. b || false) (sym (and-true (number == place)));
    meets = λ m. refl;
  };
  fits = λ ctx m. rw (out-At number) (eq-eqb number number refl);
  undriven = λ output. refl;
  unentered = λ place. ap (λ b. b || false) (and-false (number == place));
  enters_none = λ h g place. absurd (false≢true h);
}

pub starting-loop : (step : Passing) (number : ℕ) (condition : Expr) (body : Walk) (l : Layout) (mirror : Mirror)
    → Starting body l mirror
    → Starting (loop step.now (residing step) number body condition) (loop_layout number l) (loop_mirror mirror condition)
starting-loop step number condition body l mirror h = record {
  starts = record {
    ends = λ ctx m. refl;
    writes = h.starts.writes;
    rests = λ ctx m place. ap (λ places. contains places place) (places_at-in_body (body.rest ctx m)) ∙ h.starts.rests ctx m place;
    meets = h.starts.meets;
  };
  fits = λ ctx m. in_body (body.rest ctx m) (h.fits ctx m);
  undriven = h.undriven;
  unentered = h.unentered;
  enters_none = λ e g place. absurd (false≢true e);
}
  where
    in_body : (inside : Option Residual) → CanRest l inside → CanRest (loop_layout number l) (option_map (λ r. InBody r) inside)
    in_body None h = tt
    in_body (Some r) h = rw (out-InBody r) h

module _ (step : Passing) where
  abbrev W : Stmt → Walk
  W = walk step

  abbrev none : Walk
  none = idle (residing step)

  -- a statement whose starts are as its bits say
  abbrev pub Started : Stmt → Type 0
  Started s = Starting (W s) (whole_layout s) (mirror_of s)

  pub ends_all : (ctx : Context) (m : Mark) (parts : List Stmt) → AllByRecursion Started parts → (so_far : Bool)
      → ends_of_all ctx (map W parts) (Known (truth_of so_far)) m ≡ Known (truth_of (so_far && all_at_once (map mirror_of parts)))
  ends_all ctx m [] h so_far = ap (λ b. Known (truth_of b)) (sym (and-true so_far))
  ends_all ctx m (s ∷ parts) h so_far =
      ap (λ k. ends_of_all ctx (map W parts) (both (Known (truth_of so_far)) k) m) (h.0.starts.ends ctx m)
      ∙ ap (λ k. ends_of_all ctx (map W parts) k m) (both_known so_far (mirror_of s).at_once)
      ∙ ends_all ctx m parts h.1 (so_far && (mirror_of s).at_once)
      ∙ ap (λ b. Known (truth_of b)) (and_assoc so_far (mirror_of s).at_once (all_at_once (map mirror_of parts)))

  pub writes_all : (ctx : Context) (m : Mark) (parts : List Stmt) → AllByRecursion Started parts → (g : Bool)
      → start_in_turn ctx (map W parts) (Known (truth_of g)) m ≡ writes_of (start_all (map mirror_of parts) g)
  writes_all ctx m [] h g = refl
  writes_all ctx m (s ∷ parts) h g =
      ap₂ (λ xs ys. xs ++ ys) (h.0.starts.writes ctx g m) (
      ap (λ k. start_in_turn ctx (map W parts) (both (Known (truth_of g)) k) m) (h.0.starts.ends ctx m)
      ∙ ap (λ k. start_in_turn ctx (map W parts) k m) (both_known g (mirror_of s).at_once)
      ∙ writes_all ctx m parts h.1 (g && (mirror_of s).at_once)
      )
      ∙ sym (map-append write_of ((mirror_of s).start g) (start_all (map mirror_of parts) (g && (mirror_of s).at_once)))

  pub undriven_all : (parts : List Stmt) → AllByRecursion Started parts → (output : ℕ) → is_driven (start_all (map mirror_of parts) false) output ≡ false
  undriven_all [] h output = refl
  undriven_all (s ∷ parts) h output =
      is_driven-append ((mirror_of s).start false) (start_all (map mirror_of parts) false) output
      ∙ ap₂ (λ a b. a || b) (h.0.undriven output) (undriven_all parts h.1 output)

  pub unentered_all : (parts : List Stmt) → AllByRecursion Started parts → (place : ℕ) → is_driven (enter_all (map mirror_of parts) false) place ≡ false
  unentered_all [] h place = refl
  unentered_all (s ∷ parts) h place =
      is_driven-append ((mirror_of s).enter false) (enter_all (map mirror_of parts) false) place
      ∙ ap₂ (λ a b. a || b) (h.0.unentered place) (unentered_all parts h.1 place)

  pub enters_none_all : (parts : List Stmt) → AllByRecursion Started parts → all_at_once (map mirror_of parts) ≡ true → (g : Bool) (place : ℕ)
      → is_driven (enter_all (map mirror_of parts) g) place ≡ false
  enters_none_all [] h e g place = refl
  enters_none_all (s ∷ parts) h e g place =
      let both_end = and_parts _ _ e in
      is_driven-append ((mirror_of s).enter g) (enter_all (map mirror_of parts) (g && (mirror_of s).at_once)) place
      ∙ ap₂ (λ a b. a || b) (h.0.enters_none both_end.0 g place) (enters_none_all parts h.1 both_end.1 (g && (mirror_of s).at_once) place)

  pub rests_all : (ctx : Context) (m : Mark) (parts : List Stmt) → AllByRecursion Started parts → (number place : ℕ)
      → contains (places_at (rest_in_first (residing step) ctx (map W parts) number m)) place ≡ is_driven (enter_all (map mirror_of parts) true) place
  rests_all ctx m [] h number place = refl
  rests_all ctx m (s ∷ parts) h number place =
      by_end (mirror_of s).at_once refl (rests_all ctx m parts h.1 (number + 1) place)
    where
      by_end : (ends : Bool) → (mirror_of s).at_once ≡ ends
          → contains (places_at (rest_in_first (residing step) ctx (map W parts) (number + 1) m)) place ≡ is_driven (enter_all (map mirror_of parts) true) place
          → contains (places_at (rest_in_first (residing step) ctx (map W (s ∷ parts)) number m)) place
          ≡ is_driven (enter_all (map mirror_of (s ∷ parts)) true) place
      by_end true e later =
          ap (λ k. contains (places_at (if knows_yes k then rest_in_first (residing step) ctx (map W parts) (number + 1) m else option_map (λ r. InSeq number r) ((W s).rest ctx m))) place)
          (h.0.starts.ends ctx m ∙ ap (λ b. Known (truth_of b)) e)
          ∙ later
          ∙ sym (
          is_driven-append ((mirror_of s).enter true) (enter_all (map mirror_of parts) (mirror_of s).at_once) place
          ∙ ap₂ (λ a b. a || b) (h.0.enters_none e true place) (ap (λ b. is_driven (enter_all (map mirror_of parts) b) place) e)
          )
      by_end false e later =
          ap (λ k. contains (places_at (if knows_yes k then rest_in_first (residing step) ctx (map W parts) (number + 1) m else option_map (λ r. InSeq number r) ((W s).rest ctx m))) place)
          (h.0.starts.ends ctx m ∙ ap (λ b. Known (truth_of b)) e)
          ∙ ap (λ places. contains places place) (places_at-in_seq number ((W s).rest ctx m))
          ∙ h.0.starts.rests ctx m place
          ∙ sym (
          is_driven-append ((mirror_of s).enter true) (enter_all (map mirror_of parts) (mirror_of s).at_once) place
          ∙ ap (λ b. is_driven ((mirror_of s).enter true) place || b)
          (ap (λ b. is_driven (enter_all (map mirror_of parts) b) place) e ∙ unentered_all parts h.1 place)
          ∙ or-false (is_driven ((mirror_of s).enter true) place)
          )

  pub fits_all : (ctx : Context) (m : Mark) (all : List Layout) (parts : List Stmt) → AllByRecursion Started parts → (number : ℕ)
      → drop number all ≡ map whole_layout parts
      → CanRest (sequence_layout all) (rest_in_first (residing step) ctx (map W parts) number m)
  fits_all ctx m all [] h number is = tt
  fits_all ctx m all (s ∷ parts) h number is =
      by_end (mirror_of s).at_once refl (fits_all ctx m all parts h.1 (number + 1) (ap (λ n. drop n all) (add-one number) ∙ head.2))
    where
      head : (nat_lt number (length all) ≡ true) × (slice_get all number ≡ Some (whole_layout s)) × (drop (suc number) all ≡ map whole_layout parts)
      head = drop_head number all (whole_layout s) (map whole_layout parts) is

      in_seq : (inside : Option Residual) → CanRest (whole_layout s) inside → CanRest (sequence_layout all) (option_map (λ r. InSeq number r) inside)
      in_seq None h = tt
      in_seq (Some r) h = rw (out-InSeq number r) (rw (head.0, head.1) h)

      by_end : (ends : Bool) → (mirror_of s).at_once ≡ ends
          → CanRest (sequence_layout all) (rest_in_first (residing step) ctx (map W parts) (number + 1) m)
          → CanRest (sequence_layout all) (rest_in_first (residing step) ctx (map W (s ∷ parts)) number m)
      by_end true e later = rw (h.0.starts.ends ctx m, e) later
      by_end false e later = rw (h.0.starts.ends ctx m, e) (in_seq ((W s).rest ctx m) (h.0.fits ctx m))

  pub meets_all : (m : Mark) (parts : List Stmt) → AllByRecursion Started parts
      → flat_map (λ (part : Layout). part.met_on_start m) (map whole_layout parts) ≡ []
  meets_all m [] h = refl
  meets_all m (s ∷ parts) h = ap₂ (λ xs ys. xs ++ ys) (h.0.starts.meets m) (meets_all m parts h.1)

  pub starting-sequence : (parts : List Stmt) → AllByRecursion Started parts
      → Starting (sequence (residing step) (map W parts)) (sequence_layout (map whole_layout parts)) (sequence_mirror (map mirror_of parts))
  starting-sequence parts h = record {
    starts = record {
      ends = λ ctx m. ends_all ctx m parts h true;
      writes = λ ctx g m. writes_all ctx m parts h g;
      rests = λ ctx m place. rests_all ctx m parts h 0 place;
      meets = λ m. meets_all m parts h;
    };
    fits = λ ctx m. fits_all ctx m (map whole_layout parts) parts h 0 refl;
    undriven = λ output. undriven_all parts h output;
    unentered = λ place. unentered_all parts h place;
    enters_none = λ e g place. enters_none_all parts h e g place;
  }

  abbrev calls : Calls Write (Option Residual)
  calls = no_calls (residing step)

  abbrev no_layout : ℕ → Layout
  no_layout number = bare

  pub starting : (outputs : ℕ) (s : Stmt) → is_first outputs s ≡ true → Started s
  starting outputs = first_induction outputs Started
      (carried (behavior-Nothing step.now (residing step) calls) (layout-Nothing no_layout) (fold-Nothing Mirror node_mirror) (starting-idle step))
      (λ n value inside known. carried (behavior-Assign step.now (residing step) calls (var.Formal n) value) (layout-Assign no_layout (var.Formal n) value)
      (fold-Assign Mirror node_mirror (var.Formal n) value) (starting-assignment step n value known))
      (λ place. carried (behavior-Pause step.now (residing step) calls place) (layout-Pause no_layout place) (fold-Pause Mirror node_mirror place) (starting-pause step place))
      (λ parts h. carried (behavior-Seq step.now (residing step) calls parts) (layout-Seq no_layout parts) (fold-Seq Mirror node_mirror parts) (starting-sequence parts h))
      (λ number body condition known h. carried (behavior-Loop step.now (residing step) calls number body condition) (layout-Loop no_layout number body condition)
      (fold-Loop Mirror node_mirror number body condition)
      (starting-loop step number condition (W body) (whole_layout body) (mirror_of body) h))

pub starts_as_its_bits : (outputs : ℕ) (s : Stmt) → IsTrue (is_first outputs s) → (step : Passing) → StartsAs (walk step s) (whole_layout s) (mirror_of s)
starts_as_its_bits outputs s first step = (starting step outputs s first).starts
