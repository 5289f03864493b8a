-- A resumed statement of the first language, and its bits: the statements without parts, and loops.
use Rattle.std.proofs.Common.{◌≡◌, ℕ, Bool, true, false, ◌&&◌, ◌||◌, not, List, [], ◌∷◌, ◌++◌, Option, Some, None, refl, sym, ap, ap₂, subst, ◌∙◌, eqb-true, eq-eqb, if◌then◌else◌}
use Rattle.std.specs.Option.{option_map}
use Rattle.std.proofs.lemmas.Bool.{false≢true}
use Rattle.std.proofs.lemmas.List.{map-append}
use Rattle.qz_values.specs.declared.Know.TheVariants.{Known}
use Rattle.qz_values.specs.Values.{yes, truth_of}
use Rattle.qz_values.specs.Knowledge.{both, opposite, knows_yes}
use Rattle.qz_syntax.specs.declared.expressions.Expr.{Expr}
use Rattle.qz_syntax.specs.declared.places.Mark.TheVariants as mark
use Rattle.qz_syntax.specs.declared.places.Residual.{Residual, out-Residual}
use Rattle.qz_syntax.specs.declared.places.Residual.TheOpen.{Residual-F}
use Rattle.qz_syntax.specs.declared.places.Residual.TheVariants.{At, InBody}
use Rattle.qz_syntax.specs.Numbers.{contains}
use Rattle.qz_meaning.specs.Scenes.{Passing, Context}
use Rattle.qz_meaning.specs.Expressions.{value_here}
use Rattle.qz_meaning.specs.Accounts.{Write}
use Rattle.qz_meaning.specs.Layouts.{Layout, bare}
use Rattle.qz_meaning.specs.Simple.{pause, pause_layout, is_at_in}
use Rattle.qz_meaning.specs.Loops.{loop, loop_layout, fits_in_body}
use Rattle.qz_meaning.specs.Residing.{residing, Walk}
use Rattle.qz_meaning.specs.Valuations.{node_places, resting_places}
use Rattle.qz_meaning.proofs.Folding.{fold-At, fold-InBody}
use Rattle.qz_meaning.proofs.Resting.{out-InBody}
use Rattle.qz_first.specs.Mirror.{Bits, Control, Mirror, idle_mirror, pause_mirror, loop_mirror, bit_of, is_driven}
use Rattle.qz_first.specs.FirstWalk.{write_of, places_at, CanRest}
use Rattle.qz_first.specs.FirstResumes.{AreWritesOf, ResumesAs, IsStill, IsControl}
use Rattle.qz_first.proofs.BitLemmas.{and-true, and-false, or-false, both_known, is_driven-append, places_at-in_body, literal_yes}
use Rattle.qz_first.proofs.PlaceLemmas.{is-At, is-InBody}
use Rattle.qz_first.proofs.StartMirror.{Starting}

-- what the induction carries, of a statement with these places
pub record Resuming (body : Walk) (l : Layout) (mirror : Mirror) (places : List ℕ) : Type 0 where
  pub still : (control : Control) → IsControl control places [] → IsStill mirror control
  pub resumes : (control : Control) (r : Residual) → l.fits r ≡ true → IsControl control places (resting_places r) → ResumesAs body l mirror control r
  pub moves_none : (control : Control) (r : Residual) → l.fits r ≡ true → IsControl control places (resting_places r)
      → mirror.ended control ≡ true → (place : ℕ) → is_driven (mirror.move control) place ≡ false
  pub fits : (ctx : Context) (r : Residual) → l.fits r ≡ true → CanRest l (body.after ctx r)
  pub within : (r : Residual) → l.fits r ≡ true → (place : ℕ) → contains (resting_places r) place ≡ true → contains places place ≡ true

pub resuming_carried : {body same : Walk} {l like : Layout} {mirror image : Mirror} {places numbers : List ℕ}
    → body ≡ same → l ≡ like → mirror ≡ image → places ≡ numbers
    → Resuming same like image numbers → Resuming body l mirror places
resuming_carried p q r s t = rw (p, q, r, s) t

-- writes one after the other
pub writes-append : (xs ys : List Write) (first second : Bits) → AreWritesOf xs first → AreWritesOf ys second → AreWritesOf (xs ++ ys) (first ++ second)
writes-append xs ys first second h k = record {
  same = h.same ++ k.same;
  are = ap₂ (λ us vs. us ++ vs) h.are k.are ∙ sym (map-append write_of h.same k.same);
  drive = λ output. is_driven-append h.same k.same output ∙ ap₂ (λ a b. a || b) (h.drive output) (k.drive output)
      ∙ sym (is_driven-append first second output);
}

-- the same writes, where other bits drive the same outputs
pub writes_alike : (xs : List Write) (first second : Bits) → AreWritesOf xs first → ((output : ℕ) → is_driven first output ≡ is_driven second output) → AreWritesOf xs second
writes_alike xs first second h k = record { same = h.same; are = h.are; drive = λ output. h.drive output ∙ k output }

pub resuming-idle : (start : Bool → Bits) (body : Walk) → Resuming body bare (record idle_mirror { start = start }) []
resuming-idle start body = record {
  still = λ control away. record { inside = refl; ended = refl; undriven = λ act output. refl; unmoved = λ place. refl };
  resumes = λ control r fits at. absurd (false≢true fits);
  moves_none = λ control r fits at h place. refl;
  fits = λ ctx r fits. absurd (false≢true fits);
  within = λ r fits. absurd (false≢true fits);
}

-- a residual that fits a pause is at it
at_pause : (number : ℕ) (r : Residual) → (pause_layout number).fits r ≡ true → r ≡ At number
at_pause number r h = by_form (out-Residual r) refl h
  where
    by_form : (node : Residual-F Residual) → out-Residual r ≡ node → is_at_in number node ≡ true → r ≡ At number
    by_form (Residual-F.At other) is e = is-At r other is ∙ ap (λ n. At n) (sym (eqb-true number other e))
    by_form (Residual-F.Hold place) is e = absurd (false≢true e)
    by_form (Residual-F.InSeq member inside) is e = absurd (false≢true e)
    by_form (Residual-F.InPar branches) is e = absurd (false≢true e)
    by_form (Residual-F.InIf side inside) is e = absurd (false≢true e)
    by_form (Residual-F.InBody inside) is e = absurd (false≢true e)
    by_form (Residual-F.InScope stores inside) is e = absurd (false≢true e)
    by_form (Residual-F.InCall call) is e = absurd (false≢true e)

pub resuming-pause : (step : Passing) (number : ℕ) → Resuming (pause (residing step) number) (pause_layout number) (pause_mirror number) (number ∷ [])
resuming-pause step number = record {
  still = λ control away. record {
    inside = away number own;
    ended = away number own;
    undriven = λ act output. refl;
    unmoved = λ place. refl;
  };
  resumes = λ control r fits at. record {
    inside = rests control r fits at;
    ended = λ ctx. ap (λ b. Known (truth_of b)) (sym (rests control r fits at));
    writes = λ ctx g. record { same = []; are = refl; drive = λ output. refl };
    rests = λ ctx place. refl;
    meets = refl;
  };
  moves_none = λ control r fits at h place. refl;
  fits = λ ctx r fits. tt;
  within = λ r fits place h. ap (λ numbers. contains numbers place) (sym (places_are r fits)) ∙ h;
}
  where
    own : contains (number ∷ []) number ≡ true
    own = ap (λ b. b || false) (eq-eqb number number refl)

    places_are : (r : Residual) → (pause_layout number).fits r ≡ true → resting_places r ≡ number ∷ []
    places_are r fits = ap resting_places (at_pause number r fits) ∙ fold-At (List ℕ) node_places number

    rests : (control : Control) (r : Residual) → (pause_layout number).fits r ≡ true → IsControl control (number ∷ []) (resting_places r) → control number ≡ true
    rests control r fits at = at number own ∙ ap (λ numbers. contains numbers number) (places_are r fits) ∙ own

-- a residual that fits a loop is in its body
in_body_of : (l : Layout) (r : Residual) → fits_in_body l (out-Residual r) ≡ true → (inside : Residual) × (r ≡ InBody inside) × (l.fits inside ≡ true)
in_body_of l r h = by_form (out-Residual r) refl h
  where
    by_form : (node : Residual-F Residual) → out-Residual r ≡ node → fits_in_body l node ≡ true
        → (inside : Residual) × (r ≡ InBody inside) × (l.fits inside ≡ true)
    by_form (Residual-F.InBody inside) is e = (inside, is-InBody r inside is, e)
    by_form (Residual-F.At other) is e = absurd (false≢true e)
    by_form (Residual-F.Hold place) is e = absurd (false≢true e)
    by_form (Residual-F.InSeq member inside) is e = absurd (false≢true e)
    by_form (Residual-F.InPar branches) is e = absurd (false≢true e)
    by_form (Residual-F.InIf side inside) is e = absurd (false≢true e)
    by_form (Residual-F.InScope stores inside) is e = absurd (false≢true e)
    by_form (Residual-F.InCall call) is e = absurd (false≢true e)

module _ (step : Passing) (number : ℕ) (condition : Expr) (known : bit_of condition ≡ true) (body : Walk) (l : Layout) (mirror : Mirror) (places : List ℕ)
    (starting : Starting body l mirror) (resuming : Resuming body l mirror places) where
  abbrev turning : Walk
  turning = loop step.now (residing step) number body condition

  abbrev bits : Mirror
  bits = loop_mirror mirror condition

  -- the condition holds, so the loop turns just where its body ends
  turns_as : (ctx : Context) (inside : Residual) (b : Bool) → body.ended ctx inside ≡ Known (truth_of b)
      → both (body.ended ctx inside) (value_here step.now ctx condition) ≡ Known (truth_of b)
  turns_as ctx inside b h =
      ap₂ (λ k v. both k v) h (literal_yes step.now ctx condition known) ∙ both_known b true ∙ ap (λ c. Known (truth_of c)) (and-true b)

  turned : (control : Control) → (mirror.ended control && bit_of condition) ≡ mirror.ended control
  turned control = ap (λ b. mirror.ended control && b) known ∙ and-true (mirror.ended control)

  loop_writes : (control : Control) (inside : Residual) → ResumesAs body l mirror control inside → (ctx : Context) (g : Bool)
      → AreWritesOf
      (body.resume ctx inside (Known (truth_of g))
      ++ body.start ctx (both (both (Known (truth_of g)) (body.ended ctx inside)) (value_here step.now ctx condition)) (mark.Loop number))
      (bits.resume control g)
  loop_writes control inside h ctx g =
      writes-append _ _ _ _ (h.writes ctx g) (record {
        same = mirror.start (g && (mirror.ended control && bit_of condition));
        are = ap (λ k. body.start ctx k (mark.Loop number)) guard ∙ starting.starts.writes ctx (g && (mirror.ended control && bit_of condition)) (mark.Loop number);
        drive = λ output. refl;
      })
    where
      guard : both (both (Known (truth_of g)) (body.ended ctx inside)) (value_here step.now ctx condition)
          ≡ Known (truth_of (g && (mirror.ended control && bit_of condition)))
      guard =
          ap₂ (λ k v. both (both (Known (truth_of g)) k) v) (h.ended ctx) (literal_yes step.now ctx condition known)
          ∙ ap (λ k. both k (Known yes)) (both_known g (mirror.ended control))
          ∙ both_known (g && mirror.ended control) true
          ∙ ap (λ b. Known (truth_of b)) (and-true (g && mirror.ended control) ∙ ap (λ b. g && b) (sym (turned control)))

  loop_rests : (control : Control) (inside : Residual) → l.fits inside ≡ true → IsControl control places (resting_places inside)
      → (ctx : Context) (place : ℕ)
      → contains (places_at (
      option_map (λ r. InBody r) (if knows_yes (both (body.ended ctx inside) (value_here step.now ctx condition)) then body.rest ctx (mark.Loop number) else body.after ctx inside)
      )) place
      ≡ is_driven (bits.move control) place
  loop_rests control inside fits at ctx place = by_end (mirror.ended control) refl
    where
      h : ResumesAs body l mirror control inside
      h = resuming.resumes control inside fits at

      moved : (b : Bool) → mirror.ended control ≡ b
          → is_driven (bits.move control) place ≡ (is_driven (mirror.move control) place || is_driven (mirror.enter b) place)
      moved b e =
          is_driven-append (mirror.move control) (mirror.enter (mirror.ended control && bit_of condition)) place
          ∙ ap (λ c. is_driven (mirror.move control) place || is_driven (mirror.enter c) place) (turned control ∙ e)

      by_end : (b : Bool) → mirror.ended control ≡ b
          → contains (places_at (
          option_map (λ r. InBody r) (if knows_yes (both (body.ended ctx inside) (value_here step.now ctx condition)) then body.rest ctx (mark.Loop number) else body.after ctx inside)
          )) place
          ≡ is_driven (bits.move control) place
      by_end true e =
          ap (λ k. contains (places_at (
          option_map (λ r. InBody r) (if knows_yes k then body.rest ctx (mark.Loop number) else body.after ctx inside)
          )) place) (turns_as ctx inside true (h.ended ctx ∙ ap (λ b. Known (truth_of b)) e))
          ∙ ap (λ numbers. contains numbers place) (places_at-in_body (body.rest ctx (mark.Loop number)))
          ∙ starting.starts.rests ctx (mark.Loop number) place
          ∙ sym (moved true e ∙ ap (λ b. b || is_driven (mirror.enter true) place) (resuming.moves_none control inside fits at e place))
      by_end false e =
          ap (λ k. contains (places_at (
          option_map (λ r. InBody r) (if knows_yes k then body.rest ctx (mark.Loop number) else body.after ctx inside)
          )) place) (turns_as ctx inside false (h.ended ctx ∙ ap (λ b. Known (truth_of b)) e))
          ∙ ap (λ numbers. contains numbers place) (places_at-in_body (body.after ctx inside))
          ∙ h.rests ctx place
          ∙ sym (moved false e ∙ ap (λ b. is_driven (mirror.move control) place || b) (starting.unentered place) ∙ or-false (is_driven (mirror.move control) place))

  loop_ended : (control : Control) (ctx : Context) (inside : Residual) → body.ended ctx inside ≡ Known (truth_of (mirror.ended control))
      → both (body.ended ctx inside) (opposite (value_here step.now ctx condition)) ≡ Known (truth_of (mirror.ended control && not (bit_of condition)))
  loop_ended control ctx inside h =
      ap₂ (λ k v. both k (opposite v)) h (literal_yes step.now ctx condition known) ∙ both_known (mirror.ended control) false
      ∙ ap (λ b. Known (truth_of (mirror.ended control && not b))) (sym known)

  in_loop : (inside : Option Residual) → CanRest l inside → CanRest (loop_layout number l) (option_map (λ r. InBody r) inside)
  in_loop None h = tt
  in_loop (Some r) h = rw (out-InBody r) h

  one_of : (b : Bool) (first second : Option Residual) → CanRest l first → CanRest l second
      → CanRest (loop_layout number l) (option_map (λ r. InBody r) (if b then first else second))
  one_of true first second h k = in_loop first h
  one_of false first second h k = in_loop second k

  loop_resumes : (control : Control) (inside : Residual) → l.fits inside ≡ true → IsControl control places (resting_places inside)
      → ResumesAs turning (loop_layout number l) bits control (InBody inside)
  loop_resumes control inside fits at =
      let h = resuming.resumes control inside fits at in
      record {
        inside = h.inside;
        ended = λ ctx. rw (out-InBody inside) (loop_ended control ctx inside (h.ended ctx));
        writes = λ ctx g. rw (out-InBody inside) (loop_writes control inside h ctx g);
        rests = λ ctx place. rw (out-InBody inside) (loop_rests control inside fits at ctx place);
        meets = rw (out-InBody inside) (ap₂ (λ xs ys. xs ++ ys) h.meets (starting.starts.meets (mark.Loop number)));
      }

  loop_still : (control : Control) → IsControl control places [] → IsStill bits control
  loop_still control away =
      let h = resuming.still control away in
      record {
        inside = h.inside;
        ended = ap (λ b. b && not (bit_of condition)) h.ended;
        undriven = λ act output.
            is_driven-append (mirror.resume control act) (mirror.start (act && (mirror.ended control && bit_of condition))) output
            ∙ ap₂ (λ a b. a || b) (h.undriven act output)
            (ap (λ b. is_driven (mirror.start b) output) (ap (λ b. act && (b && bit_of condition)) h.ended ∙ and-false act) ∙ starting.undriven output);
        unmoved = λ place.
            is_driven-append (mirror.move control) (mirror.enter (mirror.ended control && bit_of condition)) place
            ∙ ap₂ (λ a b. a || b) (h.unmoved place)
            (ap (λ b. is_driven (mirror.enter b) place) (ap (λ b. b && bit_of condition) h.ended) ∙ starting.unentered place);
      }

  resuming_loop : Resuming turning (loop_layout number l) bits places
  resuming_loop = record {
    still = loop_still;
    resumes = λ control r fits at.
        let inner = in_body_of l r fits in
        subst (λ q. ResumesAs turning (loop_layout number l) bits control q) (sym inner.1) (loop_resumes control inner.0 inner.2
        (subst (λ numbers. IsControl control places numbers) (ap resting_places inner.1 ∙ fold-InBody (List ℕ) node_places inner.0) at));
    moves_none = λ control r fits at e place.
        absurd (false≢true (sym (ap (λ b. mirror.ended control && not b) known ∙ and-false (mirror.ended control)) ∙ e));
    fits = λ ctx r fits.
        let inner = in_body_of l r fits in
        subst (λ q. CanRest (loop_layout number l) (turning.after ctx q)) (sym inner.1) (rw (out-InBody inner.0)
        (one_of (knows_yes (both (body.ended ctx inner.0) (value_here step.now ctx condition))) (body.rest ctx (mark.Loop number)) (body.after ctx inner.0)
        (starting.fits ctx (mark.Loop number)) (resuming.fits ctx inner.0 inner.2)));
    within = λ r fits place h.
        let inner = in_body_of l r fits in
        resuming.within inner.0 inner.2 place (ap (λ numbers. contains numbers place) (sym (ap resting_places inner.1 ∙ fold-InBody (List ℕ) node_places inner.0)) ∙ h);
  }

pub resuming-loop : (step : Passing) (number : ℕ) (condition : Expr) → bit_of condition ≡ true → (body : Walk) (l : Layout) (mirror : Mirror) (places : List ℕ)
    → Starting body l mirror → Resuming body l mirror places
    → Resuming (loop step.now (residing step) number body condition) (loop_layout number l) (loop_mirror mirror condition) places
resuming-loop step number condition known body l mirror places starting resuming =
    resuming_loop step number condition known body l mirror places starting resuming
