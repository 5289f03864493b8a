-- Sequences that are resumed, and their bits.
use Rattle.std.proofs.Common.{◌≡◌, ℕ, zero, suc, Bool, true, false, ◌&&◌, ◌||◌, nat_lt, List, [], ◌∷◌, ◌++◌, map, drop, length, refl, sym, ap, ap₂, ◌∙◌, arith, lt-ltb, ltb-true, if◌then◌else◌}
use Rattle.std.specs.Option.{option_map}
use Rattle.std.specs.List.{AllByRecursion, concat, flat_map}
use Rattle.std.proofs.lemmas.Bool.{and_parts, false≢true}
use Rattle.qz_values.specs.declared.Know.TheVariants.{Known}
use Rattle.qz_values.specs.Values.{truth_of}
use Rattle.qz_values.specs.Knowledge.{both, knows_yes}
use Rattle.qz_syntax.specs.declared.places.Mark.TheVariants as mark
use Rattle.qz_syntax.specs.declared.places.Residual.{Residual}
use Rattle.qz_syntax.specs.declared.places.Residual.TheVariants.{InSeq}
use Rattle.qz_syntax.specs.declared.statements.Stmt.{Stmt}
use Rattle.qz_syntax.specs.Numbers.{contains, places_of}
use Rattle.qz_meaning.specs.Scenes.{Passing, Context}
use Rattle.qz_meaning.specs.Layouts.{Layout, bare}
use Rattle.qz_meaning.specs.Behaviors.{idle}
use Rattle.qz_meaning.specs.Sequences.{start_in_turn, ends_of_all, rest_in_first, member}
use Rattle.qz_meaning.specs.Residing.{residing, Walk, walk, whole_layout}
use Rattle.qz_meaning.specs.Valuations.{resting_places}
use Rattle.qz_meaning.specs.LayoutLaws.{AreDifferent}
use Rattle.qz_first.specs.Mirror.{Control, Mirror, sequence_mirror, any_inside, all_at_once, start_all, enter_all, ended_all, resume_all, move_all, mirror_of, is_driven}
use Rattle.qz_first.specs.FirstWalk.{places_at}
use Rattle.qz_first.specs.FirstResumes.{AreWritesOf, ResumesAs, IsStill, IsControl}
use Rattle.qz_first.proofs.BitLemmas.{and-false, and_assoc, or-false, both_known, is_driven-append, places_at-in_seq}
use Rattle.qz_first.proofs.PlaceLemmas.{contains_left, contains_right, control_left, control_right, away_left, away_right, different_right}
use Rattle.qz_first.proofs.StartMirror.{Started, ends_all, writes_all, undriven_all, unentered_all, enters_none_all, rests_all, meets_all}
use Rattle.qz_first.proofs.ResumeMirror.{Resuming, writes-append, writes_alike}

-- the places of all these statements, in order
abbrev pub places_of_all : List Stmt → List ℕ
places_of_all parts = concat (map places_of parts)

pub below : (number count : ℕ) → nat_lt (suc number) (suc count) ≡ true → nat_lt number count ≡ true
below number count h = lt-ltb number count (omega (arith, ltb-true (suc number) (suc count) h))

module _ (step : Passing) where
  abbrev none : Walk
  none = idle (residing step)

  abbrev pub Resumed : Stmt → Type 0
  Resumed s = Resuming (walk step s) (whole_layout s) (mirror_of s) (places_of s)

  abbrev pub Starts : List Stmt → Type 0
  Starts parts = AllByRecursion (Started step) parts

  abbrev pub Resumes : List Stmt → Type 0
  Resumes parts = AllByRecursion Resumed parts

  abbrev pub walks : List Stmt → List Walk
  walks parts = map (walk step) parts

  abbrev pub layouts : List Stmt → List Layout
  layouts parts = map whole_layout parts

  abbrev pub mirrors : List Stmt → List Mirror
  mirrors parts = map mirror_of parts

  pub member_within : (parts : List Stmt) → Resumes parts → (number : ℕ) (r : Residual) → nat_lt number (length (layouts parts)) ≡ true
      → (member bare (layouts parts) number).fits r ≡ true → (place : ℕ) → contains (resting_places r) place ≡ true
      → contains (places_of_all parts) place ≡ true
  member_within [] h number r there fits place e = absurd (false≢true (grind arith))
  member_within (s ∷ parts) h zero r there fits place e = contains_left (places_of s) (places_of_all parts) place (h.0.within r fits place e)
  member_within (s ∷ parts) h (suc number) r there fits place e =
      contains_right (places_of s) (places_of_all parts) place (member_within parts h.1 number r (below number (length (layouts parts)) there) fits place e)

  module _ (control : Control) where
    abbrev Away : List ℕ → Type 0
    Away places = IsControl control places []

    -- a member in which control isn't carries the ends on as a start does
    ends_on : (s : Stmt) → Resumed s → Away (places_of s) → (so_far : Bool)
        → ((so_far && (mirror_of s).at_once) || (mirror_of s).ended control) ≡ (so_far && (mirror_of s).at_once)
    ends_on s h away so_far =
        ap (λ e. (so_far && (mirror_of s).at_once) || e) (h.still control away).ended ∙ or-false (so_far && (mirror_of s).at_once)

    still_inside : (parts : List Stmt) → Resumes parts → Away (places_of_all parts) → any_inside (mirrors parts) control ≡ false
    still_inside [] h away = refl
    still_inside (s ∷ parts) h away =
        ap₂ (λ a b. a || b) (h.0.still control (control_left control (places_of s) (places_of_all parts) [] away)).inside
        (still_inside parts h.1 (control_right control (places_of s) (places_of_all parts) [] away))

    still_ended : (parts : List Stmt) → Resumes parts → Away (places_of_all parts) → (so_far : Bool)
        → ended_all (mirrors parts) control so_far ≡ (so_far && all_at_once (mirrors parts))
    still_ended [] h away true = refl
    still_ended [] h away false = refl
    still_ended (s ∷ parts) h away so_far =
        ap (λ b. ended_all (mirrors parts) control b) (ends_on s h.0 (control_left control (places_of s) (places_of_all parts) [] away) so_far)
        ∙ still_ended parts h.1 (control_right control (places_of s) (places_of_all parts) [] away) (so_far && (mirror_of s).at_once)
        ∙ and_assoc so_far (mirror_of s).at_once (all_at_once (mirrors parts))

    still_driven : (parts : List Stmt) → Resumes parts → Away (places_of_all parts) → (act so_far : Bool) (output : ℕ)
        → is_driven (resume_all (mirrors parts) control act so_far) output ≡ is_driven (start_all (mirrors parts) (act && so_far)) output
    still_driven [] h away act so_far output = refl
    still_driven (s ∷ parts) h away act so_far output =
        let own = control_left control (places_of s) (places_of_all parts) [] away in
        let next = so_far && (mirror_of s).at_once in
        let after = next || (mirror_of s).ended control in
        is_driven-append ((mirror_of s).resume control act) ((mirror_of s).start (act && so_far) ++ resume_all (mirrors parts) control act after) output
        ∙ ap₂ (λ a b. a || b) ((h.0.still control own).undriven act output)
        (is_driven-append ((mirror_of s).start (act && so_far)) (resume_all (mirrors parts) control act after) output
        ∙ ap (λ b. is_driven ((mirror_of s).start (act && so_far)) output || b) (
        ap (λ b. is_driven (resume_all (mirrors parts) control act b) output) (ends_on s h.0 own so_far)
        ∙ still_driven parts h.1 (control_right control (places_of s) (places_of_all parts) [] away) act next output
        ∙ ap (λ b. is_driven (start_all (mirrors parts) b) output) (sym (and_assoc act so_far (mirror_of s).at_once))
        ))
        ∙ sym (is_driven-append ((mirror_of s).start (act && so_far)) (start_all (mirrors parts) ((act && so_far) && (mirror_of s).at_once)) output)

    still_moved : (parts : List Stmt) → Resumes parts → Away (places_of_all parts) → (so_far : Bool) (place : ℕ)
        → is_driven (move_all (mirrors parts) control so_far) place ≡ is_driven (enter_all (mirrors parts) so_far) place
    still_moved [] h away so_far place = refl
    still_moved (s ∷ parts) h away so_far place =
        let own = control_left control (places_of s) (places_of_all parts) [] away in
        let next = so_far && (mirror_of s).at_once in
        let after = next || (mirror_of s).ended control in
        is_driven-append ((mirror_of s).move control) ((mirror_of s).enter so_far ++ move_all (mirrors parts) control after) place
        ∙ ap₂ (λ a b. a || b) ((h.0.still control own).unmoved place)
        (is_driven-append ((mirror_of s).enter so_far) (move_all (mirrors parts) control after) place
        ∙ ap (λ b. is_driven ((mirror_of s).enter so_far) place || b) (
        ap (λ b. is_driven (move_all (mirrors parts) control b) place) (ends_on s h.0 own so_far)
        ∙ still_moved parts h.1 (control_right control (places_of s) (places_of_all parts) [] away) next place
        ))
        ∙ sym (is_driven-append ((mirror_of s).enter so_far) (enter_all (mirrors parts) next) place)

    pub sequence_still : (parts : List Stmt) → Starts parts → Resumes parts → Away (places_of_all parts) → IsStill (sequence_mirror (mirrors parts)) control
    sequence_still parts starts h away = record {
      inside = still_inside parts h away;
      ended = still_ended parts h away false;
      undriven = λ act output.
          still_driven parts h away act false output
          ∙ ap (λ b. is_driven (start_all (mirrors parts) b) output) (and-false act)
          ∙ undriven_all step parts starts output;
      unmoved = λ place. still_moved parts h away false place ∙ unentered_all step parts starts place;
    }

    -- what is resumed of a sequence where control rests in the member with this number
    pub record Member (parts : List Stmt) (number : ℕ) (r : Residual) : Type 0 where
      pub inside : any_inside (mirrors parts) control ≡ true
      pub ended : (ctx : Context)
          → ends_of_all ctx (drop (suc number) (walks parts)) ((member none (walks parts) number).ended ctx r) mark.Zero
          ≡ Known (truth_of (ended_all (mirrors parts) control false))
      pub writes : (ctx : Context) (g : Bool)
          → AreWritesOf
          ((member none (walks parts) number).resume ctx r (Known (truth_of g))
          ++ start_in_turn ctx (drop (suc number) (walks parts)) (both (Known (truth_of g)) ((member none (walks parts) number).ended ctx r)) mark.Zero)
          (resume_all (mirrors parts) control g false)
      pub rests : (ctx : Context) (at next place : ℕ)
          → contains (places_at (
          if knows_yes ((member none (walks parts) number).ended ctx r)
          then rest_in_first (residing step) ctx (drop (suc number) (walks parts)) next mark.Zero
          else option_map (λ q. InSeq at q) ((member none (walks parts) number).after ctx r)
          )) place
          ≡ is_driven (move_all (mirrors parts) control false) place
      pub meets : (member bare (layouts parts) number).met_on_resume r
          ++ flat_map (λ (part : Layout). part.met_on_start mark.Zero) (drop (suc number) (layouts parts))
          ≡ []
      pub moves_none : ended_all (mirrors parts) control false ≡ true → (place : ℕ) → is_driven (move_all (mirrors parts) control false) place ≡ false

    member_first : (s : Stmt) (parts : List Stmt) → Starts (s ∷ parts) → Resumes (s ∷ parts) → (r : Residual)
        → (whole_layout s).fits r ≡ true → IsControl control (places_of s) (resting_places r) → Away (places_of_all parts)
        → Member (s ∷ parts) 0 r
    member_first s parts starts h r fits own away = record {
      inside = ap (λ b. b || any_inside (mirrors parts) control) resumed.inside;
      ended = λ ctx.
          ap (λ k. ends_of_all ctx (walks parts) k mark.Zero) (resumed.ended ctx)
          ∙ ends_all step ctx mark.Zero parts starts.1 ((mirror_of s).ended control)
          ∙ ap (λ b. Known (truth_of b)) (sym (still_ended parts h.1 away ((mirror_of s).ended control)));
      writes = λ ctx g. writes-append _ _ _ _ (resumed.writes ctx g) (record {
        same = start_all (mirrors parts) (g && ((mirror_of s).ended control));
        are = ap (λ k. start_in_turn ctx (walks parts) (both (Known (truth_of g)) k) mark.Zero) (resumed.ended ctx)
            ∙ ap (λ k. start_in_turn ctx (walks parts) k mark.Zero) (both_known g ((mirror_of s).ended control))
            ∙ writes_all step ctx mark.Zero parts starts.1 (g && ((mirror_of s).ended control));
        drive = λ output. sym (
            is_driven-append ((mirror_of s).start (g && false)) (resume_all (mirrors parts) control g ((mirror_of s).ended control)) output
            ∙ ap₂ (λ a b. a || b) (ap (λ b. is_driven ((mirror_of s).start b) output) (and-false g) ∙ starts.0.undriven output)
            (still_driven parts h.1 away g ((mirror_of s).ended control) output)
            );
      });
      rests = λ ctx at next place. rests_by ctx at next place ((mirror_of s).ended control) refl;
      meets = ap₂ (λ xs ys. xs ++ ys) resumed.meets (meets_all step mark.Zero parts starts.1);
      moves_none = λ e place.
          let both_end = and_parts ((mirror_of s).ended control) (all_at_once (mirrors parts)) (sym (still_ended parts h.1 away ((mirror_of s).ended control)) ∙ e) in
          moved place
          ∙ ap₂ (λ a b. a || b) (h.0.moves_none control r fits own both_end.0 place) (enters_none_all step parts starts.1 both_end.1 ((mirror_of s).ended control) place);
    }
      where
        resumed : ResumesAs (walk step s) (whole_layout s) (mirror_of s) control r
        resumed = h.0.resumes control r fits own

        moved : (place : ℕ) → is_driven (move_all (mirrors (s ∷ parts)) control false) place
            ≡ (is_driven ((mirror_of s).move control) place || is_driven (enter_all (mirrors parts) ((mirror_of s).ended control)) place)
        moved place =
            is_driven-append ((mirror_of s).move control) ((mirror_of s).enter false ++ move_all (mirrors parts) control ((mirror_of s).ended control)) place
            ∙ ap (λ b. is_driven ((mirror_of s).move control) place || b) (
            is_driven-append ((mirror_of s).enter false) (move_all (mirrors parts) control ((mirror_of s).ended control)) place
            ∙ ap₂ (λ a b. a || b) (starts.0.unentered place) (still_moved parts h.1 away ((mirror_of s).ended control) place)
            )

        rests_by : (ctx : Context) (at next place : ℕ) (b : Bool) → ((mirror_of s).ended control) ≡ b
            → contains (places_at (
            if knows_yes ((walk step s).ended ctx r)
            then rest_in_first (residing step) ctx (walks parts) next mark.Zero
            else option_map (λ q. InSeq at q) ((walk step s).after ctx r)
            )) place
            ≡ is_driven (move_all (mirrors (s ∷ parts)) control false) place
        rests_by ctx at next place true e =
            ap (λ k. contains (places_at (
            if knows_yes k then rest_in_first (residing step) ctx (walks parts) next mark.Zero else option_map (λ q. InSeq at q) ((walk step s).after ctx r)
            )) place) (resumed.ended ctx ∙ ap (λ b. Known (truth_of b)) e)
            ∙ rests_all step ctx mark.Zero parts starts.1 next place
            ∙ sym (moved place
            ∙ ap₂ (λ a b. a || b) (h.0.moves_none control r fits own e place) (ap (λ b. is_driven (enter_all (mirrors parts) b) place) e))
        rests_by ctx at next place false e =
            ap (λ k. contains (places_at (
            if knows_yes k then rest_in_first (residing step) ctx (walks parts) next mark.Zero else option_map (λ q. InSeq at q) ((walk step s).after ctx r)
            )) place) (resumed.ended ctx ∙ ap (λ b. Known (truth_of b)) e)
            ∙ ap (λ numbers. contains numbers place) (places_at-in_seq at ((walk step s).after ctx r))
            ∙ resumed.rests ctx place
            ∙ sym (moved place
            ∙ ap (λ b. is_driven ((mirror_of s).move control) place || b)
            (ap (λ b. is_driven (enter_all (mirrors parts) b) place) e ∙ unentered_all step parts starts.1 place)
            ∙ or-false (is_driven ((mirror_of s).move control) place))

    member_later : (s : Stmt) (parts : List Stmt) → Starts (s ∷ parts) → Resumes (s ∷ parts) → (number : ℕ) (r : Residual)
        → Away (places_of s) → Member parts number r → Member (s ∷ parts) (suc number) r
    member_later s parts starts h number r away rest = record {
      inside = ap₂ (λ a b. a || b) still.inside rest.inside;
      ended = λ ctx. rest.ended ctx ∙ ap (λ b. Known (truth_of (ended_all (mirrors parts) control b))) (sym still.ended);
      writes = λ ctx g. writes_alike _ _ _ (rest.writes ctx g) (λ output. sym (
          is_driven-append ((mirror_of s).resume control g) ((mirror_of s).start (g && false) ++ resume_all (mirrors parts) control g ((mirror_of s).ended control)) output
          ∙ ap₂ (λ a b. a || b) (still.undriven g output)
          (is_driven-append ((mirror_of s).start (g && false)) (resume_all (mirrors parts) control g ((mirror_of s).ended control)) output
          ∙ ap₂ (λ a b. a || b) (ap (λ b. is_driven ((mirror_of s).start b) output) (and-false g) ∙ starts.0.undriven output)
          (ap (λ b. is_driven (resume_all (mirrors parts) control g b) output) still.ended))
          ));
      rests = λ ctx at next place. rest.rests ctx at next place ∙ sym (moved place);
      meets = rest.meets;
      moves_none = λ e place. moved place ∙ rest.moves_none (ap (λ b. ended_all (mirrors parts) control b) (sym still.ended) ∙ e) place;
    }
      where
        still : IsStill (mirror_of s) control
        still = h.0.still control away

        moved : (place : ℕ) → is_driven (move_all (mirrors (s ∷ parts)) control false) place ≡ is_driven (move_all (mirrors parts) control false) place
        moved place =
            is_driven-append ((mirror_of s).move control) ((mirror_of s).enter false ++ move_all (mirrors parts) control ((mirror_of s).ended control)) place
            ∙ ap₂ (λ a b. a || b) (still.unmoved place)
            (is_driven-append ((mirror_of s).enter false) (move_all (mirrors parts) control ((mirror_of s).ended control)) place
            ∙ ap₂ (λ a b. a || b) (starts.0.unentered place) (ap (λ b. is_driven (move_all (mirrors parts) control b) place) still.ended))

    pub member_resumes : (parts : List Stmt) → Starts parts → Resumes parts → AreDifferent (places_of_all parts) → (number : ℕ) (r : Residual)
        → nat_lt number (length (layouts parts)) ≡ true → (member bare (layouts parts) number).fits r ≡ true
        → IsControl control (places_of_all parts) (resting_places r) → Member parts number r
    member_resumes [] starts h different number r there fits at = absurd (false≢true (grind arith))
    member_resumes (s ∷ parts) starts h different zero r there fits at =
        member_first s parts starts h r fits (control_left control (places_of s) (places_of_all parts) (resting_places r) at)
        (away_right control (places_of s) (places_of_all parts) (resting_places r) different (h.0.within r fits) at)
    member_resumes (s ∷ parts) starts h different (suc number) r there fits at =
        let lower = below number (length (layouts parts)) there in
        member_later s parts starts h number r
        (away_left control (places_of s) (places_of_all parts) (resting_places r) different (member_within parts h.1 number r lower fits) at)
        (member_resumes parts starts.1 h.1 (different_right (places_of s) (places_of_all parts) different) number r lower fits
        (control_right control (places_of s) (places_of_all parts) (resting_places r) at))
