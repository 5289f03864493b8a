-- Every statement of the first language, resumed, and its bits.
use Rattle.std.proofs.Common.{◌≡◌, ℕ, zero, suc, ◌+◌, Bool, true, false, nat_lt, IsTrue, List, [], ◌∷◌, ◌++◌, map, drop, length, slice_get, Option, Some, None, refl, sym, ap, subst, ◌∙◌, arith, add-one, append-nil, if◌then◌else◌}
use Rattle.std.specs.Option.{option_map}
use Rattle.std.specs.List.{AllByRecursion, concat}
use Rattle.std.proofs.lemmas.Bool.{and_parts, false≢true}
use Rattle.qz_values.specs.Knowledge.{knows_yes}
use Rattle.qz_values.specs.declared.Ty.TheVariants as ty
use Rattle.qz_values.specs.declared.Know.TheVariants.{Unknown}
use Rattle.qz_syntax.specs.declared.declarations.Class.TheVariants.{Event}
use Rattle.qz_syntax.specs.declared.expressions.Var.TheVariants as var
use Rattle.qz_syntax.specs.declared.expressions.Expr.{Expr}
use Rattle.qz_syntax.specs.declared.places.Later.TheVariants as later
use Rattle.qz_syntax.specs.declared.statements.Stmt.TheOpen.{Stmt-F}
use Rattle.qz_syntax.specs.declared.places.Mark.TheVariants as mark
use Rattle.qz_syntax.specs.declared.places.Residual.{Residual, out-Residual}
use Rattle.qz_syntax.specs.declared.places.Residual.TheOpen.{Residual-F}
use Rattle.qz_syntax.specs.declared.places.Residual.TheVariants.{InSeq}
use Rattle.qz_syntax.specs.declared.statements.Stmt.{Stmt}
use Rattle.qz_syntax.specs.declared.statements.Stmt.TheVariants as stmt
use Rattle.qz_syntax.specs.Numbers.{contains, places_of, own_places, parts_of}
use Rattle.qz_syntax.proofs.Equations.{fold-Nothing, fold-Assign, fold-Pause, fold-Seq, fold-Loop}
use Rattle.qz_meaning.specs.Scenes.{Passing, Context}
use Rattle.qz_meaning.specs.Accounts.{Write}
use Rattle.qz_meaning.specs.Layouts.{Layout, bare}
use Rattle.qz_meaning.specs.Behaviors.{idle}
use Rattle.qz_meaning.specs.Simple.{assignment}
use Rattle.qz_meaning.specs.Sequences.{sequence, sequence_layout, rest_in_first, member, fits_in_one}
use Rattle.qz_meaning.specs.Calls.{Calls}
use Rattle.qz_meaning.specs.Residing.{residing, no_calls, Walk, walk, whole_layout}
use Rattle.qz_meaning.specs.Valuations.{node_places, resting_places}
use Rattle.qz_meaning.specs.LayoutLaws.{AreDifferent}
use Rattle.qz_meaning.proofs.Walking.{behavior-Nothing, behavior-Assign, behavior-Pause, behavior-Seq, behavior-Loop, layout-Nothing, layout-Assign, layout-Pause, layout-Seq, layout-Loop}
use Rattle.qz_meaning.proofs.Folding.{fold-InSeq}
use Rattle.qz_meaning.proofs.Resting.{out-InSeq}
use Rattle.qz_first.specs.Mirror.{Control, Mirror, sequence_mirror, driven, node_mirror, bit_of, mirror_of}
use Rattle.qz_first.specs.FirstLanguage.{is_first}
use Rattle.qz_first.specs.FirstWalk.{CanRest}
use Rattle.qz_first.specs.FirstResumes.{ResumesAs, IsStill, IsControl}
use Rattle.qz_first.proofs.FirstInduction.{first_induction}
use Rattle.qz_first.proofs.BitLemmas.{drop_head}
use Rattle.qz_first.proofs.PlaceLemmas.{is-InSeq, different_left, different_right}
use Rattle.qz_first.proofs.StartMirror.{Started, fits_all, carried, starting-idle, starting-assignment, starting-pause, starting-loop, starting-sequence}
use Rattle.qz_first.proofs.ResumeMirror.{Resuming, resuming_carried, resuming-idle, resuming-pause, resuming-loop}
use Rattle.qz_first.proofs.ResumeSequences.{places_of_all, Resumed, Starts, Resumes, walks, layouts, Member, member_within, member_resumes, sequence_still, below}

-- a residual that fits a sequence is in one of its members
in_seq_of : (parts : List Layout) (r : Residual) → fits_in_one parts (out-Residual r) ≡ true
    → (number : ℕ) × (inside : Residual) × (r ≡ InSeq number inside) × (nat_lt number (length parts) ≡ true) × ((member bare parts number).fits inside ≡ true)
in_seq_of parts r h = by_form (out-Residual r) refl h
  where
    by_form : (node : Residual-F Residual) → out-Residual r ≡ node → fits_in_one parts node ≡ true
        → (number : ℕ) × (inside : Residual) × (r ≡ InSeq number inside) × (nat_lt number (length parts) ≡ true) × ((member bare parts number).fits inside ≡ true)
    by_form (Residual-F.InSeq number inside) is e = let both = and_parts _ _ e in (number, inside, is-InSeq r number inside is, both.0, both.1)
    by_form (Residual-F.At other) is e = absurd (false≢true e)
    by_form (Residual-F.Hold place) is e = absurd (false≢true e)
    by_form (Residual-F.InPar branches) is e = absurd (false≢true e)
    by_form (Residual-F.InIf side inside) is e = absurd (false≢true e)
    by_form (Residual-F.InBody inside) is e = absurd (false≢true e)
    by_form (Residual-F.InScope stores inside) is e = absurd (false≢true e)
    by_form (Residual-F.InCall call) is e = absurd (false≢true e)

module _ (step : Passing) where
  abbrev none : Walk
  none = idle (residing step)

  -- where control rests after a member is resumed, it can rest in the whole sequence
  member_fits : (ctx : Context) (all : List Layout) (r : Residual) (parts : List Stmt) → Starts step parts → Resumes step parts
      → (offset number at : ℕ) → offset + number ≡ at → drop offset all ≡ layouts step parts
      → nat_lt number (length (layouts step parts)) ≡ true → (member bare (layouts step parts) number).fits r ≡ true
      → CanRest (sequence_layout all) (
      if knows_yes ((member none (walks step parts) number).ended ctx r)
      then rest_in_first (residing step) ctx (drop (suc number) (walks step parts)) (suc at) mark.Zero
      else option_map (λ q. InSeq at q) ((member none (walks step parts) number).after ctx r)
      )
  member_fits ctx all r [] starts h offset number at sum is there fits = absurd (false≢true (grind arith))
  member_fits ctx all r (s ∷ parts) starts h offset zero at sum is there fits =
      subst (λ n. CanRest (sequence_layout all) (
      if knows_yes ((walk step s).ended ctx r)
      then rest_in_first (residing step) ctx (walks step parts) (suc n) mark.Zero
      else option_map (λ q. InSeq n q) ((walk step s).after ctx r)
      )) at_offset (by_end (knows_yes ((walk step s).ended ctx r)))
    where
      at_offset : offset ≡ at
      at_offset = omega arith

      head : (nat_lt offset (length all) ≡ true) × (slice_get all offset ≡ Some (whole_layout s)) × (drop (suc offset) all ≡ map whole_layout parts)
      head = drop_head offset all (whole_layout s) (map whole_layout parts) is

      in_seq : (inside : Option Residual) → CanRest (whole_layout s) inside → CanRest (sequence_layout all) (option_map (λ q. InSeq offset q) inside)
      in_seq None k = tt
      in_seq (Some q) k = rw (out-InSeq offset q) (rw (head.0, head.1) k)

      by_end : (b : Bool) → CanRest (sequence_layout all) (
          if b then rest_in_first (residing step) ctx (walks step parts) (suc offset) mark.Zero else option_map (λ q. InSeq offset q) ((walk step s).after ctx r)
          )
      by_end true = fits_all step ctx mark.Zero all parts starts.1 (suc offset) head.2
      by_end false = in_seq ((walk step s).after ctx r) (h.0.fits ctx r fits)
  member_fits ctx all r (s ∷ parts) starts h offset (suc number) at sum is there fits =
      member_fits ctx all r parts starts.1 h.1 (suc offset) number at (omega arith)
      (drop_head offset all (whole_layout s) (map whole_layout parts) is).2
      (below number (length (layouts step parts)) there) fits

  sequence_resumes : (parts : List Stmt) (control : Control) (number : ℕ) (inside : Residual) → Member step control parts number inside
      → ResumesAs (sequence (residing step) (map (walk step) parts)) (sequence_layout (map whole_layout parts)) (sequence_mirror (map mirror_of parts)) control (InSeq number inside)
  sequence_resumes parts control number inside h = record {
    inside = h.inside;
    ended = λ ctx. rw (out-InSeq number inside) (rw (add-one number) (h.ended ctx));
    writes = λ ctx g. rw (out-InSeq number inside) (rw (add-one number) (h.writes ctx g));
    rests = λ ctx place. rw (out-InSeq number inside) (rw (add-one number) (h.rests ctx number (suc number) place));
    meets = rw (out-InSeq number inside) (rw (add-one number) h.meets);
  }

  resuming-sequence : (parts : List Stmt) → Starts step parts → Resumes step parts → AreDifferent (places_of_all parts)
      → Resuming (sequence (residing step) (map (walk step) parts)) (sequence_layout (map whole_layout parts)) (sequence_mirror (map mirror_of parts)) (places_of_all parts)
  resuming-sequence parts starts h different = record {
    still = λ control away. sequence_still step control parts starts h away;
    resumes = λ control r fits at.
        let one = in_seq_of (map whole_layout parts) r fits in
        subst (λ q. ResumesAs (sequence (residing step) (map (walk step) parts)) (sequence_layout (map whole_layout parts)) (sequence_mirror (map mirror_of parts)) control q) (sym one.2)
        (sequence_resumes parts control one.0 one.1 (at_member control r fits at));
    moves_none = λ control r fits at. (at_member control r fits at).moves_none;
    fits = λ ctx r fits.
        let one = in_seq_of (map whole_layout parts) r fits in
        subst (λ q. CanRest (sequence_layout (map whole_layout parts)) ((sequence (residing step) (map (walk step) parts)).after ctx q)) (sym one.2)
        (rw (out-InSeq one.0 one.1) (rw (add-one one.0)
        (member_fits ctx (map whole_layout parts) one.1 parts starts h 0 one.0 one.0 (omega arith) refl one.3 one.4)));
    within = λ r fits place e.
        let one = in_seq_of (map whole_layout parts) r fits in
        member_within step parts h one.0 one.1 one.3 one.4 place (ap (λ numbers. contains numbers place) (sym (places_are r one.0 one.1 one.2)) ∙ e);
  }
    where
      places_are : (r : Residual) (number : ℕ) (inside : Residual) → r ≡ InSeq number inside → resting_places r ≡ resting_places inside
      places_are r number inside is = ap resting_places is ∙ fold-InSeq (List ℕ) node_places number inside

      at_member : (control : Control) (r : Residual) (fits : fits_in_one (map whole_layout parts) (out-Residual r) ≡ true)
          → IsControl control (places_of_all parts) (resting_places r)
          → Member step control parts (in_seq_of (map whole_layout parts) r fits).0 (in_seq_of (map whole_layout parts) r fits).1
      at_member control r fits at =
          let one = in_seq_of (map whole_layout parts) r fits in
          member_resumes step control parts starts h different one.0 one.1 one.3 one.4
          (subst (λ numbers. IsControl control (places_of_all parts) numbers) (places_are r one.0 one.1 one.2) at)

  -- started it is as its bits say, and where its places are all different it is so resumed too
  abbrev Walked : Stmt → Type 0
  Walked s = Started step s × (AreDifferent (places_of s) → Resumed step s)

  all_start : (parts : List Stmt) → AllByRecursion Walked parts → Starts step parts
  all_start [] h = tt
  all_start (s ∷ parts) h = (h.0.0, all_start parts h.1)

  all_resume : (parts : List Stmt) → AllByRecursion Walked parts → AreDifferent (places_of_all parts) → Resumes step parts
  all_resume [] h different = tt
  all_resume (s ∷ parts) h different =
      (h.0.1 (different_left (places_of s) (places_of_all parts) different), all_resume parts h.1 (different_right (places_of s) (places_of_all parts) different))

  abbrev calls : Calls Write (Option Residual)
  calls = no_calls (residing step)

  abbrev no_layout : ℕ → Layout
  no_layout number = bare

  -- one node of the list of places
  abbrev node_places_of : Stmt-F (List ℕ) → List ℕ
  node_places_of node = own_places node ++ concat (parts_of node)

  places-Loop : (number : ℕ) (body : Stmt) (condition : Expr) → places_of (stmt.Loop number body condition) ≡ places_of body
  places-Loop number body condition = fold-Loop (List ℕ) node_places_of number body condition ∙ append-nil (places_of body)

  walked-nothing : Walked stmt.Nothing
  walked-nothing = (
    carried (behavior-Nothing step.now (residing step) calls) (layout-Nothing no_layout) (fold-Nothing Mirror node_mirror) (starting-idle step),
    λ different. resuming_carried (behavior-Nothing step.now (residing step) calls) (layout-Nothing no_layout) (fold-Nothing Mirror node_mirror)
        (fold-Nothing (List ℕ) node_places_of) (resuming-idle (λ g. []) (idle (residing step))),
  )

  walked-emit : (n : ℕ) (value : Expr) → bit_of value ≡ true → Walked (stmt.Assign (var.Formal n) value)
  walked-emit n value known = (
    carried (behavior-Assign step.now (residing step) calls (var.Formal n) value) (layout-Assign no_layout (var.Formal n) value)
        (fold-Assign Mirror node_mirror (var.Formal n) value) (starting-assignment step n value known),
    λ different. resuming_carried (behavior-Assign step.now (residing step) calls (var.Formal n) value) (layout-Assign no_layout (var.Formal n) value)
        (fold-Assign Mirror node_mirror (var.Formal n) value) (fold-Assign (List ℕ) node_places_of (var.Formal n) value)
        (resuming-idle (λ g. driven (var.Formal n) value g) (assignment step.now (residing step) false (var.Formal n) value)),
  )

  walked-pause : (place : ℕ) → Walked (stmt.Pause place)
  walked-pause place = (
    carried (behavior-Pause step.now (residing step) calls place) (layout-Pause no_layout place) (fold-Pause Mirror node_mirror place) (starting-pause step place),
    λ different. resuming_carried (behavior-Pause step.now (residing step) calls place) (layout-Pause no_layout place) (fold-Pause Mirror node_mirror place)
        (fold-Pause (List ℕ) node_places_of place) (resuming-pause step place),
  )

  walked-sequence : (parts : List Stmt) → AllByRecursion Walked parts → Walked (stmt.Seq parts)
  walked-sequence parts h = (
    carried (behavior-Seq step.now (residing step) calls parts) (layout-Seq no_layout parts) (fold-Seq Mirror node_mirror parts) (starting-sequence step parts (all_start parts h)),
    λ different.
        let apart = subst AreDifferent (fold-Seq (List ℕ) node_places_of parts) different in
        resuming_carried (behavior-Seq step.now (residing step) calls parts) (layout-Seq no_layout parts) (fold-Seq Mirror node_mirror parts) (fold-Seq (List ℕ) node_places_of parts)
        (resuming-sequence parts (all_start parts h) (all_resume parts h apart) apart),
  )

  walked-loop : (number : ℕ) (body : Stmt) (condition : Expr) → bit_of condition ≡ true → Walked body → Walked (stmt.Loop number body condition)
  walked-loop number body condition known h = (
    carried (behavior-Loop step.now (residing step) calls number body condition) (layout-Loop no_layout number body condition) (fold-Loop Mirror node_mirror number body condition)
        (starting-loop step number condition (walk step body) (whole_layout body) (mirror_of body) h.0),
    λ different.
        resuming_carried (behavior-Loop step.now (residing step) calls number body condition) (layout-Loop no_layout number body condition)
        (fold-Loop Mirror node_mirror number body condition) (places-Loop number body condition)
        (resuming-loop step number condition known (walk step body) (whole_layout body) (mirror_of body) (places_of body) h.0
        (h.1 (subst AreDifferent (places-Loop number body condition) different))),
  )

  pub walked : (outputs : ℕ) (s : Stmt) → is_first outputs s ≡ true → Walked s
  walked outputs = first_induction outputs Walked walked-nothing (λ n value inside known. walked-emit n value known) walked-pause walked-sequence walked-loop

pub resumes_as_its_bits : (outputs : ℕ) (s : Stmt) → IsTrue (is_first outputs s) → AreDifferent (places_of s)
    → (step : Passing) (control : Control) (r : Residual) → IsTrue ((whole_layout s).fits r)
    → IsControl control (places_of s) (resting_places r) → ResumesAs (walk step s) (whole_layout s) (mirror_of s) control r
resumes_as_its_bits outputs s first different step = ((walked step outputs s first).1 different).resumes

-- a step of which nothing is known
pub no_step : Passing
no_step = record {
  class_of = λ x. Event;
  type_of = λ x. ty.Bool;
  now = λ i. Unknown;
  later = λ i. later.Absent;
}

pub is_still_where_control_is_away : (outputs : ℕ) (s : Stmt) → IsTrue (is_first outputs s) → AreDifferent (places_of s)
    → (control : Control) → IsControl control (places_of s) [] → IsStill (mirror_of s) control
is_still_where_control_is_away outputs s first different = ((walked no_step outputs s first).1 different).still
