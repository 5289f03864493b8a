-- The verdicts of a system's acts at a valuation are those of the writes of the program's step.
use Rattle.std.proofs.Common.{◌≡◌, ℕ, Bool, true, false, List, [], ◌∷◌, ◌++◌, map, length, Some, refl, sym, ap, ap₂, subst, ◌∙◌}
use Rattle.std.specs.Prelude.{slice_get, if◌then◌else◌}
use Rattle.std.proofs.lemmas.List.{map-append}
use Rattle.std.proofs.lemmas.Bool.{false≢true, and_parts}
use Rattle.qz_values.specs.declared.Know.{Know}
use Rattle.qz_values.specs.declared.Know.TheVariants.{Known}
use Rattle.qz_values.specs.Values.{yes}
use Rattle.qz_values.specs.Knowledge.{opposite}
use Rattle.qz_nets.specs.Readings.{Reads, listed}
use Rattle.qz_syntax.specs.declared.modules.Whole.{Whole}
use Rattle.qz_syntax.specs.declared.places.Later.{Later}
use Rattle.qz_syntax.specs.declared.places.Mark.TheVariants as mark
use Rattle.qz_syntax.specs.declared.places.Residual.{Residual}
use Rattle.qz_syntax.specs.declared.places.Place.{Place}
use Rattle.qz_syntax.specs.declared.places.Place.TheVariants as place
use Rattle.qz_syntax.specs.Numbers.{contains, calls_of}
use Rattle.qz_syntax.specs.Typing.{no_sight}
use Rattle.qz_syntax.specs.WellFormed.{IsWellFormed}
use Rattle.qz_meaning.specs.Instances.{Instance}
use Rattle.qz_meaning.specs.Scenes.{root}
use Rattle.qz_meaning.specs.Accounts.{Write}
use Rattle.qz_meaning.specs.Behaviors.{Behavior}
use Rattle.qz_meaning.specs.Layouts.{PlaceBits, Layout}
use Rattle.qz_meaning.specs.Calls.{Answers, open_layout}
use Rattle.qz_meaning.specs.Walks.{behavior, layout}
use Rattle.qz_meaning.specs.Landings.{Deed, Wrote, Spot, landing}
use Rattle.qz_meaning.specs.Residing.{no_calls, whole_layout}
use Rattle.qz_meaning.specs.Agreement.{AccountsAgree}
use Rattle.qz_meaning.specs.Verdicts.{Verdict, Nobody, join, tally, verdict, verdict_of_one, is_to}
use Rattle.qz_meaning.specs.Programs.{Program, program_of}
use Rattle.qz_meaning.specs.Configurations.{Configuration, layout_of}
use Rattle.qz_meaning.specs.Settling.{Environment, passing, body_under, writes_at, step_writes}
use Rattle.qz_meaning.specs.Valuations.{Valuation as OfProgram, resting_calls, IsPermitted, IsPermittedPlace, is_started, rests_at as rests_there}
use Rattle.qz_meaning.proofs.JoinLemmas.{join-nobody, verdicts_join}
use Rattle.qz_meaning.proofs.TellingAll.{residuals_tell}
use Rattle.qz_interp.proofs.Distinct.{instances_distinct}
use Rattle.qz_control.specs.Leaves.{known_bit}
use Rattle.qz_control.specs.Circuits.{View, Views}
use Rattle.qz_control.specs.Follows.{RestsAt}
use Rattle.qz_control.specs.Shown.{hide, writes_in, AreFalse}
use Rattle.qz_surface.specs.Written.{read_write, read_writes}
use Rattle.qz_system.specs.declared.parts.SystemParts.{SystemParts}
use Rattle.qz_system.specs.declared.valuation.Valuation.{Valuation}
use Rattle.qz_system.specs.Valuations.{rests_at}
use Rattle.qz_system.specs.Rounds.{leaves_known}
use Rattle.qz_system.specs.Writers.{verdict_of}
use Rattle.qz_closing.specs.Encoding.{Encodes}
use Rattle.qz_closing.specs.Shaped.{HasShape}
use Rattle.qz_closing.proofs.Permitted.{bits_here, has_bits}
use Rattle.step_laws.proofs.CallFree.{walks_alone, layouts_alone}
use Rattle.qz_single.specs.Compiled.{walk_in}
use Rattle.qz_single.specs.Made.{IsSystemOf}
use Rattle.closing_laws.proofs.CallsNone.{calls_none}
use Rattle.closing_laws.proofs.Seeing.{scene_of, leaves_of, view_of, views}
use Rattle.closing_laws.proofs.ActsSame.{verdicts_same}

hide_none : (ws : List Write) → map (hide (known_bit true)) ws ≡ ws
hide_none [] = refl
hide_none (w ∷ ws) = ap (λ (l : List Write). w ∷ l) (hide_none ws)

hide_all : (ws : List Write) → AreFalse (map (hide (known_bit false)) ws)
hide_all [] = tt
hide_all (w ∷ ws) = (refl, hide_all ws)

-- writes of which none is enabled
false_tally : (i : Instance) (delayed : Bool) (ws : List Write) → AreFalse ws → (so_far : Verdict) → tally i delayed so_far ws ≡ so_far
false_tally i delayed [] h so_far = refl
false_tally i delayed (w ∷ ws) h so_far = by (λ one. false_tally i delayed ws h.1 one) (is_to i delayed w) where
  by : ((one : Verdict) → tally i delayed one ws ≡ one) → (t : Bool) → tally i delayed (if t then join so_far (verdict_of_one w.guard w.value) else so_far) ws ≡ so_far
  by rest true = rest _ ∙ ap (λ g. join so_far (verdict_of_one g w.value)) h.0 ∙ join-nobody so_far
  by rest false = rest so_far

pub false_nobody : (i : Instance) (delayed : Bool) (ws : List Write) → AreFalse ws → verdict i delayed ws ≡ Nobody
false_nobody i delayed ws h = false_tally i delayed ws h Nobody

pub written_back : (ws : List Write) → writes_in (map Wrote ws) ≡ ws
written_back [] = refl
written_back (w ∷ ws) = ap (λ (l : List Write). w ∷ l) (written_back ws)

module _ (w : Whole) (parts : SystemParts) (sys : IsSystemOf w parts) (well : IsWellFormed [] w.module) (texts : length w.names.places ≡ length w.module.labels)
    (at : OfProgram) (permitted : IsPermitted (program_of w.module) at) (v : Valuation) (e : Encodes (program_of w.module) at v) where
  abbrev p : Program
  p = program_of w.module

  abbrev c : Configuration
  c = at.configuration

  pub has_shape : HasShape w parts
  has_shape = record { named = sys.is_made.named; shape = sys.is_made.shape }

  abbrev pub bits_of_view : PlaceBits
  bits_of_view = record { place = rests_at v; call = λ n. v.started }

  no_calls_here : calls_of w.module.body ≡ []
  no_calls_here = calls_none w.module w.module.body no_sight well.sound

  call_bits : (those : List ℕ) (n : ℕ) → contains (calls_of w.module.body) n ≡ true → v.started ≡ contains those n
  call_bits those n own = absurd (false≢true (ap (λ (l : List ℕ). contains l n) (sym no_calls_here) ∙ own))

  -- where control rests nowhere, the bits say so
  pub away_here : ((n : ℕ) → rests_there c.place n ≡ false) → (layout open_layout w.module.body).away bits_of_view ≡ true
  away_here nowhere =
      ap (λ (l : Layout). l.away bits_of_view) (layouts_alone w.module well)
      ∙ (has_bits w parts well texts has_shape at permitted v e).away bits_of_view record {
        at_places = λ n own. bits_here w parts well texts has_shape at permitted v e n own ∙ nowhere n;
        at_calls = λ n own. call_bits [] n own;
      }

  -- and where it rests, they say where
  pub rests_here : (r : Residual) → c.place ≡ place.Rest r → (layout_of p).fits r ≡ true → RestsAt (layout open_layout w.module.body) bits_of_view r
  rests_here r there fits = subst (λ (l : Layout). RestsAt l bits_of_view r) (sym (layouts_alone w.module well)) record {
    fits = fits;
    at = (has_bits w parts well texts has_shape at permitted v e).at bits_of_view r fits record {
      at_places = λ n own. bits_here w parts well texts has_shape at permitted v e n own ∙ ap (λ (it : Place). rests_there it n) there;
      at_calls = λ n own. call_bits (resting_calls r) n own;
    };
  }

  module _ (before : List Know) (laters : Instance → Later) (know : ℕ → Know)
      (reads : Reads (record { leaf = listed (leaves_known parts v before); know = know }) parts.table) where
    -- what the nets see, as an environment of the program
    abbrev pub seen : Environment
    seen = record { now = scene_of w parts v before; later = laters }

    abbrev V : View
    V = view_of w parts v before know

    abbrev answers : Answers
    answers = (leaves_of w parts v before).answers

    sees : Views V sys.compiled.circuit
    sees = views w parts v before sys.compiled sys.is_made know reads

    told : AccountsAgree (passing p seen) (body_under p seen) (behavior seen.now landing (no_calls landing) w.module.body) (whole_layout w.module.body)
    told = residuals_tell (passing p seen) w.module.body

    start_same : (g : Know) → writes_in ((walk_in w.module V answers).start root g mark.Zero) ≡ (body_under p seen).start root g mark.Zero
    start_same g =
        ap (λ (b : Behavior Deed (List Spot)). writes_in (b.start root g mark.Zero)) (walks_alone w.module well seen.now answers)
        ∙ ap writes_in (sym (told.start root g mark.Zero)) ∙ written_back ((body_under p seen).start root g mark.Zero)

    resume_same : (r : Residual) (g : Know) → writes_in ((walk_in w.module V answers).resume root r g) ≡ (body_under p seen).resume root r g
    resume_same r g =
        ap (λ (b : Behavior Deed (List Spot)). writes_in (b.resume root r g)) (walks_alone w.module well seen.now answers)
        ∙ ap writes_in (sym (told.resume root r g)) ∙ written_back ((body_under p seen).resume root r g)

    abbrev starting : List Write
    starting = read_writes V sys.compiled.starting.items

    abbrev resuming : List Write
    resuming = read_writes V sys.compiled.resuming.items

    abbrev shown_start : Bool → List Write
    shown_start t = map (hide (opposite (known_bit t))) (writes_in ((walk_in w.module V answers).start root (opposite (known_bit t)) mark.Zero))

    starting_is : starting ≡ shown_start v.started
    starting_is = sys.is_compiled.writes.starts V answers sees

    starts_first : v.started ≡ false → starting ≡ (body_under p seen).start root (Known yes) mark.Zero
    starts_first is = starting_is ∙ ap shown_start is ∙ hide_none _ ∙ start_same (Known yes)

    starts_never : v.started ≡ true → AreFalse starting
    starts_never is = subst AreFalse (sym (starting_is ∙ ap shown_start is)) (hide_all _)

    resumes_never : ((n : ℕ) → rests_there c.place n ≡ false) → AreFalse resuming
    resumes_never nowhere = sys.is_compiled.writes.away V sees (away_here nowhere)

    module _ (i : Instance) (delayed : Bool) where
      resumed : (r : Residual) → c.place ≡ place.Rest r → (layout_of p).fits r ≡ true → v.started ≡ true
          → verdict i delayed resuming ≡ verdict i delayed ((body_under p seen).resume root r (Known yes))
      resumed r there fits is =
          sys.is_compiled.writes.resumes V answers r sees (rests_here r there fits) i delayed
          ∙ ap (λ t. verdict i delayed (writes_in ((walk_in w.module V answers).resume root r (known_bit t)))) is
          ∙ ap (verdict i delayed) (resume_same r (Known yes))

      by_place : (where_at : Place) → c.place ≡ where_at → IsPermittedPlace p c where_at
          → join (verdict i delayed starting) (verdict i delayed resuming) ≡ verdict i delayed (writes_at (body_under p seen) where_at)
      by_place place.NotStarted there fine =
          ap₂ join (ap (verdict i delayed) (starts_first (e.place.started ∙ ap is_started there)))
          (false_nobody i delayed resuming (resumes_never (λ n. ap (λ (it : Place). rests_there it n) there)))
          ∙ join-nobody _
      by_place (place.Rest r) there fine =
          let is : v.started ≡ true = e.place.started ∙ ap is_started there in
          ap₂ join (false_nobody i delayed starting (starts_never is)) (resumed r there (and_parts _ _ fine).0 is)
      by_place place.Ended there fine =
          let is : v.started ≡ true = e.place.started ∙ ap is_started there in
          ap₂ join (false_nobody i delayed starting (starts_never is))
          (false_nobody i delayed resuming (resumes_never (λ n. ap (λ (it : Place). rests_there it n) there)))

    -- the verdict of the acts on an instance with this number
    pub acts_alike : (k : ℕ) (i : Instance) (delayed : Bool) → slice_get p.instances k ≡ Some i
        → verdict_of know k delayed parts.acts ≡ verdict i delayed (step_writes p c seen)
    acts_alike k i delayed found =
        ap (verdict_of know k delayed) sys.is_made.acts
        ∙ verdicts_same w.module (instances_distinct w.module well.numbered) V k i found delayed (sys.compiled.starting.items ++ sys.compiled.resuming.items)
        ∙ ap (verdict i delayed) (map-append (read_write V) sys.compiled.starting.items sys.compiled.resuming.items)
        ∙ verdicts_join i delayed starting resuming
        ∙ by_place i delayed c.place refl permitted.place
