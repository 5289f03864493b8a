-- Statements one after the other and all at once that are resumed, and their nets, for all knowledge.
use Rattle.std.proofs.Common.{◌≡◌, ℕ, zero, suc, Bool, true, false, ◌||◌, List, [], ◌∷◌, ◌++◌, map, drop, Option, Some, None, is_some, refl, sym, ap, ap₂, ◌∙◌, add-one}
use Rattle.std.specs.List.{AllByRecursion, list_any, flat_map}
use Rattle.std.proofs.lemmas.Bool.{false≢true, and_parts}
use Rattle.qz_values.specs.declared.Know.{Know}
use Rattle.qz_values.specs.declared.Know.TheVariants.{Known}
use Rattle.qz_values.specs.Values.{yes}
use Rattle.qz_values.specs.Knowledge.{both, either, choose_of}
use Rattle.qz_syntax.specs.declared.places.Mark.TheVariants as mark
use Rattle.qz_syntax.specs.declared.places.Residual.{Residual}
use Rattle.qz_meaning.specs.Residuals.{inner, member_of, branches_of}
use Rattle.qz_meaning.specs.Scenes.{Context}
use Rattle.qz_meaning.specs.Layouts.{PlaceBits, Layout, bare}
use Rattle.qz_meaning.specs.Behaviors.{idle}
use Rattle.qz_meaning.specs.Sequences.{sequence, sequence_layout, ends_of_all, start_in_turn, member, all_away, at_one}
use Rattle.qz_meaning.specs.Parallels.{parallel, parallel_layout, resting, ended_of_all, at_each, fits_each}
use Rattle.qz_meaning.specs.Landings.{landing}
use Rattle.qz_control.specs.Leaves.{known_bit}
use Rattle.qz_control.specs.Guarded.{come_to, when, where_inside}
use Rattle.qz_control.specs.Mirrors.{Walk, Mirror, any_inside, walks}
use Rattle.qz_control.specs.MemberMirrors.{ended_all, run_all, sequence_mirror, ended_each, run_each, parallel_mirror}
use Rattle.qz_control.specs.Follows.{RestsAt, Resuming}
use Rattle.qz_control.proofs.Bits.{either_known, or_false, when_none, when_append, joined}
use Rattle.qz_control.proofs.Insides.{fits_one, fits_some}

-- members as pairs of their nets and their layouts
abbrev pub Ones : Type 0
Ones = List (Mirror × Layout)

abbrev pub mirrors : Ones → List Mirror
mirrors ones = map (λ (one : Mirror × Layout). one.0) ones

abbrev pub layouts : Ones → List Layout
layouts ones = map (λ (one : Mirror × Layout). one.1) ones

abbrev pub Resumed : Mirror × Layout → Type 0
Resumed one = Resuming one.0 one.1

abbrev pub the_member : Ones → ℕ → Walk
the_member ones n = member (idle landing) (walks (mirrors ones)) n

abbrev pub the_layout : Ones → ℕ → Layout
the_layout ones n = member bare (layouts ones) n

module _ (b : PlaceBits) where
  pub inside_away : (ones : Ones) → AllByRecursion Resumed ones → all_away b (layouts ones) ≡ true → (l : Bool)
      → any_inside (mirrors ones) b (known_bit l) ≡ known_bit l
  inside_away [] h away l = refl
  inside_away (one ∷ ones) h away true =
      let parts = and_parts _ _ away in
      ap (λ k. any_inside (mirrors ones) b (either (known_bit true) k)) (h.0.away_inside b parts.0) ∙ inside_away ones h.1 parts.1 true
  inside_away (one ∷ ones) h away false =
      let parts = and_parts _ _ away in
      ap (λ k. any_inside (mirrors ones) b (either (known_bit false) k)) (h.0.away_inside b parts.0) ∙ inside_away ones h.1 parts.1 false

  -- after the member where control rests, all are started in turn
  pub ended_later : (ctx : Context) (ones : Ones) → AllByRecursion Resumed ones → all_away b (layouts ones) ≡ true → (k : Know)
      → ended_all ctx (mirrors ones) b (known_bit true) k ≡ ends_of_all ctx (walks (mirrors ones)) k mark.Zero
  ended_later ctx [] h away k = refl
  ended_later ctx (one ∷ ones) h away k =
      let parts = and_parts _ _ away in
      ap (λ i. ended_all ctx (mirrors ones) b (either (known_bit true) i)
      (choose_of i (one.0.ended ctx b) (where_inside (known_bit true) (both k (one.0.walk.ends ctx mark.Zero))))) (h.0.away_inside b parts.0)
      ∙ ended_later ctx ones h.1 parts.1 (both k (one.0.walk.ends ctx mark.Zero))

  -- where control is in none, they are started in turn where that is live
  pub run_away : (ctx : Context) (act : Know) (live : Bool) (ones : Ones) → AllByRecursion Resumed ones → all_away b (layouts ones) ≡ true → (g : Know)
      → come_to (run_all ctx (mirrors ones) b act (known_bit live) g) ≡ when live (start_in_turn ctx (walks (mirrors ones)) g mark.Zero)
  run_away ctx act live [] h away g = sym (when_none live)
  run_away ctx act live (one ∷ ones) h away g =
      let parts = and_parts _ _ away in
      joined (one.0.run ctx b act (known_bit live) g) _ _ _ (h.0.away_run b ctx act g live parts.0)
      (ap (λ i. come_to (run_all ctx (mirrors ones) b act (either (known_bit live) i)
      (choose_of i (both act (one.0.ended ctx b)) (both g (one.0.walk.ends ctx mark.Zero))))) (h.0.away_inside b parts.0)
      ∙ ap (λ k. come_to (run_all ctx (mirrors ones) b act k (both g (one.0.walk.ends ctx mark.Zero)))) (either_known live false ∙ ap known_bit (or_false live))
      ∙ run_away ctx act live ones h.1 parts.1 (both g (one.0.walk.ends ctx mark.Zero)))
      ∙ when_append live (one.0.walk.start ctx g mark.Zero) _

  -- where control is in none, nothing ends
  pub ended_none : (ctx : Context) (ones : Ones) → AllByRecursion Resumed ones → all_away b (layouts ones) ≡ true
      → ended_all ctx (mirrors ones) b (known_bit false) (known_bit false) ≡ known_bit false
  ended_none ctx [] h away = refl
  ended_none ctx (one ∷ ones) h away =
      let parts = and_parts _ _ away in
      ap (λ i. ended_all ctx (mirrors ones) b (either (known_bit false) i)
      (choose_of i (one.0.ended ctx b) (where_inside (known_bit false) (both (known_bit false) (one.0.walk.ends ctx mark.Zero))))) (h.0.away_inside b parts.0)
      ∙ ended_none ctx ones h.1 parts.1

  pub inside_one : (ones : Ones) → AllByRecursion Resumed ones → (n : ℕ) (r : Residual) → (the_layout ones n).fits r ≡ true → at_one b (layouts ones) n r ≡ true
      → any_inside (mirrors ones) b (known_bit false) ≡ known_bit true
  inside_one [] h n r fits at = absurd (false≢true at)
  inside_one (one ∷ ones) h zero r fits at =
      let parts = and_parts _ _ at in
      ap (λ k. any_inside (mirrors ones) b (either (known_bit false) k)) (h.0.at_inside b r (record { fits = fits; at = parts.0 })) ∙ inside_away ones h.1 parts.1 true
  inside_one (one ∷ ones) h (suc n) r fits at =
      let parts = and_parts _ _ at in
      ap (λ k. any_inside (mirrors ones) b (either (known_bit false) k)) (h.0.away_inside b parts.0) ∙ inside_one ones h.1 n r fits parts.1

  pub ended_one : (ctx : Context) (ones : Ones) → AllByRecursion Resumed ones → (n : ℕ) (r : Residual) → (the_layout ones n).fits r ≡ true → at_one b (layouts ones) n r ≡ true → (k : Know)
      → ended_all ctx (mirrors ones) b (known_bit false) k
      ≡ ends_of_all ctx (drop (suc n) (walks (mirrors ones))) ((the_member ones n).ended ctx r) mark.Zero
  ended_one ctx [] h n r fits at k = absurd (false≢true at)
  ended_one ctx (one ∷ ones) h zero r fits at k =
      let parts = and_parts _ _ at in
      let here : RestsAt one.1 b r = record { fits = fits; at = parts.0 } in
      ap₂ (λ i e. ended_all ctx (mirrors ones) b (either (known_bit false) i)
      (choose_of i e (where_inside (known_bit false) (both k (one.0.walk.ends ctx mark.Zero))))) (h.0.at_inside b r here) (h.0.at_ended b r ctx here)
      ∙ ended_later ctx ones h.1 parts.1 (one.0.walk.ended ctx r)
  ended_one ctx (one ∷ ones) h (suc n) r fits at k =
      let parts = and_parts _ _ at in
      ap (λ i. ended_all ctx (mirrors ones) b (either (known_bit false) i)
      (choose_of i (one.0.ended ctx b) (where_inside (known_bit false) (both k (one.0.walk.ends ctx mark.Zero))))) (h.0.away_inside b parts.0)
      ∙ ended_one ctx ones h.1 n r fits parts.1 (known_bit false)

  pub run_one : (ctx : Context) (act : Know) (ones : Ones) → AllByRecursion Resumed ones → (n : ℕ) (r : Residual) → (the_layout ones n).fits r ≡ true → at_one b (layouts ones) n r ≡ true → (g : Know)
      → come_to (run_all ctx (mirrors ones) b act (known_bit false) g)
      ≡ (the_member ones n).resume ctx r act
      ++ start_in_turn ctx (drop (suc n) (walks (mirrors ones))) (both act ((the_member ones n).ended ctx r)) mark.Zero
  run_one ctx act [] h n r fits at g = absurd (false≢true at)
  run_one ctx act (one ∷ ones) h zero r fits at g =
      let parts = and_parts _ _ at in
      let here : RestsAt one.1 b r = record { fits = fits; at = parts.0 } in
      joined (one.0.run ctx b act (known_bit false) g) _ _ _ (h.0.at_run b r ctx act g here)
      (ap₂ (λ i e. come_to (run_all ctx (mirrors ones) b act (either (known_bit false) i)
      (choose_of i (both act e) (both g (one.0.walk.ends ctx mark.Zero))))) (h.0.at_inside b r here) (h.0.at_ended b r ctx here)
      ∙ run_away ctx act true ones h.1 parts.1 (both act (one.0.walk.ended ctx r)))
  run_one ctx act (one ∷ ones) h (suc n) r fits at g =
      let parts = and_parts _ _ at in
      joined (one.0.run ctx b act (known_bit false) g) _ [] _ (h.0.away_run b ctx act g false parts.0)
      (ap (λ i. come_to (run_all ctx (mirrors ones) b act (either (known_bit false) i)
      (choose_of i (both act (one.0.ended ctx b)) (both g (one.0.walk.ends ctx mark.Zero))))) (h.0.away_inside b parts.0)
      ∙ run_one ctx act ones h.1 n r fits parts.1 (both g (one.0.walk.ends ctx mark.Zero)))

abbrev pub sequence_of : Ones → Mirror
sequence_of ones = sequence_mirror (mirrors ones) (sequence landing (walks (mirrors ones)))

pub resuming_sequence : (ones : Ones) → AllByRecursion Resumed ones → Resuming (sequence_of ones) (sequence_layout (layouts ones))
resuming_sequence ones h = record {
  away_inside = λ b away. inside_away b ones h away false;
  away_ended = λ b ctx away. ended_none b ctx ones h away;
  away_run = λ b ctx act g live away. run_away b ctx act live ones h away g;
  at_inside = λ b r at. inside_one b ones h (member_of r) (inner r) (fits_one (layouts ones) r at.fits) at.at;
  at_ended = λ b r ctx at.
      ended_one b ctx ones h (member_of r) (inner r) (fits_one (layouts ones) r at.fits) at.at (known_bit false)
      ∙ ap (λ i. ends_of_all ctx (drop i (walks (mirrors ones))) ((the_member ones (member_of r)).ended ctx (inner r)) mark.Zero) (sym (add-one (member_of r)));
  at_run = λ b r ctx act g at.
      run_one b ctx act ones h (member_of r) (inner r) (fits_one (layouts ones) r at.fits) at.at g
      ∙ ap (λ i. (the_member ones (member_of r)).resume ctx (inner r) act
      ++ start_in_turn ctx (drop i (walks (mirrors ones))) (both act ((the_member ones (member_of r)).ended ctx (inner r))) mark.Zero) (sym (add-one (member_of r)));
}

-- all at once
abbrev pub has_some : List (Option Residual) → Bool
has_some branches = list_any (λ branch. is_some branch) branches

module _ (b : PlaceBits) where
  pub inside_each : (ones : Ones) → AllByRecursion Resumed ones → (branches : List (Option Residual)) → fits_each (layouts ones) branches ≡ true
      → at_each b (layouts ones) branches ≡ true → (l : Bool) → any_inside (mirrors ones) b (known_bit l) ≡ known_bit (l || has_some branches)
  inside_each [] h [] fits at true = refl
  inside_each [] h [] fits at false = refl
  inside_each [] h (branch ∷ branches) fits at l = absurd (false≢true fits)
  inside_each (one ∷ ones) h [] fits at l = absurd (false≢true at)
  inside_each (one ∷ ones) h (None ∷ branches) fits at true =
      let parts = and_parts _ _ at in
      ap (λ k. any_inside (mirrors ones) b (either (known_bit true) k)) (h.0.away_inside b parts.0) ∙ inside_each ones h.1 branches fits parts.1 true
  inside_each (one ∷ ones) h (None ∷ branches) fits at false =
      let parts = and_parts _ _ at in
      ap (λ k. any_inside (mirrors ones) b (either (known_bit false) k)) (h.0.away_inside b parts.0) ∙ inside_each ones h.1 branches fits parts.1 false
  inside_each (one ∷ ones) h (Some r ∷ branches) fits at true =
      let parts = and_parts _ _ at in
      let fit = and_parts _ _ fits in
      ap (λ k. any_inside (mirrors ones) b (either (known_bit true) k)) (h.0.at_inside b r (record { fits = fit.0; at = parts.0 })) ∙ inside_each ones h.1 branches fit.1 parts.1 true
  inside_each (one ∷ ones) h (Some r ∷ branches) fits at false =
      let parts = and_parts _ _ at in
      let fit = and_parts _ _ fits in
      ap (λ k. any_inside (mirrors ones) b (either (known_bit false) k)) (h.0.at_inside b r (record { fits = fit.0; at = parts.0 })) ∙ inside_each ones h.1 branches fit.1 parts.1 true

  pub ends_each : (ctx : Context) (ones : Ones) → AllByRecursion Resumed ones → (branches : List (Option Residual)) → fits_each (layouts ones) branches ≡ true
      → at_each b (layouts ones) branches ≡ true → (k : Know) → ended_each ctx (mirrors ones) b k ≡ ended_of_all ctx (resting (walks (mirrors ones)) branches) k
  ends_each ctx [] h [] fits at k = refl
  ends_each ctx [] h (branch ∷ branches) fits at k = absurd (false≢true fits)
  ends_each ctx (one ∷ ones) h [] fits at k = absurd (false≢true at)
  ends_each ctx (one ∷ ones) h (None ∷ branches) fits at k =
      let parts = and_parts _ _ at in
      ap (λ i. ended_each ctx (mirrors ones) b (choose_of i (both k (one.0.ended ctx b)) k)) (h.0.away_inside b parts.0) ∙ ends_each ctx ones h.1 branches fits parts.1 k
  ends_each ctx (one ∷ ones) h (Some r ∷ branches) fits at k =
      let parts = and_parts _ _ at in
      let fit = and_parts _ _ fits in
      let here : RestsAt one.1 b r = record { fits = fit.0; at = parts.0 } in
      ap₂ (λ i e. ended_each ctx (mirrors ones) b (choose_of i (both k e) k)) (h.0.at_inside b r here) (h.0.at_ended b r ctx here)
      ∙ ends_each ctx ones h.1 branches fit.1 parts.1 (both k (one.0.walk.ended ctx r))

  pub runs_each : (ctx : Context) (act g : Know) (ones : Ones) → AllByRecursion Resumed ones → (branches : List (Option Residual)) → fits_each (layouts ones) branches ≡ true
      → at_each b (layouts ones) branches ≡ true → come_to (run_each ctx (mirrors ones) b act (known_bit false) g)
      ≡ flat_map (λ (one : Walk × Residual). one.0.resume ctx one.1 act) (resting (walks (mirrors ones)) branches)
  runs_each ctx act g [] h [] fits at = refl
  runs_each ctx act g [] h (branch ∷ branches) fits at = absurd (false≢true fits)
  runs_each ctx act g (one ∷ ones) h [] fits at = absurd (false≢true at)
  runs_each ctx act g (one ∷ ones) h (None ∷ branches) fits at =
      let parts = and_parts _ _ at in
      joined (one.0.run ctx b act (known_bit false) g) _ [] _ (h.0.away_run b ctx act g false parts.0) (runs_each ctx act g ones h.1 branches fits parts.1)
  runs_each ctx act g (one ∷ ones) h (Some r ∷ branches) fits at =
      let parts = and_parts _ _ at in
      let fit = and_parts _ _ fits in
      joined (one.0.run ctx b act (known_bit false) g) _ _ _ (h.0.at_run b r ctx act g (record { fits = fit.0; at = parts.0 })) (runs_each ctx act g ones h.1 branches fit.1 parts.1)

  pub starts_each : (ctx : Context) (act g : Know) (live : Bool) (ones : Ones) → AllByRecursion Resumed ones → all_away b (layouts ones) ≡ true
      → come_to (run_each ctx (mirrors ones) b act (known_bit live) g) ≡ when live (flat_map (λ (part : Walk). part.start ctx g mark.Zero) (walks (mirrors ones)))
  starts_each ctx act g live [] h away = sym (when_none live)
  starts_each ctx act g live (one ∷ ones) h away =
      let parts = and_parts _ _ away in
      joined (one.0.run ctx b act (known_bit live) g) _ _ _ (h.0.away_run b ctx act g live parts.0) (starts_each ctx act g live ones h.1 parts.1)
      ∙ when_append live (one.0.walk.start ctx g mark.Zero) _

abbrev pub parallel_of : Ones → Mirror
parallel_of ones = parallel_mirror (mirrors ones) (parallel landing (walks (mirrors ones)))

pub resuming_parallel : (ones : Ones) → AllByRecursion Resumed ones → Resuming (parallel_of ones) (parallel_layout (layouts ones))
resuming_parallel ones h = record {
  away_inside = λ b away. inside_away b ones h away false;
  away_ended = λ b ctx away. ap (λ k. where_inside k (ended_each ctx (mirrors ones) b (Known yes))) (inside_away b ones h away false);
  away_run = λ b ctx act g live away. starts_each b ctx act g live ones h away;
  at_inside = λ b r at. some_inside b r at;
  at_ended = λ b r ctx at.
      let fits = fits_some (layouts ones) r at.fits in
      ap₂ (λ k e. where_inside k e) (some_inside b r at) (ends_each b ctx ones h (branches_of r) fits.1 at.at (Known yes));
  at_run = λ b r ctx act g at. runs_each b ctx act g ones h (branches_of r) (fits_some (layouts ones) r at.fits).1 at.at;
}
  where
    some_inside : (b : PlaceBits) (r : Residual) → RestsAt (parallel_layout (layouts ones)) b r → any_inside (mirrors ones) b (known_bit false) ≡ known_bit true
    some_inside b r at =
        let fits = fits_some (layouts ones) r at.fits in
        inside_each b ones h (branches_of r) fits.1 at.at false ∙ ap known_bit fits.0
