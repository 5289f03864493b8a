-- Statements one after the other and all at once, where control goes on resuming, and their nets, where every condition is plain.
use Rattle.std.proofs.Common.{◌≡◌, ℕ, zero, suc, ◌+◌, Bool, true, false, ◌&&◌, ◌||◌, List, [], ◌∷◌, ◌++◌, drop, Option, Some, None, refl, sym, ap, ap₂, ◌∙◌, add-one, if◌then◌else◌}
use Rattle.std.specs.List.{AllByRecursion, flat_map}
use Rattle.std.proofs.lemmas.Bool.{false≢true, and_parts}
use Rattle.qz_values.specs.declared.Know.{Know}
use Rattle.qz_values.specs.Knowledge.{both, either, choose_of, knows_yes}
use Rattle.qz_syntax.specs.declared.places.Mark.TheVariants as mark
use Rattle.qz_syntax.specs.declared.places.Residual.{Residual}
use Rattle.qz_meaning.specs.Residuals.{inner, member_of, branches_of}
use Rattle.qz_meaning.specs.Scenes.{Context}
use Rattle.qz_meaning.specs.Layouts.{PlaceBits, Layout}
use Rattle.qz_meaning.specs.Sequences.{sequence_layout, ends_of_all, rest_in_first, all_away, at_one}
use Rattle.qz_meaning.specs.Parallels.{parallel_layout, resting, ended_of_all, each_branch, at_each, fits_each}
use Rattle.qz_meaning.specs.Landings.{Spot, landing}
use Rattle.qz_meaning.specs.Carrying.{is_somewhere}
use Rattle.qz_control.specs.Leaves.{known_bit}
use Rattle.qz_control.specs.Guarded.{chosen, when, Way, Stays, Goes, Leaves, is_stay, is_go, by_way}
use Rattle.qz_control.specs.Mirrors.{Walk, Mirror, walks}
use Rattle.qz_control.specs.MemberMirrors.{next_guard, move_all, moved_all, move_each, moved_each}
use Rattle.qz_control.specs.Follows.{RestsAt, Starting, Resuming, Moving}
use Rattle.qz_control.proofs.Bits.{both_known, either_known, knows_known, bit_from, or_false, append-none, when_none, when_append, chosen_both, somewhere-append}
use Rattle.qz_control.proofs.Insides.{fits_one, fits_some}
use Rattle.qz_control.proofs.StartingMembers.{all_plain, ends_false, all_gone, rests_first, first_or, some_or, none_more, or_more, rests_of}
use Rattle.qz_control.proofs.ResumingMembers.{Ones, mirrors, layouts, the_member, the_layout, sequence_of, parallel_of}

-- all that is known of a member
pub record Member (one : Mirror × Layout) : Type 0 where
  pub starting : Starting one.0
  pub resuming : Resuming one.0 one.1
  pub moving : Moving one.0 one.1

pub all_start : (ones : Ones) → AllByRecursion Member ones → AllByRecursion Starting (mirrors ones)
all_start [] h = tt
all_start (one ∷ ones) h = (h.0.starting, all_start ones h.1)

-- the member where control rests, and then those that are started
after_one : (way : Way) (e : Bool) (after kept again : List Spot) → (e ≡ true → after ≡ [])
    → by_way way after kept ++ when (is_go way && e) again ≡ by_way way (if e then again else after) kept
after_one Stays e after kept again none = append-none kept
after_one Goes true after kept again none = ap (λ i. i ++ again) (none refl)
after_one Goes false after kept again none = append-none after
after_one Leaves e after kept again none = refl

some_after : (way : Way) (e : Bool) (after kept again : List Spot) → (e ≡ true → after ≡ [])
    → (is_somewhere (by_way way after kept) || ((is_go way && e) && is_somewhere again)) ≡ is_somewhere (by_way way (if e then again else after) kept)
some_after Stays e after kept again none = or_false (is_somewhere kept)
some_after Goes true after kept again none = ap (λ i. is_somewhere i || is_somewhere again) (none refl)
some_after Goes false after kept again none = or_false (is_somewhere after)
some_after Leaves e after kept again none = refl

-- where control rests after a resume of the member with this number
abbrev after_at : Context → Ones → ℕ → Residual → ℕ → List Spot
after_at ctx ones n r number =
    if knows_yes ((the_member ones n).ended ctx r) then rest_in_first landing ctx (drop (suc n) (walks (mirrors ones))) number mark.Zero
    else (the_member ones n).after ctx r

module _ (ctx : Context) (b : PlaceBits) where
  -- the guard after a member in which control isn't, and after the one in which it is
  guard_away : (one : Mirror × Layout) (h : Member one) → one.1.away b ≡ true → (go g : Bool)
      → next_guard ctx one.0 b (known_bit go) (known_bit g) ≡ known_bit (g && (h.starting.plain ctx mark.Zero).0)
  guard_away one h away go g =
      let e = h.starting.plain ctx mark.Zero in
      ap₂ (λ i k. choose_of i (both (known_bit go) (one.0.ended ctx b)) (both (known_bit g) k)) (h.resuming.away_inside b away) e.1 ∙ both_known g e.0

  guard_at : (one : Mirror × Layout) (h : Member one) (r : Residual) (at : RestsAt one.1 b r) (go : Bool) (g : Know)
      → next_guard ctx one.0 b (known_bit go) g ≡ known_bit (go && (h.moving.plain ctx b r at).0)
  guard_at one h r at go g =
      let e = h.moving.plain ctx b r at in
      ap₂ (λ i k. choose_of i (both (known_bit go) k) (both g (one.0.walk.ends ctx mark.Zero))) (h.resuming.at_inside b r at) (h.resuming.at_ended b r ctx at ∙ e.1)
      ∙ both_known go e.0

  move_later : (stay go : Bool) (ones : Ones) → AllByRecursion Member ones → all_away b (layouts ones) ≡ true → (number : ℕ) (g : Bool)
      → chosen (move_all ctx (mirrors ones) b (known_bit stay) (known_bit go) (known_bit g)) ≡ when g (rest_in_first landing ctx (walks (mirrors ones)) number mark.Zero)
  move_later stay go [] h away number g = sym (when_none g)
  move_later stay go (one ∷ ones) h away number g =
      let parts = and_parts _ _ away in
      let e = h.0.starting.plain ctx mark.Zero in
      chosen_both (one.0.move ctx b (known_bit stay) (known_bit go) (known_bit g)) _ _ _ (h.0.moving.away ctx b stay go g parts.0)
      (ap (λ k. chosen (move_all ctx (mirrors ones) b (known_bit stay) (known_bit go) k)) (guard_away one h.0 parts.0 go g)
      ∙ move_later stay go ones h.1 parts.1 (number + 1) (g && e.0))
      ∙ first_or g e.0 (one.0.walk.rest ctx mark.Zero) _ (λ so. h.0.starting.gone ctx mark.Zero (e.1 ∙ ap known_bit so))
      ∙ ap (when g) (sym (rests_first one.0 (mirrors ones) ctx mark.Zero number e.0 e.1))

  moved_later : (stay go : Bool) (ones : Ones) → AllByRecursion Member ones → all_away b (layouts ones) ≡ true → (number : ℕ) (g so : Bool)
      → moved_all ctx (mirrors ones) b (known_bit stay) (known_bit go) (known_bit g) (known_bit so)
      ≡ known_bit (so || (g && is_somewhere (rest_in_first landing ctx (walks (mirrors ones)) number mark.Zero)))
  moved_later stay go [] h away number g so = none_more so g
  moved_later stay go (one ∷ ones) h away number g so =
      let parts = and_parts _ _ away in
      let e = h.0.starting.plain ctx mark.Zero in
      let M = one.0.walk.rest ctx mark.Zero in
      ap₂ (λ i j. moved_all ctx (mirrors ones) b (known_bit stay) (known_bit go) i (either (known_bit so) j)) (guard_away one h.0 parts.0 go g)
      (h.0.moving.away_moved ctx b stay go g parts.0)
      ∙ ap (λ i. moved_all ctx (mirrors ones) b (known_bit stay) (known_bit go) (known_bit (g && e.0)) i) (either_known so (g && is_somewhere M))
      ∙ moved_later stay go ones h.1 parts.1 (number + 1) (g && e.0) (so || (g && is_somewhere M))
      ∙ ap known_bit (some_or so g e.0 M _ (λ so. h.0.starting.gone ctx mark.Zero (e.1 ∙ ap known_bit so)))
      ∙ ap (λ xs. known_bit (so || (g && is_somewhere xs))) (sym (rests_first one.0 (mirrors ones) ctx mark.Zero number e.0 e.1))

  move_one : (way : Way) (ones : Ones) → AllByRecursion Member ones → (n : ℕ) (r : Residual) → (the_layout ones n).fits r ≡ true → at_one b (layouts ones) n r ≡ true → (number : ℕ)
      → chosen (move_all ctx (mirrors ones) b (known_bit (is_stay way)) (known_bit (is_go way)) (known_bit false))
      ≡ by_way way (after_at ctx ones n r number) ((the_member ones n).kept r)
  move_one way [] h n r fits at number = absurd (false≢true at)
  move_one way (one ∷ ones) h zero r fits at number =
      let parts = and_parts _ _ at in
      let here : RestsAt one.1 b r = record { fits = fits; at = parts.0 } in
      let e = h.0.moving.plain ctx b r here in
      chosen_both (one.0.move ctx b (known_bit (is_stay way)) (known_bit (is_go way)) (known_bit false)) _ _ _ (h.0.moving.moves ctx b r way here)
      (ap (λ k. chosen (move_all ctx (mirrors ones) b (known_bit (is_stay way)) (known_bit (is_go way)) k)) (guard_at one h.0 r here (is_go way) (known_bit false))
      ∙ move_later (is_stay way) (is_go way) ones h.1 parts.1 number (is_go way && e.0))
      ∙ after_one way e.0 (one.0.walk.after ctx r) (one.0.walk.kept r) _ (λ so. h.0.moving.gone ctx b r here (e.1 ∙ ap known_bit so))
      ∙ ap (λ x. by_way way (if x then rest_in_first landing ctx (walks (mirrors ones)) number mark.Zero else one.0.walk.after ctx r) (one.0.walk.kept r))
      (sym (ap knows_yes e.1 ∙ knows_known e.0))
  move_one way (one ∷ ones) h (suc n) r fits at number =
      let parts = and_parts _ _ at in
      chosen_both (one.0.move ctx b (known_bit (is_stay way)) (known_bit (is_go way)) (known_bit false)) _ [] _ (h.0.moving.away ctx b (is_stay way) (is_go way) false parts.0)
      (ap (λ k. chosen (move_all ctx (mirrors ones) b (known_bit (is_stay way)) (known_bit (is_go way)) k)) (guard_away one h.0 parts.0 (is_go way) false)
      ∙ move_one way ones h.1 n r fits parts.1 number)

  moved_one : (way : Way) (ones : Ones) → AllByRecursion Member ones → (n : ℕ) (r : Residual) → (the_layout ones n).fits r ≡ true → at_one b (layouts ones) n r ≡ true → (number : ℕ)
      → moved_all ctx (mirrors ones) b (known_bit (is_stay way)) (known_bit (is_go way)) (known_bit false) (known_bit false)
      ≡ known_bit (is_somewhere (by_way way (after_at ctx ones n r number) ((the_member ones n).kept r)))
  moved_one way [] h n r fits at number = absurd (false≢true at)
  moved_one way (one ∷ ones) h zero r fits at number =
      let parts = and_parts _ _ at in
      let here : RestsAt one.1 b r = record { fits = fits; at = parts.0 } in
      let e = h.0.moving.plain ctx b r here in
      let so = is_somewhere (by_way way (one.0.walk.after ctx r) (one.0.walk.kept r)) in
      ap₂ (λ i j. moved_all ctx (mirrors ones) b (known_bit (is_stay way)) (known_bit (is_go way)) i (either (known_bit false) j)) (guard_at one h.0 r here (is_go way) (known_bit false))
      (h.0.moving.moved ctx b r way here)
      ∙ ap (λ i. moved_all ctx (mirrors ones) b (known_bit (is_stay way)) (known_bit (is_go way)) (known_bit (is_go way && e.0)) i) (either_known false so)
      ∙ moved_later (is_stay way) (is_go way) ones h.1 parts.1 number (is_go way && e.0) so
      ∙ ap known_bit (some_after way e.0 (one.0.walk.after ctx r) (one.0.walk.kept r) _ (λ so. h.0.moving.gone ctx b r here (e.1 ∙ ap known_bit so)))
      ∙ ap (λ x. known_bit (is_somewhere (by_way way (if x then rest_in_first landing ctx (walks (mirrors ones)) number mark.Zero else one.0.walk.after ctx r) (one.0.walk.kept r))))
      (sym (ap knows_yes e.1 ∙ knows_known e.0))
  moved_one way (one ∷ ones) h (suc n) r fits at number =
      let parts = and_parts _ _ at in
      ap₂ (λ i j. moved_all ctx (mirrors ones) b (known_bit (is_stay way)) (known_bit (is_go way)) i (either (known_bit false) j)) (guard_away one h.0 parts.0 (is_go way) false)
      (h.0.moving.away_moved ctx b (is_stay way) (is_go way) false parts.0)
      ∙ moved_one way ones h.1 n r fits parts.1 number

  plain_one : (ones : Ones) → AllByRecursion Member ones → (n : ℕ) (r : Residual) → (the_layout ones n).fits r ≡ true → at_one b (layouts ones) n r ≡ true
      → (e : Bool) × (ends_of_all ctx (drop (suc n) (walks (mirrors ones))) ((the_member ones n).ended ctx r) mark.Zero ≡ known_bit e)
  plain_one [] h n r fits at = absurd (false≢true at)
  plain_one (one ∷ ones) h zero r fits at =
      let parts = and_parts _ _ at in
      let e = h.0.moving.plain ctx b r (record { fits = fits; at = parts.0 }) in
      let more = all_plain (mirrors ones) (all_start ones h.1) ctx mark.Zero e.0 in
      (more.0, ap (λ k. ends_of_all ctx (walks (mirrors ones)) k mark.Zero) e.1 ∙ more.1)
  plain_one (one ∷ ones) h (suc n) r fits at = plain_one ones h.1 n r fits (and_parts _ _ at).1

  gone_one : (ones : Ones) → AllByRecursion Member ones → (n : ℕ) (r : Residual) → (the_layout ones n).fits r ≡ true → at_one b (layouts ones) n r ≡ true → (number : ℕ)
      → ends_of_all ctx (drop (suc n) (walks (mirrors ones))) ((the_member ones n).ended ctx r) mark.Zero ≡ known_bit true → after_at ctx ones n r number ≡ []
  gone_one [] h n r fits at number is = absurd (false≢true at)
  gone_one (one ∷ ones) h zero r fits at number is =
      let parts = and_parts _ _ at in
      let e = h.0.moving.plain ctx b r (record { fits = fits; at = parts.0 }) in
      ap (λ x. if x then rest_in_first landing ctx (walks (mirrors ones)) number mark.Zero else one.0.walk.after ctx r) (ap knows_yes e.1 ∙ knows_known e.0)
      ∙ by e.0 e.1
    where
      by : (e : Bool) → one.0.walk.ended ctx r ≡ known_bit e
          → (if e then rest_in_first landing ctx (walks (mirrors ones)) number mark.Zero else one.0.walk.after ctx r) ≡ []
      by true p = all_gone (mirrors ones) (all_start ones h.1) ctx mark.Zero number (sym (ap (λ k. ends_of_all ctx (walks (mirrors ones)) k mark.Zero) p) ∙ is)
      by false p = absurd (false≢true (bit_from false true
          (sym (ap (λ k. ends_of_all ctx (walks (mirrors ones)) k mark.Zero) p ∙ ends_false (mirrors ones) (all_start ones h.1) ctx mark.Zero) ∙ is)))
  gone_one (one ∷ ones) h (suc n) r fits at number is = gone_one ones h.1 n r fits (and_parts _ _ at).1 number is

pub moving_sequence : (ones : Ones) → AllByRecursion Member ones → Moving (sequence_of ones) (sequence_layout (layouts ones))
moving_sequence ones h = record {
  plain = λ ctx b r at.
      let e = plain_one ctx b ones h (member_of r) (inner r) (fits_one (layouts ones) r at.fits) at.at in (e.0, ended_is ctx r ∙ e.1);
  gone = λ ctx b r at is.
      after_is ctx r ∙ gone_one ctx b ones h (member_of r) (inner r) (fits_one (layouts ones) r at.fits) at.at (member_of r + 1) (sym (ended_is ctx r) ∙ is);
  away = λ ctx b stay go g away. move_later ctx b stay go ones h away 0 g;
  away_moved = λ ctx b stay go g away. moved_later ctx b stay go ones h away 0 g false;
  moves = λ ctx b r way at.
      move_one ctx b way ones h (member_of r) (inner r) (fits_one (layouts ones) r at.fits) at.at (member_of r + 1)
      ∙ ap (λ xs. by_way way xs ((the_member ones (member_of r)).kept (inner r))) (sym (after_is ctx r));
  moved = λ ctx b r way at.
      moved_one ctx b way ones h (member_of r) (inner r) (fits_one (layouts ones) r at.fits) at.at (member_of r + 1)
      ∙ ap (λ xs. known_bit (is_somewhere (by_way way xs ((the_member ones (member_of r)).kept (inner r))))) (sym (after_is ctx r));
}
  where
    ended_is : (ctx : Context) (r : Residual) → (sequence_of ones).walk.ended ctx r
        ≡ ends_of_all ctx (drop (suc (member_of r)) (walks (mirrors ones))) ((the_member ones (member_of r)).ended ctx (inner r)) mark.Zero
    ended_is ctx r = ap (λ i. ends_of_all ctx (drop i (walks (mirrors ones))) ((the_member ones (member_of r)).ended ctx (inner r)) mark.Zero) (add-one (member_of r))

    after_is : (ctx : Context) (r : Residual) → (sequence_of ones).walk.after ctx r ≡ after_at ctx ones (member_of r) (inner r) (member_of r + 1)
    after_is ctx r = ap (λ i. if knows_yes ((the_member ones (member_of r)).ended ctx (inner r)) then rest_in_first landing ctx (drop i (walks (mirrors ones))) (member_of r + 1) mark.Zero
        else (the_member ones (member_of r)).after ctx (inner r)) (add-one (member_of r))

-- all at once
abbrev afters : Context → Ones → List (Option Residual) → List Spot
afters ctx ones branches = flat_map (λ inside. inside) (each_branch [] (λ (part : Walk) inside. part.after ctx inside) (walks (mirrors ones)) branches)

abbrev keepings : Ones → List (Option Residual) → List Spot
keepings ones branches = flat_map (λ inside. inside) (each_branch [] (λ (part : Walk) inside. part.kept inside) (walks (mirrors ones)) branches)

way_append : (way : Way) (xs ys us vs : List Spot) → by_way way xs us ++ by_way way ys vs ≡ by_way way (xs ++ ys) (us ++ vs)
way_append Stays xs ys us vs = refl
way_append Goes xs ys us vs = refl
way_append Leaves xs ys us vs = refl

module _ (ctx : Context) (b : PlaceBits) where
  plain_each : (ones : Ones) → AllByRecursion Member ones → (branches : List (Option Residual)) → fits_each (layouts ones) branches ≡ true
      → at_each b (layouts ones) branches ≡ true → (so : Bool) → (e : Bool) × (ended_of_all ctx (resting (walks (mirrors ones)) branches) (known_bit so) ≡ known_bit e)
  plain_each [] h branches fits at so = (so, refl)
  plain_each (one ∷ ones) h [] fits at so = absurd (false≢true at)
  plain_each (one ∷ ones) h (None ∷ branches) fits at so = plain_each ones h.1 branches fits (and_parts _ _ at).1 so
  plain_each (one ∷ ones) h (Some r ∷ branches) fits at so =
      let parts = and_parts _ _ at in
      let fit = and_parts _ _ fits in
      let e = h.0.moving.plain ctx b r (record { fits = fit.0; at = parts.0 }) in
      let more = plain_each ones h.1 branches fit.1 parts.1 (so && e.0) in (
        more.0,
        ap (λ k. ended_of_all ctx (resting (walks (mirrors ones)) branches) (both (known_bit so) k)) e.1
            ∙ ap (λ k. ended_of_all ctx (resting (walks (mirrors ones)) branches) k) (both_known so e.0) ∙ more.1,
      )

  never_each : (ones : Ones) → AllByRecursion Member ones → (branches : List (Option Residual)) → fits_each (layouts ones) branches ≡ true
      → at_each b (layouts ones) branches ≡ true → ended_of_all ctx (resting (walks (mirrors ones)) branches) (known_bit false) ≡ known_bit false
  never_each [] h branches fits at = refl
  never_each (one ∷ ones) h [] fits at = absurd (false≢true at)
  never_each (one ∷ ones) h (None ∷ branches) fits at = never_each ones h.1 branches fits (and_parts _ _ at).1
  never_each (one ∷ ones) h (Some r ∷ branches) fits at =
      let parts = and_parts _ _ at in
      let fit = and_parts _ _ fits in
      let e = h.0.moving.plain ctx b r (record { fits = fit.0; at = parts.0 }) in
      ap (λ k. ended_of_all ctx (resting (walks (mirrors ones)) branches) (both (known_bit false) k)) e.1
      ∙ ap (λ k. ended_of_all ctx (resting (walks (mirrors ones)) branches) k) (both_known false e.0) ∙ never_each ones h.1 branches fit.1 parts.1

  gone_each : (ones : Ones) → AllByRecursion Member ones → (branches : List (Option Residual)) → fits_each (layouts ones) branches ≡ true
      → at_each b (layouts ones) branches ≡ true → ended_of_all ctx (resting (walks (mirrors ones)) branches) (known_bit true) ≡ known_bit true → afters ctx ones branches ≡ []
  gone_each [] h branches fits at is = refl
  gone_each (one ∷ ones) h [] fits at is = absurd (false≢true at)
  gone_each (one ∷ ones) h (None ∷ branches) fits at is = gone_each ones h.1 branches fits (and_parts _ _ at).1 is
  gone_each (one ∷ ones) h (Some r ∷ branches) fits at is =
      let parts = and_parts _ _ at in
      let fit = and_parts _ _ fits in
      let here : RestsAt one.1 b r = record { fits = fit.0; at = parts.0 } in
      let e = h.0.moving.plain ctx b r here in
      by (λ p. h.0.moving.gone ctx b r here p) (λ p. gone_each ones h.1 branches fit.1 parts.1 p) (never_each ones h.1 branches fit.1 parts.1) e.0 e.1
    where
      by : (one.0.walk.ended ctx r ≡ known_bit true → one.0.walk.after ctx r ≡ [])
          → (ended_of_all ctx (resting (walks (mirrors ones)) branches) (known_bit true) ≡ known_bit true → afters ctx ones branches ≡ [])
          → ended_of_all ctx (resting (walks (mirrors ones)) branches) (known_bit false) ≡ known_bit false
          → (e : Bool) → one.0.walk.ended ctx r ≡ known_bit e → one.0.walk.after ctx r ++ afters ctx ones branches ≡ []
      by first others never true p =
          ap₂ (λ xs ys. xs ++ ys) (first p)
          (others (sym (ap (λ k. ended_of_all ctx (resting (walks (mirrors ones)) branches) (both (known_bit true) k)) p) ∙ is))
      by first others never false p = absurd (false≢true (bit_from false true
          (sym (ap (λ k. ended_of_all ctx (resting (walks (mirrors ones)) branches) (both (known_bit true) k)) p ∙ never) ∙ is)))

  away_each : (stay go g : Bool) (ones : Ones) → AllByRecursion Member ones → all_away b (layouts ones) ≡ true
      → chosen (move_each ctx (mirrors ones) b (known_bit stay) (known_bit go) (known_bit g)) ≡ when g (rests_of ctx (mirrors ones) mark.Zero)
  away_each stay go g [] h away = sym (when_none g)
  away_each stay go g (one ∷ ones) h away =
      let parts = and_parts _ _ away in
      chosen_both (one.0.move ctx b (known_bit stay) (known_bit go) (known_bit g)) _ _ _ (h.0.moving.away ctx b stay go g parts.0) (away_each stay go g ones h.1 parts.1)
      ∙ when_append g (one.0.walk.rest ctx mark.Zero) (rests_of ctx (mirrors ones) mark.Zero)

  away_moved_each : (stay go g so : Bool) (ones : Ones) → AllByRecursion Member ones → all_away b (layouts ones) ≡ true
      → moved_each ctx (mirrors ones) b (known_bit stay) (known_bit go) (known_bit g) (known_bit so) ≡ known_bit (so || (g && is_somewhere (rests_of ctx (mirrors ones) mark.Zero)))
  away_moved_each stay go g so [] h away = none_more so g
  away_moved_each stay go g so (one ∷ ones) h away =
      let parts = and_parts _ _ away in
      let x = is_somewhere (one.0.walk.rest ctx mark.Zero) in
      ap (λ i. moved_each ctx (mirrors ones) b (known_bit stay) (known_bit go) (known_bit g) (either (known_bit so) i)) (h.0.moving.away_moved ctx b stay go g parts.0)
      ∙ ap (λ i. moved_each ctx (mirrors ones) b (known_bit stay) (known_bit go) (known_bit g) i) (either_known so (g && x))
      ∙ away_moved_each stay go g (so || (g && x)) ones h.1 parts.1
      ∙ ap known_bit (or_more so g x (is_somewhere (rests_of ctx (mirrors ones) mark.Zero)))
      ∙ ap (λ y. known_bit (so || (g && y))) (sym (somewhere-append (one.0.walk.rest ctx mark.Zero) (rests_of ctx (mirrors ones) mark.Zero)))

  moves_each : (way : Way) (ones : Ones) → AllByRecursion Member ones → (branches : List (Option Residual)) → fits_each (layouts ones) branches ≡ true
      → at_each b (layouts ones) branches ≡ true
      → chosen (move_each ctx (mirrors ones) b (known_bit (is_stay way)) (known_bit (is_go way)) (known_bit false)) ≡ by_way way (afters ctx ones branches) (keepings ones branches)
  moves_each way [] h [] fits at = none way
    where
      none : (way : Way) → [] ≡ by_way way [] []
      none Stays = refl
      none Goes = refl
      none Leaves = refl
  moves_each way [] h (branch ∷ branches) fits at = absurd (false≢true fits)
  moves_each way (one ∷ ones) h [] fits at = absurd (false≢true at)
  moves_each way (one ∷ ones) h (None ∷ branches) fits at =
      let parts = and_parts _ _ at in
      chosen_both (one.0.move ctx b (known_bit (is_stay way)) (known_bit (is_go way)) (known_bit false)) _ [] _ (h.0.moving.away ctx b (is_stay way) (is_go way) false parts.0)
      (moves_each way ones h.1 branches fits parts.1)
  moves_each way (one ∷ ones) h (Some r ∷ branches) fits at =
      let parts = and_parts _ _ at in
      let fit = and_parts _ _ fits in
      chosen_both (one.0.move ctx b (known_bit (is_stay way)) (known_bit (is_go way)) (known_bit false)) _ _ _
      (h.0.moving.moves ctx b r way (record { fits = fit.0; at = parts.0 })) (moves_each way ones h.1 branches fit.1 parts.1)
      ∙ way_append way (one.0.walk.after ctx r) (afters ctx ones branches) (one.0.walk.kept r) (keepings ones branches)

  some_way : (way : Way) (so : Bool) (xs ys us vs : List Spot)
      → ((so || is_somewhere (by_way way xs us)) || is_somewhere (by_way way ys vs)) ≡ (so || is_somewhere (by_way way (xs ++ ys) (us ++ vs)))
  some_way way true xs ys us vs = refl
  some_way way false xs ys us vs = sym (somewhere-append (by_way way xs us) (by_way way ys vs)) ∙ ap is_somewhere (way_append way xs ys us vs)

  moved_in_each : (way : Way) (so : Bool) (ones : Ones) → AllByRecursion Member ones → (branches : List (Option Residual)) → fits_each (layouts ones) branches ≡ true
      → at_each b (layouts ones) branches ≡ true
      → moved_each ctx (mirrors ones) b (known_bit (is_stay way)) (known_bit (is_go way)) (known_bit false) (known_bit so)
      ≡ known_bit (so || is_somewhere (by_way way (afters ctx ones branches) (keepings ones branches)))
  moved_in_each way so [] h [] fits at = none way so
    where
      none : (way : Way) (so : Bool) → known_bit so ≡ known_bit (so || is_somewhere (by_way way [] []))
      none Stays true = refl
      none Stays false = refl
      none Goes true = refl
      none Goes false = refl
      none Leaves true = refl
      none Leaves false = refl
  moved_in_each way so [] h (branch ∷ branches) fits at = absurd (false≢true fits)
  moved_in_each way so (one ∷ ones) h [] fits at = absurd (false≢true at)
  moved_in_each way so (one ∷ ones) h (None ∷ branches) fits at =
      let parts = and_parts _ _ at in
      ap (λ i. moved_each ctx (mirrors ones) b (known_bit (is_stay way)) (known_bit (is_go way)) (known_bit false) (either (known_bit so) i))
      (h.0.moving.away_moved ctx b (is_stay way) (is_go way) false parts.0)
      ∙ ap (λ i. moved_each ctx (mirrors ones) b (known_bit (is_stay way)) (known_bit (is_go way)) (known_bit false) i) (either_known so false ∙ ap known_bit (or_false so))
      ∙ moved_in_each way so ones h.1 branches fits parts.1
  moved_in_each way so (one ∷ ones) h (Some r ∷ branches) fits at =
      let parts = and_parts _ _ at in
      let fit = and_parts _ _ fits in
      let x = is_somewhere (by_way way (one.0.walk.after ctx r) (one.0.walk.kept r)) in
      ap (λ i. moved_each ctx (mirrors ones) b (known_bit (is_stay way)) (known_bit (is_go way)) (known_bit false) (either (known_bit so) i))
      (h.0.moving.moved ctx b r way (record { fits = fit.0; at = parts.0 }))
      ∙ ap (λ i. moved_each ctx (mirrors ones) b (known_bit (is_stay way)) (known_bit (is_go way)) (known_bit false) i) (either_known so x)
      ∙ moved_in_each way (so || x) ones h.1 branches fit.1 parts.1
      ∙ ap known_bit (some_way way so (one.0.walk.after ctx r) (afters ctx ones branches) (one.0.walk.kept r) (keepings ones branches))

pub moving_parallel : (ones : Ones) → AllByRecursion Member ones → Moving (parallel_of ones) (parallel_layout (layouts ones))
moving_parallel ones h = record {
  plain = λ ctx b r at. plain_each ctx b ones h (branches_of r) (fits_some (layouts ones) r at.fits).1 at.at true;
  gone = λ ctx b r at is. gone_each ctx b ones h (branches_of r) (fits_some (layouts ones) r at.fits).1 at.at is;
  away = λ ctx b stay go g away. away_each ctx b stay go g ones h away;
  away_moved = λ ctx b stay go g away. away_moved_each ctx b stay go g false ones h away;
  moves = λ ctx b r way at. moves_each ctx b way ones h (branches_of r) (fits_some (layouts ones) r at.fits).1 at.at;
  moved = λ ctx b r way at. moved_in_each ctx b way false ones h (branches_of r) (fits_some (layouts ones) r at.fits).1 at.at;
}
