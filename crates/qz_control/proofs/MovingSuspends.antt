-- Where control goes on resuming in a suspend, and its nets, where every condition is plain.
use Rattle.std.proofs.Common.{◌≡◌, ℕ, Bool, true, false, ◌&&◌, ◌||◌, not, List, [], ◌∷◌, Some, None, refl, sym, ap, ap₂, ◌∙◌, if◌then◌else◌}
use Rattle.std.proofs.lemmas.Bool.{false≢true, and_parts}
use Rattle.qz_values.specs.declared.Know.{Know}
use Rattle.qz_values.specs.Knowledge.{both, either, opposite, choose_of, knows_yes}
use Rattle.qz_syntax.specs.declared.expressions.Expr.{Expr}
use Rattle.qz_syntax.specs.declared.statements.Kind.{Kind}
use Rattle.qz_syntax.specs.declared.places.Mark.TheVariants as mark
use Rattle.qz_syntax.specs.declared.places.Residual.{Residual}
use Rattle.qz_meaning.specs.Residuals.{inner, is_held}
use Rattle.qz_meaning.specs.Scenes.{Scene, Context}
use Rattle.qz_meaning.specs.Expressions.{value_here}
use Rattle.qz_meaning.specs.Layouts.{PlaceBits, Layout}
use Rattle.qz_meaning.specs.Suspends.{suspend, suspend_layout, ends_on_start, rest_on_start, stays_held, is_at_hold}
use Rattle.qz_meaning.specs.Landings.{Spot, At, landing}
use Rattle.qz_meaning.specs.Carrying.{is_somewhere}
use Rattle.qz_control.specs.Leaves.{known_bit}
use Rattle.qz_control.specs.Guarded.{Guarded, chosen, when, goes, stays, Way, Stays, Goes, Leaves, is_stay, is_go, by_way}
use Rattle.qz_control.specs.Mirrors.{Mirror}
use Rattle.qz_control.specs.BodyMirrors.{suspend_mirror, hold_mirror, held_when}
use Rattle.qz_control.specs.Follows.{RestsAt, Starting, Moving}
use Rattle.qz_control.proofs.Bits.{both_known, either_known, opposite_known, knows_known, bit_from, not_true}
use Rattle.qz_control.proofs.Insides.{fits_held}
use Rattle.qz_control.proofs.Starting.{goes_plain, if_plain, starting_held}
use Rattle.qz_control.proofs.MovingBodies.{held_by, stays_by, goes_by, way_by, stays_plain}

ended_plain : (c e : Bool) (x y : Know) → x ≡ known_bit c → y ≡ known_bit e → both (opposite x) y ≡ known_bit (not c && e)
ended_plain c e x y i j = ap₂ (λ k l. both (opposite k) l) i j ∙ ap (λ k. both k (known_bit e)) (opposite_known c) ∙ both_known (not c) e

-- what is started: from the hold place where control is there
from_plain : (x go g : Bool) → choose_of (known_bit x) (known_bit go) (known_bit g) ≡ known_bit (if x then go else g)
from_plain true go g = refl
from_plain false go g = refl

held_plain : (x stay go g c : Bool) (k : Know) → k ≡ known_bit c
    → either (both (known_bit x) (known_bit stay)) (both (choose_of (known_bit x) (known_bit go) (known_bit g)) k)
    ≡ known_bit ((x && stay) || ((if x then go else g) && c))
held_plain x stay go g c k is =
    ap₂ (λ i j. either i j) (both_known x stay) (ap₂ (λ i j. both i j) (from_plain x go g) is ∙ both_known (if x then go else g) c)
    ∙ either_known (x && stay) ((if x then go else g) && c)

started_plain : (x go g c : Bool) (k : Know) → k ≡ known_bit c
    → goes k (choose_of (known_bit x) (known_bit go) (known_bit g)) ≡ known_bit ((if x then go else g) && not c)
started_plain x go g c k is = ap (λ i. goes k i) (from_plain x go g) ∙ goes_plain (if x then go else g) c k is

module _ (scene : Scene) (condition : Expr) (plain : (ctx : Context) → (b : Bool) × (value_here scene ctx condition ≡ known_bit b))
    (body : Mirror) (l : Layout) (s : Starting body) (h : Moving body l) where
  -- the body, where control goes on only where the condition doesn't hold
  body_away : (ctx : Context) (b : PlaceBits) (stay go g c : Bool) (k x : Know) → k ≡ known_bit c → x ≡ known_bit g → l.away b ≡ true
      → chosen (body.move ctx b (stays k (known_bit stay) (known_bit go)) (goes k (known_bit go)) x) ≡ when g (body.walk.rest ctx mark.Zero)
  body_away ctx b stay go g c k x is so away =
      ap₂ (λ i j. chosen (body.move ctx b i j x)) (stays_plain c stay go k is) (goes_plain go c k is)
      ∙ ap (λ i. chosen (body.move ctx b (known_bit (stay || (go && c))) (known_bit (go && not c)) i)) so ∙ h.away ctx b (stay || (go && c)) (go && not c) g away

  body_away_moved : (ctx : Context) (b : PlaceBits) (stay go g c : Bool) (k x : Know) → k ≡ known_bit c → x ≡ known_bit g → l.away b ≡ true
      → body.moved ctx b (stays k (known_bit stay) (known_bit go)) (goes k (known_bit go)) x ≡ known_bit (g && is_somewhere (body.walk.rest ctx mark.Zero))
  body_away_moved ctx b stay go g c k x is so away =
      ap₂ (λ i j. body.moved ctx b i j x) (stays_plain c stay go k is) (goes_plain go c k is)
      ∙ ap (λ i. body.moved ctx b (known_bit (stay || (go && c))) (known_bit (go && not c)) i) so ∙ h.away_moved ctx b (stay || (go && c)) (go && not c) g away

  body_moves : (ctx : Context) (b : PlaceBits) (r : Residual) (way : Way) (c : Bool) (k x : Know) → k ≡ known_bit c → x ≡ known_bit false → RestsAt l b r
      → chosen (body.move ctx b (stays k (known_bit (is_stay way)) (known_bit (is_go way))) (goes k (known_bit (is_go way))) x)
      ≡ by_way way (if c then body.walk.kept r else body.walk.after ctx r) (body.walk.kept r)
  body_moves ctx b r way c k x is so at =
      ap₂ (λ i j. chosen (body.move ctx b i j x)) (stays_by c way k is) (goes_by c way k is)
      ∙ ap (λ i. chosen (body.move ctx b (known_bit (is_stay (held_by c way))) (known_bit (is_go (held_by c way))) i)) so
      ∙ h.moves ctx b r (held_by c way) at ∙ way_by c way _ _

  body_moved : (ctx : Context) (b : PlaceBits) (r : Residual) (way : Way) (c : Bool) (k x : Know) → k ≡ known_bit c → x ≡ known_bit false → RestsAt l b r
      → body.moved ctx b (stays k (known_bit (is_stay way)) (known_bit (is_go way))) (goes k (known_bit (is_go way))) x
      ≡ known_bit (is_somewhere (by_way way (if c then body.walk.kept r else body.walk.after ctx r) (body.walk.kept r)))
  body_moved ctx b r way c k x is so at =
      ap₂ (λ i j. body.moved ctx b i j x) (stays_by c way k is) (goes_by c way k is)
      ∙ ap (λ i. body.moved ctx b (known_bit (is_stay (held_by c way))) (known_bit (is_go (held_by c way))) i) so
      ∙ h.moved ctx b r (held_by c way) at ∙ ap (λ xs. known_bit (is_somewhere xs)) (way_by c way _ _)

  -- from the body control stays, or goes on as the body does
  abbrev on : Context → Residual → List Spot
  on ctx r = if knows_yes (value_here scene ctx condition) then body.walk.kept r else body.walk.after ctx r

  on_by : (ctx : Context) (r : Residual) (c : Bool) → value_here scene ctx condition ≡ known_bit c → (if c then body.walk.kept r else body.walk.after ctx r) ≡ on ctx r
  on_by ctx r c is = sym (if_plain c _ (body.walk.kept r) (body.walk.after ctx r) is)

  module _ (kind : Kind) where
    ended_inside : (ctx : Context) (r : Residual) → is_held r ≡ false
        → (suspend scene landing kind None body.walk condition).ended ctx r ≡ both (opposite (value_here scene ctx condition)) (body.walk.ended ctx (inner r))
    ended_inside ctx r held = ap (λ x. if x then ends_on_start scene kind body.walk condition ctx mark.Zero
        else both (opposite (value_here scene ctx condition)) (body.walk.ended ctx (inner r))) held

  -- a suspend that isn't immediate
  module _ (weak : Bool) where
    abbrev later : Kind
    later = record { weak = weak; immediate = false }

    in_body : (b : PlaceBits) (r : Residual) → RestsAt (suspend_layout None l) b r → (is_held r ≡ false) × RestsAt l b (inner r)
    in_body b r at = by (is_held r) refl at.at
      where
        by : (held : Bool) → is_held r ≡ held → (if held then is_at_hold b None && l.away b else not (is_at_hold b None) && l.at b (inner r)) ≡ true
            → (is_held r ≡ false) × RestsAt l b (inner r)
        by true is e = absurd (false≢true e)
        by false is e = (is, record { fits = fits_held None l r at.fits is; at = e })

    after_later : (ctx : Context) (r : Residual) → is_held r ≡ false → (suspend scene landing later None body.walk condition).after ctx r ≡ on ctx (inner r)
    after_later ctx r held = ap (λ x. if x then rest_on_start scene landing later None body.walk condition ctx mark.Zero else on ctx (inner r)) held

    kept_later : (r : Residual) → is_held r ≡ false → (suspend scene landing later None body.walk condition).kept r ≡ body.walk.kept (inner r)
    kept_later r held = ap (λ x. if x then stays_held landing None else body.walk.kept (inner r)) held

    pub moving_later : Moving (suspend_mirror scene later body condition (suspend scene landing later None body.walk condition)) (suspend_layout None l)
    moving_later = record {
      plain = λ ctx b r at.
          let here = in_body b r at in
          let c = plain ctx in
          let e = h.plain ctx b (inner r) here.1 in
          (not c.0 && e.0, ended_inside later ctx r here.0 ∙ ended_plain c.0 e.0 _ _ c.1 e.1);
      gone = λ ctx b r at ends.
          let here = in_body b r at in
          let c = plain ctx in
          let e = h.plain ctx b (inner r) here.1 in
          let parts = and_parts (not c.0) e.0 (bit_from _ _ (sym (ended_inside later ctx r here.0 ∙ ended_plain c.0 e.0 _ _ c.1 e.1) ∙ ends)) in
          after_later ctx r here.0 ∙ sym (on_by ctx (inner r) c.0 c.1)
          ∙ ap (λ x. if x then body.walk.kept (inner r) else body.walk.after ctx (inner r)) (not_true c.0 parts.0)
          ∙ h.gone ctx b (inner r) here.1 (e.1 ∙ ap known_bit parts.1);
      away = λ ctx b stay go g away. let c = plain ctx in body_away ctx b stay go g c.0 _ _ c.1 refl away;
      away_moved = λ ctx b stay go g away. let c = plain ctx in body_away_moved ctx b stay go g c.0 _ _ c.1 refl away;
      moves = λ ctx b r way at.
          let here = in_body b r at in
          let c = plain ctx in
          body_moves ctx b (inner r) way c.0 _ _ c.1 refl here.1
          ∙ ap₂ (by_way way) (on_by ctx (inner r) c.0 c.1 ∙ sym (after_later ctx r here.0)) (sym (kept_later r here.0));
      moved = λ ctx b r way at.
          let here = in_body b r at in
          let c = plain ctx in
          body_moved ctx b (inner r) way c.0 _ _ c.1 refl here.1
          ∙ ap₂ (λ x y. known_bit (is_somewhere (by_way way x y))) (on_by ctx (inner r) c.0 c.1 ∙ sym (after_later ctx r here.0)) (sym (kept_later r here.0));
    }

  -- an immediate one
  module _ (weak : Bool) (hold : ℕ) where
    abbrev now : Kind
    now = record { weak = weak; immediate = true }

    abbrev mirror : Mirror
    mirror = hold_mirror scene now hold body condition (suspend scene landing now (Some hold) body.walk condition)

    starts : Starting mirror
    starts = starting_held scene condition plain body s weak hold

    by_held : {A : Type 0} (b : PlaceBits) (r : Residual) → RestsAt (suspend_layout (Some hold) l) b r
        → (is_held r ≡ true → b.place hold ≡ true → l.away b ≡ true → A)
        → (is_held r ≡ false → b.place hold ≡ false → RestsAt l b (inner r) → A) → A
    by_held {A = A} b r at first second = by (is_held r) refl at.at
      where
        by : (held : Bool) → is_held r ≡ held → (if held then b.place hold && l.away b else not (b.place hold) && l.at b (inner r)) ≡ true → A
        by true is e = let parts = and_parts _ _ e in first is parts.0 parts.1
        by false is e =
            let parts = and_parts _ _ e in second is (not_true (b.place hold) parts.0) (record { fits = fits_held (Some hold) l r at.fits is; at = parts.1 })

    ended_held : (ctx : Context) (r : Residual) → is_held r ≡ true → mirror.walk.ended ctx r ≡ mirror.walk.ends ctx mark.Zero
    ended_held ctx r held = ap (λ x. if x then ends_on_start scene now body.walk condition ctx mark.Zero
        else both (opposite (value_here scene ctx condition)) (body.walk.ended ctx (inner r))) held

    ended_in : (ctx : Context) (r : Residual) → is_held r ≡ false
        → mirror.walk.ended ctx r ≡ both (opposite (value_here scene ctx condition)) (body.walk.ended ctx (inner r))
    ended_in ctx r held = ap (λ x. if x then ends_on_start scene now body.walk condition ctx mark.Zero
        else both (opposite (value_here scene ctx condition)) (body.walk.ended ctx (inner r))) held

    after_held : (ctx : Context) (r : Residual) → is_held r ≡ true → mirror.walk.after ctx r ≡ mirror.walk.rest ctx mark.Zero
    after_held ctx r held = ap (λ x. if x then rest_on_start scene landing now (Some hold) body.walk condition ctx mark.Zero else on ctx (inner r)) held

    after_inside : (ctx : Context) (r : Residual) → is_held r ≡ false → mirror.walk.after ctx r ≡ on ctx (inner r)
    after_inside ctx r held = ap (λ x. if x then rest_on_start scene landing now (Some hold) body.walk condition ctx mark.Zero else on ctx (inner r)) held

    kept_held : (r : Residual) → is_held r ≡ true → mirror.walk.kept r ≡ At hold ∷ []
    kept_held r held = ap (λ x. if x then stays_held landing (Some hold) else body.walk.kept (inner r)) held

    kept_inside : (r : Residual) → is_held r ≡ false → mirror.walk.kept r ≡ body.walk.kept (inner r)
    kept_inside r held = ap (λ x. if x then stays_held landing (Some hold) else body.walk.kept (inner r)) held

    rest_by : (ctx : Context) (c : Bool) → value_here scene ctx condition ≡ known_bit c
        → mirror.walk.rest ctx mark.Zero ≡ (if c then At hold ∷ [] else body.walk.rest ctx mark.Zero)
    rest_by ctx c is = if_plain c _ (At hold ∷ []) (body.walk.rest ctx mark.Zero) is

    -- a spot with the others
    spot_with : (x : Bool) (k : Know) (xs : Guarded) (us : List Spot) → k ≡ known_bit x → chosen xs ≡ us
        → chosen ((At hold, k) ∷ xs) ≡ (if x then At hold ∷ us else us)
    spot_with x k xs us is p =
        ap₂ (λ i more. if knows_yes i then At hold ∷ more else more) is p ∙ ap (λ i. if i then At hold ∷ us else us) (knows_known x)

    -- the guards of the hold place and of the body's start, where the bit is known
    guard_held : (b : PlaceBits) (x stay go g c : Bool) (k : Know) → b.place hold ≡ x → k ≡ known_bit c
        → held_when b hold k (known_bit stay) (known_bit go) (known_bit g) ≡ known_bit ((x && stay) || ((if x then go else g) && c))
    guard_held b x stay go g c k bit is =
        ap (λ i. either (both (known_bit i) (known_bit stay)) (both (choose_of (known_bit i) (known_bit go) (known_bit g)) k)) bit ∙ held_plain x stay go g c k is

    guard_started : (b : PlaceBits) (x go g c : Bool) (k : Know) → b.place hold ≡ x → k ≡ known_bit c
        → goes k (choose_of (known_bit (b.place hold)) (known_bit go) (known_bit g)) ≡ known_bit ((if x then go else g) && not c)
    guard_started b x go g c k bit is = ap (λ i. goes k (choose_of (known_bit i) (known_bit go) (known_bit g))) bit ∙ started_plain x go g c k is

    away_way : (g c : Bool) (xs : List Spot) → (if g && c then At hold ∷ when (g && not c) xs else when (g && not c) xs) ≡ when g (if c then At hold ∷ [] else xs)
    away_way true true xs = refl
    away_way true false xs = refl
    away_way false c xs = refl

    away_some : (g c : Bool) (xs : List Spot) → ((g && c) || ((g && not c) && is_somewhere xs)) ≡ (g && is_somewhere (if c then At hold ∷ [] else xs))
    away_some true true xs = refl
    away_some true false xs = refl
    away_some false c xs = refl

    hold_way : (c : Bool) (way : Way) (xs : List Spot)
        → (if is_stay way || (is_go way && c) then At hold ∷ when (is_go way && not c) xs else when (is_go way && not c) xs)
        ≡ by_way way (if c then At hold ∷ [] else xs) (At hold ∷ [])
    hold_way true Stays xs = refl
    hold_way true Goes xs = refl
    hold_way true Leaves xs = refl
    hold_way false Stays xs = refl
    hold_way false Goes xs = refl
    hold_way false Leaves xs = refl

    hold_some : (c : Bool) (way : Way) (xs : List Spot)
        → ((is_stay way || (is_go way && c)) || ((is_go way && not c) && is_somewhere xs)) ≡ is_somewhere (by_way way (if c then At hold ∷ [] else xs) (At hold ∷ []))
    hold_some true Stays xs = refl
    hold_some true Goes xs = refl
    hold_some true Leaves xs = refl
    hold_some false Stays xs = refl
    hold_some false Goes xs = refl
    hold_some false Leaves xs = refl

    pub moving_held : Moving mirror (suspend_layout (Some hold) l)
    moving_held = record {
      plain = λ ctx b r at. by_held b r at
          (λ held is away. let e = starts.plain ctx mark.Zero in (e.0, ended_held ctx r held ∙ e.1))
          (λ held is inside.
          let c = plain ctx in
          let e = h.plain ctx b (inner r) inside in
          (not c.0 && e.0, ended_in ctx r held ∙ ended_plain c.0 e.0 _ _ c.1 e.1));
      gone = λ ctx b r at ends. by_held b r at
          (λ held is away. after_held ctx r held ∙ starts.gone ctx mark.Zero (sym (ended_held ctx r held) ∙ ends))
          (λ held is inside.
          let c = plain ctx in
          let e = h.plain ctx b (inner r) inside in
          let parts = and_parts (not c.0) e.0 (bit_from _ _ (sym (ended_in ctx r held ∙ ended_plain c.0 e.0 _ _ c.1 e.1) ∙ ends)) in
          after_inside ctx r held ∙ sym (on_by ctx (inner r) c.0 c.1)
          ∙ ap (λ x. if x then body.walk.kept (inner r) else body.walk.after ctx (inner r)) (not_true c.0 parts.0)
          ∙ h.gone ctx b (inner r) inside (e.1 ∙ ap known_bit parts.1));
      away = λ ctx b stay go g away.
          let c = plain ctx in
          let parts = and_parts (not (b.place hold)) (l.away b) away in
          let bit = not_true (b.place hold) parts.0 in
          spot_with (g && c.0) _ (body.move ctx b (stays (value_here scene ctx condition) (known_bit stay) (known_bit go)) (goes (value_here scene ctx condition) (known_bit go)) (goes (value_here scene ctx condition) (choose_of (known_bit (b.place hold)) (known_bit go) (known_bit g)))) _ (guard_held b false stay go g c.0 _ bit c.1)
          (body_away ctx b stay go (g && not c.0) c.0 _ _ c.1 (guard_started b false go g c.0 _ bit c.1) parts.1)
          ∙ away_way g c.0 _ ∙ ap (when g) (sym (rest_by ctx c.0 c.1));
      away_moved = λ ctx b stay go g away.
          let c = plain ctx in
          let parts = and_parts (not (b.place hold)) (l.away b) away in
          let bit = not_true (b.place hold) parts.0 in
          ap₂ (λ i j. either i j) (guard_held b false stay go g c.0 _ bit c.1)
          (body_away_moved ctx b stay go (g && not c.0) c.0 _ _ c.1 (guard_started b false go g c.0 _ bit c.1) parts.1)
          ∙ either_known (g && c.0) ((g && not c.0) && is_somewhere (body.walk.rest ctx mark.Zero))
          ∙ ap known_bit (away_some g c.0 _) ∙ ap (λ xs. known_bit (g && is_somewhere xs)) (sym (rest_by ctx c.0 c.1));
      moves = λ ctx b r way at.
          let c = plain ctx in
          by_held b r at
          (λ held is away.
          spot_with (is_stay way || (is_go way && c.0)) _ (body.move ctx b (stays (value_here scene ctx condition) (known_bit (is_stay way)) (known_bit (is_go way))) (goes (value_here scene ctx condition) (known_bit (is_go way))) (goes (value_here scene ctx condition) (choose_of (known_bit (b.place hold)) (known_bit (is_go way)) (known_bit false)))) _ (guard_held b true (is_stay way) (is_go way) false c.0 _ is c.1)
          (body_away ctx b (is_stay way) (is_go way) (is_go way && not c.0) c.0 _ _ c.1 (guard_started b true (is_go way) false c.0 _ is c.1) away)
          ∙ hold_way c.0 way (body.walk.rest ctx mark.Zero)
          ∙ ap₂ (by_way way) (sym (after_held ctx r held ∙ rest_by ctx c.0 c.1)) (sym (kept_held r held)))
          (λ held is inside.
          spot_with false _ (body.move ctx b (stays (value_here scene ctx condition) (known_bit (is_stay way)) (known_bit (is_go way))) (goes (value_here scene ctx condition) (known_bit (is_go way))) (goes (value_here scene ctx condition) (choose_of (known_bit (b.place hold)) (known_bit (is_go way)) (known_bit false)))) _ (guard_held b false (is_stay way) (is_go way) false c.0 _ is c.1)
          (body_moves ctx b (inner r) way c.0 _ _ c.1 (guard_started b false (is_go way) false c.0 _ is c.1) inside)
          ∙ ap₂ (by_way way) (sym (after_inside ctx r held ∙ sym (on_by ctx (inner r) c.0 c.1))) (sym (kept_inside r held)));
      moved = λ ctx b r way at.
          let c = plain ctx in
          by_held b r at
          (λ held is away.
          ap₂ (λ i j. either i j) (guard_held b true (is_stay way) (is_go way) false c.0 _ is c.1)
          (body_away_moved ctx b (is_stay way) (is_go way) (is_go way && not c.0) c.0 _ _ c.1 (guard_started b true (is_go way) false c.0 _ is c.1) away)
          ∙ either_known (is_stay way || (is_go way && c.0)) ((is_go way && not c.0) && is_somewhere (body.walk.rest ctx mark.Zero))
          ∙ ap known_bit (hold_some c.0 way (body.walk.rest ctx mark.Zero))
          ∙ ap₂ (λ xs ys. known_bit (is_somewhere (by_way way xs ys))) (sym (after_held ctx r held ∙ rest_by ctx c.0 c.1)) (sym (kept_held r held)))
          (λ held is inside.
          ap₂ (λ i j. either i j) (guard_held b false (is_stay way) (is_go way) false c.0 _ is c.1)
          (body_moved ctx b (inner r) way c.0 _ _ c.1 (guard_started b false (is_go way) false c.0 _ is c.1) inside)
          ∙ either_known false (is_somewhere (by_way way (if c.0 then body.walk.kept (inner r) else body.walk.after ctx (inner r)) (body.walk.kept (inner r))))
          ∙ ap₂ (λ xs ys. known_bit (is_somewhere (by_way way xs ys))) (sym (after_inside ctx r held ∙ sym (on_by ctx (inner r) c.0 c.1))) (sym (kept_inside r held)));
    }
