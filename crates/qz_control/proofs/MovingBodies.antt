-- Where control goes on resuming in a loop and an abort, and its nets, where every condition is plain.
use Rattle.std.proofs.Common.{◌≡◌, ℕ, Bool, true, false, ◌&&◌, ◌||◌, not, List, [], ◌++◌, refl, sym, ap, ap₂, ◌∙◌, if◌then◌else◌}
use Rattle.std.proofs.lemmas.Bool.{and_parts}
use Rattle.qz_values.specs.declared.Know.{Know}
use Rattle.qz_values.specs.Knowledge.{both, either, opposite, knows_yes}
use Rattle.qz_syntax.specs.declared.expressions.Expr.{Expr}
use Rattle.qz_syntax.specs.declared.statements.Kind.{Kind}
use Rattle.qz_syntax.specs.declared.places.Mark.TheVariants as mark
use Rattle.qz_syntax.specs.declared.places.Residual.{Residual}
use Rattle.qz_meaning.specs.Residuals.{inner}
use Rattle.qz_meaning.specs.Scenes.{Scene, Context}
use Rattle.qz_meaning.specs.Expressions.{value_here}
use Rattle.qz_meaning.specs.Layouts.{PlaceBits, Layout}
use Rattle.qz_meaning.specs.Loops.{loop, loop_layout}
use Rattle.qz_meaning.specs.Aborts.{abort, body_layout}
use Rattle.qz_meaning.specs.Landings.{Spot, landing}
use Rattle.qz_meaning.specs.Carrying.{is_somewhere}
use Rattle.qz_control.specs.Leaves.{known_bit}
use Rattle.qz_control.specs.Guarded.{chosen, when, goes, stays, Way, Stays, Goes, Leaves, is_stay, is_go, by_way}
use Rattle.qz_control.specs.Mirrors.{Mirror}
use Rattle.qz_control.specs.BodyMirrors.{loop_mirror, abort_mirror}
use Rattle.qz_control.specs.Follows.{RestsAt, Starting, Resuming, Moving}
use Rattle.qz_control.proofs.Bits.{both_known, either_known, either_none, opposite_known, knows_known, bit_from, not_true, or_false, append-none, chosen_both}
use Rattle.qz_control.proofs.Insides.{fits_body}
use Rattle.qz_control.proofs.Resuming.{rests_body}
use Rattle.qz_control.proofs.Starting.{goes_plain, if_plain, when_left, somewhere_left, left_gone}

-- where the condition holds, control that would go on stays, or leaves
abbrev pub held_by : Bool → Way → Way
held_by true Stays = Stays
held_by true Goes = Stays
held_by true Leaves = Leaves
held_by false way = way

abbrev pub left_by : Bool → Way → Way
left_by true Stays = Stays
left_by true Goes = Leaves
left_by true Leaves = Leaves
left_by false way = way

pub stays_by : (c : Bool) (way : Way) (k : Know) → k ≡ known_bit c → stays k (known_bit (is_stay way)) (known_bit (is_go way)) ≡ known_bit (is_stay (held_by c way))
stays_by c way k is = ap (λ x. stays x (known_bit (is_stay way)) (known_bit (is_go way))) is ∙ by c way
  where
    by : (c : Bool) (way : Way) → stays (known_bit c) (known_bit (is_stay way)) (known_bit (is_go way)) ≡ known_bit (is_stay (held_by c way))
    by true Stays = refl
    by true Goes = refl
    by true Leaves = refl
    by false Stays = refl
    by false Goes = refl
    by false Leaves = refl

pub goes_by : (c : Bool) (way : Way) (k : Know) → k ≡ known_bit c → goes k (known_bit (is_go way)) ≡ known_bit (is_go (held_by c way))
goes_by c way k is = ap (λ x. goes x (known_bit (is_go way))) is ∙ by c way
  where
    by : (c : Bool) (way : Way) → goes (known_bit c) (known_bit (is_go way)) ≡ known_bit (is_go (held_by c way))
    by true Stays = refl
    by true Goes = refl
    by true Leaves = refl
    by false Stays = refl
    by false Goes = refl
    by false Leaves = refl

pub way_by : (c : Bool) (way : Way) (after kept : List Spot) → by_way (held_by c way) after kept ≡ by_way way (if c then kept else after) kept
way_by true Stays after kept = refl
way_by true Goes after kept = refl
way_by true Leaves after kept = refl
way_by false way after kept = refl

stay_left : (c : Bool) (way : Way) → known_bit (is_stay way) ≡ known_bit (is_stay (left_by c way))
stay_left true Stays = refl
stay_left true Goes = refl
stay_left true Leaves = refl
stay_left false way = refl

goes_left : (c : Bool) (way : Way) (k : Know) → k ≡ known_bit c → goes k (known_bit (is_go way)) ≡ known_bit (is_go (left_by c way))
goes_left c way k is = ap (λ x. goes x (known_bit (is_go way))) is ∙ by c way
  where
    by : (c : Bool) (way : Way) → goes (known_bit c) (known_bit (is_go way)) ≡ known_bit (is_go (left_by c way))
    by true Stays = refl
    by true Goes = refl
    by true Leaves = refl
    by false Stays = refl
    by false Goes = refl
    by false Leaves = refl

way_left : (c : Bool) (way : Way) (after kept : List Spot) → by_way (left_by c way) after kept ≡ by_way way (if c then [] else after) kept
way_left true Stays after kept = refl
way_left true Goes after kept = refl
way_left true Leaves after kept = refl
way_left false way after kept = refl

pub stays_plain : (c stay go : Bool) (k : Know) → k ≡ known_bit c → stays k (known_bit stay) (known_bit go) ≡ known_bit (stay || (go && c))
stays_plain c stay go k is =
    ap (λ x. stays x (known_bit stay) (known_bit go)) is ∙ ap (either (known_bit stay)) (both_known go c) ∙ either_known stay (go && c)

module _ (scene : Scene) (condition : Expr) (plain : (ctx : Context) → (b : Bool) × (value_here scene ctx condition ≡ known_bit b))
    (body : Mirror) (l : Layout) (s : Starting body) (q : Resuming body l) (h : Moving body l) where
  -- loops
  module _ (number : ℕ) where
    -- the guard of the turn, from whether the body ends and the condition holds
    turn : (go e c : Bool) (x y : Know) → x ≡ known_bit e → y ≡ known_bit c → both (known_bit go) (both x y) ≡ known_bit (go && (e && c))
    turn go e c x y i j = ap₂ (λ k l. both (known_bit go) (both k l)) i j ∙ ap (both (known_bit go)) (both_known e c) ∙ both_known go (e && c)

    no_turn : (go c : Bool) → (go && (false && c)) ≡ false
    no_turn true c = refl
    no_turn false c = refl

    -- moved as it was, or started again: the two exclude each other
    turned : (way : Way) (e c : Bool) (after kept again : List Spot) → (e ≡ true → after ≡ [])
        → by_way way after kept ++ when (is_go way && (e && c)) again ≡ by_way way (if e && c then again else after) kept
    turned Stays e c after kept again none = append-none kept
    turned Goes true true after kept again none = ap (λ i. i ++ again) (none refl)
    turned Goes true false after kept again none = append-none after
    turned Goes false c after kept again none = append-none after
    turned Leaves e c after kept again none = refl

    some_turned : (way : Way) (e c : Bool) (after kept again : List Spot) → (e ≡ true → after ≡ [])
        → (is_somewhere (by_way way after kept) || ((is_go way && (e && c)) && is_somewhere again)) ≡ is_somewhere (by_way way (if e && c then again else after) kept)
    some_turned Stays e c after kept again none = or_false (is_somewhere kept)
    some_turned Goes true true after kept again none = ap (λ i. is_somewhere i || is_somewhere again) (none refl)
    some_turned Goes true false after kept again none = or_false (is_somewhere after)
    some_turned Goes false c after kept again none = or_false (is_somewhere after)
    some_turned Leaves e c after kept again none = refl

    -- whether it turns, as a bit
    turns_if : (ctx : Context) (r : Residual) (e c : Bool) → body.walk.ended ctx (inner r) ≡ known_bit e → value_here scene ctx condition ≡ known_bit c
        → knows_yes (both (body.walk.ended ctx (inner r)) (value_here scene ctx condition)) ≡ (e && c)
    turns_if ctx r e c i j = ap₂ (λ k l. knows_yes (both k l)) i j ∙ ap knows_yes (both_known e c) ∙ knows_known (e && c)

    ended_by : (ctx : Context) (r : Residual) (e c : Bool) → body.walk.ended ctx (inner r) ≡ known_bit e → value_here scene ctx condition ≡ known_bit c
        → both (body.walk.ended ctx (inner r)) (opposite (value_here scene ctx condition)) ≡ known_bit (e && not c)
    ended_by ctx r e c i j = ap₂ (λ k l. both k (opposite l)) i j ∙ ap (both (known_bit e)) (opposite_known c) ∙ both_known e (not c)

    inside : (b : PlaceBits) (r : Residual) → RestsAt (loop_layout number l) b r → RestsAt l b (inner r)
    inside b r at = record { fits = fits_body l r at.fits; at = at.at }

    pub moving_loop : Moving (loop_mirror scene number body condition (loop scene landing number body.walk condition)) (loop_layout number l)
    moving_loop = record {
      plain = λ ctx b r at.
          let e = h.plain ctx b (inner r) (inside b r at) in
          let c = plain ctx in
          (e.0 && not c.0, ended_by ctx r e.0 c.0 e.1 c.1);
      gone = λ ctx b r at is.
          let e = h.plain ctx b (inner r) (inside b r at) in
          let c = plain ctx in
          let parts = and_parts e.0 (not c.0) (bit_from _ _ (sym (ended_by ctx r e.0 c.0 e.1 c.1) ∙ is)) in
          ap (λ x. if x then body.walk.rest ctx (mark.Loop number) else body.walk.after ctx (inner r))
          (turns_if ctx r e.0 c.0 e.1 c.1 ∙ ap₂ (λ x y. x && y) parts.0 (not_true c.0 parts.1))
          ∙ h.gone ctx b (inner r) (inside b r at) (e.1 ∙ ap known_bit parts.0);
      away = λ ctx b stay go g away.
          let c = plain ctx in
          chosen_both (body.move ctx b (known_bit stay) (known_bit go) (known_bit g)) _ _ [] (h.away ctx b stay go g away)
          (ap (λ k. chosen (body.enter ctx (mark.Loop number) k)) (turn go false c.0 _ _ (q.away_ended b ctx away) c.1 ∙ ap known_bit (no_turn go c.0))
          ∙ s.enters ctx (mark.Loop number) false)
          ∙ append-none _;
      away_moved = λ ctx b stay go g away.
          let c = plain ctx in
          ap₂ (λ i j. either i j) (h.away_moved ctx b stay go g away)
          (ap (λ k. body.rests ctx (mark.Loop number) k) (turn go false c.0 _ _ (q.away_ended b ctx away) c.1 ∙ ap known_bit (no_turn go c.0))
          ∙ s.rests ctx (mark.Loop number) false)
          ∙ either_none (g && is_somewhere (body.walk.rest ctx mark.Zero));
      moves = λ ctx b r way at.
          let here = inside b r at in
          let e = h.plain ctx b (inner r) here in
          let c = plain ctx in
          chosen_both (body.move ctx b (known_bit (is_stay way)) (known_bit (is_go way)) (known_bit false)) _ _ _ (h.moves ctx b (inner r) way here)
          (ap (λ k. chosen (body.enter ctx (mark.Loop number) k)) (turn (is_go way) e.0 c.0 _ _ (q.at_ended b (inner r) ctx here ∙ e.1) c.1)
          ∙ s.enters ctx (mark.Loop number) (is_go way && (e.0 && c.0)))
          ∙ turned way e.0 c.0 _ _ _ (λ so. h.gone ctx b (inner r) here (e.1 ∙ ap known_bit so))
          ∙ ap (λ x. by_way way (if x then body.walk.rest ctx (mark.Loop number) else body.walk.after ctx (inner r)) (body.walk.kept (inner r)))
          (sym (turns_if ctx r e.0 c.0 e.1 c.1));
      moved = λ ctx b r way at.
          let here = inside b r at in
          let e = h.plain ctx b (inner r) here in
          let c = plain ctx in
          ap₂ (λ i j. either i j) (h.moved ctx b (inner r) way here)
          (ap (λ k. body.rests ctx (mark.Loop number) k) (turn (is_go way) e.0 c.0 _ _ (q.at_ended b (inner r) ctx here ∙ e.1) c.1)
          ∙ s.rests ctx (mark.Loop number) (is_go way && (e.0 && c.0)))
          ∙ either_known (is_somewhere (by_way way (body.walk.after ctx (inner r)) (body.walk.kept (inner r))))
          ((is_go way && (e.0 && c.0)) && is_somewhere (body.walk.rest ctx (mark.Loop number)))
          ∙ ap known_bit (some_turned way e.0 c.0 _ _ _ (λ so. h.gone ctx b (inner r) here (e.1 ∙ ap known_bit so)))
          ∙ ap (λ x. known_bit (is_somewhere (by_way way (if x then body.walk.rest ctx (mark.Loop number) else body.walk.after ctx (inner r)) (body.walk.kept (inner r)))))
          (sym (turns_if ctx r e.0 c.0 e.1 c.1));
    }

  -- aborts
  module _ (kind : Kind) where
    abbrev aborted : Mirror
    aborted = abort_mirror scene kind body condition (abort scene landing kind body.walk condition)

    -- the guard with which the body's control is kept, and where it then rests
    kept_plain : (now c g : Bool) (k : Know) → k ≡ known_bit c → (if now then goes k (known_bit g) else known_bit g) ≡ known_bit (g && not (now && c))
    kept_plain true c g k is = goes_plain g c k is
    kept_plain false c true k is = refl
    kept_plain false c false k is = refl

    rest_plain : (now c : Bool) (k : Know) (xs : List Spot) → k ≡ known_bit c → (if now then (if knows_yes k then [] else xs) else xs) ≡ (if now && c then [] else xs)
    rest_plain true c k xs is = if_plain c k [] xs is
    rest_plain false c k xs is = refl

    -- control that goes on, and the start that isn't made
    abort_moves : (ctx : Context) (b : PlaceBits) (r : Residual) (way : Way) (c : Bool) (k : Know) → k ≡ known_bit c → RestsAt l b r
        → chosen (body.move ctx b (known_bit (is_stay way)) (goes k (known_bit (is_go way))) (if kind.immediate then goes k (known_bit false) else known_bit false))
        ≡ by_way way (if c then [] else body.walk.after ctx r) (body.walk.kept r)
    abort_moves ctx b r way c k is at =
        ap₂ (λ i j. chosen (body.move ctx b i j (if kind.immediate then goes k (known_bit false) else known_bit false))) (stay_left c way) (goes_left c way k is)
        ∙ ap (λ i. chosen (body.move ctx b (known_bit (is_stay (left_by c way))) (known_bit (is_go (left_by c way))) i)) (kept_plain kind.immediate c false k is)
        ∙ h.moves ctx b r (left_by c way) at ∙ way_left c way _ _

    abort_moved : (ctx : Context) (b : PlaceBits) (r : Residual) (way : Way) (c : Bool) (k : Know) → k ≡ known_bit c → RestsAt l b r
        → body.moved ctx b (known_bit (is_stay way)) (goes k (known_bit (is_go way))) (if kind.immediate then goes k (known_bit false) else known_bit false)
        ≡ known_bit (is_somewhere (by_way way (if c then [] else body.walk.after ctx r) (body.walk.kept r)))
    abort_moved ctx b r way c k is at =
        ap₂ (λ i j. body.moved ctx b i j (if kind.immediate then goes k (known_bit false) else known_bit false)) (stay_left c way) (goes_left c way k is)
        ∙ ap (λ i. body.moved ctx b (known_bit (is_stay (left_by c way))) (known_bit (is_go (left_by c way))) i) (kept_plain kind.immediate c false k is)
        ∙ h.moved ctx b r (left_by c way) at ∙ ap (λ xs. known_bit (is_somewhere xs)) (way_left c way _ _)

    pub moving_abort : Moving aborted (body_layout l)
    moving_abort = record {
      plain = λ ctx b r at.
          let c = plain ctx in
          let e = h.plain ctx b (inner r) (rests_body l b r at) in
          (c.0 || e.0, ap₂ (λ i j. either i j) c.1 e.1 ∙ either_known c.0 e.0);
      gone = λ ctx b r at is.
          let c = plain ctx in
          let e = h.plain ctx b (inner r) (rests_body l b r at) in
          if_plain c.0 _ [] (body.walk.after ctx (inner r)) c.1
          ∙ left_gone c.0 e.0 _ (bit_from _ _ (sym (ap₂ (λ i j. either i j) c.1 e.1 ∙ either_known c.0 e.0) ∙ is))
          (λ so. h.gone ctx b (inner r) (rests_body l b r at) (e.1 ∙ ap known_bit so));
      away = λ ctx b stay go g away.
          let c = plain ctx in
          ap₂ (λ i j. chosen (body.move ctx b (known_bit stay) i j)) (goes_plain go c.0 _ c.1) (kept_plain kind.immediate c.0 g _ c.1)
          ∙ h.away ctx b stay (go && not c.0) (g && not (kind.immediate && c.0)) away
          ∙ when_left g (kind.immediate && c.0) _ ∙ ap (when g) (sym (rest_plain kind.immediate c.0 _ (body.walk.rest ctx mark.Zero) c.1));
      away_moved = λ ctx b stay go g away.
          let c = plain ctx in
          ap₂ (λ i j. body.moved ctx b (known_bit stay) i j) (goes_plain go c.0 _ c.1) (kept_plain kind.immediate c.0 g _ c.1)
          ∙ h.away_moved ctx b stay (go && not c.0) (g && not (kind.immediate && c.0)) away
          ∙ ap known_bit (somewhere_left g (kind.immediate && c.0) _)
          ∙ ap (λ xs. known_bit (g && is_somewhere xs)) (sym (rest_plain kind.immediate c.0 _ (body.walk.rest ctx mark.Zero) c.1));
      moves = λ ctx b r way at.
          let c = plain ctx in
          abort_moves ctx b (inner r) way c.0 _ c.1 (rests_body l b r at)
          ∙ ap (λ xs. by_way way xs (body.walk.kept (inner r))) (sym (if_plain c.0 _ [] (body.walk.after ctx (inner r)) c.1));
      moved = λ ctx b r way at.
          let c = plain ctx in
          abort_moved ctx b (inner r) way c.0 _ c.1 (rests_body l b r at)
          ∙ ap (λ xs. known_bit (is_somewhere (by_way way xs (body.walk.kept (inner r))))) (sym (if_plain c.0 _ [] (body.walk.after ctx (inner r)) c.1));
    }
