-- Statements with one body or two sides that are resumed, and their nets, for all knowledge: the deeds that the walk comes
-- to are the walk's, and where control isn't, they are those of the start.
use Rattle.std.proofs.Common.{◌≡◌, ℕ, Bool, true, false, ◌&&◌, not, List, [], Some, None, refl, sym, ap, ap₂, ◌∙◌, if◌then◌else◌}
use Rattle.std.proofs.lemmas.Bool.{false≢true, and_parts}
use Rattle.qz_values.specs.declared.Know.{Know}
use Rattle.qz_values.specs.Knowledge.{both, either, opposite, choose_of}
use Rattle.qz_syntax.specs.declared.expressions.Expr.{Expr}
use Rattle.qz_syntax.specs.declared.statements.Kind.{Kind}
use Rattle.qz_syntax.specs.declared.places.Mark.TheVariants as mark
use Rattle.qz_syntax.specs.declared.places.Residual.{Residual}
use Rattle.qz_meaning.specs.Residuals.{inner, is_held, side_of}
use Rattle.qz_meaning.specs.Scenes.{Scene, Context, with_locals}
use Rattle.qz_meaning.specs.Expressions.{value_here}
use Rattle.qz_meaning.specs.Layouts.{PlaceBits, Layout, bare}
use Rattle.qz_meaning.specs.Simple.{pause, pause_layout}
use Rattle.qz_meaning.specs.Choices.{choice, choice_layout, at_side}
use Rattle.qz_meaning.specs.Loops.{loop, loop_layout}
use Rattle.qz_meaning.specs.Aborts.{abort, body_layout, body_guard, start_guard}
use Rattle.qz_meaning.specs.Suspends.{suspend, suspend_layout, ends_on_start, acts_on_start, is_at_hold}
use Rattle.qz_meaning.specs.Scopes.{scope, scope_layout}
use Rattle.qz_meaning.specs.Landings.{landing}
use Rattle.qz_control.specs.Leaves.{known_bit}
use Rattle.qz_control.specs.Guarded.{come_to, when, where_inside, goes}
use Rattle.qz_control.specs.Mirrors.{Walk, Mirror, passing_mirror, pause_mirror, scope_mirror}
use Rattle.qz_control.specs.MemberMirrors.{choice_mirror}
use Rattle.qz_control.specs.BodyMirrors.{loop_mirror, abort_mirror, suspend_mirror, hold_mirror}
use Rattle.qz_control.specs.Follows.{RestsAt, Resuming}
use Rattle.qz_control.proofs.Bits.{either_none, not_true, append-none, when_none, when_append, come_lively, joined, started}
use Rattle.qz_control.proofs.Insides.{fits_body, fits_scope, fits_side, fits_held}

pub resuming_passing : (walk : Walk) → Resuming (passing_mirror walk) bare
resuming_passing walk = record {
  away_inside = λ b h. refl;
  away_ended = λ b ctx h. refl;
  away_run = λ b ctx act g live h. come_lively live (walk.start ctx g mark.Zero);
  at_inside = λ b r h. absurd (false≢true h.at);
  at_ended = λ b r ctx h. absurd (false≢true h.at);
  at_run = λ b r ctx act g h. absurd (false≢true h.at);
}

pub resuming_pause : (place : ℕ) → Resuming (pause_mirror place (pause landing place)) (pause_layout place)
resuming_pause place = record {
  away_inside = λ b h. ap known_bit (not_true (b.place place) h);
  away_ended = λ b ctx h. ap known_bit (not_true (b.place place) h);
  away_run = λ b ctx act g live h. sym (when_none live);
  at_inside = λ b r h. ap known_bit h.at;
  at_ended = λ b r ctx h. ap known_bit h.at;
  at_run = λ b r ctx act g h. refl;
}

-- control rests in the body
pub rests_body : (l : Layout) (b : PlaceBits) (r : Residual) → RestsAt (body_layout l) b r → RestsAt l b (inner r)
rests_body l b r h = record { fits = fits_body l r h.fits; at = h.at }

module _ (scene : Scene) (condition : Expr) (body : Mirror) (l : Layout) (h : Resuming body l) where
  pub resuming_loop : (number : ℕ) → Resuming (loop_mirror scene number body condition (loop scene landing number body.walk condition)) (loop_layout number l)
  resuming_loop number = record {
    away_inside = λ b away. h.away_inside b away;
    away_ended = λ b ctx away.
        ap (λ k. where_inside k (both (body.ended ctx b) (opposite (value_here scene ctx condition)))) (h.away_inside b away);
    away_run = λ b ctx act g live away.
        joined (body.run ctx b act (known_bit live) g) _ _ [] (h.away_run b ctx act g live away)
        (started (body.inside b) false _ _ (h.away_inside b away) refl)
        ∙ append-none (when live (body.walk.start ctx g mark.Zero));
    at_inside = λ b r at. h.at_inside b (inner r) (record { fits = fits_body l r at.fits; at = at.at });
    at_ended = λ b r ctx at.
        let here : RestsAt l b (inner r) = record { fits = fits_body l r at.fits; at = at.at } in
        ap₂ (λ k e. where_inside k (both e (opposite (value_here scene ctx condition)))) (h.at_inside b (inner r) here) (h.at_ended b (inner r) ctx here);
    at_run = λ b r ctx act g at.
        let here : RestsAt l b (inner r) = record { fits = fits_body l r at.fits; at = at.at } in
        joined (body.run ctx b act (known_bit false) g) _ _ _ (h.at_run b (inner r) ctx act g here)
        (started (body.inside b) true _ _ (h.at_inside b (inner r) here)
        (ap (λ e. body.walk.start ctx (both (both act e) (value_here scene ctx condition)) (mark.Loop number)) (h.at_ended b (inner r) ctx here)));
  }

  pub resuming_abort : (kind : Kind) → Resuming (abort_mirror scene kind body condition (abort scene landing kind body.walk condition)) (body_layout l)
  resuming_abort kind = record {
    away_inside = λ b away. h.away_inside b away;
    away_ended = λ b ctx away.
        ap (λ k. where_inside k (either (value_here scene ctx condition) (body.ended ctx b))) (h.away_inside b away);
    away_run = λ b ctx act g live away.
        h.away_run b ctx (body_guard kind (value_here scene ctx condition) act) (start_guard kind (value_here scene ctx condition) g) live away;
    at_inside = λ b r at. h.at_inside b (inner r) (rests_body l b r at);
    at_ended = λ b r ctx at.
        ap₂ (λ k e. where_inside k (either (value_here scene ctx condition) e)) (h.at_inside b (inner r) (rests_body l b r at))
        (h.at_ended b (inner r) ctx (rests_body l b r at));
    at_run = λ b r ctx act g at.
        h.at_run b (inner r) ctx (body_guard kind (value_here scene ctx condition) act) (start_guard kind (value_here scene ctx condition) g) (rests_body l b r at);
  }

  pub resuming_later : (weak : Bool)
      → let kind : Kind = record { weak = weak; immediate = false } in
      Resuming (suspend_mirror scene kind body condition (suspend scene landing kind None body.walk condition)) (suspend_layout None l)
  resuming_later weak =
      let kind : Kind = record { weak = weak; immediate = false } in
      let inside : (b : PlaceBits) (r : Residual) → RestsAt (suspend_layout None l) b r → (is_held r ≡ false) × RestsAt l b (inner r)
      = λ b r at. in_body b r at in
      record {
        away_inside = λ b away. h.away_inside b away;
        away_ended = λ b ctx away.
            ap (λ k. where_inside k (both (opposite (value_here scene ctx condition)) (body.ended ctx b))) (h.away_inside b away);
        away_run = λ b ctx act g live away. h.away_run b ctx (body_guard kind (value_here scene ctx condition) act) g live away;
        at_inside = λ b r at. h.at_inside b (inner r) (inside b r at).1;
        at_ended = λ b r ctx at.
            let here = inside b r at in
            ap₂ (λ k e. where_inside k (both (opposite (value_here scene ctx condition)) e)) (h.at_inside b (inner r) here.1) (h.at_ended b (inner r) ctx here.1)
            ∙ ap (λ held. if held then ends_on_start scene kind body.walk condition ctx mark.Zero
            else both (opposite (value_here scene ctx condition)) (body.walk.ended ctx (inner r))) (sym here.0);
        at_run = λ b r ctx act g at.
            let here = inside b r at in
            h.at_run b (inner r) ctx (body_guard kind (value_here scene ctx condition) act) g here.1
            ∙ ap (λ held. if held then acts_on_start scene kind body.walk condition ctx act mark.Zero
            else body.walk.resume ctx (inner r) (body_guard kind (value_here scene ctx condition) act)) (sym here.0);
      }
    where
      in_body : (b : PlaceBits) (r : Residual) → RestsAt (suspend_layout None l) b r → (is_held r ≡ false) × RestsAt l b (inner r)
      in_body b r at = by (is_held r) refl at.at
        where
          by : (held : Bool) → is_held r ≡ held → (if held then is_at_hold b None && l.away b else not (is_at_hold b None) && l.at b (inner r)) ≡ true
              → (is_held r ≡ false) × RestsAt l b (inner r)
          by true is e = absurd (false≢true e)
          by false is e = (is, record { fits = fits_held None l r at.fits is; at = e })

  module _ (weak : Bool) (hold : ℕ) where
    abbrev kind : Kind
    kind = record { weak = weak; immediate = true }

    abbrev mirror : Mirror
    mirror = hold_mirror scene kind hold body condition (suspend scene landing kind (Some hold) body.walk condition)

    -- control is at the hold place, or in the body
    by_held : {A : Type 0} (b : PlaceBits) (r : Residual) → RestsAt (suspend_layout (Some hold) l) b r
        → (is_held r ≡ true → b.place hold ≡ true → l.away b ≡ true → A)
        → (is_held r ≡ false → b.place hold ≡ false → RestsAt l b (inner r) → A) → A
    by_held {A = A} b r at first second = by (is_held r) refl at.at
      where
        by : (held : Bool) → is_held r ≡ held → (if held then b.place hold && l.away b else not (b.place hold) && l.at b (inner r)) ≡ true → A
        by true is e = let parts = and_parts _ _ e in first is parts.0 parts.1
        by false is e =
            let parts = and_parts _ _ e in second is (not_true (b.place hold) parts.0) (record { fits = fits_held (Some hold) l r at.fits is; at = parts.1 })

    -- the deeds of the body, where the bit of the hold place is known
    at_bit : (b : PlaceBits) (ctx : Context) (act live g : Know) (x : Bool) → b.place hold ≡ x
        → come_to (mirror.run ctx b act live g)
        ≡ come_to (body.run ctx b (body_guard kind (value_here scene ctx condition) act) (either live (known_bit x))
        (start_guard kind (value_here scene ctx condition) (choose_of (known_bit x) act g)))
    at_bit b ctx act live g x is =
        ap (λ i. come_to (body.run ctx b (body_guard kind (value_here scene ctx condition) act) (either live (known_bit i))
        (start_guard kind (value_here scene ctx condition) (choose_of (known_bit i) act g)))) is

    ended_at : (b : PlaceBits) (ctx : Context) (x : Bool) → b.place hold ≡ x
        → mirror.ended ctx b
        ≡ choose_of (known_bit x) (both (opposite (value_here scene ctx condition)) (body.walk.ends ctx mark.Zero))
        (where_inside (body.inside b) (both (opposite (value_here scene ctx condition)) (body.ended ctx b)))
    ended_at b ctx x is =
        ap (λ i. choose_of (known_bit i) (both (opposite (value_here scene ctx condition)) (body.walk.ends ctx mark.Zero))
        (where_inside (body.inside b) (both (opposite (value_here scene ctx condition)) (body.ended ctx b)))) is

    pub resuming_held : Resuming mirror (suspend_layout (Some hold) l)
    resuming_held = record {
      away_inside = λ b away.
          let parts = and_parts (not (b.place hold)) (l.away b) away in
          ap₂ (λ x y. either (known_bit x) y) (not_true (b.place hold) parts.0) (h.away_inside b parts.1);
      away_ended = λ b ctx away.
          let parts = and_parts (not (b.place hold)) (l.away b) away in
          ended_at b ctx false (not_true (b.place hold) parts.0)
          ∙ ap (λ y. where_inside y (both (opposite (value_here scene ctx condition)) (body.ended ctx b))) (h.away_inside b parts.1);
      away_run = λ b ctx act g live away.
          let parts = and_parts (not (b.place hold)) (l.away b) away in
          at_bit b ctx act (known_bit live) g false (not_true (b.place hold) parts.0)
          ∙ ap (λ k. come_to (body.run ctx b (body_guard kind (value_here scene ctx condition) act) k (start_guard kind (value_here scene ctx condition) g))) (either_none live)
          ∙ h.away_run b ctx (body_guard kind (value_here scene ctx condition) act) (start_guard kind (value_here scene ctx condition) g) live parts.1;
      at_inside = λ b r at. by_held b r at
          (λ held is away. ap₂ (λ x y. either (known_bit x) y) is (h.away_inside b away))
          (λ held is inside. ap₂ (λ x y. either (known_bit x) y) is (h.at_inside b (inner r) inside));
      at_ended = λ b r ctx at. by_held b r at
          (λ held is away.
          ended_at b ctx true is
          ∙ ap (λ x. if x then ends_on_start scene kind body.walk condition ctx mark.Zero
          else both (opposite (value_here scene ctx condition)) (body.walk.ended ctx (inner r))) (sym held))
          (λ held is inside.
          ended_at b ctx false is
          ∙ ap₂ (λ k e. where_inside k (both (opposite (value_here scene ctx condition)) e)) (h.at_inside b (inner r) inside) (h.at_ended b (inner r) ctx inside)
          ∙ ap (λ x. if x then ends_on_start scene kind body.walk condition ctx mark.Zero
          else both (opposite (value_here scene ctx condition)) (body.walk.ended ctx (inner r))) (sym held));
      at_run = λ b r ctx act g at. by_held b r at
          (λ held is away.
          at_bit b ctx act (known_bit false) g true is
          ∙ h.away_run b ctx (body_guard kind (value_here scene ctx condition) act) (start_guard kind (value_here scene ctx condition) act) true away
          ∙ ap (λ x. if x then acts_on_start scene kind body.walk condition ctx act mark.Zero
          else body.walk.resume ctx (inner r) (body_guard kind (value_here scene ctx condition) act)) (sym held))
          (λ held is inside.
          at_bit b ctx act (known_bit false) g false is
          ∙ h.at_run b (inner r) ctx (body_guard kind (value_here scene ctx condition) act) (start_guard kind (value_here scene ctx condition) g) inside
          ∙ ap (λ x. if x then acts_on_start scene kind body.walk condition ctx act mark.Zero
          else body.walk.resume ctx (inner r) (body_guard kind (value_here scene ctx condition) act)) (sym held));
    }

pub resuming_scope : (locals : List ℕ) (body : Mirror) (l : Layout) → Resuming body l
    → Resuming (scope_mirror locals body (scope landing locals body.walk)) (scope_layout locals l)
resuming_scope locals body l h = record {
  away_inside = λ b away. h.away_inside b away;
  away_ended = λ b ctx away. h.away_ended b (with_locals ctx locals mark.Zero) away;
  away_run = λ b ctx act g live away. h.away_run b (with_locals ctx locals mark.Zero) act g live away;
  at_inside = λ b r at. h.at_inside b (inner r) (record { fits = fits_scope locals l r at.fits; at = at.at });
  at_ended = λ b r ctx at. h.at_ended b (inner r) (with_locals ctx locals mark.Zero) (record { fits = fits_scope locals l r at.fits; at = at.at });
  at_run = λ b r ctx act g at. h.at_run b (inner r) (with_locals ctx locals mark.Zero) act g (record { fits = fits_scope locals l r at.fits; at = at.at });
}

-- control rests in the first side, or in the second
pub by_side : {A : Type 0} (first second : Layout) (b : PlaceBits) (r : Residual) → RestsAt (choice_layout first second) b r
    → (side_of r ≡ true → RestsAt first b (inner r) → second.away b ≡ true → A)
    → (side_of r ≡ false → first.away b ≡ true → RestsAt second b (inner r) → A) → A
by_side {A = A} first second b r at one two = by (side_of r) refl at.at
  where
    by : (side : Bool) → side_of r ≡ side → at_side b first second side (inner r) ≡ true → A
    by true is e = let parts = and_parts _ _ e in one is (record { fits = fits_side first second r at.fits true is; at = parts.0 }) parts.1
    by false is e = let parts = and_parts _ _ e in two is parts.0 (record { fits = fits_side first second r at.fits false is; at = parts.1 })

module _ (scene : Scene) (condition : Expr) (first second : Mirror) (l m : Layout) (h : Resuming first l) (k : Resuming second m) where
  pub resuming_choice : Resuming (choice_mirror scene condition first second (choice scene landing condition first.walk second.walk)) (choice_layout l m)
  resuming_choice = record {
    away_inside = λ b away.
        let parts = and_parts (l.away b) (m.away b) away in ap₂ (λ x y. either x y) (h.away_inside b parts.0) (k.away_inside b parts.1);
    away_ended = λ b ctx away.
        let parts = and_parts (l.away b) (m.away b) away in
        ap (λ x. choose_of x (first.ended ctx b) (second.ended ctx b)) (h.away_inside b parts.0) ∙ k.away_ended b ctx parts.1;
    away_run = λ b ctx act g live away.
        let parts = and_parts (l.away b) (m.away b) away in
        let c = value_here scene ctx condition in
        joined (first.run ctx b act (known_bit live) (both g c)) _ _ _ (h.away_run b ctx act (both g c) live parts.0) (k.away_run b ctx act (goes c g) live parts.1)
        ∙ when_append live (first.walk.start ctx (both g c) mark.Zero) (second.walk.start ctx (goes c g) mark.Zero);
    at_inside = λ b r at. by_side l m b r at
        (λ side here away. ap₂ (λ x y. either x y) (h.at_inside b (inner r) here) (k.away_inside b away))
        (λ side away here. ap₂ (λ x y. either x y) (h.away_inside b away) (k.at_inside b (inner r) here));
    at_ended = λ b r ctx at. by_side l m b r at
        (λ side here away.
        ap₂ (λ x y. choose_of x y (second.ended ctx b)) (h.at_inside b (inner r) here) (h.at_ended b (inner r) ctx here)
        ∙ ap (λ (s : Bool). (if s then first.walk else second.walk).ended ctx (inner r)) (sym side))
        (λ side away here.
        ap (λ x. choose_of x (first.ended ctx b) (second.ended ctx b)) (h.away_inside b away) ∙ k.at_ended b (inner r) ctx here
        ∙ ap (λ (s : Bool). (if s then first.walk else second.walk).ended ctx (inner r)) (sym side));
    at_run = λ b r ctx act g at.
        let c = value_here scene ctx condition in
        by_side l m b r at
        (λ side here away.
        joined (first.run ctx b act (known_bit false) (both g c)) _ _ [] (h.at_run b (inner r) ctx act (both g c) here) (k.away_run b ctx act (goes c g) false away)
        ∙ append-none (first.walk.resume ctx (inner r) act)
        ∙ ap (λ (s : Bool). (if s then first.walk else second.walk).resume ctx (inner r) act) (sym side))
        (λ side away here.
        joined (first.run ctx b act (known_bit false) (both g c)) _ [] _ (h.away_run b ctx act (both g c) false away) (k.at_run b (inner r) ctx act (goes c g) here)
        ∙ ap (λ (s : Bool). (if s then first.walk else second.walk).resume ctx (inner r) act) (sym side));
  }
