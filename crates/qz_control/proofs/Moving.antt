-- Where control goes on resuming in a pause, a scope, a choice, a loop and an abort, and its nets, where every condition is
-- plain.
use Rattle.std.proofs.Common.{◌≡◌, ℕ, Bool, true, false, ◌&&◌, not, List, [], ◌∷◌, ◌++◌, refl, sym, ap, ap₂, ◌∙◌, if◌then◌else◌}
use Rattle.std.proofs.lemmas.Bool.{false≢true, and_parts}
use Rattle.qz_values.specs.declared.Know.{Know}
use Rattle.qz_values.specs.Knowledge.{both, either}
use Rattle.qz_syntax.specs.declared.expressions.Expr.{Expr}
use Rattle.qz_syntax.specs.declared.places.Mark.TheVariants as mark
use Rattle.qz_syntax.specs.declared.places.Residual.{Residual}
use Rattle.qz_meaning.specs.Residuals.{inner, side_of}
use Rattle.qz_meaning.specs.Scenes.{Scene, Context, with_locals}
use Rattle.qz_meaning.specs.Expressions.{value_here}
use Rattle.qz_meaning.specs.Layouts.{PlaceBits, Layout, bare}
use Rattle.qz_meaning.specs.Simple.{pause, pause_layout}
use Rattle.qz_meaning.specs.Choices.{choice, choice_layout}
use Rattle.qz_meaning.specs.Scopes.{scope, scope_layout}
use Rattle.qz_meaning.specs.Landings.{Spot, At, keeps, scoped, landing}
use Rattle.qz_meaning.specs.Carrying.{is_somewhere}
use Rattle.qz_control.specs.Leaves.{known_bit}
use Rattle.qz_control.specs.Guarded.{chosen, keeps_where, when, Way, Stays, Goes, Leaves, is_stay, is_go, by_way}
use Rattle.qz_control.specs.Mirrors.{Walk, Mirror, passing_mirror, pause_mirror, scope_mirror}
use Rattle.qz_control.specs.MemberMirrors.{choice_mirror}
use Rattle.qz_control.specs.Follows.{RestsAt, Moving}
use Rattle.qz_control.proofs.Bits.{either_known, not_true, or_false, append-none, when_none, chosen_both, chosen_keeps}
use Rattle.qz_control.proofs.Insides.{fits_scope}
use Rattle.qz_control.proofs.Resuming.{by_side}
use Rattle.qz_control.proofs.Starting.{scoped_somewhere, scoped_when, and_plain, goes_plain, if_plain, when_picked, somewhere_picked}

pub moving_passing : (walk : Walk) → ((ctx : Context) → walk.rest ctx mark.Zero ≡ []) → Moving (passing_mirror walk) bare
moving_passing walk rest = record {
  plain = λ ctx b r at. absurd (false≢true at.at);
  gone = λ ctx b r at. absurd (false≢true at.at);
  away = λ ctx b stay go g h. sym (when_none g) ∙ ap (when g) (sym (rest ctx));
  away_moved = λ ctx b stay go g h. none g ∙ ap (λ xs. known_bit (g && is_somewhere xs)) (sym (rest ctx));
  moves = λ ctx b r way at. absurd (false≢true at.at);
  moved = λ ctx b r way at. absurd (false≢true at.at);
}
  where
    none : (g : Bool) → known_bit false ≡ known_bit (g && false)
    none true = refl
    none false = refl

pub moving_pause : (place : ℕ) → Moving (pause_mirror place (pause landing place)) (pause_layout place)
moving_pause place = record {
  plain = λ ctx b r at. (true, refl);
  gone = λ ctx b r at is. refl;
  away = λ ctx b stay go g h. ap (λ x. chosen ((At place, either (both (known_bit x) (known_bit stay)) (known_bit g)) ∷ [])) (not_true (b.place place) h) ∙ none stay g;
  away_moved = λ ctx b stay go g h. ap (λ x. either (both (known_bit x) (known_bit stay)) (known_bit g)) (not_true (b.place place) h) ∙ none_moved stay g;
  moves = λ ctx b r way at. ap (λ x. chosen ((At place, either (both (known_bit x) (known_bit (is_stay way))) (known_bit false)) ∷ [])) at.at ∙ one way;
  moved = λ ctx b r way at. ap (λ x. either (both (known_bit x) (known_bit (is_stay way))) (known_bit false)) at.at ∙ one_moved way;
}
  where
    none : (stay g : Bool) → chosen ((At place, either (both (known_bit false) (known_bit stay)) (known_bit g)) ∷ []) ≡ when g (At place ∷ [])
    none true true = refl
    none true false = refl
    none false true = refl
    none false false = refl

    none_moved : (stay g : Bool) → either (both (known_bit false) (known_bit stay)) (known_bit g) ≡ known_bit (g && true)
    none_moved true true = refl
    none_moved true false = refl
    none_moved false true = refl
    none_moved false false = refl

    one : (way : Way) → chosen ((At place, either (both (known_bit true) (known_bit (is_stay way))) (known_bit false)) ∷ []) ≡ by_way way [] (At place ∷ [])
    one Stays = refl
    one Goes = refl
    one Leaves = refl

    one_moved : (way : Way) → either (both (known_bit true) (known_bit (is_stay way))) (known_bit false) ≡ known_bit (is_somewhere (by_way way [] (At place ∷ [])))
    one_moved Stays = refl
    one_moved Goes = refl
    one_moved Leaves = refl

-- scopes
scoped_once : (locals : List ℕ) (xs : List Spot) → xs ++ when (is_somewhere xs) (keeps locals mark.Zero) ≡ scoped locals mark.Zero xs
scoped_once locals [] = refl
scoped_once locals (x ∷ xs) = refl

scoped_way : (locals : List ℕ) (way : Way) (after kept : List Spot)
    → scoped locals mark.Zero (by_way way after kept) ≡ by_way way (scoped locals mark.Zero after) (scoped locals mark.Zero kept)
scoped_way locals Stays after kept = refl
scoped_way locals Goes after kept = refl
scoped_way locals Leaves after kept = refl

pub moving_scope : (locals : List ℕ) (body : Mirror) (l : Layout) → Moving body l
    → Moving (scope_mirror locals body (scope landing locals body.walk)) (scope_layout locals l)
moving_scope locals body l h =
    let inside : (b : PlaceBits) (r : Residual) → RestsAt (scope_layout locals l) b r → RestsAt l b (inner r)
    = λ b r at. record { fits = fits_scope locals l r at.fits; at = at.at } in
    record {
      plain = λ ctx b r at. h.plain (with_locals ctx locals mark.Zero) b (inner r) (inside b r at);
      gone = λ ctx b r at is. ap (scoped locals mark.Zero) (h.gone (with_locals ctx locals mark.Zero) b (inner r) (inside b r at) is);
      away = λ ctx b stay go g away.
          let c = with_locals ctx locals mark.Zero in
          chosen_both (body.move c b (known_bit stay) (known_bit go) (known_bit g)) _ _ _ (h.away c b stay go g away)
          (ap (λ k. chosen (keeps_where locals mark.Zero k)) (h.away_moved c b stay go g away) ∙ chosen_keeps locals mark.Zero (g && is_somewhere (body.walk.rest c mark.Zero)))
          ∙ scoped_when locals mark.Zero g (body.walk.rest c mark.Zero);
      away_moved = λ ctx b stay go g away.
          let c = with_locals ctx locals mark.Zero in
          h.away_moved c b stay go g away ∙ ap (λ x. known_bit (g && x)) (sym (scoped_somewhere locals mark.Zero (body.walk.rest c mark.Zero)));
      moves = λ ctx b r way at.
          let c = with_locals ctx locals mark.Zero in
          let xs = by_way way (body.walk.after c (inner r)) (body.walk.kept (inner r)) in
          chosen_both (body.move c b (known_bit (is_stay way)) (known_bit (is_go way)) (known_bit false)) _ _ _ (h.moves c b (inner r) way (inside b r at))
          (ap (λ k. chosen (keeps_where locals mark.Zero k)) (h.moved c b (inner r) way (inside b r at)) ∙ chosen_keeps locals mark.Zero (is_somewhere xs))
          ∙ scoped_once locals xs ∙ scoped_way locals way (body.walk.after c (inner r)) (body.walk.kept (inner r));
      moved = λ ctx b r way at.
          let c = with_locals ctx locals mark.Zero in
          let xs = by_way way (body.walk.after c (inner r)) (body.walk.kept (inner r)) in
          h.moved c b (inner r) way (inside b r at) ∙ ap known_bit (sym (scoped_somewhere locals mark.Zero xs)
          ∙ ap is_somewhere (scoped_way locals way (body.walk.after c (inner r)) (body.walk.kept (inner r))));
    }

module _ (scene : Scene) (condition : Expr) (plain : (ctx : Context) → (b : Bool) × (value_here scene ctx condition ≡ known_bit b)) where
  -- choices: the side that isn't inside is away and isn't started
  module _ (first second : Mirror) (l m : Layout) (h : Moving first l) (k : Moving second m) where
    pub moving_choice : Moving (choice_mirror scene condition first second (choice scene landing condition first.walk second.walk)) (choice_layout l m)
    moving_choice = record {
      plain = λ ctx b r at. by_side l m b r at
          (λ side here away. let e = h.plain ctx b (inner r) here in (e.0, ended_is ctx r true side ∙ e.1))
          (λ side away here. let e = k.plain ctx b (inner r) here in (e.0, ended_is ctx r false side ∙ e.1));
      gone = λ ctx b r at is. by_side l m b r at
          (λ side here away. after_is ctx r true side ∙ h.gone ctx b (inner r) here (sym (ended_is ctx r true side) ∙ is))
          (λ side away here. after_is ctx r false side ∙ k.gone ctx b (inner r) here (sym (ended_is ctx r false side) ∙ is));
      away = λ ctx b stay go g away.
          let parts = and_parts (l.away b) (m.away b) away in
          let c = plain ctx in
          chosen_both (first.move ctx b (known_bit stay) (known_bit go) (both (known_bit g) (value_here scene ctx condition))) _ _ _
          (first_away ctx b stay go (g && c.0) parts.0 _ (and_plain g c.0 _ c.1)) (second_away ctx b stay go (g && not c.0) parts.1 _ (goes_plain g c.0 _ c.1))
          ∙ when_picked g c.0 _ _ ∙ ap (when g) (sym (if_plain c.0 _ (first.walk.rest ctx mark.Zero) (second.walk.rest ctx mark.Zero) c.1));
      away_moved = λ ctx b stay go g away.
          let parts = and_parts (l.away b) (m.away b) away in
          let c = plain ctx in
          ap₂ (λ i j. either i j) (first_moved ctx b stay go (g && c.0) parts.0 _ (and_plain g c.0 _ c.1)) (second_moved ctx b stay go (g && not c.0) parts.1 _ (goes_plain g c.0 _ c.1))
          ∙ either_known ((g && c.0) && is_somewhere (first.walk.rest ctx mark.Zero)) ((g && not c.0) && is_somewhere (second.walk.rest ctx mark.Zero))
          ∙ ap known_bit (somewhere_picked g c.0 _ _)
          ∙ ap (λ xs. known_bit (g && is_somewhere xs)) (sym (if_plain c.0 _ (first.walk.rest ctx mark.Zero) (second.walk.rest ctx mark.Zero) c.1));
      moves = λ ctx b r way at.
          let c = plain ctx in
          by_side l m b r at
          (λ side here away.
          chosen_both (first.move ctx b (known_bit (is_stay way)) (known_bit (is_go way)) (both (known_bit false) (value_here scene ctx condition))) _ _ []
          (ap (λ i. chosen (first.move ctx b (known_bit (is_stay way)) (known_bit (is_go way)) i)) (and_plain false c.0 _ c.1) ∙ h.moves ctx b (inner r) way here)
          (second_away ctx b (is_stay way) (is_go way) false away _ (goes_plain false c.0 _ c.1))
          ∙ append-none _ ∙ ap₂ (by_way way) (sym (after_is ctx r true side)) (sym (kept_is r true side)))
          (λ side away here.
          chosen_both (first.move ctx b (known_bit (is_stay way)) (known_bit (is_go way)) (both (known_bit false) (value_here scene ctx condition))) _ [] _
          (first_away ctx b (is_stay way) (is_go way) false away _ (and_plain false c.0 _ c.1))
          (ap (λ i. chosen (second.move ctx b (known_bit (is_stay way)) (known_bit (is_go way)) i)) (goes_plain false c.0 _ c.1) ∙ k.moves ctx b (inner r) way here)
          ∙ ap₂ (by_way way) (sym (after_is ctx r false side)) (sym (kept_is r false side)));
      moved = λ ctx b r way at.
          let c = plain ctx in
          by_side l m b r at
          (λ side here away.
          ap₂ (λ i j. either i j)
          (ap (λ i. first.moved ctx b (known_bit (is_stay way)) (known_bit (is_go way)) i) (and_plain false c.0 _ c.1) ∙ h.moved ctx b (inner r) way here)
          (second_moved ctx b (is_stay way) (is_go way) false away _ (goes_plain false c.0 _ c.1))
          ∙ either_known (is_somewhere (by_way way (first.walk.after ctx (inner r)) (first.walk.kept (inner r)))) false
          ∙ ap known_bit (or_false _)
          ∙ ap₂ (λ xs ys. known_bit (is_somewhere (by_way way xs ys))) (sym (after_is ctx r true side)) (sym (kept_is r true side)))
          (λ side away here.
          ap₂ (λ i j. either i j)
          (first_moved ctx b (is_stay way) (is_go way) false away _ (and_plain false c.0 _ c.1))
          (ap (λ i. second.moved ctx b (known_bit (is_stay way)) (known_bit (is_go way)) i) (goes_plain false c.0 _ c.1) ∙ k.moved ctx b (inner r) way here)
          ∙ either_known false (is_somewhere (by_way way (second.walk.after ctx (inner r)) (second.walk.kept (inner r))))
          ∙ ap₂ (λ xs ys. known_bit (is_somewhere (by_way way xs ys))) (sym (after_is ctx r false side)) (sym (kept_is r false side)));
    }
      where
        ended_is : (ctx : Context) (r : Residual) (side : Bool) → side_of r ≡ side
            → (choice scene landing condition first.walk second.walk).ended ctx r ≡ (if side then first.walk else second.walk).ended ctx (inner r)
        ended_is ctx r side is = ap (λ (s : Bool). (if s then first.walk else second.walk).ended ctx (inner r)) is

        after_is : (ctx : Context) (r : Residual) (side : Bool) → side_of r ≡ side
            → (choice scene landing condition first.walk second.walk).after ctx r ≡ (if side then first.walk else second.walk).after ctx (inner r)
        after_is ctx r side is = ap (λ (s : Bool). (if s then first.walk else second.walk).after ctx (inner r)) is

        kept_is : (r : Residual) (side : Bool) → side_of r ≡ side
            → (choice scene landing condition first.walk second.walk).kept r ≡ (if side then first.walk else second.walk).kept (inner r)
        kept_is r side is = ap (λ (s : Bool). (if s then first.walk else second.walk).kept (inner r)) is

        first_away : (ctx : Context) (b : PlaceBits) (stay go g : Bool) → l.away b ≡ true → (x : Know) → x ≡ known_bit g
            → chosen (first.move ctx b (known_bit stay) (known_bit go) x) ≡ when g (first.walk.rest ctx mark.Zero)
        first_away ctx b stay go g away x is = ap (λ i. chosen (first.move ctx b (known_bit stay) (known_bit go) i)) is ∙ h.away ctx b stay go g away

        second_away : (ctx : Context) (b : PlaceBits) (stay go g : Bool) → m.away b ≡ true → (x : Know) → x ≡ known_bit g
            → chosen (second.move ctx b (known_bit stay) (known_bit go) x) ≡ when g (second.walk.rest ctx mark.Zero)
        second_away ctx b stay go g away x is = ap (λ i. chosen (second.move ctx b (known_bit stay) (known_bit go) i)) is ∙ k.away ctx b stay go g away

        first_moved : (ctx : Context) (b : PlaceBits) (stay go g : Bool) → l.away b ≡ true → (x : Know) → x ≡ known_bit g
            → first.moved ctx b (known_bit stay) (known_bit go) x ≡ known_bit (g && is_somewhere (first.walk.rest ctx mark.Zero))
        first_moved ctx b stay go g away x is = ap (λ i. first.moved ctx b (known_bit stay) (known_bit go) i) is ∙ h.away_moved ctx b stay go g away

        second_moved : (ctx : Context) (b : PlaceBits) (stay go g : Bool) → m.away b ≡ true → (x : Know) → x ≡ known_bit g
            → second.moved ctx b (known_bit stay) (known_bit go) x ≡ known_bit (g && is_somewhere (second.walk.rest ctx mark.Zero))
        second_moved ctx b stay go g away x is = ap (λ i. second.moved ctx b (known_bit stay) (known_bit go) i) is ∙ k.away_moved ctx b stay go g away
