-- What a statement's nets say of its walk.
use Rattle.std.specs.Prelude.{◌≡◌, Bool, true, false, ◌&&◌, [], Some}
use Rattle.qz_values.specs.declared.Ty.TheVariants.{Bool as Truth}
use Rattle.qz_values.specs.declared.Know.{Know}
use Rattle.qz_syntax.specs.declared.modules.Module.{Module}
use Rattle.qz_syntax.specs.declared.expressions.Expr.{Expr}
use Rattle.qz_syntax.specs.declared.places.Mark.{Mark}
use Rattle.qz_syntax.specs.declared.places.Mark.TheVariants as mark
use Rattle.qz_syntax.specs.declared.places.Residual.{Residual}
use Rattle.qz_meaning.specs.Scenes.{Scene, Context}
use Rattle.qz_meaning.specs.Expressions.{value_here}
use Rattle.qz_meaning.specs.Layouts.{PlaceBits, Layout}
use Rattle.qz_meaning.specs.Carrying.{is_somewhere}
use Rattle.qz_control.specs.Leaves.{known_bit}
use Rattle.qz_control.specs.Guarded.{chosen, come_to, when, Way, is_stay, is_go, by_way}
use Rattle.qz_control.specs.Typed.{expr_type}
use Rattle.qz_control.specs.Mirrors.{Mirror}

-- control can rest so, and the bits say that it does
pub record RestsAt (l : Layout) (b : PlaceBits) (r : Residual) : Type 0 where
  pub fits : l.fits r ≡ true
  pub at : l.at b r ≡ true

-- a start, where every condition is plain
pub record Starting (m : Mirror) : Type 0 where
  pub plain : (ctx : Context) (mark : Mark) → (e : Bool) × (m.walk.ends ctx mark ≡ known_bit e)
  pub gone : (ctx : Context) (mark : Mark) → m.walk.ends ctx mark ≡ known_bit true → m.walk.rest ctx mark ≡ []
  pub enters : (ctx : Context) (mark : Mark) (g : Bool) → chosen (m.enter ctx mark (known_bit g)) ≡ when g (m.walk.rest ctx mark)
  pub rests : (ctx : Context) (mark : Mark) (g : Bool) → m.rests ctx mark (known_bit g) ≡ known_bit (g && is_somewhere (m.walk.rest ctx mark))

-- a resume, for all knowledge: the deeds that the walk comes to are the walk's, and where control isn't, they
-- are those of the start
pub record Resuming (m : Mirror) (l : Layout) : Type 0 where
  pub away_inside : (b : PlaceBits) → l.away b ≡ true → m.inside b ≡ known_bit false
  pub away_ended : (b : PlaceBits) (ctx : Context) → l.away b ≡ true → m.ended ctx b ≡ known_bit false
  pub away_run : (b : PlaceBits) (ctx : Context) (act g : Know) (live : Bool) → l.away b ≡ true
      → come_to (m.run ctx b act (known_bit live) g) ≡ when live (m.walk.start ctx g mark.Zero)
  pub at_inside : (b : PlaceBits) (r : Residual) → RestsAt l b r → m.inside b ≡ known_bit true
  pub at_ended : (b : PlaceBits) (r : Residual) (ctx : Context) → RestsAt l b r → m.ended ctx b ≡ m.walk.ended ctx r
  pub at_run : (b : PlaceBits) (r : Residual) (ctx : Context) (act g : Know) → RestsAt l b r
      → come_to (m.run ctx b act (known_bit false) g) ≡ m.walk.resume ctx r act

-- where control goes on a resume, where every condition is plain
pub record Moving (m : Mirror) (l : Layout) : Type 0 where
  pub plain : (ctx : Context) (b : PlaceBits) (r : Residual) → RestsAt l b r → (e : Bool) × (m.walk.ended ctx r ≡ known_bit e)
  pub gone : (ctx : Context) (b : PlaceBits) (r : Residual) → RestsAt l b r → m.walk.ended ctx r ≡ known_bit true → m.walk.after ctx r ≡ []
  pub away : (ctx : Context) (b : PlaceBits) (stay go g : Bool) → l.away b ≡ true
      → chosen (m.move ctx b (known_bit stay) (known_bit go) (known_bit g)) ≡ when g (m.walk.rest ctx mark.Zero)
  pub away_moved : (ctx : Context) (b : PlaceBits) (stay go g : Bool) → l.away b ≡ true
      → m.moved ctx b (known_bit stay) (known_bit go) (known_bit g) ≡ known_bit (g && is_somewhere (m.walk.rest ctx mark.Zero))
  pub moves : (ctx : Context) (b : PlaceBits) (r : Residual) (way : Way) → RestsAt l b r
      → chosen (m.move ctx b (known_bit (is_stay way)) (known_bit (is_go way)) (known_bit false)) ≡ by_way way (m.walk.after ctx r) (m.walk.kept r)
  pub moved : (ctx : Context) (b : PlaceBits) (r : Residual) (way : Way) → RestsAt l b r
      → m.moved ctx b (known_bit (is_stay way)) (known_bit (is_go way)) (known_bit false)
      ≡ known_bit (is_somewhere (by_way way (m.walk.after ctx r) (m.walk.kept r)))

pub record Follows (m : Mirror) (l : Layout) : Type 0 where
  pub starting : Starting m
  pub moving : Moving m l

-- each condition of the module is plain
abbrev pub IsPlain : Module → Scene → Type 0
IsPlain m scene = (ctx : Context) (e : Expr) → expr_type m e ≡ Some Truth → (b : Bool) × (value_here scene ctx e ≡ known_bit b)
