-- `if`.
use Rattle.std.specs.Prelude.{Bool, true, false, ◌&&◌, ◌++◌, if◌then◌else◌}
use Rattle.qz_values.specs.Knowledge.{both, either, opposite, knows_yes}
use Rattle.qz_syntax.specs.declared.expressions.Expr.{Expr}
use Rattle.qz_syntax.specs.declared.places.Residual.{Residual, out-Residual}
use Rattle.qz_syntax.specs.declared.places.Residual.TheOpen.{Residual-F}
use Rattle.qz_meaning.specs.Scenes.{Scene}
use Rattle.qz_meaning.specs.Expressions.{value_here}
use Rattle.qz_meaning.specs.Residuals.{inner, side_of}
use Rattle.qz_meaning.specs.Accounts.{Account}
use Rattle.qz_meaning.specs.Layouts.{PlaceBits, Layout}
use Rattle.qz_meaning.specs.Behaviors.{Behavior}

-- the side in which control rests
abbrev pub resting_side : {A : Type 0} → A → A → Residual → A
resting_side first second r = if side_of r then first else second

-- Both sides are started, the first where the condition holds and the second where it doesn't; it ends
-- where the chosen one does. The side inside is resumed, and the condition isn't looked at again.
abbrev pub choice : {D T : Type 0} → Scene → Account D T → Expr → Behavior D T → Behavior D T → Behavior D T
choice scene acc condition first second = record {
  ends = λ ctx m.
      either (both (value_here scene ctx condition) (first.ends ctx m))
      (both (opposite (value_here scene ctx condition)) (second.ends ctx m));
  start = λ ctx g m.
      first.start ctx (both g (value_here scene ctx condition)) m
      ++ second.start ctx (both g (opposite (value_here scene ctx condition))) m;
  ended = λ ctx r. (resting_side first second r).ended ctx (inner r);
  resume = λ ctx r g. (resting_side first second r).resume ctx (inner r) g;
  rest = λ ctx m.
      (if knows_yes (value_here scene ctx condition) then acc.in_side true (first.rest ctx m)
      else acc.in_side false (second.rest ctx m));
  after = λ ctx r. acc.in_side (side_of r) ((resting_side first second r).after ctx (inner r));
  kept = λ r. acc.in_side (side_of r) ((resting_side first second r).kept (inner r));
}

-- control rests in one side of an `if`, as it can rest in that side
abbrev pub fits_in_side : Layout → Layout → Residual-F Residual → Bool
fits_in_side first second (Residual-F.InIf side inside) = if side then first.fits inside else second.fits inside
fits_in_side first second other = false

-- the bits say that control rests so in this side, and not in the other
abbrev pub at_side : PlaceBits → Layout → Layout → Bool → Residual → Bool
at_side bits first second true r = first.at bits r && second.away bits
at_side bits first second false r = first.away bits && second.at bits r

-- a start comes past both sides
abbrev pub choice_layout : Layout → Layout → Layout
choice_layout first second = record {
  met_on_start = λ m. first.met_on_start m ++ second.met_on_start m;
  met_on_resume = λ r. (resting_side first second r).met_on_resume (inner r);
  fits = λ r. fits_in_side first second (out-Residual r);
  stores_at = λ r. (resting_side first second r).stores_at (inner r);
  at = λ bits r. at_side bits first second (side_of r) (inner r);
  away = λ bits. first.away bits && second.away bits;
}
