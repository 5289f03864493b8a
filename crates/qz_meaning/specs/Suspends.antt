-- The four suspends: strong or weak, immediate or not. An immediate one has a hold place, where control
-- rests when the condition holds in the starting step.
use Rattle.std.specs.Prelude.{ℕ, Bool, false, ◌==◌, ◌&&◌, not, List, [], Option, Some, None, if◌then◌else◌}
use Rattle.std.specs.Option.{option_map_or}
use Rattle.qz_values.specs.declared.Know.{Know}
use Rattle.qz_values.specs.Knowledge.{both, opposite, knows_yes}
use Rattle.qz_syntax.specs.declared.expressions.Expr.{Expr}
use Rattle.qz_syntax.specs.declared.statements.Kind.{Kind}
use Rattle.qz_syntax.specs.declared.places.Mark.{Mark}
use Rattle.qz_syntax.specs.declared.places.Mark.TheVariants as mark
use Rattle.qz_syntax.specs.declared.places.Residual.{Residual, out-Residual}
use Rattle.qz_syntax.specs.declared.places.Residual.TheOpen.{Residual-F}
use Rattle.qz_meaning.specs.Scenes.{Scene, Context}
use Rattle.qz_meaning.specs.Expressions.{value_here}
use Rattle.qz_meaning.specs.Residuals.{inner, is_held}
use Rattle.qz_meaning.specs.Accounts.{Account}
use Rattle.qz_meaning.specs.Layouts.{PlaceBits, Layout}
use Rattle.qz_meaning.specs.Behaviors.{Behavior}
use Rattle.qz_meaning.specs.Aborts.{body_guard, start_guard}

-- an immediate suspend ends on starting only where its condition doesn't hold
abbrev pub ends_on_start : {D T : Type 0} → Scene → Kind → Behavior D T → Expr → Context → Mark → Know
ends_on_start scene kind body condition ctx m =
    if kind.immediate then both (opposite (value_here scene ctx condition)) (body.ends ctx m) else body.ends ctx m

-- an immediate suspend that is strong lets its body act on starting only where its condition doesn't hold
abbrev pub acts_on_start : {D T : Type 0} → Scene → Kind → Behavior D T → Expr → Context → Know → Mark → List D
acts_on_start scene kind body condition ctx g m =
    body.start ctx (start_guard kind (value_here scene ctx condition) g) m

-- control stays at the hold place
abbrev pub stays_held : {D T : Type 0} → Account D T → Option ℕ → T
stays_held acc None = acc.nowhere
stays_held acc (Some place) = acc.hold place

-- where control rests after a start: at the hold place of an immediate suspend whose condition holds
abbrev pub rest_on_start : {D T : Type 0} → Scene → Account D T → Kind → Option ℕ → Behavior D T → Expr → Context → Mark → T
rest_on_start scene acc kind hold body condition ctx m =
    if kind.immediate then
    (if knows_yes (value_here scene ctx condition) then stays_held acc hold else acc.in_body (body.rest ctx m))
    else acc.in_body (body.rest ctx m)

-- While the condition holds control stays, and the body ends only where it doesn't hold. From the hold
-- place it goes on as if started with mark zero.
abbrev pub suspend : {D T : Type 0} → Scene → Account D T → Kind → Option ℕ → Behavior D T → Expr → Behavior D T
suspend scene acc kind hold body condition = record {
  ends = λ ctx m. ends_on_start scene kind body condition ctx m;
  start = λ ctx g m. acts_on_start scene kind body condition ctx g m;
  ended = λ ctx r.
      (if is_held r then ends_on_start scene kind body condition ctx mark.Zero
      else both (opposite (value_here scene ctx condition)) (body.ended ctx (inner r)));
  resume = λ ctx r g.
      (if is_held r then acts_on_start scene kind body condition ctx g mark.Zero
      else body.resume ctx (inner r) (body_guard kind (value_here scene ctx condition) g));
  rest = λ ctx m. rest_on_start scene acc kind hold body condition ctx m;
  after = λ ctx r.
      (if is_held r then rest_on_start scene acc kind hold body condition ctx mark.Zero
      else acc.in_body (if knows_yes (value_here scene ctx condition) then body.kept (inner r) else body.after ctx (inner r)));
  kept = λ r. (if is_held r then stays_held acc hold else acc.in_body (body.kept (inner r)));
}

-- control rests in the body of a suspend, or at its own hold place
abbrev pub fits_or_holds : Option ℕ → Layout → Residual-F Residual → Bool
fits_or_holds hold body (Residual-F.InBody inside) = body.fits inside
fits_or_holds hold body (Residual-F.Hold place) = option_map_or (λ own. own == place) hold false
fits_or_holds hold body other = false

-- the bits say that control rests at the hold place
abbrev pub is_at_hold : PlaceBits → Option ℕ → Bool
is_at_hold bits hold = option_map_or bits.place hold false

-- from the hold place the body is started with mark zero
abbrev pub suspend_layout : Option ℕ → Layout → Layout
suspend_layout hold body = record {
  met_on_start = λ m. body.met_on_start m;
  met_on_resume = λ r. (if is_held r then body.met_on_start mark.Zero else body.met_on_resume (inner r));
  fits = λ r. fits_or_holds hold body (out-Residual r);
  stores_at = λ r. (if is_held r then [] else body.stores_at (inner r));
  at = λ bits r.
      (if is_held r then is_at_hold bits hold && body.away bits else not (is_at_hold bits hold) && body.at bits (inner r));
  away = λ bits. not (is_at_hold bits hold) && body.away bits;
}
