-- The four aborts: strong or weak, immediate or not.
use Rattle.std.specs.Prelude.{if◌then◌else◌}
use Rattle.qz_values.specs.declared.Know.{Know}
use Rattle.qz_values.specs.Knowledge.{both, either, opposite, knows_yes}
use Rattle.qz_syntax.specs.declared.expressions.Expr.{Expr}
use Rattle.qz_syntax.specs.declared.statements.Kind.{Kind}
use Rattle.qz_syntax.specs.declared.places.Residual.{out-Residual}
use Rattle.qz_meaning.specs.Scenes.{Scene}
use Rattle.qz_meaning.specs.Expressions.{value_here}
use Rattle.qz_meaning.specs.Residuals.{inner}
use Rattle.qz_meaning.specs.Accounts.{Account}
use Rattle.qz_meaning.specs.Layouts.{Layout}
use Rattle.qz_meaning.specs.Behaviors.{Behavior}
use Rattle.qz_meaning.specs.Loops.{fits_in_body}

-- a strong preemption lets its body act only where the condition doesn't hold; a weak one lets it act
abbrev pub body_guard : Kind → Know → Know → Know
body_guard kind condition g = if kind.weak then g else both g (opposite condition)

-- the guard of the body's start: only an immediate preemption looks at its condition then
abbrev pub start_guard : Kind → Know → Know → Know
start_guard kind condition g = if kind.immediate then body_guard kind condition g else g

-- where control rests in the body, unless the condition holds
abbrev pub unless_left : {D T : Type 0} → Account D T → Know → T → T
unless_left acc condition inside = if knows_yes condition then acc.nowhere else acc.in_body inside

-- It ends where the condition holds or the body ends.
abbrev pub abort : {D T : Type 0} → Scene → Account D T → Kind → Behavior D T → Expr → Behavior D T
abort scene acc kind body condition = record {
  ends = λ ctx m.
      (if kind.immediate then either (value_here scene ctx condition) (body.ends ctx m) else body.ends ctx m);
  start = λ ctx g m. body.start ctx (start_guard kind (value_here scene ctx condition) g) m;
  ended = λ ctx r. either (value_here scene ctx condition) (body.ended ctx (inner r));
  resume = λ ctx r g. body.resume ctx (inner r) (body_guard kind (value_here scene ctx condition) g);
  rest = λ ctx m.
      (if kind.immediate then unless_left acc (value_here scene ctx condition) (body.rest ctx m)
      else acc.in_body (body.rest ctx m));
  after = λ ctx r. unless_left acc (value_here scene ctx condition) (body.after ctx (inner r));
  kept = λ r. acc.in_body (body.kept (inner r));
}

-- a statement round a body, with nothing of its own
abbrev pub body_layout : Layout → Layout
body_layout body = record {
  met_on_start = λ m. body.met_on_start m;
  met_on_resume = λ r. body.met_on_resume (inner r);
  fits = λ r. fits_in_body body (out-Residual r);
  stores_at = λ r. body.stores_at (inner r);
  at = λ bits r. body.at bits (inner r);
  away = λ bits. body.away bits;
}
