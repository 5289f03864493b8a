-- `do S while(e)`.
use Rattle.std.specs.Prelude.{ℕ, Bool, false, ◌++◌, if◌then◌else◌}
use Rattle.qz_values.specs.declared.Know.{Know}
use Rattle.qz_values.specs.declared.Know.TheVariants.{Known}
use Rattle.qz_values.specs.Values.{no}
use Rattle.qz_values.specs.Knowledge.{both, opposite, knows_yes}
use Rattle.qz_syntax.specs.declared.expressions.Expr.{Expr}
use Rattle.qz_syntax.specs.declared.places.Mark.TheVariants as mark
use Rattle.qz_syntax.specs.declared.places.Residual.{Residual, out-Residual}
use Rattle.qz_syntax.specs.declared.places.Residual.TheOpen.{Residual-F}
use Rattle.qz_meaning.specs.Scenes.{Scene, Context}
use Rattle.qz_meaning.specs.Expressions.{value_here}
use Rattle.qz_meaning.specs.Residuals.{inner}
use Rattle.qz_meaning.specs.Accounts.{Account}
use Rattle.qz_meaning.specs.Layouts.{Layout}
use Rattle.qz_meaning.specs.Behaviors.{Behavior}

-- whether the loop turns: the resumed body ends and the condition holds
abbrev pub turns : {D T : Type 0} → Scene → Expr → Behavior D T → Context → Residual → Know
turns scene condition body ctx r = both (body.ended ctx (inner r)) (value_here scene ctx condition)

-- A started loop starts its body and doesn't end. A resumed one resumes its body, starts it with the
-- loop's own mark where it turns, and ends where the body ends and the condition doesn't hold.
abbrev pub loop : {D T : Type 0} → Scene → Account D T → ℕ → Behavior D T → Expr → Behavior D T
loop scene acc number body condition = record {
  ends = λ ctx m. Known no;
  start = λ ctx g m. body.start ctx g m;
  ended = λ ctx r. both (body.ended ctx (inner r)) (opposite (value_here scene ctx condition));
  resume = λ ctx r g.
      body.resume ctx (inner r) g
      ++ body.start ctx (both (both g (body.ended ctx (inner r))) (value_here scene ctx condition)) (mark.Loop number);
  rest = λ ctx m. acc.in_body (body.rest ctx m);
  after = λ ctx r.
      acc.in_body (if knows_yes (turns scene condition body ctx r) then body.rest ctx (mark.Loop number) else body.after ctx (inner r));
  kept = λ r. acc.in_body (body.kept (inner r));
}

-- control rests in the body of a loop, an abort or a suspend
abbrev pub fits_in_body : Layout → Residual-F Residual → Bool
fits_in_body body (Residual-F.InBody inside) = body.fits inside
fits_in_body body other = false

-- a resume comes past the body resumed and started
abbrev pub loop_layout : ℕ → Layout → Layout
loop_layout number body = record {
  met_on_start = λ m. body.met_on_start m;
  met_on_resume = λ r. body.met_on_resume (inner r) ++ body.met_on_start (mark.Loop number);
  fits = λ r. fits_in_body body (out-Residual r);
  stores_at = λ r. body.stores_at (inner r);
  at = λ bits r. body.at bits (inner r);
  away = λ bits. body.away bits;
}
