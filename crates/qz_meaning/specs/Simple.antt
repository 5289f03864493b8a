-- Statements without parts: nothing, assignments and pauses.
use Rattle.std.specs.Prelude.{ℕ, Bool, false, ◌==◌, not, [], ◌∷◌}
use Rattle.qz_values.specs.declared.Know.TheVariants.{Known}
use Rattle.qz_values.specs.Values.{yes, no}
use Rattle.qz_syntax.specs.declared.expressions.Var.{Var}
use Rattle.qz_syntax.specs.declared.expressions.Expr.{Expr}
use Rattle.qz_syntax.specs.declared.places.Residual.{Residual, out-Residual}
use Rattle.qz_syntax.specs.declared.places.Residual.TheOpen.{Residual-F}
use Rattle.qz_meaning.specs.Scenes.{Scene, instance_here}
use Rattle.qz_meaning.specs.Expressions.{value_here}
use Rattle.qz_meaning.specs.Accounts.{Account}
use Rattle.qz_meaning.specs.Layouts.{Layout, bare}
use Rattle.qz_meaning.specs.Behaviors.{Behavior, idle}

-- `x = e` or `next(x) = e`: one write under the guard; it ends at once
abbrev pub assignment : {D T : Type 0} → Scene → Account D T → Bool → Var → Expr → Behavior D T
assignment scene acc delayed target value = record (idle acc) {
  start = λ ctx g m. acc.wrote record {
    target = instance_here ctx target;
    delayed = delayed;
    guard = g;
    value = value_here scene ctx value;
  } ∷ [];
}

-- whether control rests at the pause with this number
abbrev pub is_at_in : ℕ → Residual-F Residual → Bool
is_at_in place (Residual-F.At other) = place == other
is_at_in place other = false

-- `pause`: control rests here, and it ends when it is resumed
abbrev pub pause : {D T : Type 0} → Account D T → ℕ → Behavior D T
pause acc place = record (idle acc) {
  ends = λ ctx m. Known no;
  ended = λ ctx r. Known yes;
  rest = λ ctx m. acc.at place;
  kept = λ r. acc.at place;
}

-- where control can rest at a pause
abbrev pub pause_layout : ℕ → Layout
pause_layout place = record bare {
  fits = λ r. is_at_in place (out-Residual r);
  at = λ bits r. bits.place place;
  away = λ bits. not (bits.place place);
}
