-- What a statement does on starting and on resuming, and where control goes.
use Rattle.std.specs.Prelude.{List, []}
use Rattle.qz_values.specs.declared.Know.{Know}
use Rattle.qz_values.specs.declared.Know.TheVariants.{Known}
use Rattle.qz_values.specs.Values.{yes, no}
use Rattle.qz_syntax.specs.declared.places.Mark.{Mark}
use Rattle.qz_syntax.specs.declared.places.Residual.{Residual}
use Rattle.qz_meaning.specs.Scenes.{Context}
use Rattle.qz_meaning.specs.Accounts.{Account}

-- A start has a guard and a mark, a resume a residual and a guard. Whether a start ends doesn't depend
-- on its guard.
pub record Behavior (D T : Type 0) : Type 0 where
  -- started with a mark: whether it ends in this step
  pub ends : Context → Mark → Know
  -- started with a guard and a mark: what it does
  pub start : Context → Know → Mark → List D
  -- resumed: whether it ends in this step
  pub ended : Context → Residual → Know
  -- resumed with a guard: what it does
  pub resume : Context → Residual → Know → List D
  -- where control rests then: started with a mark, resumed, and suspended
  pub rest : Context → Mark → T
  pub after : Context → Residual → T
  pub kept : Residual → T

-- what ends at once, does nothing and is never resumed
abbrev pub idle : {D T : Type 0} → Account D T → Behavior D T
idle acc = record {
  ends = λ ctx m. Known yes;
  start = λ ctx g m. [];
  ended = λ ctx r. Known no;
  resume = λ ctx r g. [];
  rest = λ ctx m. acc.nowhere;
  after = λ ctx r. acc.nowhere;
  kept = λ r. acc.nowhere;
}
