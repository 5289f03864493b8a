-- What a fold over a statement, or over a place where control rests, gives at each form.
use Rattle.std.proofs.Common.{◌≡◌, ℕ, Bool, List, sym, ap, ◌∙◌}
use Rattle.qz_syntax.specs.declared.places.Store.{Store}
use Rattle.qz_syntax.specs.declared.places.Residual.{Residual}
use Rattle.qz_syntax.specs.declared.places.Residual.TheVariants as residual
use Rattle.qz_syntax.specs.declared.places.Residual.TheOpen.{Residual-F}
use Rattle.qz_syntax.specs.declared.places.Residual.TheFolds.{fold-Residual, fold-roll-Residual}
use Rattle.qz_syntax.proofs.Equations.{fold-Nothing, fold-Assign, fold-Delayed, fold-Pause, fold-Seq, fold-Par, fold-If, fold-Loop, fold-Abort, fold-Suspend, fold-Scope, fold-Call, fold-Bind}

module _ (A : Type 0) (step : Residual-F A → A) where
  pub fold-At : (place : ℕ) → fold-Residual A step (residual.At place) ≡ step (Residual-F.At place)
  fold-At place = ap (fold-Residual A step) (sym (residual.rolls-At place)) ∙ fold-roll-Residual A step (Residual-F.At place)

  pub fold-Hold : (place : ℕ) → fold-Residual A step (residual.Hold place) ≡ step (Residual-F.Hold place)
  fold-Hold place = ap (fold-Residual A step) (sym (residual.rolls-Hold place)) ∙ fold-roll-Residual A step (Residual-F.Hold place)

  pub fold-InSeq : (member : ℕ) (r : Residual)
      → fold-Residual A step (residual.InSeq member r) ≡ step (Residual-F.InSeq member (fold-Residual A step r))
  fold-InSeq member r = ap (fold-Residual A step) (sym (residual.rolls-InSeq member r)) ∙ fold-roll-Residual A step (Residual-F.InSeq member r)

  pub fold-InIf : (side : Bool) (r : Residual)
      → fold-Residual A step (residual.InIf side r) ≡ step (Residual-F.InIf side (fold-Residual A step r))
  fold-InIf side r = ap (fold-Residual A step) (sym (residual.rolls-InIf side r)) ∙ fold-roll-Residual A step (Residual-F.InIf side r)

  pub fold-InBody : (r : Residual) → fold-Residual A step (residual.InBody r) ≡ step (Residual-F.InBody (fold-Residual A step r))
  fold-InBody r = ap (fold-Residual A step) (sym (residual.rolls-InBody r)) ∙ fold-roll-Residual A step (Residual-F.InBody r)

  pub fold-InScope : (stores : List Store) (r : Residual)
      → fold-Residual A step (residual.InScope stores r) ≡ step (Residual-F.InScope stores (fold-Residual A step r))
  fold-InScope stores r = ap (fold-Residual A step) (sym (residual.rolls-InScope stores r)) ∙ fold-roll-Residual A step (Residual-F.InScope stores r)

-- a fold over a statement, at each form
pub ruleset folding = (fold-Nothing, fold-Assign, fold-Delayed, fold-Pause, fold-Seq, fold-Par, fold-If, fold-Loop, fold-Abort, fold-Suspend, fold-Scope, fold-Call, fold-Bind)

-- a fold over a residual, at each form that the examples have
pub ruleset folding_places = (fold-At, fold-Hold, fold-InSeq, fold-InIf, fold-InBody, fold-InScope)
