use Rattle.std.proofs.Common.{◌≡◌, Bool, true, false, ◌||◌, cond, ap, refl, ◌∙◌}
use Rattle.indexmap.specs.IndexSet.{contains}
use Rattle.qz_syntax.specs.contracts.expressions.VarPartialEq.TheImpl.{eq-value}
use Rattle.qz_single.specs.DelayedTo.{has}
use Rattle.qz_single.proofs.Variables.{same_test}
use Rattle.qz_single.proofs.delayed.Delayed.insert.Goals as goal

or_else : (a b : Bool) → cond a true b ≡ (b || a)
or_else true true = refl
or_else true false = refl
or_else false true = refl
or_else false false = refl

pub returns : goal.returns
unfolding has
returns c = λ x.
    c.in_ok-insert.ensures.updates.0 x ∙ or_else ((eq-value).it c.args.variable x) (contains (eq-value).it c.args.self.now.variables x)
    ∙ ap (λ b. contains (eq-value).it c.args.self.now.variables x || b) (same_test c.args.variable x)
