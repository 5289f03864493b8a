use Rattle.std.proofs.Common.{◌≡◌, ap, sym, ◌∙◌}
use Rattle.qz_types.specs.Meanings.{before}
use Rattle.qz_types.specs.Scopes.{meanings_of}
use Rattle.qz_types.proofs.MeaningLemmas.{before_append}
use Rattle.qz_types.proofs.scope.Scope.undo.Goals as goal

pub loop-was-preserved : goal.loop-was-preserved
loop-was-preserved g c =
    ap (before c.pop.new.self) c.in_ok-set.ensures.set
    ∙ sym (before_append c.pop.new.self c.in-Some.was (meanings_of c.loop-was.self))
    ∙ ap (λ ws. before ws (meanings_of c.loop-was.self)) (sym c.in-Some.ensures)
    ∙ c.loop-was.invariant
