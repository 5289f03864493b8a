use Rattle.std.proofs.Common.{◌≡◌, rules}
use Rattle.std.proofs.Math.Path.{fun_ext}
use Rattle.qz_types.specs.Scopes.{meanings_of}
use Rattle.qz_types.proofs.scope.Scope.set.Goals as goal

pub returns-in_ok-insert-in-Some-clause-was : goal.returns-in_ok-insert-in-Some-clause-was
unfolding meanings_of
returns-in_ok-insert-in-Some-clause-was g c = search rules

pub returns-in_ok-insert-in-Some-clause-set : goal.returns-in_ok-insert-in-Some-clause-set
unfolding meanings_of
returns-in_ok-insert-in-Some-clause-set g c =
    let same : c.in_ok-clone-in-Some.field-0 ≡ c.args.name.now = search rules in
    fun_ext (λ name. rw (c.in-Some.is, ← same) (c.in_ok-insert-in-Some.ensures.updates.0 name))

pub returns-in-None-clause-was : goal.returns-in-None-clause-was
unfolding meanings_of
returns-in-None-clause-was g c = search rules

pub returns-in-None-clause-set : goal.returns-in-None-clause-set
unfolding meanings_of
returns-in-None-clause-set g c = fun_ext (λ name. rw c.in-None.is (c.swap_remove.ensures.updates.0 name))
