use Rattle.std.proofs.Common.{◌≡◌, ◌∷◌, rules}
use Rattle.qz_react.specs.Contexts.{context_of, without_argument}
use Rattle.qz_react.proofs.Placing.{freed}
use Rattle.qz_react.proofs.bindings.+bind.Goals as goal

pub returns-in_ok-set_argument-in-Some-clause-freed : goal.returns-in_ok-set_argument-in-Some-clause-freed
returns-in_ok-set_argument-in-Some-clause-freed t c =
    let whole : c.args.bindings.now ≡ c.in-Some.binding.now ∷ c.in-Some.rest.now = search rules in
    let outside : without_argument (context_of c.args.here.now) c.in-Some.binding.now.number ≡ context_of c.args.here.now = search rules in
    freed (context_of c.args.here.now) (context_of c.bind.new.here) (context_of c.set_argument.new.self) c.args.bindings.now c.in-Some.rest.now
    c.in-Some.binding.now c.in_ok-known-in-Some.known whole outside c.in_ok-bind-in-Some.ensures.freed c.in_ok-set_argument-in-Some.ensures
