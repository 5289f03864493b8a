use Rattle.std.proofs.Common.{◌≡◌, [], rules}
use Rattle.qz_types.specs.FileFaults.{faults_of}
use Rattle.qz_types.proofs.OrderlyLemmas.{orderly, all_typed}
use Rattle.qz_types.proofs.typed.check.Goals as goal

pub returns-in_ok-typed-in-None-clause-orderly : goal.returns-in_ok-typed-in-None-clause-orderly
returns-in_ok-typed-in-None-clause-orderly c =
    let none : faults_of c.args.f.now ≡ [] = search rules in
    rw c.in_ok-typed-in-None.ensures.core (orderly c.args.f.now none c.in_ok-typed-in-None.ensures.short)

pub returns-in_ok-typed-in-None-clause-well_typed : goal.returns-in_ok-typed-in-None-clause-well_typed
returns-in_ok-typed-in-None-clause-well_typed c =
    let none : faults_of c.args.f.now ≡ [] = search rules in
    rw c.in_ok-typed-in-None.ensures.core (λ bound. all_typed c.args.f.now none c.in_ok-typed-in-None.ensures.short bound)
