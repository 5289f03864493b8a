use Rattle.std.proofs.Common.{◌≡◌, ◌+◌, ◌∷◌, drop, ap, ◌∙◌, sym, arith}
use Rattle.std.proofs.lemmas.List.{drop_more}
use Rattle.qz_types.specs.Faults.{first_with}
use Rattle.qz_types.specs.Scopes.{meanings_of}
use Rattle.qz_types.specs.ArgumentFaults.{matched_faults}
use Rattle.qz_types.proofs.FaultLemmas.{first_with_append}
use Rattle.qz_types.proofs.arguments.matched.Goals as goal

pub loop-argument-preserved : goal.loop-argument-preserved
loop-argument-preserved c =
    let i = c.loop-argument.argument-index in
    let xs = c.args.arguments.now in
    let split : drop i xs ≡ c.argument-item.result ∷ drop (i + 1) xs = rw c.argument-item.is (drop_more xs i c.argument-item.result (omega arith)) in
    let so_far = rw (split, c.in-Some.ensures.cases.0) at c.loop-argument.invariant in
    rw (c.matched_one.ensures, ← first_with_append) so_far
