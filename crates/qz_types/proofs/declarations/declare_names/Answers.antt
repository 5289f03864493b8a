use Rattle.std.proofs.Common.{◌≡◌, ◌+◌, ◌∷◌, Some, drop, rules, ap, sym, ◌∙◌, arith}
use Rattle.std.proofs.lemmas.List.{drop_more}
use Rattle.qz_types.specs.Faults.{first_with}
use Rattle.qz_types.specs.Meanings.{updated, before}
use Rattle.qz_types.specs.Scopes.{meanings_of}
use Rattle.qz_types.specs.Declarations.{declared, double_names, all_named}
use Rattle.qz_types.proofs.FaultLemmas.{first_with_append}
use Rattle.qz_types.proofs.MeaningLemmas.{undone_more}
use Rattle.qz_types.proofs.declarations.declare_names.Goals as goal

pub loop-name-preserved : goal.loop-name-preserved
loop-name-preserved c =
    let names = c.as_slice-name-items.result.now in
    let i = c.loop-name.name-index in
    let split : drop i names ≡ c.name-item.result ∷ drop (i + 1) names = rw c.name-item.is (drop_more names i c.name-item.result (omega arith)) in
    let so_far = rw split at c.loop-name.invariant in
    let same : c.in_ok-clone.field-0 ≡ c.name-item.result.name = search rules in
    record {
      scope = rw c.in_ok-meaning.ensures.set so_far.scope;
      undone = undone_more c.loop-name.hidden c.push.new.self (meanings_of c.loop-name.scope) (meanings_of c.declare.new.self) c.name-item.result.name c.in_ok-clone.field-0
          c.in_ok-meaning.meaning (Some c.local-variable.result) c.in_ok-push.ensures.ok same c.in_ok-meaning.ensures.was c.in_ok-meaning.ensures.set ∙ so_far.undone;
      faults = rw (c.in_ok-meaning.ensures.faults, c.in_ok-meaning.ensures.set, ← first_with_append) so_far.faults;
    }
