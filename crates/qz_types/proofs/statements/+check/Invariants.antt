use Rattle.std.proofs.Common.{◌≡◌, drop}
use Rattle.std.specs.List.{flat_map}
use Rattle.qz_types.specs.Faults.{first_with}
use Rattle.qz_types.specs.Scopes.{meanings_of}
use Rattle.qz_types.specs.StatementFaults.{statement_faults}
use Rattle.qz_types.proofs.statements.+check.Given as goal

abbrev pub invariant-lists-loop-list : goal.invariant-lists-loop-list
invariant-lists-loop-list l = record {
  names : meanings_of l.names ≡ meanings_of l.initial.names;
  faults : first_with l.first.fault (flat_map (λ list. flat_map (λ s. statement_faults l.callees.protos.now (meanings_of l.callees.numbers) s (meanings_of l.initial.names)) list)
      (drop l.list-index l.list-items))
      ≡ first_with l.initial.first.fault (flat_map (λ list. flat_map (λ s. statement_faults l.callees.protos.now (meanings_of l.callees.numbers) s (meanings_of l.initial.names)) list) l.list-items);
}

abbrev pub invariant-statements-loop-s : goal.invariant-statements-loop-s
invariant-statements-loop-s l = record {
  names : meanings_of l.names ≡ meanings_of l.initial.names;
  faults : first_with l.first.fault (flat_map (λ s. statement_faults l.callees.protos.now (meanings_of l.callees.numbers) s (meanings_of l.initial.names)) (drop l.s-index l.list))
      ≡ first_with l.initial.first.fault (flat_map (λ s. statement_faults l.callees.protos.now (meanings_of l.callees.numbers) s (meanings_of l.initial.names)) l.list);
}
