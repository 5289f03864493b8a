use Rattle.std.proofs.Common.{◌≡◌, ◌++◌, map, drop}
use Rattle.qz_types.specs.Scopes.{meanings_of}
use Rattle.qz_types.specs.Makers.{all_made, in_sequence}
use Rattle.qz_types.specs.CoreStatements.{made}
use Rattle.qz_types.proofs.core_statements.+make.Given as goal

abbrev pub invariant-lists-loop-list : goal.invariant-lists-loop-list
invariant-lists-loop-list l = record {
  names : meanings_of l.names ≡ meanings_of l.initial.names;
  trees : l.parts ++ (all_made (map (λ list. in_sequence (map (made l.callees.protos.now (meanings_of l.callees.numbers)) list)) (drop l.list-index l.list-items))
      (meanings_of l.initial.names) l.numbers).trees
      ≡ (all_made (map (λ list. in_sequence (map (made l.callees.protos.now (meanings_of l.callees.numbers)) list)) l.list-items)
      (meanings_of l.initial.names) l.initial.numbers).trees;
  next : (all_made (map (λ list. in_sequence (map (made l.callees.protos.now (meanings_of l.callees.numbers)) list)) (drop l.list-index l.list-items))
      (meanings_of l.initial.names) l.numbers).next
      ≡ (all_made (map (λ list. in_sequence (map (made l.callees.protos.now (meanings_of l.callees.numbers)) list)) l.list-items)
      (meanings_of l.initial.names) l.initial.numbers).next;
}

abbrev pub invariant-sequence-loop-s : goal.invariant-sequence-loop-s
invariant-sequence-loop-s l = record {
  names : meanings_of l.names ≡ meanings_of l.initial.names;
  trees : l.parts ++ (all_made (map (made l.callees.protos.now (meanings_of l.callees.numbers)) (drop l.s-index l.list)) (meanings_of l.initial.names) l.numbers).trees
      ≡ (all_made (map (made l.callees.protos.now (meanings_of l.callees.numbers)) l.list) (meanings_of l.initial.names) l.initial.numbers).trees;
  next : (all_made (map (made l.callees.protos.now (meanings_of l.callees.numbers)) (drop l.s-index l.list)) (meanings_of l.initial.names) l.numbers).next
      ≡ (all_made (map (made l.callees.protos.now (meanings_of l.callees.numbers)) l.list) (meanings_of l.initial.names) l.initial.numbers).next;
}
