use Rattle.std.proofs.Common.{◌≡◌, map, drop}
use Rattle.qz_syntax.specs.Marks.{loops_round, first_some}
use Rattle.qz_syntax.proofs.marks.+scopes.Given as goal

abbrev pub invariant-find_in_parts-loop-part : goal.invariant-find_in_parts-loop-part
invariant-find_in_parts-loop-part l = record {
  rest : first_some (map (λ part. loops_round l.decl part) (drop l.part-index l.parts)) ≡ first_some (map (λ part. loops_round l.decl part) l.parts);
  same : l.round.items ≡ l.initial.round.items;
}
