use Rattle.std.proofs.Common.{◌≡◌, drop}
use Rattle.qz_types.specs.Faults.{first_with}
use Rattle.qz_types.specs.Meanings.{no_meanings}
use Rattle.qz_types.specs.Scopes.{meanings_of}
use Rattle.qz_types.specs.Declarations.{declared, double_names, proto_numbers}
use Rattle.qz_types.proofs.declarations.protos.Given as goal

abbrev pub invariant-loop-number : goal.invariant-loop-number
invariant-loop-number l = record {
  scope : declared (proto_numbers l.number (drop l.number l.protos)) (meanings_of l.scope) ≡ declared (proto_numbers 0 l.protos) no_meanings;
  faults : first_with l.first.fault (double_names (proto_numbers l.number (drop l.number l.protos)) (meanings_of l.scope))
      ≡ first_with l.initial.first.fault (double_names (proto_numbers 0 l.protos) no_meanings);
}
