use Rattle.std.proofs.Common.{◌≡◌, drop}
use Rattle.qz_types.specs.Faults.{first_with}
use Rattle.qz_types.specs.Meanings.{no_meanings}
use Rattle.qz_types.specs.Scopes.{meanings_of}
use Rattle.qz_types.specs.Declarations.{declared, double_names, formal_variables}
use Rattle.qz_types.proofs.declarations.formal_names.Given as goal

abbrev pub invariant-loop-formal : goal.invariant-loop-formal
invariant-loop-formal l = record {
  scope : declared (formal_variables (drop l.formal-index l.formals)) (meanings_of l.scope) ≡ declared (formal_variables l.formals) no_meanings;
  faults : first_with l.first.fault (double_names (formal_variables (drop l.formal-index l.formals)) (meanings_of l.scope))
      ≡ first_with l.initial.first.fault (double_names (formal_variables l.formals) no_meanings);
}
