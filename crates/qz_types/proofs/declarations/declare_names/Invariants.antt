use Rattle.std.proofs.Common.{◌≡◌, drop}
use Rattle.qz_types.specs.Faults.{first_with}
use Rattle.qz_types.specs.Meanings.{before}
use Rattle.qz_types.specs.Scopes.{meanings_of}
use Rattle.qz_types.specs.Declarations.{declared, double_names, all_named}
use Rattle.qz_types.proofs.declarations.declare_names.Given as goal

abbrev pub invariant-loop-name : goal.invariant-loop-name
invariant-loop-name l = record {
  scope : declared (all_named l.variable (drop l.name-index l.name-items)) (meanings_of l.scope)
      ≡ declared (all_named l.variable l.name-items) (meanings_of l.initial.scope);
  undone : before l.hidden (meanings_of l.scope) ≡ before l.initial.hidden (meanings_of l.initial.scope);
  faults : first_with l.first.fault (double_names (all_named l.variable (drop l.name-index l.name-items)) (meanings_of l.scope))
      ≡ first_with l.initial.first.fault (double_names (all_named l.variable l.name-items) (meanings_of l.initial.scope));
}
