use Rattle.std.proofs.Common.{◌≡◌, drop}
use Rattle.qz_types.specs.Faults.{first_with}
use Rattle.qz_types.specs.Meanings.{before}
use Rattle.qz_types.specs.Scopes.{meanings_of}
use Rattle.qz_types.specs.Declarations.{declared, double_names, local_variables}
use Rattle.qz_types.proofs.declarations.declare_locals.Given as goal

abbrev pub invariant-loop-decl : goal.invariant-loop-decl
invariant-loop-decl l = record {
  scope : declared (local_variables (drop l.decl-index l.decls)) (meanings_of l.scope) ≡ declared (local_variables l.decls) (meanings_of l.initial.scope);
  undone : before l.hidden (meanings_of l.scope) ≡ meanings_of l.initial.scope;
  faults : first_with l.first.fault (double_names (local_variables (drop l.decl-index l.decls)) (meanings_of l.scope))
      ≡ first_with l.initial.first.fault (double_names (local_variables l.decls) (meanings_of l.initial.scope));
}
