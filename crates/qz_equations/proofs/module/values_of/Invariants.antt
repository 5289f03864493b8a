use Rattle.std.proofs.Common.{◌≡◌, ◌++◌, drop}
use Rattle.qz_equations.specs.Modules.{rail_values}
use Rattle.qz_equations.proofs.module.values_of.Given as goal

abbrev pub invariant-loop-rail : goal.invariant-loop-rail
invariant-loop-rail l = l.row.items ++ rail_values (drop l.rail-index l.rail-items) ≡ rail_values l.rail-items
