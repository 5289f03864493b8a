use Rattle.std.proofs.Common.{◌≡◌, ◌++◌, map, drop}
use Rattle.qz_values.specs.Values.{default_of}
use Rattle.qz_system.specs.declared.parts.Cell.{Cell}
use Rattle.qz_equations.specs.Registers.{initial_registers}
use Rattle.qz_equations.proofs.registers.initial.Given as goal

abbrev pub invariant-loop-cell : goal.invariant-loop-cell
invariant-loop-cell l = l.registers.items ++ map (λ (cell : Cell). default_of cell.ty) (drop l.cell-index l.parts.cells) ≡ initial_registers l.parts
