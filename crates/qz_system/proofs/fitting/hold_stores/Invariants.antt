use Rattle.std.proofs.Common.{◌≡◌, drop}
use Rattle.qz_system.specs.Valuations.{hold_stores}
use Rattle.qz_system.proofs.fitting.hold_stores.Given as goal

abbrev pub invariant-loop-cell : goal.invariant-loop-cell
invariant-loop-cell l = hold_stores (drop l.cell-index l.cells) l.rest ≡ hold_stores l.cells l.stores
