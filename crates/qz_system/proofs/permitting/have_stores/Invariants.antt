use Rattle.std.proofs.Common.{◌≡◌, drop}
use Rattle.qz_system.specs.Valuations.{have_stores}
use Rattle.qz_system.proofs.permitting.have_stores.Given as goal

abbrev pub invariant-loop-number : goal.invariant-loop-number
invariant-loop-number l = have_stores l.parts l.v l.number (drop l.number l.parts.cells) ≡ have_stores l.parts l.v 0 l.parts.cells
