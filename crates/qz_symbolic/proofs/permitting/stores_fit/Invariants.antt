use Rattle.std.proofs.Common.{◌≡◌, ◌<◌, drop}
use Rattle.std.specs.Prelude.{◌&&◌}
use Rattle.qz_dd.specs.Tables.{Reading, Extends, count}
use Rattle.qz_system.specs.declared.valuation.Valuation.{Valuation}
use Rattle.qz_system.specs.Valuations.{have_stores}
use Rattle.qz_symbolic.specs.Views.{Views}
use Rattle.qz_symbolic.proofs.permitting.stores_fit.Given as goal

abbrev pub invariant-loop-n : goal.invariant-loop-n
invariant-loop-n l = record {
  extends : Extends l.fn.diagrams l.diagrams;
  below : l.so_far.0 < count l.diagrams;
  says : (reading : Reading) (v : Valuation) → Views l.diagrams l.parts v reading →
      reading.values l.so_far.0 && have_stores l.parts v l.n (drop l.n l.parts.cells) ≡ have_stores l.parts v 0 l.parts.cells;
}
