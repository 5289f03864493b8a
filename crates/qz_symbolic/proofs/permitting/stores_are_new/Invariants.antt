use Rattle.std.proofs.Common.{◌≡◌, ◌<◌, drop}
use Rattle.std.specs.Prelude.{◌&&◌}
use Rattle.std.specs.List.{list_all}
use Rattle.qz_dd.specs.Tables.{Reading, Extends, count}
use Rattle.qz_system.specs.declared.valuation.Valuation.{Valuation}
use Rattle.qz_system.specs.Valuations.{is_new}
use Rattle.qz_symbolic.specs.Views.{Views}
use Rattle.qz_symbolic.proofs.permitting.stores_are_new.Given as goal

abbrev pub invariant-loop-n : goal.invariant-loop-n
invariant-loop-n l = record {
  extends : Extends l.fn.diagrams l.diagrams;
  below : l.so_far.0 < count l.diagrams;
  says : (reading : Reading) (v : Valuation) → Views l.diagrams l.parts v reading →
      reading.values l.so_far.0 && list_all (λ store. is_new store) (drop l.n v.stores.items) ≡ list_all (λ store. is_new store) v.stores.items;
}
