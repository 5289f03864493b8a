use Rattle.std.proofs.Common.{◌≡◌, ◌<◌, map}
use Rattle.std.specs.List.{All, range_with_len}
use Rattle.qz_dd.specs.Tables.{Reading, Extends, count}
use Rattle.qz_rails.specs.Bits.{bits_in}
use Rattle.qz_system.specs.declared.valuation.Valuation.{Valuation}
use Rattle.qz_system.specs.Valuations.{rests_at}
use Rattle.qz_symbolic.specs.Views.{Views}
use Rattle.qz_symbolic.proofs.spelled.places_of.Given as goal

abbrev pub invariant-loop-place : goal.invariant-loop-place
invariant-loop-place l = record {
  extends : Extends l.fn.diagrams l.diagrams;
  below : All (λ x. x.0 < count l.diagrams) l.all.items;
  says : (reading : Reading) (v : Valuation) → Views l.diagrams l.parts v reading → bits_in reading l.all.items ≡ map (rests_at v) (range_with_len 0 l.place);
}
