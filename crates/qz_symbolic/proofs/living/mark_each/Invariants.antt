use Rattle.std.proofs.Common.{◌≡◌, ◌<◌, ℕ, drop, length}
use Rattle.std.specs.Prelude.{◌||◌, ◌&&◌}
use Rattle.std.specs.List.{All}
use Rattle.qz_dd.specs.Tables.{Reading, Reads, Extends, count}
use Rattle.qz_syntax.specs.Numbers.{contains}
use Rattle.qz_symbolic.specs.Placings.{value_at}
use Rattle.qz_symbolic.proofs.living.mark_each.Given as goal

abbrev pub invariant-loop-cell : goal.invariant-loop-cell
invariant-loop-cell l = record {
  extends : Extends l.fn.diagrams l.diagrams;
  long : length l.lives ≡ length l.fn.lives;
  all_below : All (λ x. x.0 < count l.diagrams) l.lives;
  means : (reading : Reading) → Reads reading l.diagrams → (cell : ℕ) → cell < length l.fn.lives →
      value_at reading l.lives cell || (contains (drop l.cell-index l.cells) cell && reading.values l.rests.0) ≡
      value_at reading l.fn.lives cell || (contains l.cells cell && reading.values l.rests.0);
}
