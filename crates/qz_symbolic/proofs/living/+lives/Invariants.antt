use Rattle.std.proofs.Common.{◌≡◌, ◌<◌, ℕ, map, drop, length, false}
use Rattle.std.specs.Prelude.{◌||◌}
use Rattle.std.specs.List.{All}
use Rattle.qz_dd.specs.Tables.{Reading, Reads, Extends, count}
use Rattle.qz_system.specs.Restings.{living, living_of, living_over}
use Rattle.qz_symbolic.specs.Placings.{value_at}
use Rattle.qz_symbolic.proofs.living.+lives.Given as goal

abbrev pub invariant-add_lives_of_all-loop-part : goal.invariant-add_lives_of_all-loop-part
invariant-add_lives_of_all-loop-part l = record {
  extends : Extends l.fn.diagrams l.diagrams;
  below : l.so_far.0 < count l.diagrams;
  long : length l.lives ≡ length l.fn.lives;
  all_below : All (λ x. x.0 < count l.diagrams) l.lives;
  rests : (reading : Reading) → Reads reading l.diagrams → (cell : ℕ) →
      (living_over (living false false) (map (living_of (value_at reading l.places) cell) l.parts)).rests ≡
      (living_over (living (reading.values l.so_far.0) false) (map (living_of (value_at reading l.places) cell) (drop l.part-index l.parts))).rests;
  lives : (reading : Reading) → Reads reading l.diagrams → (cell : ℕ) → cell < length l.fn.lives →
      value_at reading l.lives cell || (living_over (living false false) (map (living_of (value_at reading l.places) cell) (drop l.part-index l.parts))).lives ≡
      value_at reading l.fn.lives cell || (living_over (living false false) (map (living_of (value_at reading l.places) cell) l.parts)).lives;
}
