use Rattle.std.proofs.Common.{◌≡◌, false, drop}
use Rattle.qz_interp.specs.Touching.{assigned, value_by}
use Rattle.qz_interp.proofs.slots.settle_values.Given as goal

abbrev pub invariant-loop-one : goal.invariant-loop-one
invariant-loop-one l = record {
  settled : assigned (value_by l.slots l.writers) l.known.items (drop l.one-index l.met) ≡ assigned (value_by l.slots l.writers) l.initial.known.items l.met;
  same : l.changed ≡ false → l.known.items ≡ l.initial.known.items;
}
