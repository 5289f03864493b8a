use Rattle.std.proofs.Common.{◌≡◌, false, drop}
use Rattle.qz_interp.specs.Touching.{assigned, later_by}
use Rattle.qz_interp.proofs.slots.settle_delayed.Given as goal

abbrev pub invariant-loop-one : goal.invariant-loop-one
invariant-loop-one l = record {
  settled : assigned (later_by l.slots l.writers) l.delayed.items (drop l.one-index l.met) ≡ assigned (later_by l.slots l.writers) l.initial.delayed.items l.met;
  same : l.changed ≡ false → l.delayed.items ≡ l.initial.delayed.items;
}
