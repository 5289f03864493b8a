use Rattle.std.proofs.Common.{◌≡◌, ◌≤◌, length, map, drop}
use Rattle.indexmap.specs.IndexMap.{get}
use Rattle.qz_react.specs.declared.instances.Instance.{Instance as Named}
use Rattle.qz_react.specs.contracts.instances.InstancePartialEq.TheImpl.{eq-value}
use Rattle.qz_react.specs.Seeing.{instance_of}
use Rattle.qz_single.specs.Numbered.{place_from}
use Rattle.qz_single.proofs.numbers.first_places.Given as goal

abbrev pub invariant-loop-left : goal.invariant-loop-left
invariant-loop-left l = record {
  within : l.left ≤ length l.instances;
  places : (i : Named) → get (eq-value).it l.first i ≡ place_from l.left (instance_of i) (map instance_of (drop l.left l.instances));
}

abbrev pub decreases-loop-left : goal.decreases-loop-left
decreases-loop-left l = l.left
