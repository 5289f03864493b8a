use Rattle.std.proofs.Common.{rules, ℕ, ◌≡◌, ◌∷◌, [], ◌++◌, List, length, Some, sym, subst}
use Rattle.qz_dd.specs.Tables.{Extends}
use Rattle.qz_values.specs.declared.Ty.{Ty}
use Rattle.qz_nets.specs.Readings.{type_in}
use Rattle.qz_rails.specs.declared.rail.Rail.{Rail}
use Rattle.qz_net_rails.specs.NetRails.{IsNetRail, AreNetRails}
use Rattle.qz_net_rails.proofs.Growing.{leaves_grow, rails_grow, one_more}
use Rattle.qz_net_rails.proofs.building.net_rails.Goals as goal

pub loop-number-preserved : goal.loop-number-preserved
loop-number-preserved c =
    let old = c.loop-number.diagrams in
    let new = c.net_rail.new.diagrams in
    let nets = c.args.nets.now in
    let leaves = c.args.leaves.now in
    let rails = c.loop-number.rails.items in
    let rail = c.in_ok-rail.rail in
    let grows : Extends old new = c.in_ok-rail.ensures.extends in
    let Next : ℕ → Type 0 = λ n. (ty : Ty) → type_in nets n ≡ Some ty → IsNetRail new nets leaves n ty rail in
    let Rails : List Rail → Type 0 = λ items. AreNetRails new nets leaves items in
    record {
      extends = search rules;
      size = search rules;
      leaves = leaves_grow old new nets leaves grows c.loop-number.invariant.leaves;
      rails = subst Rails (sym c.in_ok-push.ensures.items)
          (one_more new nets leaves rails rail (rails_grow old new nets leaves rails grows c.loop-number.invariant.rails)
          (subst Next (sym c.loop-number.invariant.size) c.in_ok-rail.ensures.rail));
    }
