use Rattle.std.proofs.Common.{List, sym, subst}
use Rattle.qz_nets.specs.Readings.{listed}
use Rattle.qz_system.specs.Rounds.{leaves_known}
use Rattle.qz_wires.specs.declared.rails.Rail.{Rail}
use Rattle.qz_wires.specs.WireTable.{types_in}
use Rattle.qz_wires.specs.Rails.{ShowEach}
use Rattle.qz_wires.specs.NetRails.{AreLeafRails}
use Rattle.qz_wires.proofs.Through.{through}
use Rattle.qz_equations.proofs.RoundLemmas.{leaves_have_rails}
use Rattle.qz_equations.proofs.rounds.table_rails.Goals as goal

pub net_rails-requires : goal.net_rails-requires
net_rails-requires c =
    subst (AreLeafRails (types_in c.leaf_rails.new.wires) c.args.parts.now.table) (sym c.deref.ensures.value)
    (leaves_have_rails c.args.parts.now c.requires.parts (types_in c.leaf_rails.new.wires) c.in_ok-leaves.leaves.items c.in_ok-leaves.ensures.size
    c.in_ok-leaves.ensures.rails)

pub returns-clause-extends : goal.returns-clause-extends
returns-clause-extends c = through c.in_ok-leaves.ensures.extends c.in_ok-rails.ensures.extends

pub returns-clause-means : goal.returns-clause-means
returns-clause-means c = λ nets reads v holds before know solves now.
    let leaf = listed (leaves_known c.args.parts.now v before) in
    let P : List Rail → Type 0 = λ rails. ShowEach nets rails leaf in
    c.in_ok-rails.ensures.means nets reads (record { leaf = leaf; know = know }) solves (subst P (sym c.deref.ensures.value)
    (c.in_ok-leaves.ensures.means nets (c.in_ok-rails.ensures.extends.reads nets reads) v holds before now))
