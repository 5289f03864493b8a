use Rattle.std.proofs.Common.{List, sym, subst}
use Rattle.qz_nets.specs.Readings.{listed}
use Rattle.qz_wires.specs.declared.rails.Rail.{Rail}
use Rattle.qz_wires.specs.Rails.{ShowEach}
use Rattle.qz_wires.proofs.Through.{through}
use Rattle.qz_wires.proofs.NetLists.{net_rails_kept}
use Rattle.qz_equations.proofs.Keeping.{instances_kept}
use Rattle.qz_equations.proofs.rounds.last_rails.Goals as goal

pub returns-clause-extends : goal.returns-clause-extends
returns-clause-extends c = through c.in_ok-instances.ensures.extends (through c.in_ok-nets.ensures.extends c.in_ok-delayed.ensures.extends)

pub returns-clause-last : goal.returns-clause-last
returns-clause-last c = record {
  instances = instances_kept (through c.in_ok-nets.ensures.extends c.in_ok-delayed.ensures.extends) c.in_ok-instances.ensures.rails;
  nets = net_rails_kept c.in_ok-delayed.ensures.extends c.in_ok-nets.ensures.rails;
  net_count = c.in_ok-nets.ensures.size;
  delayed = c.in_ok-delayed.ensures.tallies;
}

pub returns-clause-means : goal.returns-clause-means
returns-clause-means c = λ nets reads v holds knows delayed know nth solves.
    let at_nets = c.in_ok-delayed.ensures.extends.reads nets reads in
    let at_instances = c.in_ok-nets.ensures.extends.reads nets at_nets in
    let now = c.in_ok-instances.ensures.means nets at_instances v holds knows delayed nth in
    let P : List Rail → Type 0 = λ rails. ShowEach nets rails (listed knows) in
    let table = c.in_ok-nets.ensures.means nets at_nets v holds knows know solves (subst P (sym c.deref.ensures.value) now) in
    let Q : List Rail → Type 0 = λ rails. ShowEach nets rails know in
    record {
      instances = now;
      nets = table;
      delayed = c.in_ok-delayed.ensures.means nets reads know (subst Q (sym c.deref-2.ensures.value) table);
    }
