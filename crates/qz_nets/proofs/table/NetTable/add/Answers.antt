use Rattle.std.proofs.Common.{sym, subst, ◌∙◌}
use Rattle.indexmap.specs.IndexMap.{insert_entry}
use Rattle.qz_nets.specs.contracts.net.NetPartialEq.TheImpl.{eq-value}
use Rattle.qz_nets.specs.contracts.net.NetEq.TheImpl.Laws.{laws-law}
use Rattle.qz_nets.proofs.SameNets.{same_net}
use Rattle.qz_nets.proofs.Growing.{Grown, inserted, kept, grown_extends}
use Rattle.qz_nets.proofs.Solving.{net_there, type_there}
use Rattle.qz_nets.proofs.table.NetTable.add.Goals as goal

pub invariant_of-self : goal.invariant_of-self
invariant_of-self c = record {
  sound = kept (eq-value).it same_net laws-law.refl c.args.self.now.nets c.insert_full.new.self c.args.self.now.sound c.args.net c.type_of-ty.result
      c.type_of-ty.ensures c.insert_full.result c.insert_full.ensures.entries c.insert_full.ensures.err;
}

grown : (c : goal.In_ok-number) → Grown c.args.self.now.nets.entries c.insert_full.new.self.entries c.args.net c.type_of-ty.result c.in_ok-number.number
grown c =
    let old = c.args.self.now.nets.entries in
    let all = inserted (eq-value).it same_net laws-law.refl old c.args.self.now.sound c.args.net c.type_of-ty.result c.type_of-ty.ensures in
    subst (λ l. Grown old l c.args.net c.type_of-ty.result c.in_ok-number.number) (sym c.in_ok-number.ensures.entries)
    (subst (λ i. Grown old (insert_entry (eq-value).it old c.args.net c.type_of-ty.result) c.args.net c.type_of-ty.result i) (sym c.in_ok-number.ensures.index) all)

pub returns-clause-extends : goal.returns-clause-extends
returns-clause-extends c = grown_extends _ _ c.args.net c.type_of-ty.result c.in_ok-number.number (grown c)

pub returns-clause-net : goal.returns-clause-net
returns-clause-net c = net_there c.insert_full.new.self.entries c.in_ok-number.number c.args.net c.type_of-ty.result (grown c).is

pub returns-clause-ty : goal.returns-clause-ty
returns-clause-ty c = type_there c.insert_full.new.self.entries c.in_ok-number.number c.args.net c.type_of-ty.result (grown c).is ∙ sym c.type_of-ty.ensures

pub returns-clause-count : goal.returns-clause-count
returns-clause-count c = (grown c).count
