use Rattle.std.proofs.Common.{sym, ◌∙◌, rules, tests}
use Rattle.std.proofs.lemmas.Iterator.{YieldsList-from_slice}
use Rattle.std.proofs.lemmas.Iterator.Search.{all_from_yields_List}
use Rattle.std.proofs.lemmas.List.Folds.{list_all-map}
use Rattle.qz_values.specs.declared.Ty.{Ty}
use Rattle.qz_syntax.specs.declared.declarations.Port.{Port}
use Rattle.qz_vread.specs.TypeSets.{has}
use Rattle.qz_vread.proofs.driven.TypeSet.have_each.Goals as goal

pub returns : goal.returns
returns c =
    let ports = c.args.ports.now in
    let is = all_from_yields_List (λ (port : Port). has c.args.self.now port.ty) _ _ c.all.result c.all.ensures.ran (YieldsList-from_slice ports cc) (λ x b q k. search (rules, tests)) in
    is ∙ sym (list_all-map (λ (t : Ty). has c.args.self.now t) (λ (port : Port). port.ty) ports)
