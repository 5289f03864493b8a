use Rattle.std.proofs.Common.{rules, tests}
use Rattle.std.proofs.lemmas.Iterator.{YieldsList-from_slice}
use Rattle.std.proofs.lemmas.Iterator.Search.{all_from_yields_List}
use Rattle.std.proofs.lemmas.List.Folds.{list_all-map}
use Rattle.qz_values.specs.Types.{is_type, IsType}
use Rattle.qz_syntax.specs.declared.declarations.Port.{Port}
use Rattle.qz_verilog.specs.Validity.{port_types}
use Rattle.qz_verilog.proofs.ValidityLemmas.{all_pass, is_type-IsType}
use Rattle.qz_verilog.proofs.validity.have_types.Goals as goal

pub returns : goal.returns
returns c =
    let ports = c.args.ports.now in
    let is = all_from_yields_List (λ (port : Port). is_type port.ty) _ _ c.all.result c.all.ensures.ran (YieldsList-from_slice ports cc) (λ x b q k. search (rules, tests)) in
    rw (is, ← list_all-map is_type (λ (port : Port). port.ty) ports) (all_pass is_type IsType is_type-IsType (port_types ports))
