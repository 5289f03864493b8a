use Rattle.std.proofs.Common.{rules, tests}
use Rattle.std.proofs.lemmas.Iterator.{YieldsList-from_slice}
use Rattle.std.proofs.lemmas.Iterator.Search.{all_from_yields_List}
use Rattle.qz_values.specs.Values.{IsValue}
use Rattle.qz_verilog.specs.Types.{is_value}
use Rattle.qz_verilog.proofs.ValidityLemmas.{all_pass, is_value-IsValue}
use Rattle.qz_verilog.proofs.validity.are_values.Goals as goal

pub returns : goal.returns
returns c =
    let values = c.args.values.now in
    let is = all_from_yields_List is_value _ _ c.all.result c.all.ensures.ran (YieldsList-from_slice values cc) (λ x b q k. search (rules, tests)) in
    rw is (all_pass is_value IsValue is_value-IsValue values)
