use Rattle.std.proofs.Common.{◌∙◌, sym, subst, arith}
use Rattle.std.proofs.lemmas.List.{get_or_default}
use Rattle.qz_system.specs.declared.parts.SystemParts.{SystemParts}
use Rattle.qz_symbolic.specs.declared.variables.Variables.{Variables}
use Rattle.qz_symbolic.specs.Variables.{AreVariables}
use Rattle.qz_symbolic.proofs.Spots.{spots_count}
use Rattle.qz_symbolic.proofs.variables.Variables.new.Goals as goal

pub returns : goal.returns
returns c =
    let made : Variables = record { count = c.index-count.result.now; cells = c.in_ok-cells.cells; inputs = c.in_ok-inputs.inputs } in
    let right : AreVariables c.parts-parts.result.now made = record {
      count = let long = c.in_ok-starts.ensures.long in
          c.index-count.ensures ∙ get_or_default c.in_ok-starts.starts.items 64 c.index-count.result.now 0 (omega arith)
          ∙ c.in_ok-starts.ensures.each 64 (omega arith) ∙ sym (spots_count c.parts-parts.result.now);
      cell_count = c.in_ok-cells.ensures.count;
      cells = c.in_ok-cells.ensures.each;
      input_count = c.in_ok-inputs.ensures.count;
      inputs = c.in_ok-inputs.ensures.each;
    } in
    subst (λ (parts : SystemParts). AreVariables parts made) c.parts-parts.ensures.parts right
