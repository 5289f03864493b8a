use Rattle.std.proofs.Common.{◌++◌, List, ap, ◌∙◌}
use Rattle.qz_react.specs.declared.environments.Met.{Met}
use Rattle.qz_interp.specs.Entering.{outputs_met}
use Rattle.qz_interp.proofs.EnteringLemmas.{lists_met}
use Rattle.qz_interp.proofs.entering.list_met.Goals as goal

pub returns : goal.returns
returns c = λ long.
    lists_met c.args.w.now.module (record { place = c.args.place.now; outputs = c.args.outputs.now }) c.list_outputs.new.met.items c.meet.new.out.items
    (c.in_ok-list_outputs.ensures ∙ ap (λ (xs : List Met). xs ++ outputs_met 0 c.args.outputs.now) c.clear.ensures.items) c.in_ok-meet.ensures long
