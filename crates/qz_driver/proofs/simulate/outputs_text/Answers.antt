use Rattle.qz_driver.proofs.SimLemmas.{outputs_told}
use Rattle.qz_driver.proofs.simulate.outputs_text.Goals as goal

pub returns : goal.returns
returns c = outputs_told c.args.circuit c.args.rows.now c.in_ok-outputs.outputs c.print_trace.result c.in_ok-outputs.ensures c.print_trace.ensures
