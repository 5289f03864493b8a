use Rattle.qz_first.proofs.TextLemmas.{text_of_implementation}
use Rattle.qz_first.proofs.DoingPrograms.{implementation_is_valid}
use Rattle.qz_first.proofs.circuit_text.text_of_module.Goals as goal

pub returns : goal.returns
returns c = text_of_implementation c.args.program c.in_ok-circuit.circuit c.write_v.result c.requires c.in_ok-circuit.ensures c.write_v.ensures

pub write_v-requires : goal.write_v-requires
write_v-requires c = implementation_is_valid c.in_ok-circuit.circuit c.args.program c.requires c.in_ok-circuit.ensures
