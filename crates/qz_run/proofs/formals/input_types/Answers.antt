use Rattle.qz_run.proofs.FormalLemmas.{input_types_told}
use Rattle.qz_run.proofs.formals.input_types.Goals as goal

pub returns : goal.returns
returns c = input_types_told c.args.m.now c.as_slice.result.now c.types_of.result c.as_slice.ensures c.types_of.ensures
