use Rattle.std.proofs.Common.{length, ap, ◌∙◌}
use Rattle.qz_run.proofs.FormalLemmas.{output_count_told}
use Rattle.qz_run.proofs.formals.output_count.Goals as goal

pub returns : goal.returns
returns c = ap length c.as_slice-listed.ensures.value ∙ output_count_told c.args.m.now c.as_slice.result.now c.in_ok-types.types.items c.as_slice.ensures c.in_ok-types.ensures
