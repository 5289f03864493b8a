use Rattle.std.proofs.Common.{◌∙◌, ◌+◌, ap, sym, arith}
use Rattle.qz_symbolic.proofs.Spots.{input_read, input_size_more}
use Rattle.qz_symbolic.proofs.variables.inputs_size.Goals as goal

pub loop-n-preserved : goal.loop-n-preserved
loop-n-preserved c =
    let more = input_size_more c.args.parts.now c.args.j c.loop-n.n c.port-item.result.ty
    (input_read c.args.parts.now c.as_slice-port-items.result.now c.loop-n.n c.port-item.result c.as_slice-port-items.ensures c.loop-n-test.true c.port-item.is)
    c.value_size-size.result c.value_size-size.ensures.size in
    record { size = ap (λ n. n + c.value_size-size.result) c.loop-n.invariant.size ∙ sym more; few = omega arith }
