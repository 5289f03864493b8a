use Rattle.std.proofs.Common.{◌≡◌, ◌+◌, ◌∷◌, drop, arith}
use Rattle.std.proofs.lemmas.List.{drop_more}
use Rattle.qz_types.proofs.FaultLemmas.{first_with_append}
use Rattle.qz_types.proofs.file_faults.proto_formals.Goals as goal

pub loop-proto-preserved : goal.loop-proto-preserved
loop-proto-preserved c =
    let i = c.loop-proto.proto-index in
    let xs = c.args.file_protos.now in
    let split : drop i xs ≡ c.proto-item.result ∷ drop (i + 1) xs = rw c.proto-item.is (drop_more xs i c.proto-item.result (omega arith)) in
    let so_far = rw split at c.loop-proto.invariant in
    rw (c.in_ok-formals.ensures.faults, c.as_slice.ensures, ← first_with_append) so_far
