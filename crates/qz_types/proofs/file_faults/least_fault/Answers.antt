use Rattle.std.proofs.Common.{◌≡◌}
use Rattle.std.specs.Option.{is_none}
use Rattle.qz_types.specs.FileFaults.{callees_of}
use Rattle.qz_types.proofs.FaultLemmas.{first_with_append, untold}
use Rattle.qz_types.proofs.file_faults.least_fault.Goals as goal

pub returns : goal.returns
returns c =
    let protos = rw (c.new-first.ensures, c.as_slice-file_protos.ensures) at c.in_ok-proto_formals.ensures in
    let numbers = rw c.as_slice-file_protos.ensures at c.in_ok-numbers.ensures in
    let callees = callees_of c.args.f.now.protos in
    let got : c.get.result ≡ callees c.args.f.now.module.name.name = rw numbers.scope at c.get.ensures in
    let free : c.is_none.result ≡ is_none (callees c.args.f.now.module.name.name) = rw (← got) (untold c.get.result c.is_none.result c.is_none.ensures) in
    let name = rw free at c.check.ensures in
    let names = rw c.as_slice.ensures at c.in_ok-names.ensures in
    let body = rw (c.as_slice-file_protos.ensures, numbers.scope, names.scope) at c.in_ok-block.ensures.faults in
    rw (
      first_with_append,
      first_with_append,
      first_with_append,
      first_with_append,
      first_with_append,
      ← protos,
      ← numbers.faults,
      ← name,
      ← names.faults,
      ← body,
    )
    c.in_ok-body_labels.ensures
