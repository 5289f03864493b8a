-- What the bytes so far make, with the bytes that are still to come, is what all of them make.
use Rattle.std.proofs.Common.{◌≡◌, drop, Some, None, []}
use Rattle.qz_vread.specs.Unspelling.{with_bytes}
use Rattle.qz_vread.proofs.names.unspelled.Given as goal

abbrev pub invariant-loop-byte : goal.invariant-loop-byte
invariant-loop-byte l =
    with_bytes (drop l.byte-index l.bytes) (Some l.unspelling) ≡ with_bytes l.bytes (Some (record { characters = []; code = None }))
