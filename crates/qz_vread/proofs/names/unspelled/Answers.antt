use Rattle.std.proofs.Common.{ℕ, List, Some, None, refl, ap, ◌∙◌}
use Rattle.std.specs.Str.{chars}
use Rattle.std.proofs.lemmas.Str.{chars-nil}
use Rattle.qz_vread.specs.Unspelling.{with_bytes}
use Rattle.qz_vread.proofs.NamesRead.{not_taken, not_unspelled}
use Rattle.qz_vread.proofs.names.unspelled.Goals as goal

pub loop-byte-init : goal.loop-byte-init
loop-byte-init c = ap (λ (cs : List ℕ). with_bytes c.args.bytes.now (Some (record { characters = cs; code = None }))) (ap chars c.new.ensures.bytes ∙ chars-nil)

pub returns-then-not-branch : goal.returns-then-not-branch
returns-then-not-branch c =
    not_unspelled c.args.bytes.now c.loop-byte.byte-index _ c.loop-byte.unspelling c.loop-byte-test.true refl c.loop-byte.invariant
    (not_taken _ c.take.new.self c.in_ok-take.field-0 c.if-not-branch.true c.in_ok-take.ensures)
