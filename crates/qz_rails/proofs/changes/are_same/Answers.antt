use Rattle.std.proofs.Common.{◌≡◌, Bool, List, refl}
use Rattle.qz_dd.specs.Tables.{Reads, value_in}
use Rattle.qz_rails.specs.Rails.{know_in}
use Rattle.qz_rails.specs.Changes.{at_bits}
use Rattle.qz_rails.proofs.Changing.{never_both}
use Rattle.qz_rails.proofs.changes.are_same.Goals as goal

pub returns-clause-same : goal.returns-clause-same
returns-clause-same c =
    let table = c.apply.new.self in
    let a = c.args.a.now in
    let b = c.args.b.now in
    let there = λ (bits : List Bool).
    let reading = at_bits table bits in
    let reads : Reads reading table = record { each = λ n below. refl } in
    let before : Reads reading c.differ.new.diagrams = c.in_ok-there.ensures.extends.reads reading reads in
    never_both (know_in reading c.args.ty a ≡ know_in reading c.args.ty b)
    (value_in table c.args.permitted.0 bits) (value_in table c.in_ok-difference.difference.0 bits) (value_in table c.in_ok-there.there.0 bits)
    (c.in_ok-difference.ensures.means reading before) (c.in_ok-there.ensures.means reading reads) in (
      λ is bits size on. (there bits).0 (c.is_nowhere-r.ensures.0 is bits size) on,
      λ same. c.is_nowhere-r.ensures.1 (λ bits size. (there bits).1 (λ on. same bits size on)),
    )
