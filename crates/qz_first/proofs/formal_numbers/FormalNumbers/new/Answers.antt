use Rattle.std.proofs.Common.{◌≡◌, rules}
use Rattle.qz_first.proofs.NameLemmas.{kept_next, stood_already}
use Rattle.qz_first.proofs.formal_numbers.FormalNumbers.new.Goals as goal

pub returns-then-not-added : goal.returns-then-not-added
returns-then-not-added c =
    let same : c.in_ok-clone.field-0 ≡ c.formal-item.result.name = search rules in
    stood_already c.args.formals.now c.loop-formal.formal-index c.formal-item.result c.loop-formal-test.true c.formal-item.is
    c.in_ok-clone.field-0 same c.loop-formal.names.keys c.insert_full.new.self.keys c.loop-formal.invariant.keys
    c.in_ok-added.added c.in_ok-added.ensures.added c.if-not-added.true

pub loop-formal-preserved : goal.loop-formal-preserved
loop-formal-preserved c =
    let same : c.in_ok-clone.field-0 ≡ c.formal-item.result.name = search rules in
    let both = kept_next c.args.formals.now c.loop-formal.formal-index c.formal-item.result c.loop-formal-test.true c.formal-item.is
    c.in_ok-clone.field-0 same c.loop-formal.names.keys c.insert_full.new.self.keys c.loop-formal.invariant.keys
    c.in_ok-added.added c.in_ok-added.ensures.added c.if-not-added.false c.in_ok-added.ensures.keys c.loop-formal.invariant.apart in
    record { keys = both.0; apart = both.1 }
