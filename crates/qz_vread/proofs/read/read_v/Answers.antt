use Rattle.std.proofs.Common.{arith, ◌≡◌, ◌∷◌, ◌++◌, true, false, length, length-append, ap, subst}
use Rattle.qz_vread.specs.Drafts.{IsStep, Takes}
use Rattle.qz_vread.proofs.Answering.{line_refused, line_read, next_number, last_read, nothing_so_far, first_number}
use Rattle.qz_vread.proofs.read.read_v.Goals as goal

pub loop-text-init : goal.loop-text-init
loop-text-init c = record {
  count = omega arith;
  number = first_number c.new-draft.result c.new-draft.ensures;
  reading = nothing_so_far c.args.bytes.now c.new-draft.result c.new-draft.ensures;
}

pub returns-then-not-branch : goal.returns-then-not-branch
returns-then-not-branch c =
    let takes : Takes (IsStep c.loop-text.draft c.in-Some.text.now) c.take.new.self false =
    subst (λ taken. Takes (IsStep c.loop-text.draft c.in-Some.text.now) c.take.new.self taken) c.if-not-branch.true c.in_ok-take.ensures in
    line_refused c.args.bytes.now c.loop-text.draft c.take.new.self c.loop-text.rest.now c.in-Some.text.now c.in-Some.later.now c.loop-text.line c.requires c.loop-text.invariant.reading c.loop-text.invariant.number
    c.in-Some.ensures takes

pub loop-text-preserved : goal.loop-text-preserved
loop-text-preserved c =
    let takes : Takes (IsStep c.loop-text.draft c.in-Some.text.now) c.take.new.self true =
    subst (λ taken. Takes (IsStep c.loop-text.draft c.in-Some.text.now) c.take.new.self taken) c.if-not-branch.false c.in_ok-take.ensures in
    let cut : length c.loop-text.rest.now ≡ length (c.in-Some.text.now ++ 10 ∷ c.in-Some.later.now) = ap length c.in-Some.ensures.whole in
    record {
      count = omega (arith, cut, length-append c.in-Some.text.now (10 ∷ c.in-Some.later.now), c.loop-text.invariant.count);
      number = next_number c.args.bytes.now c.loop-text.draft c.take.new.self c.loop-text.rest.now c.in-Some.text.now c.loop-text.line c.loop-text.invariant.reading c.loop-text.invariant.number takes;
      reading = line_read c.args.bytes.now c.loop-text.draft c.take.new.self c.loop-text.rest.now c.in-Some.text.now c.in-Some.later.now c.loop-text.invariant.reading c.in-Some.ensures takes;
    }

pub returns : goal.returns
returns c =
    c.whole.ensures c.args.bytes.now
    (last_read c.args.bytes.now c.loop-text.draft c.loop-text.rest.now c.loop-text.line c.requires c.loop-text.invariant.reading c.loop-text.invariant.number c.in_default.ensures)
