use Rattle.std.proofs.Common.{◌≡◌, ℕ, ◌+◌, List, [], ◌++◌, ◌∷◌, length, length-append, IfSome, Ok, Err, refl, sym, ap, ◌∙◌, subst, arith, add-one}
use Rattle.std.proofs.lemmas.Bool.{eqb-true, eqb-false}
use Rattle.qz_trace.specs.Rows.{IsRow, rows_of}
use Rattle.qz_trace.specs.Outcomes.{IsOutcome, outcome_of}
use Rattle.qz_trace.specs.Reading.{IsLineAnswer}
use Rattle.qz_trace.proofs.RowLemmas.{rows_count, rows_more, row_length, times_one_more}
use Rattle.qz_trace.proofs.Steps.{GoesOn, goes_on_more, ends, stops_unended, stops}
use Rattle.qz_trace.proofs.Agree.{agree, only}
use Rattle.qz_trace.proofs.read.read_trace.Goals as goal

nothing : (l : List ℕ) → length l ≡ 0 → l ≡ []
nothing [] e = refl
nothing (x ∷ l) e = absurd (omega (arith, e))

pub returns-in_default-clause-found : goal.returns-in_default-clause-found
returns-in_default-clause-found c =
    let some : (c.loop-rest.rest.now ≡ [] → ⊥) = λ e. eqb-false (length c.loop-rest.rest.now) 0 (sym c.loop-rest-test.ensures) (ap length e) in
    stops_unended c.args.types.now c.args.bytes.now c.loop-rest.rest.now
    (rows_of (length c.args.types.now) c.loop-rest.steps c.loop-rest.values.items) c.loop-rest.steps c.loop-rest.invariant.goes_on
    (rows_count (length c.args.types.now) c.loop-rest.steps c.loop-rest.values.items) c.in_default.ensures.none some

pub returns-in_default-clause-only : goal.returns-in_default-clause-only
returns-in_default-clause-only c outcome has =
    agree c.args.types.now c.args.bytes.now _ outcome c.requires.types (returns-in_default-clause-found c) has

pub returns-in-Err-clause-found : goal.returns-in-Err-clause-found
returns-in-Err-clause-found c =
    let answer : IsLineAnswer c.args.types.now c.in-Some.text.now c.loop-rest.values.items c.read_line.result c.read_line.new.values.items =
    c.read_line.ensures in
    let fault : IsLineAnswer c.args.types.now c.in-Some.text.now c.loop-rest.values.items (Err c.in-Err.bad) c.read_line.new.values.items =
    subst (λ r. IsLineAnswer c.args.types.now c.in-Some.text.now c.loop-rest.values.items r c.read_line.new.values.items) c.in-Err.is answer in
    subst (λ bad. IfSome (outcome_of (Err bad)) (λ outcome. IsOutcome c.args.types.now c.args.bytes.now outcome)) (sym c.at.ensures)
    (stops c.args.types.now c.args.bytes.now c.loop-rest.rest.now c.in-Some.text.now c.in-Some.after.now
    (rows_of (length c.args.types.now) c.loop-rest.steps c.loop-rest.values.items) c.loop-rest.steps c.in-Err.bad
    c.loop-rest.values.items c.read_line.new.values.items c.loop-rest.invariant.goes_on
    (rows_count (length c.args.types.now) c.loop-rest.steps c.loop-rest.values.items) c.in-Some.ensures.some fault)

pub returns-in-Err-clause-only : goal.returns-in-Err-clause-only
returns-in-Err-clause-only c = only c.args.types.now c.args.bytes.now (Err c.at.result) c.requires.types (returns-in-Err-clause-found c)

pub loop-rest-preserved : goal.loop-rest-preserved
loop-rest-preserved c =
    let width = length c.args.types.now in
    let steps = c.loop-rest.steps in
    let old = c.loop-rest.values.items in
    let new = c.read_line.new.values.items in
    let answer : IsLineAnswer c.args.types.now c.in-Some.text.now old (Ok c.in-Ok.field-0) new = c.in-Ok.ensures in
    let row = answer.0 in
    let is : IsRow c.args.types.now row = answer.1 in
    let appended : new ≡ old ++ row = answer.3 in
    let size : length row ≡ width = row_length c.args.types.now row is in
    let cut = c.in-Some.ensures.some in
    let all = ap length appended ∙ length-append old row in
    let more = times_one_more width steps in
    let bytes = ap length cut.joined ∙ length-append c.in-Some.text.now (10 ∷ c.in-Some.after.now) in
    let room = c.loop-rest.invariant.room in
    let count = c.loop-rest.invariant.count in
    let rows = ap (rows_of width (steps + 1)) appended
    ∙ (ap (λ k. rows_of width k (old ++ row)) (add-one steps) ∙ rows_more width steps old row count size) in
    record {
      count = omega (arith, all, more, size, count);
      room = omega (arith, bytes, room);
      goes_on = subst (GoesOn c.args.types.now c.args.bytes.now c.in-Some.after.now) (sym rows)
          (goes_on_more c.args.types.now c.args.bytes.now c.loop-rest.rest.now c.in-Some.text.now c.in-Some.after.now row
          (rows_of width steps old) c.loop-rest.invariant.goes_on cut is answer.2);
    }

pub returns-clause-found : goal.returns-clause-found
returns-clause-found c =
    ends c.args.types.now c.args.bytes.now c.loop-rest.rest.now
    (rows_of (length c.args.types.now) c.loop-rest.steps c.loop-rest.values.items) c.loop-rest.invariant.goes_on
    (nothing c.loop-rest.rest.now (eqb-true (length c.loop-rest.rest.now) 0 (sym c.loop-rest-test.ensures)))

pub returns-clause-only : goal.returns-clause-only
returns-clause-only c outcome has = agree c.args.types.now c.args.bytes.now _ outcome c.requires.types (returns-clause-found c) has
