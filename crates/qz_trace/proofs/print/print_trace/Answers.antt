use Rattle.std.proofs.Common.{◌≡◌, suc, ◌+◌, ◌*◌, ◌-◌, [], ◌∷◌, ◌++◌, take, string_bytes, sym, ap, ◌∙◌, append_assoc, arith}
use Rattle.qz_trace.specs.Rows.{row_text, rows_of, trace_text}
use Rattle.qz_trace.proofs.RowLemmas.{times_suc}
use Rattle.qz_trace.proofs.print.print_trace.Goals as goal

pub split_at-requires : goal.split_at-requires
split_at-requires c =
    let w = c.args.t.now.width in
    let k = c.args.t.now.steps - (c.loop.counter + 1) in
    let less : c.args.t.now.steps - c.loop.counter ≡ suc k = omega (arith, c.loop-test.true) in
    let left = c.loop.invariant.left ∙ (ap (λ n. w * n) less ∙ times_suc w k) in
    omega (arith, left)

pub loop-preserved : goal.loop-preserved
loop-preserved c =
    let w = c.args.t.now.width in
    let rest = c.loop.rest.now in
    let k = c.args.t.now.steps - (c.loop.counter + 1) in
    let less : c.args.t.now.steps - c.loop.counter ≡ suc k = omega (arith, c.loop-test.true) in
    let left = c.loop.invariant.left ∙ (ap (λ n. w * n) less ∙ times_suc w k) in
    let s = c.split_at.ensures in
    let back = s.back_len in
    let after = trace_text (rows_of w k c.split_at.result.1.now) in
    let text = string_bytes c.loop.text in
    let row = row_text c.split_at.result.0.now in
    record {
      left = omega (arith, left, back);
      all = ap (λ l. l ++ after) c.in_ok-push_row.ensures
          ∙ (append_assoc text (row ++ (10 ∷ [])) after
          ∙ (ap (λ l. text ++ l) (append_assoc row (10 ∷ []) after
          ∙ (ap (λ l. row_text l ++ (10 ∷ after)) s.front ∙ ap (λ l. row_text (take w rest) ++ (10 ∷ trace_text (rows_of w k l))) s.back))
          ∙ (ap (λ n. text ++ trace_text (rows_of w n rest)) (sym less) ∙ c.loop.invariant.all)));
    }
