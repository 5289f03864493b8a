-- What is written and the text of the rows that are left is all.
use Rattle.std.proofs.Common.{◌≡◌, ◌*◌, ◌-◌, ◌++◌, length, string_bytes}
use Rattle.qz_trace.specs.Rows.{rows_of, trace_text}
use Rattle.qz_trace.proofs.print.print_trace.Given as goal

abbrev pub invariant-loop : goal.invariant-loop
invariant-loop l = record {
  left : length l.rest ≡ l.t.width * (l.t.steps - l.counter);
  all : string_bytes l.text ++ trace_text (rows_of l.t.width (l.t.steps - l.counter) l.rest)
      ≡ trace_text (rows_of l.t.width l.t.steps l.t.values.items);
}
