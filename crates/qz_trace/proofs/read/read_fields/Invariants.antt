-- What the fields that are left give after the numbers so far is what all of them give.
use Rattle.std.proofs.Common.{ℕ, List, Result, map, drop}
use Rattle.qz_trace.specs.declared.faults.BadLine.{BadLine}
use Rattle.qz_trace.specs.Reading.{IsFieldsAnswer}
use Rattle.qz_trace.proofs.read.read_fields.Given as goal

abbrev pub invariant-loop-at : goal.invariant-loop-at
invariant-loop-at l = (result : Result Unit BadLine) (new : List ℕ)
    → IsFieldsAnswer (drop l.at l.types) (drop l.at (map (λ field. field.now) l.fields)) l.values.items result new
    → IsFieldsAnswer l.types (map (λ field. field.now) l.fields) l.initial.values.items result new
