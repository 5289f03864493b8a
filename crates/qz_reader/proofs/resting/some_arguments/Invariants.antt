use Rattle.std.proofs.Common.{◌≡◌, ◌++◌, List, length}
use Rattle.qz_syntax.specs.declared.file_expressions.FileExpr.{FileExpr}
use Rattle.qz_phrases.specs.declared.words.Mark.TheVariants as mark
use Rattle.qz_phrases.specs.Phrases.{one}
use Rattle.qz_phrases.specs.StatementParts.{next_arg}
use Rattle.qz_phrases.specs.Reading.{upcoming}
use Rattle.qz_phrases.proofs.Combining.{always}
use Rattle.qz_phrases.proofs.Lists.{ListSoFar}
use Rattle.qz_reader.proofs.resting.some_arguments.Given as goal

abbrev pub invariant-loop-alloc : goal.invariant-loop-alloc
invariant-loop-alloc l = (xs : List FileExpr) × (l.args ≡ l.initial.args ++ xs)
    × ListSoFar (λ (s : Unit {0}). next_arg) (λ _. tt) (λ _. always (one mark.CloseParen)) l.room l.initial.cursor tt xs tt l.cursor

abbrev pub decreases-loop-alloc : goal.decreases-loop-alloc
decreases-loop-alloc l = length (upcoming l.cursor)
