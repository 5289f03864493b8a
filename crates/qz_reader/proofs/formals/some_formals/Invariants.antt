use Rattle.std.proofs.Common.{ℕ, ◌≡◌, ◌++◌, List, length}
use Rattle.qz_syntax.specs.declared.files.FileFormal.{FileFormal}
use Rattle.qz_phrases.specs.declared.words.Mark.TheVariants as mark
use Rattle.qz_phrases.specs.Phrases.{one}
use Rattle.qz_phrases.specs.Reading.{upcoming}
use Rattle.qz_phrases.proofs.Combining.{always}
use Rattle.qz_phrases.proofs.Lists.{ListSoFar}
use Rattle.qz_reader.specs.Formals.{next_formal, typing_of}
use Rattle.qz_reader.proofs.formals.some_formals.Given as goal

abbrev pub invariant-loop-last : goal.invariant-loop-last
invariant-loop-last l = (xs : List FileFormal) × (l.formals ≡ l.initial.formals ++ xs)
    × ((room : ℕ) → ListSoFar (λ s. always (next_formal s)) typing_of (λ _. always (one mark.CloseParen)) room l.initial.cursor l.initial.last xs l.last l.cursor)

abbrev pub decreases-loop-last : goal.decreases-loop-last
decreases-loop-last l = length (upcoming l.cursor)
