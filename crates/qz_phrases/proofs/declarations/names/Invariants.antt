use Rattle.std.proofs.Common.{ℕ, ◌≡◌, ◌++◌, List, length}
use Rattle.qz_syntax.specs.declared.file_expressions.NameAt.{NameAt}
use Rattle.qz_phrases.specs.declared.words.Mark.TheVariants as mark
use Rattle.qz_phrases.specs.Phrases.{one}
use Rattle.qz_phrases.specs.Declarations.{next_name}
use Rattle.qz_phrases.specs.Reading.{upcoming}
use Rattle.qz_phrases.proofs.Combining.{always}
use Rattle.qz_phrases.proofs.Lists.{ListSoFar}
use Rattle.qz_phrases.proofs.declarations.names.Given as goal

abbrev pub invariant-loop-cursor : goal.invariant-loop-cursor
invariant-loop-cursor l = (xs : List NameAt) × (l.names ≡ l.initial.names ++ xs)
    × ((room : ℕ) → ListSoFar (λ (s : Unit {0}). always next_name) (λ _. tt) (λ _. always (one mark.Semicolon)) room l.initial.cursor tt xs tt l.cursor)

abbrev pub decreases-loop-cursor : goal.decreases-loop-cursor
decreases-loop-cursor l = length (upcoming l.cursor)
