-- What reading the parts of an expression gives, with the least number of levels that each has.
use Rattle.std.specs.Prelude.{ℕ, ◌≡◌, ◌≤◌, List, drop, Result, Ok, Err}
use Rattle.qz_phrases.specs.declared.words.Spot.{Spot}
use Rattle.qz_phrases.specs.declared.words.HeadStart.{HeadStart}
use Rattle.qz_phrases.specs.declared.words.HeadStart.TheVariants as head
use Rattle.qz_phrases.specs.declared.cursor.Cursor.{Cursor}
use Rattle.qz_phrases.specs.declared.cursor.Fault.{Fault}
use Rattle.qz_phrases.specs.declared.expressions.Part.{Part}
use Rattle.qz_phrases.specs.declared.expressions.TailPart.{TailPart}
use Rattle.qz_phrases.specs.Words.{first, head_start, head_strength}
use Rattle.qz_phrases.specs.Phrases.{Kind}
use Rattle.qz_phrases.specs.Reading.{upcoming, Agrees, ReadsSome, Reads}
use Rattle.qz_phrases.specs.Expressions.{an_expr, an_operand, a_tail}

-- how many levels an operand has at least that begins so
abbrev pub head_need : HeadStart → ℕ
head_need head.Paren = 2
head_need (head.Unary op) = 2
head_need head.None = 0
head_need _ = 1

-- a phrase was read that has this many levels and no fewer
pub record Sized {A : Type 0} (K : Kind A) (room height : ℕ) (old new : Cursor) (x : A) : Type 0 where
  pub it : ReadsSome K height old new x
  pub low : height ≤ room
  pub least : (others : List Spot) → Agrees new others → (levels : ℕ) (y : A) (rest : List Spot) → K levels y (drop old.read others) rest → height ≤ levels

abbrev pub ReadsPart : ℕ → ℕ → Cursor → Cursor → Result Part Fault → Type 0
ReadsPart least room old new (Ok part) = Sized (an_expr least) room part.height old new part.expr
ReadsPart least room old new (Err why) = Reads (an_expr least) room old new (Err why)

abbrev pub ReadsOperand : ℕ → Cursor → Cursor → Result Part Fault → Type 0
ReadsOperand room old new (Ok part) = Sized an_operand room part.height old new part.expr × (part.strength ≡ head_strength (head_start (first (upcoming old))))
ReadsOperand room old new (Err why) = Reads an_operand room old new (Err why)

-- a fault is told where there is room for an operand
abbrev pub ReadsTail : ℕ → Cursor → Cursor → Result TailPart Fault → Type 0
ReadsTail room old new (Ok part) = Sized a_tail room part.height old new part.tail
ReadsTail room old new (Err why) = 1 ≤ room → Reads a_tail room old new (Err why)
