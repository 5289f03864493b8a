-- The sorts of words: how strongly an operator binds, and which words end a phrase.
use Rattle.std.specs.Prelude.{ℕ, Bool, true, false, List, [], ◌∷◌}
use Rattle.qz_phrases.specs.declared.words.Word.{Word}
use Rattle.qz_phrases.specs.declared.words.Word.TheVariants as word
use Rattle.qz_phrases.specs.declared.words.Sort.{Sort}
use Rattle.qz_phrases.specs.declared.words.Sort.TheVariants as sort
use Rattle.qz_phrases.specs.declared.words.Spot.{Spot}
use Rattle.qz_phrases.specs.declared.words.Mark.{Mark}
use Rattle.qz_phrases.specs.declared.words.Mark.TheVariants as mark
use Rattle.qz_phrases.specs.declared.words.HeadStart.{HeadStart}
use Rattle.qz_phrases.specs.declared.words.HeadStart.TheVariants as head
use Rattle.qz_phrases.specs.declared.words.TailStart.{TailStart}
use Rattle.qz_phrases.specs.declared.words.TailStart.TheVariants as tail
use Rattle.qz_phrases.specs.declared.words.IndexStart.{IndexStart}
use Rattle.qz_phrases.specs.declared.words.IndexStart.TheVariants as index
use Rattle.qz_phrases.specs.declared.words.TargetStart.{TargetStart}
use Rattle.qz_phrases.specs.declared.words.TargetStart.TheVariants as target
use Rattle.qz_phrases.specs.declared.words.EmitStart.{EmitStart}
use Rattle.qz_phrases.specs.declared.words.EmitStart.TheVariants as emit
use Rattle.qz_phrases.specs.declared.words.TypeStart.{TypeStart}
use Rattle.qz_phrases.specs.declared.words.TypeStart.TheVariants as type
use Rattle.qz_phrases.specs.declared.words.TypingStart.{TypingStart}
use Rattle.qz_phrases.specs.declared.words.TypingStart.TheVariants as typing
use Rattle.qz_syntax.specs.declared.declarations.Class.{Class}
use Rattle.qz_syntax.specs.declared.declarations.Class.TheVariants as class
use Rattle.qz_values.specs.declared.Op1.{Op1}
use Rattle.qz_values.specs.declared.Op1.TheVariants as op1
use Rattle.qz_values.specs.declared.Op2.{Op2}
use Rattle.qz_values.specs.declared.Op2.TheVariants as op2

abbrev pub sort_of : Word → Sort
sort_of (word.Name n) = sort.Name
sort_of (word.Number n) = sort.Number
sort_of (word.Literal w v) = sort.Literal
sort_of (word.Mark m) = sort.Mark m

-- the sort of the next word
abbrev pub first : List Spot → Sort
first [] = sort.End
first (spot ∷ more) = sort_of spot.word

-- words that go on no phrase before them: neither what goes on an expression nor `else` nor a class or a type
abbrev pub closes : Sort → Bool
closes (sort.Mark mark.Arrow) = false
closes (sort.Mark mark.Bar) = false
closes (sort.Mark mark.Caret) = false
closes (sort.Mark mark.Ampersand) = false
closes (sort.Mark mark.EqualEqual) = false
closes (sort.Mark mark.NotEqual) = false
closes (sort.Mark mark.Less) = false
closes (sort.Mark mark.LessEqual) = false
closes (sort.Mark mark.Greater) = false
closes (sort.Mark mark.GreaterEqual) = false
closes (sort.Mark mark.Plus) = false
closes (sort.Mark mark.Minus) = false
closes (sort.Mark mark.At) = false
closes (sort.Mark mark.Question) = false
closes (sort.Mark mark.OpenBrace) = false
closes (sort.Mark mark.Else) = false
closes (sort.Mark mark.Event) = false
closes (sort.Mark mark.Mem) = false
closes (sort.Mark mark.Bool) = false
closes (sort.Mark mark.Bv) = false
closes _ = true

-- what a word begins, where an operand is wanted
abbrev pub head_start : Sort → HeadStart
head_start (sort.Mark mark.True) = head.Bool true
head_start (sort.Mark mark.False) = head.Bool false
head_start sort.Literal = head.Literal
head_start sort.Name = head.Name
head_start (sort.Mark mark.OpenParen) = head.Paren
head_start (sort.Mark mark.Exclamation) = head.Unary op1.Not
head_start (sort.Mark mark.Tilde) = head.Unary op1.Invert
head_start _ = head.None

abbrev pub bool_mark : Bool → Mark
bool_mark true = mark.True
bool_mark false = mark.False

abbrev pub unary_mark : Op1 → Mark
unary_mark op1.Not = mark.Exclamation
unary_mark op1.Invert = mark.Tilde

-- what a word begins, after an expression that it goes on
abbrev pub tail_start : Sort → TailStart
tail_start (sort.Mark mark.Arrow) = tail.Binary op2.Imp
tail_start (sort.Mark mark.Bar) = tail.Binary op2.Or
tail_start (sort.Mark mark.Caret) = tail.Binary op2.Xor
tail_start (sort.Mark mark.Ampersand) = tail.Binary op2.And
tail_start (sort.Mark mark.EqualEqual) = tail.Binary op2.Eq
tail_start (sort.Mark mark.NotEqual) = tail.Binary op2.Ne
tail_start (sort.Mark mark.Less) = tail.Binary op2.Lt
tail_start (sort.Mark mark.LessEqual) = tail.Binary op2.Le
tail_start (sort.Mark mark.Greater) = tail.Binary op2.Gt
tail_start (sort.Mark mark.GreaterEqual) = tail.Binary op2.Ge
tail_start (sort.Mark mark.Plus) = tail.Binary op2.Add
tail_start (sort.Mark mark.Minus) = tail.Binary op2.Sub
tail_start (sort.Mark mark.At) = tail.Concat
tail_start (sort.Mark mark.Question) = tail.Choose
tail_start (sort.Mark mark.OpenBrace) = tail.Select
tail_start _ = tail.None

abbrev pub binary_mark : Op2 → Mark
binary_mark op2.Imp = mark.Arrow
binary_mark op2.Or = mark.Bar
binary_mark op2.Xor = mark.Caret
binary_mark op2.And = mark.Ampersand
binary_mark op2.Eq = mark.EqualEqual
binary_mark op2.Ne = mark.NotEqual
binary_mark op2.Lt = mark.Less
binary_mark op2.Le = mark.LessEqual
binary_mark op2.Gt = mark.Greater
binary_mark op2.Ge = mark.GreaterEqual
binary_mark op2.Add = mark.Plus
binary_mark op2.Sub = mark.Minus

-- what a word begins, after the first index of a selection
abbrev pub index_start : Sort → IndexStart
index_start (sort.Mark mark.CloseBrace) = index.Close
index_start (sort.Mark mark.Colon) = index.Colon
index_start _ = index.None

-- what a word begins, where a target is wanted
abbrev pub target_start : Sort → TargetStart
target_start sort.Name = target.Name
target_start (sort.Mark mark.Next) = target.Next
target_start _ = target.None

-- what a word begins, where a type is wanted
abbrev pub type_start : Sort → TypeStart
type_start (sort.Mark mark.Bool) = type.Bool
type_start (sort.Mark mark.Bv) = type.Bv
type_start _ = type.None

-- what a word begins, where a class or a type is wanted
abbrev pub typing_start : Sort → TypingStart
typing_start (sort.Mark mark.Event) = typing.Class class.Event
typing_start (sort.Mark mark.Mem) = typing.Class class.Mem
typing_start (sort.Mark mark.Bool) = typing.Type
typing_start (sort.Mark mark.Bv) = typing.Type
typing_start _ = typing.None

abbrev pub class_mark : Class → Mark
class_mark class.Event = mark.Event
class_mark class.Mem = mark.Mem

abbrev pub is_comma : Sort → Bool
is_comma (sort.Mark mark.Comma) = true
is_comma _ = false

-- what a word begins, after `emit`
abbrev pub emit_start : Sort → EmitStart
emit_start (sort.Mark mark.OpenParen) = emit.Paren
emit_start _ = emit.Target

-- How strongly a form binds: `?:` 1, `->` 2, `|` 3, `^` 4, `&` 5, comparisons 6, `+` and `-` 7, `@` 8,
-- `!` and `~` 9, selections and operands 10.
abbrev pub tail_strength : TailStart → ℕ
tail_strength (tail.Binary op2.Imp) = 2
tail_strength (tail.Binary op2.Or) = 3
tail_strength (tail.Binary op2.Xor) = 4
tail_strength (tail.Binary op2.And) = 5
tail_strength (tail.Binary op2.Add) = 7
tail_strength (tail.Binary op2.Sub) = 7
tail_strength (tail.Binary _) = 6
tail_strength tail.Concat = 8
tail_strength tail.Choose = 1
tail_strength tail.Select = 10
tail_strength tail.None = 0

-- the least strength of what stands before it
abbrev pub tail_left : TailStart → ℕ
tail_left (tail.Binary op2.Imp) = 3
tail_left (tail.Binary op2.Or) = 3
tail_left (tail.Binary op2.Xor) = 4
tail_left (tail.Binary op2.And) = 5
tail_left (tail.Binary _) = 7
tail_left tail.Concat = 8
tail_left tail.Choose = 2
tail_left tail.Select = 10
tail_left tail.None = 11

-- the least strength of an operator's right operand
abbrev pub binary_right : Op2 → ℕ
binary_right op2.Imp = 2
binary_right op2.Or = 4
binary_right op2.Xor = 5
binary_right op2.And = 6
binary_right op2.Add = 8
binary_right op2.Sub = 8
binary_right _ = 7

abbrev pub head_strength : HeadStart → ℕ
head_strength (head.Unary op) = 9
head_strength _ = 10

-- how strongly the next word binds to an expression before it, or 0 where it doesn't go on one
abbrev pub strength : List Spot → ℕ
strength words = tail_strength (tail_start (first words))
