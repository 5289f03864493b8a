-- The expressions: how their operators bind and group, and how many levels they have.
use Rattle.std.specs.Prelude.{ℕ, zero, suc, ◌≡◌, ◌≤◌, ◌<◌, ◌⊎◌, List, Option, Some, None}
use Rattle.qz_syntax.specs.declared.file_expressions.FileExpr.{FileExpr}
use Rattle.qz_syntax.specs.declared.file_expressions.FileExpr.TheVariants as expr
use Rattle.qz_phrases.specs.declared.words.Mark.TheVariants as mark
use Rattle.qz_phrases.specs.declared.words.HeadStart.{HeadStart}
use Rattle.qz_phrases.specs.declared.words.HeadStart.TheVariants as head
use Rattle.qz_phrases.specs.declared.words.TailStart.{TailStart}
use Rattle.qz_phrases.specs.declared.words.TailStart.TheVariants as tail
use Rattle.qz_phrases.specs.declared.words.IndexStart.{IndexStart}
use Rattle.qz_phrases.specs.declared.words.IndexStart.TheVariants as index
use Rattle.qz_phrases.specs.declared.expressions.Tail.{Tail}
use Rattle.qz_phrases.specs.declared.expressions.Tail.TheVariants as tailed
use Rattle.qz_phrases.specs.Words.{first, head_start, tail_start, index_start, bool_mark, unary_mark, binary_mark, binary_right, head_strength, tail_left, strength}
use Rattle.qz_phrases.specs.Phrases.{Rel, Kind, none, one, name, number, literal, seq, meant, by_first}

-- an operand by what begins it, where expressions of at least a strength are spelled so
abbrev pub operand : (ℕ → Rel FileExpr) → HeadStart → Rel FileExpr
operand inner (head.Bool b) = meant (λ at. expr.Bool b at) (one (bool_mark b))
operand inner head.Literal = meant (λ n. expr.Lit n.0 n.1 n.2) literal
operand inner head.Name = meant expr.Name name
operand inner head.Paren = meant (λ p. expr.Paren p.0 p.1.0) (seq (one mark.OpenParen) (seq (inner 1) (one mark.CloseParen)))
operand inner (head.Unary op) = meant (λ p. expr.Un op p.0 p.1) (seq (one (unary_mark op)) (inner 9))
operand inner head.None = none

-- `}` or `:l}`
abbrev pub index_end : IndexStart → Rel (Option ℕ)
index_end index.Close = meant (λ _. None) (one mark.CloseBrace)
index_end index.Colon = meant (λ p. Some p.1.0.0) (seq (one mark.Colon) (seq number (one mark.CloseBrace)))
index_end index.None = none

abbrev pub after_index : Rel (Option ℕ)
after_index = by_first (λ w. index_end (index_start w))

-- `i}` or `h:l}`
abbrev pub indices : Rel (ℕ × Option ℕ)
indices = meant (λ p. (p.0.0, p.1)) (seq number after_index)

-- what goes on an expression, by what begins it
abbrev pub tail_of : (ℕ → Rel FileExpr) → TailStart → Rel Tail
tail_of inner (tail.Binary op) = meant (λ p. tailed.Binary op p.0 p.1) (seq (one (binary_mark op)) (inner (binary_right op)))
tail_of inner tail.Concat = meant (λ p. tailed.Concat p.0 p.1) (seq (one mark.At) (inner 9))
tail_of inner tail.Choose = meant (λ p. tailed.Choose p.0 p.1.0 p.1.1.1) (seq (one mark.Question) (seq (inner 1) (seq (one mark.Colon) (inner 1))))
tail_of inner tail.Select = meant (λ p. tailed.Select p.0 p.1.0 p.1.1) (seq (one mark.OpenBrace) indices)
tail_of inner tail.None = none

-- what it makes of the expression before it
abbrev pub applied : FileExpr → Tail → FileExpr
applied e (tailed.Binary op at right) = expr.Bin op at e right
applied e (tailed.Concat at right) = expr.Concat at e right
applied e (tailed.Choose at left right) = expr.Choose at e left right
applied e (tailed.Select at high low) = expr.Select at e high low

-- an expression is as long as it can be: no word follows that goes on it
abbrev pub ended : (ℕ → Rel FileExpr) → ℕ → Rel FileExpr
ended inner least e words rest = inner least e words rest × (strength rest < least)

-- An expression of at least a strength: an operand, or an expression that binds strongly enough and what goes on
-- it. Each of its parts has one level less.
abbrev pub is_expr : ℕ → ℕ → Rel FileExpr
is_expr zero least e words rest = ⊥
is_expr (suc levels) least e words rest =
    (operand (ended (is_expr levels)) (head_start (first words)) e words rest × (least ≤ head_strength (head_start (first words))))
    ⊎ ((left : FileExpr) × (t : Tail) × (between : List _) × is_expr levels (tail_left (tail_start (first between))) left words between
    × (least ≤ strength between) × (e ≡ applied left t) × tail_of (ended (is_expr levels)) (tail_start (first between)) t between rest)

-- whole expressions of at least a strength
abbrev pub an_expr : ℕ → Kind FileExpr
an_expr least levels = ended (is_expr levels) least

-- operands
abbrev pub an_operand : Kind FileExpr
an_operand zero e words rest = ⊥
an_operand (suc levels) e words rest = operand (ended (is_expr levels)) (head_start (first words)) e words rest

abbrev pub a_tail : Kind Tail
a_tail levels t words rest = tail_of (ended (is_expr levels)) (tail_start (first words)) t words rest
