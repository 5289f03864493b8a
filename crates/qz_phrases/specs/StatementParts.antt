-- The parts of statements that hold no statement.
use Rattle.std.specs.Prelude.{ℕ, Bool, true, false, Option}
use Rattle.qz_syntax.specs.declared.file_expressions.NameAt.{NameAt}
use Rattle.qz_syntax.specs.declared.file_expressions.FileExpr.{FileExpr}
use Rattle.qz_syntax.specs.declared.file_statements.Cond.{Cond}
use Rattle.qz_syntax.specs.declared.file_statements.Target.{Target}
use Rattle.qz_syntax.specs.declared.file_statements.FileStmt.{FileStmt}
use Rattle.qz_syntax.specs.declared.file_statements.FileStmt.TheVariants as stmt
use Rattle.qz_phrases.specs.declared.words.Mark.TheVariants as mark
use Rattle.qz_phrases.specs.declared.words.EmitStart.{EmitStart}
use Rattle.qz_phrases.specs.declared.words.EmitStart.TheVariants as emit
use Rattle.qz_phrases.specs.declared.words.TargetStart.{TargetStart}
use Rattle.qz_phrases.specs.declared.words.TargetStart.TheVariants as start
use Rattle.qz_phrases.specs.Words.{emit_start, target_start}
use Rattle.qz_phrases.specs.Phrases.{Rel, Kind, none, one, name, seq, meant, by_first}
use Rattle.qz_phrases.specs.Expressions.{an_expr}

-- `( e )`
abbrev pub a_cond : Kind Cond
a_cond levels = meant (λ p. record { at = p.0; expr = p.1.0 }) (seq (one mark.OpenParen) (seq (an_expr 1 levels) (one mark.CloseParen)))

-- `next ( x )`
abbrev pub next_target : Rel Target
next_target = meant (λ p. record { next = true; name = p.1.1.0 }) (seq (one mark.Next) (seq (one mark.OpenParen) (seq name (one mark.CloseParen))))

-- `x` or `next ( x )`
abbrev pub target_row : TargetStart → Rel Target
target_row start.Name = meant (λ n. record { next = false; name = n }) name
target_row start.Next = next_target
target_row start.None = none

abbrev pub a_target : Rel Target
a_target = by_first (λ w. target_row (target_start w))

-- `= e ;`
abbrev pub a_value : Kind (ℕ × FileExpr)
a_value levels = meant (λ p. (p.0, p.1.0)) (seq (one mark.Equals) (seq (an_expr 1 levels) (one mark.Semicolon)))

-- `await ( e ) ;`
abbrev pub awaited : Option NameAt → Bool → Kind FileStmt
awaited label immediate levels = meant (λ p. stmt.Await label immediate p.1.0) (seq (one mark.Await) (seq (a_cond levels) (one mark.Semicolon)))

-- `, e`
abbrev pub next_arg : Kind FileExpr
next_arg levels = meant (λ p. p.1) (seq (one mark.Comma) (an_expr 1 levels))

-- what follows `emit`: a target, or one in parentheses
abbrev pub emitted_row : EmitStart → Rel Target
emitted_row emit.Paren = meant (λ p. p.1.0) (seq (one mark.OpenParen) (seq a_target (one mark.CloseParen)))
emitted_row emit.Target = a_target

abbrev pub emitted : Rel Target
emitted = by_first (λ w. emitted_row (emit_start w))
