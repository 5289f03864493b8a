-- Phrases that no level is left for.
use Rattle.std.proofs.Common.{◌≡◌, ℕ, zero, suc, ◌≤◌, inr, Bool, List, Option, refl, arith}
use Rattle.qz_syntax.specs.declared.file_expressions.NameAt.{NameAt}
use Rattle.qz_syntax.specs.declared.file_expressions.FileExpr.{FileExpr}
use Rattle.qz_syntax.specs.declared.file_statements.Cond.{Cond}
use Rattle.qz_syntax.specs.declared.file_statements.FileStmt.{FileStmt}
use Rattle.qz_phrases.specs.declared.words.Spot.{Spot}
use Rattle.qz_phrases.specs.declared.words.Sort.{Sort}
use Rattle.qz_phrases.specs.declared.words.Sort.TheVariants as sort
use Rattle.qz_phrases.specs.declared.words.Mark.TheVariants as mark
use Rattle.qz_phrases.specs.declared.cursor.Cursor.{Cursor}
use Rattle.qz_phrases.specs.Reading.{upcoming, ReadsSome}
use Rattle.qz_phrases.specs.Phrases.{one, seq}
use Rattle.qz_phrases.specs.Expressions.{an_expr}
use Rattle.qz_reader.specs.declared.starts.RestStart.TheVariants as rest
use Rattle.qz_reader.specs.declared.starts.NamedStart.TheVariants as named
use Rattle.qz_reader.specs.Starts.{rest_start, named_start}
use Rattle.qz_phrases.specs.StatementParts.{a_cond, a_value, awaited}

pub no_expr : (e : FileExpr) (words after : List Spot) → an_expr 1 0 e words after → ⊥
no_expr e words after h = h.0

pub no_cond : (e : Cond) (words after : List Spot) → a_cond 0 e words after → ⊥
no_cond e words after h = h.2.2.1.0

pub no_value : (p : ℕ × FileExpr) (words after : List Spot) → a_value 0 p words after → ⊥
no_value p words after h = h.2.2.1.0

pub no_await : (label : Option NameAt) (immediate : Bool) (s : FileStmt) (words after : List Spot) → awaited label immediate 0 s words after → ⊥
no_await label immediate s words after h = no_cond h.0.1.0 h.2.0 h.2.2.0 h.2.2.1

pub no_cond_end : (p : Cond × ℕ) (words after : List Spot) → seq (a_cond 0) (one mark.Semicolon) p words after → ⊥
no_cond_end p words after h = no_cond p.0 words h.0 h.1

pub no_expr_end : (p : FileExpr × ℕ) (words after : List Spot) → seq (an_expr 1 0) (one mark.Semicolon) p words after → ⊥
no_expr_end p words after h = no_expr p.0 words h.0 h.1

pub await_here : (w : Sort) → rest.Await ≡ rest_start w → w ≡ sort.Mark mark.Await
await_here (sort.Mark mark.Await) is = refl
await_here w is = absurd (cc (is))

pub immediate_here : (w : Sort) → rest.Immediate ≡ rest_start w → w ≡ sort.Mark mark.Immediate
immediate_here (sort.Mark mark.Immediate) is = refl
immediate_here w is = absurd (cc (is))

pub equals_here : (w : Sort) → named.Equals ≡ named_start w → w ≡ sort.Mark mark.Equals
equals_here (sort.Mark mark.Equals) is = refl
equals_here w is = absurd (cc (is))

-- where an expression was read, a level was left for it
pub expr_room : (room : ℕ) (s0 s1 : Cursor) (x : FileExpr) → ReadsSome (an_expr 1) room s0 s1 x → 1 ≤ room
expr_room zero s0 s1 x k = absurd (k.it.stands 0 (omega arith) (upcoming s1) (inr refl)).0
expr_room (suc room) s0 s1 x k = omega arith
