-- Words of the same sorts spell expressions of the same shape, and parts of statements that hold no statement.
use Rattle.std.proofs.Common.{ℕ, zero, suc, ◌<◌, ◌≤◌, inl, inr, Bool, true, false, List, Option, Some, None, refl, subst}
use Rattle.qz_syntax.specs.declared.file_expressions.NameAt.{NameAt}
use Rattle.qz_syntax.specs.declared.file_expressions.FileExpr.{FileExpr}
use Rattle.qz_syntax.specs.declared.file_expressions.FileExpr.TheVariants as expr
use Rattle.qz_syntax.specs.declared.file_statements.FileStmt.TheVariants as stmt
use Rattle.qz_phrases.specs.declared.words.Spot.{Spot}
use Rattle.qz_phrases.specs.declared.words.Mark.TheVariants as mark
use Rattle.qz_phrases.specs.declared.words.HeadStart.{HeadStart}
use Rattle.qz_phrases.specs.declared.words.HeadStart.TheVariants as head
use Rattle.qz_phrases.specs.declared.words.TailStart.{TailStart}
use Rattle.qz_phrases.specs.declared.words.TailStart.TheVariants as tail
use Rattle.qz_phrases.specs.declared.words.IndexStart.{IndexStart}
use Rattle.qz_phrases.specs.declared.words.IndexStart.TheVariants as index
use Rattle.qz_phrases.specs.declared.words.TargetStart.{TargetStart}
use Rattle.qz_phrases.specs.declared.words.TargetStart.TheVariants as target
use Rattle.qz_phrases.specs.declared.words.EmitStart.{EmitStart}
use Rattle.qz_phrases.specs.declared.words.EmitStart.TheVariants as emit
use Rattle.qz_phrases.specs.declared.expressions.Tail.{Tail}
use Rattle.qz_phrases.specs.declared.expressions.Tail.TheVariants as tailed
use Rattle.qz_phrases.specs.Words.{first, head_start, tail_start, index_start, bool_mark, unary_mark, binary_mark, binary_right, head_strength, tail_left, tail_strength, strength, target_start, emit_start}
use Rattle.qz_phrases.specs.Phrases.{Rel}
use Rattle.qz_phrases.specs.Expressions.{operand, index_end, indices, tail_of, applied, ended, is_expr, an_expr}
use Rattle.qz_phrases.specs.StatementParts.{a_cond, next_target, target_row, a_target, a_value, awaited, next_arg, emitted_row, emitted}
use Rattle.source_laws.proofs.Alike.{Alike, first_alike, Carried, Carries, Any, carry_none, carry_one, carry_name, carry_number, carry_literal, carry_seq, mean, carry_first}

pub carry_ended : (inner : ℕ → Rel FileExpr) → ((least : ℕ) → Carries Any (inner least) (inner least)) → (least : ℕ) → Carries Any (ended inner least) (ended inner least)
carry_ended inner k least = record {
  to = λ x ws rest is vs alike.
      let a = (k least).to x ws rest is.0 vs alike in
      record {
        value = a.value;
        more = a.more;
        is = (a.is, subst (λ w. tail_strength (tail_start w) < least) (first_alike rest a.more a.alike) is.1);
        alike = a.alike;
        related = tt;
      };
}

module _ (inner : ℕ → Rel FileExpr) (k : (least : ℕ) → Carries Any (inner least) (inner least)) where
  carry_operand : (h : HeadStart) → Carries Any (operand inner h) (operand inner h)
  carry_operand (head.Bool b) = mean (λ at. expr.Bool b at) (λ at. expr.Bool b at) (carry_one (bool_mark b))
  carry_operand head.Literal = mean (λ n. expr.Lit n.0 n.1 n.2) (λ n. expr.Lit n.0 n.1 n.2) carry_literal
  carry_operand head.Name = mean expr.Name expr.Name carry_name
  carry_operand head.Paren = mean (λ p. expr.Paren p.0 p.1.0) (λ p. expr.Paren p.0 p.1.0) (carry_seq (carry_one mark.OpenParen) (carry_seq (k 1) (carry_one mark.CloseParen)))
  carry_operand (head.Unary op) = mean (λ p. expr.Un op p.0 p.1) (λ p. expr.Un op p.0 p.1) (carry_seq (carry_one (unary_mark op)) (k 9))
  carry_operand head.None = carry_none Any (operand inner head.None)

  carry_index_end : (i : IndexStart) → Carries Any (index_end i) (index_end i)
  carry_index_end index.Close = mean (λ _. None) (λ _. None) (carry_one mark.CloseBrace)
  carry_index_end index.Colon = mean (λ p. Some p.1.0.0) (λ p. Some p.1.0.0) (carry_seq (carry_one mark.Colon) (carry_seq carry_number (carry_one mark.CloseBrace)))
  carry_index_end index.None = carry_none Any (index_end index.None)

  carry_indices : Carries Any indices indices
  carry_indices = mean (λ p. (p.0.0, p.1)) (λ p. (p.0.0, p.1)) (carry_seq carry_number (carry_first (λ w. carry_index_end (index_start w))))

  carry_tail : (t : TailStart) → Carries Any (tail_of inner t) (tail_of inner t)
  carry_tail (tail.Binary op) = mean (λ p. tailed.Binary op p.0 p.1) (λ p. tailed.Binary op p.0 p.1) (carry_seq (carry_one (binary_mark op)) (k (binary_right op)))
  carry_tail tail.Concat = mean (λ p. tailed.Concat p.0 p.1) (λ p. tailed.Concat p.0 p.1) (carry_seq (carry_one mark.At) (k 9))
  carry_tail tail.Choose = mean (λ p. tailed.Choose p.0 p.1.0 p.1.1.1) (λ p. tailed.Choose p.0 p.1.0 p.1.1.1) (carry_seq (carry_one mark.Question) (carry_seq (k 1) (carry_seq (carry_one mark.Colon) (k 1))))
  carry_tail tail.Select = mean (λ p. tailed.Select p.0 p.1.0 p.1.1) (λ p. tailed.Select p.0 p.1.0 p.1.1) (carry_seq (carry_one mark.OpenBrace) carry_indices)
  carry_tail tail.None = carry_none Any (tail_of inner tail.None)

-- an operand, or an expression and what goes on it
module _ (levels least : ℕ) (below : (least : ℕ) → Carries Any (is_expr levels least) (is_expr levels least)) where
  one_operand : (e : FileExpr) (ws rest : List Spot) → operand (ended (is_expr levels)) (head_start (first ws)) e ws rest → least ≤ head_strength (head_start (first ws))
      → (vs : List Spot) → Alike ws vs → Carried (is_expr (suc levels) least) (λ _. Unit {0}) rest vs
  one_operand e ws rest is strong vs alike =
      let a = (carry_operand (ended (is_expr levels)) (carry_ended (is_expr levels) below) (head_start (first ws))).to e ws rest is vs alike in
      let same = first_alike ws vs alike in
      record {
        value = a.value;
        more = a.more;
        is = inl (subst (λ w. operand (ended (is_expr levels)) (head_start w) a.value vs a.more) same a.is, subst (λ w. least ≤ head_strength (head_start w)) same strong);
        alike = a.alike;
        related = tt;
      }

  one_tail : (e left : FileExpr) (t : Tail) (ws between rest : List Spot) → is_expr levels (tail_left (tail_start (first between))) left ws between
      → least ≤ strength between → tail_of (ended (is_expr levels)) (tail_start (first between)) t between rest
      → (vs : List Spot) → Alike ws vs → Carried (is_expr (suc levels) least) (λ _. Unit {0}) rest vs
  one_tail e left t ws between rest is strong goes vs alike =
      let a = (below (tail_left (tail_start (first between)))).to left ws between is vs alike in
      let b = (carry_tail (ended (is_expr levels)) (carry_ended (is_expr levels) below) (tail_start (first between))).to t between rest goes a.more a.alike in
      let same = first_alike between a.more a.alike in
      record {
        value = applied a.value b.value;
        more = b.more;
        is = inr (
          a.value,
          b.value,
          a.more,
          subst (λ w. is_expr levels (tail_left (tail_start w)) a.value vs a.more) same a.is,
          subst (λ w. least ≤ tail_strength (tail_start w)) same strong,
          refl,
          subst (λ w. tail_of (ended (is_expr levels)) (tail_start w) b.value a.more b.more) same b.is,
        );
        alike = b.alike;
        related = tt;
      }

  one_expr : (e : FileExpr) (ws rest : List Spot) → is_expr (suc levels) least e ws rest → (vs : List Spot) → Alike ws vs → Carried (is_expr (suc levels) least) (λ _. Unit {0}) rest vs
  one_expr e ws rest (inl is) vs alike = one_operand e ws rest is.0 is.1 vs alike
  one_expr e ws rest (inr is) vs alike = one_tail e is.0 is.1 ws is.2 rest is.3 is.4 is.6 vs alike

carry_is_expr : (levels least : ℕ) → Carries Any (is_expr levels least) (is_expr levels least)
carry_is_expr zero least = record { to = λ e ws rest is vs alike. absurd is }
carry_is_expr (suc levels) least = record { to = λ e ws rest is vs alike. one_expr levels least (carry_is_expr levels) e ws rest is vs alike }

pub carry_expr : (least levels : ℕ) → Carries Any (an_expr least levels) (an_expr least levels)
carry_expr least levels = carry_ended (is_expr levels) (carry_is_expr levels) least

pub carry_cond : (levels : ℕ) → Carries Any (a_cond levels) (a_cond levels)
carry_cond levels = mean (λ p. record { at = p.0; expr = p.1.0 }) (λ p. record { at = p.0; expr = p.1.0 }) (carry_seq (carry_one mark.OpenParen) (carry_seq (carry_expr 1 levels) (carry_one mark.CloseParen)))

pub carry_next_target : Carries Any next_target next_target
carry_next_target = mean (λ p. record { next = true; name = p.1.1.0 }) (λ p. record { next = true; name = p.1.1.0 }) (carry_seq (carry_one mark.Next) (carry_seq (carry_one mark.OpenParen) (carry_seq carry_name (carry_one mark.CloseParen))))

carry_target_row : (t : TargetStart) → Carries Any (target_row t) (target_row t)
carry_target_row target.Name = mean (λ n. record { next = false; name = n }) (λ n. record { next = false; name = n }) carry_name
carry_target_row target.Next = carry_next_target
carry_target_row target.None = carry_none Any (target_row target.None)

carry_target : Carries Any a_target a_target
carry_target = carry_first (λ w. carry_target_row (target_start w))

pub carry_value : (levels : ℕ) → Carries Any (a_value levels) (a_value levels)
carry_value levels = mean (λ p. (p.0, p.1.0)) (λ p. (p.0, p.1.0)) (carry_seq (carry_one mark.Equals) (carry_seq (carry_expr 1 levels) (carry_one mark.Semicolon)))

pub carry_awaited : (label other : Option NameAt) (immediate : Bool) (levels : ℕ) → Carries Any (awaited label immediate levels) (awaited other immediate levels)
carry_awaited label other immediate levels = mean (λ p. stmt.Await label immediate p.1.0) (λ p. stmt.Await other immediate p.1.0) (carry_seq (carry_one mark.Await) (carry_seq (carry_cond levels) (carry_one mark.Semicolon)))

pub carry_next_arg : (levels : ℕ) → Carries Any (next_arg levels) (next_arg levels)
carry_next_arg levels = mean (λ p. p.1) (λ p. p.1) (carry_seq (carry_one mark.Comma) (carry_expr 1 levels))

carry_emitted_row : (e : EmitStart) → Carries Any (emitted_row e) (emitted_row e)
carry_emitted_row emit.Paren = mean (λ p. p.1.0) (λ p. p.1.0) (carry_seq (carry_one mark.OpenParen) (carry_seq carry_target (carry_one mark.CloseParen)))
carry_emitted_row emit.Target = carry_target

pub carry_emitted : Carries Any emitted emitted
carry_emitted = carry_first (λ w. carry_emitted_row (emit_start w))
