-- The words that are printed of an expression spell it again; and those of parts of statements that hold none.
use Rattle.std.proofs.Common.{◌≡◌, ℕ, zero, suc, ◌<◌, ◌≤◌, inl, inr, List, ◌∷◌, ◌++◌, Option, Some, None, sym, refl, ap, ap₂, ◌∙◌, subst}
use Rattle.qz_syntax.specs.declared.file_expressions.FileExpr.{FileExpr}
use Rattle.qz_syntax.specs.declared.file_expressions.FileExpr.TheVariants as expr
use Rattle.qz_phrases.specs.declared.words.Word.{Word}
use Rattle.qz_phrases.specs.declared.words.Word.TheVariants as word
use Rattle.qz_phrases.specs.declared.words.Spot.{Spot}
use Rattle.qz_phrases.specs.declared.words.Mark.TheVariants as mark
use Rattle.qz_phrases.specs.declared.words.HeadStart.{HeadStart}
use Rattle.qz_phrases.specs.declared.words.HeadStart.TheVariants as head
use Rattle.qz_phrases.specs.declared.words.TailStart.{TailStart}
use Rattle.qz_phrases.specs.declared.words.TailStart.TheVariants as tail
use Rattle.qz_phrases.specs.declared.words.IndexStart.{IndexStart}
use Rattle.qz_phrases.specs.declared.words.IndexStart.TheVariants as index
use Rattle.qz_phrases.specs.declared.expressions.Tail.{Tail}
use Rattle.qz_phrases.specs.declared.expressions.Tail.TheVariants as tailed
use Rattle.qz_phrases.specs.Words.{first, head_start, tail_start, index_start, bool_mark, unary_mark, binary_mark, binary_right, head_strength, tail_left, tail_strength, strength}
use Rattle.qz_phrases.specs.Phrases.{Rel}
use Rattle.qz_phrases.specs.Expressions.{operand, index_end, indices, tail_of, applied, ended, is_expr, an_expr}
use Rattle.qz_printer.specs.Expressions.{index_words, expr_words}
use Rattle.qz_printer.proofs.Equations.{words-Bool, words-Lit, words-Name, words-Paren, words-Un, words-Bin, words-Choose, words-Select, words-Concat}
use Rattle.printer_laws.specs.Offsets.{plain_expr}
use Rattle.printer_laws.proofs.Keeping.{Fine, FineWords, fine_both, Says, says_both, Same, Kept, Keeps, keep_none, keep_one, keep_name, keep_number, keep_literal, keep_seq, keep_mean, keep_first, used_bool, used_unary, used_binary}
use Rattle.printer_laws.proofs.PlainForms.{SameExpr, same-Bool, same-Lit, same-Name, same-Paren, same-Un, same-Bin, same-Choose, same-Select, same-Concat}

-- expressions whose words are kept, where what goes on them is
abbrev KeepsExpr : Rel FileExpr → Type 0
KeepsExpr K = Keeps Same Same expr_words SameExpr K K

keep_ended : (inner : ℕ → Rel FileExpr) → ((least : ℕ) → KeepsExpr (inner least)) → (least : ℕ) → KeepsExpr (ended inner least)
keep_ended inner k least = record {
  to = λ x ws rest is vs more says next.
      let a = (k least).to x ws rest is.0 vs more says next in
      record {
        value = a.value;
        is = (a.is, subst (λ w. tail_strength (tail_start w) < least) next is.1);
        same = a.same;
        again = a.again;
        begins = a.begins;
      };
  fine = λ x ws rest is fine. (k least).fine x ws rest is.0 fine;
}

-- the words of what goes on an expression
abbrev tail_words : Tail → List Word
tail_words (tailed.Binary op at right) = word.Mark (binary_mark op) ∷ expr_words right
tail_words (tailed.Concat at right) = word.Mark mark.At ∷ expr_words right
tail_words (tailed.Choose at left right) = word.Mark mark.Question ∷ (expr_words left ++ word.Mark mark.Colon ∷ expr_words right)
tail_words (tailed.Select at high low) = word.Mark mark.OpenBrace ∷ word.Number high ∷ index_words low

applied_words : (e : FileExpr) (t : Tail) → expr_words (applied e t) ≡ expr_words e ++ tail_words t
applied_words e (tailed.Binary op at right) = words-Bin op at e right
applied_words e (tailed.Concat at right) = words-Concat at e right
applied_words e (tailed.Choose at left right) = words-Choose at e left right
applied_words e (tailed.Select at high low) = words-Select at e high low

-- they make the same of the same expression
abbrev SameTail : Tail → Tail → Type 0
SameTail t u = (e f : FileExpr) → SameExpr e f → SameExpr (applied e t) (applied f u)

module _ (inner : ℕ → Rel FileExpr) (k : (least : ℕ) → KeepsExpr (inner least)) where
  keep_operand : (h : HeadStart) → KeepsExpr (operand inner h)
  keep_operand (head.Bool b) = keep_mean (λ at. expr.Bool b at) (λ at. words-Bool b at) (λ at to same. same-Bool b at to) (keep_one (bool_mark b) (used_bool b))
  keep_operand head.Literal = keep_mean (λ n. expr.Lit n.0 n.1 n.2) (λ n. words-Lit n.0 n.1 n.2) (λ n m same. same-Lit n.0 n.1 n.2 m.0 m.1 m.2 same.0 same.1) keep_literal
  keep_operand head.Name = keep_mean expr.Name words-Name same-Name keep_name
  keep_operand head.Paren =
      keep_mean (λ p. expr.Paren p.0 p.1.0) (λ p. words-Paren p.0 p.1.0) (λ p q same. same-Paren p.0 q.0 p.1.0 q.1.0 same.1.0)
      (keep_seq {G = Same} (keep_one mark.OpenParen tt) (keep_seq (k 1) (keep_one mark.CloseParen tt)))
  keep_operand (head.Unary op) =
      keep_mean (λ p. expr.Un op p.0 p.1) (λ p. words-Un op p.0 p.1) (λ p q same. same-Un op p.0 q.0 p.1 q.1 same.1) (keep_seq {G = Same} (keep_one (unary_mark op) (used_unary op)) (k 9))
  keep_operand head.None = keep_none expr_words SameExpr (operand inner head.None)

  abbrev SameIndex : Option ℕ → Option ℕ → Type 0
  SameIndex i j = i ≡ j

  keep_index_end : (i : IndexStart) → Keeps Same Same index_words SameIndex (index_end i) (index_end i)
  keep_index_end index.Close = keep_mean (λ _. None) (λ _. refl) (λ x y same. refl) (keep_one mark.CloseBrace tt)
  keep_index_end index.Colon =
      keep_mean (λ p. Some p.1.0.0) (λ _. refl) (λ p q same. ap Some same.1.0) (keep_seq {G = Same} (keep_one mark.Colon tt) (keep_seq {G = Same} keep_number (keep_one mark.CloseBrace tt)))
  keep_index_end index.None = keep_none index_words SameIndex (index_end index.None)

  abbrev indices_words : ℕ × Option ℕ → List Word
  indices_words p = word.Number p.0 ∷ index_words p.1

  abbrev SameIndices : ℕ × Option ℕ → ℕ × Option ℕ → Type 0
  SameIndices p q = (p.0 ≡ q.0) × (p.1 ≡ q.1)

  keep_indices : Keeps Same Same indices_words SameIndices indices indices
  keep_indices = keep_mean (λ p. (p.0.0, p.1)) (λ p. refl) (λ p q same. (same.0, same.1)) (keep_seq {G = Same} keep_number (keep_first (λ w. keep_index_end (index_start w))))

  keep_tail : (t : TailStart) → Keeps Same Same tail_words SameTail (tail_of inner t) (tail_of inner t)
  keep_tail (tail.Binary op) =
      keep_mean (λ p. tailed.Binary op p.0 p.1) (λ p. refl) (λ p q same e f is. same-Bin op p.0 q.0 e p.1 f q.1 is same.1)
      (keep_seq {G = Same} (keep_one (binary_mark op) (used_binary op)) (k (binary_right op)))
  keep_tail tail.Concat =
      keep_mean (λ p. tailed.Concat p.0 p.1) (λ p. refl) (λ p q same e f is. same-Concat p.0 q.0 e p.1 f q.1 is same.1) (keep_seq {G = Same} (keep_one mark.At tt) (k 9))
  keep_tail tail.Choose =
      keep_mean (λ p. tailed.Choose p.0 p.1.0 p.1.1.1) (λ p. refl) (λ p q same e f is. same-Choose p.0 q.0 e p.1.0 p.1.1.1 f q.1.0 q.1.1.1 is same.1.0 same.1.1.1)
      (keep_seq {G = Same} (keep_one mark.Question tt) (keep_seq (k 1) (keep_seq {G = Same} (keep_one mark.Colon tt) (k 1))))
  keep_tail tail.Select =
      keep_mean (λ p. tailed.Select p.0 p.1.0 p.1.1) (λ p. refl) (λ p q same e f is. same-Select p.0 q.0 e f p.1.0 q.1.0 p.1.1 q.1.1 is same.1.0 same.1.1)
      (keep_seq {G = Same} (keep_one mark.OpenBrace tt) keep_indices)
  keep_tail tail.None = keep_none tail_words SameTail (tail_of inner tail.None)

-- an operand, or an expression and what goes on it
module _ (levels least : ℕ) (below : (least : ℕ) → KeepsExpr (is_expr levels least)) where
  abbrev inner : ℕ → Rel FileExpr
  inner = ended (is_expr levels)

  inner_keeps : (least : ℕ) → KeepsExpr (inner least)
  inner_keeps = keep_ended (is_expr levels) below

  one_operand : (e : FileExpr) (ws rest : List Spot) → operand inner (head_start (first ws)) e ws rest → least ≤ head_strength (head_start (first ws))
      → (vs more : List Spot) → Says vs (expr_words e) more → first rest ≡ first more → Kept Same expr_words SameExpr (is_expr (suc levels) least) e ws vs more
  one_operand e ws rest is strong vs more says next =
      let a = (keep_operand inner inner_keeps (head_start (first ws))).to e ws rest is vs more says next in
      record {
        value = a.value;
        is = inl (subst (λ w. operand inner (head_start w) a.value vs more) a.begins a.is, subst (λ w. least ≤ head_strength (head_start w)) a.begins strong);
        same = a.same;
        again = a.again;
        begins = a.begins;
      }

  one_tail : (e left : FileExpr) (t : Tail) (ws between rest : List Spot) → is_expr levels (tail_left (tail_start (first between))) left ws between
      → least ≤ strength between → e ≡ applied left t → tail_of inner (tail_start (first between)) t between rest
      → (vs more : List Spot) → Says vs (expr_words e) more → first rest ≡ first more → Kept Same expr_words SameExpr (is_expr (suc levels) least) e ws vs more
  one_tail e left t ws between rest is strong made goes vs more says next =
      let words : expr_words e ≡ expr_words left ++ tail_words t = ap expr_words made ∙ applied_words left t in
      let cut = says_both vs (expr_words left) (tail_words t) more (subst (λ l. Says vs l more) words says) in
      let b = (keep_tail inner inner_keeps (tail_start (first between))).to t between rest goes cut.0 more cut.2 next in
      let a = (below (tail_left (tail_start (first between)))).to left ws between is vs cut.0 cut.1 b.begins in
      record {
        value = applied a.value b.value;
        is = inr (
          a.value,
          b.value,
          cut.0,
          subst (λ w. is_expr levels (tail_left (tail_start w)) a.value vs cut.0) b.begins a.is,
          subst (λ w. least ≤ tail_strength (tail_start w)) b.begins strong,
          refl,
          subst (λ w. tail_of inner (tail_start w) b.value cut.0 more) b.begins b.is,
        );
        same = ap plain_expr made ∙ b.same left a.value a.same;
        again = applied_words a.value b.value ∙ ap₂ (λ u v. u ++ v) a.again b.again ∙ sym words;
        begins = a.begins;
      }

  one_expr : (e : FileExpr) (ws rest : List Spot) → is_expr (suc levels) least e ws rest
      → (vs more : List Spot) → Says vs (expr_words e) more → first rest ≡ first more → Kept Same expr_words SameExpr (is_expr (suc levels) least) e ws vs more
  one_expr e ws rest (inl is) vs more says next = one_operand e ws rest is.0 is.1 vs more says next
  one_expr e ws rest (inr is) vs more says next = one_tail e is.0 is.1 ws is.2 rest is.3 is.4 is.5 is.6 vs more says next

  fine_expr : (e : FileExpr) (ws rest : List Spot) → is_expr (suc levels) least e ws rest → Fine ws → FineWords (expr_words e) × Fine rest
  fine_expr e ws rest (inl is) fine = (keep_operand inner inner_keeps (head_start (first ws))).fine e ws rest is.0 fine
  fine_expr e ws rest (inr is) fine =
      let a = (below (tail_left (tail_start (first is.2)))).fine is.0 ws is.2 is.3 fine in
      let b = (keep_tail inner inner_keeps (tail_start (first is.2))).fine is.1 is.2 rest is.6 a.1 in
      (subst FineWords (sym (ap expr_words is.5 ∙ applied_words is.0 is.1)) (fine_both (expr_words is.0) (tail_words is.1) a.0 b.0), b.1)

keep_is_expr : (levels least : ℕ) → KeepsExpr (is_expr levels least)
keep_is_expr zero least = record { to = λ e ws rest is vs more says next. absurd is; fine = λ e ws rest is fine. absurd is }
keep_is_expr (suc levels) least = record {
  to = λ e ws rest is vs more says next. one_expr levels least (keep_is_expr levels) e ws rest is vs more says next;
  fine = λ e ws rest is fine. fine_expr levels least (keep_is_expr levels) e ws rest is fine;
}

pub keep_expr : (least levels : ℕ) → Keeps Same Same expr_words SameExpr (an_expr least levels) (an_expr least levels)
keep_expr least levels = keep_ended (is_expr levels) (keep_is_expr levels) least
