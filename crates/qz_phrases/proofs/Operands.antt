-- The forms of operands.
use Rattle.std.proofs.Common.{◌≡◌, ◌≢◌, ℕ, zero, suc, ◌+◌, ◌-◌, ◌<◌, ◌≤◌, inl, List, [], ◌∷◌, ◌++◌, drop, true, false, IsTrue, sym, refl, ap, subst, ◌∙◌, arith}
use Rattle.qz_syntax.specs.declared.file_expressions.FileExpr.{FileExpr}
use Rattle.qz_syntax.specs.declared.file_expressions.FileExpr.TheVariants as expr
use Rattle.qz_values.specs.declared.Op1.TheVariants as op1
use Rattle.qz_phrases.specs.declared.words.Spot.{Spot}
use Rattle.qz_phrases.specs.declared.words.Word.{Word}
use Rattle.qz_phrases.specs.declared.words.Word.TheVariants as word
use Rattle.qz_phrases.specs.declared.words.Sort.{Sort}
use Rattle.qz_phrases.specs.declared.words.Sort.TheVariants as sort
use Rattle.qz_phrases.specs.declared.words.Mark.{Mark}
use Rattle.qz_phrases.specs.declared.words.Mark.TheVariants as mark
use Rattle.qz_phrases.specs.declared.words.HeadStart.{HeadStart}
use Rattle.qz_phrases.specs.declared.words.HeadStart.TheVariants as head
use Rattle.qz_phrases.specs.declared.cursor.Cursor.{Cursor}
use Rattle.qz_phrases.specs.declared.cursor.Fault.{Fault}
use Rattle.qz_phrases.specs.declared.cursor.Fault.TheVariants.{Parse, Deep}
use Rattle.qz_phrases.specs.Words.{first, sort_of, closes, head_start}
use Rattle.qz_phrases.specs.Phrases.{Kind}
use Rattle.qz_phrases.specs.Expressions.{operand, ended, is_expr, an_expr, an_operand}
use Rattle.qz_phrases.specs.Reading.{upcoming, Agrees, ReadsSome, Begins, Fails}
use Rattle.qz_phrases.specs.Parts.{head_need, Sized}
use Rattle.qz_phrases.proofs.Ahead.{agrees_here}
use Rattle.qz_phrases.proofs.Combining.{Fill, chosen, Nests, nest_reads, nest_fails, chosen_reads, chosen_fails, too_deep, no_phrase}
use Rattle.qz_phrases.proofs.Sizes.{Least, least_chosen, least_nest}
use Rattle.qz_phrases.proofs.Spines.{closes_weak}

pub true_stands : (least : ℕ) → 1 ≤ least → least ≤ 10 → (levels : ℕ) → 1 ≤ levels → (words : List Spot) → IsTrue (closes (first words)) → an_expr least levels (expr.Bool true 0) (record { word = word.Mark mark.True; at = 0 } ∷ words) words
true_stands least pos ten zero some words h = absurd (omega (arith, some))
true_stands least pos ten (suc levels) some words h = (inl ((0, refl, refl), ten), omega (arith, pos, closes_weak (first words) h))

-- an expression in place of one that is missing: `true`
abbrev pub filled : (least room : ℕ) → 1 ≤ least → least ≤ 10 → 1 ≤ room → Fill (an_expr least) room
filled least room pos ten some = record {
  more = record { word = word.Mark mark.True; at = 0 } ∷ [];
  phrase = expr.Bool true 0;
  stands = λ levels low words h. true_stands least pos ten levels (omega (arith, some, low)) words h;
}

abbrev pub operand_kind : HeadStart → Kind FileExpr
operand_kind start = λ levels. operand (ended (is_expr levels)) start

abbrev operand_row : Sort → Kind FileExpr
operand_row w = operand_kind (head_start w)

pub nests : Nests an_operand (chosen operand_row)
nests = record { ground = λ x words rest h. h; down = λ levels x words rest h. h; up = λ levels x words rest h. h }

pub operand_reads : {s0 s1 : Cursor} {start : HeadStart} {room : ℕ} {x : FileExpr} → start ≡ head_start (first (upcoming s0)) → 1 ≤ room → ReadsSome (operand_kind start) (room - 1) s0 s1 x → ReadsSome an_operand room s0 s1 x
operand_reads {s0} {s1} {start} {room} {x} is some k = nest_reads nests some (chosen_reads operand_row refl (subst (λ start. ReadsSome (operand_kind start) (room - 1) s0 s1 x) is k))

pub operand_fails : {s0 s1 : Cursor} {start : HeadStart} {room : ℕ} {why : Fault} → start ≡ head_start (first (upcoming s0)) → 1 ≤ room → Fails (operand_kind start) (room - 1) s0 s1 why → Fails an_operand room s0 s1 why
operand_fails {s0} {s1} {start} {room} {why} is some k = nest_fails nests some (chosen_fails operand_row refl (subst (λ start. Fails (operand_kind start) (room - 1) s0 s1 why) is k))

pub operand_sized : {s0 s1 : Cursor} {start : HeadStart} {room height : ℕ} {x : FileExpr} → start ≡ head_start (first (upcoming s0)) → height < room → ReadsSome (operand_kind start) height s0 s1 x → Least (operand_kind start) height s0 s1
    → Sized an_operand room (height + 1) s0 s1 x
operand_sized {s0} {s1} {start} {room} {height} {x} is low k least = record {
  it = operand_reads is (omega arith) (subst (λ n. ReadsSome (operand_kind start) n s0 s1 x) (omega arith) k);
  low = omega (arith, low);
  least = (least_nest nests (least_chosen operand_row refl k.it.moves (subst (λ start. Least (operand_kind start) height s0 s1) is least))).least;
}

-- the word that begins an operand
spot_named : (spot : Spot) → sort_of spot.word ≡ sort.Name → (n : List ℕ) × (spot ≡ record { word = word.Name n; at = spot.at })
spot_named spot is = by_word spot.word refl is
  where
    by_word : (w : Word) → spot.word ≡ w → sort_of w ≡ sort.Name → (n : List ℕ) × (spot ≡ record { word = word.Name n; at = spot.at })
    by_word (word.Name n) e is = (n, ap (λ w. record { word = w; at = spot.at }) e)
    by_word (word.Number n) e is = absurd (cc (is))
    by_word (word.Literal n v) e is = absurd (cc (is))
    by_word (word.Mark m) e is = absurd (cc (is))

spot_literal : (spot : Spot) → sort_of spot.word ≡ sort.Literal → (n : ℕ) × (v : ℕ) × (spot ≡ record { word = word.Literal n v; at = spot.at })
spot_literal spot is = by_word spot.word refl is
  where
    by_word : (w : Word) → spot.word ≡ w → sort_of w ≡ sort.Literal → (n : ℕ) × (v : ℕ) × (spot ≡ record { word = word.Literal n v; at = spot.at })
    by_word (word.Literal n v) e is = (n, v, ap (λ w. record { word = w; at = spot.at }) e)
    by_word (word.Name n) e is = absurd (cc (is))
    by_word (word.Number n) e is = absurd (cc (is))
    by_word (word.Mark m) e is = absurd (cc (is))

pub spot_mark : (spot : Spot) (m : Mark) → sort_of spot.word ≡ sort.Mark m → spot ≡ record { word = word.Mark m; at = spot.at }
spot_mark spot m is = by_word spot.word refl is
  where
    by_word : (w : Word) → spot.word ≡ w → sort_of w ≡ sort.Mark m → spot ≡ record { word = word.Mark m; at = spot.at }
    by_word (word.Mark n) e is = let same : n ≡ m = cc (is) in ap (λ w. record { word = w; at = spot.at }) (e ∙ ap word.Mark same)
    by_word (word.Name n) e is = absurd (cc (is))
    by_word (word.Number n) e is = absurd (cc (is))
    by_word (word.Literal n v) e is = absurd (cc (is))

-- an operand begins with such a word
begun_by : (spot : Spot) (w : Sort) → sort_of spot.word ≡ w → (head_start w ≢ head.None) → Begins an_operand 2 (spot ∷ [])
begun_by spot w is some = by_start w is some
  where
    leaf : (e : FileExpr) (s : Spot) → spot ≡ s → ((levels : ℕ) (words : List Spot) → an_operand (suc levels) e (s ∷ words) words) → Begins an_operand 2 (spot ∷ [])
    leaf e s same stands = record { more = []; phrase = e; stands = λ levels low words h. by_levels levels low words }
      where
        by_levels : (levels : ℕ) → 2 ≤ levels → (words : List Spot) → an_operand levels e (spot ∷ words) words
        by_levels zero low words = absurd (omega (arith, low))
        by_levels (suc levels) low words = subst (λ s. an_operand (suc levels) e (s ∷ words) words) (sym same) (stands levels words)

    round : (e : FileExpr) (more : List Spot) (s : Spot) → spot ≡ s → ((levels : ℕ) → 1 ≤ levels → (words : List Spot) → IsTrue (closes (first words)) → an_operand (suc levels) e (s ∷ (more ++ words)) words) → Begins an_operand 2 (spot ∷ [])
    round e more s same stands = record { more = more; phrase = e; stands = λ levels low words h. by_levels levels low words h }
      where
        by_levels : (levels : ℕ) → 2 ≤ levels → (words : List Spot) → IsTrue (closes (first words)) → an_operand levels e (spot ∷ (more ++ words)) words
        by_levels zero low words h = absurd (omega (arith, low))
        by_levels (suc levels) low words h = subst (λ s. an_operand (suc levels) e (s ∷ (more ++ words)) words) (sym same) (stands levels (omega (arith, low)) words h)

    truth : Spot
    truth = record { word = word.Mark mark.True; at = 0 }

    by_start : (w : Sort) → sort_of spot.word ≡ w → (head_start w ≢ head.None) → Begins an_operand 2 (spot ∷ [])
    by_start (sort.Mark mark.True) is some = leaf (expr.Bool true spot.at) _ (spot_mark spot mark.True is) (λ levels words. (spot.at, refl, refl))
    by_start (sort.Mark mark.False) is some = leaf (expr.Bool false spot.at) _ (spot_mark spot mark.False is) (λ levels words. (spot.at, refl, refl))
    by_start sort.Literal is some = let l = spot_literal spot is in leaf (expr.Lit l.0 l.1 spot.at) _ l.2 (λ levels words. ((l.0, l.1, spot.at), refl, refl))
    by_start sort.Name is some = let n = spot_named spot is in leaf (expr.Name (record { name = n.0; at = spot.at })) _ n.1 (λ levels words. (record { name = n.0; at = spot.at }, refl, refl))
    by_start (sort.Mark mark.OpenParen) is some = round (expr.Paren spot.at (expr.Bool true 0)) (record { word = word.Mark mark.True; at = 0 } ∷ record { word = word.Mark mark.CloseParen; at = 0 } ∷ []) _ (spot_mark spot mark.OpenParen is)
        (λ levels low words h. (
          (spot.at, (expr.Bool true 0, 0)),
          refl,
          (
            record { word = word.Mark mark.True; at = 0 } ∷ record { word = word.Mark mark.CloseParen; at = 0 } ∷ words,
            refl,
            (record { word = word.Mark mark.CloseParen; at = 0 } ∷ words, true_stands 1 (omega arith) (omega arith) levels low (record { word = word.Mark mark.CloseParen; at = 0 } ∷ words) refl, refl),
          ),
        ))
    by_start (sort.Mark mark.Exclamation) is some = round (expr.Un op1.Not spot.at (expr.Bool true 0)) (record { word = word.Mark mark.True; at = 0 } ∷ []) _ (spot_mark spot mark.Exclamation is)
        (λ levels low words h. ((spot.at, expr.Bool true 0), refl, (record { word = word.Mark mark.True; at = 0 } ∷ words, refl, true_stands 9 (omega arith) (omega arith) levels low words h)))
    by_start (sort.Mark mark.Tilde) is some = round (expr.Un op1.Invert spot.at (expr.Bool true 0)) (record { word = word.Mark mark.True; at = 0 } ∷ []) _ (spot_mark spot mark.Tilde is)
        (λ levels low words h. ((spot.at, expr.Bool true 0), refl, (record { word = word.Mark mark.True; at = 0 } ∷ words, refl, true_stands 9 (omega arith) (omega arith) levels low words h)))
    by_start w is some = absurd (some refl)

-- too few levels for an operand that begins so
hollow : (start : HeadStart) (levels : ℕ) (e : FileExpr) (words rest : List Spot) → suc levels < head_need start → operand_kind start levels e words rest → ⊥
hollow (head.Bool b) levels e words rest low h = omega (arith, low)
hollow head.Literal levels e words rest low h = omega (arith, low)
hollow head.Name levels e words rest low h = omega (arith, low)
hollow head.Paren zero e words rest low h = h.2.2.1.0
hollow head.Paren (suc levels) e words rest low h = omega (arith, low)
hollow (head.Unary op) zero e words rest low h = h.2.2.0
hollow (head.Unary op) (suc levels) e words rest low h = omega (arith, low)
hollow head.None levels e words rest low h = h

upcoming_spot : (ws : List Spot) → head_start (first ws) ≢ head.None → (spot : Spot) × (more : List Spot) × (ws ≡ spot ∷ more)
upcoming_spot [] some = absurd (some refl)
upcoming_spot (s ∷ ws) some = (s, ws, refl)

needed : (start : HeadStart) (room : ℕ) → room < head_need start → start ≢ head.None
needed start room low e = omega (arith, low, ap head_need e)

pub operand_deep : (s : Cursor) (start : HeadStart) (room : ℕ) → start ≡ head_start (first (upcoming s)) → room < head_need start → Fails an_operand room s s Deep
operand_deep s start room is low =
    let real = needed start room low in
    let u = upcoming_spot (upcoming s) (λ e. real (is ∙ e)) in
    too_deep (λ others agrees levels rules y rest h. by_levels others agrees levels rules y rest h) u.0 u.1 u.2 2 (begun_by u.0 (sort_of u.0.word) refl (λ e. real (is ∙ ap (λ ws. head_start (first ws)) u.2 ∙ e)))
  where
    by_levels : (others : List Spot) → Agrees s others → (levels : ℕ) → levels ≤ room → (y : FileExpr) (rest : List Spot) → an_operand levels y (drop s.read others) rest → ⊥
    by_levels others agrees zero rules y rest h = h
    by_levels others agrees (suc levels) rules y rest h =
        hollow start levels y (drop s.read others) rest (omega (arith, rules, low)) (subst (λ w. operand_kind w levels y (drop s.read others) rest) (ap head_start (agrees_here s others agrees) ∙ sym is) h)

pub no_operand : (s : Cursor) (start : HeadStart) (room : ℕ) → start ≡ head_start (first (upcoming s)) → start ≡ head.None → Fails an_operand room s s Parse
no_operand s start room is none = no_phrase (λ others agrees levels y rest h. by_levels others agrees levels y rest h)
  where
    by_levels : (others : List Spot) → Agrees s others → (levels : ℕ) (y : FileExpr) (rest : List Spot) → an_operand levels y (drop s.read others) rest → ⊥
    by_levels others agrees zero y rest h = h
    by_levels others agrees (suc levels) y rest h = subst (λ w. operand_kind w levels y (drop s.read others) rest) (ap head_start (agrees_here s others agrees) ∙ sym is ∙ none) h
