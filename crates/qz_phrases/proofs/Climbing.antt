-- An expression of which an operand and some of what goes on it are read.
use Rattle.std.proofs.Common.{◌≡◌, ◌≢◌, ℕ, zero, suc, ◌+◌, ◌-◌, ◌<◌, ◌≤◌, ◌⊎◌, inl, inr, List, [], ◌∷◌, ◌++◌, max, drop, length, length-append, IsTrue, sym, refl, ap, subst, ◌∙◌, append_assoc, arith}
use Rattle.qz_syntax.specs.declared.file_expressions.FileExpr.{FileExpr}
use Rattle.qz_phrases.specs.declared.words.Spot.{Spot}
use Rattle.qz_phrases.specs.declared.cursor.Cursor.{Cursor}
use Rattle.qz_phrases.specs.declared.cursor.Fault.{Fault}
use Rattle.qz_phrases.specs.declared.cursor.Fault.TheVariants.{Parse, Deep, Memory}
use Rattle.qz_phrases.specs.declared.expressions.Tail.{Tail}
use Rattle.qz_phrases.specs.Words.{first, closes, head_start, tail_start, head_strength, tail_strength, tail_left, strength}
use Rattle.qz_phrases.specs.Expressions.{applied, is_expr, an_expr, an_operand, a_tail}
use Rattle.qz_phrases.specs.Reading.{upcoming, Agrees, Moves, May, Begins, Rules, Fails}
use Rattle.qz_phrases.specs.Parts.{Sized}
use Rattle.qz_phrases.proofs.Ahead.{agrees_before, agrees_here, moves_on}
use Rattle.qz_phrases.proofs.Combining.{front_first, none_before, first_of}
use Rattle.qz_phrases.proofs.Spines.{Spine, split, descends, rises, head_high, closes_weak}

pub record SoFar (least room : ℕ) (start : Cursor) (left : FileExpr) (power height : ℕ) (now : Cursor) : Type 0 where
  pub moves : Moves start now
  pub front : List Spot
  pub read : upcoming start ≡ front ++ upcoming now
  pub some : front ≢ []
  pub low : height ≤ room
  pub enough : least ≤ power
  pub stands : (levels : ℕ) → height ≤ levels → (want : ℕ) → want ≤ power → (words : List Spot) → May (upcoming now) words → is_expr levels want left (front ++ words) words
  pub only : (others : List Spot) → Agrees now others → (levels : ℕ) (e : FileExpr) (rest : List Spot) → an_expr least levels e (drop start.read others) rest
      → (base : ℕ) × (tails : List Tail) × (height ≤ base) × Spine base levels least power left tails e (drop now.read others) rest

operand_stands : (levels want : ℕ) (e : FileExpr) (words rest : List Spot) → an_operand levels e words rest → want ≤ head_strength (head_start (first words)) → is_expr levels want e words rest
operand_stands zero want e words rest h low = absurd h
operand_stands (suc levels) want e words rest h low = inl (h, low)

pub so_far_operand : (least room : ℕ) (start now : Cursor) (left : FileExpr) (power height : ℕ) → least ≤ 9 → Sized an_operand room height start now left → power ≡ head_strength (head_start (first (upcoming start)))
    → SoFar least room start left power height now
so_far_operand least room start now left power height nine k power_is = record {
  moves = k.it.it.moves;
  front = k.it.it.front;
  read = k.it.it.read;
  some = k.it.some;
  low = k.low;
  enough = omega (arith, nine, power_is, head_high (head_start (first (upcoming start))));
  stands = λ levels low want power_want words may. operand_stands levels want left (k.it.it.front ++ words) words (k.it.it.stands levels low words may)
      (omega (arith, power_want, power_is, ap (λ w. head_strength (head_start w)) (front_first k.it.it.front words start now k.it.it.read k.it.some)));
  only = λ others agrees levels e rest h.
      let s = split levels least e (drop start.read others) rest h.0 in
      let r = k.it.it.only others agrees (suc s.base) s.left s.between s.head in
      let here = agrees_here start others (agrees_before start now others k.it.it.moves agrees) in (
        suc s.base,
        s.tails,
        k.least others agrees (suc s.base) s.left s.between s.head,
        subst (λ p. Spine (suc s.base) levels least p left s.tails e (drop now.read others) rest) (ap (λ w. head_strength (head_start w)) here ∙ sym power_is)
            (subst (λ ws. Spine (suc s.base) levels least (head_strength (head_start (first (drop start.read others)))) left s.tails e ws rest) r.1
            (subst (λ l. Spine (suc s.base) levels least (head_strength (head_start (first (drop start.read others)))) l s.tails e s.between rest) r.0 s.spine)),
      );
}

strong_rules : (why : Fault) (room low levels : ℕ) → low ≤ levels → Rules why room levels → Rules why room low
strong_rules Parse room low levels up h = tt
strong_rules Deep room low levels up h = omega (arith, up, h)
strong_rules Memory room low levels up h = absurd h

operand_begun : (least room : ℕ) (front : List Spot) → 1 ≤ least → least ≤ 9 → Begins an_operand room front → Begins (an_expr least) room front
operand_begun least room front pos nine b = record {
  more = b.more;
  phrase = b.phrase;
  stands = λ levels low words h. (
    operand_stands levels least b.phrase (front ++ (b.more ++ words)) words (b.stands levels low words h) (omega (arith, nine, head_high (head_start (first (front ++ (b.more ++ words)))))),
    omega (arith, pos, closes_weak (first words) h),
  );
}

pub operand_fault : (least room : ℕ) (start now : Cursor) (why : Fault) → 1 ≤ least → least ≤ 9 → Fails an_operand room start now why → Fails (an_expr least) room start now why
operand_fault least room start now why pos nine k = record {
  moves = k.moves;
  front = k.front;
  read = k.read;
  none = λ others agrees levels rules e rest h.
      let s = split levels least e (drop start.read others) rest h.0 in
      k.none others agrees (suc s.base) (strong_rules why room (suc s.base) levels (rises (suc s.base) levels least (head_strength (head_start (first (drop start.read others)))) s.left e s.tails s.between rest s.spine) rules) s.left s.between s.head;
  begins = elim k.begins [ inl b ↦ inl (operand_begun least room k.front pos nine b) | inr e ↦ inr e ];
  deeper = λ e. let d = k.deeper e in (d.0, d.1, d.2, d.3, operand_begun least d.3 (k.front ++ d.0 ∷ []) pos nine d.4);
}

module _ (least room : ℕ) (start : Cursor) (left : FileExpr) (power height : ℕ) (now : Cursor) (pos : 1 ≤ least) (so_far : SoFar least room start left power height now) where
  -- no word goes on it, so the expression is whole
  pub whole : strength (upcoming now) < least → Sized (an_expr least) room height start now left
  whole ends = record {
    it = record {
      it = record {
        moves = so_far.moves;
        front = so_far.front;
        read = so_far.read;
        stands = λ levels low words may. (so_far.stands levels low least so_far.enough words may, weak words may);
        only = λ others agrees levels e rest h. let o = so_far.only others agrees levels e rest h in by_tails others agrees levels e rest o.0 o.1 o.3;
      };
      some = so_far.some;
    };
    low = so_far.low;
    least = λ others agrees levels e rest h.
        let o = so_far.only others agrees levels e rest h in
        omega (arith, o.2, rises o.0 levels least power left e o.1 (drop now.read others) rest o.3);
  }
    where
      weak : (words : List Spot) → May (upcoming now) words → strength words < least
      weak words (inl h) = omega (arith, pos, closes_weak (first words) h)
      weak words (inr e) = omega (arith, ends, ap (λ w. tail_strength (tail_start w)) e)

      by_tails : (others : List Spot) → Agrees now others → (levels : ℕ) (e : FileExpr) (rest : List Spot) (base : ℕ) (ts : List Tail) → Spine base levels least power left ts e (drop now.read others) rest → (e ≡ left) × (rest ≡ drop now.read others)
      by_tails others agrees levels e rest base [] h = (h.1, sym h.2)
      by_tails others agrees levels e rest base (t ∷ ts) h =
          absurd (omega (arith, ends, ap (λ w. tail_strength (tail_start w)) (agrees_here now others agrees), descends (suc base) levels least (strength (drop now.read others)) (applied left t) e ts h.0 rest h.3))

  left_begun : Begins (an_expr least) room so_far.front
  left_begun = record {
    more = [];
    phrase = left;
    stands = λ levels low words h. (so_far.stands levels (omega (arith, low, so_far.low)) least so_far.enough words (inl h), omega (arith, pos, closes_weak (first words) h));
  }

  module _ (goes : least ≤ strength (upcoming now)) where
    pub record More (others : List Spot) (levels : ℕ) (e : FileExpr) (rest : List Spot) : Type 0 where
      pub base : ℕ
      pub next : Tail
      pub later : List Tail
      pub between : List Spot
      pub high : height ≤ base
      pub wants : tail_left (tail_start (first (drop now.read others))) ≤ power
      pub here : a_tail base next (drop now.read others) between
      pub spine : Spine (suc base) levels least (strength (drop now.read others)) (applied left next) later e between rest

    pub more : (others : List Spot) → Agrees now others → (levels : ℕ) (e : FileExpr) (rest : List Spot) → an_expr least levels e (drop start.read others) rest → More others levels e rest
    more others agrees levels e rest good = let o = so_far.only others agrees levels e rest good in by_tails o.0 o.1 o.2 o.3
      where
        by_tails : (base : ℕ) (ts : List Tail) → height ≤ base → Spine base levels least power left ts e (drop now.read others) rest → More others levels e rest
        by_tails base [] high h = absurd (omega (arith, goes, good.1, ap strength h.2, ap (λ w. tail_strength (tail_start w)) (agrees_here now others agrees)))
        by_tails base (t ∷ ts) high h = record { base = base; next = t; later = ts; between = h.0; high = high; wants = h.1; here = h.2; spine = h.3 }

    below : (others : List Spot) (levels : ℕ) (e : FileExpr) (rest : List Spot) (m : More others levels e rest) → suc m.base ≤ levels
    below others levels e rest m = rises (suc m.base) levels least (strength (drop now.read others)) (applied left m.next) e m.later m.between rest m.spine

    -- the word wants a stronger expression before it
    pub too_weak : power < tail_left (tail_start (first (upcoming now))) → Fails (an_expr least) room start now Parse
    too_weak less = record {
      moves = so_far.moves;
      front = so_far.front;
      read = so_far.read;
      none = λ others agrees levels rules e rest h.
          let m = more others agrees levels e rest h in
          omega (arith, less, m.wants, ap (λ w. tail_left (tail_start w)) (agrees_here now others agrees));
      begins = inl left_begun;
      deeper = λ e. absurd (cc (e));
    }

    tail_begun : (front : List Spot) (low top : ℕ) → Begins a_tail low front → ((words : List Spot) → first (front ++ words) ≡ first (upcoming now)) → tail_left (tail_start (first (upcoming now))) ≤ power → height < top → low < top → Begins (an_expr least) top (so_far.front ++ front)
    tail_begun front low top b same wants high enough = record {
      more = b.more;
      phrase = applied left b.phrase;
      stands = λ levels up words h. (
        subst (λ ws. is_expr levels least (applied left b.phrase) ws words) (sym (append_assoc so_far.front front (b.more ++ words))) (stands levels up words h),
        omega (arith, pos, closes_weak (first words) h),
      );
    }
      where
        stands : (levels : ℕ) → top ≤ levels → (words : List Spot) → IsTrue (closes (first words)) → is_expr levels least (applied left b.phrase) (so_far.front ++ (front ++ (b.more ++ words))) words
        stands zero up words h = absurd (omega (arith, up, high))
        stands (suc levels) up words h = inr (
          left,
          b.phrase,
          front ++ (b.more ++ words),
          so_far.stands levels (omega (arith, up, high)) (tail_left (tail_start (first (front ++ (b.more ++ words)))))
              (omega (arith, wants, ap (λ w. tail_left (tail_start w)) (same (b.more ++ words)))) (front ++ (b.more ++ words)) (inr (same (b.more ++ words))),
          omega (arith, goes, ap (λ w. tail_strength (tail_start w)) (same (b.more ++ words))),
          refl,
          b.stands levels (omega (arith, up, enough)) words h,
        )

    -- another level is wanted, and there is none
    pub too_high : room ≤ height → tail_left (tail_start (first (upcoming now))) ≤ power → (spot : Spot) (rest : List Spot) → upcoming now ≡ spot ∷ rest → Begins a_tail 1 (spot ∷ []) → Fails (an_expr least) room start now Deep
    too_high full wants spot rest here b = record {
      moves = so_far.moves;
      front = so_far.front;
      read = so_far.read;
      none = λ others agrees levels rules e rest h.
          let m = more others agrees levels e rest h in
          omega (arith, full, m.high, below others levels e rest m, rules);
      begins = inl left_begun;
      deeper = λ e. (spot, rest, here, max height 1 + 1, tail_begun (spot ∷ []) 1 (max height 1 + 1) b (λ words. sym (ap first here)) wants (omega arith) (omega arith));
    }

    lower_rules : (why : Fault) (base levels : ℕ) → suc base ≤ levels → Rules why room levels → Rules why (room - 1) base
    lower_rules Parse base levels up h = tt
    lower_rules Deep base levels up h = omega (arith, up, h)
    lower_rules Memory base levels up h = absurd h

    pub tail_fault : (after : Cursor) (why : Fault) → height < room → tail_left (tail_start (first (upcoming now))) ≤ power → Fails a_tail (room - 1) now after why → Fails (an_expr least) room start after why
    tail_fault after why low wants k = record {
      moves = moves_on start now after so_far.moves k.moves;
      front = so_far.front ++ k.front;
      read = so_far.read ∙ ap (λ ws. so_far.front ++ ws) k.read ∙ sym (append_assoc so_far.front k.front (upcoming after));
      none = λ others agrees levels rules e rest h.
          let m = more others (agrees_before now after others k.moves agrees) levels e rest h in
          k.none others agrees m.base (lower_rules why m.base levels (below others levels e rest m) rules) m.next m.between m.here;
      begins = inl (begun k.front k.read k.begins);
      deeper = λ e. let d = k.deeper e in (
        d.0,
        d.1,
        d.2,
        max height d.3 + 1,
        subst (λ ws. Begins (an_expr least) (max height d.3 + 1) ws) (sym (append_assoc so_far.front k.front (d.0 ∷ [])))
            (tail_begun (k.front ++ d.0 ∷ []) d.3 (max height d.3 + 1) d.4 (λ words. first_of k.front words d.1 d.0 ∙ ap (λ ws. first (k.front ++ ws)) (sym d.2) ∙ sym (ap first k.read)) wants (omega arith) (omega arith)),
      );
    }
      where
        begun : (front : List Spot) → upcoming now ≡ front ++ upcoming after → Begins a_tail (room - 1) front ⊎ (front ≡ []) → Begins (an_expr least) room (so_far.front ++ front)
        begun [] read begins = record {
          more = [];
          phrase = left;
          stands = λ levels up words h. (
            subst (λ ws. is_expr levels least left ws words) (sym (append_assoc so_far.front [] words)) (so_far.stands levels (omega (arith, up, so_far.low)) least so_far.enough words (inl h)),
            omega (arith, pos, closes_weak (first words) h),
          );
        }
        begun (s ∷ front) read (inl b) = tail_begun (s ∷ front) (room - 1) room b (λ words. sym (ap first read)) wants low (omega (arith, low))
        begun (s ∷ front) read (inr e) = absurd (cc (e))

    pub one_more : (after : Cursor) (t : Tail) (size : ℕ) → height < room → tail_left (tail_start (first (upcoming now))) ≤ power → Sized a_tail (room - 1) size now after t
        → SoFar least room start (applied left t) (strength (upcoming now)) (max height size + 1) after
    one_more after t size low wants k = record {
      moves = moves_on start now after so_far.moves k.it.it.moves;
      front = so_far.front ++ k.it.it.front;
      read = so_far.read ∙ ap (λ ws. so_far.front ++ ws) k.it.it.read ∙ sym (append_assoc so_far.front k.it.it.front (upcoming after));
      some = none_before so_far.front k.it.it.front so_far.some;
      low = omega (arith, low, k.low);
      enough = goes;
      stands = λ levels up want enough words may.
          subst (λ ws. is_expr levels want (applied left t) ws words) (sym (append_assoc so_far.front k.it.it.front words)) (stands levels up want enough words may);
      only = λ others agrees levels e rest h.
          let m = more others (agrees_before now after others k.it.it.moves agrees) levels e rest h in
          let r = k.it.it.only others agrees m.base m.next m.between m.here in
          let first_is = agrees_here now others (agrees_before now after others k.it.it.moves agrees) in (
            suc m.base,
            m.later,
            omega (arith, m.high, k.least others agrees m.base m.next m.between m.here),
            subst (λ p. Spine (suc m.base) levels least p (applied left t) m.later e (drop after.read others) rest) (ap (λ w. tail_strength (tail_start w)) first_is)
                (subst (λ ws. Spine (suc m.base) levels least (strength (drop now.read others)) (applied left t) m.later e ws rest) r.1
                (subst (λ u. Spine (suc m.base) levels least (strength (drop now.read others)) (applied left u) m.later e m.between rest) r.0 m.spine)),
          );
    }
      where
        same : (words : List Spot) → first (k.it.it.front ++ words) ≡ first (upcoming now)
        same words = front_first k.it.it.front words now after k.it.it.read k.it.some

        stands : (levels : ℕ) → max height size + 1 ≤ levels → (want : ℕ) → want ≤ strength (upcoming now) → (words : List Spot) → May (upcoming after) words → is_expr levels want (applied left t) (so_far.front ++ (k.it.it.front ++ words)) words
        stands zero up want enough words may = absurd (omega (arith, up))
        stands (suc levels) up want enough words may = inr (
          left,
          t,
          k.it.it.front ++ words,
          so_far.stands levels (omega (arith, up)) (tail_left (tail_start (first (k.it.it.front ++ words)))) (omega (arith, wants, ap (λ w. tail_left (tail_start w)) (same words))) (k.it.it.front ++ words) (inr (same words)),
          omega (arith, enough, ap (λ w. tail_strength (tail_start w)) (same words)),
          refl,
          k.it.it.stands levels (omega (arith, up)) words may,
        )

-- an operand has a level
pub so_far_high : (least room : ℕ) (start : Cursor) (left : FileExpr) (power height : ℕ) (now : Cursor) → SoFar least room start left power height now → 1 ≤ height
so_far_high least room start left power zero now so_far = absurd (so_far.stands 0 (omega arith) least so_far.enough (upcoming now) (inr refl))
so_far_high least room start left power (suc height) now so_far = omega arith

pub so_far_same : {least room : ℕ} {start : Cursor} {left : FileExpr} {power height : ℕ} {now : Cursor} (made : FileExpr) (strong high : ℕ) → made ≡ left → strong ≡ power → high ≡ height → SoFar least room start left power height now → SoFar least room start made strong high now
so_far_same {least} {room} {start} {left} {power} {height} {now} made strong high made_is strong_is high_is k =
    subst (λ e. SoFar least room start e strong high now) (sym made_is) (subst (λ p. SoFar least room start left p high now) (sym strong_is) (subst (λ h. SoFar least room start left power h now) (sym high_is) k))

pub shorter : (s0 s1 : Cursor) (front : List Spot) → front ≢ [] → upcoming s0 ≡ front ++ upcoming s1 → length (upcoming s1) < length (upcoming s0)
shorter s0 s1 [] some read = absurd (some refl)
shorter s0 s1 (s ∷ front) some read = omega (arith, ap length read, length-append front (upcoming s1))
