-- Phrases one after the other, of which some are read.
use Rattle.std.proofs.Common.{◌≡◌, ℕ, ◌≤◌, ◌⊎◌, inl, inr, List, [], ◌∷◌, ◌++◌, max, drop, IsTrue, sym, refl, ap, subst, ◌∙◌, append_assoc, append-nil, arith}
use Rattle.qz_phrases.specs.declared.words.Spot.{Spot}
use Rattle.qz_phrases.specs.declared.cursor.Cursor.{Cursor}
use Rattle.qz_phrases.specs.declared.cursor.Fault.{Fault}
use Rattle.qz_phrases.specs.Words.{first, closes}
use Rattle.qz_phrases.specs.Phrases.{Kind, many}
use Rattle.qz_phrases.specs.Reading.{upcoming, Agrees, Moves, May, ReadsIt, ReadsSome, Begins, Rules, Fails}
use Rattle.qz_phrases.proofs.Ahead.{agrees_before, moves_on, still}
use Rattle.qz_phrases.proofs.Combining.{Fill, Clear, may_before, first_of, front_first, none_after}

abbrev pub row : {S A B : Type 0} → (S → Kind A) → (A → S) → (S → Kind B) → S → ℕ → List A → B → List Spot → List Spot → Type 0
row item next end state levels xs y words rest = many (λ s. item s levels) next (λ s. end s levels) state xs y words rest

abbrev pub row_kind : {S A B : Type 0} → (S → Kind A) → (A → S) → (S → Kind B) → S → Kind (List A × B)
row_kind item next end state levels p words rest = row item next end state levels p.0 p.1 words rest

-- the end of a row in place of the rest of it
abbrev pub end_fill : {S A B : Type 0} {item : S → Kind A} {next : A → S} {end : S → Kind B} {room : ℕ} → ((s : S) → Fill (end s) room) → (s : S) → Fill (row_kind item next end s) room
end_fill fill s = record { more = (fill s).more; phrase = ([], (fill s).phrase); stands = (fill s).stands }

-- these were read, and others may come
pub record ListSoFar {S A B : Type 0} (item : S → Kind A) (next : A → S) (end : S → Kind B) (room : ℕ) (start : Cursor) (s0 : S) (xs : List A) (state : S) (now : Cursor) : Type 0 where
  pub moves : Moves start now
  pub front : List Spot
  pub read : upcoming start ≡ front ++ upcoming now
  pub stands : (levels : ℕ) → room ≤ levels → (words : List Spot) → May (upcoming now) words → (ys : List A) (y : B) (rest : List Spot) → row item next end state levels ys y words rest
      → row item next end s0 levels (xs ++ ys) y (front ++ words) rest
  pub only : (others : List Spot) → Agrees now others → (levels : ℕ) (ys : List A) (y : B) (rest : List Spot) → row item next end s0 levels ys y (drop start.read others) rest
      → (zs : List A) × (ys ≡ xs ++ zs) × row item next end state levels zs y (drop now.read others) rest

pub none_yet : {S A B : Type 0} (item : S → Kind A) (next : A → S) (end : S → Kind B) (room : ℕ) (start : Cursor) (s0 : S) → ListSoFar item next end room start s0 [] s0 start
none_yet item next end room start s0 = record {
  moves = still;
  front = [];
  read = refl;
  stands = λ levels low words may ys y rest h. h;
  only = λ others agrees levels ys y rest h. (ys, refl, h);
}

module _ {S A B : Type 0} (item : S → Kind A) (next : A → S) (end : S → Kind B) (room : ℕ) (start : Cursor) (s0 : S) (xs : List A) (state : S) (now : Cursor) (so_far : ListSoFar item next end room start s0 xs state now) where
  -- none of a kind is here, whatever comes after that cursor
  abbrev pub Lacks : {C : Type 0} → Kind C → Cursor → Type 0
  Lacks K after = (others : List Spot) → Agrees after others → (levels : ℕ) (x : _) (rest : List Spot) → K levels x (drop now.read others) rest → ⊥

  pub one_more : (after : Cursor) (x : A) → Lacks (end state) after → ReadsSome (item state) room now after x → ListSoFar item next end room start s0 (xs ++ x ∷ []) (next x) after
  one_more after x no_end k = record {
    moves = moves_on start now after so_far.moves k.it.moves;
    front = so_far.front ++ k.it.front;
    read = so_far.read ∙ ap (λ ws. so_far.front ++ ws) k.it.read ∙ sym (append_assoc so_far.front k.it.front (upcoming after));
    stands = λ levels low words may ys y rest h.
        subst (λ zs. row item next end s0 levels zs y ((so_far.front ++ k.it.front) ++ words) rest) (sym (append_assoc xs (x ∷ []) ys))
        (subst (λ ws. row item next end s0 levels (xs ++ x ∷ ys) y ws rest) (sym (append_assoc so_far.front k.it.front words))
        (so_far.stands levels low (k.it.front ++ words) (inr (front_first k.it.front words now after k.it.read k.some)) (x ∷ ys) y rest (words, k.it.stands levels low words may, h)));
    only = λ others agrees levels ys y rest h.
        let o = so_far.only others (agrees_before now after others k.it.moves agrees) levels ys y rest h in
        by_more others agrees levels ys y rest o.0 o.1 o.2;
  }
    where
      by_more : (others : List Spot) → Agrees after others → (levels : ℕ) (ys : List A) (y : B) (rest : List Spot) (zs : List A) → ys ≡ xs ++ zs → row item next end state levels zs y (drop now.read others) rest
          → (more : List A) × (ys ≡ (xs ++ x ∷ []) ++ more) × row item next end (next x) levels more y (drop after.read others) rest
      by_more others agrees levels ys y rest [] is h = absurd (no_end others agrees levels y rest h)
      by_more others agrees levels ys y rest (z ∷ zs) is h =
          let r = k.it.only others agrees levels z h.0 h.1 in (
            zs,
            is ∙ ap (λ z. xs ++ z ∷ zs) r.0 ∙ sym (append_assoc xs (x ∷ []) zs),
            subst (λ z. row item next end (next z) levels zs y (drop after.read others) rest) r.0 (subst (λ ws. row item next end (next z) levels zs y ws rest) r.1 h.2),
          )

  pub ended : (after : Cursor) (y : B) → Lacks (item state) after → ReadsIt (end state) room now after y → ReadsIt (row_kind item next end s0) room start after (xs, y)
  ended after y no_item k = record {
    moves = moves_on start now after so_far.moves k.moves;
    front = so_far.front ++ k.front;
    read = so_far.read ∙ ap (λ ws. so_far.front ++ ws) k.read ∙ sym (append_assoc so_far.front k.front (upcoming after));
    stands = λ levels low words may.
        subst (λ zs. row item next end s0 levels zs y ((so_far.front ++ k.front) ++ words) words) (append-nil xs)
        (subst (λ ws. row item next end s0 levels (xs ++ []) y ws words) (sym (append_assoc so_far.front k.front words))
        (so_far.stands levels low (k.front ++ words) (may_before now after k.front words k.read may) [] y words (k.stands levels low words may)));
    only = λ others agrees levels p rest h.
        let o = so_far.only others (agrees_before now after others k.moves agrees) levels p.0 p.1 rest h in
        by_more others agrees levels p rest o.0 o.1 o.2;
  }
    where
      by_more : (others : List Spot) → Agrees after others → (levels : ℕ) (p : List A × B) (rest : List Spot) (zs : List A) → p.0 ≡ xs ++ zs → row item next end state levels zs p.1 (drop now.read others) rest
          → (p ≡ (xs, y)) × (rest ≡ drop after.read others)
      by_more others agrees levels p rest [] is h =
          let r = k.only others agrees levels p.1 rest h in
          let same : p.0 ≡ xs = is ∙ append-nil xs in
          ((λ i. (same i, r.0 i)), r.1)
      by_more others agrees levels p rest (z ∷ zs) is h = absurd (no_item others agrees levels z h.0 h.1)

  -- with an end of at least one word
  pub ended_some : (after : Cursor) (y : B) → Lacks (item state) after → ReadsSome (end state) room now after y → ReadsSome (row_kind item next end s0) room start after (xs, y)
  unfolding ended
  ended_some after y no_item k = record { it = ended after y no_item k.it; some = none_after so_far.front k.it.front k.some }

  -- what was read begins such a row, where phrases follow that end it
  begun : (front more : List Spot) (ys : List A) (y : B) (top : ℕ) → room ≤ top → ((words : List Spot) → IsTrue (closes (first words)) → May (upcoming now) (front ++ (more ++ words)))
      → ((levels : ℕ) → top ≤ levels → (words : List Spot) → IsTrue (closes (first words)) → row item next end state levels ys y (front ++ (more ++ words)) words) → Begins (row_kind item next end s0) top (so_far.front ++ front)
  begun front more ys y top up may stands = record {
    more = more;
    phrase = (xs ++ ys, y);
    stands = λ levels low words h. subst (λ ws. row item next end s0 levels (xs ++ ys) y ws words) (sym (append_assoc so_far.front front (more ++ words)))
        (so_far.stands levels (omega (arith, up, low)) (front ++ (more ++ words)) (may words h) ys y words (stands levels low words h));
  }

  module _ (fill : (s : S) → Fill (row_kind item next end s) room) (clear : (s : S) → Clear (fill s)) where
    -- with an item begun, and with the end begun
    item_begun : (front : List Spot) (low top : ℕ) → ((words : List Spot) → first (front ++ words) ≡ first (upcoming now)) → Begins (item state) low front → room ≤ top → low ≤ top → Begins (row_kind item next end s0) top (so_far.front ++ front)
    item_begun front low top same b up enough =
        let e = fill (next b.phrase) in
        begun front (b.more ++ e.more) (b.phrase ∷ e.phrase.0) e.phrase.1 top up (λ words h. inr (same ((b.more ++ e.more) ++ words)))
        (λ levels low words h. (
          e.more ++ words,
          subst (λ ws. item state levels b.phrase (front ++ ws) (e.more ++ words)) (sym (append_assoc b.more e.more words)) (b.stands levels (omega (arith, low, enough)) (e.more ++ words) (clear (next b.phrase) words h)),
          e.stands levels (omega (arith, low, up)) words h,
        ))

    end_begun : (front : List Spot) (low top : ℕ) → ((words : List Spot) → first (front ++ words) ≡ first (upcoming now)) → Begins (end state) low front → room ≤ top → low ≤ top → Begins (row_kind item next end s0) top (so_far.front ++ front)
    end_begun front low top same b up enough =
        begun front b.more [] b.phrase top up (λ words h. inr (same (b.more ++ words))) (λ levels low words h. b.stands levels (omega (arith, low, enough)) words h)

    closed : Begins (row_kind item next end s0) room (so_far.front ++ [])
    closed = let e = fill state in begun [] e.more e.phrase.0 e.phrase.1 room (omega arith) (λ words h. inl (clear state words h)) (λ levels low words h. e.stands levels low words h)

    pub item_fails : (after : Cursor) (why : Fault) → Lacks (end state) after → Fails (item state) room now after why → Fails (row_kind item next end s0) room start after why
    item_fails after why no_end k = record {
      moves = moves_on start now after so_far.moves k.moves;
      front = so_far.front ++ k.front;
      read = so_far.read ∙ ap (λ ws. so_far.front ++ ws) k.read ∙ sym (append_assoc so_far.front k.front (upcoming after));
      none = λ others agrees levels rules p rest h.
          let o = so_far.only others (agrees_before now after others k.moves agrees) levels p.0 p.1 rest h in
          by_more others agrees levels rules p.1 rest o.0 o.2;
      begins = inl (by_front k.front k.read k.begins);
      deeper = λ e. let d = k.deeper e in (
        d.0,
        d.1,
        d.2,
        max room d.3,
        subst (λ ws. Begins (row_kind item next end s0) (max room d.3) ws) (sym (append_assoc so_far.front k.front (d.0 ∷ [])))
            (item_begun (k.front ++ d.0 ∷ []) d.3 (max room d.3) (λ words. first_of k.front words d.1 d.0 ∙ ap (λ ws. first (k.front ++ ws)) (sym d.2) ∙ sym (ap first k.read)) d.4 (omega arith) (omega arith)),
      );
    }
      where
        by_more : (others : List Spot) → Agrees after others → (levels : ℕ) → Rules why room levels → (y : B) (rest : List Spot) (zs : List A) → row item next end state levels zs y (drop now.read others) rest → ⊥
        by_more others agrees levels rules y rest [] h = no_end others agrees levels y rest h
        by_more others agrees levels rules y rest (z ∷ zs) h = k.none others agrees levels rules z h.0 h.1

        by_front : (front : List Spot) → upcoming now ≡ front ++ upcoming after → Begins (item state) room front ⊎ (front ≡ []) → Begins (row_kind item next end s0) room (so_far.front ++ front)
        by_front [] read begins = closed
        by_front (s ∷ front) read (inl b) = item_begun (s ∷ front) room room (λ words. sym (ap first read)) b (omega arith) (omega arith)
        by_front (s ∷ front) read (inr e) = absurd (cc (e))

    pub end_fails : (after : Cursor) (why : Fault) → Lacks (item state) after → Fails (end state) room now after why → Fails (row_kind item next end s0) room start after why
    end_fails after why no_item k = record {
      moves = moves_on start now after so_far.moves k.moves;
      front = so_far.front ++ k.front;
      read = so_far.read ∙ ap (λ ws. so_far.front ++ ws) k.read ∙ sym (append_assoc so_far.front k.front (upcoming after));
      none = λ others agrees levels rules p rest h.
          let o = so_far.only others (agrees_before now after others k.moves agrees) levels p.0 p.1 rest h in
          by_more others agrees levels rules p.1 rest o.0 o.2;
      begins = inl (by_front k.front k.read k.begins);
      deeper = λ e. let d = k.deeper e in (
        d.0,
        d.1,
        d.2,
        max room d.3,
        subst (λ ws. Begins (row_kind item next end s0) (max room d.3) ws) (sym (append_assoc so_far.front k.front (d.0 ∷ [])))
            (end_begun (k.front ++ d.0 ∷ []) d.3 (max room d.3) (λ words. first_of k.front words d.1 d.0 ∙ ap (λ ws. first (k.front ++ ws)) (sym d.2) ∙ sym (ap first k.read)) d.4 (omega arith) (omega arith)),
      );
    }
      where
        by_more : (others : List Spot) → Agrees after others → (levels : ℕ) → Rules why room levels → (y : B) (rest : List Spot) (zs : List A) → row item next end state levels zs y (drop now.read others) rest → ⊥
        by_more others agrees levels rules y rest [] h = k.none others agrees levels rules y rest h
        by_more others agrees levels rules y rest (z ∷ zs) h = no_item others agrees levels z h.0 h.1

        by_front : (front : List Spot) → upcoming now ≡ front ++ upcoming after → Begins (end state) room front ⊎ (front ≡ []) → Begins (row_kind item next end s0) room (so_far.front ++ front)
        by_front [] read begins = closed
        by_front (s ∷ front) read (inl b) = end_begun (s ∷ front) room room (λ words. sym (ap first read)) b (omega arith) (omega arith)
        by_front (s ∷ front) read (inr e) = absurd (cc (e))
