-- A phrase and then another that depends on it.
use Rattle.std.proofs.Common.{◌≡◌, ℕ, ◌≤◌, ◌⊎◌, inl, inr, List, [], ◌∷◌, ◌++◌, max, drop, IsTrue, sym, ap, subst, ◌∙◌, append_assoc, arith}
use Rattle.qz_phrases.specs.declared.words.Spot.{Spot}
use Rattle.qz_phrases.specs.declared.cursor.Cursor.{Cursor}
use Rattle.qz_phrases.specs.declared.cursor.Fault.{Fault}
use Rattle.qz_phrases.specs.Words.{first, closes}
use Rattle.qz_phrases.specs.Phrases.{Kind, seq_by}
use Rattle.qz_phrases.specs.Reading.{upcoming, May, ReadsIt, ReadsSome, Begins, Fails}
use Rattle.qz_phrases.proofs.Ahead.{agrees_before, moves_on}
use Rattle.qz_phrases.proofs.Combining.{Fill, Clear, may_before, first_of, none_before}

abbrev pub then_by : {A B : Type 0} → Kind A → (A → Kind B) → Kind (A × B)
then_by K L = λ levels. seq_by (K levels) (λ x. L x levels)

first_begun : {A B : Type 0} (K : Kind A) (L : A → Kind B) (low high top : ℕ) (front : List Spot) → (b : Begins K low front) → (l : Fill (L b.phrase) high) → Clear l → low ≤ top → high ≤ top → Begins (then_by K L) top front
first_begun K L low high top front b l clear k_low l_low = record {
  more = b.more ++ l.more;
  phrase = (b.phrase, l.phrase);
  stands = λ levels enough words h. subst (λ ws. then_by K L levels (b.phrase, l.phrase) (front ++ ws) words) (sym (append_assoc b.more l.more words))
      ((l.more ++ words, b.stands levels (omega (arith, enough, k_low)) (l.more ++ words) (clear words h), l.stands levels (omega (arith, enough, l_low)) words h));
}

pub by_first_fails : {A B : Type 0} {K : Kind A} (L : A → Kind B) {room : ℕ} {s0 s1 : Cursor} {why : Fault} → (l : (x : A) → Fill (L x) room) → ((x : A) → Clear (l x)) → Fails K room s0 s1 why → Fails (then_by K L) room s0 s1 why
by_first_fails {K = K} L {room} l clear k = record {
  moves = k.moves;
  front = k.front;
  read = k.read;
  none = λ others agrees levels rules p rest h. k.none others agrees levels rules p.0 h.0 h.1;
  begins = elim k.begins [ inl b ↦ inl (first_begun K L room room room k.front b (l b.phrase) (clear b.phrase) (omega arith) (omega arith)) | inr e ↦ inr e ];
  deeper = λ e. let d = k.deeper e in (d.0, d.1, d.2, max d.3 room, first_begun K L d.3 room (max d.3 room) (k.front ++ d.0 ∷ []) d.4 (l d.4.phrase) (clear d.4.phrase) (omega arith) (omega arith));
}

second_begun : {A B : Type 0} (K : Kind A) (L : A → Kind B) (room low top : ℕ) (s0 s1 : Cursor) (x : A) (front : List Spot) (k : ReadsIt K room s0 s1 x) (b : Begins (L x) low front)
    → ((words : List Spot) → IsTrue (closes (first words)) → May (upcoming s1) (front ++ (b.more ++ words))) → room ≤ top → low ≤ top → Begins (then_by K L) top (k.front ++ front)
second_begun K L room low top s0 s1 x front k b may k_low l_low = record {
  more = b.more;
  phrase = (x, b.phrase);
  stands = λ levels enough words h. (
    front ++ (b.more ++ words),
    subst (λ ws. K levels x ws (front ++ (b.more ++ words))) (sym (append_assoc k.front front (b.more ++ words))) (k.stands levels (omega (arith, enough, k_low)) (front ++ (b.more ++ words)) (may words h)),
    b.stands levels (omega (arith, enough, l_low)) words h,
  );
}

pub by_second_fails : {A B : Type 0} {K : Kind A} (L : A → Kind B) {room : ℕ} {s0 s1 s2 : Cursor} {x : A} {why : Fault} → (l : Fill (L x) room) → Clear l → ReadsIt K room s0 s1 x → Fails (L x) room s1 s2 why → Fails (then_by K L) room s0 s2 why
by_second_fails {K = K} L {room} {s0} {s1} {s2} {x} {why} fill clear k l = record {
  moves = moves_on s0 s1 s2 k.moves l.moves;
  front = k.front ++ l.front;
  read = k.read ∙ ap (λ ws. k.front ++ ws) l.read ∙ sym (append_assoc k.front l.front (upcoming s2));
  none = λ others agrees levels rules p rest h.
      let r = k.only others (agrees_before s1 s2 others l.moves agrees) levels p.0 h.0 h.1 in
      l.none others agrees levels rules p.1 rest (subst (λ x. L x levels p.1 (drop s1.read others) rest) r.0 (subst (λ ws. L p.0 levels p.1 ws rest) r.1 h.2));
  begins = inl (begun l.front l.read l.begins);
  deeper = λ e. let d = l.deeper e in (
    d.0,
    d.1,
    d.2,
    max room d.3,
    subst (λ ws. Begins (then_by K L) (max room d.3) ws) (sym (append_assoc k.front l.front (d.0 ∷ [])))
        (second_begun K L room d.3 (max room d.3) s0 s1 x (l.front ++ d.0 ∷ []) k d.4
        (λ words h. inr (first_of l.front (d.4.more ++ words) d.1 d.0 ∙ ap (λ ws. first (l.front ++ ws)) (sym d.2) ∙ ap first (sym l.read))) (omega arith) (omega arith)),
  );
}
  where
    begun : (front : List Spot) → upcoming s1 ≡ front ++ upcoming s2 → Begins (L x) room front ⊎ (front ≡ []) → Begins (then_by K L) room (k.front ++ front)
    begun [] read begins = second_begun K L room room room s0 s1 x [] k (record { more = fill.more; phrase = fill.phrase; stands = fill.stands }) (λ words h. inl (clear words h)) (omega arith) (omega arith)
    begun (s ∷ front) read (inl b) = second_begun K L room room room s0 s1 x (s ∷ front) k b (λ words h. inr (sym (ap first read))) (omega arith) (omega arith)
    begun (s ∷ front) read (inr e) = absurd (cc (e))

abbrev pub by_reads : {A B : Type 0} {K : Kind A} (L : A → Kind B) {room : ℕ} {s0 s1 s2 : Cursor} {x : A} {y : B} → ReadsIt K room s0 s1 x → ReadsIt (L x) room s1 s2 y → ReadsIt (then_by K L) room s0 s2 (x, y)
by_reads {K = K} L {room} {s0} {s1} {s2} {x} {y} k l = record {
  moves = moves_on s0 s1 s2 k.moves l.moves;
  front = k.front ++ l.front;
  read = k.read ∙ ap (λ ws. k.front ++ ws) l.read ∙ sym (append_assoc k.front l.front (upcoming s2));
  stands = λ levels low words may. (
    l.front ++ words,
    subst (λ ws. K levels x ws (l.front ++ words)) (sym (append_assoc k.front l.front words)) (k.stands levels low (l.front ++ words) (may_before s1 s2 l.front words l.read may)),
    l.stands levels low words may,
  );
  only = λ others agrees levels p rest h.
      let here = k.only others (agrees_before s1 s2 others l.moves agrees) levels p.0 h.0 h.1 in
      let later = l.only others agrees levels p.1 rest (subst (λ x. L x levels p.1 (drop s1.read others) rest) here.0 (subst (λ ws. L p.0 levels p.1 ws rest) here.1 h.2)) in
      ((λ i. (here.0 i, later.0 i)), later.1);
}

pub by_some : {A B : Type 0} {K : Kind A} (L : A → Kind B) {room : ℕ} {s0 s1 s2 : Cursor} {x : A} {y : B} → ReadsSome K room s0 s1 x → ReadsIt (L x) room s1 s2 y → ReadsSome (then_by K L) room s0 s2 (x, y)
by_some L k l = record { it = by_reads L k.it l; some = none_before k.it.front l.front k.some }
