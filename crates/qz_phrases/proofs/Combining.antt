-- What a reader of a sequence gives, from what the readers of its parts do.
use Rattle.std.proofs.Common.{◌≡◌, ◌≢◌, ℕ, zero, suc, ◌+◌, ◌-◌, ◌<◌, ◌≤◌, ◌⊎◌, inl, inr, List, [], ◌∷◌, ◌++◌, max, drop, Err, IsTrue, sym, refl, ap, subst, ◌∙◌, append_assoc, arith}
use Rattle.qz_phrases.specs.declared.words.Spot.{Spot}
use Rattle.qz_phrases.specs.declared.words.Sort.{Sort}
use Rattle.qz_phrases.specs.declared.cursor.Cursor.{Cursor}
use Rattle.qz_phrases.specs.declared.cursor.Fault.{Fault}
use Rattle.qz_phrases.specs.declared.cursor.Fault.TheVariants.{Parse, Deep, Memory}
use Rattle.qz_phrases.specs.Words.{first, closes}
use Rattle.qz_phrases.specs.Phrases.{Rel, Kind, token, seq, meant, by_first}
use Rattle.qz_phrases.specs.Reading.{upcoming, Agrees, Moves, May, ReadsIt, ReadsSome, Begins, Rules, Fails, Reads}
use Rattle.qz_phrases.proofs.Ahead.{agrees_before, agrees_here, agrees_spot, moves_on, still}

-- a phrase in place of one that is missing
pub record Fill {A : Type 0} (K : Kind A) (room : ℕ) : Type 0 where
  pub more : List Spot
  pub phrase : A
  pub stands : (levels : ℕ) → room ≤ levels → (words : List Spot) → IsTrue (closes (first words)) → K levels phrase (more ++ words) words

-- and it goes on no phrase before it
abbrev pub Clear : {A : Type 0} {K : Kind A} {room : ℕ} → Fill K room → Type 0
Clear fill = (words : List Spot) → IsTrue (closes (first words)) → IsTrue (closes (first (fill.more ++ words)))

abbrev pub then : {A B : Type 0} → Kind A → Kind B → Kind (A × B)
then K L = λ levels. seq (K levels) (L levels)

abbrev pub always : {A : Type 0} → Rel A → Kind A
always K = λ _. K

abbrev pub meaning : {A B : Type 0} → (A → B) → Kind A → Kind B
meaning f K = λ levels. meant f (K levels)

abbrev pub chosen : {A : Type 0} → (Sort → Kind A) → Kind A
chosen row = λ levels. by_first (λ s. row s levels)

abbrev pub fill_token : {A : Type 0} (make : A → Spot) (x : A) {room : ℕ} → Fill (always (token make)) room
fill_token make x = record { more = make x ∷ []; phrase = x; stands = λ levels low words h. refl }

abbrev pub fill_then : {A B : Type 0} {K : Kind A} {L : Kind B} {room : ℕ} → Fill K room → (l : Fill L room) → Clear l → Fill (then K L) room
fill_then {K = K} {L} k l clear = record {
  more = k.more ++ l.more;
  phrase = (k.phrase, l.phrase);
  stands = λ levels low words h. subst (λ ws. then K L levels (k.phrase, l.phrase) ws words) (sym (append_assoc k.more l.more words))
      ((l.more ++ words, k.stands levels low (l.more ++ words) (clear words h), l.stands levels low words h));
}

-- what comes first is one word, after which anything may come
abbrev pub fill_led : {A B : Type 0} (make : A → Spot) (x : A) {L : Kind B} {room : ℕ} → Fill L room → Fill (then (always (token make)) L) room
fill_led make x l = record {
  more = make x ∷ l.more;
  phrase = (x, l.phrase);
  stands = λ levels low words h. (l.more ++ words, refl, l.stands levels low words h);
}

abbrev pub fill_meaning : {A B : Type 0} (f : A → B) {K : Kind A} {room : ℕ} → Fill K room → Fill (meaning f K) room
fill_meaning f k = record { more = k.more; phrase = f k.phrase; stands = λ levels low words h. (k.phrase, refl, k.stands levels low words h) }

-- one word
pub token_reads : {A : Type 0} (make : A → Spot) → ((x y : A) → make x ≡ make y → x ≡ y) → {room : ℕ} {old new : Cursor} (x : A) → new.words.now ≡ old.words.now → new.read ≡ suc old.read → (more : List Spot) → upcoming old ≡ make x ∷ more → upcoming old ≡ make x ∷ upcoming new
    → ReadsSome (always (token make)) room old new x
token_reads make same {room} {old} {new} x words next more here read = record {
  it = record {
    moves = moves;
    front = make x ∷ [];
    read = read;
    stands = λ levels low words may. refl;
    only = λ others agrees levels y rest h.
        let at = agrees_spot old others (make x) more (agrees_before old new others moves agrees) here in
        let both : make x ∷ drop (suc old.read) others ≡ make y ∷ rest = sym at ∙ h in
        let word_is : make x ≡ make y = cc (both) in
        let rest_is : drop (suc old.read) others ≡ rest = cc (both) in
        (same y x (sym word_is), sym rest_is ∙ ap (λ n. drop n others) (sym next));
  };
  some = λ e. absurd (cc (e));
}
  where
    moves : Moves old new
    moves = record { words = words; onward = omega (arith, next) }

pub token_fails : {A : Type 0} (make : A → Spot) (x0 : A) {room : ℕ} {s : Cursor} → ((x : A) (more : List Spot) → upcoming s ≡ make x ∷ more → ⊥) → ((x : A) → (others : List Spot) → Agrees s others → (more : List Spot) → drop s.read others ≡ make x ∷ more → ⊥)
    → Fails (always (token make)) room s s Parse
token_fails make x0 lacks lacked = record {
  moves = still;
  front = [];
  read = refl;
  none = λ others agrees levels rules y rest h. lacked y others agrees rest h;
  begins = inr refl;
  deeper = λ e. absurd (cc (e));
}

-- where nothing is read, and no phrase is there
pub no_phrase : {A : Type 0} {K : Kind A} {room : ℕ} {s : Cursor} → ((others : List Spot) → Agrees s others → (levels : ℕ) (y : A) (rest : List Spot) → K levels y (drop s.read others) rest → ⊥) → Fails K room s s Parse
no_phrase none = record {
  moves = still;
  front = [];
  read = refl;
  none = λ others agrees levels rules y rest h. none others agrees levels y rest h;
  begins = inr refl;
  deeper = λ e. absurd (cc (e));
}

-- or only one with more levels
pub too_deep : {A : Type 0} {K : Kind A} {room : ℕ} {s : Cursor} → ((others : List Spot) → Agrees s others → (levels : ℕ) → levels ≤ room → (y : A) (rest : List Spot) → K levels y (drop s.read others) rest → ⊥)
    → (spot : Spot) (more : List Spot) → upcoming s ≡ spot ∷ more → (levels : ℕ) → Begins K levels (spot ∷ []) → Fails K room s s Deep
too_deep none spot more here levels begins = record {
  moves = still;
  front = [];
  read = refl;
  none = λ others agrees levels rules y rest h. none others agrees levels rules y rest h;
  begins = inr refl;
  deeper = λ e. (spot, more, here, levels, begins);
}

-- the first part is begun
first_begun : {A B : Type 0} (K : Kind A) (L : Kind B) (low high top : ℕ) (front : List Spot) → Begins K low front → (l : Fill L high) → Clear l → low ≤ top → high ≤ top → Begins (then K L) top front
first_begun K L low high top front b l clear k_low l_low = record {
  more = b.more ++ l.more;
  phrase = (b.phrase, l.phrase);
  stands = λ levels enough words h. subst (λ ws. then K L levels (b.phrase, l.phrase) (front ++ ws) words) (sym (append_assoc b.more l.more words))
      ((l.more ++ words, b.stands levels (omega (arith, enough, k_low)) (l.more ++ words) (clear words h), l.stands levels (omega (arith, enough, l_low)) words h));
}

pub seq_first : {A B : Type 0} {K : Kind A} {L : Kind B} {room : ℕ} {s0 s1 : Cursor} {why : Fault} → (l : Fill L room) → Clear l → Fails K room s0 s1 why → Fails (then K L) room s0 s1 why
seq_first {K = K} {L} {room} l clear k = record {
  moves = k.moves;
  front = k.front;
  read = k.read;
  none = λ others agrees levels rules p rest h. k.none others agrees levels rules p.0 h.0 h.1;
  begins = elim k.begins [ inl b ↦ inl (first_begun K L room room room k.front b l clear (omega arith) (omega arith)) | inr e ↦ inr e ];
  deeper = λ e. let d = k.deeper e in (d.0, d.1, d.2, max d.3 room, first_begun K L d.3 room (max d.3 room) (k.front ++ d.0 ∷ []) d.4 l clear (omega arith) (omega arith));
}

-- the first part is read, and the second is begun
second_begun : {A B : Type 0} (K : Kind A) (L : Kind B) (room low top : ℕ) (s0 s1 : Cursor) (x : A) (front : List Spot) (k : ReadsIt K room s0 s1 x) (b : Begins L low front)
    → ((words : List Spot) → IsTrue (closes (first words)) → May (upcoming s1) (front ++ (b.more ++ words))) → room ≤ top → low ≤ top → Begins (then K L) top (k.front ++ front)
second_begun K L room low top s0 s1 x front k b may k_low l_low = record {
  more = b.more;
  phrase = (x, b.phrase);
  stands = λ levels enough words h. (
    front ++ (b.more ++ words),
    subst (λ ws. K levels x ws (front ++ (b.more ++ words))) (sym (append_assoc k.front front (b.more ++ words))) (k.stands levels (omega (arith, enough, k_low)) (front ++ (b.more ++ words)) (may words h)),
    b.stands levels (omega (arith, enough, l_low)) words h,
  );
}

pub first_of : (front words more : List Spot) (spot : Spot) → first ((front ++ spot ∷ []) ++ words) ≡ first (front ++ spot ∷ more)
first_of [] words more spot = refl
first_of (s ∷ front) words more spot = refl

pub seq_second : {A B : Type 0} {K : Kind A} {L : Kind B} {room : ℕ} {s0 s1 s2 : Cursor} {x : A} {why : Fault} → (l : Fill L room) → Clear l → ReadsIt K room s0 s1 x → Fails L room s1 s2 why → Fails (then K L) room s0 s2 why
seq_second {K = K} {L} {room} {s0} {s1} {s2} {x} {why} fill clear k l = record {
  moves = moves_on s0 s1 s2 k.moves l.moves;
  front = k.front ++ l.front;
  read = k.read ∙ ap (λ ws. k.front ++ ws) l.read ∙ sym (append_assoc k.front l.front (upcoming s2));
  none = λ others agrees levels rules p rest h.
      let r = k.only others (agrees_before s1 s2 others l.moves agrees) levels p.0 h.0 h.1 in
      l.none others agrees levels rules p.1 rest (subst (λ ws. L levels p.1 ws rest) r.1 h.2);
  begins = inl (begun l.front l.read l.begins);
  deeper = λ e. let d = l.deeper e in (
    d.0,
    d.1,
    d.2,
    max room d.3,
    subst (λ ws. Begins (then K L) (max room d.3) ws) (sym (append_assoc k.front l.front (d.0 ∷ [])))
        (second_begun K L room d.3 (max room d.3) s0 s1 x (l.front ++ d.0 ∷ []) k d.4
        (λ words h. inr (first_of l.front (d.4.more ++ words) d.1 d.0 ∙ ap (λ ws. first (l.front ++ ws)) (sym d.2) ∙ ap first (sym l.read))) (omega arith) (omega arith)),
  );
}
  where
    begun : (front : List Spot) → upcoming s1 ≡ front ++ upcoming s2 → Begins L room front ⊎ (front ≡ []) → Begins (then K L) room (k.front ++ front)
    begun [] read begins = second_begun K L room room room s0 s1 x [] k (record { more = fill.more; phrase = fill.phrase; stands = fill.stands }) (λ words h. inl (clear words h)) (omega arith) (omega arith)
    begun (s ∷ front) read (inl b) = second_begun K L room room room s0 s1 x (s ∷ front) k b (λ words h. inr (sym (ap first read))) (omega arith) (omega arith)
    begun (s ∷ front) read (inr e) = absurd (cc (e))

-- after one word anything may come
pub led_second : {A B : Type 0} (make : A → Spot) {L : Kind B} {room : ℕ} {s0 s1 s2 : Cursor} {x : A} {why : Fault} → Fill L room → ReadsIt (always (token make)) room s0 s1 x → Fails L room s1 s2 why → Fails (then (always (token make)) L) room s0 s2 why
led_second make {L} {room} {s0} {s1} {s2} {x} {why} fill k l = record {
  moves = moves_on s0 s1 s2 k.moves l.moves;
  front = make x ∷ l.front;
  read = led_read ∙ ap (λ ws. make x ∷ ws) l.read;
  none = λ others agrees levels rules p rest h.
      let r = k.only others (agrees_before s1 s2 others l.moves agrees) levels p.0 h.0 h.1 in
      l.none others agrees levels rules p.1 rest (subst (λ ws. L levels p.1 ws rest) r.1 h.2);
  begins = inl (begun l.front l.begins);
  deeper = λ e. let d = l.deeper e in (d.0, d.1, d.2, d.3, led d.3 (l.front ++ d.0 ∷ []) d.4);
}
  where
    led_read : upcoming s0 ≡ make x ∷ upcoming s1
    led_read = k.read ∙ k.stands room (omega arith) (upcoming s1) (inr refl)

    led : (top : ℕ) (front : List Spot) → Begins L top front → Begins (then (always (token make)) L) top (make x ∷ front)
    led top front b = record { more = b.more; phrase = (x, b.phrase); stands = λ levels enough words h. (front ++ (b.more ++ words), refl, b.stands levels enough words h) }

    begun : (front : List Spot) → Begins L room front ⊎ (front ≡ []) → Begins (then (always (token make)) L) room (make x ∷ front)
    begun front (inl b) = led room front b
    begun front (inr e) = subst (λ ws. Begins (then (always (token make)) L) room (make x ∷ ws)) (sym e) (led room [] (record { more = fill.more; phrase = fill.phrase; stands = fill.stands }))

pub may_before : (s1 s2 : Cursor) (front words : List Spot) → upcoming s1 ≡ front ++ upcoming s2 → May (upcoming s2) words → May (upcoming s1) (front ++ words)
may_before s1 s2 [] words read (inl h) = inl h
may_before s1 s2 [] words read (inr e) = inr (e ∙ ap first (sym read))
may_before s1 s2 (s ∷ front) words read h = inr (sym (ap first read))

abbrev pub seq_reads : {A B : Type 0} {K : Kind A} {L : Kind B} {room : ℕ} {s0 s1 s2 : Cursor} {x : A} {y : B} → ReadsIt K room s0 s1 x → ReadsIt L room s1 s2 y → ReadsIt (then K L) room s0 s2 (x, y)
seq_reads {K = K} {L} {room} {s0} {s1} {s2} {x} {y} k l = record {
  moves = moves_on s0 s1 s2 k.moves l.moves;
  front = k.front ++ l.front;
  read = k.read ∙ ap (λ ws. k.front ++ ws) l.read ∙ sym (append_assoc k.front l.front (upcoming s2));
  stands = λ levels low words may. (
    l.front ++ words,
    subst (λ ws. K levels x ws (l.front ++ words)) (sym (append_assoc k.front l.front words)) (k.stands levels low (l.front ++ words) (may_before s1 s2 l.front words l.read may)),
    l.stands levels low words may,
  );
  only = λ others agrees levels p rest h.
      let here = k.only others (agrees_before s1 s2 others l.moves agrees) levels p.0 h.0 h.1 in
      let later = l.only others agrees levels p.1 rest (subst (λ ws. L levels p.1 ws rest) here.1 h.2) in
      ((λ i. (here.0 i, later.0 i)), later.1);
}

pub none_before : (front back : List Spot) → front ≢ [] → front ++ back ≡ [] → ⊥
none_before [] back some e = some refl
none_before (s ∷ front) back some e = cc (e)

pub none_after : (front back : List Spot) → back ≢ [] → front ++ back ≡ [] → ⊥
none_after [] back some e = some e
none_after (s ∷ front) back some e = cc (e)

pub seq_some : {A B : Type 0} {K : Kind A} {L : Kind B} {room : ℕ} {s0 s1 s2 : Cursor} {x : A} {y : B} → ReadsSome K room s0 s1 x → ReadsIt L room s1 s2 y → ReadsSome (then K L) room s0 s2 (x, y)
seq_some k l = record { it = seq_reads k.it l; some = none_before k.it.front l.front k.some }

pub meaning_it : {A B : Type 0} (f : A → B) {K : Kind A} {room : ℕ} {s0 s1 : Cursor} {x : A} → ReadsIt K room s0 s1 x → ReadsIt (meaning f K) room s0 s1 (f x)
meaning_it f {x = x} k = record {
  moves = k.moves;
  front = k.front;
  read = k.read;
  stands = λ levels low words may. (x, refl, k.stands levels low words may);
  only = λ others agrees levels y rest h. let r = k.only others agrees levels h.0 rest h.2 in (h.1 ∙ ap f r.0, r.1);
}

pub meaning_reads : {A B : Type 0} (f : A → B) {K : Kind A} {room : ℕ} {s0 s1 : Cursor} {x : A} → ReadsSome K room s0 s1 x → ReadsSome (meaning f K) room s0 s1 (f x)
meaning_reads f {x = x} k = record {
  it = record {
    moves = k.it.moves;
    front = k.it.front;
    read = k.it.read;
    stands = λ levels low words may. (x, refl, k.it.stands levels low words may);
    only = λ others agrees levels y rest h. let r = k.it.only others agrees levels h.0 rest h.2 in (h.1 ∙ ap f r.0, r.1);
  };
  some = k.some;
}

pub meaning_begun : {A B : Type 0} (f : A → B) (K : Kind A) (room : ℕ) (front : List Spot) → Begins K room front → Begins (meaning f K) room front
meaning_begun f K room front b = record { more = b.more; phrase = f b.phrase; stands = λ levels low words h. (b.phrase, refl, b.stands levels low words h) }

pub meaning_fails : {A B : Type 0} (f : A → B) {K : Kind A} {room : ℕ} {s0 s1 : Cursor} {why : Fault} → Fails K room s0 s1 why → Fails (meaning f K) room s0 s1 why
meaning_fails f {K} {room} k = record {
  moves = k.moves;
  front = k.front;
  read = k.read;
  none = λ others agrees levels rules y rest h. k.none others agrees levels rules h.0 rest h.2;
  begins = elim k.begins [ inl b ↦ inl (meaning_begun f K room k.front b) | inr e ↦ inr e ];
  deeper = λ e. let d = k.deeper e in (d.0, d.1, d.2, d.3, meaning_begun f K d.3 (k.front ++ d.0 ∷ []) d.4);
}

-- the row of the next word
pub front_first : (front words : List Spot) (s0 s1 : Cursor) → upcoming s0 ≡ front ++ upcoming s1 → front ≢ [] → first (front ++ words) ≡ first (upcoming s0)
front_first [] words s0 s1 read some = absurd (some refl)
front_first (s ∷ front) words s0 s1 read some = sym (ap first read)

pub chosen_reads : {A : Type 0} (row : Sort → Kind A) {w : Sort} {room : ℕ} {s0 s1 : Cursor} {x : A} → first (upcoming s0) ≡ w → ReadsSome (row w) room s0 s1 x → ReadsSome (chosen row) room s0 s1 x
chosen_reads row {w} {room} {s0} {s1} {x} here k = record {
  it = record {
    moves = k.it.moves;
    front = k.it.front;
    read = k.it.read;
    stands = λ levels low words may. subst (λ w. row w levels x (k.it.front ++ words) words) (sym (front_first k.it.front words s0 s1 k.it.read k.some ∙ here)) (k.it.stands levels low words may);
    only = λ others agrees levels y rest h. k.it.only others agrees levels y rest
        (subst (λ w. row w levels y (drop s0.read others) rest) (agrees_here s0 others (agrees_before s0 s1 others k.it.moves agrees) ∙ here) h);
  };
  some = k.some;
}

pub chosen_begun : {A : Type 0} (row : Sort → Kind A) (w : Sort) (room : ℕ) (front : List Spot) → Begins (row w) room front → ((words : List Spot) → first (front ++ words) ≡ w) → Begins (chosen row) room front
chosen_begun row w room front b is = record {
  more = b.more;
  phrase = b.phrase;
  stands = λ levels low words h. subst (λ w. row w levels b.phrase (front ++ (b.more ++ words)) words) (sym (is (b.more ++ words))) (b.stands levels low words h);
}

pub chosen_fails : {A : Type 0} (row : Sort → Kind A) {w : Sort} {room : ℕ} {s0 s1 : Cursor} {why : Fault} → first (upcoming s0) ≡ w → Fails (row w) room s0 s1 why → Fails (chosen row) room s0 s1 why
chosen_fails {A} row {w} {room} {s0} {s1} {why} here k = record {
  moves = k.moves;
  front = k.front;
  read = k.read;
  none = λ others agrees levels rules y rest h. k.none others agrees levels rules y rest
      (subst (λ w. row w levels y (drop s0.read others) rest) (agrees_here s0 others (agrees_before s0 s1 others k.moves agrees) ∙ here) h);
  begins = begun k.front k.read k.begins;
  deeper = λ e. let d = k.deeper e in (
    d.0,
    d.1,
    d.2,
    d.3,
    chosen_begun row w d.3 (k.front ++ d.0 ∷ []) d.4 (λ words. first_of k.front words d.1 d.0 ∙ ap (λ ws. first (k.front ++ ws)) (sym d.2) ∙ ap first (sym k.read) ∙ here),
  );
}
  where
    begun : (front : List Spot) → upcoming s0 ≡ front ++ upcoming s1 → Begins (row w) room front ⊎ (front ≡ []) → Begins (chosen row) room front ⊎ (front ≡ [])
    begun [] read begins = inr refl
    begun (s ∷ front) read (inl b) = inl (chosen_begun row w room (s ∷ front) b (λ words. sym (ap first read) ∙ here))
    begun (s ∷ front) read (inr e) = inr e

-- the row of what the next word begins
abbrev pub started : {A S : Type 0} → (Sort → S) → (S → Kind A) → Kind A
started start_of row = λ levels. by_first (λ w. row (start_of w) levels)

pub start_is : {S : Type 0} (start_of : Sort → S) (s : Cursor) {w : Sort} {r l : S} → w ≡ first (upcoming s) → r ≡ start_of w → r ≡ l → l ≡ start_of (first (upcoming s))
start_is start_of s peeked read is = sym is ∙ read ∙ ap start_of peeked

pub started_reads : {A S : Type 0} (start_of : Sort → S) (row : S → Kind A) {start : S} {room : ℕ} {s0 s1 : Cursor} {x : A} → start ≡ start_of (first (upcoming s0)) → ReadsSome (row start) room s0 s1 x → ReadsSome (started start_of row) room s0 s1 x
started_reads start_of row {start} {room} {s0} {s1} {x} is k = chosen_reads (λ w. row (start_of w)) refl (subst (λ start. ReadsSome (row start) room s0 s1 x) is k)

pub started_fails : {A S : Type 0} (start_of : Sort → S) (row : S → Kind A) {start : S} {room : ℕ} {s0 s1 : Cursor} {why : Fault} → start ≡ start_of (first (upcoming s0)) → Fails (row start) room s0 s1 why → Fails (started start_of row) room s0 s1 why
started_fails start_of row {start} {room} {s0} {s1} {why} is k = chosen_fails (λ w. row (start_of w)) refl (subst (λ start. Fails (row start) room s0 s1 why) is k)

-- a phrase of one level more than those in it
pub record Nests {A : Type 0} (J L : Kind A) : Type 0 where
  pub ground : (x : A) (words rest : List Spot) → J 0 x words rest → ⊥
  pub down : (levels : ℕ) (x : A) (words rest : List Spot) → J (suc levels) x words rest → L levels x words rest
  pub up : (levels : ℕ) (x : A) (words rest : List Spot) → L levels x words rest → J (suc levels) x words rest

nest_stands : {A : Type 0} (J L : Kind A) (n : Nests J L) (room inner : ℕ) (x : A) (words rest : List Spot) → inner < room → ((levels : ℕ) → inner ≤ levels → L levels x words rest) → (levels : ℕ) → room ≤ levels → J levels x words rest
nest_stands J L n room inner x words rest less stands zero low = absurd (omega (arith, less, low))
nest_stands J L n room inner x words rest less stands (suc levels) low = n.up levels x words rest (stands levels (omega (arith, less, low)))

nest_only : {A : Type 0} (J L : Kind A) (n : Nests J L) (C : Type 0) (x : A) (words rest : List Spot) → (levels : ℕ) → ((inner : ℕ) → levels ≡ suc inner → L inner x words rest → C) → J levels x words rest → C
nest_only J L n C x words rest zero then h = absurd (n.ground x words rest h)
nest_only J L n C x words rest (suc levels) then h = then levels refl (n.down levels x words rest h)

pub nest_reads : {A : Type 0} {J L : Kind A} → Nests J L → {room : ℕ} {s0 s1 : Cursor} {x : A} → 1 ≤ room → ReadsSome L (room - 1) s0 s1 x → ReadsSome J room s0 s1 x
nest_reads {J = J} {L} n {room} {s0} {s1} {x} pos k = record {
  it = record {
    moves = k.it.moves;
    front = k.it.front;
    read = k.it.read;
    stands = λ levels low words may. nest_stands J L n room (room - 1) x (k.it.front ++ words) words (omega (arith, pos)) (λ levels low. k.it.stands levels low words may) levels low;
    only = λ others agrees levels y rest h. nest_only J L n ((y ≡ x) × (rest ≡ drop s1.read others)) y (drop s0.read others) rest levels (λ inner is h. k.it.only others agrees inner y rest h) h;
  };
  some = k.some;
}

pub nest_begun : {A : Type 0} (J L : Kind A) (n : Nests J L) (room inner : ℕ) (front : List Spot) → inner < room → Begins L inner front → Begins J room front
nest_begun J L n room inner front less b = record {
  more = b.more;
  phrase = b.phrase;
  stands = λ levels low words h. nest_stands J L n room inner b.phrase (front ++ (b.more ++ words)) words less (λ levels low. b.stands levels low words h) levels low;
}

inner_rules : (why : Fault) (room inner levels : ℕ) → levels ≡ suc inner → Rules why room levels → Rules why (room - 1) inner
inner_rules Parse room inner levels is h = tt
inner_rules Deep room inner levels is h = omega (arith, is, h)
inner_rules Memory room inner levels is h = absurd h

pub nest_fails : {A : Type 0} {J L : Kind A} → Nests J L → {room : ℕ} {s0 s1 : Cursor} {why : Fault} → 1 ≤ room → Fails L (room - 1) s0 s1 why → Fails J room s0 s1 why
nest_fails {J = J} {L} n {room} {s0} {s1} {why} pos k = record {
  moves = k.moves;
  front = k.front;
  read = k.read;
  none = λ others agrees levels rules y rest h. nest_only J L n ⊥ y (drop s0.read others) rest levels (λ inner is h. k.none others agrees inner (inner_rules why room inner levels is rules) y rest h) h;
  begins = elim k.begins [ inl b ↦ inl (nest_begun J L n room (room - 1) k.front (omega (arith, pos)) b) | inr e ↦ inr e ];
  deeper = λ e. let d = k.deeper e in (d.0, d.1, d.2, d.3 + 1, nest_begun J L n (d.3 + 1) d.3 (k.front ++ d.0 ∷ []) (omega arith) d.4);
}

-- a fault of a part as one of the whole
pub failed : {A B : Type 0} {K : Kind A} {J : Kind B} {room outer : ℕ} {s0 s1 t0 t1 : Cursor} (why : Fault) → Reads K room s0 s1 (Err why) → (Fails K room s0 s1 why → Fails J outer t0 t1 why) → Reads J outer t0 t1 (Err why)
failed Parse h f = f h
failed Deep h f = f h
failed Memory h f = tt
