-- Words of the same sorts spell phrases of the same shape: how the forms of the grammar carry this.
use Rattle.std.proofs.Common.{◌≡◌, ℕ, Bool, IsFalse, List, [], ◌∷◌, sym, refl, ap, subst}
use Rattle.qz_syntax.specs.declared.file_expressions.NameAt.{NameAt}
use Rattle.qz_phrases.specs.declared.words.Word.{Word}
use Rattle.qz_phrases.specs.declared.words.Word.TheVariants as word
use Rattle.qz_phrases.specs.declared.words.Sort.{Sort}
use Rattle.qz_phrases.specs.declared.words.Sort.TheVariants as sort
use Rattle.qz_phrases.specs.declared.words.Mark.{Mark}
use Rattle.qz_phrases.specs.declared.words.Spot.{Spot}
use Rattle.qz_phrases.specs.Words.{sort_of, first}
use Rattle.qz_phrases.specs.Phrases.{Rel, none, one, name, number, literal, seq, seq_by, meant, by_first, stop, nothing, many, several}

-- one after the other, the words have the same sorts
abbrev pub Alike : List Spot → List Spot → Type 0
Alike [] [] = Unit {0}
Alike [] (t ∷ ts) = ⊥
Alike (s ∷ ss) [] = ⊥
Alike (s ∷ ss) (t ∷ ts) = (sort_of s.word ≡ sort_of t.word) × Alike ss ts

pub first_alike : (ws vs : List Spot) → Alike ws vs → first ws ≡ first vs
first_alike [] [] h = refl
first_alike [] (t ∷ ts) h = absurd h
first_alike (s ∷ ss) [] h = absurd h
first_alike (s ∷ ss) (t ∷ ts) h = h.0

-- a phrase at the front of other words, and what follows it is like the rest
pub record Carried {A : Type 0} (K : Rel A) (R : A → Type 0) (rest vs : List Spot) : Type 0 where
  pub value : A
  pub more : List Spot
  pub is : K value vs more
  pub alike : Alike rest more
  pub related : R value

-- what the first words spell, others of the same sorts spell alike
pub record Carries {A : Type 0} (R : A → A → Type 0) (K L : Rel A) : Type 0 where
  pub to : (x : A) (ws rest : List Spot) → K x ws rest → (vs : List Spot) → Alike ws vs → Carried L (R x) rest vs

abbrev pub Any : {A : Type 0} → A → A → Type 0
Any x y = Unit {0}

pub any : {A : Type 0} {R : A → A → Type 0} {K L : Rel A} → Carries R K L → Carries Any K L
any k = record { to = λ x ws rest is vs alike. let c = k.to x ws rest is vs alike in record { value = c.value; more = c.more; is = c.is; alike = c.alike; related = tt } }

pub carry_none : {A : Type 0} (R : A → A → Type 0) (L : Rel A) → Carries R none L
carry_none R L = record { to = λ x ws rest is vs alike. absurd is }

-- words by their sorts
pub mark_word : (w : Word) (m : Mark) → sort.Mark m ≡ sort_of w → w ≡ word.Mark m
mark_word (word.Name n) m e = absurd (cc (e))
mark_word (word.Number n) m e = absurd (cc (e))
mark_word (word.Literal n v) m e = absurd (cc (e))
mark_word (word.Mark k) m e = let same : m ≡ k = cc (e) in ap word.Mark (sym same)

pub name_word : (w : Word) → sort.Name ≡ sort_of w → (n : List ℕ) × (w ≡ word.Name n)
name_word (word.Name n) e = (n, refl)
name_word (word.Number n) e = absurd (cc (e))
name_word (word.Literal n v) e = absurd (cc (e))
name_word (word.Mark k) e = absurd (cc (e))

pub number_word : (w : Word) → sort.Number ≡ sort_of w → (n : ℕ) × (w ≡ word.Number n)
number_word (word.Name n) e = absurd (cc (e))
number_word (word.Number n) e = (n, refl)
number_word (word.Literal n v) e = absurd (cc (e))
number_word (word.Mark k) e = absurd (cc (e))

pub literal_word : (w : Word) → sort.Literal ≡ sort_of w → (n : ℕ) × (v : ℕ) × (w ≡ word.Literal n v)
literal_word (word.Name n) e = absurd (cc (e))
literal_word (word.Number n) e = absurd (cc (e))
literal_word (word.Literal n v) e = (n, v, refl)
literal_word (word.Mark k) e = absurd (cc (e))

spot_is : (t : Spot) (w : Word) → t.word ≡ w → t ≡ record { word = w; at = t.at }
spot_is t w e = ap (λ (u : Word). record t { word = u }) e

carried_one : (m : Mark) (rest vs : List Spot) → (at : ℕ) → Alike (record { word = word.Mark m; at = at } ∷ rest) vs → Carried (one m) (λ _. Unit {0}) rest vs
carried_one m rest [] at h = absurd h
carried_one m rest (t ∷ ts) at h = record { value = t.at; more = ts; is = ap (λ s. s ∷ ts) (spot_is t (word.Mark m) (mark_word t.word m h.0)); alike = h.1; related = tt }

pub carry_one : (m : Mark) → Carries Any (one m) (one m)
carry_one m = record { to = λ at ws rest is vs alike. carried_one m rest vs at (subst (λ us. Alike us vs) is alike) }

carried_name : (rest vs : List Spot) (n : NameAt) → Alike (record { word = word.Name n.name; at = n.at } ∷ rest) vs → Carried name (λ _. Unit {0}) rest vs
carried_name rest [] n h = absurd h
carried_name rest (t ∷ ts) n h = let w = name_word t.word h.0 in record {
  value = record { name = w.0; at = t.at };
  more = ts;
  is = ap (λ s. s ∷ ts) (spot_is t (word.Name w.0) w.1);
  alike = h.1;
  related = tt;
}

pub carry_name : Carries Any name name
carry_name = record { to = λ n ws rest is vs alike. carried_name rest vs n (subst (λ us. Alike us vs) is alike) }

carried_number : (rest vs : List Spot) (n : ℕ × ℕ) → Alike (record { word = word.Number n.0; at = n.1 } ∷ rest) vs → Carried number (λ _. Unit {0}) rest vs
carried_number rest [] n h = absurd h
carried_number rest (t ∷ ts) n h = let w = number_word t.word h.0 in record {
  value = (w.0, t.at);
  more = ts;
  is = ap (λ s. s ∷ ts) (spot_is t (word.Number w.0) w.1);
  alike = h.1;
  related = tt;
}

pub carry_number : Carries Any number number
carry_number = record { to = λ n ws rest is vs alike. carried_number rest vs n (subst (λ us. Alike us vs) is alike) }

carried_literal : (rest vs : List Spot) (n : ℕ × ℕ × ℕ) → Alike (record { word = word.Literal n.0 n.1; at = n.2 } ∷ rest) vs → Carried literal (λ _. Unit {0}) rest vs
carried_literal rest [] n h = absurd h
carried_literal rest (t ∷ ts) n h = let w = literal_word t.word h.0 in record {
  value = (w.0, w.1, t.at);
  more = ts;
  is = ap (λ s. s ∷ ts) (spot_is t (word.Literal w.0 w.1) w.2);
  alike = h.1;
  related = tt;
}

pub carry_literal : Carries Any literal literal
carry_literal = record { to = λ n ws rest is vs alike. carried_literal rest vs n (subst (λ us. Alike us vs) is alike) }

abbrev pub Both : {A B : Type 0} → (A → A → Type 0) → (B → B → Type 0) → A × B → A × B → Type 0
Both Q R p q = Q p.0 q.0 × R p.1 q.1

pub carry_seq_by : {A B : Type 0} {Q : A → A → Type 0} {R : B → B → Type 0} {K J : Rel A} {L M : A → Rel B} → Carries Q K J → ((x y : A) → Q x y → Carries R (L x) (M y)) → Carries (Both Q R) (seq_by K L) (seq_by J M)
carry_seq_by k l = record {
  to = λ p ws rest is vs alike.
      let a = k.to p.0 ws is.0 is.1 vs alike in
      let b = (l p.0 a.value a.related).to p.1 is.0 rest is.2 a.more a.alike in
      record { value = (a.value, b.value); more = b.more; is = (a.more, a.is, b.is); alike = b.alike; related = (a.related, b.related) };
}

pub carry_seq : {A B : Type 0} {Q : A → A → Type 0} {R : B → B → Type 0} {K J : Rel A} {L M : Rel B} → Carries Q K J → Carries R L M → Carries (Both Q R) (seq K L) (seq J M)
carry_seq k l = record {
  to = λ p ws rest is vs alike.
      let a = k.to p.0 ws is.0 is.1 vs alike in
      let b = l.to p.1 is.0 rest is.2 a.more a.alike in
      record { value = (a.value, b.value); more = b.more; is = (a.more, a.is, b.is); alike = b.alike; related = (a.related, b.related) };
}

pub carry_meant : {A B : Type 0} {Q : A → A → Type 0} {R : B → B → Type 0} {K J : Rel A} (f g : A → B) → ((x y : A) → Q x y → R (f x) (g y)) → Carries Q K J → Carries R (meant f K) (meant g J)
carry_meant {R = R} f g same k = record {
  to = λ x ws rest is vs alike.
      let a = k.to is.0 ws rest is.2 vs alike in
      record { value = g a.value; more = a.more; is = (a.value, refl, a.is); alike = a.alike; related = subst (λ u. R u (g a.value)) (sym is.1) (same is.0 a.value a.related) };
}

-- where nothing is asked of the values
pub mean : {A B : Type 0} {Q : A → A → Type 0} {K J : Rel A} (f g : A → B) → Carries Q K J → Carries Any (meant f K) (meant g J)
mean f g k = record {
  to = λ x ws rest is vs alike.
      let a = k.to is.0 ws rest is.2 vs alike in
      record { value = g a.value; more = a.more; is = (a.value, refl, a.is); alike = a.alike; related = tt };
}

pub carry_first : {A : Type 0} {R : A → A → Type 0} {row other : Sort → Rel A} → ((w : Sort) → Carries R (row w) (other w)) → Carries R (by_first row) (by_first other)
carry_first {A} {R} {row} {other} k = record {
  to = λ x ws rest is vs alike.
      let a = (k (first ws)).to x ws rest is vs alike in
      record { value = a.value; more = a.more; is = subst (λ w. other w a.value vs a.more) (first_alike ws vs alike) a.is; alike = a.alike; related = a.related };
}

pub carry_nothing : {A : Type 0} {R : A → A → Type 0} (x y : A) → R x y → Carries R (nothing x) (nothing y)
carry_nothing {R = R} x y r = record {
  to = λ u ws rest is vs alike. record { value = y; more = vs; is = (refl, refl); alike = subst (λ us. Alike us vs) is.1 alike; related = subst (λ v. R v y) (sym is.0) r };
}

pub carry_stop : (more : Sort → Bool) → Carries Any (stop more) (stop more)
carry_stop more = record {
  to = λ u ws rest is vs alike. record {
    value = tt;
    more = vs;
    is = (refl, subst (λ w. IsFalse (more w)) (first_alike ws vs alike) is.1);
    alike = subst (λ us. Alike us vs) is.0 alike;
    related = tt;
  };
}

-- phrases one after the other
pub record CarriedMany {S A B : Type 0} (item : S → Rel A) (next : A → S) (end : S → Rel B) (R : B → Type 0) (s : S) (rest vs : List Spot) : Type 0 where
  pub values : List A
  pub last : B
  pub more : List Spot
  pub is : many item next end s values last vs more
  pub alike : Alike rest more
  pub related : R last

module _ {S A B : Type 0} (P : S → S → Type 0) (Q : A → A → Type 0) (R : B → B → Type 0) (item : S → Rel A) (next : A → S) (end : S → Rel B)
    (items : (s t : S) → P s t → Carries Q (item s) (item t)) (steps : (x y : A) → Q x y → P (next x) (next y)) (ends : (s t : S) → P s t → Carries R (end s) (end t)) where
  pub carry_many : (s t : S) → P s t → (xs : List A) (y : B) (ws rest : List Spot) → many item next end s xs y ws rest → (vs : List Spot) → Alike ws vs → CarriedMany item next end (R y) t rest vs
  carry_many s t p [] y ws rest is vs alike =
      let a = (ends s t p).to y ws rest is vs alike in
      record { values = []; last = a.value; more = a.more; is = a.is; alike = a.alike; related = a.related }
  carry_many s t p (x ∷ xs) y ws rest is vs alike =
      let a = (items s t p).to x ws is.0 is.1 vs alike in
      let b = carry_many (next x) (next a.value) (steps x a.value a.related) xs y is.0 rest is.2 a.more a.alike in
      record { values = a.value ∷ b.values; last = b.last; more = b.more; is = (a.more, a.is, b.is); alike = b.alike; related = b.related }

  -- a list from a state on
  pub carry_list : (s t : S) → P s t → Carries (λ (p q : List A × B). R p.1 q.1) (λ p. many item next end s p.0 p.1) (λ p. many item next end t p.0 p.1)
  carry_list s t p = record {
    to = λ x ws rest is vs alike.
        let a = carry_many s t p x.0 x.1 ws rest is vs alike in
        record { value = (a.values, a.last); more = a.more; is = a.is; alike = a.alike; related = a.related };
  }

pub carry_several : {A B : Type 0} {Q : A → A → Type 0} {R : B → B → Type 0} {item : Rel A} {end : Rel B} → Carries Q item item → Carries R end end → Carries (λ (p q : List A × B). R p.1 q.1) (several item end) (several item end)
carry_several {Q = Q} {R} {item} {end} i e = record {
  to = λ x ws rest is vs alike.
      let a = carry_many (λ (s t : Unit {0}). Unit {0}) Q R (λ (s : Unit {0}). item) (λ _. tt) (λ _. end) (λ s t p. i) (λ x y q. tt) (λ s t p. e) tt tt tt x.0 x.1 ws rest is vs alike in
      record { value = (a.values, a.last); more = a.more; is = a.is; alike = a.alike; related = a.related };
}
