-- Words that spell a phrase, and the words that are printed of it: the printed ones spell the same phrase but for
-- offsets. How the forms of the grammar keep this.
use Rattle.std.proofs.Common.{◌≡◌, ℕ, ◌<◌, ◌^◌, Bool, true, false, IsFalse, List, [], ◌∷◌, ◌++◌, sym, refl, ap, ap₂, ◌∙◌, subst}
use Rattle.std.specs.Str.{all_scalars}
use Rattle.qz_values.specs.declared.Op1.{Op1}
use Rattle.qz_values.specs.declared.Op1.TheVariants as op1
use Rattle.qz_values.specs.declared.Op2.{Op2}
use Rattle.qz_values.specs.declared.Op2.TheVariants as op2
use Rattle.qz_syntax.specs.Spelling.{IsName}
use Rattle.qz_syntax.specs.declared.declarations.Class.{Class}
use Rattle.qz_syntax.specs.declared.declarations.Class.TheVariants as class
use Rattle.qz_syntax.specs.declared.file_expressions.NameAt.{NameAt}
use Rattle.qz_phrases.specs.declared.words.Word.{Word}
use Rattle.qz_phrases.specs.declared.words.Word.TheVariants as word
use Rattle.qz_phrases.specs.declared.words.Sort.{Sort}
use Rattle.qz_phrases.specs.declared.words.Mark.{Mark}
use Rattle.qz_phrases.specs.declared.words.Mark.TheVariants as mark
use Rattle.qz_phrases.specs.declared.words.Spot.{Spot}
use Rattle.qz_phrases.specs.Words.{first, bool_mark, unary_mark, binary_mark, class_mark}
use Rattle.qz_phrases.specs.Phrases.{Rel, none, one, name, number, literal, seq, seq_by, meant, by_first, stop, nothing}
use Rattle.qz_printer.specs.Expressions.{name_words}
use Rattle.printer_laws.specs.Offsets.{plain_name}

-- a word that some text says
abbrev pub IsSaid : Word → Type 0
IsSaid (word.Name n) = IsName n × (all_scalars n ≡ true)
IsSaid (word.Number n) = n < 10 ^ 20
IsSaid (word.Literal w v) = (w < 10 ^ 20) × (v < 10 ^ 20)
IsSaid (word.Mark m) = Unit {0}

-- and that has a use
abbrev pub IsFine : Word → Type 0
IsFine (word.Name n) = IsName n × (all_scalars n ≡ true)
IsFine (word.Number n) = n < 10 ^ 20
IsFine (word.Literal w v) = (w < 10 ^ 20) × (v < 10 ^ 20)
IsFine (word.Mark mark.Reserved) = ⊥
IsFine (word.Mark _) = Unit {0}

abbrev pub Fine : List Spot → Type 0
Fine [] = Unit {0}
Fine (s ∷ ss) = IsSaid s.word × Fine ss

abbrev pub FineWords : List Word → Type 0
FineWords [] = Unit {0}
FineWords (w ∷ ws) = IsFine w × FineWords ws

pub fine_both : (a b : List Word) → FineWords a → FineWords b → FineWords (a ++ b)
fine_both [] b f g = g
fine_both (w ∷ a) b f g = (f.0, fine_both a b f.1 g)

-- the first spots have these words, and more follow them
abbrev pub Says : List Spot → List Word → List Spot → Type 0
Says vs [] more = vs ≡ more
Says [] (w ∷ ws) more = ⊥
Says (v ∷ vs) (w ∷ ws) more = (v.word ≡ w) × Says vs ws more

pub says_both : (vs : List Spot) (a b : List Word) (more : List Spot) → Says vs (a ++ b) more → (mid : List Spot) × Says vs a mid × Says mid b more
says_both vs [] b more says = (vs, refl, says)
says_both [] (w ∷ a) b more says = absurd says
says_both (v ∷ vs) (w ∷ a) b more says = let rest = says_both vs a b more says.1 in (rest.0, (says.0, rest.1), rest.2)

-- what a phrase asks of the next word, or promises of its first one
abbrev pub Free : Sort → Sort → Type 0
Free a b = Unit {0}

abbrev pub Same : Sort → Sort → Type 0
Same a b = a ≡ b

-- the same phrase at the front of other words
pub record Kept {A : Type 0} (G : Sort → Sort → Type 0) (print : A → List Word) (R : A → A → Type 0) (K : Rel A) (x : A) (ws vs more : List Spot) : Type 0 where
  pub value : A
  pub is : K value vs more
  pub same : R x value
  pub again : print value ≡ print x
  pub begins : G (first ws) (first vs)

-- What words spell, the printed ones spell too, if what follows them begins as it does there; and they are fine
-- where the words are.
pub record Keeps {A : Type 0} (F G : Sort → Sort → Type 0) (print : A → List Word) (R : A → A → Type 0) (K J : Rel A) : Type 0 where
  pub to : (x : A) (ws rest : List Spot) → K x ws rest → (vs more : List Spot) → Says vs (print x) more → F (first rest) (first more) → Kept G print R J x ws vs more
  pub fine : (x : A) (ws rest : List Spot) → K x ws rest → Fine ws → FineWords (print x) × Fine rest

abbrev pub Any : {A : Type 0} → A → A → Type 0
Any x y = Unit {0}

-- nothing is promised of the first word
pub loose : {A : Type 0} {F : Sort → Sort → Type 0} {print : A → List Word} {R : A → A → Type 0} {K J : Rel A} → Keeps F Same print R K J → Keeps F Free print R K J
loose k = record {
  to = λ x ws rest is vs more says next. let a = k.to x ws rest is vs more says next in record { value = a.value; is = a.is; same = a.same; again = a.again; begins = tt };
  fine = k.fine;
}

-- nothing has to be asked of the next word, where nothing is
pub asking : {A : Type 0} {F G : Sort → Sort → Type 0} {print : A → List Word} {R : A → A → Type 0} {K J : Rel A} → Keeps Free G print R K J → Keeps F G print R K J
asking k = record {
  to = λ x ws rest is vs more says next. k.to x ws rest is vs more says tt;
  fine = k.fine;
}

pub keep_none : {A : Type 0} {F G : Sort → Sort → Type 0} (print : A → List Word) (R : A → A → Type 0) (J : Rel A) → Keeps F G print R none J
keep_none print R J = record { to = λ x ws rest is vs more says next. absurd is; fine = λ x ws rest is fine. absurd is }

spot_is : (t : Spot) (w : Word) → t.word ≡ w → t ≡ record { word = w; at = t.at }
spot_is t w e = ap (λ (u : Word). record t { word = u }) e

-- one word
pub kept_word : {A : Type 0} (make : A → Spot) (print : A → List Word) (R : A → A → Type 0) (x : A) (at_place : ℕ → A)
    → ((at : ℕ) → make (at_place at) ≡ record { word = (make x).word; at = at }) → print x ≡ (make x).word ∷ [] → ((at : ℕ) → print (at_place at) ≡ print x) → ((at : ℕ) → R x (at_place at))
    → (ws rest vs more : List Spot) → ws ≡ make x ∷ rest → Says vs (print x) more → Kept Same print R (λ y us after. us ≡ make y ∷ after) x ws vs more
kept_word make print R x at_place made prints again same ws rest vs more is says = by_spots vs (subst (λ words. Says vs words more) prints says)
  where
    by_spots : (vs : List Spot) → Says vs ((make x).word ∷ []) more → Kept Same print R (λ y us after. us ≡ make y ∷ after) x ws vs more
    by_spots [] says = absurd says
    by_spots (v ∷ vs) says = record {
      value = at_place v.at;
      is = ap₂ (λ s l. s ∷ l) (spot_is v (make x).word says.0 ∙ sym (made v.at)) says.1;
      same = same v.at;
      again = again v.at;
      begins = ap first is ∙ ap (λ (u : Word). first (record { word = u; at = v.at } ∷ vs)) (sym says.0);
    }

fine_word : {A : Type 0} (make : A → Spot) (x : A) (ws rest : List Spot) → ws ≡ make x ∷ rest → Fine ws → IsSaid (make x).word × Fine rest
fine_word make x ws rest is fine = subst Fine is fine

pub keep_one : {F : Sort → Sort → Type 0} (m : Mark) → IsFine (word.Mark m) → Keeps F Same (λ (at : ℕ). word.Mark m ∷ []) Any (one m) (one m)
keep_one m used = record {
  to = λ at ws rest is vs more says next. kept_word (λ a. record { word = word.Mark m; at = a }) (λ a. word.Mark m ∷ []) Any at (λ a. a) (λ a. refl) refl (λ a. refl) (λ a. tt) ws rest vs more is says;
  fine = λ at ws rest is fine. let f = fine_word (λ a. record { word = word.Mark m; at = a }) at ws rest is fine in ((used, tt), f.1);
}

abbrev pub SameName : NameAt → NameAt → Type 0
SameName n m = plain_name n ≡ plain_name m

pub keep_name : {F : Sort → Sort → Type 0} → Keeps F Same name_words SameName name name
keep_name = record {
  to = λ n ws rest is vs more says next.
      kept_word (λ (m : NameAt). record { word = word.Name m.name; at = m.at }) name_words SameName n (λ a. record { name = n.name; at = a }) (λ a. refl) refl (λ a. refl) (λ a. refl) ws rest vs more is says;
  fine = λ n ws rest is fine. let f = fine_word (λ (m : NameAt). record { word = word.Name m.name; at = m.at }) n ws rest is fine in ((f.0, tt), f.1);
}

abbrev pub number_words : ℕ × ℕ → List Word
number_words n = word.Number n.0 ∷ []

abbrev pub SameNumber : ℕ × ℕ → ℕ × ℕ → Type 0
SameNumber n m = n.0 ≡ m.0

pub keep_number : {F : Sort → Sort → Type 0} → Keeps F Same number_words SameNumber number number
keep_number = record {
  to = λ n ws rest is vs more says next.
      kept_word (λ (m : ℕ × ℕ). record { word = word.Number m.0; at = m.1 }) number_words SameNumber n (λ a. (n.0, a)) (λ a. refl) refl (λ a. refl) (λ a. refl) ws rest vs more is says;
  fine = λ n ws rest is fine. let f = fine_word (λ (m : ℕ × ℕ). record { word = word.Number m.0; at = m.1 }) n ws rest is fine in ((f.0, tt), f.1);
}

abbrev pub literal_words : ℕ × ℕ × ℕ → List Word
literal_words n = word.Literal n.0 n.1 ∷ []

abbrev pub SameLiteral : ℕ × ℕ × ℕ → ℕ × ℕ × ℕ → Type 0
SameLiteral n m = (n.0 ≡ m.0) × (n.1 ≡ m.1)

pub keep_literal : {F : Sort → Sort → Type 0} → Keeps F Same literal_words SameLiteral literal literal
keep_literal = record {
  to = λ n ws rest is vs more says next.
      kept_word (λ (m : ℕ × ℕ × ℕ). record { word = word.Literal m.0 m.1; at = m.2 }) literal_words SameLiteral n (λ a. (n.0, n.1, a)) (λ a. refl) refl (λ a. refl) (λ a. (refl, refl)) ws rest vs more is says;
  fine = λ n ws rest is fine. let f = fine_word (λ (m : ℕ × ℕ × ℕ). record { word = word.Literal m.0 m.1; at = m.2 }) n ws rest is fine in ((f.0, tt), f.1);
}

abbrev pub Both : {A B : Type 0} → (A → A → Type 0) → (B → B → Type 0) → A × B → A × B → Type 0
Both Q R p q = Q p.0 q.0 × R p.1 q.1

abbrev pub both_words : {A B : Type 0} → (A → List Word) → (B → List Word) → A × B → List Word
both_words p q x = p x.0 ++ q x.1

pub keep_seq : {A B : Type 0} {F G H : Sort → Sort → Type 0} {p : A → List Word} {q : B → List Word} {Q : A → A → Type 0} {R : B → B → Type 0} {K J : Rel A} {L M : Rel B}
    → Keeps G H p Q K J → Keeps F G q R L M → Keeps F H (both_words p q) (Both Q R) (seq K L) (seq J M)
keep_seq {p = p} {q} k l = record {
  to = λ x ws rest is vs more says next.
      let cut = says_both vs (p x.0) (q x.1) more says in
      let b = l.to x.1 is.0 rest is.2 cut.0 more cut.2 next in
      let a = k.to x.0 ws is.0 is.1 vs cut.0 cut.1 b.begins in
      record { value = (a.value, b.value); is = (cut.0, a.is, b.is); same = (a.same, b.same); again = ap₂ (λ u v. u ++ v) a.again b.again; begins = a.begins };
  fine = λ x ws rest is fine.
      let a = k.fine x.0 ws is.0 is.1 fine in
      let b = l.fine x.1 is.0 rest is.2 a.1 in
      (fine_both (p x.0) (q x.1) a.0 b.0, b.1);
}

-- the second phrase depends on the first, which asks nothing of the next word
pub keep_seq_by : {A B : Type 0} {F G H : Sort → Sort → Type 0} {p : A → List Word} {q : B → List Word} {Q : A → A → Type 0} {R : B → B → Type 0} {K J : Rel A} {L M : A → Rel B}
    → Keeps Free H p Q K J → ((x y : A) → Q x y → Keeps F G q R (L x) (M y)) → ((x : A) → Q x x) → Keeps F H (both_words p q) (Both Q R) (seq_by K L) (seq_by J M)
keep_seq_by {p = p} {q} k l self = record {
  to = λ x ws rest is vs more says next.
      let cut = says_both vs (p x.0) (q x.1) more says in
      let a = k.to x.0 ws is.0 is.1 vs cut.0 cut.1 tt in
      let b = (l x.0 a.value a.same).to x.1 is.0 rest is.2 cut.0 more cut.2 next in
      record { value = (a.value, b.value); is = (cut.0, a.is, b.is); same = (a.same, b.same); again = ap₂ (λ u v. u ++ v) a.again b.again; begins = a.begins };
  fine = λ x ws rest is fine.
      let a = k.fine x.0 ws is.0 is.1 fine in
      let b = (l x.0 x.0 (self x.0)).fine x.1 is.0 rest is.2 a.1 in
      (fine_both (p x.0) (q x.1) a.0 b.0, b.1);
}

-- what a phrase means, where its words are those of the phrase
pub keep_meant : {A B : Type 0} {F G : Sort → Sort → Type 0} {p : A → List Word} {q : B → List Word} {Q : A → A → Type 0} {R : B → B → Type 0} {K J : Rel A} (f g : A → B)
    → ((x : A) (ws rest : List Spot) → K x ws rest → q (f x) ≡ p x) → ((x : A) (ws rest : List Spot) → J x ws rest → q (g x) ≡ p x) → ((x y : A) → Q x y → R (f x) (g y))
    → Keeps F G p Q K J → Keeps F G q R (meant f K) (meant g J)
keep_meant {p = p} {q} {R = R} f g here there same k = record {
  to = λ x ws rest is vs more says next.
      let words : q x ≡ p is.0 = ap q is.1 ∙ here is.0 ws rest is.2 in
      let a = k.to is.0 ws rest is.2 vs more (subst (λ u. Says vs u more) words says) next in
      record {
        value = g a.value;
        is = (a.value, refl, a.is);
        same = subst (λ u. R u (g a.value)) (sym is.1) (same is.0 a.value a.same);
        again = there a.value vs more a.is ∙ a.again ∙ sym words;
        begins = a.begins;
      };
  fine = λ x ws rest is fine.
      let words : q x ≡ p is.0 = ap q is.1 ∙ here is.0 ws rest is.2 in
      let a = k.fine is.0 ws rest is.2 fine in
      (subst FineWords (sym words) a.0, a.1);
}

pub keep_mean : {A B : Type 0} {F G : Sort → Sort → Type 0} {p : A → List Word} {q : B → List Word} {Q : A → A → Type 0} {R : B → B → Type 0} {K J : Rel A} (f : A → B)
    → ((x : A) → q (f x) ≡ p x) → ((x y : A) → Q x y → R (f x) (f y)) → Keeps F G p Q K J → Keeps F G q R (meant f K) (meant f J)
keep_mean f words same k = keep_meant f f (λ x ws rest is. words x) (λ x ws rest is. words x) same k

pub keep_first : {A : Type 0} {F : Sort → Sort → Type 0} {p : A → List Word} {R : A → A → Type 0} {row other : Sort → Rel A}
    → ((w : Sort) → Keeps F Same p R (row w) (other w)) → Keeps F Same p R (by_first row) (by_first other)
keep_first {other = other} k = record {
  to = λ x ws rest is vs more says next.
      let a = (k (first ws)).to x ws rest is vs more says next in
      record { value = a.value; is = subst (λ w. other w a.value vs more) a.begins a.is; same = a.same; again = a.again; begins = a.begins };
  fine = λ x ws rest is fine. (k (first ws)).fine x ws rest is fine;
}

pub keep_nothing : {A : Type 0} (p : A → List Word) (R : A → A → Type 0) (x : A) → p x ≡ [] → R x x → Keeps Same Same p R (nothing x) (nothing x)
keep_nothing p R x none r = record {
  to = λ u ws rest is vs more says next.
      let here : vs ≡ more = subst (λ l. Says vs l more) (ap p is.0 ∙ none) says in
      record {
        value = x;
        is = (refl, here);
        same = subst (λ v. R v x) (sym is.0) r;
        again = ap p (sym is.0);
        begins = ap first is.1 ∙ next ∙ sym (ap first here);
      };
  fine = λ u ws rest is fine. (subst FineWords (sym (ap p is.0 ∙ none)) tt, subst Fine is.1 fine);
}

pub keep_stop : (more : Sort → Bool) → Keeps Same Same (λ (u : Unit {0}). []) Any (stop more) (stop more)
keep_stop stops = record {
  to = λ u ws rest is vs more says next.
      let begins : first ws ≡ first vs = ap first is.0 ∙ next ∙ sym (ap first says) in
      record { value = tt; is = (says, subst (λ w. IsFalse (stops w)) begins is.1); same = tt; again = refl; begins = begins };
  fine = λ u ws rest is fine. (tt, subst Fine is.0 fine);
}

-- another relation of what is the same
pub keep_same : {A : Type 0} {F G : Sort → Sort → Type 0} {p : A → List Word} {R Q : A → A → Type 0} {K J : Rel A} → ((x y : A) → R x y → Q x y) → Keeps F G p R K J → Keeps F G p Q K J
keep_same same k = record {
  to = λ x ws rest is vs more says next. let a = k.to x ws rest is vs more says next in record { value = a.value; is = a.is; same = same x a.value a.same; again = a.again; begins = a.begins };
  fine = k.fine;
}

pub used_bool : (b : Bool) → IsFine (word.Mark (bool_mark b))
used_bool true = tt
used_bool false = tt

pub used_unary : (op : Op1) → IsFine (word.Mark (unary_mark op))
used_unary op1.Not = tt
used_unary op1.Invert = tt

pub used_binary : (op : Op2) → IsFine (word.Mark (binary_mark op))
used_binary op2.Imp = tt
used_binary op2.Or = tt
used_binary op2.Xor = tt
used_binary op2.And = tt
used_binary op2.Eq = tt
used_binary op2.Ne = tt
used_binary op2.Lt = tt
used_binary op2.Le = tt
used_binary op2.Gt = tt
used_binary op2.Ge = tt
used_binary op2.Add = tt
used_binary op2.Sub = tt

pub used_class : (c : Class) → IsFine (word.Mark (class_mark c))
used_class class.Event = tt
used_class class.Mem = tt
