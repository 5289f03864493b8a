-- Phrases one after the other, and the words that are printed of them.
use Rattle.std.proofs.Common.{◌≡◌, List, [], ◌∷◌, ◌++◌, map, sym, refl, ap, ap₂, ◌∙◌, append_assoc}
use Rattle.std.specs.List.{flat_map}
use Rattle.qz_phrases.specs.declared.words.Word.{Word}
use Rattle.qz_phrases.specs.declared.words.Sort.{Sort}
use Rattle.qz_phrases.specs.declared.words.Spot.{Spot}
use Rattle.qz_phrases.specs.Words.{first}
use Rattle.qz_phrases.specs.Phrases.{Rel, many, several}
use Rattle.printer_laws.proofs.Keeping.{Fine, FineWords, fine_both, Says, says_both, Free, Kept, Keeps}

-- the words of phrases, and of what ends them
abbrev pub prints : {A B : Type 0} → (A → List Word) → (B → List Word) → List A → B → List Word
prints p q [] y = q y
prints p q (x ∷ xs) y = p x ++ prints p q xs y

pub prints_are : {A B : Type 0} (p : A → List Word) (q : B → List Word) (xs : List A) (y : B) → prints p q xs y ≡ flat_map p xs ++ q y
prints_are p q [] y = refl
prints_are p q (x ∷ xs) y = ap (λ l. p x ++ l) (prints_are p q xs y) ∙ sym (append_assoc (p x) (flat_map p xs) (q y))

abbrev pub list_words : {A B : Type 0} → (A → List Word) → (B → List Word) → List A × B → List Word
list_words p q x = prints p q x.0 x.1

-- each is the same as the one of its place, by a part of it
abbrev pub SameEach : {A P B : Type 0} → (A → P) → (B → B → Type 0) → List A × B → List A × B → Type 0
SameEach part R x y = (map part x.0 ≡ map part y.0) × R x.1 y.1

module _ {S A P B : Type 0} {F G : Sort → Sort → Type 0} {p : A → List Word} {q : B → List Word} (L : S → S → Type 0) (part : A → P) {R : B → B → Type 0}
    (item : S → Rel A) (next : A → S) (end : S → Rel B)
    (items : (s t : S) → L s t → Keeps Free G p (λ x y. part x ≡ part y) (item s) (item t)) (steps : (x y : A) → part x ≡ part y → L (next x) (next y))
    (self : (s : S) → L s s) (ends : (s t : S) → L s t → Keeps F G q R (end s) (end t)) where
  kept_many : (s t : S) → L s t → (xs : List A) (y : B) (ws rest : List Spot) → many item next end s xs y ws rest → (vs more : List Spot) → Says vs (prints p q xs y) more → F (first rest) (first more)
      → Kept G (list_words p q) (SameEach part R) (λ x. many item next end t x.0 x.1) (xs, y) ws vs more
  kept_many s t l [] y ws rest is vs more says follows =
      let a = (ends s t l).to y ws rest is vs more says follows in
      record { value = ([], a.value); is = a.is; same = (refl, a.same); again = a.again; begins = a.begins }
  kept_many s t l (x ∷ xs) y ws rest is vs more says follows =
      let cut = says_both vs (p x) (prints p q xs y) more says in
      let a = (items s t l).to x ws is.0 is.1 vs cut.0 cut.1 tt in
      let b = kept_many (next x) (next a.value) (steps x a.value a.same) xs y is.0 rest is.2 cut.0 more cut.2 follows in
      record {
        value = (a.value ∷ b.value.0, b.value.1);
        is = (cut.0, a.is, b.is);
        same = (ap₂ (λ u us. u ∷ us) a.same b.same.0, b.same.1);
        again = ap₂ (λ u v. u ++ v) a.again b.again;
        begins = a.begins;
      }

  fine_many : (s : S) (xs : List A) (y : B) (ws rest : List Spot) → many item next end s xs y ws rest → Fine ws → FineWords (prints p q xs y) × Fine rest
  fine_many s [] y ws rest is fine = (ends s s (self s)).fine y ws rest is fine
  fine_many s (x ∷ xs) y ws rest is fine =
      let a = (items s s (self s)).fine x ws is.0 is.1 fine in
      let b = fine_many (next x) xs y is.0 rest is.2 a.1 in
      (fine_both (p x) (prints p q xs y) a.0 b.0, b.1)

  -- a list from a state on
  pub keep_list : (s t : S) → L s t → Keeps F G (list_words p q) (SameEach part R) (λ x. many item next end s x.0 x.1) (λ x. many item next end t x.0 x.1)
  keep_list s t l = record {
    to = λ x ws rest is vs more says follows. kept_many s t l x.0 x.1 ws rest is vs more says follows;
    fine = λ x ws rest is fine. fine_many s x.0 x.1 ws rest is fine;
  }

module _ {A P B : Type 0} {F G : Sort → Sort → Type 0} {p : A → List Word} {q : B → List Word} (part : A → P) {R : B → B → Type 0} (item : Rel A) (end : Rel B)
    (items : Keeps G G p (λ x y. part x ≡ part y) item item) (ends : Keeps F G q R end end) where
  abbrev row : List A × B → List Spot → List Spot → Type 0
  row = several item end

  kept_several : (xs : List A) (y : B) (ws rest : List Spot) → row (xs, y) ws rest → (vs more : List Spot) → Says vs (prints p q xs y) more → F (first rest) (first more)
      → Kept G (list_words p q) (SameEach part R) row (xs, y) ws vs more
  kept_several [] y ws rest is vs more says follows =
      let a = ends.to y ws rest is vs more says follows in
      record { value = ([], a.value); is = a.is; same = (refl, a.same); again = a.again; begins = a.begins }
  kept_several (x ∷ xs) y ws rest is vs more says follows =
      let cut = says_both vs (p x) (prints p q xs y) more says in
      let b = kept_several xs y is.0 rest is.2 cut.0 more cut.2 follows in
      let a = items.to x ws is.0 is.1 vs cut.0 cut.1 b.begins in
      record {
        value = (a.value ∷ b.value.0, b.value.1);
        is = (cut.0, a.is, b.is);
        same = (ap₂ (λ u us. u ∷ us) a.same b.same.0, b.same.1);
        again = ap₂ (λ u v. u ++ v) a.again b.again;
        begins = a.begins;
      }

  fine_several : (xs : List A) (y : B) (ws rest : List Spot) → row (xs, y) ws rest → Fine ws → FineWords (prints p q xs y) × Fine rest
  fine_several [] y ws rest is fine = ends.fine y ws rest is fine
  fine_several (x ∷ xs) y ws rest is fine =
      let a = items.fine x ws is.0 is.1 fine in
      let b = fine_several xs y is.0 rest is.2 a.1 in
      (fine_both (p x) (prints p q xs y) a.0 b.0, b.1)

  pub keep_several : Keeps F G (list_words p q) (SameEach part R) (several item end) (several item end)
  keep_several = record {
    to = λ x ws rest is vs more says follows. kept_several x.0 x.1 ws rest is vs more says follows;
    fine = λ x ws rest is fine. fine_several x.0 x.1 ws rest is fine;
  }
