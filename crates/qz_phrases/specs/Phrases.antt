-- How phrases are put together. A phrase stands at the front of words, and other words follow it.
use Rattle.std.specs.Prelude.{ℕ, ◌≡◌, Bool, List, [], ◌∷◌, IsFalse}
use Rattle.qz_phrases.specs.declared.words.Word.TheVariants as word
use Rattle.qz_phrases.specs.declared.words.Sort.{Sort}
use Rattle.qz_phrases.specs.declared.words.Spot.{Spot}
use Rattle.qz_phrases.specs.declared.words.Mark.{Mark}
use Rattle.qz_syntax.specs.declared.file_expressions.NameAt.{NameAt}
use Rattle.qz_phrases.specs.Words.{first}

-- a value is spelled by the front of the first words, and the second words follow
abbrev pub Rel : Type 0 → Type 1
Rel A = A → List Spot → List Spot → Type 0

-- the phrases with at most so many levels
abbrev pub Kind : Type 0 → Type 1
Kind A = ℕ → Rel A

-- no phrase
abbrev pub none : {A : Type 0} → Rel A
none x front rest = ⊥

-- one word
abbrev pub token : {A : Type 0} → (A → Spot) → Rel A
token make x words rest = words ≡ make x ∷ rest

-- a mark, and its offset
abbrev pub one : Mark → Rel ℕ
one m = token (λ at. record { word = word.Mark m; at = at })

-- a name with its offset
abbrev pub name : Rel NameAt
name = token (λ n. record { word = word.Name n.name; at = n.at })

-- a number, and its offset
abbrev pub number : Rel (ℕ × ℕ)
number = token (λ n. record { word = word.Number n.0; at = n.1 })

-- a literal: its width, its value and its offset
abbrev pub literal : Rel (ℕ × ℕ × ℕ)
literal = token (λ n. record { word = word.Literal n.0 n.1; at = n.2 })

-- one phrase and then another
abbrev pub seq : {A B : Type 0} → Rel A → Rel B → Rel (A × B)
seq K L p words rest = (between : List Spot) × K p.0 words between × L p.1 between rest

-- one phrase and then another that depends on it
abbrev pub seq_by : {A B : Type 0} → Rel A → (A → Rel B) → Rel (A × B)
seq_by K L p words rest = (between : List Spot) × K p.0 words between × L p.0 p.1 between rest

-- what a phrase means
abbrev pub meant : {A B : Type 0} → (A → B) → Rel A → Rel B
meant f K y words rest = (x : _) × (y ≡ f x) × K x words rest

-- a phrase of the kind that the next word tells
abbrev pub by_first : {A : Type 0} → (Sort → Rel A) → Rel A
by_first row x words rest = row (first words) x words rest

-- no words, where the next one isn't such
abbrev pub stop : (Sort → Bool) → Rel (Unit {0})
stop more x words rest = (words ≡ rest) × IsFalse (more (first words))

-- no words
abbrev pub nothing : {A : Type 0} → A → Rel A
nothing value x words rest = (x ≡ value) × (words ≡ rest)

-- phrases one after the other, each as what came before it tells, and then an end
abbrev pub many : {S A B : Type 0} → (S → Rel A) → (A → S) → (S → Rel B) → S → List A → B → List Spot → List Spot → Type 0
many item next end state [] y words rest = end state y words rest
many item next end state (x ∷ xs) y words rest = (between : List Spot) × item state x words between × many item next end (next x) xs y between rest

-- phrases of one kind up to an end
abbrev pub several : {A B : Type 0} → Rel A → Rel B → Rel (List A × B)
several item end p words rest = many (λ (s : Unit {0}). item) (λ _. tt) (λ _. end) tt p.0 p.1 words rest
