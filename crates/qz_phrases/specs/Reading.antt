-- What reading from a place among words gives, whatever words come later.
use Rattle.std.specs.Prelude.{ℕ, ◌≡◌, ◌≢◌, ◌+◌, ◌≤◌, List, [], ◌∷◌, ◌++◌, ◌⊎◌, take, drop, Result, Ok, Err, IsTrue}
use Rattle.qz_phrases.specs.declared.words.Spot.{Spot}
use Rattle.qz_phrases.specs.declared.cursor.Cursor.{Cursor}
use Rattle.qz_phrases.specs.declared.cursor.Fault.{Fault}
use Rattle.qz_phrases.specs.declared.cursor.Fault.TheVariants.{Parse, Deep, Memory}
use Rattle.qz_phrases.specs.Words.{first, closes}
use Rattle.qz_phrases.specs.Phrases.{Kind}

-- the words from this place on
abbrev pub upcoming : Cursor → List Spot
upcoming cursor = drop cursor.read cursor.words.now

-- other words are the same up to and with the next one of this cursor
pub record Agrees (cursor : Cursor) (others : List Spot) : Type 0 where
  pub same : take (cursor.read + 1) others ≡ take (cursor.read + 1) cursor.words.now

-- what the cursor does in reading
pub record Moves (old new : Cursor) : Type 0 where
  pub words : new.words.now ≡ old.words.now
  pub onward : old.read ≤ new.read

-- words that may stand in place of the others after a phrase: they go on no phrase, or begin as the others do
abbrev pub May : List Spot → List Spot → Type 0
May rest words = IsTrue (closes (first words)) ⊎ (first words ≡ first rest)

-- this phrase was read, and whatever words come later, it is the one that is there
pub record ReadsIt {A : Type 0} (K : Kind A) (room : ℕ) (old new : Cursor) (x : A) : Type 0 where
  pub moves : Moves old new
  pub front : List Spot
  pub read : upcoming old ≡ front ++ upcoming new
  pub stands : (levels : ℕ) → room ≤ levels → (words : List Spot) → May (upcoming new) words → K levels x (front ++ words) words
  pub only : (others : List Spot) → Agrees new others → (levels : ℕ) (y : A) (rest : List Spot) → K levels y (drop old.read others) rest
      → (y ≡ x) × (rest ≡ drop new.read others)

-- and at least one word was read
pub record ReadsSome {A : Type 0} (K : Kind A) (room : ℕ) (old new : Cursor) (x : A) : Type 0 where
  pub it : ReadsIt K room old new x
  pub some : it.front ≢ []

-- with these words begins a phrase of at most this many levels, or more
pub record Begins {A : Type 0} (K : Kind A) (room : ℕ) (front : List Spot) : Type 0 where
  pub more : List Spot
  pub phrase : A
  pub stands : (levels : ℕ) → room ≤ levels → (words : List Spot) → IsTrue (closes (first words)) → K levels phrase (front ++ (more ++ words)) words

-- the numbers of levels that a fault rules out
abbrev pub Rules : Fault → ℕ → ℕ → Type 0
Rules Parse room levels = Unit {0}
Rules Deep room levels = levels ≤ room
Rules Memory room levels = ⊥

-- no phrase is there whatever words come later, or after Deep none with at most this many levels; but what was
-- read begins one, unless nothing was; and after Deep the next word goes on one with more levels
pub record Fails {A : Type 0} (K : Kind A) (room : ℕ) (old new : Cursor) (why : Fault) : Type 0 where
  pub moves : Moves old new
  pub front : List Spot
  pub read : upcoming old ≡ front ++ upcoming new
  pub none : (others : List Spot) → Agrees new others → (levels : ℕ) → Rules why room levels → (y : A) (rest : List Spot) → K levels y (drop old.read others) rest → ⊥
  pub begins : Begins K room front ⊎ (front ≡ [])
  pub deeper : why ≡ Deep → (spot : Spot) × (more : List Spot) × (upcoming new ≡ spot ∷ more) × (levels : ℕ) × Begins K levels (front ++ spot ∷ [])

-- what a reader gives that reads at least one word
abbrev pub Reads : {A : Type 0} → Kind A → ℕ → Cursor → Cursor → Result A Fault → Type 0
Reads K room old new (Ok x) = ReadsSome K room old new x
Reads K room old new (Err Parse) = Fails K room old new Parse
Reads K room old new (Err Deep) = Fails K room old new Deep
Reads K room old new (Err Memory) = Unit {0}

-- what a reader gives that may read nothing
abbrev pub Skims : {A : Type 0} → Kind A → ℕ → Cursor → Cursor → Result A Fault → Type 0
Skims K room old new (Ok x) = ReadsIt K room old new x
Skims K room old new (Err Parse) = Fails K room old new Parse
Skims K room old new (Err Deep) = Fails K room old new Deep
Skims K room old new (Err Memory) = Unit {0}
