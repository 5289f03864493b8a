-- Parts of bytes: what stands in front, at the end, and before and after a byte.
use Rattle.std.specs.Prelude.{◌≡◌, ℕ, Bool, true, not, ◌==◌, ◌||◌, List, ◌∷◌, ◌++◌}
use Rattle.std.specs.List.{list_all}
use Rattle.qz_vtext.specs.Names.{is_plain}

-- a byte of a spelled name or of a number
abbrev pub is_word : ℕ → Bool
is_word byte = is_plain byte || (byte == 36)

-- whether none of the bytes is this one
abbrev pub lacks : ℕ → List ℕ → Bool
lacks mark bytes = list_all (λ byte. not (byte == mark)) bytes

-- the bytes before the first such byte, and those after it
pub record IsSplit (mark : ℕ) (bytes before after : List ℕ) : Type 0 where
  pub whole : bytes ≡ before ++ mark ∷ after
  pub first : lacks mark before ≡ true

-- the bytes don't begin with the word
abbrev pub NoFront : List ℕ → List ℕ → Type 0
NoFront bytes word = (rest : List ℕ) → bytes ≡ word ++ rest → ⊥

-- the bytes don't end with the word
abbrev pub NoEnd : List ℕ → List ℕ → Type 0
NoEnd bytes word = (front : List ℕ) → bytes ≡ front ++ word → ⊥
