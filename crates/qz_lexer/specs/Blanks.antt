-- What stands between tokens: white space and comments, said of their characters and of what follows.
use Rattle.std.specs.Prelude.{◌≡◌, ℕ, ◌≤◌, Bool, ◌||◌, List, [], ◌∷◌, ◌++◌, length, IsTrue, ◌==◌, codes}
use Rattle.qz_lexer.specs.Runs.{IsRun, is_of_line}

-- space, tab, line feed, carriage return
abbrev pub is_space : ℕ → Bool
is_space c = (c == 32) || (c == 9) || (c == 10) || (c == 13)

-- one character of white space
abbrev pub IsSpace : List ℕ → Type 0
IsSpace [] = ⊥
IsSpace (c ∷ []) = IsTrue (is_space c)
IsSpace (c ∷ d ∷ cs) = ⊥

-- from // up to the next line feed, or to the end of the text
pub record IsLineComment (text rest : List ℕ) : Type 0 where
  pub body : List ℕ
  pub spelled : text ≡ codes "//" ++ body
  pub whole : IsRun is_of_line body rest

-- from /* to the next */, which begins after the /*
pub record IsBlockComment (text rest : List ℕ) : Type 0 where
  pub body : List ℕ
  pub spelled : text ≡ codes "/*" ++ (body ++ codes "*/")
  pub next : (before after : List ℕ) → body ++ (codes "*/" ++ rest) ≡ before ++ (codes "*/" ++ after) → length body ≤ length before

pub data IsComment (text rest : List ℕ) : Type 0 where
  line : IsLineComment text rest → IsComment text rest
  block : IsBlockComment text rest → IsComment text rest

pub data IsBlank (text rest : List ℕ) : Type 0 where
  space : IsSpace text → IsBlank text rest
  comment : IsComment text rest → IsBlank text rest
