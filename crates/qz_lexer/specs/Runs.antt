-- What a text begins with: a front of it by a description, and a run of characters. A character is its code.
use Rattle.std.specs.Prelude.{◌≡◌, ℕ, Bool, not, List, [], ◌∷◌, ◌++◌, length, IsTrue, IsFalse, ◌==◌}
use Rattle.std.specs.List.{list_all}
use Rattle.std.specs.Char.{is_ascii_digit}
use Rattle.unicode_ident.specs.Ident.{is_xid_continue}
use Rattle.qz_lexer.specs.declared.runs.Run.{Run}
use Rattle.qz_lexer.specs.declared.runs.Run.TheVariants.{Digits, Word, Line}

-- the text is a front as described, and then the rest
pub record Takes (Is : List ℕ → List ℕ → Type 0) (text rest : List ℕ) : Type 0 where
  pub front : List ℕ
  pub split : text ≡ front ++ rest
  pub is : Is front rest

-- no front of the text is as described
abbrev pub Lacks : (List ℕ → List ℕ → Type 0) → List ℕ → Type 0
Lacks Is text = (front rest : List ℕ) → front ++ rest ≡ text → Is front rest → ⊥

-- the first character, if there is one, doesn't pass
abbrev pub Stops : (ℕ → Bool) → List ℕ → Type 0
Stops passes [] = Unit {0}
Stops passes (c ∷ cs) = IsFalse (passes c)

-- a whole run: each character of it passes, and what follows doesn't go on with one that does
pub record IsRun (passes : ℕ → Bool) (run rest : List ℕ) : Type 0 where
  pub each : IsTrue (list_all passes run)
  pub stops : Stops passes rest

-- the text is a whole run of n characters, perhaps of none, and then the rest
pub record Skips (passes : ℕ → Bool) (text : List ℕ) (n : ℕ) (rest : List ℕ) : Type 0 where
  pub run : List ℕ
  pub split : text ≡ run ++ rest
  pub whole : IsRun passes run rest
  pub count : length run ≡ n

-- a line feed ends a line, and is no part of it
abbrev pub is_of_line : ℕ → Bool
is_of_line c = not (c == 10)

-- the characters of each sort of run
abbrev pub accepts : Run → ℕ → Bool
accepts Digits c = is_ascii_digit c
accepts Word c = is_xid_continue c
accepts Line c = is_of_line c
