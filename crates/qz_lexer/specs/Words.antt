-- What names, reserved words, numbers, literals and signs are. Each is said of the characters of the
-- token and of what follows it, since a run counts only as a whole.
use Rattle.std.specs.Prelude.{◌≡◌, ℕ, ◌≤◌, Bool, false, ◌&&◌, ◌||◌, List, [], ◌∷◌, ◌++◌, length, IsTrue, ◌==◌, codes}
use Rattle.std.specs.Char.{is_ascii_digit}
use Rattle.std.specs.List.{list_any}
use Rattle.std.specs.Str.{bytes_eq}
use Rattle.unicode_ident.specs.Ident.{is_xid_start, is_xid_continue}
use Rattle.qz_lexer.specs.Runs.{IsRun}

-- a character with XID_Start and all those with XID_Continue after it, at most 64 together
abbrev pub IsWord : List ℕ → List ℕ → Type 0
IsWord [] rest = ⊥
IsWord (c ∷ cs) rest = IsTrue (is_xid_start c) × IsRun is_xid_continue cs rest × (length (c ∷ cs) ≤ 64)

-- the words of the language, and those that are kept for later
unfoldable pub reserved_words : List (List ℕ)
reserved_words =
    codes "module" ∷ codes "event" ∷ codes "mem" ∷ codes "bool" ∷ codes "bv" ∷ codes "true" ∷ codes "false"
    ∷ codes "nothing" ∷ codes "pause" ∷ codes "halt" ∷ codes "await" ∷ codes "immediate" ∷ codes "next"
    ∷ codes "emit" ∷ codes "if" ∷ codes "else" ∷ codes "do" ∷ codes "while" ∷ codes "loop" ∷ codes "every"
    ∷ codes "weak" ∷ codes "abort" ∷ codes "suspend" ∷ codes "when"
    ∷ codes "assert" ∷ codes "assume" ∷ codes "always" ∷ codes "choose" ∷ codes "during" ∷ codes "final"
    ∷ codes "sustain" ∷ []

abbrev pub is_reserved : List ℕ → Bool
is_reserved word = list_any (λ reserved. bytes_eq reserved word) reserved_words

-- a run of 1 to 20 decimal digits
abbrev pub IsNumber : List ℕ → List ℕ → Type 0
IsNumber digits rest = IsRun is_ascii_digit digits rest × (1 ≤ length digits) × (length digits ≤ 20)

-- 'd and a number
pub record IsValue (text rest : List ℕ) : Type 0 where
  pub digits : List ℕ
  pub spelled : text ≡ codes "'d" ++ digits
  pub number : IsNumber digits rest

-- a number, 'd and a number
pub record IsLiteral (text rest : List ℕ) : Type 0 where
  pub width : List ℕ
  pub value : List ℕ
  pub spelled : text ≡ width ++ value
  pub is_width : IsNumber width (value ++ rest)
  pub is_value : IsValue value rest

unfoldable pub is_single_sign : ℕ → Bool
is_single_sign c = list_any (λ sign. sign == c) (codes "(){}[],;:?!~@+-&|^=<>")

-- == != <= >= -> ||
unfoldable pub is_double_sign : ℕ → ℕ → Bool
is_double_sign c d =
    (list_any (λ sign. sign == c) (codes "=!<>") && (d == 61)) || ((c == 45) && (d == 62)) || ((c == 124) && (d == 124))

abbrev pub is_sign : List ℕ → Bool
is_sign [] = false
is_sign (c ∷ []) = is_single_sign c
is_sign (c ∷ d ∷ []) = is_double_sign c d
is_sign (c ∷ d ∷ e ∷ cs) = false
