-- Which texts are names of the language.
use Rattle.std.specs.Prelude.{ℕ, Bool, false, ◌&&◌, not, nat_le, List, [], ◌∷◌, length, codes, IsTrue}
use Rattle.std.specs.List.{list_all, list_any}
use Rattle.std.specs.Str.{bytes_eq}
use Rattle.unicode_ident.specs.Ident.{is_xid_start, is_xid_continue}

-- the words that are no names, of which the last seven have no use
unfoldable pub reserved_words : List (List ℕ)
reserved_words =
    codes "module" ∷ codes "event" ∷ codes "mem" ∷ codes "bool" ∷ codes "bv" ∷ codes "true" ∷ codes "false" ∷ codes "nothing"
    ∷ codes "pause" ∷ codes "halt" ∷ codes "await" ∷ codes "immediate" ∷ codes "next" ∷ codes "emit" ∷ codes "if" ∷ codes "else"
    ∷ codes "do" ∷ codes "while" ∷ codes "loop" ∷ codes "every" ∷ codes "weak" ∷ codes "abort" ∷ codes "suspend" ∷ codes "when"
    ∷ codes "assert" ∷ codes "assume" ∷ codes "always" ∷ codes "choose" ∷ codes "during" ∷ codes "final" ∷ codes "sustain" ∷ []

-- whether these characters are a reserved word
abbrev pub is_reserved : List ℕ → Bool
is_reserved characters = list_any (λ word. bytes_eq word characters) reserved_words

-- a character that starts a name, and then characters that continue one
abbrev pub is_spelled : List ℕ → Bool
is_spelled [] = false
is_spelled (first ∷ rest) = is_xid_start first && list_all (λ c. is_xid_continue c) rest

-- whether these characters are a name
abbrev pub is_name : List ℕ → Bool
is_name characters = is_spelled characters && (nat_le (length characters) 64 && not (is_reserved characters))

-- these characters are a name
abbrev pub IsName : List ℕ → Type 0
IsName characters = IsTrue (is_name characters)
