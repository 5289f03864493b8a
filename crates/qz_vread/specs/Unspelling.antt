-- How the bytes of a spelled name are read, one by one.
use Rattle.std.specs.Prelude.{◌≡◌, ℕ, Bool, true, false, ◌+◌, ◌*◌, ◌^◌, ◌==◌, ◌&&◌, nat_lt, List, [], ◌∷◌, ◌++◌, Option, Some, None, if◌then◌else◌}
use Rattle.std.specs.Char.{digit_value, is_digit}
use Rattle.std.specs.Str.{all_scalars}

-- the characters so far, and within `$` the number that the digits so far write
pub record Unspelled : Type 0 where
  pub characters : List ℕ
  pub code : Option ℕ

-- the end of a character's code
abbrev pub with_character : List ℕ → ℕ → Option Unspelled
with_character characters code =
    (if all_scalars (code ∷ []) then Some (record { characters = characters ++ code ∷ []; code = None }) else None)

-- one digit more of a character's code, which has not too many already
abbrev pub with_digit : List ℕ → ℕ → ℕ → Option Unspelled
with_digit characters code byte =
    (if is_digit byte 16 && nat_lt code (2 ^ 24)
    then Some (record { characters = characters; code = Some (code * 16 + digit_value byte) })
    else None)

-- one byte more
abbrev pub with_byte : List ℕ → Option ℕ → ℕ → Option Unspelled
with_byte characters None byte =
    (if byte == 36
    then Some (record { characters = characters; code = Some 0 })
    else Some (record { characters = characters ++ byte ∷ []; code = None }))
with_byte characters (Some code) byte =
    (if byte == 36 then with_character characters code else with_digit characters code byte)

-- what some bytes more make of what there is, if there is something
abbrev pub with_bytes : List ℕ → Option Unspelled → Option Unspelled
with_bytes [] so_far = so_far
with_bytes (byte ∷ bytes) None = None
with_bytes (byte ∷ bytes) (Some u) = with_bytes bytes (with_byte u.characters u.code byte)

abbrev pub closed : Option ℕ → List ℕ → Option (List ℕ)
closed None characters = Some characters
closed (Some code) characters = None

-- the characters, if no code is left open
abbrev pub whole : Option Unspelled → Option (List ℕ)
whole None = None
whole (Some u) = closed u.code u.characters

-- the characters that the bytes stand for
abbrev pub unspelled : List ℕ → Option (List ℕ)
unspelled bytes = whole (with_bytes bytes (Some (record { characters = []; code = None })))

-- whether what one byte more makes was taken
abbrev pub IsTaken : Option Unspelled → Unspelled → Bool → Type 0
IsTaken wanted new true = wanted ≡ Some new
IsTaken wanted new false = wanted ≡ None
