-- How names are spelled in Verilog.
use Rattle.std.specs.Prelude.{ℕ, Bool, false, ◌==◌, ◌&&◌, ◌||◌, nat_le, List, ◌∷◌, [], ◌++◌, codes, if◌then◌else◌}
use Rattle.std.specs.List.{flat_map}
use Rattle.std.specs.Fmt.{digits}

-- ASCII letters, digits and `_`
abbrev pub is_plain : ℕ → Bool
is_plain c = ((nat_le 48 c && nat_le c 57) || (nat_le 65 c && nat_le c 90)) || ((nat_le 97 c && nat_le c 122) || (c == 95))

-- a plain character stands for itself, any other is `$`, its code in hexadecimal and `$`
abbrev pub character_text : ℕ → List ℕ
character_text c = (if is_plain c then c ∷ [] else codes "$" ++ (digits 16 false c ++ codes "$"))

abbrev pub name_text : List ℕ → List ℕ
name_text name = flat_map character_text name
