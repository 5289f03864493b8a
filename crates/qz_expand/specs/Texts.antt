-- The texts by which a module's places, locals and loops are named. They are bytes.
use Rattle.std.specs.Prelude.{ℕ, ◌+◌, Bool, ◌||◌, List, [], ◌∷◌, ◌++◌, map, codes, encode_utf8_all, Option, Some, None, if◌then◌else◌}
use Rattle.std.specs.Fmt.{decimal}
use Rattle.std.specs.Str.{bytes_eq}
use Rattle.std.specs.List.{range_with_len}
use Rattle.qz_syntax.specs.declared.declarations.Decl.{Decl}
use Rattle.qz_syntax.specs.declared.modules.Module.{Module}
use Rattle.qz_syntax.specs.declared.modules.Names.{Names}
use Rattle.qz_syntax.specs.declared.names.Name.{Name}

-- a number where there is no name, or after a name that more than one thing may have
abbrev pub numbered : ℕ → List ℕ
numbered number = codes "#" ++ decimal number

-- the words for a program that hasn't started and for one that has ended
abbrev pub is_taken : List ℕ → Bool
is_taken label = bytes_eq label (codes "start") || bytes_eq label (codes "end")

-- a label, or the place's number where the label would read as no place
abbrev pub label_or_number : List ℕ → ℕ → List ℕ
label_or_number label number = if is_taken label then numbered number else label

-- a place: its label where that is neither `start` nor `end`, and otherwise `#k` with its number
abbrev pub place_text : ℕ → Option Name → List ℕ
place_text number None = numbered number
place_text number (Some label) = label_or_number (encode_utf8_all label) number

-- a local: its name, `#` and its number, as `x#0`
abbrev pub local_text : ℕ → Decl → List ℕ
local_text number decl = encode_utf8_all decl.name ++ numbered number

-- the texts of some things that are numbered from here on
abbrev pub texts_from : {A : Type 0} → (ℕ → A → List ℕ) → ℕ → List A → List (List ℕ)
texts_from text number [] = []
texts_from text number (one ∷ others) = text number one ∷ texts_from text (number + 1) others

-- the texts of a module's places, locals and loops; a loop's is its number
abbrev pub names_of : Module → Names
names_of m = record {
  places = texts_from place_text 0 m.labels;
  locals = texts_from local_text 0 m.decls;
  loops = map decimal (range_with_len 0 m.loops);
}
