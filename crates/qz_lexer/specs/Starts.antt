-- What the parts of the lexer tell one another: what a first character may begin, and what was found at the
-- front of a text. No character begins pieces of two sorts.
use Rattle.std.specs.Prelude.{◌≡◌, ℕ, List, [], ◌∷◌, Option, Some, None, if◌then◌else◌, ◌==◌}
use Rattle.std.specs.Char.{is_ascii_digit}
use Rattle.std.specs.Str.{chars}
use Rattle.unicode_ident.specs.Ident.{is_xid_start}
use Rattle.qz_lexer.specs.declared.starts.Start.{Start}
use Rattle.qz_lexer.specs.declared.starts.Start.TheVariants.{Space, Digit, Slash, Letter, Other}
use Rattle.qz_lexer.specs.declared.pieces.Front.{Front}
use Rattle.qz_lexer.specs.Blanks.{is_space}
use Rattle.qz_lexer.specs.Pieces.{BeginsWith, NoneBegins}

abbrev pub start_of : ℕ → Start
start_of c =
    if is_space c then Space
    else (if is_ascii_digit c then Digit
    else (if c == 47 then Slash
    else (if is_xid_start c then Letter
    else Other)))

-- the text has a first character, which begins what the sort says
abbrev pub StartsWith : Start → List ℕ → Type 0
StartsWith start [] = ⊥
StartsWith start (c ∷ cs) = start_of c ≡ start

-- what was found at the front of the text: the kind of the longest piece that begins there, and the characters after it
abbrev pub Finds : List ℕ → Option Front → Type 0
Finds text None = NoneBegins text
Finds text (Some front) = BeginsWith text front.kind (chars front.after.now)
