-- The texts of the marks, which are the signs and the reserved words.
use Rattle.std.specs.Prelude.{ℕ, List, [], ◌∷◌, if◌then◌else◌, codes}
use denote.Ref.{Bor}
use Rattle.std.specs.Str.{bytes_eq}
use Rattle.qz_phrases.specs.declared.words.Mark.{Mark}
use Rattle.qz_phrases.specs.declared.words.Mark.TheVariants as mark

-- the reserved words that have a use
unfoldable pub keywords : List (List ℕ × Mark)
keywords =
    (codes "module", mark.Module) ∷ (codes "event", mark.Event) ∷ (codes "mem", mark.Mem) ∷ (codes "bool", mark.Bool) ∷ (codes "bv", mark.Bv)
    ∷ (codes "true", mark.True) ∷ (codes "false", mark.False) ∷ (codes "nothing", mark.Nothing) ∷ (codes "pause", mark.Pause)
    ∷ (codes "halt", mark.Halt) ∷ (codes "await", mark.Await) ∷ (codes "immediate", mark.Immediate) ∷ (codes "next", mark.Next)
    ∷ (codes "emit", mark.Emit) ∷ (codes "if", mark.If) ∷ (codes "else", mark.Else) ∷ (codes "do", mark.Do) ∷ (codes "while", mark.While)
    ∷ (codes "loop", mark.Loop) ∷ (codes "every", mark.Every) ∷ (codes "weak", mark.Weak) ∷ (codes "abort", mark.Abort)
    ∷ (codes "suspend", mark.Suspend) ∷ (codes "when", mark.When) ∷ []

unfoldable pub signs : List (List ℕ × Mark)
signs =
    (codes "(", mark.OpenParen) ∷ (codes ")", mark.CloseParen) ∷ (codes "{", mark.OpenBrace) ∷ (codes "}", mark.CloseBrace)
    ∷ (codes "[", mark.OpenBracket) ∷ (codes "]", mark.CloseBracket) ∷ (codes ",", mark.Comma) ∷ (codes ";", mark.Semicolon) ∷ (codes ":", mark.Colon)
    ∷ (codes "?", mark.Question) ∷ (codes "!", mark.Exclamation) ∷ (codes "~", mark.Tilde) ∷ (codes "@", mark.At) ∷ (codes "+", mark.Plus)
    ∷ (codes "-", mark.Minus) ∷ (codes "&", mark.Ampersand) ∷ (codes "|", mark.Bar) ∷ (codes "^", mark.Caret) ∷ (codes "=", mark.Equals)
    ∷ (codes "==", mark.EqualEqual) ∷ (codes "!=", mark.NotEqual) ∷ (codes "<", mark.Less) ∷ (codes "<=", mark.LessEqual) ∷ (codes ">", mark.Greater)
    ∷ (codes ">=", mark.GreaterEqual) ∷ (codes "->", mark.Arrow) ∷ (codes "||", mark.BarBar) ∷ []

-- the mark that stands beside this text, and `Reserved` where none does
abbrev pub mark_in : List (List ℕ × Mark) → List ℕ → Mark
mark_in [] text = mark.Reserved
mark_in (row ∷ rows) text = if bytes_eq row.0 text then row.1 else mark_in rows text

-- a row of the tables in the code
abbrev pub row_of : Bor (List ℕ) × Mark → List ℕ × Mark
row_of row = (row.0.now, row.1)
