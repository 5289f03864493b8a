-- A token for each sort of words, in place of words that no text spells.
use Rattle.std.proofs.Common.{◌≡◌, ℕ, Bool, true, ◌&&◌, nat_lt, nat_le, List, [], ◌∷◌, length, Some, codes, refl, ap, ◌∙◌, arith}
use Rattle.std.specs.List.{list_all}
use Rattle.std.specs.Char.{is_ascii_alphabetic}
use Rattle.std.proofs.lemmas.Bool.{and_parts, ltb-true, leb-true}
use Rattle.unicode_ident.specs.Ident.{is_xid_start, is_xid_continue}
use Rattle.unicode_ident.proofs.IdentLemmas.{is_xid_start-ascii, is_xid_start-is_xid_continue}
use Rattle.qz_lexer.specs.declared.tokens.TokenKind.{TokenKind}
use Rattle.qz_lexer.specs.declared.tokens.TokenKind.TheVariants as kind
use Rattle.qz_lexer.specs.Words.{IsWord, is_reserved, reserved_words, is_sign, is_single_sign, is_double_sign}
use Rattle.qz_lexer.specs.Pieces.{IsPiece}
use Rattle.qz_lexer.proofs.WordLemmas.{is_ascii_word}
use Rattle.qz_phrases.specs.declared.words.Word.{Word}
use Rattle.qz_phrases.specs.declared.words.Word.TheVariants as word
use Rattle.qz_phrases.specs.declared.words.Sort.{Sort}
use Rattle.qz_phrases.specs.declared.words.Sort.TheVariants as sort
use Rattle.qz_phrases.specs.declared.words.Mark.{Mark}
use Rattle.qz_phrases.specs.declared.words.Mark.TheVariants as mark
use Rattle.qz_phrases.specs.Words.{sort_of}
use Rattle.qz_source.specs.Marks.{keywords, signs, mark_in}
use Rattle.qz_source.specs.Spots.{word_said}

-- a token of this sort
pub record Filler (w : Sort) : Type 0 where
  pub kind : TokenKind
  pub text : List ℕ
  pub ascii : is_ascii_word text ≡ true
  pub piece : IsPiece (Some kind) text []
  pub said : sort_of (word_said kind text) ≡ w

abbrev is_letter : ℕ → Bool
is_letter c = nat_lt c 128 && is_ascii_alphabetic c

abbrev is_plain : List ℕ → Bool
is_plain text = nat_le 1 (length text) && (nat_le (length text) 64 && list_all is_letter text)

letter_starts : (c : ℕ) → is_letter c ≡ true → is_xid_start c ≡ true
letter_starts c is = let parts = and_parts (nat_lt c 128) (is_ascii_alphabetic c) is in is_xid_start-ascii c (ltb-true c 128 parts.0) ∙ parts.1

letters_go_on : (cs : List ℕ) → list_all is_letter cs ≡ true → list_all is_xid_continue cs ≡ true
letters_go_on [] is = refl
letters_go_on (c ∷ cs) is =
    let parts = and_parts (is_letter c) (list_all is_letter cs) is in
    ap (λ b. b && list_all is_xid_continue cs) (is_xid_start-is_xid_continue c (letter_starts c parts.0)) ∙ letters_go_on cs parts.1

plain_word : (text : List ℕ) → is_plain text ≡ true → IsWord text []
plain_word [] is = absurd (cc (is))
plain_word (c ∷ cs) is =
    let sized = and_parts (nat_le 1 (length (c ∷ cs))) (nat_le (length (c ∷ cs)) 64 && list_all is_letter (c ∷ cs)) is in
    let rest = and_parts (nat_le (length (c ∷ cs)) 64) (list_all is_letter (c ∷ cs)) sized.1 in
    let letters = and_parts (is_letter c) (list_all is_letter cs) rest.1 in
    (letter_starts c letters.0, record { each = letters_go_on cs letters.1; stops = tt }, leb-true (length (c ∷ cs)) 64 rest.0)

keyword_filler : (m : Mark) (text : List ℕ) → is_ascii_word text ≡ true → is_plain text ≡ true → is_reserved text ≡ true → mark_in keywords text ≡ m → Filler (sort.Mark m)
keyword_filler m text ascii plain reserved is = record { kind = kind.Keyword; text = text; ascii = ascii; piece = (plain_word text plain, reserved); said = ap sort.Mark is }

sign_filler : (m : Mark) (text : List ℕ) → is_ascii_word text ≡ true → is_sign text ≡ true → mark_in signs text ≡ m → Filler (sort.Mark m)
sign_filler m text ascii sign is = record { kind = kind.Sign; text = text; ascii = ascii; piece = sign; said = ap sort.Mark is }

mark_filler : (m : Mark) → Filler (sort.Mark m)
unfolding keywords signs reserved_words is_single_sign is_double_sign
mark_filler mark.Module = keyword_filler mark.Module (codes "module") refl refl refl refl
mark_filler mark.Event = keyword_filler mark.Event (codes "event") refl refl refl refl
mark_filler mark.Mem = keyword_filler mark.Mem (codes "mem") refl refl refl refl
mark_filler mark.Bool = keyword_filler mark.Bool (codes "bool") refl refl refl refl
mark_filler mark.Bv = keyword_filler mark.Bv (codes "bv") refl refl refl refl
mark_filler mark.True = keyword_filler mark.True (codes "true") refl refl refl refl
mark_filler mark.False = keyword_filler mark.False (codes "false") refl refl refl refl
mark_filler mark.Nothing = keyword_filler mark.Nothing (codes "nothing") refl refl refl refl
mark_filler mark.Pause = keyword_filler mark.Pause (codes "pause") refl refl refl refl
mark_filler mark.Halt = keyword_filler mark.Halt (codes "halt") refl refl refl refl
mark_filler mark.Await = keyword_filler mark.Await (codes "await") refl refl refl refl
mark_filler mark.Immediate = keyword_filler mark.Immediate (codes "immediate") refl refl refl refl
mark_filler mark.Next = keyword_filler mark.Next (codes "next") refl refl refl refl
mark_filler mark.Emit = keyword_filler mark.Emit (codes "emit") refl refl refl refl
mark_filler mark.If = keyword_filler mark.If (codes "if") refl refl refl refl
mark_filler mark.Else = keyword_filler mark.Else (codes "else") refl refl refl refl
mark_filler mark.Do = keyword_filler mark.Do (codes "do") refl refl refl refl
mark_filler mark.While = keyword_filler mark.While (codes "while") refl refl refl refl
mark_filler mark.Loop = keyword_filler mark.Loop (codes "loop") refl refl refl refl
mark_filler mark.Every = keyword_filler mark.Every (codes "every") refl refl refl refl
mark_filler mark.Weak = keyword_filler mark.Weak (codes "weak") refl refl refl refl
mark_filler mark.Abort = keyword_filler mark.Abort (codes "abort") refl refl refl refl
mark_filler mark.Suspend = keyword_filler mark.Suspend (codes "suspend") refl refl refl refl
mark_filler mark.When = keyword_filler mark.When (codes "when") refl refl refl refl
mark_filler mark.Reserved = keyword_filler mark.Reserved (codes "assert") refl refl refl refl
mark_filler mark.OpenParen = sign_filler mark.OpenParen (codes "(") refl refl refl
mark_filler mark.CloseParen = sign_filler mark.CloseParen (codes ")") refl refl refl
mark_filler mark.OpenBrace = sign_filler mark.OpenBrace (codes "{") refl refl refl
mark_filler mark.CloseBrace = sign_filler mark.CloseBrace (codes "}") refl refl refl
mark_filler mark.OpenBracket = sign_filler mark.OpenBracket (codes "[") refl refl refl
mark_filler mark.CloseBracket = sign_filler mark.CloseBracket (codes "]") refl refl refl
mark_filler mark.Comma = sign_filler mark.Comma (codes ",") refl refl refl
mark_filler mark.Semicolon = sign_filler mark.Semicolon (codes ";") refl refl refl
mark_filler mark.Colon = sign_filler mark.Colon (codes ":") refl refl refl
mark_filler mark.Question = sign_filler mark.Question (codes "?") refl refl refl
mark_filler mark.Exclamation = sign_filler mark.Exclamation (codes "!") refl refl refl
mark_filler mark.Tilde = sign_filler mark.Tilde (codes "~") refl refl refl
mark_filler mark.At = sign_filler mark.At (codes "@") refl refl refl
mark_filler mark.Plus = sign_filler mark.Plus (codes "+") refl refl refl
mark_filler mark.Minus = sign_filler mark.Minus (codes "-") refl refl refl
mark_filler mark.Ampersand = sign_filler mark.Ampersand (codes "&") refl refl refl
mark_filler mark.Bar = sign_filler mark.Bar (codes "|") refl refl refl
mark_filler mark.Caret = sign_filler mark.Caret (codes "^") refl refl refl
mark_filler mark.Equals = sign_filler mark.Equals (codes "=") refl refl refl
mark_filler mark.EqualEqual = sign_filler mark.EqualEqual (codes "==") refl refl refl
mark_filler mark.NotEqual = sign_filler mark.NotEqual (codes "!=") refl refl refl
mark_filler mark.Less = sign_filler mark.Less (codes "<") refl refl refl
mark_filler mark.LessEqual = sign_filler mark.LessEqual (codes "<=") refl refl refl
mark_filler mark.Greater = sign_filler mark.Greater (codes ">") refl refl refl
mark_filler mark.GreaterEqual = sign_filler mark.GreaterEqual (codes ">=") refl refl refl
mark_filler mark.Arrow = sign_filler mark.Arrow (codes "->") refl refl refl
mark_filler mark.BarBar = sign_filler mark.BarBar (codes "||") refl refl refl

name_filler : Filler sort.Name
unfolding reserved_words
name_filler = record { kind = kind.Name; text = codes "x"; ascii = refl; piece = (plain_word (codes "x") refl, refl); said = refl }

number_filler : Filler sort.Number
number_filler = record { kind = kind.Number; text = codes "0"; ascii = refl; piece = (record { each = refl; stops = tt }, omega arith, omega arith); said = refl }

literal_filler : Filler sort.Literal
literal_filler = record {
  kind = kind.Literal;
  text = codes "1'd0";
  ascii = refl;
  piece = record {
    width = codes "1";
    value = codes "'d0";
    spelled = refl;
    is_width = (record { each = refl; stops = refl }, omega arith, omega arith);
    is_value = record { digits = codes "0"; spelled = refl; number = (record { each = refl; stops = tt }, omega arith, omega arith) };
  };
  said = refl;
}

pub filler : (w : Word) → Filler (sort_of w)
filler (word.Name n) = name_filler
filler (word.Number n) = number_filler
filler (word.Literal n v) = literal_filler
filler (word.Mark m) = mark_filler m
