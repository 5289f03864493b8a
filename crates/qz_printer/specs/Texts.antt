-- How the words of a source are spelled: numbers without leading zeros, a literal without spaces.
use Rattle.std.specs.Prelude.{ℕ, List, [], ◌++◌, codes, encode_utf8_all}
use Rattle.std.specs.Fmt.{decimal}
use Rattle.qz_phrases.specs.declared.words.Word.{Word}
use Rattle.qz_phrases.specs.declared.words.Word.TheVariants as word
use Rattle.qz_phrases.specs.declared.words.Mark.{Mark}
use Rattle.qz_phrases.specs.declared.words.Mark.TheVariants as mark

-- a sign or a reserved word; one that has no use stands in no tree
abbrev pub mark_text : Mark → List ℕ
mark_text mark.Module = codes "module"
mark_text mark.Event = codes "event"
mark_text mark.Mem = codes "mem"
mark_text mark.Bool = codes "bool"
mark_text mark.Bv = codes "bv"
mark_text mark.True = codes "true"
mark_text mark.False = codes "false"
mark_text mark.Nothing = codes "nothing"
mark_text mark.Pause = codes "pause"
mark_text mark.Halt = codes "halt"
mark_text mark.Await = codes "await"
mark_text mark.Immediate = codes "immediate"
mark_text mark.Next = codes "next"
mark_text mark.Emit = codes "emit"
mark_text mark.If = codes "if"
mark_text mark.Else = codes "else"
mark_text mark.Do = codes "do"
mark_text mark.While = codes "while"
mark_text mark.Loop = codes "loop"
mark_text mark.Every = codes "every"
mark_text mark.Weak = codes "weak"
mark_text mark.Abort = codes "abort"
mark_text mark.Suspend = codes "suspend"
mark_text mark.When = codes "when"
mark_text mark.Reserved = []
mark_text mark.OpenParen = codes "("
mark_text mark.CloseParen = codes ")"
mark_text mark.OpenBrace = codes "{"
mark_text mark.CloseBrace = codes "}"
mark_text mark.OpenBracket = codes "["
mark_text mark.CloseBracket = codes "]"
mark_text mark.Comma = codes ","
mark_text mark.Semicolon = codes ";"
mark_text mark.Colon = codes ":"
mark_text mark.Question = codes "?"
mark_text mark.Exclamation = codes "!"
mark_text mark.Tilde = codes "~"
mark_text mark.At = codes "@"
mark_text mark.Plus = codes "+"
mark_text mark.Minus = codes "-"
mark_text mark.Ampersand = codes "&"
mark_text mark.Bar = codes "|"
mark_text mark.Caret = codes "^"
mark_text mark.Equals = codes "="
mark_text mark.EqualEqual = codes "=="
mark_text mark.NotEqual = codes "!="
mark_text mark.Less = codes "<"
mark_text mark.LessEqual = codes "<="
mark_text mark.Greater = codes ">"
mark_text mark.GreaterEqual = codes ">="
mark_text mark.Arrow = codes "->"
mark_text mark.BarBar = codes "||"

-- a name in UTF-8, a number in decimal, a literal as its width, `'d` and its value
abbrev pub word_text : Word → List ℕ
word_text (word.Name characters) = encode_utf8_all characters
word_text (word.Number n) = decimal n
word_text (word.Literal width value) = decimal width ++ (codes "'d" ++ decimal value)
word_text (word.Mark m) = mark_text m
