-- What is written word by word.
use Rattle.std.specs.Prelude.{ℕ, zero, suc, List, [], ◌∷◌, ◌++◌, codes}
use Rattle.std.specs.List.{flat_map, join_by}
use Rattle.qz_phrases.specs.declared.words.Word.{Word}
use Rattle.qz_phrases.specs.declared.words.Mark.{Mark}
use Rattle.qz_printer.specs.Texts.{word_text}
use Rattle.qz_printer.specs.Expressions.{one}

-- a text after which a word is to come: a space is before it, unless it is the first
abbrev pub spaced : List ℕ → List ℕ
spaced [] = []
spaced (b ∷ bs) = (b ∷ bs) ++ codes " "

-- a text after which these words are written
abbrev pub written : List ℕ → List Word → List ℕ
written text [] = text
written text (word ∷ words) = written (spaced text ++ word_text word) words

-- what separates the member of this number from those before it
abbrev pub separated : Mark → ℕ → List Word
separated m zero = []
separated m (suc n) = one m

-- the words of the members of a list from this number on, with those that separate them
abbrev pub from : {X : Type 0} → Mark → (X → List Word) → ℕ → List X → List Word
from m words zero xs = join_by words (one m) xs
from m words (suc n) xs = flat_map (λ x. one m ++ words x) xs
