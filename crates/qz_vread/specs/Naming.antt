-- The names that may be read.
use Rattle.std.specs.Prelude.{◌≡◌, ℕ, true, List}
use Rattle.std.specs.Str.{all_scalars}
use Rattle.qz_syntax.specs.Spelling.{IsName}

-- a name of the language, as a text: each number is a character's
pub record IsNamed (characters : List ℕ) : Type 0 where
  pub text : all_scalars characters ≡ true
  pub name : IsName characters
