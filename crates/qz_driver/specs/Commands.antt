-- What the words of the command line ask for.
use Rattle.std.specs.Prelude.{ℕ, Bool, false, ◌==◌, ◌||◌, List, [], ◌∷◌, map, String, string_bytes, bytes_eq, Option, Some, None, codes, if◌then◌else◌}
use Rattle.std.specs.declared.alloc.Global.{Global}
use Rattle.qz_driver.specs.declared.words.Request.{Request as Words}
use Rattle.qz_driver.specs.declared.words.Request.TheVariants as words

-- a mode with its words, as bytes: the module's name and the file
pub data Request : Type 0 where
  Build : List ℕ → List ℕ → Request
  Run : List ℕ → List ℕ → Request
  Simulate : List ℕ → List ℕ → Request

-- whether a word begins with `-`
abbrev pub is_option : List ℕ → Bool
is_option [] = false
is_option (first ∷ rest) = first == 45

-- what a mode asks for with a name and one file
abbrev pub request_by : List ℕ → List ℕ → List ℕ → Option Request
request_by mode name file =
    if bytes_eq mode (codes "build") then Some (Build name file)
    else (if bytes_eq mode (codes "run") then Some (Run name file)
    else (if bytes_eq mode (codes "sim") then Some (Simulate name file) else None))

-- three words of which the first is a mode and none begins with `-`; others break a rule
abbrev pub request_of : List (List ℕ) → Option Request
request_of [] = None
request_of (mode ∷ []) = None
request_of (mode ∷ name ∷ []) = None
request_of (mode ∷ name ∷ file ∷ []) = if is_option name || is_option file then None else request_by mode name file
request_of (mode ∷ name ∷ file ∷ more ∷ others) = None

abbrev pub texts_of : List (String Global) → List (List ℕ)
texts_of words = map (λ (word : String Global). string_bytes word) words

-- what these words ask for
abbrev pub requested : List (String Global) → Option Request
requested words = request_of (texts_of words)

-- what was found to be asked for
abbrev pub request_in : Words → Request
request_in (words.Build named) = Build named.name.now named.file.now
request_in (words.Run named) = Run named.name.now named.file.now
request_in (words.Simulate named) = Simulate named.name.now named.file.now
