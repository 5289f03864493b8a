-- What a mode is, once its words are given: a row of the table of answers.
use Rattle.std.specs.Prelude.{ℕ, ◌≡◌, ◌<◌, List, Option, Some, None, length, map, take, nat_le, if◌then◌else◌, IsSome}
use Rattle.qz_io.specs.Held.{Held, held_under}
use Rattle.qz_diag.specs.Causes.{Cause}

-- a file that is read, and how many bytes it may have
pub record Read : Type 0 where
  pub name : List ℕ
  pub limit : ℕ

-- what is found under the name of a file that is read
pub data Content : Type 0 where
  -- nothing is held there
  Absent : Content
  -- more bytes than the limit
  TooLong : Content
  -- these bytes
  Bytes : List ℕ → Content

abbrev pub content_within : ℕ → Option (List ℕ) → Content
content_within limit None = Absent
content_within limit (Some bytes) = if nat_le (length bytes) limit then Bytes bytes else TooLong

-- what is found under the names of some files, in their order
abbrev pub contents_in : Option Held → List Read → List Content
contents_in held reads = map (λ read. content_within read.limit (held_under held read.name)) reads

-- A mode with its words. What it reads, writes and is refused by is said here alone; what each status
-- says of it is the same for all.
pub record Row : Type 1 where
  -- the files that it reads, in their order
  pub reads : List Read
  -- what stands against it once the first files are read and have these contents; what stands against
  -- fewer of them isn't said again
  pub against : List Content → Cause → Type 0
  -- the name of the file that it puts
  pub puts : List ℕ
  -- bytes that it may put, by the contents of all its files
  pub makes : List Content → List ℕ → Type 0
  -- the line that it writes after its put, if it does
  pub says : Option (List ℕ)

-- what words ask for: a row, or none where they break a rule
pub data Asked : Type 1 where
  BreaksRule : Asked
  Asks : Row → Asked

-- the contents of a row's files: where it is told what is held, those that are held
pub record AreContents (row : Row) (held : Option Held) (contents : List Content) : Type 0 where
  pub count : length contents ≡ length row.reads
  pub told : IsSome held → contents ≡ contents_in held row.reads

-- nothing stands against the row once the first files have these contents
abbrev pub IsClear : Row → List Content → Type 0
IsClear row contents = (cause : Cause) → row.against contents cause → ⊥

-- the cause stands once the first `count` files are read, and none stands once fewer are
pub record StandsFirst (row : Row) (contents : List Content) (cause : Cause) : Type 0 where
  pub count : ℕ
  pub stands : row.against (take count contents) cause
  pub first : (fewer : ℕ) → fewer < count → IsClear row (take fewer contents)

-- no cause stands, however many files are read
pub record StandsNone (row : Row) (contents : List Content) : Type 0 where
  pub none : (count : ℕ) → IsClear row (take count contents)

-- this cause is the first against what is held, or against what the files may hold where they don't tell
pub record IsAgainst (row : Row) (held : Option Held) (cause : Cause) : Type 0 where
  pub contents : List Content
  pub are : AreContents row held contents
  pub first : StandsFirst row contents cause

-- no cause stands against what is held, and the bytes are what the row makes of it
pub record IsMade (row : Row) (held : Option Held) (bytes : List ℕ) : Type 0 where
  pub contents : List Content
  pub are : AreContents row held contents
  pub none : StandsNone row contents
  pub makes : row.makes contents bytes
