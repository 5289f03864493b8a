-- What a mode comes to before anything is put or said.
use Rattle.std.specs.Prelude.{ℕ, ◌≡◌, List, Option, Some, Result, Ok, Err, IsSome, string_bytes}
use Rattle.qz_io.specs.Held.{Held, held_under}
use Rattle.qz_io.specs.Counts.{Rose}
use Rattle.qz_io.specs.declared.answers.Got.{Got}
use Rattle.qz_io.specs.declared.answers.Got.TheVariants as got
use Rattle.qz_diag.specs.Causes.{Cause, cause_of}
use Rattle.qz_driver.specs.declared.work.Output.{Output}
use Rattle.qz_driver.specs.declared.work.Stop.{Stop}
use Rattle.qz_driver.specs.declared.work.Stop.TheVariants as stop
use Rattle.qz_driver.specs.Rows.{Content, Absent, TooLong, Bytes, Row, content_within, IsAgainst, IsMade}
use Rattle.qz_driver.specs.Answers.{FilesSeen, FailsToRead}

-- what a file came to, as it was got
abbrev pub content_of : Got → Content
content_of (got.Bytes bytes) = Bytes bytes.items
content_of got.Absent = Absent
content_of got.TooLong = TooLong

-- what is found under a name, where it is told what is held
abbrev pub IsFound : List ℕ → ℕ → Option Held → Content → Type 0
IsFound name limit held content = IsSome held → content ≡ content_within limit (held_under held name)

-- the `get` of the file with this name failed, and its name is kept
pub record IsMissed (name : List ℕ) (old new : FilesSeen) : Type 0 where
  pub missed : new.missed ≡ Some name
  pub rose : Rose old.read_faults new.read_faults
  pub held : new.held ≡ old.held
  pub write_faults : new.write_faults ≡ old.write_faults

-- why a file wasn't got
abbrev pub IsUngot : List ℕ → FilesSeen → FilesSeen → Stop → Type 0
IsUngot name old new (stop.Refused refusal) = ⊥
IsUngot name old new stop.Unread = IsMissed name old new
IsUngot name old new stop.Memory = new ≡ old

-- a cause of these stands, or memory ran out
abbrev pub StopsOver : (Cause → Type 0) → Stop → Type 0
StopsOver stands (stop.Refused refusal) = stands (cause_of refusal)
StopsOver stands stop.Unread = ⊥
StopsOver stands stop.Memory = Unit {0}

-- why the file that a row puts isn't put
abbrev pub Stops : Row → FilesSeen → FilesSeen → Stop → Type 0
Stops row old new (stop.Refused refusal) = IsAgainst row old.held (cause_of refusal) × (new ≡ old)
Stops row old new stop.Unread = FailsToRead row old new × (new.write_faults ≡ old.write_faults)
Stops row old new stop.Memory = new ≡ old

-- the file that a row puts
pub record MakesOutput (row : Row) (old new : FilesSeen) (output : Output) : Type 0 where
  pub name : string_bytes output.name ≡ row.puts
  pub made : IsMade row old.held output.bytes.items
  pub stays : new ≡ old

-- what a mode comes to, by the row of its words
abbrev pub IsWork : Row → FilesSeen → FilesSeen → Result Output Stop → Type 0
IsWork row old new (Ok output) = MakesOutput row old new output
IsWork row old new (Err stopped) = Stops row old new stopped
