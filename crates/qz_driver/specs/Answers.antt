-- The table of answers: when each status comes, and what it leaves, for every mode.
use Rattle.std.specs.Prelude.{ℕ, ◌≡◌, ◌≢◌, ◌≤◌, ◌⊎◌, List, Option, Some, None, IsSome, map, take, slice_get}
use Rattle.std.specs.Io.KnownBytes.{append_known}
use Rattle.qz_io.specs.Counts.{Rose}
use Rattle.qz_io.specs.Held.{Held, held_under}
use Rattle.qz_io.specs.declared.files_trait.Files.{Ghosts as FilesGhosts}
use Rattle.qz_io.specs.declared.sink_trait.Sink.{Ghosts as SinkGhosts}
use Rattle.qz_driver.specs.declared.status.Status.{Status}
use Rattle.qz_driver.specs.declared.status.Status.TheVariants as status
use Rattle.qz_diag.specs.Causes.{Cause, Usage, line_of}
use Rattle.qz_driver.specs.Rows.{Asked, BreaksRule, Asks, Content, Row, Read, AreContents, IsClear, StandsFirst, StandsNone, IsAgainst, IsMade, contents_in}

-- what the files tell at a moment
pub record FilesSeen : Type 0 where
  pub held : Option Held
  pub read_faults : ℕ
  pub write_faults : ℕ
  pub missed : Option (List ℕ)

-- what the files and the sink tell at a moment
pub record Seen : Type 0 where
  pub files : FilesSeen
  pub written : Option (List ℕ)
  pub faults : ℕ

abbrev pub files_seen : {F : Type 0} → FilesGhosts F → F → FilesSeen
files_seen ghosts files = record {
  held = ghosts.held files;
  read_faults = ghosts.read_faults files;
  write_faults = ghosts.write_faults files;
  missed = ghosts.missed files;
}

abbrev pub seen : {F O : Type 0} → FilesGhosts F → SinkGhosts O → F → O → Seen
seen files_ghosts sink_ghosts files out = record {
  files = files_seen files_ghosts files;
  written = sink_ghosts.written out;
  faults = sink_ghosts.faults out;
}

-- nothing that is held changed; nothing was written
abbrev pub KeepsHeld : Seen → Seen → Type 0
KeepsHeld old new = new.files.held ≡ old.files.held

abbrev pub WritesNothing : Seen → Seen → Type 0
WritesNothing old new = new.written ≡ old.written

-- the bytes are held under the name, and what is held under another is what was
pub record Puts (name bytes : List ℕ) (old new : Seen) : Type 0 where
  pub put : IsSome old.files.held → held_under new.files.held name ≡ Some bytes
  pub others : (other : List ℕ) → other ≢ name → held_under new.files.held other ≡ held_under old.files.held other

-- writing the line failed: some first part of it was written
pub record FailsToWrite (line : List ℕ) (old new : Seen) : Type 0 where
  pub rose : Rose old.faults new.faults
  pub count : ℕ
  pub prefix : new.written ≡ append_known old.written (take count line)

-- one line was written, and nothing that is held changed
pub record SaysLine (cause : Cause) (old new : Seen) : Type 0 where
  pub line : new.written ≡ append_known old.written (line_of cause)
  pub held : KeepsHeld old new

-- no count rose and nothing was written
pub record LosesNothing (old new : Seen) : Type 0 where
  pub nothing_written : WritesNothing old new
  pub read_faults : new.files.read_faults ≡ old.files.read_faults
  pub write_faults : new.files.write_faults ≡ old.files.write_faults
  pub missed : new.files.missed ≡ old.files.missed
  pub faults : new.faults ≡ old.faults

-- what stands against words and held bytes
abbrev pub Stands : Asked → Seen → Cause → Type 0
Stands BreaksRule old cause = cause ≡ Usage
Stands (Asks row) old cause = IsAgainst row old.files.held cause

-- the words break a rule, and the usage line was written
abbrev pub IsUsage : Asked → Seen → Seen → Type 0
IsUsage BreaksRule old new = SaysLine Usage old new
IsUsage (Asks row) old new = ⊥

-- a cause stands, and its line was written
pub record Refuses (row : Row) (old new : Seen) : Type 0 where
  pub cause : Cause
  pub stands : IsAgainst row old.files.held cause
  pub says : SaysLine cause old new

abbrev pub IsRefused : Asked → Seen → Seen → Type 0
IsRefused BreaksRule old new = ⊥
IsRefused (Asks row) old new = Refuses row old new

-- the `get` of a file failed and its name is kept, and no cause stands against the files before it
pub record FailsToRead (row : Row) (old new : FilesSeen) : Type 0 where
  pub number : ℕ
  pub name : List ℕ
  pub named : slice_get (map (λ (read : Read). read.name) row.reads) number ≡ Some name
  pub missed : new.missed ≡ Some name
  pub rose : Rose old.read_faults new.read_faults
  pub contents : List Content
  pub are : AreContents row old.held contents
  pub clear : (count : ℕ) → count ≤ number → IsClear row (take count contents)
  pub held : new.held ≡ old.held

pub record IsUnread (row : Row) (old new : Seen) : Type 0 where
  pub read : FailsToRead row old.files new.files
  pub nothing_written : WritesNothing old new

abbrev pub IsReadFault : Asked → Seen → Seen → Type 0
IsReadFault BreaksRule old new = ⊥
IsReadFault (Asks row) old new = IsUnread row old new

-- the put failed: what is held under the one name is open
pub record FailsToPut (row : Row) (old new : Seen) : Type 0 where
  pub bytes : List ℕ
  pub made : IsMade row old.files.held bytes
  pub rose : Rose old.files.write_faults new.files.write_faults
  pub nothing_written : WritesNothing old new
  pub others : (other : List ℕ) → other ≢ row.puts → held_under new.files.held other ≡ held_under old.files.held other

-- the line after the put couldn't be written whole
pub record FailsToSay (row : Row) (old new : Seen) : Type 0 where
  pub line : List ℕ
  pub says : row.says ≡ Some line
  pub bytes : List ℕ
  pub made : IsMade row old.files.held bytes
  pub puts : Puts row.puts bytes old new
  pub writes : FailsToWrite line old new

-- the line of a cause couldn't be written whole
pub record IsLineFault (asked : Asked) (old new : Seen) : Type 0 where
  pub cause : Cause
  pub stands : Stands asked old cause
  pub writes : FailsToWrite (line_of cause) old new
  pub held : KeepsHeld old new

abbrev pub IsWriteFault : Asked → Seen → Seen → Type 0
IsWriteFault BreaksRule old new = IsLineFault BreaksRule old new
IsWriteFault (Asks row) old new = FailsToPut row old new ⊎ FailsToSay row old new ⊎ IsLineFault (Asks row) old new

-- what is held where memory ran out: what was, or where the row writes a line at its end, perhaps the file that was put
abbrev pub HoldsAtWant : Option (List ℕ) → Row → Seen → Seen → Type 0
HoldsAtWant None row old new = KeepsHeld old new
HoldsAtWant (Some line) row old new = KeepsHeld old new ⊎ ((bytes : List ℕ) × IsMade row old.files.held bytes × Puts row.puts bytes old new)

-- memory ran out
abbrev pub IsNoMemory : Asked → Seen → Seen → Type 0
IsNoMemory BreaksRule old new = KeepsHeld old new × LosesNothing old new
IsNoMemory (Asks row) old new = HoldsAtWant row.says row old new × LosesNothing old new

-- what is written at the end: the row's line, if it has one
abbrev pub SaysAtEnd : Option (List ℕ) → Seen → Seen → Type 0
SaysAtEnd None old new = WritesNothing old new
SaysAtEnd (Some line) old new = new.written ≡ append_known old.written line

-- the file was put
pub record IsPut (row : Row) (old new : Seen) : Type 0 where
  pub bytes : List ℕ
  pub made : IsMade row old.files.held bytes
  pub puts : Puts row.puts bytes old new
  pub says : SaysAtEnd row.says old new

abbrev pub IsDone : Asked → Seen → Seen → Type 0
IsDone BreaksRule old new = ⊥
IsDone (Asks row) old new = IsPut row old new

-- one fact on the answer for each status
abbrev pub IsAnswer : Asked → Seen → Seen → Status → Type 0
IsAnswer asked old new status.Done = IsDone asked old new
IsAnswer asked old new status.Refused = IsRefused asked old new
IsAnswer asked old new status.Usage = IsUsage asked old new
IsAnswer asked old new status.ReadFault = IsReadFault asked old new
IsAnswer asked old new status.WriteFault = IsWriteFault asked old new
IsAnswer asked old new status.NoMemory = IsNoMemory asked old new

-- a line that the row writes at its end, if it does, was written
abbrev pub LineWentOut : Option (List ℕ) → Seen → Seen → Type 0
LineWentOut None old new = Unit {0}
LineWentOut (Some line) old new = ¬ Rose old.faults new.faults

-- where no count rose, what the held bytes alone decide, or want of memory
pub record Completes (row : Row) (old new : Seen) (result : Status) : Type 0 where
  pub answered : ¬ Rose old.files.read_faults new.files.read_faults → ¬ Rose old.files.write_faults new.files.write_faults
      → ¬ Rose old.faults new.faults → (result ≡ status.Refused) ⊎ (result ≡ status.Done) ⊎ (result ≡ status.NoMemory)
  pub refused : (cause : Cause) → IsSome old.files.held → StandsFirst row (contents_in old.files.held row.reads) cause
      → ¬ Rose old.files.read_faults new.files.read_faults → ¬ Rose old.faults new.faults
      → (result ≡ status.Refused) ⊎ (result ≡ status.NoMemory)
  pub done : IsSome old.files.held → StandsNone row (contents_in old.files.held row.reads)
      → ¬ Rose old.files.read_faults new.files.read_faults → ¬ Rose old.files.write_faults new.files.write_faults
      → LineWentOut row.says old new → (result ≡ status.Done) ⊎ (result ≡ status.NoMemory)

-- the same of words that break a rule
abbrev pub IsComplete : Asked → Seen → Seen → Status → Type 0
IsComplete BreaksRule old new result = ¬ Rose old.faults new.faults → (result ≡ status.Usage) ⊎ (result ≡ status.NoMemory)
IsComplete (Asks row) old new result = Completes row old new result
