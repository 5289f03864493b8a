-- What a call comes to once a mode's work is done: the file is put, or the line is written.
use Rattle.std.specs.Prelude.{ℕ, ◌≡◌, ◌≢◌, List, Result, Ok, Err, string_bytes}
use Rattle.qz_io.specs.Counts.{Rose}
use Rattle.qz_io.specs.Held.{held_under}
use Rattle.qz_driver.specs.declared.status.Status.{Status}
use Rattle.qz_driver.specs.declared.status.Status.TheVariants as status
use Rattle.qz_driver.specs.declared.work.Output.{Output}
use Rattle.qz_driver.specs.declared.work.Stop.{Stop}
use Rattle.qz_driver.specs.declared.work.Stop.TheVariants as stop
use Rattle.qz_diag.specs.Causes.{Cause, cause_of, line_of}
use Rattle.qz_driver.specs.Answers.{Seen, KeepsHeld, WritesNothing, LosesNothing, Puts, SaysLine, FailsToWrite}

-- a file was put, and nothing else changed
pub record PutsFile (output : Output) (old new : Seen) : Type 0 where
  pub puts : Puts (string_bytes output.name) output.bytes.items old new
  pub nothing_written : WritesNothing old new

-- putting a file failed: what is held under its name is open
pub record FailsFile (output : Output) (old new : Seen) : Type 0 where
  pub rose : Rose old.files.write_faults new.files.write_faults
  pub nothing_written : WritesNothing old new
  pub others : (other : List ℕ) → other ≢ string_bytes output.name → held_under new.files.held other ≡ held_under old.files.held other

-- by what the call answers where a file is to be put
abbrev pub EndsInFile : Output → Seen → Seen → Status → Type 0
EndsInFile output old new status.Done = PutsFile output old new
EndsInFile output old new status.WriteFault = FailsFile output old new
EndsInFile output old new status.NoMemory = KeepsHeld old new × LosesNothing old new
EndsInFile output old new status.Refused = ⊥
EndsInFile output old new status.Usage = ⊥
EndsInFile output old new status.ReadFault = ⊥

-- by what the call answers where a line is to be written
abbrev pub EndsInLine : Cause → Seen → Seen → Status → Type 0
EndsInLine cause old new status.Refused = SaysLine cause old new
EndsInLine cause old new status.WriteFault = FailsToWrite (line_of cause) old new × KeepsHeld old new
EndsInLine cause old new status.NoMemory = KeepsHeld old new × LosesNothing old new
EndsInLine cause old new status.Done = ⊥
EndsInLine cause old new status.Usage = ⊥
EndsInLine cause old new status.ReadFault = ⊥

-- by what the work came to and what the call answers
abbrev pub Ends : Result Output Stop → Seen → Seen → Status → Type 0
Ends (Ok output) old new answer = EndsInFile output old new answer
Ends (Err (stop.Refused refusal)) old new answer = EndsInLine (cause_of refusal) old new answer
Ends (Err stop.Unread) old new answer = (answer ≡ status.ReadFault) × (new ≡ old)
Ends (Err stop.Memory) old new answer = (answer ≡ status.NoMemory) × (new ≡ old)
