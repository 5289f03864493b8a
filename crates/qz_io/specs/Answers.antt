-- Facts that a call's answer decides.
use Rattle.std.specs.Prelude.{ℕ, List, Result, Ok, Err, ⊤}
use Rattle.qz_io.specs.declared.answers.Got.{Got}
use Rattle.qz_io.specs.declared.answers.Got.TheVariants.{Bytes, Absent, TooLong}
use Rattle.qz_io.specs.declared.answers.FileFault.{FileFault}
use Rattle.qz_io.specs.declared.answers.FileFault.TheVariants.{Failed, Memory}

-- a fact where the call failed
abbrev pub OnFailed : {A : Type 0} → Result A FileFault → Type 0 → Type 0
OnFailed (Ok _) P = ⊤
OnFailed (Err Failed) P = P
OnFailed (Err Memory) P = ⊤

-- a fact where memory ran out
abbrev pub OnMemory : {A : Type 0} → Result A FileFault → Type 0 → Type 0
OnMemory (Ok _) P = ⊤
OnMemory (Err Failed) P = ⊤
OnMemory (Err Memory) P = P

-- a fact for every answer but `Failed`
abbrev pub UnlessFailed : {A : Type 0} → Result A FileFault → Type 0 → Type 0
UnlessFailed (Ok _) P = P
UnlessFailed (Err Failed) P = ⊤
UnlessFailed (Err Memory) P = P

abbrev pub IsAbsent : Got → Type 0
IsAbsent (Bytes _) = ⊥
IsAbsent Absent = ⊤
IsAbsent TooLong = ⊥

abbrev pub IsTooLong : Got → Type 0
IsTooLong (Bytes _) = ⊥
IsTooLong Absent = ⊥
IsTooLong TooLong = ⊤

-- a fact on the bytes that were got, where they were
abbrev pub IfBytes : Got → (List ℕ → Type 0) → Type 0
IfBytes (Bytes v) P = P v.items
IfBytes Absent P = ⊤
IfBytes TooLong P = ⊤
