-- What a reader gives that hands on what another one gave.
use Rattle.std.proofs.Common.{◌≡◌, ℕ, ◌-◌, ◌≤◌, Result, Ok, Err}
use Rattle.qz_phrases.specs.declared.words.Sort.{Sort}
use Rattle.qz_phrases.specs.declared.cursor.Cursor.{Cursor}
use Rattle.qz_phrases.specs.declared.cursor.Fault.{Fault}
use Rattle.qz_phrases.specs.Words.{first}
use Rattle.qz_phrases.specs.Phrases.{Kind}
use Rattle.qz_phrases.specs.Reading.{upcoming, Reads}
use Rattle.qz_phrases.proofs.Combining.{started, started_reads, started_fails, Nests, nest_reads, nest_fails, failed}

pub started_hands : {A S : Type 0} (start_of : Sort → S) (row : S → Kind A) {start : S} (room : ℕ) (s0 s1 : Cursor) → start ≡ start_of (first (upcoming s0)) → (result : Result A Fault) → Reads (row start) room s0 s1 result → Reads (started start_of row) room s0 s1 result
started_hands start_of row room s0 s1 is (Ok x) h = started_reads start_of row is h
started_hands start_of row room s0 s1 is (Err why) h = failed why h (λ f. started_fails start_of row is f)

pub nest_hands : {A : Type 0} {J L : Kind A} → Nests J L → (room : ℕ) (s0 s1 : Cursor) → 1 ≤ room → (result : Result A Fault) → Reads L (room - 1) s0 s1 result → Reads J room s0 s1 result
nest_hands n room s0 s1 pos (Ok x) h = nest_reads n pos h
nest_hands n room s0 s1 pos (Err why) h = failed why h (λ f. nest_fails n pos f)
