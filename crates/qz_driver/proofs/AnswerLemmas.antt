-- The answer of a call, from what its mode's work came to.
use Rattle.std.proofs.Common.{◌≡◌, ℕ, List, take, Option, None, Result, Ok, Err, ◌⊎◌, inl, inr, sym, refl, subst, ap, ◌∙◌, string_bytes}
use Rattle.qz_io.specs.Counts.{Rose}
use Rattle.qz_io.specs.Answers.{OnFailed}
use Rattle.qz_io.specs.declared.answers.FileFault.{FileFault}
use Rattle.qz_io.specs.declared.answers.FileFault.TheVariants as file
use Rattle.qz_io.specs.Held.{Held}
use Rattle.qz_driver.specs.declared.status.Status.{Status}
use Rattle.qz_driver.specs.declared.status.Status.TheVariants as status
use Rattle.qz_driver.specs.declared.work.Output.{Output}
use Rattle.qz_driver.specs.declared.work.Stop.{Stop}
use Rattle.qz_driver.specs.declared.work.Stop.TheVariants as stop
use Rattle.qz_diag.specs.Causes.{Cause, cause_of}
use Rattle.qz_driver.specs.Rows.{Row, Asked, Asks, Content, StandsFirst, StandsNone, IsAgainst, IsMade, contents_in}
use Rattle.qz_driver.specs.Answers.{FilesSeen, Seen, Puts, HoldsAtWant, SaysAtEnd, IsAnswer, IsComplete, Completes, FailsToRead}
use Rattle.qz_driver.specs.Outcomes.{Ends, EndsInFile, EndsInLine}
use Rattle.qz_driver.specs.Work.{IsWork}

-- a cause that stands, and none that does, exclude each other
stands_not : (row : Row) (contents others : List Content) (cause : Cause) → others ≡ contents → StandsFirst row others cause → StandsNone row contents → ⊥
stands_not row contents others cause same stands none =
    let P : List Content → Type 0 = λ c. row.against (take stands.count c) cause in
    none.none stands.count cause (subst P same stands.stands)

-- files that tell the same
pub same_files : (old new : FilesSeen) → new.held ≡ old.held → new.read_faults ≡ old.read_faults → new.write_faults ≡ old.write_faults → new.missed ≡ old.missed
    → new ≡ old
same_files old new held read write missed =
    let seen : Option Held → ℕ → ℕ → Option (List ℕ) → FilesSeen = λ h r w m. record { held = h; read_faults = r; write_faults = w; missed = m } in
    ap (λ (h : Option Held). seen h new.read_faults new.write_faults new.missed) held
    ∙ ap (λ (r : ℕ). seen old.held r new.write_faults new.missed) read
    ∙ ap (λ (w : ℕ). seen old.held old.read_faults w new.missed) write
    ∙ ap (λ (m : Option (List ℕ)). seen old.held old.read_faults old.write_faults m) missed

-- what holds where the call failed
pub failed_so : (A : Type 0) (P : Type 0) (fault : FileFault) → fault ≡ file.Failed → OnFailed {A = A} (Err fault) P → P
failed_so A P file.Failed e h = h
failed_so A P file.Memory e h = absurd (cc (e))

-- the same files and sink, told at two moments
abbrev seen_with : FilesSeen → Seen → Seen
seen_with files seen = record { files = files; written = seen.written; faults = seen.faults }

module _ (row : Row) (says : row.says ≡ None) (old new : Seen) where
  -- where a file was made
  made_answer : (output : Output) (answer : Status) → string_bytes output.name ≡ row.puts → IsMade row old.files.held output.bytes.items
      → EndsInFile output old new answer → IsAnswer (Asks row) old new answer
  made_answer output status.Done named made ends = record {
    bytes = output.bytes.items;
    made = made;
    puts = subst (λ (name : List ℕ). Puts name output.bytes.items old new) named ends.puts;
    says = subst (λ (line : Option (List ℕ)). SaysAtEnd line old new) (sym says) ends.nothing_written;
  }
  made_answer output status.WriteFault named made ends = inl (record {
    bytes = output.bytes.items;
    made = made;
    rose = ends.rose;
    nothing_written = ends.nothing_written;
    others = λ other apart. ends.others other (λ same. apart (same ∙ named));
  })
  made_answer output status.NoMemory named made ends = (subst (λ (line : Option (List ℕ)). HoldsAtWant line row old new) (sym says) ends.0, ends.1)
  made_answer output status.Refused named made ends = absurd ends
  made_answer output status.Usage named made ends = absurd ends
  made_answer output status.ReadFault named made ends = absurd ends

  made_completes : (output : Output) (answer : Status) → IsMade row old.files.held output.bytes.items → EndsInFile output old new answer → Completes row old new answer
  made_completes output answer made ends = record {
    answered = λ not_read not_write not_line. answered answer ends not_write;
    refused = λ cause known stands not_read not_line. absurd (stands_not row made.contents (contents_in old.files.held row.reads) cause (sym (made.are.told known)) stands made.none);
    done = λ known none not_read not_write went. done answer ends not_write;
  } where
    done : (answer : Status) → EndsInFile output old new answer → ¬ Rose old.files.write_faults new.files.write_faults → (answer ≡ status.Done) ⊎ (answer ≡ status.NoMemory)
    done status.Done ends not_write = inl refl
    done status.WriteFault ends not_write = absurd (not_write ends.rose)
    done status.NoMemory ends not_write = inr refl
    done status.Refused ends not_write = absurd ends
    done status.Usage ends not_write = absurd ends
    done status.ReadFault ends not_write = absurd ends

    answered : (answer : Status) → EndsInFile output old new answer → ¬ Rose old.files.write_faults new.files.write_faults
        → (answer ≡ status.Refused) ⊎ (answer ≡ status.Done) ⊎ (answer ≡ status.NoMemory)
    answered answer ends not_write = inr (done answer ends not_write)

  -- where a cause stands
  stopped_answer : (cause : Cause) (answer : Status) → IsAgainst row old.files.held cause → EndsInLine cause old new answer → IsAnswer (Asks row) old new answer
  stopped_answer cause status.Refused against ends = record { cause = cause; stands = against; says = ends }
  stopped_answer cause status.WriteFault against ends = inr (inr (record { cause = cause; stands = against; writes = ends.0; held = ends.1 }))
  stopped_answer cause status.NoMemory against ends = (subst (λ (line : Option (List ℕ)). HoldsAtWant line row old new) (sym says) ends.0, ends.1)
  stopped_answer cause status.Done against ends = absurd ends
  stopped_answer cause status.Usage against ends = absurd ends
  stopped_answer cause status.ReadFault against ends = absurd ends

  stopped_completes : (cause : Cause) (answer : Status) → IsAgainst row old.files.held cause → EndsInLine cause old new answer → Completes row old new answer
  stopped_completes cause answer against ends = record {
    answered = λ not_read not_write not_line. answered answer ends not_line;
    refused = λ other known stands not_read not_line. refused answer ends not_line;
    done = λ known none not_read not_write went.
        absurd (stands_not row (contents_in old.files.held row.reads) against.contents cause (against.are.told known) against.first none);
  } where
    refused : (answer : Status) → EndsInLine cause old new answer → ¬ Rose old.faults new.faults → (answer ≡ status.Refused) ⊎ (answer ≡ status.NoMemory)
    refused status.Refused ends not_line = inl refl
    refused status.WriteFault ends not_line = absurd (not_line ends.0.rose)
    refused status.NoMemory ends not_line = inr refl
    refused status.Done ends not_line = absurd ends
    refused status.Usage ends not_line = absurd ends
    refused status.ReadFault ends not_line = absurd ends

    answered : (answer : Status) → EndsInLine cause old new answer → ¬ Rose old.faults new.faults
        → (answer ≡ status.Refused) ⊎ (answer ≡ status.Done) ⊎ (answer ≡ status.NoMemory)
    answered status.Refused ends not_line = inl refl
    answered status.WriteFault ends not_line = absurd (not_line ends.0.rose)
    answered status.NoMemory ends not_line = inr (inr refl)
    answered status.Done ends not_line = absurd ends
    answered status.Usage ends not_line = absurd ends
    answered status.ReadFault ends not_line = absurd ends

  -- where a file couldn't be read
  unread_answer : FailsToRead row old.files new.files → new.written ≡ old.written → IsAnswer (Asks row) old new status.ReadFault
  unread_answer fails written = record { read = fails; nothing_written = written }

  unread_completes : FailsToRead row old.files new.files → Completes row old new status.ReadFault
  unread_completes fails = record {
    answered = λ not_read not_write not_line. absurd (not_read fails.rose);
    refused = λ cause known stands not_read not_line. absurd (not_read fails.rose);
    done = λ known none not_read not_write went. absurd (not_read fails.rose);
  }

  -- where memory ran out
  wanting_answer : new ≡ old → IsAnswer (Asks row) old new status.NoMemory
  wanting_answer same = subst (λ (later : Seen). IsAnswer (Asks row) old later status.NoMemory) (sym same) (
    subst (λ (line : Option (List ℕ)). HoldsAtWant line row old old) (sym says) refl,
    record { nothing_written = refl; read_faults = refl; write_faults = refl; missed = refl; faults = refl },
  )

  wanting_completes : Completes row old new status.NoMemory
  wanting_completes = record {
    answered = λ not_read not_write not_line. inr (inr refl);
    refused = λ cause known stands not_read not_line. inr refl;
    done = λ known none not_read not_write went. inr refl;
  }

-- an answer of the whole call, and that it is complete
pub record Answered (row : Row) (old new : Seen) (answer : Status) : Type 0 where
  pub is : IsAnswer (Asks row) old new answer
  pub complete : Completes row old new answer

-- the work left what files tell, and then the call ended: from the moment of before
pub answered : (row : Row) → row.says ≡ None → (old new : Seen) (between : FilesSeen) (work : Result Output Stop) (answer : Status)
    → IsWork row old.files between work → Ends work (seen_with between old) new answer → Answered row old new answer
answered row says old new between (Ok output) answer does ends =
    let P : FilesSeen → Type 0 = λ files. EndsInFile output (seen_with files old) new answer in
    let now : EndsInFile output old new answer = subst P does.stays ends in
    record { is = made_answer row says old new output answer does.name does.made now; complete = made_completes row says old new output answer does.made now }
answered row says old new between (Err (stop.Refused refusal)) answer does ends =
    let P : FilesSeen → Type 0 = λ files. EndsInLine (cause_of refusal) (seen_with files old) new answer in
    let now : EndsInLine (cause_of refusal) old new answer = subst P does.1 ends in
    record { is = stopped_answer row says old new (cause_of refusal) answer does.0 now; complete = stopped_completes row says old new (cause_of refusal) answer does.0 now }
answered row says old new between (Err stop.Unread) answer does ends =
    let P : Status → Type 0 = λ a. Answered row old new a in
    let fails : FailsToRead row old.files new.files = subst (FailsToRead row old.files) (ap (λ (s : Seen). s.files) (sym ends.1)) does.0 in
    subst P (sym ends.0) (record { is = unread_answer row says old new fails (ap (λ (s : Seen). s.written) ends.1); complete = unread_completes row says old new fails })
answered row says old new between (Err stop.Memory) answer does ends =
    let P : Status → Type 0 = λ a. Answered row old new a in
    let same : new ≡ old = ends.1 ∙ ap (λ (files : FilesSeen). seen_with files old) does in
    subst P (sym ends.0) (record { is = wanting_answer row says old new same; complete = wanting_completes row says old new })

-- an answer with this status, of words that ask for the row
pub by_status : (row : Row) (asked : Asked) (old new : Seen) (answer given : Status) → asked ≡ Asks row → IsAnswer (Asks row) old new answer → answer ≡ given
    → IsAnswer asked old new given
by_status row asked old new answer given asks is same =
    subst (λ (a : Asked). IsAnswer a old new given) (sym asks) (subst (λ (s : Status). IsAnswer (Asks row) old new s) same is)

-- what comes where no count rose, of words that ask for the row
pub by_asking : (row : Row) (asked : Asked) (old new : Seen) (answer : Status) → asked ≡ Asks row → IsComplete (Asks row) old new answer → IsComplete asked old new answer
by_asking row asked old new answer asks complete = subst (λ (a : Asked). IsComplete a old new answer) (sym asks) complete
