-- What is answered once all lines were read.
use Rattle.std.proofs.Common.{arith, ◌≡◌, ℕ, ◌+◌, ◌≤◌, true, false, List, [], ◌∷◌, ◌++◌, length, length-append, refl, sym, ap, ◌∙◌, subst}
use Rattle.qz_verilog.specs.declared.modules.VModule.{VModule}
use Rattle.qz_vtext.specs.Text.{text_of, lines_of}
use Rattle.qz_vread.specs.declared.drafts.Draft.{Draft}
use Rattle.qz_vread.specs.declared.drafts.Stage.{Stage}
use Rattle.qz_vread.specs.declared.drafts.Stage.TheVariants as stage
use Rattle.qz_vread.specs.Parts.{lacks, IsSplit}
use Rattle.qz_vread.specs.Drafts.{IsStep, IsStepAt, Takes}
use Rattle.qz_vread.specs.Drafted.{written, module_of, nothing_read, IsSound, IsSoundAt, IsWhole, HasAll}
use Rattle.qz_vread.specs.Leading.{Path, IsReading}
use Rattle.qz_vread.specs.Refusals.{IsModule, IsRefused}
use Rattle.qz_vread.specs.Answers.{IsRead, IsLast}
use Rattle.qz_vread.proofs.Advancing.{advances}
use Rattle.qz_vread.proofs.LineFeeds.{lines_are, after_lines}
use Rattle.qz_vread.proofs.Refusing.{starts, goes_on, refuses, unended, early, ends}
use Rattle.qz_vread.proofs.Counting.{few_ports}

whole_is : (d : Draft) → IsSound d → d.stage ≡ stage.Nothing → IsWhole d
whole_is d sound last =
    let P : Stage → Type 0 = λ s. IsSoundAt s d in
    let all : HasAll d = subst P last sound in
    record { last = last; characters = all.head.characters; named = all.head.some }

-- bytes are left that no line feed ends
pub left_over : (bytes rest : List ℕ) (d : Draft) (line : ℕ) → IsLast bytes d rest line → (rest ≡ [] → ⊥) → IsRefused bytes line
left_over bytes [] d line last some = absurd (some refl)
left_over bytes (b ∷ rest) d line last some = subst (λ n. IsRefused bytes n) (sym last.number) (unended bytes d b rest last.reading last.unended last.few)

-- the last line isn't there
pub too_early : (bytes rest : List ℕ) (d : Draft) (line : ℕ) → IsLast bytes d rest line → rest ≡ [] → (IsWhole d → ⊥) → IsRefused bytes line
too_early bytes (b ∷ rest) d line last none other = absurd cc
too_early bytes [] d line last none other =
    subst (λ n. IsRefused bytes n) (sym last.number) (early bytes d last.reading (λ end. other (whole_is d last.reading.sound end)) last.few)

-- the bytes are the module's text
pub read_whole : (bytes rest : List ℕ) (d : Draft) (line : ℕ) (m : VModule) → IsLast bytes d rest line → rest ≡ [] → IsWhole d → m ≡ module_of d → IsRead bytes m
read_whole bytes (b ∷ rest) d line m last none whole is = absurd cc
read_whole bytes [] d line m last none whole is =
    let end = ends bytes d last.reading whole.last in
    subst (λ x. IsRead bytes x) (sym is) (record { is = end.0; text = end.1; only = only })
  where
    no_step : (l : List ℕ) (new : Draft) → IsStep d l new → ⊥
    no_step l new step = let P : Stage → Type 0 = λ s. IsStepAt s d l new in subst P whole.last step

    ended : (more : List (List ℕ)) (other : VModule) → Path d more other → other ≡ module_of d
    ended [] other path = sym path.1
    ended (l ∷ more) other path = absurd (no_step l path.0 path.1.0)

    only : (other : VModule) → IsModule other → text_of other ≡ bytes → other ≡ module_of d
    only other other_is e =
        let first = after_lines (written d) (lines_of other) [] last.reading.lines (lines_are other) (e ∙ last.reading.whole) in
        ended first.more other (last.reading.follows other first.more other_is first.split)

-- a line that a line feed ends
pub cut_line : (bytes : List ℕ) (d : Draft) (rest text later : List ℕ) → IsReading bytes d rest → IsSplit 10 rest text later → IsReading bytes d (text ++ 10 ∷ later)
cut_line bytes d rest text later reading split = subst (λ r. IsReading bytes d r) split.whole reading

pub line_refused : (bytes : List ℕ) (d new : Draft) (rest text later : List ℕ) (line : ℕ) → length bytes ≤ 67108864 → IsReading bytes d rest → line ≡ length (written d) + 1
    → IsSplit 10 rest text later → Takes (IsStep d text) new false → IsRefused bytes line
line_refused bytes d new rest text later line small reading number split takes =
    subst (λ n. IsRefused bytes n) (sym number)
    (refuses bytes d new text later (cut_line bytes d rest text later reading split) split.first takes (few_ports bytes d rest reading small))

pub line_read : (bytes : List ℕ) (d new : Draft) (rest text later : List ℕ) → IsReading bytes d rest → IsSplit 10 rest text later → Takes (IsStep d text) new true → IsReading bytes new later
line_read bytes d new rest text later reading split takes = goes_on bytes d new text later (cut_line bytes d rest text later reading split) split.first takes

pub next_number : (bytes : List ℕ) (d new : Draft) (rest text : List ℕ) (line : ℕ) → IsReading bytes d rest → line ≡ length (written d) + 1 → Takes (IsStep d text) new true
    → line + 1 ≡ length (written new) + 1
next_number bytes d new rest text line reading number takes =
    let step = advances d new text reading.sound (takes.sound refl) in
    let long = ap length step.lines in
    omega (arith, number, long, length-append (written d) (text ∷ []))

pub last_read : (bytes : List ℕ) (d : Draft) (rest : List ℕ) (line : ℕ) → length bytes ≤ 67108864 → IsReading bytes d rest → line ≡ length (written d) + 1 → lacks 10 rest ≡ true
    → IsLast bytes d rest line
last_read bytes d rest line small reading number unended = record { reading = reading; unended = unended; number = number; few = few_ports bytes d rest reading small }

pub nothing_so_far : (bytes : List ℕ) (d : Draft) → d ≡ nothing_read → IsReading bytes d bytes
nothing_so_far bytes d e = subst (λ x. IsReading bytes x bytes) (sym e) (starts bytes)

pub first_number : (d : Draft) → d ≡ nothing_read → 1 ≡ length (written d) + 1
first_number d e = let long = ap (λ x. length (written x)) e in omega arith
