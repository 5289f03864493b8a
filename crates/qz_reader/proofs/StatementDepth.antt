-- Statements that have more levels than there are, told by their first words.
use Rattle.std.proofs.Common.{◌≡◌, ◌≢◌, ℕ, zero, suc, ◌<◌, ◌≤◌, inl, inr, Bool, true, false, Option, None, Result, List, [], ◌∷◌, ◌++◌, drop, refl, sym, ap, subst, ◌∙◌, arith}
use Rattle.qz_syntax.specs.declared.file_statements.FileStmt.{FileStmt}
use Rattle.qz_syntax.specs.declared.file_statements.FileStmt.TheVariants as stmt
use Rattle.qz_phrases.specs.declared.words.Spot.{Spot}
use Rattle.qz_phrases.specs.declared.words.Word.TheVariants as word
use Rattle.qz_phrases.specs.declared.words.Sort.{Sort}
use Rattle.qz_phrases.specs.declared.words.Sort.TheVariants as sort
use Rattle.qz_phrases.specs.declared.words.Mark.{Mark}
use Rattle.qz_phrases.specs.declared.words.Mark.TheVariants as mark
use Rattle.qz_phrases.specs.declared.cursor.Cursor.{Cursor}
use Rattle.qz_phrases.specs.declared.cursor.Fault.{Fault}
use Rattle.qz_phrases.specs.declared.cursor.Fault.TheVariants.{Parse, Deep}
use Rattle.qz_phrases.specs.Words.{first, sort_of}
use Rattle.qz_phrases.specs.Phrases.{Kind}
use Rattle.qz_phrases.specs.Reading.{upcoming, Agrees, May, ReadsIt, ReadsSome, Begins, Fails, Reads}
use Rattle.qz_phrases.proofs.Ahead.{agrees_here, still}
use Rattle.qz_phrases.proofs.Combining.{always, started, Nests, meaning, meaning_begun, chosen_begun, nest_begun, no_phrase, too_deep, fill_then}
use Rattle.qz_phrases.proofs.Fills.{mark_fill, name_fill, cond_fill}
use Rattle.qz_phrases.proofs.Operands.{spot_mark}
use Rattle.qz_reader.specs.declared.starts.Preemption.TheVariants as preemption
use Rattle.qz_reader.specs.declared.starts.PreemptStart.{PreemptStart}
use Rattle.qz_reader.specs.declared.starts.PreemptStart.TheVariants as preempt
use Rattle.qz_reader.specs.declared.starts.WeakStart.{WeakStart}
use Rattle.qz_reader.specs.declared.starts.WeakStart.TheVariants as weak
use Rattle.qz_reader.specs.declared.starts.ImmediateStart.{ImmediateStart}
use Rattle.qz_reader.specs.declared.starts.ImmediateStart.TheVariants as immediate
use Rattle.qz_reader.specs.declared.starts.ElseStart.{ElseStart}
use Rattle.qz_reader.specs.declared.starts.ElseStart.TheVariants as other
use Rattle.qz_reader.specs.declared.starts.Round.TheVariants as round
use Rattle.qz_reader.specs.declared.starts.StmtStart.{StmtStart}
use Rattle.qz_reader.specs.declared.starts.StmtStart.TheVariants as starts
use Rattle.qz_reader.specs.Starts.{preempt_start, weak_start, immediate_start, else_start, stmt_start, stmt_need}
use Rattle.qz_reader.specs.Statements.{bare, preempted, preempt_row, weak_row, immediate_row, else_row, an_else, rounded, stmt_row, a_stmt}
use Rattle.qz_reader.proofs.Leading.{mark_begins, first_begins, spot_name}
use Rattle.qz_reader.proofs.Hollow.{no_await, no_value}
use Rattle.qz_reader.proofs.StatementFills.{semicolon, value_fill, emitted_fill, closing_fill, name_rest_fill, stmt_fill, no_else, else_fill, decls_fill, lists_fill, after_weak_fill, after_immediate_fill}

abbrev pub stmt_kind : StmtStart → Kind FileStmt
stmt_kind start = λ levels. stmt_row (a_stmt levels) start levels

pub stmt_nests : Nests a_stmt (started stmt_start stmt_kind)
stmt_nests = record { ground = λ x words rest h. h; down = λ levels x words rest h. h; up = λ levels x words rest h. h }

no_preemption : (start : PreemptStart) (weak immediate : Bool) (s : FileStmt) (words rest : List Spot) → preempt_row (a_stmt 0) weak immediate start 0 s words rest → ⊥
no_preemption (preempt.Form p) weak immediate s words rest h = h.2.2.1
no_preemption preempt.None weak immediate s words rest h = h

no_weak : (start : WeakStart) (s : FileStmt) (words rest : List Spot) → weak_row (a_stmt 0) start 0 s words rest → ⊥
no_weak weak.Immediate s words rest h = no_preemption (preempt_start (first h.2.0)) true true h.0.1 h.2.0 rest h.2.2
no_weak weak.Plain s words rest h = no_preemption (preempt_start (first words)) true false s words rest h

no_immediate : (start : ImmediateStart) (s : FileStmt) (words rest : List Spot) → immediate_row (a_stmt 0) start 0 s words rest → ⊥
no_immediate immediate.Await s words rest h = no_await None true s words rest h
no_immediate immediate.Preempt s words rest h = no_preemption (preempt_start (first words)) false true s words rest h

-- no level is left for the parts of a statement that begins so
hollow : (start : StmtStart) (levels : ℕ) (s : FileStmt) (words rest : List Spot) → suc levels < stmt_need start → stmt_kind start levels s words rest → ⊥
hollow starts.Await zero s words rest low h = no_await None false s words rest h
hollow starts.Immediate zero s words rest low h = no_immediate (immediate_start (first h.2.0)) h.0.1 h.2.0 rest h.2.2
hollow starts.Weak zero s words rest low h = no_weak (weak_start (first h.2.0)) h.0.1 h.2.0 rest h.2.2
hollow (starts.Preempt p) zero s words rest low h = h.2.2.1
hollow starts.Next zero s words rest low h = no_value h.0.1 h.2.0 rest h.2.2
hollow starts.If zero s words rest low h = h.2.2.1
hollow starts.Do zero s words rest low h = h.2.2.1
hollow (starts.Round r) zero s words rest low h = h.2.2
hollow starts.Loop zero s words rest low h = h.2.2
hollow starts.None zero s words rest low h = h
hollow starts.Nothing zero s words rest low h = omega (arith, low)
hollow starts.Pause zero s words rest low h = omega (arith, low)
hollow starts.Halt zero s words rest low h = omega (arith, low)
hollow starts.Name zero s words rest low h = omega (arith, low)
hollow starts.Emit zero s words rest low h = omega (arith, low)
hollow starts.Block zero s words rest low h = omega (arith, low)
hollow start (suc levels) s words rest low h = absurd (omega (arith, low, need_two start))
  where
    need_two : (start : StmtStart) → stmt_need start ≤ 2
    need_two starts.None = omega arith
    need_two starts.Nothing = omega arith
    need_two starts.Pause = omega arith
    need_two starts.Halt = omega arith
    need_two starts.Name = omega arith
    need_two starts.Emit = omega arith
    need_two starts.Block = omega arith
    need_two start = omega arith

one : 1 ≤ 1
one = omega arith

-- a statement begins with such a word
begun_by : (spot : Spot) (w : Sort) → sort_of spot.word ≡ w → stmt_start w ≢ starts.None → Begins a_stmt 2 (spot ∷ [])
begun_by spot w is some = by_sort w is some
  where
    lift : (start : StmtStart) → stmt_start (sort_of spot.word) ≡ start → Begins (stmt_kind start) 1 (spot ∷ []) → Begins a_stmt 2 (spot ∷ [])
    lift start is b = nest_begun a_stmt (started stmt_start stmt_kind) stmt_nests 2 1 (spot ∷ []) (omega arith)
        (chosen_begun (λ w. stmt_kind (stmt_start w)) (sort_of spot.word) 1 (spot ∷ []) (subst (λ start. Begins (stmt_kind start) 1 (spot ∷ [])) (sym is) b) (λ words. refl))

    marked : (m : Mark) (start : StmtStart) → stmt_start (sort.Mark m) ≡ start → sort_of spot.word ≡ sort.Mark m → Begins (stmt_kind start) 1 (record { word = word.Mark m; at = spot.at } ∷ []) → Begins a_stmt 2 (spot ∷ [])
    marked m start is_start is b = lift start (ap stmt_start is ∙ is_start) (subst (λ s. Begins (stmt_kind start) 1 (s ∷ [])) (sym (spot_mark spot m is)) b)

    barely : (m : Mark) (s : FileStmt) → Begins (meaning (λ _. s) (always (bare m))) 1 (record { word = word.Mark m; at = spot.at } ∷ [])
    barely m s = meaning_begun (λ _. s) (always (bare m)) 1 (record { word = word.Mark m; at = spot.at } ∷ []) (mark_begins m spot.at (λ p. p.0) semicolon)

    by_sort : (w : Sort) → sort_of spot.word ≡ w → stmt_start w ≢ starts.None → Begins a_stmt 2 (spot ∷ [])
    by_sort (sort.Mark mark.Nothing) is some = marked mark.Nothing starts.Nothing refl is (barely mark.Nothing stmt.Nothing)
    by_sort (sort.Mark mark.Pause) is some = marked mark.Pause starts.Pause refl is (barely mark.Pause (stmt.Pause None))
    by_sort (sort.Mark mark.Halt) is some = marked mark.Halt starts.Halt refl is (barely mark.Halt (stmt.Halt None))
    by_sort (sort.Mark mark.Await) is some = marked mark.Await starts.Await refl is (mark_begins mark.Await spot.at (λ p. stmt.Await None false p.1.0) (fill_then (cond_fill 1 one) semicolon (λ words h. refl)))
    by_sort (sort.Mark mark.Immediate) is some = marked mark.Immediate starts.Immediate refl is (mark_begins mark.Immediate spot.at (λ p. p.1) (after_immediate_fill 1 one))
    by_sort (sort.Mark mark.Weak) is some = marked mark.Weak starts.Weak refl is (mark_begins mark.Weak spot.at (λ p. p.1) (after_weak_fill 1 one))
    by_sort (sort.Mark mark.Abort) is some = marked mark.Abort (starts.Preempt preemption.Abort) refl is (mark_begins mark.Abort spot.at (λ q. preempted preemption.Abort false false q.1.0 q.1.1) (fill_then (stmt_fill 1 one) (closing_fill mark.When 1 one) (λ words h. refl)))
    by_sort (sort.Mark mark.Suspend) is some = marked mark.Suspend (starts.Preempt preemption.Suspend) refl is (mark_begins mark.Suspend spot.at (λ q. preempted preemption.Suspend false false q.1.0 q.1.1) (fill_then (stmt_fill 1 one) (closing_fill mark.When 1 one) (λ words h. refl)))
    by_sort (sort.Mark mark.Next) is some = marked mark.Next starts.Next refl is
        (meaning_begun (λ p. stmt.Assign p.0 p.1.0 p.1.1) _ 1 _ (first_begins _ (mark_begins mark.Next spot.at (λ p. record { next = true; name = p.1.1.0 }) (fill_then (mark_fill mark.OpenParen) (fill_then name_fill (mark_fill mark.CloseParen) (λ words h. refl)) (λ words h. refl))) (value_fill 1 one) (λ words h. refl)))
    by_sort (sort.Mark mark.Emit) is some = marked mark.Emit starts.Emit refl is (mark_begins mark.Emit spot.at (λ p. stmt.Emit p.1.0) (fill_then emitted_fill semicolon (λ words h. refl)))
    by_sort (sort.Mark mark.OpenBrace) is some = marked mark.OpenBrace starts.Block refl is
        (meaning_begun (λ b. stmt.Block b) _ 1 _ (mark_begins mark.OpenBrace spot.at (λ p. record { decls = p.1.0; lists = p.1.1 }) (fill_then decls_fill lists_fill (λ words h. refl))))
    by_sort (sort.Mark mark.If) is some = marked mark.If starts.If refl is
        (meaning_begun (λ p. stmt.If p.0 p.1.0 p.1.1) _ 1 _ (first_begins _ (mark_begins mark.If spot.at (λ p. p.1) (cond_fill 1 one)) (fill_then (stmt_fill 1 one) else_fill (λ words h. h)) (λ words h. refl)))
    by_sort (sort.Mark mark.Do) is some = marked mark.Do starts.Do refl is (mark_begins mark.Do spot.at (λ p. stmt.DoWhile p.1.0 p.1.1) (fill_then (stmt_fill 1 one) (closing_fill mark.While 1 one) (λ words h. refl)))
    by_sort (sort.Mark mark.While) is some = marked mark.While (starts.Round round.While) refl is
        (meaning_begun (λ p. rounded round.While p.0 p.1) _ 1 _ (first_begins _ (mark_begins mark.While spot.at (λ p. p.1) (cond_fill 1 one)) (stmt_fill 1 one) (λ words h. refl)))
    by_sort (sort.Mark mark.Every) is some = marked mark.Every (starts.Round round.Every) refl is
        (meaning_begun (λ p. rounded round.Every p.0 p.1) _ 1 _ (first_begins _ (mark_begins mark.Every spot.at (λ p. p.1) (cond_fill 1 one)) (stmt_fill 1 one) (λ words h. refl)))
    by_sort (sort.Mark mark.Loop) is some = marked mark.Loop starts.Loop refl is (mark_begins mark.Loop spot.at (λ p. stmt.Loop p.1) (stmt_fill 1 one))
    by_sort sort.Name is some =
        let n = spot_name spot is in
        lift starts.Name (ap stmt_start is) (subst (λ s. Begins (stmt_kind starts.Name) 1 (s ∷ [])) (sym n.1) (record {
          more = (name_rest_fill n.0 {room = 1}).more;
          phrase = (name_rest_fill n.0 {room = 1}).phrase;
          stands = λ levels low words h. ((n.0, (name_rest_fill n.0 {room = 1}).phrase), refl, ((name_rest_fill n.0 {room = 1}).more ++ words, refl, (name_rest_fill n.0 {room = 1}).stands levels low words h));
        }))
    by_sort w is some = absurd (some refl)

upcoming_spot : (ws : List Spot) → stmt_start (first ws) ≢ starts.None → (spot : Spot) × (more : List Spot) × (ws ≡ spot ∷ more)
upcoming_spot [] some = absurd (some refl)
upcoming_spot (s ∷ ws) some = (s, ws, refl)

needed : (start : StmtStart) (room : ℕ) → room < stmt_need start → start ≢ starts.None
needed start room low e = omega (arith, low, ap stmt_need e)

pub stmt_deep : (s : Cursor) (start : StmtStart) (room : ℕ) → start ≡ stmt_start (first (upcoming s)) → room < stmt_need start → Fails a_stmt room s s Deep
stmt_deep s start room is low =
    let real = needed start room low in
    let u = upcoming_spot (upcoming s) (λ e. real (is ∙ e)) in
    too_deep (λ others agrees levels rules y rest h. by_levels others agrees levels rules y rest h) u.0 u.1 u.2 2 (begun_by u.0 (sort_of u.0.word) refl (λ e. real (is ∙ ap (λ ws. stmt_start (first ws)) u.2 ∙ e)))
  where
    by_levels : (others : List Spot) → Agrees s others → (levels : ℕ) → levels ≤ room → (y : FileStmt) (rest : List Spot) → a_stmt levels y (drop s.read others) rest → ⊥
    by_levels others agrees zero rules y rest h = h
    by_levels others agrees (suc levels) rules y rest h =
        hollow start levels y (drop s.read others) rest (omega (arith, rules, low)) (subst (λ w. stmt_kind w levels y (drop s.read others) rest) (ap stmt_start (agrees_here s others agrees) ∙ sym is) h)

pub no_stmt : (s : Cursor) (start : StmtStart) (room : ℕ) → start ≡ stmt_start (first (upcoming s)) → start ≡ starts.None → Fails a_stmt room s s Parse
no_stmt s start room is none = no_phrase (λ others agrees levels y rest h. by_levels others agrees levels y rest h)
  where
    by_levels : (others : List Spot) → Agrees s others → (levels : ℕ) (y : FileStmt) (rest : List Spot) → a_stmt levels y (drop s.read others) rest → ⊥
    by_levels others agrees zero y rest h = h
    by_levels others agrees (suc levels) y rest h = subst (λ w. stmt_kind w levels y (drop s.read others) rest) (ap stmt_start (agrees_here s others agrees) ∙ sym is ∙ none) h

-- a row by what begins it
pub as_reads : {from to : StmtStart} {room : ℕ} {s0 s1 : Cursor} {x : FileStmt} → from ≡ to → ReadsSome (stmt_kind to) room s0 s1 x → ReadsSome (stmt_kind from) room s0 s1 x
as_reads {room = room} {s0} {s1} {x} is k = subst (λ s. ReadsSome (stmt_kind s) room s0 s1 x) (sym is) k

pub as_fails : {from to : StmtStart} {room : ℕ} {s0 s1 : Cursor} {why : Fault} → from ≡ to → Fails (stmt_kind to) room s0 s1 why → Fails (stmt_kind from) room s0 s1 why
as_fails {room = room} {s0} {s1} {why} is k = subst (λ s. Fails (stmt_kind s) room s0 s1 why) (sym is) k

pub as_hands : (from to : StmtStart) (room : ℕ) (s0 s1 : Cursor) (result : Result FileStmt Fault) → from ≡ to → Reads (stmt_kind to) room s0 s1 result → Reads (stmt_kind from) room s0 s1 result
as_hands from to room s0 s1 result is k = subst (λ s. Reads (stmt_kind s) room s0 s1 result) (sym is) k

pub some_need : (s : StmtStart) → s ≢ starts.None → 1 ≤ stmt_need s
some_need starts.None some = absurd (some refl)
some_need starts.Nothing some = omega arith
some_need starts.Pause some = omega arith
some_need starts.Halt some = omega arith
some_need starts.Name some = omega arith
some_need starts.Emit some = omega arith
some_need starts.Block some = omega arith
some_need s some = omega arith

abbrev pub preempt_kind : Bool → Bool → PreemptStart → Kind FileStmt
preempt_kind weak immediate start = λ levels. preempt_row (a_stmt levels) weak immediate start levels

abbrev pub weak_kind : WeakStart → Kind FileStmt
weak_kind start = λ levels. weak_row (a_stmt levels) start levels

abbrev pub immediate_kind : ImmediateStart → Kind FileStmt
immediate_kind start = λ levels. immediate_row (a_stmt levels) start levels

abbrev pub else_kind : ElseStart → Kind (Option FileStmt)
else_kind start = λ levels. else_row (a_stmt levels) start

pub else_missing : (s : Cursor) (room : ℕ) → other.None ≡ else_start (first (upcoming s)) → ReadsIt (λ levels. an_else (a_stmt levels)) room s s None
else_missing s room is = record {
  moves = still;
  front = [];
  read = refl;
  stands = λ levels low words may. subst (λ t. else_kind t levels None words words) (sym (missing words may)) (refl, refl);
  only = λ others agrees levels y rest h.
      let g = subst (λ t. else_kind t levels y (drop s.read others) rest) (ap else_start (agrees_here s others agrees) ∙ sym is) h in
      (g.0, sym g.1);
}
  where
    missing : (words : List Spot) → May (upcoming s) words → else_start (first words) ≡ other.None
    missing words (inl h) = no_else (first words) h
    missing words (inr e) = ap else_start e ∙ sym is
