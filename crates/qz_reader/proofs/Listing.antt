-- The lists of a block, and its declarations.
use Rattle.std.proofs.Common.{◌≡◌, ℕ, zero, suc, Bool, true, false, IsTrue, IsFalse, List, [], ◌∷◌, ◌++◌, map, inl, inr, drop, sym, refl, ap, subst, ◌∙◌}
use Rattle.qz_syntax.specs.declared.files.FileDecl.{FileDecl}
use Rattle.qz_syntax.specs.declared.file_statements.FileStmt.{FileStmt}
use Rattle.qz_phrases.specs.declared.words.Spot.{Spot}
use Rattle.qz_phrases.specs.declared.words.Sort.{Sort}
use Rattle.qz_phrases.specs.declared.words.Sort.TheVariants as sort
use Rattle.qz_phrases.specs.declared.words.Mark.TheVariants as mark
use Rattle.qz_phrases.specs.declared.cursor.Cursor.{Cursor}
use Rattle.qz_phrases.specs.declared.cursor.Fault.{Fault}
use Rattle.qz_phrases.specs.Words.{first, closes, typing_start}
use Rattle.qz_phrases.specs.Phrases.{Kind, stop}
use Rattle.qz_phrases.specs.Declarations.{declares, typing_row, a_decl}
use Rattle.qz_phrases.specs.Reading.{upcoming, Agrees, Moves, May, ReadsIt, ReadsSome, Fails}
use Rattle.qz_phrases.proofs.Ahead.{agrees_before, agrees_here, still}
use Rattle.qz_phrases.proofs.Combining.{Fill, Clear, always, meaning_it, meaning_fails}
use Rattle.qz_phrases.proofs.Lists.{row_kind, ListSoFar, none_yet, one_more, ended, ended_some, item_fails, end_fails, end_fill}
use Rattle.qz_reader.specs.declared.starts.EndStart.TheVariants as end
use Rattle.qz_reader.specs.declared.starts.StmtStart.TheVariants as starts
use Rattle.qz_reader.specs.Starts.{end_start, ends_list, stmt_start}
use Rattle.qz_reader.specs.Statements.{end_row, list_end, a_list, no_list, lists, decls, stmt_row, a_stmt}
use Rattle.qz_reader.proofs.StatementFills.{no_decl, list_end_fill, lists_rest}

untrue : (b : Bool) → b ≡ true → IsFalse b → ⊥
untrue true is h = cc (h)
untrue false is h = cc (is)

is_false : (b : Bool) → b ≡ false → IsFalse b
is_false false is = search
is_false true is = absurd (cc (is))

-- no more of what such a word begins
pub stopped : (more : Sort → Bool) → ((w : Sort) → IsTrue (closes w) → IsFalse (more w)) → (s : Cursor) (room : ℕ) → more (first (upcoming s)) ≡ false → ReadsIt (always (stop more)) room s s tt
stopped more closed s room is = record {
  moves = still;
  front = [];
  read = refl;
  stands = λ levels low words may. (refl, no_more words may);
  only = λ others agrees levels y rest h. (refl, sym h.0);
}
  where
    no_more : (words : List Spot) → May (upcoming s) words → IsFalse (more (first words))
    no_more words (inl h) = closed (first words) h
    no_more words (inr e) = is_false (more (first words)) (ap more e ∙ is)

abbrev pub DeclsSoFar : ℕ → Cursor → List FileDecl → Cursor → Type 0
DeclsSoFar room start decls now = ListSoFar (λ (s : Unit {0}). always a_decl) (λ _. tt) (λ _. always (stop declares)) room start tt decls tt now

abbrev pub stop_fill : {room : ℕ} → (s : Unit {0}) → Fill (always (stop declares)) room
stop_fill s = record { more = []; phrase = tt; stands = λ levels low words h. (refl, no_decl (first words) h) }

abbrev pub rest_decls : {room : ℕ} → (s : Unit {0}) → Fill (row_kind (λ (s : Unit {0}). always a_decl) (λ _. tt) (λ _. always (stop declares)) s) room
rest_decls = end_fill {item = λ (s : Unit {0}). always a_decl} {next = λ _. tt} {end = λ _. always (stop declares)} stop_fill

pub no_decls : (room : ℕ) (start : Cursor) → DeclsSoFar room start [] start
no_decls room start = none_yet (λ (s : Unit {0}). always a_decl) (λ _. tt) (λ _. always (stop declares)) room start tt

-- where a declaration comes, it isn't the end of them
decl_here : (now after : Cursor) → Moves now after → declares (first (upcoming now)) ≡ true → (others : List Spot) → Agrees after others → (levels : ℕ) (y : Unit {0}) (rest : List Spot) → stop declares y (drop now.read others) rest → ⊥
decl_here now after moves is others agrees levels y rest h = untrue _ (ap declares (agrees_here now others (agrees_before now after others moves agrees)) ∙ is) h.1

pub decls_more : (room : ℕ) (start now after : Cursor) (ds : List FileDecl) (d : FileDecl) → DeclsSoFar room start ds now → declares (first (upcoming now)) ≡ true → ReadsSome (always a_decl) room now after d → DeclsSoFar room start (ds ++ d ∷ []) after
decls_more room start now after ds d so_far is k = one_more (λ (s : Unit {0}). always a_decl) (λ _. tt) (λ _. always (stop declares)) room start tt ds tt now so_far after d (decl_here now after k.it.moves is) k

pub decls_fails : (room : ℕ) (start now after : Cursor) (ds : List FileDecl) (why : Fault) → DeclsSoFar room start ds now → declares (first (upcoming now)) ≡ true → Fails (always a_decl) room now after why → Fails (always decls) room start after why
decls_fails room start now after ds why so_far is k = meaning_fails (λ p. p.0)
    (item_fails (λ (s : Unit {0}). always a_decl) (λ _. tt) (λ _. always (stop declares)) room start tt ds tt now so_far rest_decls (λ s words h. h) after why (decl_here now after k.moves is) k)

-- what begins a declaration
typed : (d : FileDecl) (words rest : List Spot) → a_decl d words rest → declares (first words) ≡ false → ⊥
typed d words rest h lacks = by_sort (first words) h.2.1 lacks
  where
    by_sort : (w : Sort) → typing_row (typing_start w) h.0.0 words h.2.0 → declares w ≡ false → ⊥
    by_sort (sort.Mark mark.Event) h lacks = cc (lacks)
    by_sort (sort.Mark mark.Mem) h lacks = cc (lacks)
    by_sort (sort.Mark mark.Bool) h lacks = cc (lacks)
    by_sort (sort.Mark mark.Bv) h lacks = cc (lacks)
    by_sort w h lacks = h

pub decls_end : (room : ℕ) (start now : Cursor) (ds : List FileDecl) → DeclsSoFar room start ds now → declares (first (upcoming now)) ≡ false → ReadsIt (always decls) room start now ds
decls_end room start now ds so_far is = meaning_it (λ p. p.0) (ended (λ (s : Unit {0}). always a_decl) (λ _. tt) (λ _. always (stop declares)) room start tt ds tt now so_far now tt
    (λ others agrees levels d rest h. typed d (drop now.read others) rest h (ap declares (agrees_here now others agrees) ∙ is)) (stopped declares no_decl now room is))

-- statements of a list
abbrev pub StmtsSoFar : ℕ → Cursor → List FileStmt → Cursor → Type 0
StmtsSoFar room start list now = ListSoFar (λ (s : Unit {0}). a_stmt) (λ _. tt) (λ _. always list_end) room start tt list tt now

abbrev pub rest_stmts : {room : ℕ} → (s : Unit {0}) → Fill (row_kind (λ (s : Unit {0}). a_stmt) (λ _. tt) (λ _. always list_end) s) room
rest_stmts = end_fill {item = λ (s : Unit {0}). a_stmt} {next = λ _. tt} {end = λ _. always list_end} (λ s. list_end_fill)

no_end : (w : Sort) → ends_list w ≡ false → end_start w ≡ end.None
no_end (sort.Mark mark.BarBar) is = absurd (cc (is))
no_end (sort.Mark mark.CloseBrace) is = absurd (cc (is))
no_end w is = refl

no_start : (w : Sort) → ends_list w ≡ true → stmt_start w ≡ starts.None
no_start (sort.Mark mark.BarBar) is = refl
no_start (sort.Mark mark.CloseBrace) is = refl
no_start w is = absurd (cc (is))

pub no_stmts : (room : ℕ) (start : Cursor) → StmtsSoFar room start [] start
no_stmts room start = none_yet (λ (s : Unit {0}). a_stmt) (λ _. tt) (λ _. always list_end) room start tt

goes_on : (now after : Cursor) → Moves now after → ends_list (first (upcoming now)) ≡ false → (others : List Spot) → Agrees after others → (levels : ℕ) (y : Bool) (rest : List Spot) → list_end y (drop now.read others) rest → ⊥
goes_on now after moves is others agrees levels y rest h =
    subst (λ e. end_row e y (drop now.read others) rest) (ap end_start (agrees_here now others (agrees_before now after others moves agrees)) ∙ no_end (first (upcoming now)) is) h

no_more : (now after : Cursor) → Moves now after → ends_list (first (upcoming now)) ≡ true → (others : List Spot) → Agrees after others → (levels : ℕ) (y : FileStmt) (rest : List Spot) → a_stmt levels y (drop now.read others) rest → ⊥
no_more now after moves is others agrees zero y rest h = h
no_more now after moves is others agrees (suc levels) y rest h =
    subst (λ e. stmt_row (a_stmt levels) e levels y (drop now.read others) rest) (ap stmt_start (agrees_here now others (agrees_before now after others moves agrees)) ∙ no_start (first (upcoming now)) is) h

pub stmts_more : (room : ℕ) (start now after : Cursor) (ss : List FileStmt) (s : FileStmt) → StmtsSoFar room start ss now → ends_list (first (upcoming now)) ≡ false → ReadsSome a_stmt room now after s → StmtsSoFar room start (ss ++ s ∷ []) after
stmts_more room start now after ss s so_far is k = one_more (λ (s : Unit {0}). a_stmt) (λ _. tt) (λ _. always list_end) room start tt ss tt now so_far after s (goes_on now after k.it.moves is) k

pub stmts_fails : (room : ℕ) (start now after : Cursor) (ss : List FileStmt) (why : Fault) → StmtsSoFar room start ss now → ends_list (first (upcoming now)) ≡ false → Fails a_stmt room now after why → Fails (λ levels. a_list (a_stmt levels) true) room start after why
stmts_fails room start now after ss why so_far is k = item_fails (λ (s : Unit {0}). a_stmt) (λ _. tt) (λ _. always list_end) room start tt ss tt now so_far rest_stmts (λ s words h. refl) after why (goes_on now after k.moves is) k

pub stmts_unended : (room : ℕ) (start now after : Cursor) (ss : List FileStmt) (why : Fault) → StmtsSoFar room start ss now → ends_list (first (upcoming now)) ≡ true → Fails (always list_end) room now after why → Fails (λ levels. a_list (a_stmt levels) true) room start after why
stmts_unended room start now after ss why so_far is k = end_fails (λ (s : Unit {0}). a_stmt) (λ _. tt) (λ _. always list_end) room start tt ss tt now so_far rest_stmts (λ s words h. refl) after why (no_more now after k.moves is) k

pub stmts_end : (room : ℕ) (start now after : Cursor) (ss : List FileStmt) (another : Bool) → StmtsSoFar room start ss now → ends_list (first (upcoming now)) ≡ true → ReadsSome (always list_end) room now after another → ReadsSome (λ levels. a_list (a_stmt levels) true) room start after (ss, another)
stmts_end room start now after ss another so_far is k = ended_some (λ (s : Unit {0}). a_stmt) (λ _. tt) (λ _. always list_end) room start tt ss tt now so_far after another (no_more now after k.it.moves is) k

-- lists of statements
abbrev list_item : Bool → Kind (List FileStmt × Bool)
list_item s = λ levels. a_list (a_stmt levels) s

abbrev list_next : List FileStmt × Bool → Bool
list_next l = l.1

abbrev list_stop : Bool → Kind (Unit {0})
list_stop s = λ levels. no_list s

abbrev pub ListsSoFar : ℕ → Cursor → List (List FileStmt) → Bool → Cursor → Type 0
ListsSoFar room start ls more now = (xs : List (List FileStmt × Bool)) × (ls ≡ map (λ (l : List FileStmt × Bool). l.0) xs) × ListSoFar list_item list_next list_stop room start true xs more now

pub no_lists : (room : ℕ) (start : Cursor) → ListsSoFar room start [] true start
no_lists room start = ([], refl, none_yet list_item list_next list_stop room start true)

map_more : (xs : List (List FileStmt × Bool)) (x : List FileStmt × Bool) → map (λ (l : List FileStmt × Bool). l.0) (xs ++ x ∷ []) ≡ map (λ (l : List FileStmt × Bool). l.0) xs ++ x.0 ∷ []
map_more [] x = refl
map_more (y ∷ xs) x = ap (λ ls. y.0 ∷ ls) (map_more xs x)

unstopped : (more : Bool) → more ≡ true → (y : Unit {0}) (words rest : List Spot) → no_list more y words rest → ⊥
unstopped true is y words rest h = h
unstopped false is y words rest h = cc (is)

unlisted : (more : Bool) → more ≡ false → (levels : ℕ) (y : List FileStmt × Bool) (words rest : List Spot) → a_list (a_stmt levels) more y words rest → ⊥
unlisted true is levels y words rest h = cc (is)
unlisted false is levels y words rest h = h

pub lists_more : (room : ℕ) (start now after : Cursor) (ls : List (List FileStmt)) (more : Bool) (list : List FileStmt) (another : Bool) → ListsSoFar room start ls more now → more ≡ true → ReadsSome (λ levels. a_list (a_stmt levels) true) room now after (list, another) → ListsSoFar room start (ls ++ list ∷ []) another after
lists_more room start now after ls more list another so_far is k = (
  so_far.0 ++ (list, another) ∷ [],
  ap (λ ls. ls ++ list ∷ []) so_far.1 ∙ sym (map_more so_far.0 (list, another)),
  one_more list_item list_next list_stop room start true so_far.0 more now so_far.2 after (list, another) (λ others agrees levels y rest h. unstopped more is y (drop now.read others) rest h)
      (subst (λ m. ReadsSome (list_item m) room now after (list, another)) (sym is) k),
)

pub lists_fails : (room : ℕ) (start now after : Cursor) (ls : List (List FileStmt)) (more : Bool) (why : Fault) → ListsSoFar room start ls more now → more ≡ true → Fails (λ levels. a_list (a_stmt levels) true) room now after why → Fails (λ levels. lists (a_stmt levels)) room start after why
lists_fails room start now after ls more why so_far is k = meaning_fails (λ p. map (λ (l : List FileStmt × Bool). l.0) p.0)
    (item_fails list_item list_next list_stop room start true so_far.0 more now so_far.2 lists_rest clear after why (λ others agrees levels y rest h. unstopped more is y (drop now.read others) rest h)
    (subst (λ m. Fails (list_item m) room now after why) (sym is) k))
  where
    clear : (s : Bool) → Clear (lists_rest {room = room} s)
    clear true words h = refl
    clear false words h = h

pub lists_end : (room : ℕ) (start now : Cursor) (ls : List (List FileStmt)) (more : Bool) → ListsSoFar room start ls more now → more ≡ false → ReadsIt (λ levels. lists (a_stmt levels)) room start now ls
lists_end room start now ls more so_far is = subst (λ ls. ReadsIt (λ levels. lists (a_stmt levels)) room start now ls) (sym so_far.1)
    (meaning_it (λ p. map (λ (l : List FileStmt × Bool). l.0) p.0) (ended list_item list_next list_stop room start true so_far.0 more now so_far.2 now tt
    (λ others agrees levels y rest h. unlisted more is levels y (drop now.read others) rest h) (subst (λ m. ReadsIt (list_stop m) room now now tt) (sym is) no_words)))
  where
    no_words : ReadsIt (list_stop false) room now now tt
    no_words = record { moves = still; front = []; read = refl; stands = λ levels low words may. (refl, refl); only = λ others agrees levels y rest h. (refl, sym h.1) }
