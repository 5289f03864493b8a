-- The words that are printed of statements spell them again.
use Rattle.std.proofs.Common.{◌≡◌, ℕ, zero, suc, Bool, true, false, List, [], ◌∷◌, ◌++◌, map, drop, Option, Some, None, sym, refl, ap, ap₂, ◌∙◌, subst, append_assoc, append-nil}
use Rattle.std.specs.List.{flat_map, join_by}
use Rattle.qz_syntax.specs.declared.files.FileDecl.{FileDecl}
use Rattle.qz_syntax.specs.declared.file_expressions.NameAt.{NameAt}
use Rattle.qz_syntax.specs.declared.file_expressions.FileExpr.{FileExpr}
use Rattle.qz_syntax.specs.declared.file_statements.Cond.{Cond}
use Rattle.qz_syntax.specs.declared.file_statements.FileBlock.{FileBlock}
use Rattle.qz_syntax.specs.declared.file_statements.FileStmt.{FileStmt}
use Rattle.qz_syntax.specs.declared.file_statements.FileStmt.TheVariants as stmt
use Rattle.qz_phrases.specs.declared.words.Word.{Word}
use Rattle.qz_phrases.specs.declared.words.Word.TheVariants as word
use Rattle.qz_phrases.specs.declared.words.Sort.{Sort}
use Rattle.qz_phrases.specs.declared.words.Mark.{Mark}
use Rattle.qz_phrases.specs.declared.words.Mark.TheVariants as mark
use Rattle.qz_phrases.specs.declared.words.Spot.{Spot}
use Rattle.qz_phrases.specs.Phrases.{Rel, one, stop, many}
use Rattle.qz_phrases.specs.Declarations.{declares, a_decl}
use Rattle.qz_phrases.specs.StatementParts.{next_arg}
use Rattle.qz_reader.specs.declared.starts.RestStart.{RestStart}
use Rattle.qz_reader.specs.declared.starts.RestStart.TheVariants as rest
use Rattle.qz_reader.specs.declared.starts.ArgsStart.{ArgsStart}
use Rattle.qz_reader.specs.declared.starts.ArgsStart.TheVariants as args
use Rattle.qz_reader.specs.declared.starts.NamedStart.{NamedStart}
use Rattle.qz_reader.specs.declared.starts.NamedStart.TheVariants as named
use Rattle.qz_reader.specs.declared.starts.Preemption.{Preemption}
use Rattle.qz_reader.specs.declared.starts.Preemption.TheVariants as preemption
use Rattle.qz_reader.specs.declared.starts.PreemptStart.{PreemptStart}
use Rattle.qz_reader.specs.declared.starts.PreemptStart.TheVariants as preempt
use Rattle.qz_reader.specs.declared.starts.WeakStart.{WeakStart}
use Rattle.qz_reader.specs.declared.starts.WeakStart.TheVariants as weak
use Rattle.qz_reader.specs.declared.starts.ImmediateStart.{ImmediateStart}
use Rattle.qz_reader.specs.declared.starts.ImmediateStart.TheVariants as immediate
use Rattle.qz_reader.specs.declared.starts.ElseStart.{ElseStart}
use Rattle.qz_reader.specs.declared.starts.ElseStart.TheVariants as other
use Rattle.qz_reader.specs.declared.starts.EndStart.{EndStart}
use Rattle.qz_reader.specs.declared.starts.EndStart.TheVariants as end
use Rattle.qz_reader.specs.declared.starts.Round.{Round}
use Rattle.qz_reader.specs.declared.starts.Round.TheVariants as round
use Rattle.qz_reader.specs.declared.starts.StmtStart.{StmtStart}
use Rattle.qz_reader.specs.declared.starts.StmtStart.TheVariants as start
use Rattle.qz_reader.specs.Starts.{rest_start, args_start, named_start, preempt_start, preemption_mark, weak_start, immediate_start, else_start, end_start, round_mark, stmt_start}
use Rattle.qz_phrases.specs.Words.{first}
use Rattle.qz_reader.specs.Statements.{bare, guarded, closing, rest_row, resting, args_row, arguments, called, named_row, after_name, preempted, preempting, preempt_row, a_preemption, weak_row, after_weak, immediate_row, after_immediate, else_row, an_else, end_row, list_end, a_list, no_list, lists, decls, a_block, rounded, stmt_row, a_stmt}
use Rattle.qz_printer.specs.Expressions.{one as word_one, expr_words}
use Rattle.qz_printer.specs.Declarations.{listed, decl_words}
use Rattle.qz_printer.specs.Statements.{cond_words, kind_words, closing_words, stmt_words, block_words}
use Rattle.qz_printer.proofs.Equations.{words-Nothing, words-Pause, words-Halt, words-Await, words-Assign, words-Emit, words-Block, words-If, words-IfElse, words-DoWhile, words-While, words-Loop, words-Every, words-Abort, words-Suspend, words-Call, words_of_block}
use Rattle.printer_laws.specs.Offsets.{plain_expr, plain_decl, plain_stmt}
use Rattle.printer_laws.proofs.Keeping.{IsFine, Free, Same, Keeps, Any, loose, keep_none, keep_one, keep_name, SameName, keep_seq, keep_seq_by, keep_meant, keep_mean, keep_first, keep_nothing, keep_stop, keep_same}
use Rattle.printer_laws.proofs.KeepingLists.{prints, prints_are, keep_list, keep_several}
use Rattle.printer_laws.proofs.PlainForms.{SameCond, SameStmt, SameBlock, plain_block_is, same-Pause, same-Halt, same-Await, same-Assign, same-Emit, same-Block, same-If, same-IfElse, same-DoWhile, same-While, same-Loop, same-Every, same-Abort, same-Suspend, same-Call}
use Rattle.printer_laws.proofs.KeepingExpressions.{keep_expr}
use Rattle.printer_laws.proofs.KeepingParts.{keep_cond, keep_next_target, keep_value, keep_awaited, next_words, keep_next_arg, keep_emitted, keep_decl}

abbrev bare_words : Mark → ℕ → List Word
bare_words m at = word.Mark m ∷ word_one mark.Semicolon

keep_bare : {F : Sort → Sort → Type 0} (m : Mark) → IsFine (word.Mark m) → Keeps F Same (bare_words m) Any (bare m) (bare m)
keep_bare m used = keep_mean (λ p. p.0) (λ p. refl) (λ p q same. tt) (keep_seq {G = Same} (keep_one m used) (keep_one mark.Semicolon tt))

abbrev guarded_words : Mark → Cond → List Word
guarded_words m c = word.Mark m ∷ cond_words c

keep_guarded : {F : Sort → Sort → Type 0} (m : Mark) → IsFine (word.Mark m) → (levels : ℕ) → Keeps F Same (guarded_words m) SameCond (guarded m levels) (guarded m levels)
keep_guarded m used levels = keep_mean (λ p. p.1) (λ p. refl) (λ p q same. same.1) (keep_seq {G = Same} (keep_one m used) (keep_cond levels))

abbrev ending_words : Mark → Cond → List Word
ending_words m c = word.Mark m ∷ closing_words c

keep_closing : {F : Sort → Sort → Type 0} (m : Mark) → IsFine (word.Mark m) → (levels : ℕ) → Keeps F Same (ending_words m) SameCond (closing m levels) (closing m levels)
keep_closing m used levels = keep_mean (λ p. p.1.0) (λ p. refl) (λ p q same. same.1.0) (keep_seq {G = Same} (keep_one m used) (keep_seq {G = Same} (keep_cond levels) (keep_one mark.Semicolon tt)))

-- the words of a statement after its first ones
abbrev after_one : FileStmt → List Word
after_one s = drop 1 (stmt_words s)

abbrev after_two : FileStmt → List Word
after_two s = drop 2 (stmt_words s)

abbrev after_three : FileStmt → List Word
after_three s = drop 3 (stmt_words s)

-- statements after a label
await_immediate : (l : NameAt) (c : Cond) → after_two (stmt.Await (Some l) true c) ≡ word.Mark mark.Immediate ∷ after_three (stmt.Await (Some l) true c)
await_immediate l c = subst (λ ws. drop 2 ws ≡ word.Mark mark.Immediate ∷ drop 3 ws) (sym (words-Await (Some l) true c)) refl

keep_rest_row : {F : Sort → Sort → Type 0} (l k : NameAt) → SameName l k → (r : RestStart) (levels : ℕ) → Keeps F Same after_two SameStmt (rest_row (Some l) r levels) (rest_row (Some k) r levels)
keep_rest_row l k same rest.Pause levels =
    keep_meant (λ _. stmt.Pause (Some l)) (λ _. stmt.Pause (Some k)) (λ x ws rest is. ap (drop 2) (words-Pause (Some l))) (λ x ws rest is. ap (drop 2) (words-Pause (Some k)))
    (λ x y e. same-Pause (Some l) (Some k) (ap Some same)) (keep_bare mark.Pause tt)
keep_rest_row l k same rest.Halt levels =
    keep_meant (λ _. stmt.Halt (Some l)) (λ _. stmt.Halt (Some k)) (λ x ws rest is. ap (drop 2) (words-Halt (Some l))) (λ x ws rest is. ap (drop 2) (words-Halt (Some k)))
    (λ x y e. same-Halt (Some l) (Some k) (ap Some same)) (keep_bare mark.Halt tt)
keep_rest_row l k same rest.Await levels =
    keep_awaited after_two (Some l) (Some k) false levels (λ c. ap (drop 2) (words-Await (Some l) false c)) (λ c. ap (drop 2) (words-Await (Some k) false c))
    (λ c d e. same-Await (Some l) (Some k) false c d (ap Some same) e)
keep_rest_row l k same rest.Immediate levels =
    keep_meant (λ p. p.1) (λ p. p.1)
    (λ p ws rest is. subst (λ s. after_two s ≡ word.Mark mark.Immediate ∷ after_three s) (sym is.2.1) (await_immediate l is.2.0.1.0))
    (λ p ws rest is. subst (λ s. after_two s ≡ word.Mark mark.Immediate ∷ after_three s) (sym is.2.1) (await_immediate k is.2.0.1.0))
    (λ p q e. e.1)
    (keep_seq {G = Same} (keep_one mark.Immediate tt)
    (keep_awaited after_three (Some l) (Some k) true levels (λ c. ap (drop 3) (words-Await (Some l) true c)) (λ c. ap (drop 3) (words-Await (Some k) true c))
    (λ c d e. same-Await (Some l) (Some k) true c d (ap Some same) e)))
keep_rest_row l k same rest.None levels = keep_none after_two SameStmt (rest_row (Some k) rest.None levels)

keep_resting : {F : Sort → Sort → Type 0} (l k : NameAt) → SameName l k → (levels : ℕ) → Keeps F Same after_two SameStmt (resting (Some l) levels) (resting (Some k) levels)
keep_resting l k same levels = keep_first (λ w. keep_rest_row l k same (rest_start w) levels)

-- they begin with the label and a colon
abbrev IsLabelled : NameAt → FileStmt → Type 0
IsLabelled l s = stmt_words s ≡ word.Name l.name ∷ word.Mark mark.Colon ∷ after_two s

abbrev IsLabelling : NameAt → List Word → Type 0
IsLabelling l ws = ws ≡ word.Name l.name ∷ word.Mark mark.Colon ∷ drop 2 ws

labelled : (l : NameAt) (r : RestStart) (levels : ℕ) (s : FileStmt) (ws after : List Spot) → rest_row (Some l) r levels s ws after → IsLabelled l s
labelled l rest.Pause levels s ws after is = subst (IsLabelling l) (sym (ap stmt_words is.1 ∙ words-Pause (Some l))) refl
labelled l rest.Halt levels s ws after is = subst (IsLabelling l) (sym (ap stmt_words is.1 ∙ words-Halt (Some l))) refl
labelled l rest.Await levels s ws after is = subst (IsLabelling l) (sym (ap stmt_words is.1 ∙ words-Await (Some l) false is.0.1.0)) refl
labelled l rest.Immediate levels s ws after is = subst (IsLabelling l) (sym (ap stmt_words (is.1 ∙ is.2.2.1) ∙ words-Await (Some l) true is.2.2.0.1.0)) refl
labelled l rest.None levels s ws after is = absurd is

-- calls
abbrev args_words : List FileExpr → List Word
args_words es = listed expr_words es ++ word_one mark.CloseParen

abbrev SameArgs : List FileExpr → List FileExpr → Type 0
SameArgs es fs = map plain_expr es ≡ map plain_expr fs

keep_args_row : {F : Sort → Sort → Type 0} (a : ArgsStart) (levels : ℕ) → Keeps F Same args_words SameArgs (args_row a levels) (args_row a levels)
keep_args_row args.Close levels = keep_mean (λ _. []) (λ _. refl) (λ x y same. refl) (keep_one mark.CloseParen tt)
keep_args_row args.Argument levels =
    keep_mean (λ p. p.0 ∷ p.1.0)
    (λ p. append_assoc (expr_words p.0) (flat_map next_words p.1.0) (word_one mark.CloseParen) ∙ ap (λ l. expr_words p.0 ++ l) (sym (prints_are next_words (λ (at : ℕ). word_one mark.CloseParen) p.1.0 p.1.1)))
    (λ p q same. ap₂ (λ e es. e ∷ es) same.0 same.1.0)
    (keep_seq (keep_expr 1 levels) (keep_several plain_expr (next_arg levels) (one mark.CloseParen) (keep_next_arg levels) (keep_one mark.CloseParen tt)))

keep_arguments : {F : Sort → Sort → Type 0} (levels : ℕ) → Keeps F Same args_words SameArgs (arguments levels) (arguments levels)
keep_arguments levels = keep_first (λ w. keep_args_row (args_start w) levels)

abbrev called_words : List FileExpr → List Word
called_words es = word.Mark mark.OpenParen ∷ (listed expr_words es ++ word.Mark mark.CloseParen ∷ word_one mark.Semicolon)

keep_called : {F : Sort → Sort → Type 0} (levels : ℕ) → Keeps F Same called_words SameArgs (called levels) (called levels)
keep_called levels =
    keep_mean (λ p. p.1.0) (λ p. ap (λ l. word.Mark mark.OpenParen ∷ l) (sym (append_assoc (listed expr_words p.1.0) (word_one mark.CloseParen) (word_one mark.Semicolon)))) (λ p q same. same.1.0)
    (keep_seq {G = Same} (keep_one mark.OpenParen tt) (keep_seq {G = Same} (keep_arguments levels) (keep_one mark.Semicolon tt)))

-- what begins with a name
keep_named_row : {F : Sort → Sort → Type 0} (n m : NameAt) → SameName n m → (s : NamedStart) (levels : ℕ) → Keeps F Same after_one SameStmt (named_row n s levels) (named_row m s levels)
keep_named_row n m same named.Equals levels =
    keep_meant (λ p. stmt.Assign (record { next = false; name = n }) p.0 p.1) (λ p. stmt.Assign (record { next = false; name = m }) p.0 p.1)
    (λ p ws rest is. ap (drop 1) (words-Assign (record { next = false; name = n }) p.0 p.1)) (λ p ws rest is. ap (drop 1) (words-Assign (record { next = false; name = m }) p.0 p.1))
    (λ p q e. same-Assign (record { next = false; name = n }) (record { next = false; name = m }) p.0 q.0 p.1 q.1 (ap (λ k. record { next = false; name = k }) same) e) (keep_value levels)
keep_named_row n m same named.Paren levels =
    keep_meant (λ es. stmt.Call n es) (λ es. stmt.Call m es) (λ es ws rest is. ap (drop 1) (words-Call n es)) (λ es ws rest is. ap (drop 1) (words-Call m es)) (λ es fs e. same-Call n m es fs same e) (keep_called levels)
keep_named_row n m same named.Colon levels =
    keep_meant (λ p. p.1) (λ p. p.1) (λ p ws rest is. ap (drop 1) (labelled n (rest_start (first is.0)) levels p.1 is.0 rest is.2)) (λ p ws rest is. ap (drop 1) (labelled m (rest_start (first is.0)) levels p.1 is.0 rest is.2))
    (λ p q e. e.1) (keep_seq {G = Same} (keep_one mark.Colon tt) (keep_resting n m same levels))
keep_named_row n m same named.None levels = keep_none after_one SameStmt (named_row m named.None levels)

keep_after_name : {F : Sort → Sort → Type 0} (n m : NameAt) → SameName n m → (levels : ℕ) → Keeps F Same after_one SameStmt (after_name n levels) (after_name m levels)
keep_after_name n m same levels = keep_first (λ w. keep_named_row n m same (named_start w) levels)

abbrev IsNamed : NameAt → List Word → Type 0
IsNamed n ws = ws ≡ word.Name n.name ∷ drop 1 ws

named_first : (n : NameAt) (r : NamedStart) (levels : ℕ) (s : FileStmt) (ws after : List Spot) → named_row n r levels s ws after → IsNamed n (stmt_words s)
named_first n named.Equals levels s ws after is = subst (IsNamed n) (sym (ap stmt_words is.1 ∙ words-Assign (record { next = false; name = n }) is.0.0 is.0.1)) refl
named_first n named.Paren levels s ws after is = subst (IsNamed n) (sym (ap stmt_words is.1 ∙ words-Call n is.0)) refl
named_first n named.Colon levels s ws after is =
    let l = labelled n (rest_start (first is.2.0)) levels is.0.1 is.2.0 after is.2.2 in
    subst (λ t. IsNamed n (stmt_words t)) (sym is.1) (l ∙ ap (λ ws. word.Name n.name ∷ ws) (sym (ap (drop 1) l)))
named_first n named.None levels s ws after is = absurd is

-- aborts and suspends
preempted_words : (p : Preemption) (weak immediate : Bool) (s : FileStmt) (c : Cond)
    → stmt_words (preempted p weak immediate s c) ≡ kind_words (record { weak = weak; immediate = immediate }) ++ word.Mark (preemption_mark p) ∷ (stmt_words s ++ word.Mark mark.When ∷ closing_words c)
preempted_words preemption.Abort weak immediate s c = words-Abort (record { weak = weak; immediate = immediate }) s c
preempted_words preemption.Suspend weak immediate s c = words-Suspend (record { weak = weak; immediate = immediate }) s c

same_preempted : (p : Preemption) (weak immediate : Bool) (s t : FileStmt) (c d : Cond) → SameStmt s t → SameCond c d → SameStmt (preempted p weak immediate s c) (preempted p weak immediate t d)
same_preempted preemption.Abort weak immediate s t c d e f = same-Abort (record { weak = weak; immediate = immediate }) s t c d e f
same_preempted preemption.Suspend weak immediate s t c d e f = same-Suspend (record { weak = weak; immediate = immediate }) s t c d e f

used_preemption : (p : Preemption) → IsFine (word.Mark (preemption_mark p))
used_preemption preemption.Abort = tt
used_preemption preemption.Suspend = tt

used_round : (r : Round) → IsFine (word.Mark (round_mark r))
used_round round.While = tt
used_round round.Every = tt

-- the side of an `if` for false
abbrev else_words : Option FileStmt → List Word
else_words None = []
else_words (Some s) = word.Mark mark.Else ∷ stmt_words s

abbrev SameElse : Option FileStmt → Option FileStmt → Type 0
SameElse None None = Unit {0}
SameElse (Some s) (Some t) = SameStmt s t
SameElse None (Some t) = ⊥
SameElse (Some s) None = ⊥

if_words : (c : Cond) (s : FileStmt) (e : Option FileStmt) → stmt_words (stmt.If c s e) ≡ word.Mark mark.If ∷ (cond_words c ++ (stmt_words s ++ else_words e))
if_words c s None = words-If c s
if_words c s (Some t) = words-IfElse c s t

same_if : (c d : Cond) (s t : FileStmt) (x y : Option FileStmt) → SameCond c d → SameStmt s t → SameElse x y → SameStmt (stmt.If c s x) (stmt.If d t y)
same_if c d s t None None e f g = same-If c d s t e f
same_if c d s t (Some u) (Some v) e f g = same-IfElse c d s t u v e f g
same_if c d s t None (Some v) e f g = absurd g
same_if c d s t (Some u) None e f g = absurd g

rounded_words : (r : Round) (c : Cond) (s : FileStmt) → stmt_words (rounded r c s) ≡ word.Mark (round_mark r) ∷ (cond_words c ++ stmt_words s)
rounded_words round.While c s = words-While c s
rounded_words round.Every c s = words-Every c s

same_rounded : (r : Round) (c d : Cond) (s t : FileStmt) → SameCond c d → SameStmt s t → SameStmt (rounded r c s) (rounded r d t)
same_rounded round.While c d s t e f = same-While c d s t e f
same_rounded round.Every c d s t e f = same-Every c d s t e f

-- the declarations of a block
abbrev decls_words : List FileDecl → List Word
decls_words ds = flat_map decl_words ds

abbrev SameDecls : List FileDecl → List FileDecl → Type 0
SameDecls ds es = map plain_decl ds ≡ map plain_decl es

keep_decls : Keeps Same Free decls_words SameDecls decls decls
keep_decls = keep_mean (λ p. p.0) (λ p. sym (append-nil (flat_map decl_words p.0)) ∙ sym (prints_are decl_words (λ (u : Unit {0}). []) p.0 p.1)) (λ p q same. same.0)
    (keep_several plain_decl a_decl (stop declares) keep_decl (loose (keep_stop declares)))

-- what ends a list
abbrev end_words : Bool → List Word
end_words true = word_one mark.BarBar
end_words false = word_one mark.CloseBrace

abbrev Alike : Bool → Bool → Type 0
Alike x y = x ≡ y

keep_end_row : {F : Sort → Sort → Type 0} (e : EndStart) → Keeps F Same end_words Alike (end_row e) (end_row e)
keep_end_row end.Bars = keep_mean (λ _. true) (λ _. refl) (λ x y same. refl) (keep_one mark.BarBar tt)
keep_end_row end.Brace = keep_mean (λ _. false) (λ _. refl) (λ x y same. refl) (keep_one mark.CloseBrace tt)
keep_end_row end.None = keep_none end_words Alike (end_row end.None)

keep_list_end : {F : Sort → Sort → Type 0} → Keeps F Same end_words Alike list_end list_end
keep_list_end = keep_first (λ w. keep_end_row (end_start w))

-- lists of statements, each with what ends it
abbrev ended_words : List FileStmt × Bool → List Word
ended_words l = prints stmt_words end_words l.0 l.1

abbrev plain_ended : List FileStmt × Bool → List FileStmt × Bool
plain_ended l = (map plain_stmt l.0, l.1)

abbrev SameEnded : List FileStmt × Bool → List FileStmt × Bool → Type 0
SameEnded l k = plain_ended l ≡ plain_ended k

abbrev lists_words : List (List FileStmt) → List Word
lists_words ls = join_by (λ list. flat_map stmt_words list) (word_one mark.BarBar) ls ++ word_one mark.CloseBrace

abbrev SameLists : List (List FileStmt) → List (List FileStmt) → Type 0
SameLists ls ks = map (map plain_stmt) ls ≡ map (map plain_stmt) ks

abbrev statements_of : List (List FileStmt × Bool) → List (List FileStmt)
statements_of ls = map (λ (l : List FileStmt × Bool). l.0) ls

plain_statements : (ls : List (List FileStmt × Bool)) → map (map plain_stmt) (statements_of ls) ≡ statements_of (map plain_ended ls)
plain_statements [] = refl
plain_statements (l ∷ ls) = ap (λ ks. map plain_stmt l.0 ∷ ks) (plain_statements ls)

abbrev no_words : Unit {0} → List Word
no_words u = []

-- one list more, after which others come
list_first : (l : List FileStmt) (k : List FileStmt) (ks : List (List FileStmt))
    → (flat_map stmt_words l ++ word_one mark.BarBar) ++ lists_words (k ∷ ks) ≡ lists_words (l ∷ k ∷ ks)
list_first l k ks =
    let bars = word_one mark.BarBar in
    let next = λ (m : List FileStmt). bars ++ flat_map stmt_words m in
    let here = flat_map stmt_words l in
    append_assoc here bars (lists_words (k ∷ ks))
    ∙ ap (λ ws. here ++ ws) (sym (append_assoc bars (flat_map stmt_words k ++ flat_map next ks) (word_one mark.CloseBrace)))
    ∙ ap (λ ws. here ++ (ws ++ word_one mark.CloseBrace)) (sym (append_assoc bars (flat_map stmt_words k) (flat_map next ks)))
    ∙ sym (append_assoc here ((bars ++ flat_map stmt_words k) ++ flat_map next ks) (word_one mark.CloseBrace))

-- statements, where the words of those in them are kept
module _ (inner : Rel FileStmt) (k : Keeps Same Same stmt_words SameStmt inner inner) where
  keep_else_row : (e : ElseStart) → Keeps Same Same else_words SameElse (else_row inner e) (else_row inner e)
  keep_else_row other.Else = keep_mean (λ p. Some p.1) (λ p. refl) (λ p q same. same.1) (keep_seq {G = Same} (keep_one mark.Else tt) k)
  keep_else_row other.None = keep_nothing else_words SameElse None refl tt

  keep_else : Keeps Same Same else_words SameElse (an_else inner) (an_else inner)
  keep_else = keep_first (λ w. keep_else_row (else_start w))

  keep_list_of : (s : Bool) → Keeps Free Same ended_words SameEnded (a_list inner s) (a_list inner s)
  keep_list_of true = keep_same (λ x y same. ap₂ (λ ss b. (ss, b)) same.0 same.1) (keep_several plain_stmt inner list_end k keep_list_end)
  keep_list_of false = keep_none ended_words SameEnded (a_list inner false)

  keep_no_list : (s : Bool) → Keeps Same Same no_words Any (no_list s) (no_list s)
  keep_no_list true = keep_none no_words Any (no_list true)
  keep_no_list false = keep_nothing no_words Any tt refl tt

  -- the words of lists of which all but the last go on
  lists_are : (s : Bool) (l : List FileStmt × Bool) (ls : List (List FileStmt × Bool)) (y : Unit {0}) (ws rest : List Spot)
      → many (a_list inner) (λ x. x.1) no_list s (l ∷ ls) y ws rest → prints ended_words no_words (l ∷ ls) y ≡ lists_words (statements_of (l ∷ ls))
  lists_are s (ss, true) [] y ws rest is = absurd is.2
  lists_are s (ss, false) [] y ws rest is =
      append-nil (prints stmt_words end_words ss false) ∙ prints_are stmt_words end_words ss false ∙ ap (λ l. l ++ word_one mark.CloseBrace) (sym (append-nil (flat_map stmt_words ss)))
  lists_are s (ss, false) (l ∷ ls) y ws rest is = absurd is.2.1
  lists_are s (ss, true) (l ∷ ls) y ws rest is =
      ap₂ (λ a b. a ++ b) (prints_are stmt_words end_words ss true) (lists_are true l ls y is.0 rest is.2) ∙ list_first ss l.0 (statements_of ls)

  some_lists : (ls : List (List FileStmt × Bool)) (y : Unit {0}) (ws rest : List Spot)
      → many (a_list inner) (λ x. x.1) no_list true ls y ws rest → lists_words (statements_of ls) ≡ prints ended_words no_words ls y
  some_lists [] y ws rest is = absurd is
  some_lists (l ∷ ls) y ws rest is = sym (lists_are true l ls y ws rest is)

  keep_lists : Keeps Same Same lists_words SameLists (lists inner) (lists inner)
  keep_lists =
      keep_meant (λ (p : List (List FileStmt × Bool) × Unit {0}). statements_of p.0) (λ (p : List (List FileStmt × Bool) × Unit {0}). statements_of p.0)
      (λ p ws rest is. some_lists p.0 p.1 ws rest is) (λ p ws rest is. some_lists p.0 p.1 ws rest is)
      (λ p q same. plain_statements p.0 ∙ ap statements_of same.0 ∙ sym (plain_statements q.0))
      (keep_list Alike plain_ended (a_list inner) (λ (l : List FileStmt × Bool). l.1) no_list
      (λ s t e. subst (λ u. Keeps Free Same ended_words SameEnded (a_list inner s) (a_list inner u)) e (keep_list_of s))
      (λ x y same. ap (λ (q : List FileStmt × Bool). q.1) same) (λ s. refl)
      (λ s t e. subst (λ u. Keeps Same Same no_words Any (no_list s) (no_list u)) e (keep_no_list s)) true true refl)

  same_block : (b c : FileBlock) → SameDecls b.decls c.decls → SameLists b.lists c.lists → SameBlock b c
  same_block b c e f = plain_block_is b ∙ ap₂ (λ d l. record { decls = d; lists = l }) e f ∙ sym (plain_block_is c)

  keep_block : Keeps Same Same block_words SameBlock (a_block inner) (a_block inner)
  keep_block =
      keep_mean (λ p. record { decls = p.1.0; lists = p.1.1 }) (λ p. words_of_block (record { decls = p.1.0; lists = p.1.1 }))
      (λ p q same. same_block (record { decls = p.1.0; lists = p.1.1 }) (record { decls = q.1.0; lists = q.1.1 }) same.1.0 same.1.1)
      (keep_seq {G = Free} (keep_one mark.OpenBrace tt) (keep_seq {G = Same} keep_decls keep_lists))

  -- aborts and suspends, where these are their words
  keep_preempting : (p : FileStmt → List Word) (weak immediate : Bool) (form : Preemption) (levels : ℕ)
      → ((s : FileStmt) (c : Cond) → p (preempted form weak immediate s c) ≡ word.Mark (preemption_mark form) ∷ (stmt_words s ++ word.Mark mark.When ∷ closing_words c))
      → Keeps Same Same p SameStmt (preempting inner weak immediate form levels) (preempting inner weak immediate form levels)
  keep_preempting p weak immediate form levels words =
      keep_mean (λ q. preempted form weak immediate q.1.0 q.1.1) (λ q. words q.1.0 q.1.1) (λ q r same. same_preempted form weak immediate q.1.0 r.1.0 q.1.1 r.1.1 same.1.0 same.1.1)
      (keep_seq {G = Same} (keep_one (preemption_mark form) (used_preemption form)) (keep_seq {G = Same} k (keep_closing mark.When tt levels)))

  keep_preempt_row : (p : FileStmt → List Word) (weak immediate : Bool) (s : PreemptStart) (levels : ℕ)
      → ((form : Preemption) (s : FileStmt) (c : Cond) → p (preempted form weak immediate s c) ≡ word.Mark (preemption_mark form) ∷ (stmt_words s ++ word.Mark mark.When ∷ closing_words c))
      → Keeps Same Same p SameStmt (preempt_row inner weak immediate s levels) (preempt_row inner weak immediate s levels)
  keep_preempt_row p weak immediate (preempt.Form form) levels words = keep_preempting p weak immediate form levels (words form)
  keep_preempt_row p weak immediate preempt.None levels words = keep_none p SameStmt (preempt_row inner weak immediate preempt.None levels)

  keep_preemption : (p : FileStmt → List Word) (weak immediate : Bool) (levels : ℕ)
      → ((form : Preemption) (s : FileStmt) (c : Cond) → p (preempted form weak immediate s c) ≡ word.Mark (preemption_mark form) ∷ (stmt_words s ++ word.Mark mark.When ∷ closing_words c))
      → Keeps Same Same p SameStmt (a_preemption inner weak immediate levels) (a_preemption inner weak immediate levels)
  keep_preemption p weak immediate levels words = keep_first (λ w. keep_preempt_row p weak immediate (preempt_start w) levels words)

  -- a preemption is one of these
  by_form : (P : FileStmt → Type 0) (weak immediate : Bool) → ((form : Preemption) (s : FileStmt) (c : Cond) → P (preempted form weak immediate s c))
      → (p : PreemptStart) (levels : ℕ) (s : FileStmt) (ws rest : List Spot) → preempt_row inner weak immediate p levels s ws rest → P s
  by_form P weak immediate each (preempt.Form form) levels s ws rest is = subst P (sym is.1) (each form is.0.1.0 is.0.1.1)
  by_form P weak immediate each preempt.None levels s ws rest is = absurd is

  abbrev Begins : Mark → List Word → Type 0
  Begins m ws = ws ≡ word.Mark m ∷ drop 1 ws

  -- after `weak`
  abbrev GoesOn : List Word → Type 0
  GoesOn ws = drop 1 ws ≡ word.Mark mark.Immediate ∷ drop 2 ws

  weak_immediate : (form : Preemption) (s : FileStmt) (c : Cond) → GoesOn (stmt_words (preempted form true true s c))
  weak_immediate form s c = subst GoesOn (sym (preempted_words form true true s c)) refl

  keep_weak_row : (w : WeakStart) (levels : ℕ) → Keeps Same Same after_one SameStmt (weak_row inner w levels) (weak_row inner w levels)
  keep_weak_row weak.Immediate levels =
      keep_meant (λ p. p.1) (λ p. p.1)
      (λ p ws rest is. by_form (λ s. GoesOn (stmt_words s)) true true weak_immediate (preempt_start (first is.0)) levels p.1 is.0 rest is.2)
      (λ p ws rest is. by_form (λ s. GoesOn (stmt_words s)) true true weak_immediate (preempt_start (first is.0)) levels p.1 is.0 rest is.2)
      (λ p q same. same.1)
      (keep_seq {G = Same} (keep_one mark.Immediate tt) (keep_preemption after_two true true levels (λ form s c. ap (drop 2) (preempted_words form true true s c))))
  keep_weak_row weak.Plain levels = keep_preemption after_one true false levels (λ form s c. ap (drop 1) (preempted_words form true false s c))

  keep_after_weak : (levels : ℕ) → Keeps Same Same after_one SameStmt (after_weak inner levels) (after_weak inner levels)
  keep_after_weak levels = keep_first (λ w. keep_weak_row (weak_start w) levels)

  weak_first : (w : WeakStart) (levels : ℕ) (s : FileStmt) (ws rest : List Spot) → weak_row inner w levels s ws rest → Begins mark.Weak (stmt_words s)
  weak_first weak.Immediate levels s ws rest is =
      subst (λ t. Begins mark.Weak (stmt_words t)) (sym is.1)
      (by_form (λ t. Begins mark.Weak (stmt_words t)) true true (λ form t c. subst (Begins mark.Weak) (sym (preempted_words form true true t c)) refl) (preempt_start (first is.2.0)) levels is.0.1 is.2.0 rest is.2.2)
  weak_first weak.Plain levels s ws rest is =
      by_form (λ t. Begins mark.Weak (stmt_words t)) true false (λ form t c. subst (Begins mark.Weak) (sym (preempted_words form true false t c)) refl) (preempt_start (first ws)) levels s ws rest is

  -- after `immediate`
  keep_immediate_row : (i : ImmediateStart) (levels : ℕ) → Keeps Same Same after_one SameStmt (immediate_row inner i levels) (immediate_row inner i levels)
  keep_immediate_row immediate.Await levels =
      keep_awaited after_one None None true levels (λ c. ap (drop 1) (words-Await None true c)) (λ c. ap (drop 1) (words-Await None true c)) (λ c d e. same-Await None None true c d refl e)
  keep_immediate_row immediate.Preempt levels = keep_preemption after_one false true levels (λ form s c. ap (drop 1) (preempted_words form false true s c))

  keep_after_immediate : (levels : ℕ) → Keeps Same Same after_one SameStmt (after_immediate inner levels) (after_immediate inner levels)
  keep_after_immediate levels = keep_first (λ w. keep_immediate_row (immediate_start w) levels)

  immediate_first : (i : ImmediateStart) (levels : ℕ) (s : FileStmt) (ws rest : List Spot) → immediate_row inner i levels s ws rest → Begins mark.Immediate (stmt_words s)
  immediate_first immediate.Await levels s ws rest is = subst (Begins mark.Immediate) (sym (ap stmt_words is.1 ∙ words-Await None true is.0.1.0)) refl
  immediate_first immediate.Preempt levels s ws rest is =
      by_form (λ t. Begins mark.Immediate (stmt_words t)) false true (λ form t c. subst (Begins mark.Immediate) (sym (preempted_words form false true t c)) refl) (preempt_start (first ws)) levels s ws rest is

  keep_stmt_row : (s : StmtStart) (levels : ℕ) → Keeps Same Same stmt_words SameStmt (stmt_row inner s levels) (stmt_row inner s levels)
  keep_stmt_row start.Nothing levels = keep_mean (λ _. stmt.Nothing) (λ _. words-Nothing) (λ x y same. refl) (keep_bare mark.Nothing tt)
  keep_stmt_row start.Pause levels = keep_mean (λ _. stmt.Pause None) (λ _. words-Pause None) (λ x y same. refl) (keep_bare mark.Pause tt)
  keep_stmt_row start.Halt levels = keep_mean (λ _. stmt.Halt None) (λ _. words-Halt None) (λ x y same. refl) (keep_bare mark.Halt tt)
  keep_stmt_row start.Await levels = keep_awaited stmt_words None None false levels (λ c. words-Await None false c) (λ c. words-Await None false c) (λ c d e. same-Await None None false c d refl e)
  keep_stmt_row start.Immediate levels =
      keep_meant (λ p. p.1) (λ p. p.1) (λ p ws rest is. immediate_first (immediate_start (first is.0)) levels p.1 is.0 rest is.2) (λ p ws rest is. immediate_first (immediate_start (first is.0)) levels p.1 is.0 rest is.2)
      (λ p q same. same.1) (keep_seq {G = Same} (keep_one mark.Immediate tt) (keep_after_immediate levels))
  keep_stmt_row start.Weak levels =
      keep_meant (λ p. p.1) (λ p. p.1) (λ p ws rest is. weak_first (weak_start (first is.0)) levels p.1 is.0 rest is.2) (λ p ws rest is. weak_first (weak_start (first is.0)) levels p.1 is.0 rest is.2)
      (λ p q same. same.1) (keep_seq {G = Same} (keep_one mark.Weak tt) (keep_after_weak levels))
  keep_stmt_row (start.Preempt form) levels = keep_preempting stmt_words false false form levels (λ s c. preempted_words form false false s c)
  keep_stmt_row start.Name levels =
      keep_meant (λ p. p.1) (λ p. p.1) (λ p ws rest is. named_first p.0 (named_start (first is.0)) levels p.1 is.0 rest is.2) (λ p ws rest is. named_first p.0 (named_start (first is.0)) levels p.1 is.0 rest is.2)
      (λ p q same. same.1) (keep_seq_by {G = Same} keep_name (λ n m same. keep_after_name n m same levels) (λ n. refl))
  keep_stmt_row start.Next levels =
      keep_mean (λ p. stmt.Assign p.0 p.1.0 p.1.1) (λ p. words-Assign p.0 p.1.0 p.1.1) (λ p q same. same-Assign p.0 q.0 p.1.0 q.1.0 p.1.1 q.1.1 same.0 same.1) (keep_seq {G = Same} keep_next_target (keep_value levels))
  keep_stmt_row start.Emit levels =
      keep_mean (λ p. stmt.Emit p.1.0) (λ p. words-Emit p.1.0) (λ p q same. same-Emit p.1.0 q.1.0 same.1.0)
      (keep_seq {G = Free} (keep_one mark.Emit tt) (keep_seq {G = Same} keep_emitted (keep_one mark.Semicolon tt)))
  keep_stmt_row start.Block levels = keep_mean (λ b. stmt.Block b) (λ b. words-Block b) (λ b c same. same-Block b c same) keep_block
  keep_stmt_row start.If levels =
      keep_mean (λ p. stmt.If p.0 p.1.0 p.1.1) (λ p. if_words p.0 p.1.0 p.1.1) (λ p q same. same_if p.0 q.0 p.1.0 q.1.0 p.1.1 q.1.1 same.0 same.1.0 same.1.1)
      (keep_seq {G = Same} (keep_guarded mark.If tt levels) (keep_seq k keep_else))
  keep_stmt_row start.Do levels =
      keep_mean (λ p. stmt.DoWhile p.1.0 p.1.1) (λ p. words-DoWhile p.1.0 p.1.1) (λ p q same. same-DoWhile p.1.0 q.1.0 p.1.1 q.1.1 same.1.0 same.1.1)
      (keep_seq {G = Same} (keep_one mark.Do tt) (keep_seq {G = Same} k (keep_closing mark.While tt levels)))
  keep_stmt_row (start.Round r) levels =
      keep_mean (λ p. rounded r p.0 p.1) (λ p. rounded_words r p.0 p.1) (λ p q same. same_rounded r p.0 q.0 p.1 q.1 same.0 same.1) (keep_seq {G = Same} (keep_guarded (round_mark r) (used_round r) levels) k)
  keep_stmt_row start.Loop levels = keep_mean (λ p. stmt.Loop p.1) (λ p. words-Loop p.1) (λ p q same. same-Loop p.1 q.1 same.1) (keep_seq {G = Same} (keep_one mark.Loop tt) k)
  keep_stmt_row start.None levels = keep_none stmt_words SameStmt (stmt_row inner start.None levels)

pub keep_stmt : (levels : ℕ) → Keeps Same Same stmt_words SameStmt (a_stmt levels) (a_stmt levels)
keep_stmt zero = record { to = λ s ws rest is vs more says next. absurd is; fine = λ s ws rest is fine. absurd is }
keep_stmt (suc levels) = record {
  to = λ s ws rest is vs more says next.
      let a = (keep_stmt_row (a_stmt levels) (keep_stmt levels) (stmt_start (first ws)) levels).to s ws rest is vs more says next in
      record {
        value = a.value;
        is = subst (λ w. stmt_row (a_stmt levels) (stmt_start w) levels a.value vs more) a.begins a.is;
        same = a.same;
        again = a.again;
        begins = a.begins;
      };
  fine = λ s ws rest is fine. (keep_stmt_row (a_stmt levels) (keep_stmt levels) (stmt_start (first ws)) levels).fine s ws rest is fine;
}

pub keep_module_block : (levels : ℕ) → Keeps Same Same block_words SameBlock (a_block (a_stmt levels)) (a_block (a_stmt levels))
keep_module_block levels = keep_block (a_stmt levels) (keep_stmt levels)
