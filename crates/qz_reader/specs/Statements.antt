-- The statements: how they are spelled, and how many levels they have.
use Rattle.std.specs.Prelude.{ℕ, zero, suc, Bool, true, false, List, [], ◌∷◌, map, Option, Some, None}
use Rattle.qz_syntax.specs.declared.file_expressions.NameAt.{NameAt}
use Rattle.qz_syntax.specs.declared.file_expressions.FileExpr.{FileExpr}
use Rattle.qz_syntax.specs.declared.file_statements.Cond.{Cond}
use Rattle.qz_syntax.specs.declared.files.FileDecl.{FileDecl}
use Rattle.qz_syntax.specs.declared.file_statements.FileBlock.{FileBlock}
use Rattle.qz_syntax.specs.declared.file_statements.FileStmt.{FileStmt}
use Rattle.qz_syntax.specs.declared.file_statements.FileStmt.TheVariants as stmt
use Rattle.qz_phrases.specs.declared.words.Mark.{Mark}
use Rattle.qz_phrases.specs.declared.words.Mark.TheVariants as mark
use Rattle.qz_phrases.specs.Words.{first}
use Rattle.qz_phrases.specs.Phrases.{Rel, Kind, none, one, name, seq, seq_by, meant, by_first, nothing, stop, many, several}
use Rattle.qz_phrases.specs.Expressions.{an_expr}
use Rattle.qz_phrases.specs.Declarations.{declares, a_decl}
use Rattle.qz_phrases.specs.StatementParts.{a_cond, a_value, next_target, awaited, emitted, next_arg}
use Rattle.qz_reader.specs.declared.starts.RestStart.{RestStart}
use Rattle.qz_reader.specs.declared.starts.RestStart.TheVariants as rest
use Rattle.qz_reader.specs.declared.starts.ArgsStart.{ArgsStart}
use Rattle.qz_reader.specs.declared.starts.ArgsStart.TheVariants as args
use Rattle.qz_reader.specs.declared.starts.NamedStart.{NamedStart}
use Rattle.qz_reader.specs.declared.starts.NamedStart.TheVariants as named
use Rattle.qz_reader.specs.declared.starts.Preemption.{Preemption}
use Rattle.qz_reader.specs.declared.starts.Preemption.TheVariants as preemption
use Rattle.qz_reader.specs.declared.starts.PreemptStart.{PreemptStart}
use Rattle.qz_reader.specs.declared.starts.PreemptStart.TheVariants as preempt
use Rattle.qz_reader.specs.declared.starts.WeakStart.{WeakStart}
use Rattle.qz_reader.specs.declared.starts.WeakStart.TheVariants as weak
use Rattle.qz_reader.specs.declared.starts.ImmediateStart.{ImmediateStart}
use Rattle.qz_reader.specs.declared.starts.ImmediateStart.TheVariants as immediate
use Rattle.qz_reader.specs.declared.starts.ElseStart.{ElseStart}
use Rattle.qz_reader.specs.declared.starts.ElseStart.TheVariants as other
use Rattle.qz_reader.specs.declared.starts.EndStart.{EndStart}
use Rattle.qz_reader.specs.declared.starts.EndStart.TheVariants as end
use Rattle.qz_reader.specs.declared.starts.Round.{Round}
use Rattle.qz_reader.specs.declared.starts.Round.TheVariants as round
use Rattle.qz_reader.specs.declared.starts.StmtStart.{StmtStart}
use Rattle.qz_reader.specs.declared.starts.StmtStart.TheVariants as start
use Rattle.qz_reader.specs.Starts.{rest_start, args_start, named_start, preempt_start, preemption_mark, weak_start, immediate_start, else_start, end_start, round_mark, stmt_start}

-- a word and a semicolon
abbrev pub bare : Mark → Rel ℕ
bare m = meant (λ p. p.0) (seq (one m) (one mark.Semicolon))

-- a word and a condition
abbrev pub guarded : Mark → Kind Cond
guarded m levels = meant (λ p. p.1) (seq (one m) (a_cond levels))

-- a word, a condition and a semicolon
abbrev pub closing : Mark → Kind Cond
closing m levels = meant (λ p. p.1.0) (seq (one m) (seq (a_cond levels) (one mark.Semicolon)))

-- a statement that may have a label
abbrev pub rest_row : Option NameAt → RestStart → Kind FileStmt
rest_row label rest.Pause levels = meant (λ _. stmt.Pause label) (bare mark.Pause)
rest_row label rest.Halt levels = meant (λ _. stmt.Halt label) (bare mark.Halt)
rest_row label rest.Await levels = awaited label false levels
rest_row label rest.Immediate levels = meant (λ p. p.1) (seq (one mark.Immediate) (awaited label true levels))
rest_row label rest.None levels = none

abbrev pub resting : Option NameAt → Kind FileStmt
resting label levels = by_first (λ w. rest_row label (rest_start w) levels)

-- the arguments of a call and the parenthesis that closes them
abbrev pub some_args : Kind (List FileExpr)
some_args levels = meant (λ p. p.0 ∷ p.1.0) (seq (an_expr 1 levels) (several (next_arg levels) (one mark.CloseParen)))

abbrev pub args_row : ArgsStart → Kind (List FileExpr)
args_row args.Close levels = meant (λ _. []) (one mark.CloseParen)
args_row args.Argument levels = some_args levels

abbrev pub arguments : Kind (List FileExpr)
arguments levels = by_first (λ w. args_row (args_start w) levels)

-- `( arguments ) ;`
abbrev pub called : Kind (List FileExpr)
called levels = meant (λ p. p.1.0) (seq (one mark.OpenParen) (seq (arguments levels) (one mark.Semicolon)))

-- what follows a name that begins a statement
abbrev pub named_row : NameAt → NamedStart → Kind FileStmt
named_row n named.Equals levels = meant (λ p. stmt.Assign (record { next = false; name = n }) p.0 p.1) (a_value levels)
named_row n named.Paren levels = meant (λ es. stmt.Call n es) (called levels)
named_row n named.Colon levels = meant (λ p. p.1) (seq (one mark.Colon) (resting (Some n) levels))
named_row n named.None levels = none

abbrev pub after_name : NameAt → Kind FileStmt
after_name n levels = by_first (λ w. named_row n (named_start w) levels)

-- `abort S when (e);` and `suspend S when (e);`
abbrev pub preempted : Preemption → Bool → Bool → FileStmt → Cond → FileStmt
preempted preemption.Abort weak immediate s e = stmt.Abort (record { weak = weak; immediate = immediate }) s e
preempted preemption.Suspend weak immediate s e = stmt.Suspend (record { weak = weak; immediate = immediate }) s e

abbrev pub preempting : Rel FileStmt → Bool → Bool → Preemption → Kind FileStmt
preempting inner weak immediate p levels = meant (λ q. preempted p weak immediate q.1.0 q.1.1) (seq (one (preemption_mark p)) (seq inner (closing mark.When levels)))

abbrev pub preempt_row : Rel FileStmt → Bool → Bool → PreemptStart → Kind FileStmt
preempt_row inner weak immediate (preempt.Form p) levels = preempting inner weak immediate p levels
preempt_row inner weak immediate preempt.None levels = none

abbrev pub a_preemption : Rel FileStmt → Bool → Bool → Kind FileStmt
a_preemption inner weak immediate levels = by_first (λ w. preempt_row inner weak immediate (preempt_start w) levels)

-- what follows `weak`
abbrev pub weak_row : Rel FileStmt → WeakStart → Kind FileStmt
weak_row inner weak.Immediate levels = meant (λ p. p.1) (seq (one mark.Immediate) (a_preemption inner true true levels))
weak_row inner weak.Plain levels = a_preemption inner true false levels

abbrev pub after_weak : Rel FileStmt → Kind FileStmt
after_weak inner levels = by_first (λ w. weak_row inner (weak_start w) levels)

-- what follows `immediate`
abbrev pub immediate_row : Rel FileStmt → ImmediateStart → Kind FileStmt
immediate_row inner immediate.Await levels = awaited None true levels
immediate_row inner immediate.Preempt levels = a_preemption inner false true levels

abbrev pub after_immediate : Rel FileStmt → Kind FileStmt
after_immediate inner levels = by_first (λ w. immediate_row inner (immediate_start w) levels)

-- `else` and a statement, or nothing where no `else` comes
abbrev pub else_row : Rel FileStmt → ElseStart → Rel (Option FileStmt)
else_row inner other.Else = meant (λ p. Some p.1) (seq (one mark.Else) inner)
else_row inner other.None = nothing None

abbrev pub an_else : Rel FileStmt → Rel (Option FileStmt)
an_else inner = by_first (λ w. else_row inner (else_start w))

-- `||`, after which another list comes, or `}`, after which none does
abbrev pub end_row : EndStart → Rel Bool
end_row end.Bars = meant (λ _. true) (one mark.BarBar)
end_row end.Brace = meant (λ _. false) (one mark.CloseBrace)
end_row end.None = none

abbrev pub list_end : Rel Bool
list_end = by_first (λ w. end_row (end_start w))

abbrev pub a_list : Rel FileStmt → Bool → Rel (List FileStmt × Bool)
a_list inner true = several inner list_end
a_list inner false = none

abbrev pub no_list : Bool → Rel (Unit {0})
no_list true = none
no_list false = nothing tt

-- the lists of a block and the brace that closes it
abbrev pub lists : Rel FileStmt → Rel (List (List FileStmt))
lists inner = meant (λ (p : List (List FileStmt × Bool) × Unit {0}). map (λ (l : List FileStmt × Bool). l.0) p.0) (λ p. many (a_list inner) (λ l. l.1) no_list true p.0 p.1)

-- the declarations that a block begins with
abbrev pub decls : Rel (List FileDecl)
decls = meant (λ p. p.0) (several a_decl (stop declares))

abbrev pub a_block : Rel FileStmt → Rel FileBlock
a_block inner = meant (λ p. record { decls = p.1.0; lists = p.1.1 }) (seq (one mark.OpenBrace) (seq decls (lists inner)))

abbrev pub an_if : Rel FileStmt → Kind FileStmt
an_if inner levels = meant (λ p. stmt.If p.0 p.1.0 p.1.1) (seq (guarded mark.If levels) (seq inner (an_else inner)))

abbrev pub a_do : Rel FileStmt → Kind FileStmt
a_do inner levels = meant (λ p. stmt.DoWhile p.1.0 p.1.1) (seq (one mark.Do) (seq inner (closing mark.While levels)))

abbrev pub rounded : Round → Cond → FileStmt → FileStmt
rounded round.While e s = stmt.While e s
rounded round.Every e s = stmt.Every e s

abbrev pub a_round : Rel FileStmt → Round → Kind FileStmt
a_round inner r levels = meant (λ p. rounded r p.0 p.1) (seq (guarded (round_mark r) levels) inner)

abbrev pub a_loop : Rel FileStmt → Rel FileStmt
a_loop inner = meant (λ p. stmt.Loop p.1) (seq (one mark.Loop) inner)

abbrev pub next_assigned : Kind FileStmt
next_assigned levels = meant (λ p. stmt.Assign p.0 p.1.0 p.1.1) (seq next_target (a_value levels))

abbrev pub an_emit : Rel FileStmt
an_emit = meant (λ p. stmt.Emit p.1.0) (seq (one mark.Emit) (seq emitted (one mark.Semicolon)))

-- a statement by the word that begins it, where the statements in it are spelled so
abbrev pub stmt_row : Rel FileStmt → StmtStart → Kind FileStmt
stmt_row inner start.Nothing levels = meant (λ _. stmt.Nothing) (bare mark.Nothing)
stmt_row inner start.Pause levels = meant (λ _. stmt.Pause None) (bare mark.Pause)
stmt_row inner start.Halt levels = meant (λ _. stmt.Halt None) (bare mark.Halt)
stmt_row inner start.Await levels = awaited None false levels
stmt_row inner start.Immediate levels = meant (λ p. p.1) (seq (one mark.Immediate) (after_immediate inner levels))
stmt_row inner start.Weak levels = meant (λ p. p.1) (seq (one mark.Weak) (after_weak inner levels))
stmt_row inner (start.Preempt p) levels = preempting inner false false p levels
stmt_row inner start.Name levels = meant (λ p. p.1) (seq_by name (λ n. after_name n levels))
stmt_row inner start.Next levels = next_assigned levels
stmt_row inner start.Emit levels = an_emit
stmt_row inner start.Block levels = meant (λ b. stmt.Block b) (a_block inner)
stmt_row inner start.If levels = an_if inner levels
stmt_row inner start.Do levels = a_do inner levels
stmt_row inner (start.Round r) levels = a_round inner r levels
stmt_row inner start.Loop levels = a_loop inner
stmt_row inner start.None levels = none

-- A statement with at most this many levels. The statements and expressions in it have one less.
abbrev pub a_stmt : Kind FileStmt
a_stmt zero s words rest = ⊥
a_stmt (suc levels) s words rest = stmt_row (a_stmt levels) (stmt_start (first words)) levels s words rest
