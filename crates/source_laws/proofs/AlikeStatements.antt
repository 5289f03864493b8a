-- Words of the same sorts spell statements of the same shape.
use Rattle.std.proofs.Common.{◌≡◌, ℕ, zero, suc, Bool, true, false, List, [], ◌∷◌, map, Option, Some, None, refl, subst}
use Rattle.qz_syntax.specs.declared.declarations.Class.TheVariants as class
use Rattle.qz_syntax.specs.declared.files.TypeText.TheVariants as type
use Rattle.qz_syntax.specs.declared.file_expressions.NameAt.{NameAt}
use Rattle.qz_syntax.specs.declared.file_statements.FileStmt.{FileStmt}
use Rattle.qz_syntax.specs.declared.file_statements.FileStmt.TheVariants as stmt
use Rattle.qz_phrases.specs.declared.words.Mark.{Mark}
use Rattle.qz_phrases.specs.declared.words.Mark.TheVariants as mark
use Rattle.qz_phrases.specs.declared.words.TypeStart.{TypeStart}
use Rattle.qz_phrases.specs.declared.words.TypeStart.TheVariants as typed
use Rattle.qz_phrases.specs.declared.words.TypingStart.{TypingStart}
use Rattle.qz_phrases.specs.declared.words.TypingStart.TheVariants as typing
use Rattle.qz_phrases.specs.Words.{first, class_mark, type_start, typing_start}
use Rattle.qz_phrases.specs.Phrases.{Rel}
use Rattle.qz_phrases.specs.Declarations.{type_row, a_type, type_or_bool_row, type_or_bool, typing_row, a_typing, declares, next_name, names, a_decl}
use Rattle.qz_reader.specs.declared.starts.RestStart.{RestStart}
use Rattle.qz_reader.specs.declared.starts.RestStart.TheVariants as rest
use Rattle.qz_reader.specs.declared.starts.ArgsStart.{ArgsStart}
use Rattle.qz_reader.specs.declared.starts.ArgsStart.TheVariants as args
use Rattle.qz_reader.specs.declared.starts.NamedStart.{NamedStart}
use Rattle.qz_reader.specs.declared.starts.NamedStart.TheVariants as named
use Rattle.qz_reader.specs.declared.starts.Preemption.{Preemption}
use Rattle.qz_reader.specs.declared.starts.PreemptStart.{PreemptStart}
use Rattle.qz_reader.specs.declared.starts.PreemptStart.TheVariants as preempt
use Rattle.qz_reader.specs.declared.starts.WeakStart.{WeakStart}
use Rattle.qz_reader.specs.declared.starts.WeakStart.TheVariants as weak
use Rattle.qz_reader.specs.declared.starts.ImmediateStart.{ImmediateStart}
use Rattle.qz_reader.specs.declared.starts.ImmediateStart.TheVariants as immediate
use Rattle.qz_reader.specs.declared.starts.ElseStart.{ElseStart}
use Rattle.qz_reader.specs.declared.starts.ElseStart.TheVariants as other
use Rattle.qz_reader.specs.declared.starts.EndStart.{EndStart}
use Rattle.qz_reader.specs.declared.starts.EndStart.TheVariants as end
use Rattle.qz_reader.specs.declared.starts.StmtStart.{StmtStart}
use Rattle.qz_reader.specs.declared.starts.StmtStart.TheVariants as start
use Rattle.qz_reader.specs.Starts.{rest_start, args_start, named_start, preempt_start, preemption_mark, weak_start, immediate_start, else_start, end_start, round_mark, stmt_start}
use Rattle.qz_reader.specs.Statements.{bare, guarded, closing, rest_row, resting, args_row, called, named_row, after_name, preempted, preempting, preempt_row, a_preemption, weak_row, immediate_row, else_row, an_else, end_row, list_end, a_list, no_list, lists, decls, a_block, rounded, stmt_row, a_stmt}
use Rattle.source_laws.proofs.Alike.{first_alike, Carries, Any, any, carry_none, carry_one, carry_name, carry_number, carry_seq, carry_seq_by, carry_meant, mean, carry_first, carry_nothing, carry_stop, carry_list, carry_several}
use Rattle.source_laws.proofs.AlikeExpressions.{carry_expr, carry_cond, carry_next_target, carry_value, carry_awaited, carry_next_arg, carry_emitted}

-- types and declarations
carry_type_row : (t : TypeStart) → Carries Any (type_row t) (type_row t)
carry_type_row typed.Bool = mean (λ _. type.Bool) (λ _. type.Bool) (carry_one mark.Bool)
carry_type_row typed.Bv = mean (λ p. type.Bv p.1.1.0.0 p.1.1.0.1) (λ p. type.Bv p.1.1.0.0 p.1.1.0.1) (carry_seq (carry_one mark.Bv) (carry_seq (carry_one mark.OpenBracket) (carry_seq carry_number (carry_one mark.CloseBracket))))
carry_type_row typed.None = carry_none Any (type_row typed.None)

carry_type : Carries Any a_type a_type
carry_type = carry_first (λ w. carry_type_row (type_start w))

carry_type_or_bool_row : (t : TypeStart) → Carries Any (type_or_bool_row t) (type_or_bool_row t)
carry_type_or_bool_row typed.Bool = carry_type
carry_type_or_bool_row typed.Bv = carry_type
carry_type_or_bool_row typed.None = carry_nothing type.Bool type.Bool tt

carry_type_or_bool : Carries Any type_or_bool type_or_bool
carry_type_or_bool = carry_first (λ w. carry_type_or_bool_row (type_start w))

carry_typing_row : (t : TypingStart) → Carries Any (typing_row t) (typing_row t)
carry_typing_row (typing.Class c) = mean (λ p. (c, p.1)) (λ p. (c, p.1)) (carry_seq (carry_one (class_mark c)) carry_type_or_bool)
carry_typing_row typing.Type = mean (λ t. (class.Mem, t)) (λ t. (class.Mem, t)) carry_type
carry_typing_row typing.None = carry_none Any (typing_row typing.None)

pub carry_typing : Carries Any a_typing a_typing
carry_typing = carry_first (λ w. carry_typing_row (typing_start w))

carry_next_name : Carries Any next_name next_name
carry_next_name = mean (λ p. p.1) (λ p. p.1) (carry_seq (carry_one mark.Comma) carry_name)

carry_names : Carries Any names names
carry_names = mean (λ p. p.0 ∷ p.1.0) (λ p. p.0 ∷ p.1.0) (carry_seq carry_name (carry_several carry_next_name (carry_one mark.Semicolon)))

carry_decl : Carries Any a_decl a_decl
carry_decl = mean (λ p. record { class = p.0.0; ty = p.0.1; names = p.1 }) (λ p. record { class = p.0.0; ty = p.0.1; names = p.1 }) (carry_seq carry_typing carry_names)

-- statements that hold none
carry_bare : (m : Mark) → Carries Any (bare m) (bare m)
carry_bare m = mean (λ p. p.0) (λ p. p.0) (carry_seq (carry_one m) (carry_one mark.Semicolon))

carry_guarded : (m : Mark) (levels : ℕ) → Carries Any (guarded m levels) (guarded m levels)
carry_guarded m levels = mean (λ p. p.1) (λ p. p.1) (carry_seq (carry_one m) (carry_cond levels))

carry_closing : (m : Mark) (levels : ℕ) → Carries Any (closing m levels) (closing m levels)
carry_closing m levels = mean (λ p. p.1.0) (λ p. p.1.0) (carry_seq (carry_one m) (carry_seq (carry_cond levels) (carry_one mark.Semicolon)))

carry_rest_row : (l k : Option NameAt) (r : RestStart) (levels : ℕ) → Carries Any (rest_row l r levels) (rest_row k r levels)
carry_rest_row l k rest.Pause levels = mean (λ _. stmt.Pause l) (λ _. stmt.Pause k) (carry_bare mark.Pause)
carry_rest_row l k rest.Halt levels = mean (λ _. stmt.Halt l) (λ _. stmt.Halt k) (carry_bare mark.Halt)
carry_rest_row l k rest.Await levels = carry_awaited l k false levels
carry_rest_row l k rest.Immediate levels = mean (λ p. p.1) (λ p. p.1) (carry_seq (carry_one mark.Immediate) (carry_awaited l k true levels))
carry_rest_row l k rest.None levels = carry_none Any (rest_row k rest.None levels)

carry_resting : (l k : Option NameAt) (levels : ℕ) → Carries Any (resting l levels) (resting k levels)
carry_resting l k levels = carry_first (λ w. carry_rest_row l k (rest_start w) levels)

carry_args_row : (a : ArgsStart) (levels : ℕ) → Carries Any (args_row a levels) (args_row a levels)
carry_args_row args.Close levels = mean (λ _. []) (λ _. []) (carry_one mark.CloseParen)
carry_args_row args.Argument levels = mean (λ p. p.0 ∷ p.1.0) (λ p. p.0 ∷ p.1.0) (carry_seq (carry_expr 1 levels) (carry_several (carry_next_arg levels) (carry_one mark.CloseParen)))

carry_called : (levels : ℕ) → Carries Any (called levels) (called levels)
carry_called levels = mean (λ p. p.1.0) (λ p. p.1.0) (carry_seq (carry_one mark.OpenParen) (carry_seq (any (carry_first (λ w. carry_args_row (args_start w) levels))) (carry_one mark.Semicolon)))

carry_named_row : (n m : NameAt) (s : NamedStart) (levels : ℕ) → Carries Any (named_row n s levels) (named_row m s levels)
carry_named_row n m named.Equals levels = mean (λ p. stmt.Assign (record { next = false; name = n }) p.0 p.1) (λ p. stmt.Assign (record { next = false; name = m }) p.0 p.1) (carry_value levels)
carry_named_row n m named.Paren levels = mean (λ es. stmt.Call n es) (λ es. stmt.Call m es) (carry_called levels)
carry_named_row n m named.Colon levels = mean (λ p. p.1) (λ p. p.1) (carry_seq (carry_one mark.Colon) (carry_resting (Some n) (Some m) levels))
carry_named_row n m named.None levels = carry_none Any (named_row m named.None levels)

carry_after_name : (n m : NameAt) (levels : ℕ) → Carries Any (after_name n levels) (after_name m levels)
carry_after_name n m levels = carry_first (λ w. carry_named_row n m (named_start w) levels)

-- what a list of a block ends with: another list comes or none
abbrev Same : {A : Type 0} → A → A → Type 0
Same x y = x ≡ y

carry_end_row : (e : EndStart) → Carries Same (end_row e) (end_row e)
carry_end_row end.Bars = carry_meant (λ _. true) (λ _. true) (λ x y q. refl) (carry_one mark.BarBar)
carry_end_row end.Brace = carry_meant (λ _. false) (λ _. false) (λ x y q. refl) (carry_one mark.CloseBrace)
carry_end_row end.None = carry_none Same (end_row end.None)

carry_list_end : Carries Same list_end list_end
carry_list_end = carry_first (λ w. carry_end_row (end_start w))

carry_no_list : (s : Bool) → Carries Any (no_list s) (no_list s)
carry_no_list true = carry_none Any (no_list true)
carry_no_list false = carry_nothing tt tt tt

carry_decls : Carries Any decls decls
carry_decls = mean (λ p. p.0) (λ p. p.0) (carry_several carry_decl (carry_stop declares))

-- statements, where those in them are carried
module _ (inner : Rel FileStmt) (k : Carries Any inner inner) where
  abbrev Ends : List FileStmt × Bool → List FileStmt × Bool → Type 0
  Ends p q = p.1 ≡ q.1

  carry_a_list : (s : Bool) → Carries Ends (a_list inner s) (a_list inner s)
  carry_a_list true = carry_several k carry_list_end
  carry_a_list false = carry_none Ends (a_list inner false)

  carry_lists : Carries Any (lists inner) (lists inner)
  carry_lists = mean (λ (p : List (List FileStmt × Bool) × Unit {0}). map (λ (l : List FileStmt × Bool). l.0) p.0) (λ (p : List (List FileStmt × Bool) × Unit {0}). map (λ (l : List FileStmt × Bool). l.0) p.0)
      (carry_list (λ (s t : Bool). s ≡ t) Ends (λ (x y : Unit {0}). Unit {0}) (a_list inner) (λ (l : List FileStmt × Bool). l.1) no_list
      (λ s t e. subst (λ u. Carries Ends (a_list inner s) (a_list inner u)) e (carry_a_list s)) (λ x y q. q)
      (λ s t e. subst (λ u. Carries Any (no_list s) (no_list u)) e (carry_no_list s)) true true refl)

  carry_block : Carries Any (a_block inner) (a_block inner)
  carry_block = mean (λ p. record { decls = p.1.0; lists = p.1.1 }) (λ p. record { decls = p.1.0; lists = p.1.1 }) (carry_seq (carry_one mark.OpenBrace) (carry_seq carry_decls carry_lists))

  carry_preempting : (w i : Bool) (p : Preemption) (levels : ℕ) → Carries Any (preempting inner w i p levels) (preempting inner w i p levels)
  carry_preempting w i p levels = mean (λ q. preempted p w i q.1.0 q.1.1) (λ q. preempted p w i q.1.0 q.1.1) (carry_seq (carry_one (preemption_mark p)) (carry_seq k (carry_closing mark.When levels)))

  carry_preempt_row : (w i : Bool) (p : PreemptStart) (levels : ℕ) → Carries Any (preempt_row inner w i p levels) (preempt_row inner w i p levels)
  carry_preempt_row w i (preempt.Form p) levels = carry_preempting w i p levels
  carry_preempt_row w i preempt.None levels = carry_none Any (preempt_row inner w i preempt.None levels)

  carry_preemption : (w i : Bool) (levels : ℕ) → Carries Any (a_preemption inner w i levels) (a_preemption inner w i levels)
  carry_preemption w i levels = carry_first (λ u. carry_preempt_row w i (preempt_start u) levels)

  carry_weak_row : (w : WeakStart) (levels : ℕ) → Carries Any (weak_row inner w levels) (weak_row inner w levels)
  carry_weak_row weak.Immediate levels = mean (λ p. p.1) (λ p. p.1) (carry_seq (carry_one mark.Immediate) (carry_preemption true true levels))
  carry_weak_row weak.Plain levels = carry_preemption true false levels

  carry_immediate_row : (i : ImmediateStart) (levels : ℕ) → Carries Any (immediate_row inner i levels) (immediate_row inner i levels)
  carry_immediate_row immediate.Await levels = carry_awaited None None true levels
  carry_immediate_row immediate.Preempt levels = carry_preemption false true levels

  carry_else_row : (e : ElseStart) → Carries Any (else_row inner e) (else_row inner e)
  carry_else_row other.Else = mean (λ p. Some p.1) (λ p. Some p.1) (carry_seq (carry_one mark.Else) k)
  carry_else_row other.None = carry_nothing None None tt

  carry_else : Carries Any (an_else inner) (an_else inner)
  carry_else = carry_first (λ w. carry_else_row (else_start w))

  carry_stmt_row : (s : StmtStart) (levels : ℕ) → Carries Any (stmt_row inner s levels) (stmt_row inner s levels)
  carry_stmt_row start.Nothing levels = mean (λ _. stmt.Nothing) (λ _. stmt.Nothing) (carry_bare mark.Nothing)
  carry_stmt_row start.Pause levels = mean (λ _. stmt.Pause None) (λ _. stmt.Pause None) (carry_bare mark.Pause)
  carry_stmt_row start.Halt levels = mean (λ _. stmt.Halt None) (λ _. stmt.Halt None) (carry_bare mark.Halt)
  carry_stmt_row start.Await levels = carry_awaited None None false levels
  carry_stmt_row start.Immediate levels = mean (λ p. p.1) (λ p. p.1) (carry_seq (carry_one mark.Immediate) (any (carry_first (λ w. carry_immediate_row (immediate_start w) levels))))
  carry_stmt_row start.Weak levels = mean (λ p. p.1) (λ p. p.1) (carry_seq (carry_one mark.Weak) (any (carry_first (λ w. carry_weak_row (weak_start w) levels))))
  carry_stmt_row (start.Preempt p) levels = carry_preempting false false p levels
  carry_stmt_row start.Name levels = mean (λ p. p.1) (λ p. p.1) (carry_seq_by carry_name (λ n m q. carry_after_name n m levels))
  carry_stmt_row start.Next levels = mean (λ p. stmt.Assign p.0 p.1.0 p.1.1) (λ p. stmt.Assign p.0 p.1.0 p.1.1) (carry_seq carry_next_target (carry_value levels))
  carry_stmt_row start.Emit levels = mean (λ p. stmt.Emit p.1.0) (λ p. stmt.Emit p.1.0) (carry_seq (carry_one mark.Emit) (carry_seq carry_emitted (carry_one mark.Semicolon)))
  carry_stmt_row start.Block levels = mean (λ b. stmt.Block b) (λ b. stmt.Block b) carry_block
  carry_stmt_row start.If levels = mean (λ p. stmt.If p.0 p.1.0 p.1.1) (λ p. stmt.If p.0 p.1.0 p.1.1) (carry_seq (carry_guarded mark.If levels) (carry_seq k carry_else))
  carry_stmt_row start.Do levels = mean (λ p. stmt.DoWhile p.1.0 p.1.1) (λ p. stmt.DoWhile p.1.0 p.1.1) (carry_seq (carry_one mark.Do) (carry_seq k (carry_closing mark.While levels)))
  carry_stmt_row (start.Round r) levels = mean (λ p. rounded r p.0 p.1) (λ p. rounded r p.0 p.1) (carry_seq (carry_guarded (round_mark r) levels) k)
  carry_stmt_row start.Loop levels = mean (λ p. stmt.Loop p.1) (λ p. stmt.Loop p.1) (carry_seq (carry_one mark.Loop) k)
  carry_stmt_row start.None levels = carry_none Any (stmt_row inner start.None levels)

pub carry_stmt : (levels : ℕ) → Carries Any (a_stmt levels) (a_stmt levels)
carry_stmt zero = record { to = λ s ws rest is vs alike. absurd is }
carry_stmt (suc levels) = record {
  to = λ s ws rest is vs alike.
      let a = (carry_stmt_row (a_stmt levels) (carry_stmt levels) (stmt_start (first ws)) levels).to s ws rest is vs alike in
      record {
        value = a.value;
        more = a.more;
        is = subst (λ w. stmt_row (a_stmt levels) (stmt_start w) levels a.value vs a.more) (first_alike ws vs alike) a.is;
        alike = a.alike;
        related = tt;
      };
}

pub carry_module_block : (levels : ℕ) → Carries Any (a_block (a_stmt levels)) (a_block (a_stmt levels))
carry_module_block levels = carry_block (a_stmt levels) (carry_stmt levels)
