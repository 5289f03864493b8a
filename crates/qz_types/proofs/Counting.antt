-- Places, loops, locals and calls of the core tree count in tree order.
use Rattle.std.proofs.Common.{◌≡◌, ℕ, zero, suc, ◌+◌, Bool, true, false, length, map, List, [], ◌∷◌, ◌++◌, Option, Some, None, refl, sym, ap, ap₂, subst, ◌∙◌, append-nil, length-append, arith, if◌then◌else◌}
use Rattle.std.specs.List.{concat, range_with_len}
use Rattle.std.specs.Option.{option_to_list}
use Rattle.qz_syntax.specs.declared.declarations.Decl.{Decl}
use Rattle.qz_syntax.specs.declared.names.Name.{Name}
use Rattle.qz_syntax.specs.declared.expressions.Var.{Var}
use Rattle.qz_syntax.specs.declared.expressions.Expr.{Expr}
use Rattle.qz_syntax.specs.declared.statements.Arg.{Arg}
use Rattle.qz_syntax.specs.declared.statements.Kind.{Kind}
use Rattle.qz_syntax.specs.declared.statements.Stmt.{Stmt}
use Rattle.qz_syntax.specs.declared.statements.Stmt.TheVariants as core
use Rattle.qz_syntax.specs.declared.statements.Stmt.TheOpen.{Stmt-F}
use Rattle.qz_syntax.specs.declared.file_expressions.NameAt.{NameAt}
use Rattle.qz_syntax.specs.Numbers.{in_tree_order, parts_of, own_places, own_loops, own_locals, own_calls}
use Rattle.qz_syntax.proofs.Equations.{fold-Nothing, fold-Assign, fold-Delayed, fold-Pause, fold-Seq, fold-Par, fold-If, fold-Loop, fold-Abort, fold-Suspend, fold-Scope, fold-Call}
use Rattle.qz_types.specs.declared.numbers.Numbers.{Numbers}
use Rattle.qz_types.specs.Meanings.{Meanings}
use Rattle.qz_types.specs.Declarations.{declared}
use Rattle.qz_types.specs.CoreDeclarations.{local_numbers}
use Rattle.qz_types.specs.Makers.{Made, Maker, Valued, AllMade, with_place, with_loop, with_call, with_locals, hold_place, with_hold_place, inside, pausing, repeating, branching, aborting, suspending, all_made, listed, in_sequence, in_parallel}
use Rattle.qz_syntax.specs.declared.file_expressions.FileExpr.{FileExpr}
use Rattle.qz_syntax.specs.declared.file_statements.Target.{Target}
use Rattle.qz_syntax.specs.declared.files.FileFormal.{FileFormal}
use Rattle.qz_types.specs.CoreExpressions.{core_variable}
use Rattle.qz_types.specs.CoreStatements.{in_scope, scoped, assigned, core_arguments}
use Rattle.qz_types.proofs.CoreDeclarationLemmas.{range_append}
use Rattle.qz_types.proofs.MadeInduction.{Each, Keeps}

-- one sort of numbers: which a node has itself, and how many of them were given
pub record Sort : Type 0 where
  pub own : Stmt-F (List ℕ) → List ℕ
  pub count : Numbers → ℕ
  pub at_nothing : own Stmt-F.Nothing ≡ []
  pub at_assign : (v : Var) (e : Expr) → own (Stmt-F.Assign v e) ≡ []
  pub at_delayed : (v : Var) (e : Expr) → own (Stmt-F.Delayed v e) ≡ []
  pub at_seq : (parts : List (List ℕ)) → own (Stmt-F.Seq parts) ≡ []
  pub at_par : (parts : List (List ℕ)) → own (Stmt-F.Par parts) ≡ []
  pub at_if : (e : Expr) (a b : List ℕ) → own (Stmt-F.If e a b) ≡ []
  pub at_abort : (kind : Kind) (a : List ℕ) (e : Expr) → own (Stmt-F.Abort kind a e) ≡ []
  pub pauses : ℕ
  pub at_pause : (n : Numbers) (label : Option Name) → (own (Stmt-F.Pause (length n.labels)) ≡ range_with_len (count n) pauses) × (count (with_place n label) ≡ count n + pauses)
  pub loops : ℕ
  pub at_loop : (n : Numbers) (a : List ℕ) (e : Expr) → (own (Stmt-F.Loop n.loops a e) ≡ range_with_len (count n) loops) × (count (with_loop n) ≡ count n + loops)
  pub held : Kind → ℕ
  pub at_suspend : (kind : Kind) (n : Numbers) (a : List ℕ) (e : Expr)
      → (own (Stmt-F.Suspend kind (hold_place kind n) a e) ≡ range_with_len (count n) (held kind)) × (count (with_hold_place kind n) ≡ count n + held kind)
  pub locals : List Decl → ℕ
  pub no_locals : locals [] ≡ 0
  pub at_scope : (n : Numbers) (decls : List Decl) (a : List ℕ)
      → (own (Stmt-F.Scope (range_with_len (length n.decls) (length decls)) a) ≡ range_with_len (count n) (locals decls)) × (count (with_locals n decls) ≡ count n + locals decls)
  pub calls : ℕ
  pub at_call : (n : Numbers) (proto : ℕ) (arguments : List Arg)
      → (own (Stmt-F.Call n.calls proto arguments) ≡ range_with_len (count n) calls) × (count (with_call n) ≡ count n + calls)

-- one where it holds, as a count
abbrev pub one_if : Bool → ℕ
one_if true = 1
one_if false = 0

pub hold_counts : (b : Bool) (n : Numbers) → (option_to_list (if b then Some (length n.labels) else None) ≡ range_with_len (length n.labels) (one_if b))
    × (length (if b then with_place n None else n).labels ≡ length n.labels + one_if b)
hold_counts true n = (refl, length-append n.labels (None ∷ []))
hold_counts false n = (refl, omega arith)

pub hold_keeps_loops : (b : Bool) (n : Numbers) → (if b then with_place n None else n).loops ≡ n.loops + 0
hold_keeps_loops true n = omega arith
hold_keeps_loops false n = omega arith

pub hold_keeps_calls : (b : Bool) (n : Numbers) → (if b then with_place n None else n).calls ≡ n.calls + 0
hold_keeps_calls true n = omega arith
hold_keeps_calls false n = omega arith

pub hold_keeps_decls : (b : Bool) (n : Numbers) → length (if b then with_place n None else n).decls ≡ length n.decls + 0
hold_keeps_decls true n = omega arith
hold_keeps_decls false n = omega arith

unfoldable pub places_sort : Sort
places_sort = record {
  own = own_places;
  count = λ n. length n.labels;
  at_nothing = refl;
  at_assign = λ v e. refl;
  at_delayed = λ v e. refl;
  at_seq = λ parts. refl;
  at_par = λ parts. refl;
  at_if = λ e a b. refl;
  at_abort = λ kind a e. refl;
  pauses = 1;
  at_pause = λ n label. (refl, length-append n.labels (label ∷ []));
  loops = 0;
  at_loop = λ n a e. (refl, omega arith);
  held = λ kind. one_if kind.immediate;
  at_suspend = λ kind n a e. hold_counts kind.immediate n;
  locals = λ decls. 0;
  no_locals = refl;
  at_scope = λ n decls a. (refl, omega arith);
  calls = 0;
  at_call = λ n proto arguments. (refl, omega arith);
}

unfoldable pub loops_sort : Sort
loops_sort = record {
  own = own_loops;
  count = λ n. n.loops;
  at_nothing = refl;
  at_assign = λ v e. refl;
  at_delayed = λ v e. refl;
  at_seq = λ parts. refl;
  at_par = λ parts. refl;
  at_if = λ e a b. refl;
  at_abort = λ kind a e. refl;
  pauses = 0;
  at_pause = λ n label. (refl, omega arith);
  loops = 1;
  at_loop = λ n a e. (refl, refl);
  held = λ kind. 0;
  at_suspend = λ kind n a e. (refl, hold_keeps_loops kind.immediate n);
  locals = λ decls. 0;
  no_locals = refl;
  at_scope = λ n decls a. (refl, omega arith);
  calls = 0;
  at_call = λ n proto arguments. (refl, omega arith);
}

unfoldable pub calls_sort : Sort
calls_sort = record {
  own = own_calls;
  count = λ n. n.calls;
  at_nothing = refl;
  at_assign = λ v e. refl;
  at_delayed = λ v e. refl;
  at_seq = λ parts. refl;
  at_par = λ parts. refl;
  at_if = λ e a b. refl;
  at_abort = λ kind a e. refl;
  pauses = 0;
  at_pause = λ n label. (refl, omega arith);
  loops = 0;
  at_loop = λ n a e. (refl, omega arith);
  held = λ kind. 0;
  at_suspend = λ kind n a e. (refl, hold_keeps_calls kind.immediate n);
  locals = λ decls. 0;
  no_locals = refl;
  at_scope = λ n decls a. (refl, omega arith);
  calls = 1;
  at_call = λ n proto arguments. (refl, refl);
}

unfoldable pub locals_sort : Sort
locals_sort = record {
  own = own_locals;
  count = λ n. length n.decls;
  at_nothing = refl;
  at_assign = λ v e. refl;
  at_delayed = λ v e. refl;
  at_seq = λ parts. refl;
  at_par = λ parts. refl;
  at_if = λ e a b. refl;
  at_abort = λ kind a e. refl;
  pauses = 0;
  at_pause = λ n label. (refl, omega arith);
  loops = 0;
  at_loop = λ n a e. (refl, omega arith);
  held = λ kind. 0;
  at_suspend = λ kind n a e. (refl, hold_keeps_decls kind.immediate n);
  locals = λ decls. length decls;
  no_locals = refl;
  at_scope = λ n decls a. (refl, length-append n.decls decls);
  calls = 0;
  at_call = λ n proto arguments. (refl, omega arith);
}

module _ (k : Sort) where
  -- the numbers of the sort in a statement, in tree order
  abbrev numbers_in : Stmt → List ℕ
  numbers_in = in_tree_order k.own

  abbrev step : Stmt-F (List ℕ) → List ℕ
  step node = k.own node ++ concat (parts_of node)

  -- what was made has the numbers from those given before it on
  pub record Counted (made : Made) (n : Numbers) : Type 0 where
    pub many : ℕ
    pub counted : k.count made.next ≡ k.count n + many
    pub numbers : numbers_in made.tree ≡ range_with_len (k.count n) many

  -- the same of several parts
  pub record AllCounted (made : AllMade) (n : Numbers) : Type 0 where
    pub many : ℕ
    pub counted : k.count made.next ≡ k.count n + many
    pub numbers : concat (map numbers_in made.trees) ≡ range_with_len (k.count n) many

  abbrev pub Counts : Maker → Type 0
  Counts maker = (names : Meanings Var) (n : Numbers) → Counted (maker names n) n

  -- a node without parts
  leaf : (n next : Numbers) (tree : Stmt) (own : List ℕ) (j : ℕ) → numbers_in tree ≡ own ++ [] → own ≡ range_with_len (k.count n) j → k.count next ≡ k.count n + j
      → Counted (record { tree = tree; next = next }) n
  leaf n next tree own j e f g = record { many = j; counted = g; numbers = e ∙ append-nil own ∙ f }

  -- a node round one part
  around : (n inner : Numbers) (body : Made) (tree : Stmt) (own : List ℕ) (j : ℕ) → numbers_in tree ≡ own ++ (numbers_in body.tree ++ [])
      → own ≡ range_with_len (k.count n) j → k.count inner ≡ k.count n + j → Counted body inner → Counted (record { tree = tree; next = body.next }) n
  around n inner body tree own j e f g b = record {
    many = j + b.many;
    counted = omega (arith, b.counted, g);
    numbers = e ∙ ap (λ xs. own ++ xs) (append-nil (numbers_in body.tree) ∙ b.numbers ∙ ap (λ c. range_with_len c b.many) g)
        ∙ ap (λ xs. xs ++ range_with_len (k.count n + j) b.many) f ∙ sym (range_append (k.count n) j b.many);
  }

  pub counts_nothing : (n : Numbers) → Counted (record { tree = core.Nothing; next = n }) n
  counts_nothing n = leaf n n core.Nothing (k.own Stmt-F.Nothing) 0 (fold-Nothing (List ℕ) step) k.at_nothing (omega arith)

  pub counts_assign : (v : Var) (e : Expr) (n : Numbers) → Counted (record { tree = core.Assign v e; next = n }) n
  counts_assign v e n = leaf n n (core.Assign v e) (k.own (Stmt-F.Assign v e)) 0 (fold-Assign (List ℕ) step v e) (k.at_assign v e) (omega arith)

  pub counts_delayed : (v : Var) (e : Expr) (n : Numbers) → Counted (record { tree = core.Delayed v e; next = n }) n
  counts_delayed v e n = leaf n n (core.Delayed v e) (k.own (Stmt-F.Delayed v e)) 0 (fold-Delayed (List ℕ) step v e) (k.at_delayed v e) (omega arith)

  pub counts_pausing : (label : Option Name) → Counts (pausing label)
  counts_pausing label names n =
      leaf n (with_place n label) (core.Pause (length n.labels)) (k.own (Stmt-F.Pause (length n.labels))) k.pauses
      (fold-Pause (List ℕ) step (length n.labels)) (k.at_pause n label).0 (k.at_pause n label).1

  pub counts_call : (proto : ℕ) (arguments : List Arg) (n : Numbers) → Counted (record { tree = core.Call n.calls proto arguments; next = with_call n }) n
  counts_call proto arguments n =
      leaf n (with_call n) (core.Call n.calls proto arguments) (k.own (Stmt-F.Call n.calls proto arguments)) k.calls
      (fold-Call (List ℕ) step n.calls proto arguments) (k.at_call n proto arguments).0 (k.at_call n proto arguments).1

  pub counts_repeating : (body : Maker) (e : Valued) → Counts body → Counts (repeating body e)
  counts_repeating body e b names n =
      let inner = body names (with_loop n) in
      let at = k.at_loop n (numbers_in inner.tree) (e names) in
      around n (with_loop n) inner (core.Loop n.loops inner.tree (e names)) (k.own (Stmt-F.Loop n.loops (numbers_in inner.tree) (e names))) k.loops
      (fold-Loop (List ℕ) step n.loops inner.tree (e names)) at.0 at.1 (b names (with_loop n))

  pub counts_aborting : (kind : Kind) (body : Maker) (e : Valued) → Counts body → Counts (aborting kind body e)
  counts_aborting kind body e b names n =
      let inner = body names n in
      around n n inner (core.Abort kind inner.tree (e names)) (k.own (Stmt-F.Abort kind (numbers_in inner.tree) (e names))) 0
      (fold-Abort (List ℕ) step kind inner.tree (e names)) (k.at_abort kind (numbers_in inner.tree) (e names)) (omega arith) (b names n)

  pub counts_suspending : (kind : Kind) (body : Maker) (e : Valued) → Counts body → Counts (suspending kind body e)
  counts_suspending kind body e b names n =
      let m = with_hold_place kind n in
      let inner = body names m in
      let at = k.at_suspend kind n (numbers_in inner.tree) (e names) in
      around n m inner (core.Suspend kind (hold_place kind n) inner.tree (e names)) (k.own (Stmt-F.Suspend kind (hold_place kind n) (numbers_in inner.tree) (e names)))
      (k.held kind) (fold-Suspend (List ℕ) step kind (hold_place kind n) inner.tree (e names)) at.0 at.1 (b names m)

  pub counts_branching : (e : Valued) (first second : Maker) → Counts first → Counts second → Counts (branching e first second)
  counts_branching e first second f g names n =
      let a = first names n in
      let b = second names a.next in
      let x = f names n in
      let y = g names a.next in
      record {
        many = x.many + y.many;
        counted = omega (arith, x.counted, y.counted);
        numbers = fold-If (List ℕ) step (e names) a.tree b.tree
            ∙ ap (λ xs. xs ++ (numbers_in a.tree ++ (numbers_in b.tree ++ []))) (k.at_if (e names) (numbers_in a.tree) (numbers_in b.tree))
            ∙ ap₂ (λ xs ys. xs ++ ys) x.numbers (append-nil (numbers_in b.tree) ∙ y.numbers ∙ ap (λ c. range_with_len c y.many) x.counted)
            ∙ sym (range_append (k.count n) x.many y.many);
      }

  counts_all : (makers : List Maker) → Each Counts makers → (names : Meanings Var) (n : Numbers) → AllCounted (all_made makers names n) n
  counts_all [] each names n = record { many = 0; counted = omega arith; numbers = refl }
  counts_all (maker ∷ makers) each names n =
      let a = maker names n in
      let b = all_made makers names a.next in
      let x = each.0 names n in
      let y = counts_all makers each.1 names a.next in
      record {
        many = x.many + y.many;
        counted = omega (arith, x.counted, y.counted);
        numbers = ap₂ (λ xs ys. xs ++ ys) x.numbers (y.numbers ∙ ap (λ c. range_with_len c y.many) x.counted) ∙ sym (range_append (k.count n) x.many y.many);
      }

  numbers_listed : (together : List Stmt → Stmt) → ((parts : List Stmt) → numbers_in (together parts) ≡ concat (map numbers_in parts))
      → (trees : List Stmt) → numbers_in (listed together trees) ≡ concat (map numbers_in trees)
  numbers_listed together h [] = fold-Nothing (List ℕ) step ∙ append-nil (k.own Stmt-F.Nothing) ∙ k.at_nothing
  numbers_listed together h (only ∷ []) = sym (append-nil (numbers_in only))
  numbers_listed together h (first ∷ (second ∷ others)) = h (first ∷ (second ∷ others))

  numbers_seq : (parts : List Stmt) → numbers_in (core.Seq parts) ≡ concat (map numbers_in parts)
  numbers_seq parts = fold-Seq (List ℕ) step parts ∙ ap (λ xs. xs ++ concat (map numbers_in parts)) (k.at_seq (map numbers_in parts))

  numbers_par : (parts : List Stmt) → numbers_in (core.Par parts) ≡ concat (map numbers_in parts)
  numbers_par parts = fold-Par (List ℕ) step parts ∙ ap (λ xs. xs ++ concat (map numbers_in parts)) (k.at_par (map numbers_in parts))

  pub counts_sequence : (makers : List Maker) → Each Counts makers → Counts (in_sequence makers)
  counts_sequence makers each names n =
      let all = counts_all makers each names n in
      record { many = all.many; counted = all.counted; numbers = numbers_listed core.Seq numbers_seq (all_made makers names n).trees ∙ all.numbers }

  pub counts_parallel : (makers : List Maker) → Each Counts makers → Counts (in_parallel makers)
  counts_parallel makers each names n =
      let all = counts_all makers each names n in
      record { many = all.many; counted = all.counted; numbers = numbers_listed core.Par numbers_par (all_made makers names n).trees ∙ all.numbers }

  -- a scope of some locals, or none round the body
  numbers_scoped : (n : Numbers) (decls : List Decl) (body : Stmt)
      → numbers_in (scoped (range_with_len (length n.decls) (length decls)) body) ≡ range_with_len (k.count n) (k.locals decls) ++ (numbers_in body ++ [])
  numbers_scoped n [] body =
      sym (append-nil (numbers_in body)) ∙ ap (λ j. range_with_len (k.count n) j ++ (numbers_in body ++ [])) (sym k.no_locals)
  numbers_scoped n (decl ∷ decls) body =
      fold-Scope (List ℕ) step (range_with_len (length n.decls) (length (decl ∷ decls))) body
      ∙ ap (λ xs. xs ++ (numbers_in body ++ [])) (k.at_scope n (decl ∷ decls) (numbers_in body)).0

  pub counts_scope : (locals : List NameAt) (decls : List Decl) (body : Maker) → length decls ≡ length locals → Counts body → Counts (in_scope locals decls body)
  counts_scope locals decls body as_many b names n =
      let m = with_locals n decls in
      let inner = body (declared (local_numbers (length n.decls) locals) names) m in
      let e : scoped (range_with_len (length n.decls) (length locals)) inner.tree ≡ scoped (range_with_len (length n.decls) (length decls)) inner.tree =
      ap (λ j. scoped (range_with_len (length n.decls) j) inner.tree) (sym as_many) in
      around n m inner (scoped (range_with_len (length n.decls) (length locals)) inner.tree) (range_with_len (k.count n) (k.locals decls)) (k.locals decls)
      (ap numbers_in e ∙ numbers_scoped n decls inner.tree) refl (k.at_scope n decls (numbers_in inner.tree)).1 (b (declared (local_numbers (length n.decls) locals) names) m)

  counts_assigned : (next : Bool) (v : Var) (e : Expr) (n : Numbers) → Counted (record { tree = if next then core.Delayed v e else core.Assign v e; next = n }) n
  counts_assigned true v e n = counts_delayed v e n
  counts_assigned false v e n = counts_assign v e n

  pub keeps_counts : Keeps Counts
  keeps_counts = record {
    forms = record {
      at_nothing = λ names n. counts_nothing n;
      at_assigned = λ (target : Target) (value : Valued) names n. counts_assigned target.next (core_variable names target.name.name) (value names) n;
      at_pausing = counts_pausing;
      at_calling = λ proto formals arguments names n. counts_call proto (core_arguments names formals arguments) n;
      at_repeating = counts_repeating;
      at_branching = counts_branching;
      at_aborting = counts_aborting;
      at_suspending = counts_suspending;
      at_sequence = counts_sequence;
      at_parallel = counts_parallel;
    };
    at_scope = counts_scope;
  }
