-- The locals of the core tree differ in name from what is above them, where nothing is said against the file.
use Rattle.std.proofs.Common.{◌≡◌, ℕ, zero, suc, ◌+◌, Bool, true, false, not, ◌&&◌, ◌||◌, length, map, List, [], ◌∷◌, ◌++◌, Option, Some, None, refl, sym, ap, ap₂, subst, ◌∙◌, append-nil, append_assoc, length-append, arith, unwrap_or, if◌then◌else◌}
use Rattle.std.proofs.lemmas.List.{map-append}
use Rattle.std.proofs.lemmas.List.Folds.{list_any-append, list_all-append}
use Rattle.std.specs.List.{flat_map, list_all, list_any, filter_map, range_with_len, slice_get, cons_option}
use Rattle.std.specs.Option.{is_none, option_map}
use Rattle.std.specs.Str.{bytes_eq}
use Rattle.std.proofs.lemmas.Slice.Eq.{bytes_eq-Decides}
use Rattle.qz_syntax.specs.declared.declarations.Decl.{Decl}
use Rattle.qz_syntax.specs.declared.names.Name.{Name}
use Rattle.qz_syntax.specs.declared.expressions.Var.{Var}
use Rattle.qz_syntax.specs.declared.expressions.Expr.{Expr}
use Rattle.qz_syntax.specs.declared.statements.Kind.{Kind}
use Rattle.qz_syntax.specs.declared.statements.Stmt.{Stmt}
use Rattle.qz_syntax.specs.declared.statements.Stmt.TheVariants as core
use Rattle.qz_syntax.specs.declared.statements.Stmt.TheOpen.{Stmt-F}
use Rattle.qz_syntax.specs.declared.file_expressions.NameAt.{NameAt}
use Rattle.qz_syntax.specs.declared.file_statements.Target.{Target}
use Rattle.qz_syntax.specs.declared.files.FileDecl.{FileDecl}
use Rattle.qz_values.specs.Types.{is_type}
use Rattle.qz_types.specs.WrittenTypes.{type_faults}
use Rattle.qz_syntax.specs.DoubleNames.{is_among, are_distinct, local_names as names_at, node_names_differ, names_differ}
use Rattle.qz_syntax.proofs.Equations.{fold-Nothing, fold-Assign, fold-Delayed, fold-Pause, fold-Seq, fold-Par, fold-If, fold-Loop, fold-Abort, fold-Suspend, fold-Scope, fold-Call}
use Rattle.qz_types.specs.declared.numbers.Numbers.{Numbers}
use Rattle.qz_types.specs.declared.variables.Variable.{Variable}
use Rattle.qz_types.specs.Meanings.{Meanings, updated}
use Rattle.qz_types.specs.Declarations.{Declaration, declared, double_names, all_named, local_variable, decl_variables, local_variables}
use Rattle.qz_types.specs.CoreDeclarations.{local_numbers, local_names, core_local, core_decl, core_decls}
use Rattle.qz_types.specs.CoreExpressions.{core_variable, core_type}
use Rattle.qz_types.specs.Makers.{Made, Maker, Valued, AllMade, with_place, with_loop, with_call, with_locals, hold_place, with_hold_place, pausing, repeating, branching, aborting, suspending, all_made, listed, in_sequence, in_parallel}
use Rattle.qz_types.specs.CoreStatements.{in_scope, scoped, core_arguments}
use Rattle.qz_types.proofs.MadeInduction.{Each, Forms, as_many_locals}
use Rattle.qz_types.proofs.Faultless.{names_declared, known_not_among, declared_distinct, unknown, text_typed, first_nil, second_nil}

-- each of these names stands for something
pub record Covers (above : List Name) (file : Meanings Variable) : Type 0 where
  pub covers : (name : List ℕ) → is_among above name ≡ true → is_none (file name) ≡ false

-- where names stand for these variables, the locals of what is made differ from the names above
pub record Named (file : Meanings Variable) (made : Made) (n : Numbers) : Type 0 where
  pub added : List Decl
  pub next_decls : made.next.decls ≡ n.decls ++ added
  pub typed : list_all (λ (decl : Decl). is_type decl.ty) added ≡ true
  pub differ : (later : List Decl) (above : List Name) → Covers above file → names_differ (made.next.decls ++ later) made.tree above ≡ true

record AllNamed (file : Meanings Variable) (made : AllMade) (n : Numbers) : Type 0 where
  added : List Decl
  next_decls : made.next.decls ≡ n.decls ++ added
  typed : list_all (λ (decl : Decl). is_type decl.ty) added ≡ true
  differ : (later : List Decl) (above : List Name) → Covers above file
      → list_all (λ (part : List Name → Bool). part above) (map (names_differ (made.next.decls ++ later)) made.trees) ≡ true

abbrev pub Names : Meanings Variable → Maker → Type 0
Names file maker = (names : Meanings Var) (n : Numbers) → Named file (maker names n) n

abbrev Told : Type 0
Told = List Name → Bool

both_true : (a b : Bool) → a ≡ true → b ≡ true → (a && b) ≡ true
both_true true b e f = f
both_true false b e f = e

-- some locals and some more, of types that there are
typed_both : (xs ys : List Decl) → list_all (λ (decl : Decl). is_type decl.ty) xs ≡ true → list_all (λ (decl : Decl). is_type decl.ty) ys ≡ true
    → list_all (λ (decl : Decl). is_type decl.ty) (xs ++ ys) ≡ true
typed_both xs ys e f =
    list_all-append (λ (decl : Decl). is_type decl.ty) xs ys
    ∙ both_true (list_all (λ (decl : Decl). is_type decl.ty) xs) (list_all (λ (decl : Decl). is_type decl.ty) ys) e f

module _ (file : Meanings Variable) where
  leaf : (n next : Numbers) (tree : Stmt) → ((all : List Decl) (above : List Name) → names_differ all tree above ≡ true) → next.decls ≡ n.decls
      → Named file (record { tree = tree; next = next }) n
  leaf n next tree e f = record {
    added = [];
    next_decls = f ∙ sym (append-nil n.decls);
    typed = refl;
    differ = λ later above covers. e (next.decls ++ later) above;
  }

  around : (n inner : Numbers) (body : Made) (tree : Stmt)
      → ((all : List Decl) (above : List Name) → names_differ all tree above ≡ (names_differ all body.tree above && true)) → inner.decls ≡ n.decls
      → Named file body inner → Named file (record { tree = tree; next = body.next }) n
  around n inner body tree e f b = record {
    added = b.added;
    next_decls = b.next_decls ∙ ap (λ ds. ds ++ b.added) f;
    typed = b.typed;
    differ = λ later above covers.
        e (body.next.decls ++ later) above ∙ both_true (names_differ (body.next.decls ++ later) body.tree above) true (b.differ later above covers) refl;
  }

  -- what differs where some locals are declared does so where more are declared later
  earlier : (a b more later : List Decl) (tree : Stmt) (above : List Name) → b ≡ a ++ more → names_differ (a ++ (more ++ later)) tree above ≡ true
      → names_differ (b ++ later) tree above ≡ true
  earlier a b more later tree above e h = ap (λ ds. names_differ ds tree above) (ap (λ ds. ds ++ later) e ∙ append_assoc a more later) ∙ h

  two_parts : (n : Numbers) (a b : Made) (tree : Stmt)
      → ((all : List Decl) (above : List Name) → names_differ all tree above ≡ (names_differ all a.tree above && (names_differ all b.tree above && true)))
      → Named file a n → Named file b a.next → Named file (record { tree = tree; next = b.next }) n
  two_parts n a b tree e x y = record {
    added = x.added ++ y.added;
    next_decls = y.next_decls ∙ ap (λ ds. ds ++ y.added) x.next_decls ∙ append_assoc n.decls x.added y.added;
    typed = typed_both x.added y.added x.typed y.typed;
    differ = λ later above covers.
        let all = b.next.decls ++ later in
        e all above
        ∙ both_true (names_differ all a.tree above) (names_differ all b.tree above && true)
        (earlier a.next.decls b.next.decls y.added later a.tree above y.next_decls (x.differ (y.added ++ later) above covers))
        (both_true (names_differ all b.tree above) true (y.differ later above covers) refl);
  }

  all_named_parts : (makers : List Maker) → Each (Names file) makers → (names : Meanings Var) (n : Numbers) → AllNamed file (all_made makers names n) n
  all_named_parts [] each names n = record { added = []; next_decls = sym (append-nil n.decls); typed = refl; differ = λ later above covers. refl }
  all_named_parts (maker ∷ makers) each names n =
      let a = maker names n in
      let b = all_made makers names a.next in
      let x = each.0 names n in
      let y = all_named_parts makers each.1 names a.next in
      record {
        added = x.added ++ y.added;
        next_decls = y.next_decls ∙ ap (λ ds. ds ++ y.added) x.next_decls ∙ append_assoc n.decls x.added y.added;
        typed = typed_both x.added y.added x.typed y.typed;
        differ = λ later above covers.
            let all = b.next.decls ++ later in
            both_true (names_differ all a.tree above) (list_all (λ (part : Told). part above) (map (names_differ all) b.trees))
            (earlier a.next.decls b.next.decls y.added later a.tree above y.next_decls (x.differ (y.added ++ later) above covers))
            (y.differ later above covers);
      }

  only_one : (b : Bool) → (b && true) ≡ true → b ≡ true
  only_one true e = refl
  only_one false e = e

  listed_differ : (together : List Stmt → Stmt) (all : List Decl) (above : List Name)
      → ((parts : List Stmt) → names_differ all (together parts) above ≡ list_all (λ (part : Told). part above) (map (names_differ all) parts))
      → (trees : List Stmt) → list_all (λ (part : Told). part above) (map (names_differ all) trees) ≡ true → names_differ all (listed together trees) above ≡ true
  listed_differ together all above h [] e = ap (λ (h : Told). h above) (fold-Nothing Told (node_names_differ all))
  listed_differ together all above h (only ∷ []) e = only_one (names_differ all only above) e
  listed_differ together all above h (first ∷ (second ∷ others)) e = h (first ∷ (second ∷ others)) ∙ e

  from_all : (n : Numbers) (together : List Stmt → Stmt) (parts : AllMade)
      → ((all : List Decl) (above : List Name) (trees : List Stmt) → names_differ all (together trees) above ≡ list_all (λ (part : Told). part above) (map (names_differ all) trees))
      → AllNamed file parts n → Named file (record { tree = listed together parts.trees; next = parts.next }) n
  from_all n together parts h x = record {
    added = x.added;
    next_decls = x.next_decls;
    typed = x.typed;
    differ = λ later above covers.
        listed_differ together (parts.next.decls ++ later) above (h (parts.next.decls ++ later) above) parts.trees (x.differ later above covers);
  }

  differ_assigned : (next : Bool) (v : Var) (e : Expr) (all : List Decl) (above : List Name)
      → names_differ all (if next then core.Delayed v e else core.Assign v e) above ≡ true
  differ_assigned true v e all above = ap (λ (h : Told). h above) (fold-Delayed Told (node_names_differ all) v e)
  differ_assigned false v e all above = ap (λ (h : Told). h above) (fold-Assign Told (node_names_differ all) v e)

  hold_keeps : (immediate : Bool) (n : Numbers) → (if immediate then with_place n None else n).decls ≡ n.decls
  hold_keeps true n = refl
  hold_keeps false n = refl

  pub forms_named : Forms (Names file)
  forms_named = record {
    at_nothing = λ names n. leaf n n core.Nothing (λ all above. ap (λ (h : Told). h above) (fold-Nothing Told (node_names_differ all))) refl;
    at_assigned = λ (target : Target) (value : Valued) names n.
        leaf n n (if target.next then core.Delayed (core_variable names target.name.name) (value names) else core.Assign (core_variable names target.name.name) (value names))
        (differ_assigned target.next (core_variable names target.name.name) (value names)) refl;
    at_pausing = λ label names n.
        leaf n (with_place n label) (core.Pause (length n.labels)) (λ all above. ap (λ (h : Told). h above) (fold-Pause Told (node_names_differ all) (length n.labels))) refl;
    at_calling = λ proto formals arguments names n.
        leaf n (with_call n) (core.Call n.calls proto (core_arguments names formals arguments))
        (λ all above. ap (λ (h : Told). h above) (fold-Call Told (node_names_differ all) n.calls proto (core_arguments names formals arguments))) refl;
    at_repeating = λ body e b names n.
        around n (with_loop n) (body names (with_loop n)) (core.Loop n.loops (body names (with_loop n)).tree (e names))
        (λ all above. ap (λ (h : Told). h above) (fold-Loop Told (node_names_differ all) n.loops (body names (with_loop n)).tree (e names))) refl (b names (with_loop n));
    at_branching = λ e first second f g names n.
        two_parts n (first names n) (second names (first names n).next) (core.If (e names) (first names n).tree (second names (first names n).next).tree)
        (λ all above. ap (λ (h : Told). h above) (fold-If Told (node_names_differ all) (e names) (first names n).tree (second names (first names n).next).tree))
        (f names n) (g names (first names n).next);
    at_aborting = λ kind body e b names n.
        around n n (body names n) (core.Abort kind (body names n).tree (e names))
        (λ all above. ap (λ (h : Told). h above) (fold-Abort Told (node_names_differ all) kind (body names n).tree (e names))) refl (b names n);
    at_suspending = λ (kind : Kind) body e b names n.
        around n (with_hold_place kind n) (body names (with_hold_place kind n)) (core.Suspend kind (hold_place kind n) (body names (with_hold_place kind n)).tree (e names))
        (λ all above. ap (λ (h : Told). h above) (fold-Suspend Told (node_names_differ all) kind (hold_place kind n) (body names (with_hold_place kind n)).tree (e names)))
        (hold_keeps kind.immediate n) (b names (with_hold_place kind n));
    at_sequence = λ makers each names n.
        from_all n core.Seq (all_made makers names n) (λ all above trees. ap (λ (h : Told). h above) (fold-Seq Told (node_names_differ all) trees)) (all_named_parts makers each names n);
    at_parallel = λ makers each names n.
        from_all n core.Par (all_made makers names n) (λ all above trees. ap (λ (h : Told). h above) (fold-Par Told (node_names_differ all) trees)) (all_named_parts makers each names n);
  }

-- the names of the locals that a scope has
pub there : {X : Type 0} (xs : List X) (y : X) (zs : List X) → slice_get (xs ++ (y ∷ zs)) (length xs) ≡ Some y
there [] y zs = refl
there (x ∷ xs) y zs = there xs y zs

pub push : {X : Type 0} (xs : List X) (y : X) (zs : List X) → (xs ++ y ∷ []) ++ zs ≡ xs ++ (y ∷ zs)
push xs y zs = append_assoc xs (y ∷ []) zs

names_there : (xs ys zs : List Decl) → names_at (xs ++ (ys ++ zs)) (range_with_len (length xs) (length ys)) ≡ map (λ (decl : Decl). decl.name) ys
names_there xs [] zs = refl
names_there xs (y ∷ ys) zs =
    let long : length (xs ++ y ∷ []) ≡ length xs + 1 = length-append xs (y ∷ []) in
    let rest : names_at ((xs ++ y ∷ []) ++ (ys ++ zs)) (range_with_len (length (xs ++ y ∷ [])) (length ys)) ≡ map (λ (decl : Decl). decl.name) ys = names_there (xs ++ y ∷ []) ys zs in
    let moved : names_at (xs ++ (y ∷ (ys ++ zs))) (range_with_len (length xs + 1) (length ys)) ≡ map (λ (decl : Decl). decl.name) ys =
    ap₂ (λ ds k. names_at ds (range_with_len k (length ys))) (sym (push xs y (ys ++ zs))) (sym long) ∙ rest in
    ap (λ (o : Option Decl). cons_option (option_map (λ (decl : Decl). decl.name) o) (names_at (xs ++ (y ∷ (ys ++ zs))) (range_with_len (length xs + 1) (length ys)))) (there xs y (ys ++ zs))
    ∙ ap (λ names. y.name ∷ names) moved

-- the names of declared locals
locals_named : (decl : FileDecl) (names : List NameAt) → map (λ (d : Decl). d.name) (map (core_local decl) names) ≡ names_declared (all_named (local_variable decl) names)
locals_named decl [] = refl
locals_named decl (name ∷ names) = ap (λ rest. name.name ∷ rest) (locals_named decl names)

decls_named : (decls : List FileDecl) → map (λ (d : Decl). d.name) (core_decls decls) ≡ names_declared (local_variables decls)
decls_named [] = refl
decls_named (decl ∷ decls) =
    map-append (λ (d : Decl). d.name) (core_decl decl) (core_decls decls)
    ∙ ap₂ (λ xs ys. xs ++ ys) (locals_named decl decl.names) (decls_named decls)
    ∙ sym (map-append (λ (d : Declaration Variable). d.name.name) (decl_variables decl) (local_variables decls))

-- a name that is declared stands for something
pub known_by : {T : Type 0} (ds : List (Declaration T)) (m : Meanings T) (name : Name) (b : Bool) → is_none (declared ds m name) ≡ b → is_among (names_declared ds) name ≡ true → b ≡ false
known_by ds m name true e f = let g = (unknown ds m name e).0 in cc
known_by ds m name false e f = refl

kept_by : {T : Type 0} (ds : List (Declaration T)) (m : Meanings T) (name : Name) (b : Bool) → is_none (declared ds m name) ≡ b → is_none (m name) ≡ false → b ≡ false
kept_by ds m name true e f = let g = (unknown ds m name e).1 in cc
kept_by ds m name false e f = refl

either_of : (a b c : Bool) → (a || b) ≡ true → (a ≡ true → c ≡ false) → (b ≡ true → c ≡ false) → c ≡ false
either_of true b c e f g = f refl
either_of false b c e f g = g e

covers_more : (ds : List (Declaration Variable)) (file : Meanings Variable) (above : List Name) → Covers above file → Covers (names_declared ds ++ above) (declared ds file)
covers_more ds file above c = record {
  covers = λ name e.
      either_of (is_among (names_declared ds) name) (is_among above name) (is_none (declared ds file name))
      (sym (list_any-append (λ other. bytes_eq other name) (names_declared ds) above) ∙ e)
      (λ f. known_by ds file name (is_none (declared ds file name)) refl f)
      (λ f. kept_by ds file name (is_none (declared ds file name)) refl (c.covers name f));
}

covers_same : (ds : List (Declaration Variable)) (file : Meanings Variable) (above : List Name) → Covers above file → Covers above (declared ds file)
covers_same ds file above c = record { covers = λ name e. kept_by ds file name (is_none (declared ds file name)) refl (c.covers name e) }

not_above : (x : Name) (above rest : List Name) (b : Bool) → is_among above x ≡ b → (is_among above x ≡ true → is_among (x ∷ rest) x ≡ false) → b ≡ false
not_above x above rest true e h = let f = h e in let g : bytes_eq x x ≡ true = (bytes_eq-Decides x x).1 refl in let k = rw g at f in cc
not_above x above rest false e h = refl

later_false : (a b : Bool) → (a || b) ≡ false → b ≡ false
later_false false b e = e
later_false true b e = cc

negated : (a b : Bool) → a ≡ false → b ≡ true → (not a && b) ≡ true
negated false b e f = f
negated true b e f = cc

none_above : (above names : List Name) → ((name : Name) → is_among above name ≡ true → is_among names name ≡ false) → list_all (λ name. not (is_among above name)) names ≡ true
none_above above [] h = refl
none_above above (x ∷ names) h =
    negated (is_among above x) (list_all (λ name. not (is_among above name)) names) (not_above x above names (is_among above x) refl (h x))
    (none_above above names (λ name e. later_false (bytes_eq x name) (is_among names name) (h name e)))

-- a scope, whose names are the declared ones
scope_differs : (all : List Decl) (locals : List ℕ) (names above : List Name) (body : Stmt) → names_at all locals ≡ names → are_distinct names ≡ true
    → list_all (λ name. not (is_among above name)) names ≡ true → names_differ all body (names ++ above) ≡ true → names_differ all (core.Scope locals body) above ≡ true
scope_differs all locals names above body e f g h =
    ap (λ (k : Told). k above) (fold-Scope Told (node_names_differ all) locals body)
    ∙ ap (λ ns. are_distinct ns && (list_all (λ name. not (is_among above name)) ns && names_differ all body (ns ++ above))) e
    ∙ both_true (are_distinct names) (list_all (λ name. not (is_among above name)) names && names_differ all body (names ++ above)) f
    (both_true (list_all (λ name. not (is_among above name)) names) (names_differ all body (names ++ above)) g h)

scoped_differs : (all : List Decl) (locals : List ℕ) (names above : List Name) (body : Stmt) → names_at all locals ≡ names → are_distinct names ≡ true
    → list_all (λ name. not (is_among above name)) names ≡ true → names_differ all body (names ++ above) ≡ true → names_differ all body above ≡ true
    → names_differ all (scoped locals body) above ≡ true
scoped_differs all [] names above body e f g h i = i
scoped_differs all (local ∷ locals) names above body e f g h i = scope_differs all (local ∷ locals) names above body e f g h

names_typed : (decl : FileDecl) (names : List NameAt) → type_faults decl.ty ≡ [] → list_all (λ (d : Decl). is_type d.ty) (map (core_local decl) names) ≡ true
names_typed decl [] e = refl
names_typed decl (name ∷ names) e =
    both_true (is_type (core_type decl.ty)) (list_all (λ (d : Decl). is_type d.ty) (map (core_local decl) names)) (text_typed decl.ty e) (names_typed decl names e)

decls_typed : (decls : List FileDecl) → flat_map (λ (decl : FileDecl). type_faults decl.ty) decls ≡ [] → list_all (λ (d : Decl). is_type d.ty) (core_decls decls) ≡ true
decls_typed [] e = refl
decls_typed (decl ∷ decls) e =
    let rest = flat_map (λ (decl : FileDecl). type_faults decl.ty) decls in
    typed_both (core_decl decl) (core_decls decls) (names_typed decl decl.names (first_nil (type_faults decl.ty) rest e))
    (decls_typed decls (second_nil (type_faults decl.ty) rest e))

-- a block's locals, against which nothing is said
pub scope_named : (file : Meanings Variable) (decls : List FileDecl) (body : Maker) → flat_map (λ (decl : FileDecl). type_faults decl.ty) decls ≡ [] → double_names (local_variables decls) file ≡ []
    → Names (declared (local_variables decls) file) body → Names file (in_scope (local_names decls) (core_decls decls) body)
scope_named file decls body widths said b names n =
    let ds = local_variables decls in
    let declared_names = names_declared ds in
    let inner = body (declared (local_numbers (length n.decls) (local_names decls)) names) (with_locals n (core_decls decls)) in
    let x = b (declared (local_numbers (length n.decls) (local_names decls)) names) (with_locals n (core_decls decls)) in
    let locals = range_with_len (length n.decls) (length (local_names decls)) in
    record {
      added = core_decls decls ++ x.added;
      next_decls = x.next_decls ∙ append_assoc n.decls (core_decls decls) x.added;
      typed = typed_both (core_decls decls) x.added (decls_typed decls widths) x.typed;
      differ = λ later above covers.
          let all = inner.next.decls ++ later in
          let whole : all ≡ n.decls ++ (core_decls decls ++ (x.added ++ later)) =
          ap (λ xs. xs ++ later) (x.next_decls ∙ append_assoc n.decls (core_decls decls) x.added)
          ∙ append_assoc n.decls (core_decls decls ++ x.added) later ∙ ap (λ xs. n.decls ++ xs) (append_assoc (core_decls decls) x.added later) in
          let named : names_at all locals ≡ declared_names =
          ap₂ (λ xs k. names_at xs (range_with_len (length n.decls) k)) whole (sym (as_many_locals decls))
          ∙ names_there n.decls (core_decls decls) (x.added ++ later) ∙ decls_named decls in
          scoped_differs all locals declared_names above inner.tree named (declared_distinct ds file said)
          (none_above above declared_names (λ name e. known_not_among ds file name said (covers.covers name e)))
          (x.differ later (declared_names ++ above) (covers_more ds file above covers))
          (x.differ later above (covers_same ds file above covers));
    }
