-- What is sound in a well-formed module, and has no callee's body in it, is ready to be compiled.
use Rattle.std.proofs.Common.{◌≡◌, ℕ, zero, suc, Bool, true, false, List, [], ◌∷◌, map, length, Option, Some, None, IsTrue, refl, sym, ap, ap₂, subst, ◌∙◌, if◌then◌else◌}
use Rattle.std.specs.Prelude.{slice_get, nat_le, unwrap_or}
use Rattle.std.specs.Option.{option_map, option_and_then}
use Rattle.std.specs.List.{list_all}
use Rattle.std.proofs.lemmas.Bool.{false≢true, and_parts, and_from}
use Rattle.qz_values.specs.declared.Ty.{Ty}
use Rattle.qz_values.specs.Types.{is_type}
use Rattle.qz_nets.specs.Nets.{leaf_type}
use Rattle.qz_syntax.specs.declared.declarations.Dir.{Dir}
use Rattle.qz_syntax.specs.declared.declarations.Dir.TheVariants as dir
use Rattle.qz_syntax.specs.declared.declarations.Formal.{Formal}
use Rattle.qz_syntax.specs.declared.declarations.Decl.{Decl}
use Rattle.qz_syntax.specs.declared.modules.Module.{Module}
use Rattle.qz_syntax.specs.declared.expressions.Var.{Var}
use Rattle.qz_syntax.specs.declared.expressions.Var.TheVariants as var
use Rattle.qz_syntax.specs.declared.expressions.Expr.{Expr, map-Expr}
use Rattle.qz_syntax.specs.declared.expressions.Expr.TheOpen.{Expr-F}
use Rattle.qz_syntax.specs.declared.expressions.Expr.TheFolds.{fold-roll-Expr, ind-Expr}
use Rattle.qz_syntax.specs.declared.statements.Stmt.{Stmt, map-Stmt}
use Rattle.qz_syntax.specs.declared.statements.Stmt.TheOpen.{Stmt-F}
use Rattle.qz_syntax.specs.declared.statements.Stmt.TheFolds.{fold-roll-Stmt, ind-Stmt}
use Rattle.qz_syntax.specs.Numbers.{contains, node_is_unbound, is_unbound}
use Rattle.qz_syntax.specs.Typing.{Declared, Sight, Target, no_sight, bound_type, read_type, written_as, formal_target, decl_target, node_type, type_of, agree, is_condition}
use Rattle.qz_syntax.specs.Sound.{is_hold_of, has_members, in_scope, is_assignment, type_at, node_is_sound, is_sound}
use Rattle.qz_syntax.specs.WellFormed.{declared_by, IsWellFormed}
use Rattle.qz_meaning.proofs.Lists.{none≢some}
use Rattle.qz_control.specs.Typed.{declared_type, expr_type}
use Rattle.qz_control.specs.Ready.{is_test, node_is_ready, is_ready}

-- whoever has a type in the one has it in the other
abbrev Keeps : Option Ty → Option Ty → Type 0
Keeps a b = (t : Ty) → a ≡ Some t → b ≡ Some t

kept_one : (f : Ty → Option Ty) (a b : Option Ty) → Keeps a b → Keeps (option_and_then f a) (option_and_then f b)
kept_one f None b k t h = absurd (none≢some _ h)
kept_one f (Some s) b k t h = ap (λ o. option_and_then f o) (k s refl) ∙ h

kept_two : (f : Ty → Ty → Option Ty) (a b c d : Option Ty) → Keeps a b → Keeps c d
    → Keeps (option_and_then (λ s. option_and_then (λ t. f s t) c) a) (option_and_then (λ s. option_and_then (λ t. f s t) d) b)
kept_two f None b c d k l t h = absurd (none≢some _ h)
kept_two f (Some s) b c d k l t h = ap (λ o. option_and_then (λ s. option_and_then (λ t. f s t) d) o) (k s refl) ∙ kept_one (f s) c d l t h

kept_three : (f : Ty → Ty → Ty → Option Ty) (a b c d e g : Option Ty) → Keeps a b → Keeps c d → Keeps e g
    → Keeps (option_and_then (λ r. option_and_then (λ s. option_and_then (λ t. f r s t) e) c) a)
    (option_and_then (λ r. option_and_then (λ s. option_and_then (λ t. f r s t) g) d) b)
kept_three f None b c d e g k l m t h = absurd (none≢some _ h)
kept_three f (Some r) b c d e g k l m t h =
    ap (λ o. option_and_then (λ r. option_and_then (λ s. option_and_then (λ t. f r s t) g) d) o) (k r refl) ∙ kept_two (f r) c d e g l m t h

agree_kept : (a b c d : Option Ty) → Keeps a b → Keeps c d → agree a c ≡ true → agree b d ≡ true
agree_kept (Some s) b (Some t) d k l h = ap₂ agree (k s refl) (l t refl) ∙ h
agree_kept (Some s) b None d k l h = absurd (false≢true h)
agree_kept None b c d k l h = absurd (false≢true h)

condition_kept : (a b : Option Ty) → Keeps a b → is_condition a ≡ true → is_condition b ≡ true
condition_kept (Some s) b k h = ap is_condition (k s refl) ∙ h
condition_kept None b k h = absurd (false≢true h)

module _ (F G : Var → Option Ty) (keeps : (x : Var) → Keeps (F x) (G x)) where
  abbrev Kept : Type 0
  Kept = (e : Expr) × Keeps (type_of F e) (type_of G e)

  abbrev AtExpr : Expr-F Expr → Type 0
  AtExpr x = Keeps (node_type F (map-Expr Expr (Option Ty) (type_of F) x)) (node_type G (map-Expr Expr (Option Ty) (type_of G) x))

  at_expr : (node : Expr-F Kept) → AtExpr (map-Expr Kept Expr (λ e. e.0) node)
  at_expr (Expr-F.Lit value) = λ t h. h
  at_expr (Expr-F.Var x) = keeps x
  at_expr (Expr-F.Un op a) = kept_one _ _ _ a.1
  at_expr (Expr-F.Bin op a b) = kept_two _ _ _ _ _ a.1 b.1
  at_expr (Expr-F.Choose c a b) = kept_three _ _ _ _ _ _ _ c.1 a.1 b.1
  at_expr (Expr-F.Bit a index) = kept_one _ _ _ a.1
  at_expr (Expr-F.Slice a high low) = kept_one _ _ _ a.1
  at_expr (Expr-F.Concat a b) = kept_two _ _ _ _ _ a.1 b.1

  types_kept : (e : Expr) → Keeps (type_of F e) (type_of G e)
  types_kept = ind-Expr (λ e. Keeps (type_of F e) (type_of G e)) (λ x y is t h.
      fold-roll-Expr (Option Ty) (node_type G) x ∙ subst AtExpr is (at_expr y) t (sym (fold-roll-Expr (Option Ty) (node_type F) x) ∙ h))

if_some : {A : Type 0} (b : Bool) (o : Option A) (x : A) → (if b then o else None) ≡ Some x → o ≡ Some x
if_some true o x h = h
if_some false o x h = absurd (none≢some _ h)

-- a leaf of a type that there is
leaf_of_type : (s t : Ty) → is_type s ≡ true → s ≡ t → leaf_type s ≡ Some t
leaf_of_type s t h e = by (is_type s) h
  where
    by : (b : Bool) → b ≡ true → (if b then Some s else None) ≡ Some t
    by true g = ap (λ u. Some u) e
    by false g = absurd (false≢true g)

module _ {A : Type 0} (ty_of : A → Ty) where
  -- each of these is declared with a type that there is
  declared_kept : (all : List A) → list_all (λ x. is_type (ty_of x)) all ≡ true → (n : ℕ)
      → Keeps (option_map ty_of (slice_get all n)) (option_and_then (λ x. leaf_type (ty_of x)) (slice_get all n))
  declared_kept [] h n t g = absurd (none≢some _ g)
  declared_kept (x ∷ all) h zero t g = leaf_of_type (ty_of x) t (and_parts _ _ h).0 (ap (λ o. unwrap_or o (ty_of x)) g)
  declared_kept (x ∷ all) h (suc n) t g = declared_kept all (and_parts _ _ h).1 n t g

written_formal : (formal : Formal) (t : Ty) → option_map (λ (written : Target). written.ty) (formal_target formal) ≡ Some t → formal.ty ≡ t
written_formal formal t h = by formal.dir h
  where
    by : (d : Dir) → option_map (λ (written : Target). written.ty)
        (elim d [ dir.In ↦ None | dir.Out ↦ Some (record { class = formal.class; ty = formal.ty }) ]) ≡ Some t → formal.ty ≡ t
    by dir.In g = absurd (none≢some _ g)
    by dir.Out g = ap (λ o. unwrap_or o formal.ty) g

written_mapped : (o : Option Formal) (t : Ty) → option_map (λ (written : Target). written.ty) (option_and_then formal_target o) ≡ Some t
    → option_map (λ (formal : Formal). formal.ty) o ≡ Some t
written_mapped None t h = absurd (none≢some _ h)
written_mapped (Some formal) t h = ap (λ u. Some u) (written_formal formal t h)

written_local : (o : Option Decl) (t : Ty) → option_map (λ (written : Target). written.ty) (option_map decl_target o) ≡ Some t
    → option_map (λ (decl : Decl). decl.ty) o ≡ Some t
written_local None t h = absurd (none≢some _ h)
written_local (Some decl) t h = h

if_mapped : {A B : Type 0} (f : A → Ty) (g : B → A) (b : Bool) (o : Option B) (t : Ty)
    → option_map f (if b then option_map g o else None) ≡ Some t → option_map f (option_map g o) ≡ Some t
if_mapped f g true o t h = h
if_mapped f g false o t h = absurd (none≢some _ h)

module _ (m : Module) (formal_types : list_all (λ (formal : Formal). is_type formal.ty) m.formals ≡ true)
    (local_types : list_all (λ (decl : Decl). is_type decl.ty) m.decls ≡ true) where
  abbrev D : Declared
  D = declared_by [] m

  formal_kept : (n : ℕ) → Keeps (option_map (λ (formal : Formal). formal.ty) (slice_get m.formals n)) (declared_type m (var.Formal n))
  formal_kept n = declared_kept (λ (formal : Formal). formal.ty) m.formals formal_types n

  local_kept : (n : ℕ) → Keeps (option_map (λ (decl : Decl). decl.ty) (slice_get m.decls n)) (declared_type m (var.Local n))
  local_kept n = declared_kept (λ (decl : Decl). decl.ty) m.decls local_types n

  read_kept : (sight : Sight) → sight.bound ≡ [] → (x : Var) → Keeps (read_type D sight x) (declared_type m x)
  read_kept sight none (var.Formal n) t h = formal_kept n t h
  read_kept sight none (var.Local n) t h = local_kept n t (if_some (contains sight.locals n) _ t h)
  read_kept sight none (var.Bound n) t h = absurd (none≢some _ (ap (λ types. bound_type types n) (sym none) ∙ h))

  written_kept : (sight : Sight) (x : Var) → Keeps (option_map (λ (written : Target). written.ty) (written_as D sight x)) (declared_type m x)
  written_kept sight (var.Formal n) t h = formal_kept n t (written_mapped (slice_get m.formals n) t h)
  written_kept sight (var.Local n) t h =
      local_kept n t (written_local (slice_get m.decls n) t (if_mapped (λ (written : Target). written.ty) decl_target (contains sight.locals n) (slice_get m.decls n) t h))
  written_kept sight (var.Bound n) t h = absurd (none≢some _ h)

  value_kept : (sight : Sight) → sight.bound ≡ [] → (e : Expr) → Keeps (type_at D sight e) (expr_type m e)
  value_kept sight none = types_kept (read_type D sight) (declared_type m) (read_kept sight none)

  assignment_ready : (sight : Sight) → sight.bound ≡ [] → (target : Var) (value : Expr) → is_assignment D sight target value ≡ true
      → agree (declared_type m target) (expr_type m value) ≡ true
  assignment_ready sight none target value h =
      agree_kept (option_map (λ (written : Target). written.ty) (written_as D sight target)) (declared_type m target) (type_at D sight value) (expr_type m value)
      (written_kept sight target) (value_kept sight none value) h

  test_ready : (sight : Sight) → sight.bound ≡ [] → (condition : Expr) → is_condition (type_at D sight condition) ≡ true → is_test m condition ≡ true
  test_ready sight none condition h = condition_kept (type_at D sight condition) (expr_type m condition) (value_kept sight none condition) h

  abbrev Claim : Stmt → Type 0
  Claim s = (sight : Sight) → sight.bound ≡ [] → is_sound D s sight ≡ true → is_unbound s ≡ true → is_ready m s ≡ true

  abbrev Claimed : Type 0
  Claimed = (s : Stmt) × Claim s

  abbrev names : List Claimed → List Stmt
  names parts = map (λ (e : Claimed). e.0) parts

  members : (parts : List Claimed) (sight : Sight) → sight.bound ≡ []
      → list_all (λ (part : Sight → Bool). part sight) (map (is_sound D) (names parts)) ≡ true
      → list_all (λ (part : Bool). part) (map is_unbound (names parts)) ≡ true
      → list_all (λ (part : Bool). part) (map (is_ready m) (names parts)) ≡ true
  members [] sight none h k = refl
  members (e ∷ parts) sight none h k =
      let sound = and_parts _ _ h in
      let free = and_parts _ _ k in
      and_from _ _ (e.1 sight none sound.0 free.0) (members parts sight none sound.1 free.1)

  abbrev AtNode : Stmt-F Stmt → Type 0
  AtNode x = (sight : Sight) → sight.bound ≡ []
      → node_is_sound D (map-Stmt Stmt (Sight → Bool) (is_sound D) x) sight ≡ true
      → node_is_unbound (map-Stmt Stmt Bool is_unbound x) ≡ true
      → node_is_ready m (map-Stmt Stmt Bool (is_ready m) x) ≡ true

  at_node : (node : Stmt-F Claimed) → AtNode (map-Stmt Claimed Stmt (λ e. e.0) node)
  at_node Stmt-F.Nothing sight none h k = refl
  at_node (Stmt-F.Assign target value) sight none h k = assignment_ready sight none target value h
  at_node (Stmt-F.Delayed target value) sight none h k = assignment_ready sight none target value h
  at_node (Stmt-F.Pause place) sight none h k = refl
  at_node (Stmt-F.Seq parts) sight none h k = members parts sight none (and_parts (has_members (map (is_sound D) (names parts))) _ h).1 k
  at_node (Stmt-F.Par parts) sight none h k = members parts sight none (and_parts (has_members (map (is_sound D) (names parts))) _ h).1 k
  at_node (Stmt-F.If condition first second) sight none h k =
      let sound = and_parts (is_condition (type_at D sight condition)) _ h in
      let sides = and_parts _ _ sound.1 in
      let free = and_parts _ _ k in
      and_from _ _ (test_ready sight none condition sound.0)
      (and_from _ _ (first.1 sight none sides.0 free.0) (second.1 sight none sides.1 (and_parts _ _ free.1).0))
  at_node (Stmt-F.Loop number body condition) sight none h k =
      let sound = and_parts (is_condition (type_at D sight condition)) _ h in
      and_from _ _ (test_ready sight none condition sound.0) (body.1 sight none sound.1 (and_parts _ _ k).0)
  at_node (Stmt-F.Abort kind body condition) sight none h k =
      let sound = and_parts (is_condition (type_at D sight condition)) _ h in
      and_from _ _ (test_ready sight none condition sound.0) (body.1 sight none sound.1 (and_parts _ _ k).0)
  at_node (Stmt-F.Suspend kind hold body condition) sight none h k =
      let held = and_parts (is_hold_of kind hold) _ h in
      let sound = and_parts (is_condition (type_at D sight condition)) _ held.1 in
      and_from _ _ held.0 (and_from _ _ (test_ready sight none condition sound.0) (body.1 sight none sound.1 (and_parts _ _ k).0))
  at_node (Stmt-F.Scope locals body) sight none h k =
      body.1 (in_scope sight locals) none (and_parts (nat_le 1 (length locals)) _ h).1 (and_parts _ _ k).0
  at_node (Stmt-F.Call number proto arguments) sight none h k = absurd (false≢true h)
  at_node (Stmt-F.Bind bindings body) sight none h k = absurd (false≢true k)

  ready : (s : Stmt) → Claim s
  ready = ind-Stmt Claim (λ x y is sight none h k.
      fold-roll-Stmt Bool (node_is_ready m) x
      ∙ subst AtNode is (at_node y) sight none (ap (λ f. f sight) (sym (fold-roll-Stmt (Sight → Bool) (node_is_sound D) x)) ∙ h)
      (sym (fold-roll-Stmt Bool node_is_unbound x) ∙ k))

-- the body of a module without prototypes
pub body_ready : (m : Module) → IsWellFormed [] m → IsTrue (is_unbound m.body) → IsTrue (is_ready m m.body)
body_ready m formed free = ready m formed.formal_types formed.local_types m.body no_sight refl formed.sound free
