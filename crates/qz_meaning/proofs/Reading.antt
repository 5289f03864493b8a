-- A walk of a sound program reads no instances but formals and those that it comes past: where control goes
-- is the same in environments that agree there.
use Rattle.std.proofs.Common.{◌≡◌, ℕ, zero, suc, ◌+◌, Bool, true, false, ◌||◌, List, [], ◌∷◌, ◌++◌, map, length, drop, Option, Some, None, refl, sym, ap, ap₂, subst, subst₂, ◌∙◌, arith}
use Rattle.std.specs.Prelude.{◌==◌, if◌then◌else◌, is_some, slice_get, option_and_then}
use Rattle.std.specs.Option.{option_map}
use Rattle.std.specs.List.{flat_map, list_all, AllByRecursion}
use Rattle.std.proofs.lemmas.List.{drop-map}
use Rattle.std.proofs.lemmas.Bool.{false≢true, and_parts, eqb-true}
use Rattle.std.proofs.lemmas.List.Folds.{list_any-append}
use Rattle.qz_values.specs.declared.Ty.{Ty}
use Rattle.qz_values.specs.declared.Know.{Know}
use Rattle.qz_values.specs.declared.Know.TheVariants.{Known}
use Rattle.qz_values.specs.Values.{yes}
use Rattle.qz_values.specs.Knowledge.{both, either, opposite, knows_yes, apply1_of, apply2_of, choose_of, bit_of, slice_of, concat_of}
use Rattle.qz_syntax.specs.declared.expressions.Var.{Var}
use Rattle.qz_syntax.specs.declared.expressions.Var.TheVariants as var
use Rattle.qz_syntax.specs.declared.expressions.Expr.{Expr, map-Expr}
use Rattle.qz_syntax.specs.declared.expressions.Expr.TheOpen.{Expr-F}
use Rattle.qz_syntax.specs.declared.expressions.Expr.TheFolds.{fold-roll-Expr, ind-Expr}
use Rattle.qz_syntax.specs.declared.statements.Kind.{Kind}
use Rattle.qz_syntax.specs.declared.statements.Binding.{Binding}
use Rattle.qz_syntax.specs.declared.statements.Stmt.{Stmt, map-Stmt, roll-Stmt}
use Rattle.qz_syntax.specs.declared.statements.Stmt.TheOpen.{Stmt-F}
use Rattle.qz_syntax.specs.declared.statements.Stmt.TheFolds.{fold-roll-Stmt, ind-Stmt}
use Rattle.qz_syntax.specs.declared.places.Mark.{Mark}
use Rattle.qz_syntax.specs.declared.places.Mark.TheVariants as mark
use Rattle.qz_syntax.specs.declared.places.Store.{Store}
use Rattle.qz_syntax.specs.declared.places.Residual.{Residual, out-Residual}
use Rattle.qz_syntax.specs.declared.places.Residual.TheVariants.{InSeq, InIf, InBody, InScope}
use Rattle.qz_syntax.specs.Numbers.{contains}
use Rattle.qz_syntax.specs.Typing.{Declared, Sight, bound_type, read_type, node_type, is_condition}
use Rattle.qz_syntax.specs.Sound.{type_at, types_bound, has_type, in_scope, with_bound, node_is_sound, is_sound}
use Rattle.qz_meaning.specs.Instances.{local_instance, formal_instance}
use Rattle.qz_meaning.specs.Scenes.{Context, with_locals, store_of}
use Rattle.qz_meaning.specs.Expressions.{known_here, node_value, value_here, bound_by, with_bindings}
use Rattle.qz_meaning.specs.Residuals.{inner, member_of, branches_of, side_of, is_held, stores_of}
use Rattle.qz_meaning.specs.Accounts.{Write}
use Rattle.qz_meaning.specs.Layouts.{Met, Layout, bare}
use Rattle.qz_meaning.specs.Behaviors.{Behavior, idle}
use Rattle.qz_meaning.specs.Simple.{assignment, pause, pause_layout}
use Rattle.qz_meaning.specs.Sequences.{ends_of_all, rest_in_first, member, sequence, sequence_layout}
use Rattle.qz_meaning.specs.Parallels.{resting, ended_of_all, each_branch, parallel, fits_each, parallel_layout}
use Rattle.qz_meaning.specs.Choices.{choice, choice_layout}
use Rattle.qz_meaning.specs.Loops.{loop, loop_layout}
use Rattle.qz_meaning.specs.Aborts.{abort, body_layout}
use Rattle.qz_meaning.specs.Suspends.{stays_held, ends_on_start, rest_on_start, suspend, suspend_layout}
use Rattle.qz_meaning.specs.Scopes.{met_new, met_kept, scope, scope_layout}
use Rattle.qz_meaning.specs.Calls.{bound_body}
use Rattle.qz_meaning.specs.Walks.{node_behavior, behavior, node_layout, layout}
use Rattle.qz_meaning.specs.Residing.{stores_from, in_some_branch, residing}
use Rattle.qz_meaning.specs.Programs.{Program}
use Rattle.qz_meaning.specs.Settling.{Environment, passing}
use Rattle.qz_meaning.specs.Rounds.{AgreeAt}
use Rattle.qz_meaning.proofs.Lists.{all_parts}
use Rattle.qz_meaning.proofs.Fitting.{body_fits, side_fits, scope_fits, member_fits, branches_fit, held_fits}

if_same : {A : Type 0} (b c : Bool) (x y v w : A) → b ≡ c → x ≡ y → v ≡ w → (if b then x else v) ≡ (if c then y else w)
if_same {A = A} b c x y v w e p q = ap₂ (λ (i : A) (j : A). if b then i else j) p q ∙ ap (λ i. if i then y else w) e

choose : (t : Bool) (x y : Option Ty) (v w i j : Know) → v ≡ w → (is_some y ≡ true → i ≡ j) → is_some (if t then x else y) ≡ true → (if t then v else i) ≡ (if t then w else j)
choose true x y v w i j p q h = p
choose false x y v w i j p q h = q h

typed_inside : (f : Ty → Option Ty) (a : Option Ty) → is_some (option_and_then f a) ≡ true → is_some a ≡ true
typed_inside f None h = h
typed_inside f (Some t) h = refl

-- the second of two operands
typed_second : (f : Ty → Ty → Option Ty) (a b : Option Ty) → is_some (option_and_then (λ s. option_and_then (λ t. f s t) b) a) ≡ true → is_some b ≡ true
typed_second f None b h = absurd (false≢true h)
typed_second f (Some s) b h = typed_inside (λ t. f s t) b h

typed_third : (f : Ty → Ty → Ty → Option Ty) (a b c : Option Ty)
    → is_some (option_and_then (λ r. option_and_then (λ s. option_and_then (λ t. f r s t) c) b) a) ≡ true → (is_some b ≡ true) × (is_some c ≡ true)
typed_third f None b c h = absurd (false≢true h)
typed_third f (Some r) b c h = (typed_inside (λ s. option_and_then (λ t. f r s t) c) b h, typed_second (λ s t. f r s t) b c h)

condition_typed : (o : Option Ty) → is_condition o ≡ true → is_some o ≡ true
condition_typed (Some t) h = refl
condition_typed None h = h

mapped_some : {A B : Type 0} (f : A → B) (o : Option A) → is_some (option_map f o) ≡ true → is_some o ≡ true
mapped_some f (Some x) h = refl
mapped_some f None h = h

module _ (p : Program) (declared : Declared) (a b : Environment) (formals : (n : ℕ) → is_some (slice_get declared.formals n) ≡ true → a.now (formal_instance n) ≡ b.now (formal_instance n)) where
  abbrev Agree : List Met → Type 0
  Agree met = AllByRecursion (λ (one : Met). AgreeAt one a b) met

  -- what may be named here is the same in both
  pub record Seen (sight : Sight) (c d : Context) : Type 0 where
    pub marks : (n : ℕ) → c.marks n ≡ d.marks n
    pub locals : (n : ℕ) → contains sight.locals n ≡ true → a.now (local_instance n (c.marks n)) ≡ b.now (local_instance n (c.marks n))
    pub bound : (n : ℕ) → is_some (bound_type sight.bound n) ≡ true → c.bound n ≡ d.bound n

  if_some : {A : Type 0} (t : Bool) (o : Option A) → is_some (if t then o else None) ≡ true → (t ≡ true) × (is_some o ≡ true)
  if_some true o h = (refl, h)
  if_some false o h = absurd (false≢true h)

  read_same : (sight : Sight) (c d : Context) → Seen sight c d → (x : Var) → is_some (read_type declared sight x) ≡ true → known_here a.now c x ≡ known_here b.now d x
  read_same sight c d k (var.Formal n) h = formals n (mapped_some _ (slice_get declared.formals n) h)
  read_same sight c d k (var.Local n) h =
      k.locals n (if_some (contains sight.locals n) _ h).0 ∙ ap (λ m. b.now (local_instance n m)) (k.marks n)
  read_same sight c d k (var.Bound n) h = k.bound n h

  module _ (sight : Sight) (c d : Context) (k : Seen sight c d) where
    abbrev T : Expr → Option Ty
    T e = type_at declared sight e

    abbrev V : Expr → Know
    V e = value_here a.now c e

    abbrev W : Expr → Know
    W e = value_here b.now d e

    abbrev Valued : Type 0
    Valued = (e : Expr) × (is_some (T e) ≡ true → V e ≡ W e)

    abbrev AtExpr : Expr-F Expr → Type 0
    AtExpr x =
        is_some (node_type (read_type declared sight) (map-Expr Expr (Option Ty) T x)) ≡ true
        → node_value a.now c (map-Expr Expr Know V x) ≡ node_value b.now d (map-Expr Expr Know W x)

    at_expr : (node : Expr-F Valued) → AtExpr (map-Expr Valued Expr (λ e. e.0) node)
    at_expr (Expr-F.Lit value) h = refl
    at_expr (Expr-F.Var x) h = read_same sight c d k x h
    at_expr (Expr-F.Un op x) h = ap (apply1_of op) (x.1 (typed_inside _ (T x.0) h))
    at_expr (Expr-F.Bin op x y) h = ap₂ (apply2_of op) (x.1 (typed_inside _ (T x.0) h)) (y.1 (typed_second _ (T x.0) (T y.0) h))
    at_expr (Expr-F.Choose i x y) h =
        let two = typed_third _ (T i.0) (T x.0) (T y.0) h in
        ap₂ (λ (u : Know) (v : Know × Know). choose_of u v.0 v.1) (i.1 (typed_inside _ (T i.0) h)) (ap₂ (λ (u v : Know). (u, v)) (x.1 two.0) (y.1 two.1))
    at_expr (Expr-F.Bit x index) h = ap (λ v. bit_of v index) (x.1 (typed_inside _ (T x.0) h))
    at_expr (Expr-F.Slice x high low) h = ap (λ v. slice_of v high low) (x.1 (typed_inside _ (T x.0) h))
    at_expr (Expr-F.Concat x y) h = ap₂ concat_of (x.1 (typed_inside _ (T x.0) h)) (y.1 (typed_second _ (T x.0) (T y.0) h))

    -- an expression that has a type here has the same value
    pub values_same : (e : Expr) → is_some (T e) ≡ true → V e ≡ W e
    values_same = ind-Expr (λ e. is_some (T e) ≡ true → V e ≡ W e) (λ x y is h.
        fold-roll-Expr Know (node_value a.now c) x
        ∙ subst AtExpr is (at_expr y) (ap is_some (sym (fold-roll-Expr (Option Ty) (node_type (read_type declared sight)) x)) ∙ h)
        ∙ sym (fold-roll-Expr Know (node_value b.now d) x))

    value_same : (e : Expr) → is_condition (T e) ≡ true → V e ≡ W e
    value_same e h = values_same e (condition_typed (T e) h)

    types_first : (binding : Binding) (bindings : List Binding) (t : Ty) → T binding.value ≡ Some t
        → types_bound declared sight (binding ∷ bindings) ≡ (binding.number, t) ∷ types_bound declared sight bindings
    types_first binding bindings t e = rw e refl

    bound_same : (bindings : List Binding) (n : ℕ) → list_all (has_type declared sight) bindings ≡ true
        → is_some (bound_type (types_bound declared sight bindings ++ sight.bound) n) ≡ true → bound_by a.now c bindings n ≡ bound_by b.now d bindings n
    bound_same [] n all h = k.bound n h
    bound_same (binding ∷ bindings) n all h =
        let two = and_parts _ _ all in
        first (T binding.value) refl two.0 (λ e. bound_same bindings n two.1 e)
      where
        first : (o : Option Ty) → T binding.value ≡ o → is_some (T binding.value) ≡ true
            → (is_some (bound_type (types_bound declared sight bindings ++ sight.bound) n) ≡ true → bound_by a.now c bindings n ≡ bound_by b.now d bindings n)
            → bound_by a.now c (binding ∷ bindings) n ≡ bound_by b.now d (binding ∷ bindings) n
        first None e typed later = absurd (false≢true (ap is_some (sym e) ∙ typed))
        first (Some t) e typed later =
            choose (binding.number == n) (Some t) _ _ _ _ _ (values_same binding.value typed) later
            (ap (λ types. is_some (bound_type (types ++ sight.bound) n)) (sym (types_first binding bindings t e)) ∙ h)

  locals_kept : (locals : List ℕ) (m : Mark) (sight : Sight) (c d : Context) → ((n : ℕ) → contains locals n ≡ true → a.now (local_instance n m) ≡ b.now (local_instance n m))
      → Seen sight c d → Seen (in_scope sight locals) (with_locals c locals m) (with_locals d locals m)
  locals_kept locals m sight c d own k = record {
    marks = λ n. ap (λ i. if contains locals n then m else i) (k.marks n);
    locals = λ n h. by_own n (contains locals n) refl (sym (list_any-append (λ number. number == n) locals sight.locals) ∙ h);
    bound = k.bound;
  } where
    by_own : (n : ℕ) (t : Bool) → contains locals n ≡ t → (contains locals n || contains sight.locals n) ≡ true
        → a.now (local_instance n (if contains locals n then m else c.marks n)) ≡ b.now (local_instance n (if contains locals n then m else c.marks n))
    by_own n true e h = subst (λ t. a.now (local_instance n (if t then m else c.marks n)) ≡ b.now (local_instance n (if t then m else c.marks n))) (sym e) (own n e)
    by_own n false e h =
        subst (λ t. a.now (local_instance n (if t then m else c.marks n)) ≡ b.now (local_instance n (if t then m else c.marks n))) (sym e)
        (k.locals n (sym (ap (λ t. t || contains sight.locals n) e) ∙ h))

  bindings_kept : (bindings : List Binding) (sight : Sight) (c d : Context) → list_all (has_type declared sight) bindings ≡ true → Seen sight c d
      → Seen (with_bound sight (types_bound declared sight bindings)) (with_bindings a.now c bindings) (with_bindings b.now d bindings)
  bindings_kept bindings sight c d all k = record { marks = k.marks; locals = k.locals; bound = λ n h. bound_same sight c d k bindings n all h }

  new_agree : (locals : List ℕ) (m : Mark) → Agree (met_new locals m) → (n : ℕ) → contains locals n ≡ true → a.now (local_instance n m) ≡ b.now (local_instance n m)
  new_agree [] m all n h = absurd (false≢true h)
  new_agree (x ∷ locals) m all n h = by_test (new_agree locals m all.1 n) (x == n) refl h where
    by_test : (contains locals n ≡ true → a.now (local_instance n m) ≡ b.now (local_instance n m)) → (t : Bool) → (x == n) ≡ t → (t || contains locals n) ≡ true
        → a.now (local_instance n m) ≡ b.now (local_instance n m)
    by_test later true e k = subst (λ i. a.now (local_instance i m) ≡ b.now (local_instance i m)) (eqb-true x n e) all.0.now
    by_test later false e k = later k

  new_stores : (locals : List ℕ) (m : Mark) → Agree (met_new locals m) → stores_from (passing p a) locals m ≡ stores_from (passing p b) locals m
  new_stores [] m all = refl
  new_stores (x ∷ locals) m all =
      ap₂ (λ (s : Store) (l : List Store). s ∷ l)
      (ap₂ (store_of (p.class_of (var.Local x)) (p.type_of (var.Local x))) all.0.now all.0.later) (new_stores locals m all.1)

  -- with a store for each local, its kept instances are those with mark zero
  kept_new : (locals : List ℕ) (stores : List Store) → length stores ≡ length locals → Agree (met_kept locals stores) → Agree (met_new locals mark.Zero)
  kept_new [] stores long all = tt
  kept_new (x ∷ locals) [] long all = absurd (omega (arith, long))
  kept_new (x ∷ locals) (s ∷ stores) long all = (record { now = all.0.now; later = all.0.later }, kept_new locals stores (omega (arith, long)) all.1)

  abbrev B : Type 0
  B = Behavior Write (Option Residual)

  pub record StartsSame (x y : B) (c d : Context) (m : Mark) : Type 0 where
    pub ends : x.ends c m ≡ y.ends d m
    pub rest : x.rest c m ≡ y.rest d m

  pub record ResumesSame (x y : B) (c d : Context) (r : Residual) : Type 0 where
    pub ended : x.ended c r ≡ y.ended d r
    pub after : x.after c r ≡ y.after d r
    pub kept : x.kept r ≡ y.kept r

  pub record Same (x y : B) (l : Layout) (sight : Sight) : Type 0 where
    pub starts : (c d : Context) (m : Mark) → Seen sight c d → Agree (l.met_on_start m) → StartsSame x y c d m
    pub resumes : (c d : Context) (r : Residual) → Seen sight c d → l.fits r ≡ true → Agree (l.met_on_resume r) → ResumesSame x y c d r

  same_idle : (sight : Sight) → Same (idle (residing (passing p a))) (idle (residing (passing p b))) bare sight
  same_idle sight = record {
    starts = λ c d m k all. record { ends = refl; rest = refl };
    resumes = λ c d r k fits all. record { ended = refl; after = refl; kept = refl };
  }

  same_assignment : (delayed : Bool) (x : Var) (e : Expr) (sight : Sight)
      → Same (assignment a.now (residing (passing p a)) delayed x e) (assignment b.now (residing (passing p b)) delayed x e) bare sight
  same_assignment delayed x e sight = record {
    starts = λ c d m k all. record { ends = refl; rest = refl };
    resumes = λ c d r k fits all. record { ended = refl; after = refl; kept = refl };
  }

  same_pause : (place : ℕ) (sight : Sight) → Same (pause (residing (passing p a)) place) (pause (residing (passing p b)) place) (pause_layout place) sight
  same_pause place sight = record {
    starts = λ c d m k all. record { ends = refl; rest = refl };
    resumes = λ c d r k fits all. record { ended = refl; after = refl; kept = refl };
  }

  same_if : (side : Bool) (x y v w : B) (l l₂ : Layout) (sight : Sight) → Same x y l sight → Same v w l₂ sight
      → Same (if side then x else v) (if side then y else w) (if side then l else l₂) sight
  same_if true x y v w l l₂ sight s t = s
  same_if false x y v w l l₂ sight s t = t

  same_choice : (e : Expr) (x y v w : B) (l l₂ : Layout) (sight : Sight) → is_condition (type_at declared sight e) ≡ true → Same x y l sight → Same v w l₂ sight
      → Same (choice a.now (residing (passing p a)) e x v) (choice b.now (residing (passing p b)) e y w) (choice_layout l l₂) sight
  same_choice e x y v w l l₂ sight typed s t = record {
    starts = λ c d m k all.
        let value = value_same sight c d k e typed in
        let parts = all_parts (λ (one : Met). AgreeAt one a b) (l.met_on_start m) (l₂.met_on_start m) all in
        let one = s.starts c d m k parts.0 in
        let two = t.starts c d m k parts.1 in
        record {
          ends = ap₂ either (ap₂ both value one.ends) (ap₂ both (ap opposite value) two.ends);
          rest = if_same _ _ _ _ _ _ (ap knows_yes value) (ap (option_map (λ r. InIf true r)) one.rest) (ap (option_map (λ r. InIf false r)) two.rest);
        };
    resumes = λ c d r k fits all.
        let one = (same_if (side_of r) x y v w l l₂ sight s t).resumes c d (inner r) k (side_fits l l₂ r (out-Residual r) fits) all in
        record { ended = one.ended; after = ap (option_map (λ i. InIf (side_of r) i)) one.after; kept = ap (option_map (λ i. InIf (side_of r) i)) one.kept };
  }

  same_loop : (number : ℕ) (e : Expr) (x y : B) (l : Layout) (sight : Sight) → is_condition (type_at declared sight e) ≡ true → Same x y l sight
      → Same (loop a.now (residing (passing p a)) number x e) (loop b.now (residing (passing p b)) number y e) (loop_layout number l) sight
  same_loop number e x y l sight typed s = record {
    starts = λ c d m k all. record { ends = refl; rest = ap (option_map (λ r. InBody r)) (s.starts c d m k all).rest };
    resumes = λ c d r k fits all.
        let value = value_same sight c d k e typed in
        let parts = all_parts (λ (one : Met). AgreeAt one a b) (l.met_on_resume (inner r)) (l.met_on_start (mark.Loop number)) all in
        let one = s.resumes c d (inner r) k (body_fits l r (out-Residual r) fits) parts.0 in
        let again = s.starts c d (mark.Loop number) k parts.1 in
        record {
          ended = ap₂ both one.ended (ap opposite value);
          after = ap (option_map (λ r. InBody r)) (if_same _ _ _ _ _ _ (ap knows_yes (ap₂ both one.ended value)) again.rest one.after);
          kept = ap (option_map (λ r. InBody r)) one.kept;
        };
  }

  same_abort : (kind : Kind) (e : Expr) (x y : B) (l : Layout) (sight : Sight) → is_condition (type_at declared sight e) ≡ true → Same x y l sight
      → Same (abort a.now (residing (passing p a)) kind x e) (abort b.now (residing (passing p b)) kind y e) (body_layout l) sight
  same_abort kind e x y l sight typed s = record {
    starts = λ c d m k all.
        let value = value_same sight c d k e typed in
        let one = s.starts c d m k all in
        record {
          ends = if_same kind.immediate kind.immediate _ _ _ _ refl (ap₂ either value one.ends) one.ends;
          rest = if_same kind.immediate kind.immediate _ _ _ _ refl
              (if_same _ _ _ _ _ _ (ap knows_yes value) refl (ap (option_map (λ r. InBody r)) one.rest)) (ap (option_map (λ r. InBody r)) one.rest);
        };
    resumes = λ c d r k fits all.
        let value = value_same sight c d k e typed in
        let one = s.resumes c d (inner r) k (body_fits l r (out-Residual r) fits) all in
        record {
          ended = ap₂ either value one.ended;
          after = if_same _ _ _ _ _ _ (ap knows_yes value) refl (ap (option_map (λ r. InBody r)) one.after);
          kept = ap (option_map (λ r. InBody r)) one.kept;
        };
  }

  same_scope : (locals : List ℕ) (x y : B) (l : Layout) (sight : Sight) → Same x y l (in_scope sight locals)
      → Same (scope (residing (passing p a)) locals x) (scope (residing (passing p b)) locals y) (scope_layout locals l) sight
  same_scope locals x y l sight s = record {
    starts = λ c d m k all.
        let parts = all_parts (λ (one : Met). AgreeAt one a b) (met_new locals m) (l.met_on_start m) all in
        let one = s.starts _ _ m (locals_kept locals m sight c d (new_agree locals m parts.0) k) parts.1 in
        record { ends = one.ends; rest = ap₂ (λ stores (o : Option Residual). option_map (λ r. InScope stores r) o) (new_stores locals m parts.0) one.rest };
    resumes = λ c d r k fits all.
        let parts = all_parts (λ (one : Met). AgreeAt one a b) (met_kept locals (stores_of r)) (l.met_on_resume (inner r)) all in
        let fit = scope_fits locals l r (out-Residual r) fits in
        let new = kept_new locals (stores_of r) fit.0 parts.0 in
        let one = s.resumes _ _ (inner r) (locals_kept locals mark.Zero sight c d (new_agree locals mark.Zero new) k) fit.1 parts.1 in
        record {
          ended = one.ended;
          after = ap₂ (λ stores (o : Option Residual). option_map (λ r. InScope stores r) o) (new_stores locals mark.Zero new) one.after;
          kept = ap₂ (λ stores (o : Option Residual). option_map (λ r. InScope stores r) o) (new_stores locals mark.Zero new) one.kept;
        };
  }

  same_bound : (bindings : List Binding) (x y : B) (l : Layout) (sight : Sight) → list_all (has_type declared sight) bindings ≡ true
      → Same x y l (with_bound sight (types_bound declared sight bindings)) → Same (bound_body a.now bindings x) (bound_body b.now bindings y) l sight
  same_bound bindings x y l sight typed s = record {
    starts = λ c d m k all. let one = s.starts _ _ m (bindings_kept bindings sight c d typed k) all in record { ends = one.ends; rest = one.rest };
    resumes = λ c d r k fits all.
        let one = s.resumes _ _ r (bindings_kept bindings sight c d typed k) fits all in record { ended = one.ended; after = one.after; kept = one.kept };
  }

  same_held : (hold : Option ℕ) → stays_held (residing (passing p a)) hold ≡ stays_held (residing (passing p b)) hold
  same_held None = refl
  same_held (Some place) = refl

  same_suspend : (kind : Kind) (hold : Option ℕ) (e : Expr) (x y : B) (l : Layout) (sight : Sight) → is_condition (type_at declared sight e) ≡ true → Same x y l sight
      → Same (suspend a.now (residing (passing p a)) kind hold x e) (suspend b.now (residing (passing p b)) kind hold y e) (suspend_layout hold l) sight
  same_suspend kind hold e x y l sight typed s = record {
    starts = λ c d m k all. record { ends = on_start c d m k all; rest = rest_so c d m k all };
    resumes = λ c d r k fits all. record {
      ended = ended_by (is_held r) c d r k (λ free. held_fits hold l r (out-Residual r) fits free) all;
      after = after_by (is_held r) c d r k (λ free. held_fits hold l r (out-Residual r) fits free) all;
      kept = kept_by (is_held r) c d r k (λ free. held_fits hold l r (out-Residual r) fits free) all;
    };
  } where
    on_start : (c d : Context) (m : Mark) → Seen sight c d → Agree (l.met_on_start m) → ends_on_start a.now kind x e c m ≡ ends_on_start b.now kind y e d m
    on_start c d m k all =
        let one = s.starts c d m k all in
        if_same kind.immediate kind.immediate _ _ _ _ refl (ap₂ both (ap opposite (value_same sight c d k e typed)) one.ends) one.ends

    rest_so : (c d : Context) (m : Mark) → Seen sight c d → Agree (l.met_on_start m)
        → rest_on_start a.now (residing (passing p a)) kind hold x e c m ≡ rest_on_start b.now (residing (passing p b)) kind hold y e d m
    rest_so c d m k all =
        let one = s.starts c d m k all in
        if_same kind.immediate kind.immediate _ _ _ _ refl
        (if_same _ _ _ _ _ _ (ap knows_yes (value_same sight c d k e typed)) (same_held hold) (ap (option_map (λ r. InBody r)) one.rest)) (ap (option_map (λ r. InBody r)) one.rest)

    ended_by : (t : Bool) (c d : Context) (r : Residual) → Seen sight c d → (t ≡ false → l.fits (inner r) ≡ true)
        → Agree (if t then l.met_on_start mark.Zero else l.met_on_resume (inner r))
        → (if t then ends_on_start a.now kind x e c mark.Zero else both (opposite (value_here a.now c e)) (x.ended c (inner r)))
        ≡ (if t then ends_on_start b.now kind y e d mark.Zero else both (opposite (value_here b.now d e)) (y.ended d (inner r)))
    ended_by true c d r k fits all = on_start c d mark.Zero k all
    ended_by false c d r k fits all = ap₂ both (ap opposite (value_same sight c d k e typed)) (s.resumes c d (inner r) k (fits refl) all).ended

    after_by : (t : Bool) (c d : Context) (r : Residual) → Seen sight c d → (t ≡ false → l.fits (inner r) ≡ true)
        → Agree (if t then l.met_on_start mark.Zero else l.met_on_resume (inner r))
        → (if t then rest_on_start a.now (residing (passing p a)) kind hold x e c mark.Zero
        else option_map (λ i. InBody i) (if knows_yes (value_here a.now c e) then x.kept (inner r) else x.after c (inner r)))
        ≡ (if t then rest_on_start b.now (residing (passing p b)) kind hold y e d mark.Zero
        else option_map (λ i. InBody i) (if knows_yes (value_here b.now d e) then y.kept (inner r) else y.after d (inner r)))
    after_by true c d r k fits all = rest_so c d mark.Zero k all
    after_by false c d r k fits all =
        let one = s.resumes c d (inner r) k (fits refl) all in
        ap (option_map (λ i. InBody i)) (if_same _ _ _ _ _ _ (ap knows_yes (value_same sight c d k e typed)) one.kept one.after)

    kept_by : (t : Bool) (c d : Context) (r : Residual) → Seen sight c d → (t ≡ false → l.fits (inner r) ≡ true)
        → Agree (if t then l.met_on_start mark.Zero else l.met_on_resume (inner r))
        → (if t then stays_held (residing (passing p a)) hold else option_map (λ i. InBody i) (x.kept (inner r)))
        ≡ (if t then stays_held (residing (passing p b)) hold else option_map (λ i. InBody i) (y.kept (inner r)))
    kept_by true c d r k fits all = same_held hold
    kept_by false c d r k fits all = ap (option_map (λ i. InBody i)) (s.resumes c d (inner r) k (fits refl) all).kept

  abbrev X : Stmt → B
  X = behavior a.now (residing (passing p a)) (λ number arguments. idle (residing (passing p a)))

  abbrev Y : Stmt → B
  Y = behavior b.now (residing (passing p b)) (λ number arguments. idle (residing (passing p b)))

  abbrev L : Stmt → Layout
  L = layout (λ number. bare)

  module _ (sight : Sight) where
    abbrev AllSame : List Stmt → Type 0
    AllSame parts = AllByRecursion (λ s. Same (X s) (Y s) (L s) sight) parts

    all_drop : (parts : List Stmt) (n : ℕ) → AllSame parts → AllSame (drop n parts)
    all_drop parts zero h = h
    all_drop [] (suc n) h = tt
    all_drop (s ∷ parts) (suc n) h = all_drop parts n h.1

    abbrev Started : List Layout → Mark → Type 0
    Started ls m = Agree (flat_map (λ (part : Layout). part.met_on_start m) ls)

    ends_all : (parts : List Stmt) → AllSame parts → (c d : Context) (g h : Know) (m : Mark) → Seen sight c d → Started (map L parts) m → g ≡ h
        → ends_of_all c (map X parts) g m ≡ ends_of_all d (map Y parts) h m
    ends_all [] same c d g h m k all e = e
    ends_all (s ∷ parts) same c d g h m k all e =
        let two = all_parts (λ (one : Met). AgreeAt one a b) ((L s).met_on_start m) _ all in
        ends_all parts same.1 c d _ _ m k two.1 (ap₂ both e (same.0.starts c d m k two.0).ends)

    rest_all : (parts : List Stmt) → AllSame parts → (c d : Context) (number : ℕ) (m : Mark) → Seen sight c d → Started (map L parts) m
        → rest_in_first (residing (passing p a)) c (map X parts) number m ≡ rest_in_first (residing (passing p b)) d (map Y parts) number m
    rest_all [] same c d number m k all = refl
    rest_all (s ∷ parts) same c d number m k all =
        let two = all_parts (λ (one : Met). AgreeAt one a b) ((L s).met_on_start m) _ all in
        let one = same.0.starts c d m k two.0 in
        if_same _ _ _ _ _ _ (ap knows_yes one.ends) (rest_all parts same.1 c d (number + 1) m k two.1) (ap (option_map (λ r. InSeq number r)) one.rest)

    member_same : (parts : List Stmt) → AllSame parts → (n : ℕ)
        → Same (member (idle (residing (passing p a))) (map X parts) n) (member (idle (residing (passing p b))) (map Y parts) n) (member bare (map L parts) n) sight
    member_same [] same n = same_idle sight
    member_same (s ∷ parts) same zero = same.0
    member_same (s ∷ parts) same (suc n) = member_same parts same.1 n

    same_sequence : (parts : List Stmt) → AllSame parts
        → Same (sequence (residing (passing p a)) (map X parts)) (sequence (residing (passing p b)) (map Y parts)) (sequence_layout (map L parts)) sight
    same_sequence parts same = record {
      starts = λ c d m k all. record {
        ends = ends_all parts same c d (Known yes) (Known yes) m k all refl;
        rest = rest_all parts same c d 0 m k all;
      };
      resumes = λ c d r k fits all.
          let n = member_of r in
          let two = all_parts (λ (one : Met). AgreeAt one a b) ((member bare (map L parts) n).met_on_resume (inner r)) _ all in
          let later : Started (map L (drop (n + 1) parts)) mark.Zero = subst (λ ls. Started ls mark.Zero) (drop-map L (n + 1) parts) two.1 in
          let one = (member_same parts same n).resumes c d (inner r) k ((member_fits (map L parts) r (out-Residual r) fits).0) two.0 in
          let v : Know = (member (idle (residing (passing p a))) (map X parts) n).ended c (inner r) in
          let w : Know = (member (idle (residing (passing p b))) (map Y parts) n).ended d (inner r) in
          record {
            ended = ap (λ xs. ends_of_all c xs v mark.Zero) (drop-map X (n + 1) parts)
                ∙ ends_all (drop (n + 1) parts) (all_drop parts (n + 1) same) c d _ _ mark.Zero k later one.ended
                ∙ sym (ap (λ xs. ends_of_all d xs w mark.Zero) (drop-map Y (n + 1) parts));
            after = if_same _ _ _ _ _ _ (ap knows_yes one.ended)
                (ap (λ xs. rest_in_first (residing (passing p a)) c xs (n + 1) mark.Zero) (drop-map X (n + 1) parts)
                ∙ rest_all (drop (n + 1) parts) (all_drop parts (n + 1) same) c d (n + 1) mark.Zero k later
                ∙ sym (ap (λ xs. rest_in_first (residing (passing p b)) d xs (n + 1) mark.Zero) (drop-map Y (n + 1) parts)))
                (ap (option_map (λ i. InSeq n i)) one.after);
            kept = ap (option_map (λ i. InSeq n i)) one.kept;
          };
    }

    rest_each : (parts : List Stmt) → AllSame parts → (c d : Context) (m : Mark) → Seen sight c d → Started (map L parts) m
        → map (λ (part : B). part.rest c m) (map X parts) ≡ map (λ (part : B). part.rest d m) (map Y parts)
    rest_each [] same c d m k all = refl
    rest_each (s ∷ parts) same c d m k all =
        let two = all_parts (λ (one : Met). AgreeAt one a b) ((L s).met_on_start m) _ all in
        ap₂ (λ (o : Option Residual) (os : List (Option Residual)). o ∷ os) (same.0.starts c d m k two.0).rest (rest_each parts same.1 c d m k two.1)

    abbrev Resumed : List Stmt → List (Option Residual) → Type 0
    Resumed parts branches = Agree (flat_map (λ (one : Layout × Residual). one.0.met_on_resume one.1) (resting (map L parts) branches))

    pub record EachSame (parts : List Stmt) (branches : List (Option Residual)) (c d : Context) : Type 0 where
      pub ended : (g h : Know) → g ≡ h → ended_of_all c (resting (map X parts) branches) g ≡ ended_of_all d (resting (map Y parts) branches) h
      pub after : each_branch None (λ (part : B) inside. part.after c inside) (map X parts) branches ≡ each_branch None (λ (part : B) inside. part.after d inside) (map Y parts) branches
      pub kept : each_branch None (λ (part : B) inside. part.kept inside) (map X parts) branches ≡ each_branch None (λ (part : B) inside. part.kept inside) (map Y parts) branches

    each_same : (parts : List Stmt) (branches : List (Option Residual)) → AllSame parts → (c d : Context) → Seen sight c d → fits_each (map L parts) branches ≡ true
        → Resumed parts branches → EachSame parts branches c d
    each_same [] branches same c d k fits all = record { ended = λ g h e. e; after = refl; kept = refl }
    each_same (s ∷ parts) [] same c d k fits all = record { ended = λ g h e. e; after = refl; kept = refl }
    each_same (s ∷ parts) (None ∷ branches) same c d k fits all =
        let more = each_same parts branches same.1 c d k fits all in
        record {
          ended = more.ended;
          after = ap (λ (os : List (Option Residual)). None ∷ os) more.after;
          kept = ap (λ (os : List (Option Residual)). None ∷ os) more.kept;
        }
    each_same (s ∷ parts) (Some r ∷ branches) same c d k fits all =
        let fit = and_parts _ _ fits in
        let two = all_parts (λ (one : Met). AgreeAt one a b) ((L s).met_on_resume r) _ all in
        let one = same.0.resumes c d r k fit.0 two.0 in
        let more = each_same parts branches same.1 c d k fit.1 two.1 in
        record {
          ended = λ g h e. more.ended _ _ (ap₂ both e one.ended);
          after = ap₂ (λ (o : Option Residual) (os : List (Option Residual)). o ∷ os) one.after more.after;
          kept = ap₂ (λ (o : Option Residual) (os : List (Option Residual)). o ∷ os) one.kept more.kept;
        }

    same_parallel : (parts : List Stmt) → AllSame parts
        → Same (parallel (residing (passing p a)) (map X parts)) (parallel (residing (passing p b)) (map Y parts)) (parallel_layout (map L parts)) sight
    same_parallel parts same = record {
      starts = λ c d m k all. record {
        ends = ends_all parts same c d (Known yes) (Known yes) m k all refl;
        rest = ap in_some_branch (rest_each parts same c d m k all);
      };
      resumes = λ c d r k fits all.
          let each = each_same parts (branches_of r) same c d k (branches_fit (map L parts) (out-Residual r) fits) all in
          record { ended = each.ended (Known yes) (Known yes) refl; after = ap in_some_branch each.after; kept = ap in_some_branch each.kept };
    }

  abbrev Claimed : Type 0
  Claimed = (s : Stmt) × ((sight : Sight) → is_sound declared s sight ≡ true → Same (X s) (Y s) (L s) sight)

  abbrev names : List Claimed → List Stmt
  names parts = map (λ (e : Claimed). e.0) parts

  all_same : (parts : List Claimed) (sight : Sight) → list_all (λ (part : Sight → Bool). part sight) (map (is_sound declared) (names parts)) ≡ true → AllSame sight (names parts)
  all_same [] sight h = tt
  all_same (e ∷ parts) sight h = let two = and_parts _ _ h in (e.1 sight two.0, all_same parts sight two.1)

  abbrev AtNode : Stmt-F Stmt → Type 0
  AtNode x =
      (sight : Sight) → node_is_sound declared (map-Stmt Stmt (Sight → Bool) (is_sound declared) x) sight ≡ true
      → Same (node_behavior a.now (residing (passing p a)) (λ number arguments. idle (residing (passing p a))) (map-Stmt Stmt B X x))
      (node_behavior b.now (residing (passing p b)) (λ number arguments. idle (residing (passing p b))) (map-Stmt Stmt B Y x))
      (node_layout (λ number. bare) (map-Stmt Stmt Layout L x)) sight

  at_node : (node : Stmt-F Claimed) → AtNode (map-Stmt Claimed Stmt (λ e. e.0) node)
  at_node Stmt-F.Nothing sight h = same_idle sight
  at_node (Stmt-F.Assign target value) sight h = same_assignment false target value sight
  at_node (Stmt-F.Delayed target value) sight h = same_assignment true target value sight
  at_node (Stmt-F.Pause place) sight h = same_pause place sight
  at_node (Stmt-F.Seq parts) sight h = same_sequence sight (names parts) (all_same parts sight (and_parts _ _ h).1)
  at_node (Stmt-F.Par parts) sight h = same_parallel sight (names parts) (all_same parts sight (and_parts _ _ h).1)
  at_node (Stmt-F.If condition first second) sight h =
      let two = and_parts _ _ h in
      let sides = and_parts _ _ two.1 in
      same_choice condition _ _ _ _ _ _ sight two.0 (first.1 sight sides.0) (second.1 sight sides.1)
  at_node (Stmt-F.Loop number body condition) sight h = let two = and_parts _ _ h in same_loop number condition _ _ _ sight two.0 (body.1 sight two.1)
  at_node (Stmt-F.Abort kind body condition) sight h = let two = and_parts _ _ h in same_abort kind condition _ _ _ sight two.0 (body.1 sight two.1)
  at_node (Stmt-F.Suspend kind hold body condition) sight h =
      let two = and_parts _ _ (and_parts _ _ h).1 in same_suspend kind hold condition _ _ _ sight two.0 (body.1 sight two.1)
  at_node (Stmt-F.Scope locals body) sight h = same_scope locals _ _ _ sight (body.1 (in_scope sight locals) (and_parts _ _ h).1)
  at_node (Stmt-F.Call number proto arguments) sight h = same_idle sight
  at_node (Stmt-F.Bind bindings body) sight h =
      let two = and_parts _ _ h in same_bound bindings _ _ _ sight two.0 (body.1 (with_bound sight (types_bound declared sight bindings)) two.1)

  -- for every sound statement
  pub walks_same : (s : Stmt) (sight : Sight) → is_sound declared s sight ≡ true → Same (X s) (Y s) (L s) sight
  walks_same = ind-Stmt (λ s. (sight : Sight) → is_sound declared s sight ≡ true → Same (X s) (Y s) (L s) sight) (λ x y is sight h.
      subst₂ (λ (v w : B). Same v w (L (roll-Stmt x)) sight)
      (sym (fold-roll-Stmt B (node_behavior a.now (residing (passing p a)) (λ number arguments. idle (residing (passing p a)))) x))
      (sym (fold-roll-Stmt B (node_behavior b.now (residing (passing p b)) (λ number arguments. idle (residing (passing p b)))) x))
      (subst (λ l. Same (node_behavior a.now (residing (passing p a)) (λ number arguments. idle (residing (passing p a))) (map-Stmt Stmt B X x))
      (node_behavior b.now (residing (passing p b)) (λ number arguments. idle (residing (passing p b))) (map-Stmt Stmt B Y x)) l sight)
      (sym (fold-roll-Stmt Layout (node_layout (λ number. bare)) x))
      (subst AtNode is (at_node y) sight (ap (λ f. f sight) (sym (fold-roll-Stmt (Sight → Bool) (node_is_sound declared) x)) ∙ h))))
