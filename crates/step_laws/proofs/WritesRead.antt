-- The writes of a walk read no instances but formals and those that it comes past: in environments that agree there
-- they are the same.
use Rattle.std.proofs.Common.{◌≡◌, ℕ, zero, suc, ◌+◌, Bool, true, false, ◌||◌, List, [], ◌∷◌, ◌++◌, map, length, drop, Option, Some, None, refl, sym, ap, ap₂, subst, subst₂, ◌∙◌, arith}
use Rattle.std.specs.Prelude.{◌==◌, if◌then◌else◌, is_some, slice_get}
use Rattle.std.specs.List.{flat_map, list_all, AllByRecursion}
use Rattle.std.proofs.lemmas.List.{drop-map}
use Rattle.std.proofs.lemmas.Bool.{false≢true, and_parts, eqb-true}
use Rattle.std.proofs.lemmas.List.Folds.{list_any-append}
use Rattle.qz_values.specs.declared.Ty.{Ty}
use Rattle.qz_values.specs.declared.Know.{Know}
use Rattle.qz_values.specs.Knowledge.{both, opposite}
use Rattle.qz_syntax.specs.declared.expressions.Var.{Var}
use Rattle.qz_syntax.specs.declared.expressions.Var.TheVariants as var
use Rattle.qz_syntax.specs.declared.expressions.Expr.{Expr}
use Rattle.qz_syntax.specs.declared.statements.Kind.{Kind}
use Rattle.qz_syntax.specs.declared.statements.Binding.{Binding}
use Rattle.qz_syntax.specs.declared.statements.Stmt.{Stmt, map-Stmt, roll-Stmt}
use Rattle.qz_syntax.specs.declared.statements.Stmt.TheOpen.{Stmt-F}
use Rattle.qz_syntax.specs.declared.statements.Stmt.TheFolds.{fold-roll-Stmt, ind-Stmt}
use Rattle.qz_syntax.specs.declared.places.Mark.{Mark}
use Rattle.qz_syntax.specs.declared.places.Mark.TheVariants as mark
use Rattle.qz_syntax.specs.declared.places.Store.{Store}
use Rattle.qz_syntax.specs.declared.places.Residual.{Residual, out-Residual}
use Rattle.qz_syntax.specs.Numbers.{contains}
use Rattle.qz_syntax.specs.Typing.{Declared, Sight, bound_type, is_condition}
use Rattle.qz_syntax.specs.Sound.{type_at, types_bound, has_type, in_scope, with_bound, node_is_sound, is_sound}
use Rattle.qz_meaning.specs.Instances.{local_instance, formal_instance}
use Rattle.qz_meaning.specs.Scenes.{Context, with_locals}
use Rattle.qz_meaning.specs.Expressions.{value_here, bound_by, with_bindings}
use Rattle.qz_meaning.specs.Residuals.{inner, member_of, branches_of, side_of, is_held, stores_of}
use Rattle.qz_meaning.specs.Accounts.{Write}
use Rattle.qz_meaning.specs.Layouts.{Met, Layout, bare}
use Rattle.qz_meaning.specs.Behaviors.{Behavior, idle}
use Rattle.qz_meaning.specs.Simple.{assignment}
use Rattle.qz_meaning.specs.Sequences.{member, sequence, sequence_layout}
use Rattle.qz_meaning.specs.Parallels.{resting, parallel, fits_each, parallel_layout}
use Rattle.qz_meaning.specs.Choices.{choice, choice_layout}
use Rattle.qz_meaning.specs.Loops.{loop, loop_layout}
use Rattle.qz_meaning.specs.Aborts.{abort, body_layout}
use Rattle.qz_meaning.specs.Suspends.{suspend, suspend_layout}
use Rattle.qz_meaning.specs.Scopes.{met_new, met_kept, scope, scope_layout}
use Rattle.qz_meaning.specs.Calls.{bound_body}
use Rattle.qz_meaning.specs.Walks.{node_behavior, behavior, node_layout, layout}
use Rattle.qz_meaning.specs.Residing.{residing}
use Rattle.qz_meaning.specs.Programs.{Program}
use Rattle.qz_meaning.specs.Settling.{Environment, passing}
use Rattle.qz_meaning.specs.Rounds.{AgreeAt}
use Rattle.qz_meaning.proofs.Lists.{all_parts}
use Rattle.qz_meaning.proofs.Fitting.{body_fits, side_fits, scope_fits, member_fits, branches_fit, held_fits}
use Rattle.std.specs.Prelude.{drop}
use Rattle.qz_syntax.specs.Typing.{agree}
use Rattle.qz_syntax.specs.Sound.{is_assignment}
use Rattle.qz_meaning.specs.Instances.{Instance}
use Rattle.qz_meaning.specs.Scenes.{instance_here}
use Rattle.qz_meaning.specs.Sequences.{start_in_turn}
use Rattle.qz_meaning.specs.Aborts.{abort, body_guard, start_guard}
use Rattle.qz_meaning.specs.Suspends.{acts_on_start}
use Rattle.qz_meaning.proofs.Reading.{Seen, Same, walks_same, values_same}

choose : (t : Bool) (x y : Option Ty) (v w i j : Know) → v ≡ w → (is_some y ≡ true → i ≡ j) → is_some (if t then x else y) ≡ true → (if t then v else i) ≡ (if t then w else j)
choose true x y v w i j p q h = p
choose false x y v w i j p q h = q h

if_same : {A : Type 0} (b c : Bool) (x y v w : A) → b ≡ c → x ≡ y → v ≡ w → (if b then x else v) ≡ (if c then y else w)
if_same {A = A} b c x y v w e p q = ap₂ (λ (i : A) (j : A). if b then i else j) p q ∙ ap (λ i. if i then y else w) e

condition_typed : (o : Option Ty) → is_condition o ≡ true → is_some o ≡ true
condition_typed (Some t) h = refl
condition_typed None h = h

-- a value that agrees in type with something has a type
agreeing_typed : (o t : Option Ty) → agree o t ≡ true → is_some t ≡ true
agreeing_typed None t h = absurd (false≢true h)
agreeing_typed (Some s) None h = absurd (false≢true h)
agreeing_typed (Some s) (Some t) h = refl

module _ (p : Program) (declared : Declared) (a b : Environment) (formals : (n : ℕ) → is_some (slice_get declared.formals n) ≡ true → a.now (formal_instance n) ≡ b.now (formal_instance n)) where
  abbrev Agree : List Met → Type 0
  Agree met = AllByRecursion (λ (one : Met). AgreeAt one a b) met

  abbrev See : Sight → Context → Context → Type 0
  See sight c d = Seen p declared a b formals sight c d

  abbrev B : Type 0
  B = Behavior Write (Option Residual)

  module _ (sight : Sight) (c d : Context) (k : See sight c d) where
    abbrev T : Expr → Option Ty
    T e = type_at declared sight e

    typed_same : (e : Expr) → is_some (T e) ≡ true → value_here a.now c e ≡ value_here b.now d e
    typed_same e h = values_same p declared a b formals sight c d k e h

    value_same : (e : Expr) → is_condition (T e) ≡ true → value_here a.now c e ≡ value_here b.now d e
    value_same e h = typed_same e (condition_typed (T e) h)

    here_same : (x : Var) → instance_here c x ≡ instance_here d x
    here_same (var.Formal n) = refl
    here_same (var.Local n) = ap (local_instance n) (k.marks n)
    here_same (var.Bound n) = refl

    types_first : (binding : Binding) (bindings : List Binding) (t : Ty) → T binding.value ≡ Some t
        → types_bound declared sight (binding ∷ bindings) ≡ (binding.number, t) ∷ types_bound declared sight bindings
    types_first binding bindings t e = rw e refl

    bound_same : (bindings : List Binding) (n : ℕ) → list_all (has_type declared sight) bindings ≡ true
        → is_some (bound_type (types_bound declared sight bindings ++ sight.bound) n) ≡ true → bound_by a.now c bindings n ≡ bound_by b.now d bindings n
    bound_same [] n all h = k.bound n h
    bound_same (binding ∷ bindings) n all h =
        let two = and_parts _ _ all in
        first (T binding.value) refl two.0 (λ e. bound_same bindings n two.1 e)
      where
        first : (o : Option Ty) → T binding.value ≡ o → is_some (T binding.value) ≡ true
            → (is_some (bound_type (types_bound declared sight bindings ++ sight.bound) n) ≡ true → bound_by a.now c bindings n ≡ bound_by b.now d bindings n)
            → bound_by a.now c (binding ∷ bindings) n ≡ bound_by b.now d (binding ∷ bindings) n
        first None e typed later = absurd (false≢true (ap is_some (sym e) ∙ typed))
        first (Some t) e typed later =
            choose (binding.number == n) (Some t) _ _ _ _ _ (typed_same binding.value typed) later
            (ap (λ types. is_some (bound_type (types ++ sight.bound) n)) (sym (types_first binding bindings t e)) ∙ h)

  locals_kept : (locals : List ℕ) (m : Mark) (sight : Sight) (c d : Context) → ((n : ℕ) → contains locals n ≡ true → a.now (local_instance n m) ≡ b.now (local_instance n m))
      → See sight c d → See (in_scope sight locals) (with_locals c locals m) (with_locals d locals m)
  locals_kept locals m sight c d own k = record {
    marks = λ n. ap (λ i. if contains locals n then m else i) (k.marks n);
    locals = λ n h. by_own n (contains locals n) refl (sym (list_any-append (λ number. number == n) locals sight.locals) ∙ h);
    bound = k.bound;
  } where
    by_own : (n : ℕ) (t : Bool) → contains locals n ≡ t → (contains locals n || contains sight.locals n) ≡ true
        → a.now (local_instance n (if contains locals n then m else c.marks n)) ≡ b.now (local_instance n (if contains locals n then m else c.marks n))
    by_own n true e h = subst (λ t. a.now (local_instance n (if t then m else c.marks n)) ≡ b.now (local_instance n (if t then m else c.marks n))) (sym e) (own n e)
    by_own n false e h =
        subst (λ t. a.now (local_instance n (if t then m else c.marks n)) ≡ b.now (local_instance n (if t then m else c.marks n))) (sym e)
        (k.locals n (sym (ap (λ t. t || contains sight.locals n) e) ∙ h))

  bindings_kept : (bindings : List Binding) (sight : Sight) (c d : Context) → list_all (has_type declared sight) bindings ≡ true → See sight c d
      → See (with_bound sight (types_bound declared sight bindings)) (with_bindings a.now c bindings) (with_bindings b.now d bindings)
  bindings_kept bindings sight c d all k = record { marks = k.marks; locals = k.locals; bound = λ n h. bound_same sight c d k bindings n all h }

  new_agree : (locals : List ℕ) (m : Mark) → Agree (met_new locals m) → (n : ℕ) → contains locals n ≡ true → a.now (local_instance n m) ≡ b.now (local_instance n m)
  new_agree [] m all n h = absurd (false≢true h)
  new_agree (x ∷ locals) m all n h = by_test (new_agree locals m all.1 n) (x == n) refl h where
    by_test : (contains locals n ≡ true → a.now (local_instance n m) ≡ b.now (local_instance n m)) → (t : Bool) → (x == n) ≡ t → (t || contains locals n) ≡ true
        → a.now (local_instance n m) ≡ b.now (local_instance n m)
    by_test later true e k = subst (λ i. a.now (local_instance i m) ≡ b.now (local_instance i m)) (eqb-true x n e) all.0.now
    by_test later false e k = later k

  -- with a store for each local, its kept instances are those with mark zero
  kept_new : (locals : List ℕ) (stores : List Store) → length stores ≡ length locals → Agree (met_kept locals stores) → Agree (met_new locals mark.Zero)
  kept_new [] stores long all = tt
  kept_new (x ∷ locals) [] long all = absurd (omega (arith, long))
  kept_new (x ∷ locals) (s ∷ stores) long all = (record { now = all.0.now; later = all.0.later }, kept_new locals stores (omega (arith, long)) all.1)

  abbrev Agrees : B → B → Layout → Sight → Type 0
  Agrees x y l sight = Same p declared a b formals x y l sight

  -- both end alike and write the same
  pub record Alike (x y : B) (l : Layout) (sight : Sight) : Type 0 where
    pub same : Agrees x y l sight
    pub start : (c d : Context) (g : Know) (m : Mark) → See sight c d → Agree (l.met_on_start m) → x.start c g m ≡ y.start d g m
    pub resume : (c d : Context) (r : Residual) (g : Know) → See sight c d → l.fits r ≡ true → Agree (l.met_on_resume r) → x.resume c r g ≡ y.resume d r g

  -- both write the same
  pub record Writes (x y : B) (l : Layout) (sight : Sight) : Type 0 where
    pub start : (c d : Context) (g : Know) (m : Mark) → See sight c d → Agree (l.met_on_start m) → x.start c g m ≡ y.start d g m
    pub resume : (c d : Context) (r : Residual) (g : Know) → See sight c d → l.fits r ≡ true → Agree (l.met_on_resume r) → x.resume c r g ≡ y.resume d r g

  writes_idle : (l : Layout) (sight : Sight) → Writes (idle (residing (passing p a))) (idle (residing (passing p b))) l sight
  writes_idle l sight = record { start = λ c d g m k all. refl; resume = λ c d r g k fits all. refl }

  writes_assignment : (delayed : Bool) (x : Var) (e : Expr) (sight : Sight) → is_assignment declared sight x e ≡ true
      → Writes (assignment a.now (residing (passing p a)) delayed x e) (assignment b.now (residing (passing p b)) delayed x e) bare sight
  writes_assignment delayed x e sight typed = record {
    start = λ c d g m k all.
        ap₂ (λ (i : Instance) (v : Know). record { target = i; delayed = delayed; guard = g; value = v } ∷ [])
        (here_same sight c d k x) (typed_same sight c d k e (agreeing_typed _ (type_at declared sight e) typed));
    resume = λ c d r g k fits all. refl;
  }

  writes_if : (side : Bool) (x y v w : B) (l l₂ : Layout) (sight : Sight) → Alike x y l sight → Alike v w l₂ sight
      → Alike (if side then x else v) (if side then y else w) (if side then l else l₂) sight
  writes_if true x y v w l l₂ sight s t = s
  writes_if false x y v w l l₂ sight s t = t

  writes_choice : (e : Expr) (x y v w : B) (l l₂ : Layout) (sight : Sight) → is_condition (type_at declared sight e) ≡ true → Alike x y l sight → Alike v w l₂ sight
      → Writes (choice a.now (residing (passing p a)) e x v) (choice b.now (residing (passing p b)) e y w) (choice_layout l l₂) sight
  writes_choice e x y v w l l₂ sight typed s t = record {
    start = λ c d g m k all.
        let value = value_same sight c d k e typed in
        let parts = all_parts (λ (one : Met). AgreeAt one a b) (l.met_on_start m) (l₂.met_on_start m) all in
        ap₂ (λ (i j : List Write). i ++ j)
        (s.start c d (both g (value_here a.now c e)) m k parts.0 ∙ ap (λ i. y.start d (both g i) m) value)
        (t.start c d (both g (opposite (value_here a.now c e))) m k parts.1 ∙ ap (λ i. w.start d (both g (opposite i)) m) value);
    resume = λ c d r g k fits all.
        (writes_if (side_of r) x y v w l l₂ sight s t).resume c d (inner r) g k (side_fits l l₂ r (out-Residual r) fits) all;
  }

  writes_loop : (number : ℕ) (e : Expr) (x y : B) (l : Layout) (sight : Sight) → is_condition (type_at declared sight e) ≡ true → Alike x y l sight
      → Writes (loop a.now (residing (passing p a)) number x e) (loop b.now (residing (passing p b)) number y e) (loop_layout number l) sight
  writes_loop number e x y l sight typed s = record {
    start = λ c d g m k all. s.start c d g m k all;
    resume = λ c d r g k fits all.
        let value = value_same sight c d k e typed in
        let parts = all_parts (λ (one : Met). AgreeAt one a b) (l.met_on_resume (inner r)) (l.met_on_start (mark.Loop number)) all in
        let fit = body_fits l r (out-Residual r) fits in
        let one = s.same.resumes c d (inner r) k fit parts.0 in
        ap₂ (λ (i j : List Write). i ++ j)
        (s.resume c d (inner r) g k fit parts.0)
        (s.start c d (both (both g (x.ended c (inner r))) (value_here a.now c e)) (mark.Loop number) k parts.1
        ∙ ap₂ (λ (i j : Know). y.start d (both (both g i) j) (mark.Loop number)) one.ended value);
  }

  writes_abort : (kind : Kind) (e : Expr) (x y : B) (l : Layout) (sight : Sight) → is_condition (type_at declared sight e) ≡ true → Alike x y l sight
      → Writes (abort a.now (residing (passing p a)) kind x e) (abort b.now (residing (passing p b)) kind y e) (body_layout l) sight
  writes_abort kind e x y l sight typed s = record {
    start = λ c d g m k all.
        s.start c d (start_guard kind (value_here a.now c e) g) m k all
        ∙ ap (λ i. y.start d (start_guard kind i g) m) (value_same sight c d k e typed);
    resume = λ c d r g k fits all.
        s.resume c d (inner r) (body_guard kind (value_here a.now c e) g) k (body_fits l r (out-Residual r) fits) all
        ∙ ap (λ i. y.resume d (inner r) (body_guard kind i g)) (value_same sight c d k e typed);
  }

  writes_suspend : (kind : Kind) (hold : Option ℕ) (e : Expr) (x y : B) (l : Layout) (sight : Sight) → is_condition (type_at declared sight e) ≡ true → Alike x y l sight
      → Writes (suspend a.now (residing (passing p a)) kind hold x e) (suspend b.now (residing (passing p b)) kind hold y e) (suspend_layout hold l) sight
  writes_suspend kind hold e x y l sight typed s = record {
    start = acts;
    resume = λ c d r g k fits all. by_place (is_held r) c d r g k (λ free. held_fits hold l r (out-Residual r) fits free) all;
  } where
    acts : (c d : Context) (g : Know) (m : Mark) → See sight c d → Agree (l.met_on_start m) → acts_on_start a.now kind x e c g m ≡ acts_on_start b.now kind y e d g m
    acts c d g m k all =
        s.start c d (start_guard kind (value_here a.now c e) g) m k all
        ∙ ap (λ i. y.start d (start_guard kind i g) m) (value_same sight c d k e typed)

    by_place : (t : Bool) (c d : Context) (r : Residual) (g : Know) → See sight c d → (t ≡ false → l.fits (inner r) ≡ true)
        → Agree (if t then l.met_on_start mark.Zero else l.met_on_resume (inner r))
        → (if t then acts_on_start a.now kind x e c g mark.Zero else x.resume c (inner r) (body_guard kind (value_here a.now c e) g))
        ≡ (if t then acts_on_start b.now kind y e d g mark.Zero else y.resume d (inner r) (body_guard kind (value_here b.now d e) g))
    by_place true c d r g k fits all = acts c d g mark.Zero k all
    by_place false c d r g k fits all =
        s.resume c d (inner r) (body_guard kind (value_here a.now c e) g) k (fits refl) all
        ∙ ap (λ i. y.resume d (inner r) (body_guard kind i g)) (value_same sight c d k e typed)

  writes_scope : (locals : List ℕ) (x y : B) (l : Layout) (sight : Sight) → Alike x y l (in_scope sight locals)
      → Writes (scope (residing (passing p a)) locals x) (scope (residing (passing p b)) locals y) (scope_layout locals l) sight
  writes_scope locals x y l sight s = record {
    start = λ c d g m k all.
        let parts = all_parts (λ (one : Met). AgreeAt one a b) (met_new locals m) (l.met_on_start m) all in
        s.start _ _ g m (locals_kept locals m sight c d (new_agree locals m parts.0) k) parts.1;
    resume = λ c d r g k fits all.
        let parts = all_parts (λ (one : Met). AgreeAt one a b) (met_kept locals (stores_of r)) (l.met_on_resume (inner r)) all in
        let fit = scope_fits locals l r (out-Residual r) fits in
        let new = kept_new locals (stores_of r) fit.0 parts.0 in
        s.resume _ _ (inner r) g (locals_kept locals mark.Zero sight c d (new_agree locals mark.Zero new) k) fit.1 parts.1;
  }

  writes_bound : (bindings : List Binding) (x y : B) (l : Layout) (sight : Sight) → list_all (has_type declared sight) bindings ≡ true
      → Alike x y l (with_bound sight (types_bound declared sight bindings)) → Writes (bound_body a.now bindings x) (bound_body b.now bindings y) l sight
  writes_bound bindings x y l sight typed s = record {
    start = λ c d g m k all. s.start _ _ g m (bindings_kept bindings sight c d typed k) all;
    resume = λ c d r g k fits all. s.resume _ _ r g (bindings_kept bindings sight c d typed k) fits all;
  }

  abbrev X : Stmt → B
  X = behavior a.now (residing (passing p a)) (λ number arguments. idle (residing (passing p a)))

  abbrev Y : Stmt → B
  Y = behavior b.now (residing (passing p b)) (λ number arguments. idle (residing (passing p b)))

  abbrev L : Stmt → Layout
  L = layout (λ number. bare)

  module _ (sight : Sight) where
    abbrev AllAlike : List Stmt → Type 0
    AllAlike parts = AllByRecursion (λ s. Alike (X s) (Y s) (L s) sight) parts

    alike_drop : (parts : List Stmt) (n : ℕ) → AllAlike parts → AllAlike (drop n parts)
    alike_drop parts zero h = h
    alike_drop [] (suc n) h = tt
    alike_drop (s ∷ parts) (suc n) h = alike_drop parts n h.1

    abbrev Started : List Layout → Mark → Type 0
    Started ls m = Agree (flat_map (λ (part : Layout). part.met_on_start m) ls)

    starts_all : (parts : List Stmt) → AllAlike parts → (c d : Context) (g h : Know) (m : Mark) → See sight c d → Started (map L parts) m → g ≡ h
        → start_in_turn c (map X parts) g m ≡ start_in_turn d (map Y parts) h m
    starts_all [] alike c d g h m k all e = refl
    starts_all (s ∷ parts) alike c d g h m k all e =
        let two = all_parts (λ (one : Met). AgreeAt one a b) ((L s).met_on_start m) _ all in
        ap₂ (λ (i j : List Write). i ++ j)
        (alike.0.start c d g m k two.0 ∙ ap (λ i. (Y s).start d i m) e)
        (starts_all parts alike.1 c d _ _ m k two.1 (ap₂ both e (alike.0.same.starts c d m k two.0).ends))

    alike_idle : Alike (idle (residing (passing p a))) (idle (residing (passing p b))) bare sight
    alike_idle = record {
      same = record {
        starts = λ c d m k all. record { ends = refl; rest = refl };
        resumes = λ c d r k fits all. record { ended = refl; after = refl; kept = refl };
      };
      start = λ c d g m k all. refl;
      resume = λ c d r g k fits all. refl;
    }

    member_alike : (parts : List Stmt) → AllAlike parts → (n : ℕ)
        → Alike (member (idle (residing (passing p a))) (map X parts) n) (member (idle (residing (passing p b))) (map Y parts) n) (member bare (map L parts) n) sight
    member_alike [] alike n = alike_idle
    member_alike (s ∷ parts) alike zero = alike.0
    member_alike (s ∷ parts) alike (suc n) = member_alike parts alike.1 n

    writes_sequence : (parts : List Stmt) → AllAlike parts
        → Writes (sequence (residing (passing p a)) (map X parts)) (sequence (residing (passing p b)) (map Y parts)) (sequence_layout (map L parts)) sight
    writes_sequence parts alike = record {
      start = λ c d g m k all. starts_all parts alike c d g g m k all refl;
      resume = λ c d r g k fits all.
          let n = member_of r in
          let two = all_parts (λ (one : Met). AgreeAt one a b) ((member bare (map L parts) n).met_on_resume (inner r)) _ all in
          let later : Started (map L (drop (n + 1) parts)) mark.Zero = subst (λ ls. Started ls mark.Zero) (drop-map L (n + 1) parts) two.1 in
          let fit = (member_fits (map L parts) r (out-Residual r) fits).0 in
          let one = member_alike parts alike n in
          let v : Know = (member (idle (residing (passing p a))) (map X parts) n).ended c (inner r) in
          let w : Know = (member (idle (residing (passing p b))) (map Y parts) n).ended d (inner r) in
          ap₂ (λ (i j : List Write). i ++ j)
          (one.resume c d (inner r) g k fit two.0)
          (ap (λ xs. start_in_turn c xs (both g v) mark.Zero) (drop-map X (n + 1) parts)
          ∙ starts_all (drop (n + 1) parts) (alike_drop parts (n + 1) alike) c d _ _ mark.Zero k later (ap (both g) (one.same.resumes c d (inner r) k fit two.0).ended)
          ∙ sym (ap (λ xs. start_in_turn d xs (both g w) mark.Zero) (drop-map Y (n + 1) parts)));
    }

    starts_each : (parts : List Stmt) → AllAlike parts → (c d : Context) (g : Know) (m : Mark) → See sight c d → Started (map L parts) m
        → flat_map (λ (part : B). part.start c g m) (map X parts) ≡ flat_map (λ (part : B). part.start d g m) (map Y parts)
    starts_each [] alike c d g m k all = refl
    starts_each (s ∷ parts) alike c d g m k all =
        let two = all_parts (λ (one : Met). AgreeAt one a b) ((L s).met_on_start m) _ all in
        ap₂ (λ (i j : List Write). i ++ j) (alike.0.start c d g m k two.0) (starts_each parts alike.1 c d g m k two.1)

    abbrev Resumed : List Stmt → List (Option Residual) → Type 0
    Resumed parts branches = Agree (flat_map (λ (one : Layout × Residual). one.0.met_on_resume one.1) (resting (map L parts) branches))

    resumes_each : (parts : List Stmt) (branches : List (Option Residual)) → AllAlike parts → (c d : Context) (g : Know) → See sight c d → fits_each (map L parts) branches ≡ true
        → Resumed parts branches
        → flat_map (λ (one : B × Residual). one.0.resume c one.1 g) (resting (map X parts) branches) ≡ flat_map (λ (one : B × Residual). one.0.resume d one.1 g) (resting (map Y parts) branches)
    resumes_each [] branches alike c d g k fits all = refl
    resumes_each (s ∷ parts) [] alike c d g k fits all = refl
    resumes_each (s ∷ parts) (None ∷ branches) alike c d g k fits all = resumes_each parts branches alike.1 c d g k fits all
    resumes_each (s ∷ parts) (Some r ∷ branches) alike c d g k fits all =
        let fit = and_parts _ _ fits in
        let two = all_parts (λ (one : Met). AgreeAt one a b) ((L s).met_on_resume r) _ all in
        ap₂ (λ (i j : List Write). i ++ j) (alike.0.resume c d r g k fit.0 two.0) (resumes_each parts branches alike.1 c d g k fit.1 two.1)

    writes_parallel : (parts : List Stmt) → AllAlike parts
        → Writes (parallel (residing (passing p a)) (map X parts)) (parallel (residing (passing p b)) (map Y parts)) (parallel_layout (map L parts)) sight
    writes_parallel parts alike = record {
      start = λ c d g m k all. starts_each parts alike c d g m k all;
      resume = λ c d r g k fits all. resumes_each parts (branches_of r) alike c d g k (branches_fit (map L parts) (out-Residual r) fits) all;
    }

  abbrev Claimed : Type 0
  Claimed = (s : Stmt) × ((sight : Sight) → is_sound declared s sight ≡ true → Alike (X s) (Y s) (L s) sight)

  abbrev names : List Claimed → List Stmt
  names parts = map (λ (e : Claimed). e.0) parts

  all_alike : (parts : List Claimed) (sight : Sight) → list_all (λ (part : Sight → Bool). part sight) (map (is_sound declared) (names parts)) ≡ true → AllAlike sight (names parts)
  all_alike [] sight h = tt
  all_alike (e ∷ parts) sight h = let two = and_parts _ _ h in (e.1 sight two.0, all_alike parts sight two.1)

  abbrev AtNode : Stmt-F Stmt → Type 0
  AtNode x =
      (sight : Sight) → node_is_sound declared (map-Stmt Stmt (Sight → Bool) (is_sound declared) x) sight ≡ true
      → Writes (node_behavior a.now (residing (passing p a)) (λ number arguments. idle (residing (passing p a))) (map-Stmt Stmt B X x))
      (node_behavior b.now (residing (passing p b)) (λ number arguments. idle (residing (passing p b))) (map-Stmt Stmt B Y x))
      (node_layout (λ number. bare) (map-Stmt Stmt Layout L x)) sight

  at_node : (node : Stmt-F Claimed) → AtNode (map-Stmt Claimed Stmt (λ e. e.0) node)
  at_node Stmt-F.Nothing sight h = writes_idle bare sight
  at_node (Stmt-F.Assign target value) sight h = writes_assignment false target value sight h
  at_node (Stmt-F.Delayed target value) sight h = writes_assignment true target value sight h
  at_node (Stmt-F.Pause place) sight h = record { start = λ c d g m k all. refl; resume = λ c d r g k fits all. refl }
  at_node (Stmt-F.Seq parts) sight h = writes_sequence sight (names parts) (all_alike parts sight (and_parts _ _ h).1)
  at_node (Stmt-F.Par parts) sight h = writes_parallel sight (names parts) (all_alike parts sight (and_parts _ _ h).1)
  at_node (Stmt-F.If condition first second) sight h =
      let two = and_parts _ _ h in
      let sides = and_parts _ _ two.1 in
      writes_choice condition _ _ _ _ _ _ sight two.0 (first.1 sight sides.0) (second.1 sight sides.1)
  at_node (Stmt-F.Loop number body condition) sight h = let two = and_parts _ _ h in writes_loop number condition _ _ _ sight two.0 (body.1 sight two.1)
  at_node (Stmt-F.Abort kind body condition) sight h = let two = and_parts _ _ h in writes_abort kind condition _ _ _ sight two.0 (body.1 sight two.1)
  at_node (Stmt-F.Suspend kind hold body condition) sight h =
      let two = and_parts _ _ (and_parts _ _ h).1 in writes_suspend kind hold condition _ _ _ sight two.0 (body.1 sight two.1)
  at_node (Stmt-F.Scope locals body) sight h = writes_scope locals _ _ _ sight (body.1 (in_scope sight locals) (and_parts _ _ h).1)
  at_node (Stmt-F.Call number proto arguments) sight h = writes_idle _ sight
  at_node (Stmt-F.Bind bindings body) sight h =
      let two = and_parts _ _ h in writes_bound bindings _ _ _ sight two.0 (body.1 (with_bound sight (types_bound declared sight bindings)) two.1)

  abbrev NA : Stmt-F Stmt → B
  NA x = node_behavior a.now (residing (passing p a)) (λ number arguments. idle (residing (passing p a))) (map-Stmt Stmt B X x)

  abbrev NB : Stmt-F Stmt → B
  NB x = node_behavior b.now (residing (passing p b)) (λ number arguments. idle (residing (passing p b))) (map-Stmt Stmt B Y x)

  -- for every sound statement
  pub statements_alike : (s : Stmt) (sight : Sight) → is_sound declared s sight ≡ true → Alike (X s) (Y s) (L s) sight
  statements_alike = ind-Stmt (λ s. (sight : Sight) → is_sound declared s sight ≡ true → Alike (X s) (Y s) (L s) sight) (λ x y is sight h.
      let writes : Writes (X (roll-Stmt x)) (Y (roll-Stmt x)) (L (roll-Stmt x)) sight =
      subst₂ (λ (v w : B). Writes v w (L (roll-Stmt x)) sight)
      (sym (fold-roll-Stmt B (node_behavior a.now (residing (passing p a)) (λ number arguments. idle (residing (passing p a)))) x))
      (sym (fold-roll-Stmt B (node_behavior b.now (residing (passing p b)) (λ number arguments. idle (residing (passing p b)))) x))
      (subst (λ l. Writes (NA x) (NB x) l sight)
      (sym (fold-roll-Stmt Layout (node_layout (λ number. bare)) x))
      (subst AtNode is (at_node y) sight (ap (λ f. f sight) (sym (fold-roll-Stmt (Sight → Bool) (node_is_sound declared) x)) ∙ h))) in
      record {
        same = walks_same p declared a b formals (roll-Stmt x) sight h;
        start = writes.start;
        resume = writes.resume;
      })
