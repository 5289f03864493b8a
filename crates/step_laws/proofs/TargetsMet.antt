-- Whatever a walk writes to is an output, or an instance that it comes past.
use Rattle.std.proofs.Common.{◌≡◌, ℕ, zero, suc, ◌+◌, Bool, true, false, ◌||◌, List, [], ◌∷◌, map, length, drop, Option, Some, None, refl, sym, ap, subst, ◌∙◌, arith}
use Rattle.std.specs.Prelude.{◌==◌, if◌then◌else◌, is_some, slice_get, option_and_then}
use Rattle.std.specs.Option.{option_map}
use Rattle.std.specs.List.{flat_map, list_all, AllByRecursion}
use Rattle.std.proofs.lemmas.List.{drop-map}
use Rattle.std.proofs.lemmas.Bool.{false≢true, and_parts, eqb-true}
use Rattle.std.proofs.lemmas.List.Folds.{list_any-append}
use Rattle.qz_values.specs.declared.Ty.{Ty}
use Rattle.qz_values.specs.declared.Know.{Know}
use Rattle.qz_values.specs.Knowledge.{both, opposite}
use Rattle.qz_syntax.specs.declared.expressions.Var.{Var}
use Rattle.qz_syntax.specs.declared.expressions.Var.TheVariants as var
use Rattle.qz_syntax.specs.declared.expressions.Expr.{Expr}
use Rattle.qz_syntax.specs.declared.statements.Kind.{Kind}
use Rattle.qz_syntax.specs.declared.statements.Binding.{Binding}
use Rattle.qz_syntax.specs.declared.statements.Stmt.{Stmt, map-Stmt, roll-Stmt}
use Rattle.qz_syntax.specs.declared.statements.Stmt.TheOpen.{Stmt-F}
use Rattle.qz_syntax.specs.declared.statements.Stmt.TheFolds.{fold-roll-Stmt, ind-Stmt}
use Rattle.qz_syntax.specs.declared.places.Mark.{Mark}
use Rattle.qz_syntax.specs.declared.places.Mark.TheVariants as mark
use Rattle.qz_syntax.specs.declared.places.Store.{Store}
use Rattle.qz_syntax.specs.declared.places.Residual.{Residual, out-Residual}
use Rattle.qz_syntax.specs.Numbers.{contains}
use Rattle.qz_syntax.specs.Typing.{Declared, Sight}
use Rattle.qz_syntax.specs.Sound.{type_at, types_bound, in_scope, with_bound, node_is_sound, is_sound}
use Rattle.qz_meaning.specs.Instances.{local_instance, formal_instance}
use Rattle.qz_meaning.specs.Scenes.{Context, with_locals}
use Rattle.qz_meaning.specs.Expressions.{value_here, with_bindings}
use Rattle.qz_meaning.specs.Residuals.{inner, member_of, branches_of, side_of, is_held, stores_of}
use Rattle.qz_meaning.specs.Accounts.{Write}
use Rattle.qz_meaning.specs.Layouts.{Met, Layout, bare}
use Rattle.qz_meaning.specs.Behaviors.{Behavior, idle}
use Rattle.qz_meaning.specs.Simple.{assignment}
use Rattle.qz_meaning.specs.Sequences.{member, sequence, sequence_layout}
use Rattle.qz_meaning.specs.Parallels.{resting, parallel, fits_each, parallel_layout}
use Rattle.qz_meaning.specs.Choices.{choice, choice_layout}
use Rattle.qz_meaning.specs.Loops.{loop, loop_layout}
use Rattle.qz_meaning.specs.Aborts.{abort, body_layout}
use Rattle.qz_meaning.specs.Suspends.{suspend, suspend_layout}
use Rattle.qz_meaning.specs.Scopes.{met_new, met_kept, scope, scope_layout}
use Rattle.qz_meaning.specs.Calls.{bound_body}
use Rattle.qz_meaning.specs.Walks.{node_behavior, behavior, node_layout, layout}
use Rattle.qz_meaning.specs.Residing.{residing}
use Rattle.qz_meaning.proofs.Lists.{all_parts}
use Rattle.std.specs.Prelude.{drop}
use Rattle.qz_syntax.specs.Typing.{formal_target, written_as, agree}
use Rattle.qz_syntax.specs.Sound.{is_assignment}
use Rattle.qz_meaning.specs.Instances.{Instance}
use Rattle.qz_meaning.specs.Scenes.{Passing, instance_here}
use Rattle.qz_meaning.specs.Sequences.{start_in_turn}
use Rattle.qz_meaning.specs.Aborts.{abort, body_guard, start_guard}
use Rattle.qz_meaning.specs.Suspends.{acts_on_start}
use Rattle.qz_meaning.proofs.Lists.{all_join}
use Rattle.qz_meaning.proofs.Fitting.{body_fits, side_fits, scope_fits, member_fits, branches_fit, held_fits}

mapped_some : {A B : Type 0} (f : A → B) (o : Option A) → is_some (option_map f o) ≡ true → is_some o ≡ true
mapped_some f (Some x) h = refl
mapped_some f None h = h

-- what agrees with a type has one itself
agreeing_first : (o t : Option Ty) → agree o t ≡ true → is_some o ≡ true
agreeing_first None t h = h
agreeing_first (Some s) t h = refl

if_shown : {A : Type 0} (t : Bool) (o : Option A) → is_some (if t then o else None) ≡ true → t ≡ true
if_shown true o h = refl
if_shown false o h = h

module _ (declared : Declared) (step : Passing) (P : Instance → Type 0)
    (outputs : (n : ℕ) → is_some (option_and_then formal_target (slice_get declared.formals n)) ≡ true → P (formal_instance n)) where
  -- so are all of these
  abbrev Holds : List Met → Type 0
  Holds met = AllByRecursion (λ (one : Met). P one.instance) met

  abbrev Reached : List Write → Type 0
  Reached writes = AllByRecursion (λ (w : Write). P w.target) writes

  -- each local that may be named here is so
  abbrev Sees : Sight → Context → Type 0
  Sees sight c = (n : ℕ) → contains sight.locals n ≡ true → P (local_instance n (c.marks n))

  abbrev B : Type 0
  B = Behavior Write (Option Residual)

  -- so is all that is written to
  pub record Reaches (x : B) (l : Layout) (sight : Sight) : Type 0 where
    pub start : (c : Context) (g : Know) (m : Mark) → Sees sight c → Holds (l.met_on_start m) → Reached (x.start c g m)
    pub resume : (c : Context) (r : Residual) (g : Know) → Sees sight c → l.fits r ≡ true → Holds (l.met_on_resume r) → Reached (x.resume c r g)

  reaches_nothing : (l : Layout) (sight : Sight) → Reaches (idle (residing step)) l sight
  reaches_nothing l sight = record { start = λ c g m k all. tt; resume = λ c r g k fits all. tt }

  target_reached : (sight : Sight) (x : Var) (c : Context) → Sees sight c → is_some (written_as declared sight x) ≡ true → P (instance_here c x)
  target_reached sight (var.Formal n) c k h = outputs n h
  target_reached sight (var.Local n) c k h = k n (if_shown (contains sight.locals n) _ h)
  target_reached sight (var.Bound n) c k h = absurd (false≢true h)

  reaches_assignment : (delayed : Bool) (x : Var) (e : Expr) (sight : Sight) → is_assignment declared sight x e ≡ true
      → Reaches (assignment step.now (residing step) delayed x e) bare sight
  reaches_assignment delayed x e sight typed = record {
    start = λ c g m k all. (target_reached sight x c k (mapped_some _ (written_as declared sight x) (agreeing_first _ (type_at declared sight e) typed)), tt);
    resume = λ c r g k fits all. tt;
  }

  reaches_if : (side : Bool) (x v : B) (l l₂ : Layout) (sight : Sight) → Reaches x l sight → Reaches v l₂ sight
      → Reaches (if side then x else v) (if side then l else l₂) sight
  reaches_if true x v l l₂ sight s t = s
  reaches_if false x v l l₂ sight s t = t

  reaches_choice : (e : Expr) (x v : B) (l l₂ : Layout) (sight : Sight) → Reaches x l sight → Reaches v l₂ sight
      → Reaches (choice step.now (residing step) e x v) (choice_layout l l₂) sight
  reaches_choice e x v l l₂ sight s t = record {
    start = λ c g m k all.
        let parts = all_parts (λ (one : Met). P one.instance) (l.met_on_start m) (l₂.met_on_start m) all in
        all_join (λ (w : Write). P w.target) (x.start c (both g (value_here step.now c e)) m) (v.start c (both g (opposite (value_here step.now c e))) m)
        (s.start c _ m k parts.0) (t.start c _ m k parts.1);
    resume = λ c r g k fits all.
        (reaches_if (side_of r) x v l l₂ sight s t).resume c (inner r) g k (side_fits l l₂ r (out-Residual r) fits) all;
  }

  reaches_loop : (number : ℕ) (e : Expr) (x : B) (l : Layout) (sight : Sight) → Reaches x l sight
      → Reaches (loop step.now (residing step) number x e) (loop_layout number l) sight
  reaches_loop number e x l sight s = record {
    start = λ c g m k all. s.start c g m k all;
    resume = λ c r g k fits all.
        let parts = all_parts (λ (one : Met). P one.instance) (l.met_on_resume (inner r)) (l.met_on_start (mark.Loop number)) all in
        all_join (λ (w : Write). P w.target) (x.resume c (inner r) g)
        (x.start c (both (both g (x.ended c (inner r))) (value_here step.now c e)) (mark.Loop number))
        (s.resume c (inner r) g k (body_fits l r (out-Residual r) fits) parts.0) (s.start c _ (mark.Loop number) k parts.1);
  }

  reaches_abort : (kind : Kind) (e : Expr) (x : B) (l : Layout) (sight : Sight) → Reaches x l sight
      → Reaches (abort step.now (residing step) kind x e) (body_layout l) sight
  reaches_abort kind e x l sight s = record {
    start = λ c g m k all. s.start c (start_guard kind (value_here step.now c e) g) m k all;
    resume = λ c r g k fits all. s.resume c (inner r) (body_guard kind (value_here step.now c e) g) k (body_fits l r (out-Residual r) fits) all;
  }

  reaches_suspend : (kind : Kind) (hold : Option ℕ) (e : Expr) (x : B) (l : Layout) (sight : Sight) → Reaches x l sight
      → Reaches (suspend step.now (residing step) kind hold x e) (suspend_layout hold l) sight
  reaches_suspend kind hold e x l sight s = record {
    start = λ c g m k all. s.start c (start_guard kind (value_here step.now c e) g) m k all;
    resume = λ c r g k fits all. by_place (is_held r) c r g k (λ free. held_fits hold l r (out-Residual r) fits free) all;
  } where
    by_place : (t : Bool) (c : Context) (r : Residual) (g : Know) → Sees sight c → (t ≡ false → l.fits (inner r) ≡ true)
        → Holds (if t then l.met_on_start mark.Zero else l.met_on_resume (inner r))
        → Reached (if t then acts_on_start step.now kind x e c g mark.Zero else x.resume c (inner r) (body_guard kind (value_here step.now c e) g))
    by_place true c r g k fits all = s.start c (start_guard kind (value_here step.now c e) g) mark.Zero k all
    by_place false c r g k fits all = s.resume c (inner r) (body_guard kind (value_here step.now c e) g) k (fits refl) all

  new_held : (locals : List ℕ) (m : Mark) → Holds (met_new locals m) → (n : ℕ) → contains locals n ≡ true → P (local_instance n m)
  new_held [] m all n h = absurd (false≢true h)
  new_held (x ∷ locals) m all n h = by_test (new_held locals m all.1 n) (x == n) refl h where
    by_test : (contains locals n ≡ true → P (local_instance n m)) → (t : Bool) → (x == n) ≡ t → (t || contains locals n) ≡ true → P (local_instance n m)
    by_test later true e k = subst (λ i. P (local_instance i m)) (eqb-true x n e) all.0
    by_test later false e k = later k

  kept_held : (locals : List ℕ) (stores : List Store) → length stores ≡ length locals → Holds (met_kept locals stores) → Holds (met_new locals mark.Zero)
  kept_held [] stores long all = tt
  kept_held (x ∷ locals) [] long all = absurd (omega (arith, long))
  kept_held (x ∷ locals) (s ∷ stores) long all = (all.0, kept_held locals stores (omega (arith, long)) all.1)

  inside_sees : (locals : List ℕ) (m : Mark) (sight : Sight) (c : Context) → ((n : ℕ) → contains locals n ≡ true → P (local_instance n m))
      → Sees sight c → Sees (in_scope sight locals) (with_locals c locals m)
  inside_sees locals m sight c own k n h = by_own (contains locals n) refl (sym (list_any-append (λ number. number == n) locals sight.locals) ∙ h) where
    by_own : (t : Bool) → contains locals n ≡ t → (contains locals n || contains sight.locals n) ≡ true → P (local_instance n (if contains locals n then m else c.marks n))
    by_own true e h = subst (λ t. P (local_instance n (if t then m else c.marks n))) (sym e) (own n e)
    by_own false e h =
        subst (λ t. P (local_instance n (if t then m else c.marks n))) (sym e)
        (k n (sym (ap (λ t. t || contains sight.locals n) e) ∙ h))

  reaches_scope : (locals : List ℕ) (x : B) (l : Layout) (sight : Sight) → Reaches x l (in_scope sight locals)
      → Reaches (scope (residing step) locals x) (scope_layout locals l) sight
  reaches_scope locals x l sight s = record {
    start = λ c g m k all.
        let parts = all_parts (λ (one : Met). P one.instance) (met_new locals m) (l.met_on_start m) all in
        s.start _ g m (inside_sees locals m sight c (new_held locals m parts.0) k) parts.1;
    resume = λ c r g k fits all.
        let parts = all_parts (λ (one : Met). P one.instance) (met_kept locals (stores_of r)) (l.met_on_resume (inner r)) all in
        let fit = scope_fits locals l r (out-Residual r) fits in
        s.resume _ (inner r) g (inside_sees locals mark.Zero sight c (new_held locals mark.Zero (kept_held locals (stores_of r) fit.0 parts.0)) k) fit.1 parts.1;
  }

  abbrev X : Stmt → B
  X = behavior step.now (residing step) (λ number arguments. idle (residing step))

  abbrev L : Stmt → Layout
  L = layout (λ number. bare)

  module _ (sight : Sight) where
    abbrev AllReach : List Stmt → Type 0
    AllReach parts = AllByRecursion (λ s. Reaches (X s) (L s) sight) parts

    reach_drop : (parts : List Stmt) (n : ℕ) → AllReach parts → AllReach (drop n parts)
    reach_drop parts zero h = h
    reach_drop [] (suc n) h = tt
    reach_drop (s ∷ parts) (suc n) h = reach_drop parts n h.1

    abbrev Started : List Layout → Mark → Type 0
    Started ls m = Holds (flat_map (λ (part : Layout). part.met_on_start m) ls)

    starts_all : (parts : List Stmt) → AllReach parts → (c : Context) (g : Know) (m : Mark) → Sees sight c → Started (map L parts) m
        → Reached (start_in_turn c (map X parts) g m)
    starts_all [] reach c g m k all = tt
    starts_all (s ∷ parts) reach c g m k all =
        let two = all_parts (λ (one : Met). P one.instance) ((L s).met_on_start m) _ all in
        all_join (λ (w : Write). P w.target) ((X s).start c g m) _ (reach.0.start c g m k two.0) (starts_all parts reach.1 c _ m k two.1)

    member_reaches : (parts : List Stmt) → AllReach parts → (n : ℕ) → Reaches (member (idle (residing step)) (map X parts) n) (member bare (map L parts) n) sight
    member_reaches [] reach n = reaches_nothing bare sight
    member_reaches (s ∷ parts) reach zero = reach.0
    member_reaches (s ∷ parts) reach (suc n) = member_reaches parts reach.1 n

    reaches_sequence : (parts : List Stmt) → AllReach parts → Reaches (sequence (residing step) (map X parts)) (sequence_layout (map L parts)) sight
    reaches_sequence parts reach = record {
      start = λ c g m k all. starts_all parts reach c g m k all;
      resume = λ c r g k fits all.
          let n = member_of r in
          let two = all_parts (λ (one : Met). P one.instance) ((member bare (map L parts) n).met_on_resume (inner r)) _ all in
          let later : Started (map L (drop (n + 1) parts)) mark.Zero = subst (λ ls. Started ls mark.Zero) (drop-map L (n + 1) parts) two.1 in
          let v : Know = (member (idle (residing step)) (map X parts) n).ended c (inner r) in
          all_join (λ (w : Write). P w.target) ((member (idle (residing step)) (map X parts) n).resume c (inner r) g) _
          ((member_reaches parts reach n).resume c (inner r) g k ((member_fits (map L parts) r (out-Residual r) fits).0) two.0)
          (subst (λ xs. Reached (start_in_turn c xs (both g v) mark.Zero)) (sym (drop-map X (n + 1) parts))
          (starts_all (drop (n + 1) parts) (reach_drop parts (n + 1) reach) c (both g v) mark.Zero k later));
    }

    starts_each : (parts : List Stmt) → AllReach parts → (c : Context) (g : Know) (m : Mark) → Sees sight c → Started (map L parts) m
        → Reached (flat_map (λ (part : B). part.start c g m) (map X parts))
    starts_each [] reach c g m k all = tt
    starts_each (s ∷ parts) reach c g m k all =
        let two = all_parts (λ (one : Met). P one.instance) ((L s).met_on_start m) _ all in
        all_join (λ (w : Write). P w.target) ((X s).start c g m) _ (reach.0.start c g m k two.0) (starts_each parts reach.1 c g m k two.1)

    abbrev Resumed : List Stmt → List (Option Residual) → Type 0
    Resumed parts branches = Holds (flat_map (λ (one : Layout × Residual). one.0.met_on_resume one.1) (resting (map L parts) branches))

    resumes_each : (parts : List Stmt) (branches : List (Option Residual)) → AllReach parts → (c : Context) (g : Know) → Sees sight c → fits_each (map L parts) branches ≡ true
        → Resumed parts branches → Reached (flat_map (λ (one : B × Residual). one.0.resume c one.1 g) (resting (map X parts) branches))
    resumes_each [] branches reach c g k fits all = tt
    resumes_each (s ∷ parts) [] reach c g k fits all = tt
    resumes_each (s ∷ parts) (None ∷ branches) reach c g k fits all = resumes_each parts branches reach.1 c g k fits all
    resumes_each (s ∷ parts) (Some r ∷ branches) reach c g k fits all =
        let fit = and_parts _ _ fits in
        let two = all_parts (λ (one : Met). P one.instance) ((L s).met_on_resume r) _ all in
        all_join (λ (w : Write). P w.target) ((X s).resume c r g) _ (reach.0.resume c r g k fit.0 two.0) (resumes_each parts branches reach.1 c g k fit.1 two.1)

    reaches_parallel : (parts : List Stmt) → AllReach parts → Reaches (parallel (residing step) (map X parts)) (parallel_layout (map L parts)) sight
    reaches_parallel parts reach = record {
      start = λ c g m k all. starts_each parts reach c g m k all;
      resume = λ c r g k fits all. resumes_each parts (branches_of r) reach c g k (branches_fit (map L parts) (out-Residual r) fits) all;
    }

  reaches_bound : (bindings : List Binding) (x : B) (l : Layout) (sight : Sight) → Reaches x l (with_bound sight (types_bound declared sight bindings))
      → Reaches (bound_body step.now bindings x) l sight
  reaches_bound bindings x l sight s = record {
    start = λ c g m k all. s.start (with_bindings step.now c bindings) g m k all;
    resume = λ c r g k fits all. s.resume (with_bindings step.now c bindings) r g k fits all;
  }

  abbrev Claimed : Type 0
  Claimed = (s : Stmt) × ((sight : Sight) → is_sound declared s sight ≡ true → Reaches (X s) (L s) sight)

  abbrev names : List Claimed → List Stmt
  names parts = map (λ (e : Claimed). e.0) parts

  all_reach : (parts : List Claimed) (sight : Sight) → list_all (λ (part : Sight → Bool). part sight) (map (is_sound declared) (names parts)) ≡ true → AllReach sight (names parts)
  all_reach [] sight h = tt
  all_reach (e ∷ parts) sight h = let two = and_parts _ _ h in (e.1 sight two.0, all_reach parts sight two.1)

  abbrev AtNode : Stmt-F Stmt → Type 0
  AtNode x =
      (sight : Sight) → node_is_sound declared (map-Stmt Stmt (Sight → Bool) (is_sound declared) x) sight ≡ true
      → Reaches (node_behavior step.now (residing step) (λ number arguments. idle (residing step)) (map-Stmt Stmt B X x))
      (node_layout (λ number. bare) (map-Stmt Stmt Layout L x)) sight

  at_node : (node : Stmt-F Claimed) → AtNode (map-Stmt Claimed Stmt (λ e. e.0) node)
  at_node Stmt-F.Nothing sight h = reaches_nothing bare sight
  at_node (Stmt-F.Assign target value) sight h = reaches_assignment false target value sight h
  at_node (Stmt-F.Delayed target value) sight h = reaches_assignment true target value sight h
  at_node (Stmt-F.Pause place) sight h = record { start = λ c g m k all. tt; resume = λ c r g k fits all. tt }
  at_node (Stmt-F.Seq parts) sight h = reaches_sequence sight (names parts) (all_reach parts sight (and_parts _ _ h).1)
  at_node (Stmt-F.Par parts) sight h = reaches_parallel sight (names parts) (all_reach parts sight (and_parts _ _ h).1)
  at_node (Stmt-F.If condition first second) sight h =
      let sides = and_parts _ _ (and_parts _ _ h).1 in
      reaches_choice condition _ _ _ _ sight (first.1 sight sides.0) (second.1 sight sides.1)
  at_node (Stmt-F.Loop number body condition) sight h = reaches_loop number condition _ _ sight (body.1 sight (and_parts _ _ h).1)
  at_node (Stmt-F.Abort kind body condition) sight h = reaches_abort kind condition _ _ sight (body.1 sight (and_parts _ _ h).1)
  at_node (Stmt-F.Suspend kind hold body condition) sight h =
      reaches_suspend kind hold condition _ _ sight (body.1 sight (and_parts _ _ (and_parts _ _ h).1).1)
  at_node (Stmt-F.Scope locals body) sight h = reaches_scope locals _ _ sight (body.1 (in_scope sight locals) (and_parts _ _ h).1)
  at_node (Stmt-F.Call number proto arguments) sight h = reaches_nothing _ sight
  at_node (Stmt-F.Bind bindings body) sight h =
      reaches_bound bindings _ _ sight (body.1 (with_bound sight (types_bound declared sight bindings)) (and_parts _ _ h).1)

  abbrev NA : Stmt-F Stmt → B
  NA x = node_behavior step.now (residing step) (λ number arguments. idle (residing step)) (map-Stmt Stmt B X x)

  -- for every sound statement
  pub statements_reach : (s : Stmt) (sight : Sight) → is_sound declared s sight ≡ true → Reaches (X s) (L s) sight
  statements_reach = ind-Stmt (λ s. (sight : Sight) → is_sound declared s sight ≡ true → Reaches (X s) (L s) sight) (λ x y is sight h.
      subst (λ (v : B). Reaches v (L (roll-Stmt x)) sight)
      (sym (fold-roll-Stmt B (node_behavior step.now (residing step) (λ number arguments. idle (residing step))) x))
      (subst (λ l. Reaches (NA x) l sight)
      (sym (fold-roll-Stmt Layout (node_layout (λ number. bare)) x))
      (subst AtNode is (at_node y) sight (ap (λ f. f sight) (sym (fold-roll-Stmt (Sight → Bool) (node_is_sound declared) x)) ∙ h))))
