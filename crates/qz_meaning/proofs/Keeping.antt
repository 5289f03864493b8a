-- The stores with which a walk begins are those at its place, and those that it leaves come from instances.
use Rattle.std.proofs.Common.{◌≡◌, ℕ, zero, suc, ◌+◌, Bool, true, false, List, [], ◌∷◌, ◌++◌, map, drop, Option, Some, None, refl, sym, ap, subst, subst₂, ◌∙◌, arith}
use Rattle.std.specs.Prelude.{if◌then◌else◌, is_some}
use Rattle.std.specs.Option.{option_map}
use Rattle.std.specs.List.{flat_map, list_all, list_any, zip, AllByRecursion}
use Rattle.std.proofs.lemmas.List.{drop-map}
use Rattle.std.proofs.lemmas.Bool.{and_parts, and_from}
use Rattle.std.proofs.lemmas.List.Folds.{list_all-append}
use Rattle.qz_values.specs.Knowledge.{knows_yes}
use Rattle.qz_syntax.specs.declared.expressions.Expr.{Expr}
use Rattle.qz_syntax.specs.declared.statements.Kind.{Kind}
use Rattle.qz_syntax.specs.declared.statements.Stmt.{Stmt, map-Stmt}
use Rattle.qz_syntax.specs.declared.statements.Stmt.TheOpen.{Stmt-F}
use Rattle.qz_syntax.specs.declared.statements.Stmt.TheFolds.{fold-roll-Stmt, ind-Stmt}
use Rattle.qz_syntax.specs.declared.places.Mark.{Mark}
use Rattle.qz_syntax.specs.declared.places.Mark.TheVariants as mark
use Rattle.qz_syntax.specs.declared.places.Store.{Store}
use Rattle.qz_syntax.specs.declared.places.Residual.{Residual}
use Rattle.qz_syntax.specs.declared.places.Residual.TheVariants.{Hold, InSeq, InPar, InIf, InBody, InScope}
use Rattle.qz_meaning.specs.Instances.{local_instance}
use Rattle.qz_meaning.specs.Scenes.{Context, Passing, store_from}
use Rattle.qz_meaning.specs.Expressions.{value_here}
use Rattle.qz_meaning.specs.Residuals.{inner_or, inner, member_in, member_of, branches_in, branches_of, side_in, side_of, holds_in, is_held, stores_in, stores_of}
use Rattle.qz_meaning.specs.Accounts.{Write}
use Rattle.qz_meaning.specs.Layouts.{Met, Layout, bare}
use Rattle.qz_meaning.specs.Behaviors.{Behavior, idle}
use Rattle.qz_meaning.specs.Simple.{pause, pause_layout}
use Rattle.qz_meaning.specs.Sequences.{rest_in_first, member, sequence, sequence_layout}
use Rattle.qz_meaning.specs.Parallels.{resting, each_branch, parallel, parallel_layout}
use Rattle.qz_meaning.specs.Choices.{choice, choice_layout}
use Rattle.qz_meaning.specs.Loops.{loop, loop_layout}
use Rattle.qz_meaning.specs.Aborts.{abort, body_layout}
use Rattle.qz_meaning.specs.Suspends.{stays_held, rest_on_start, suspend, suspend_layout}
use Rattle.qz_meaning.specs.Scopes.{met_new, met_kept, scope, scope_layout}
use Rattle.qz_meaning.specs.Walks.{node_behavior, behavior, node_layout, layout}
use Rattle.qz_meaning.specs.Residing.{stores_from, in_some_branch, residing}
use Rattle.qz_meaning.proofs.Resting.{out-Hold, out-InSeq, out-InPar, out-InIf, out-InBody, out-InScope}
use Rattle.qz_meaning.proofs.Lists.{all_join}

-- a test on the store of a local
module _ (good : ℕ × Store → Bool) where
  -- an instance that is new, or a local's whose store passes the test
  pub data Begun : Met → Type 0 where
    New : (one : Met) → one.store ≡ None → Begun one
    Kept : (n : ℕ) (s : Store) → good (n, s) ≡ true → Begun record { instance = local_instance n mark.Zero; store = Some s }

  abbrev AllBegun : List Met → Type 0
  AllBegun met = AllByRecursion Begun met

  abbrev passes : List (ℕ × Store) → Bool
  passes stores = list_all good stores

  pub record Begins (l : Layout) : Type 0 where
    pub start : (m : Mark) → AllBegun (l.met_on_start m)
    pub resume : (r : Residual) → passes (l.stores_at r) ≡ true → AllBegun (l.met_on_resume r)

  begins_bare : Begins bare
  begins_bare = record { start = λ m. tt; resume = λ r h. tt }

  begins_body : (l : Layout) → Begins l → Begins (body_layout l)
  begins_body l x = record { start = λ m. x.start m; resume = λ r h. x.resume (inner r) h }

  begins_loop : (number : ℕ) (l : Layout) → Begins l → Begins (loop_layout number l)
  begins_loop number l x = record {
    start = λ m. x.start m;
    resume = λ r h. all_join Begun _ _ (x.resume (inner r) h) (x.start (mark.Loop number));
  }

  begins_choice : (l l₂ : Layout) → Begins l → Begins l₂ → Begins (choice_layout l l₂)
  begins_choice l l₂ x y = record {
    start = λ m. all_join Begun _ _ (x.start m) (y.start m);
    resume = λ r h. by_side (side_of r) (inner r) h;
  } where
    by_side : (side : Bool) (r : Residual) → passes ((if side then l else l₂).stores_at r) ≡ true → AllBegun ((if side then l else l₂).met_on_resume r)
    by_side true r h = x.resume r h
    by_side false r h = y.resume r h

  begins_suspend : (hold : Option ℕ) (l : Layout) → Begins l → Begins (suspend_layout hold l)
  begins_suspend hold l x = record {
    start = λ m. x.start m;
    resume = λ r h. by_held (is_held r) (inner r) h;
  } where
    by_held : (held : Bool) (r : Residual) → passes (if held then [] else l.stores_at r) ≡ true → AllBegun (if held then l.met_on_start mark.Zero else l.met_on_resume r)
    by_held true r h = x.start mark.Zero
    by_held false r h = x.resume r h

  new_begun : (locals : List ℕ) (m : Mark) → AllBegun (met_new locals m)
  new_begun [] m = tt
  new_begun (n ∷ locals) m = (New _ refl, new_begun locals m)

  kept_begun : (locals : List ℕ) (stores : List Store) → passes (zip locals stores) ≡ true → AllBegun (met_kept locals stores)
  kept_begun [] stores h = tt
  kept_begun (n ∷ locals) [] h = tt
  kept_begun (n ∷ locals) (s ∷ stores) h = let two = and_parts _ _ h in (Kept n s two.0, kept_begun locals stores two.1)

  begins_scope : (locals : List ℕ) (l : Layout) → Begins l → Begins (scope_layout locals l)
  begins_scope locals l x = record {
    start = λ m. all_join Begun _ _ (new_begun locals m) (x.start m);
    resume = λ r h.
        let two = and_parts _ _ (sym (list_all-append good (l.stores_at (inner r)) (zip locals (stores_of r))) ∙ h) in
        all_join Begun _ _ (kept_begun locals (stores_of r) two.1) (x.resume (inner r) two.0);
  }

  abbrev AllBegin : List Layout → Type 0
  AllBegin ls = AllByRecursion Begins ls

  starts_begun : (ls : List Layout) → AllBegin ls → (m : Mark) → AllBegun (flat_map (λ (part : Layout). part.met_on_start m) ls)
  starts_begun [] all m = tt
  starts_begun (l ∷ ls) all m = all_join Begun _ _ (all.0.start m) (starts_begun ls all.1 m)

  member_begins : (ls : List Layout) → AllBegin ls → (n : ℕ) → Begins (member bare ls n)
  member_begins [] all n = begins_bare
  member_begins (l ∷ ls) all zero = all.0
  member_begins (l ∷ ls) all (suc n) = member_begins ls all.1 n

  drop_begin : (ls : List Layout) (n : ℕ) → AllBegin ls → AllBegin (drop n ls)
  drop_begin ls zero all = all
  drop_begin [] (suc n) all = tt
  drop_begin (l ∷ ls) (suc n) all = drop_begin ls n all.1

  begins_sequence : (ls : List Layout) → AllBegin ls → Begins (sequence_layout ls)
  begins_sequence ls all = record {
    start = λ m. starts_begun ls all m;
    resume = λ r h.
        all_join Begun _ _ ((member_begins ls all (member_of r)).resume (inner r) h)
        (starts_begun (drop (member_of r + 1) ls) (drop_begin ls (member_of r + 1) all) mark.Zero);
  }

  branches_begun : (ls : List Layout) (branches : List (Option Residual)) → AllBegin ls → passes (flat_map (λ (one : Layout × Residual). one.0.stores_at one.1) (resting ls branches)) ≡ true
      → AllBegun (flat_map (λ (one : Layout × Residual). one.0.met_on_resume one.1) (resting ls branches))
  branches_begun [] branches all h = tt
  branches_begun (l ∷ ls) [] all h = tt
  branches_begun (l ∷ ls) (None ∷ branches) all h = branches_begun ls branches all.1 h
  branches_begun (l ∷ ls) (Some r ∷ branches) all h =
      let two = and_parts _ _ (sym (list_all-append good (l.stores_at r) _) ∙ h) in
      all_join Begun _ _ (all.0.resume r two.0) (branches_begun ls branches all.1 two.1)

  begins_parallel : (ls : List Layout) → AllBegin ls → Begins (parallel_layout ls)
  begins_parallel ls all = record { start = λ m. starts_begun ls all m; resume = λ r h. branches_begun ls (branches_of r) all h }

  abbrev L : Stmt → Layout
  L = layout (λ number. bare)

  abbrev Beginning : Type 0
  Beginning = (s : Stmt) × Begins (L s)

  all_begin : (parts : List Beginning) → AllBegin (map L (map (λ (e : Beginning). e.0) parts))
  all_begin [] = tt
  all_begin (e ∷ parts) = (e.1, all_begin parts)

  begins_node : (node : Stmt-F Beginning) → Begins (node_layout (λ number. bare) (map-Stmt Stmt Layout L (map-Stmt Beginning Stmt (λ e. e.0) node)))
  begins_node Stmt-F.Nothing = begins_bare
  begins_node (Stmt-F.Assign target value) = begins_bare
  begins_node (Stmt-F.Delayed target value) = begins_bare
  begins_node (Stmt-F.Pause place) = record { start = λ m. tt; resume = λ r h. tt }
  begins_node (Stmt-F.Seq parts) = begins_sequence _ (all_begin parts)
  begins_node (Stmt-F.Par parts) = begins_parallel _ (all_begin parts)
  begins_node (Stmt-F.If condition first second) = begins_choice _ _ first.1 second.1
  begins_node (Stmt-F.Loop number body condition) = begins_loop number _ body.1
  begins_node (Stmt-F.Abort kind body condition) = begins_body _ body.1
  begins_node (Stmt-F.Suspend kind hold body condition) = begins_suspend hold _ body.1
  begins_node (Stmt-F.Scope locals body) = begins_scope locals _ body.1
  begins_node (Stmt-F.Call number proto arguments) = begins_bare
  begins_node (Stmt-F.Bind bindings body) = body.1

  -- the stores with which a walk begins pass the test
  pub walks_begin : (s : Stmt) → Begins (L s)
  walks_begin = ind-Stmt (λ s. Begins (L s)) (λ x y is.
      subst Begins (sym (fold-roll-Stmt Layout (node_layout (λ number. bare)) x))
      (subst (λ (z : Stmt-F Stmt). Begins (node_layout (λ number. bare) (map-Stmt Stmt Layout L z))) is (begins_node y)))

  module _ (step : Passing) (from : (n : ℕ) (m : Mark) → good (n, store_from step (local_instance n m)) ≡ true) where
    abbrev B : Type 0
    B = Behavior Write (Option Residual)

    -- the stores of the scopes there pass the test
    abbrev pub Left : Layout → Option Residual → Type 0
    Left l None = Unit {0}
    Left l (Some r) = passes (l.stores_at r) ≡ true

    left_if : (l : Layout) (b : Bool) (x y : Option Residual) → Left l x → Left l y → Left l (if b then x else y)
    left_if l true x y p q = p
    left_if l false x y p q = q

    pub record Leaves (x : B) (l : Layout) : Type 0 where
      pub rest : (c : Context) (m : Mark) → Left l (x.rest c m)
      pub after : (c : Context) (r : Residual) → Left l (x.after c r)
      pub kept : (r : Residual) → Left l (x.kept r)

    leaves_idle : (l : Layout) → Leaves (idle (residing step)) l
    leaves_idle l = record { rest = λ c m. tt; after = λ c r. tt; kept = λ r. tt }

    leaves_pause : (place : ℕ) → Leaves (pause (residing step) place) (pause_layout place)
    leaves_pause place = record { rest = λ c m. refl; after = λ c r. tt; kept = λ r. refl }

    left_body : (l : Layout) (o : Option Residual) → Left l o → Left (body_layout l) (option_map (λ r. InBody r) o)
    left_body l None h = tt
    left_body l (Some r) h = ap (λ node. passes (l.stores_at (inner_or (InBody r) node))) (out-InBody r) ∙ h

    left_loop : (number : ℕ) (l : Layout) (o : Option Residual) → Left l o → Left (loop_layout number l) (option_map (λ r. InBody r) o)
    left_loop number l None h = tt
    left_loop number l (Some r) h = ap (λ node. passes (l.stores_at (inner_or (InBody r) node))) (out-InBody r) ∙ h

    left_suspend : (hold : Option ℕ) (l : Layout) (o : Option Residual) → Left l o → Left (suspend_layout hold l) (option_map (λ r. InBody r) o)
    left_suspend hold l None h = tt
    left_suspend hold l (Some r) h = ap (λ node. passes (if holds_in node then [] else l.stores_at (inner_or (InBody r) node))) (out-InBody r) ∙ h

    left_held : (hold : Option ℕ) (l : Layout) → Left (suspend_layout hold l) (stays_held (residing step) hold)
    left_held None l = tt
    left_held (Some place) l = ap (λ node. passes (if holds_in node then [] else l.stores_at (inner_or (Hold place) node))) (out-Hold place)

    left_side : (side : Bool) (l l₂ : Layout) (o : Option Residual) → Left (if side then l else l₂) o → Left (choice_layout l l₂) (option_map (λ r. InIf side r) o)
    left_side side l l₂ None h = tt
    left_side side l l₂ (Some r) h = ap (λ node. passes ((if side_in node then l else l₂).stores_at (inner_or (InIf side r) node))) (out-InIf side r) ∙ h

    left_member : (ls : List Layout) (n : ℕ) (o : Option Residual) → Left (member bare ls n) o → Left (sequence_layout ls) (option_map (λ r. InSeq n r) o)
    left_member ls n None h = tt
    left_member ls n (Some r) h = ap (λ node. passes ((member bare ls (member_in node)).stores_at (inner_or (InSeq n r) node))) (out-InSeq n r) ∙ h

    stores_pass : (locals : List ℕ) (m : Mark) → passes (zip locals (stores_from step locals m)) ≡ true
    stores_pass [] m = refl
    stores_pass (n ∷ locals) m = and_from _ _ (from n m) (stores_pass locals m)

    left_scope : (locals : List ℕ) (m : Mark) (l : Layout) (o : Option Residual) → Left l o → Left (scope_layout locals l) (option_map (λ r. InScope (stores_from step locals m) r) o)
    left_scope locals m l None h = tt
    left_scope locals m l (Some r) h =
        let stores = stores_from step locals m in
        ap (λ node. passes (l.stores_at (inner_or (InScope stores r) node) ++ zip locals (stores_in node))) (out-InScope stores r)
        ∙ list_all-append good (l.stores_at r) (zip locals stores) ∙ and_from _ _ h (stores_pass locals m)

    leaves_if : (side : Bool) (x y : B) (l l₂ : Layout) → Leaves x l → Leaves y l₂ → Leaves (if side then x else y) (if side then l else l₂)
    leaves_if true x y l l₂ s t = s
    leaves_if false x y l l₂ s t = t

    leaves_choice : (e : Expr) (x y : B) (l l₂ : Layout) → Leaves x l → Leaves y l₂ → Leaves (choice step.now (residing step) e x y) (choice_layout l l₂)
    leaves_choice e x y l l₂ s t = record {
      rest = λ c m.
          left_if (choice_layout l l₂) (knows_yes (value_here step.now c e)) _ _ (left_side true l l₂ _ (s.rest c m)) (left_side false l l₂ _ (t.rest c m));
      after = λ c r. left_side (side_of r) l l₂ _ ((leaves_if (side_of r) x y l l₂ s t).after c (inner r));
      kept = λ r. left_side (side_of r) l l₂ _ ((leaves_if (side_of r) x y l l₂ s t).kept (inner r));
    }

    leaves_loop : (number : ℕ) (e : Expr) (x : B) (l : Layout) → Leaves x l → Leaves (loop step.now (residing step) number x e) (loop_layout number l)
    leaves_loop number e x l s = record {
      rest = λ c m. left_loop number l _ (s.rest c m);
      after = λ c r. left_loop number l _ (left_if l _ _ _ (s.rest c (mark.Loop number)) (s.after c (inner r)));
      kept = λ r. left_loop number l _ (s.kept (inner r));
    }

    leaves_abort : (kind : Kind) (e : Expr) (x : B) (l : Layout) → Leaves x l → Leaves (abort step.now (residing step) kind x e) (body_layout l)
    leaves_abort kind e x l s = record {
      rest = λ c m.
          left_if (body_layout l) kind.immediate _ _ (left_if (body_layout l) (knows_yes (value_here step.now c e)) None _ tt (left_body l _ (s.rest c m))) (left_body l _ (s.rest c m));
      after = λ c r. left_if (body_layout l) (knows_yes (value_here step.now c e)) None _ tt (left_body l _ (s.after c (inner r)));
      kept = λ r. left_body l _ (s.kept (inner r));
    }

    leaves_suspend : (kind : Kind) (hold : Option ℕ) (e : Expr) (x : B) (l : Layout) → Leaves x l → Leaves (suspend step.now (residing step) kind hold x e) (suspend_layout hold l)
    leaves_suspend kind hold e x l s = record {
      rest = λ c m. on_start c m;
      after = λ c r.
          left_if (suspend_layout hold l) (is_held r) _ _ (on_start c mark.Zero)
          (left_suspend hold l _ (left_if l (knows_yes (value_here step.now c e)) _ _ (s.kept (inner r)) (s.after c (inner r))));
      kept = λ r. left_if (suspend_layout hold l) (is_held r) _ _ (left_held hold l) (left_suspend hold l _ (s.kept (inner r)));
    } where
      on_start : (c : Context) (m : Mark) → Left (suspend_layout hold l) (rest_on_start step.now (residing step) kind hold x e c m)
      on_start c m =
          left_if (suspend_layout hold l) kind.immediate _ _
          (left_if (suspend_layout hold l) (knows_yes (value_here step.now c e)) _ _ (left_held hold l) (left_suspend hold l _ (s.rest c m))) (left_suspend hold l _ (s.rest c m))

    leaves_scope : (locals : List ℕ) (x : B) (l : Layout) → Leaves x l → Leaves (scope (residing step) locals x) (scope_layout locals l)
    leaves_scope locals x l s = record {
      rest = λ c m. left_scope locals m l _ (s.rest _ m);
      after = λ c r. left_scope locals mark.Zero l _ (s.after _ (inner r));
      kept = λ r. left_scope locals mark.Zero l _ (s.kept (inner r));
    }

    abbrev X : Stmt → B
    X = behavior step.now (residing step) (λ number arguments. idle (residing step))

    abbrev LeavesAll : List Stmt → Type 0
    LeavesAll parts = AllByRecursion (λ s. Leaves (X s) (L s)) parts

    member_leaves : (parts : List Stmt) → LeavesAll parts → (n : ℕ) → Leaves (member (idle (residing step)) (map X parts) n) (member bare (map L parts) n)
    member_leaves [] all n = leaves_idle bare
    member_leaves (s ∷ parts) all zero = all.0
    member_leaves (s ∷ parts) all (suc n) = member_leaves parts all.1 n

    first_left : (ls : List Layout) (parts : List Stmt) (number : ℕ) → LeavesAll parts → ((i : ℕ) → member bare ls (number + i) ≡ member bare (map L parts) i) → (c : Context) (m : Mark)
        → Left (sequence_layout ls) (rest_in_first (residing step) c (map X parts) number m)
    first_left ls [] number all same c m = tt
    first_left ls (s ∷ parts) number all same c m =
        left_if (sequence_layout ls) (knows_yes ((X s).ends c m)) _ _
        (first_left ls parts (number + 1) all.1 (λ i. let e : number + 1 + i ≡ number + suc i = omega arith in ap (member bare ls) e ∙ same (suc i)) c m)
        (left_member ls number _
        (subst (λ l. Left l ((X s).rest c m)) (sym (let e : number ≡ number + 0 = omega arith in ap (member bare ls) e ∙ same 0)) (all.0.rest c m)))

    member_drop : (ls : List Layout) (n i : ℕ) → member bare ls (n + i) ≡ member bare (drop n ls) i
    member_drop ls zero i = let e : 0 + i ≡ i = omega arith in ap (member bare ls) e
    member_drop [] (suc n) i = refl
    member_drop (l ∷ ls) (suc n) i = let e : suc n + i ≡ suc (n + i) = omega arith in ap (member bare (l ∷ ls)) e ∙ member_drop ls n i

    leaves_drop : (parts : List Stmt) (n : ℕ) → LeavesAll parts → LeavesAll (drop n parts)
    leaves_drop parts zero all = all
    leaves_drop [] (suc n) all = tt
    leaves_drop (s ∷ parts) (suc n) all = leaves_drop parts n all.1

    leaves_sequence : (parts : List Stmt) → LeavesAll parts → Leaves (sequence (residing step) (map X parts)) (sequence_layout (map L parts))
    leaves_sequence parts all = record {
      rest = λ c m. first_left (map L parts) parts 0 all (λ i. let e : 0 + i ≡ i = omega arith in ap (member bare (map L parts)) e) c m;
      after = λ c r.
          let n = member_of r in
          left_if (sequence_layout (map L parts)) (knows_yes ((member (idle (residing step)) (map X parts) n).ended c (inner r))) _ _
          (subst (λ xs. Left (sequence_layout (map L parts)) (rest_in_first (residing step) c xs (n + 1) mark.Zero)) (sym (drop-map X (n + 1) parts))
          (first_left (map L parts) (drop (n + 1) parts) (n + 1) (leaves_drop parts (n + 1) all)
          (λ i. member_drop (map L parts) (n + 1) i ∙ ap (λ ls. member bare ls i) (drop-map L (n + 1) parts)) c mark.Zero))
          (left_member (map L parts) n _ ((member_leaves parts all n).after c (inner r)));
      kept = λ r. left_member (map L parts) (member_of r) _ ((member_leaves parts all (member_of r)).kept (inner r));
    }

    abbrev LeftEach : List Stmt → List (Option Residual) → Type 0
    LeftEach [] os = Unit {0}
    LeftEach (s ∷ parts) [] = Unit {0}
    LeftEach (s ∷ parts) (o ∷ os) = Left (L s) o × LeftEach parts os

    each_passes : (parts : List Stmt) (os : List (Option Residual)) → LeftEach parts os → passes (flat_map (λ (one : Layout × Residual). one.0.stores_at one.1) (resting (map L parts) os)) ≡ true
    each_passes [] os h = refl
    each_passes (s ∷ parts) [] h = refl
    each_passes (s ∷ parts) (None ∷ os) h = each_passes parts os h.1
    each_passes (s ∷ parts) (Some r ∷ os) h = list_all-append good ((L s).stores_at r) _ ∙ and_from _ _ h.0 (each_passes parts os h.1)

    left_branches : (parts : List Stmt) (os : List (Option Residual)) → LeftEach parts os → Left (parallel_layout (map L parts)) (in_some_branch os)
    left_branches parts os h =
        left_if (parallel_layout (map L parts)) (list_any (λ branch. is_some branch) os) (Some (InPar os)) None
        (ap (λ node. passes (flat_map (λ (one : Layout × Residual). one.0.stores_at one.1) (resting (map L parts) (branches_in node)))) (out-InPar os) ∙ each_passes parts os h) tt

    rest_each : (parts : List Stmt) → LeavesAll parts → (c : Context) (m : Mark) → LeftEach parts (map (λ (part : B). part.rest c m) (map X parts))
    rest_each [] all c m = tt
    rest_each (s ∷ parts) all c m = (all.0.rest c m, rest_each parts all.1 c m)

    after_each : (parts : List Stmt) (branches : List (Option Residual)) → LeavesAll parts → (c : Context)
        → LeftEach parts (each_branch None (λ (part : B) inside. part.after c inside) (map X parts) branches)
    after_each [] branches all c = tt
    after_each (s ∷ parts) [] all c = tt
    after_each (s ∷ parts) (None ∷ branches) all c = (tt, after_each parts branches all.1 c)
    after_each (s ∷ parts) (Some r ∷ branches) all c = (all.0.after c r, after_each parts branches all.1 c)

    kept_each : (parts : List Stmt) (branches : List (Option Residual)) → LeavesAll parts
        → LeftEach parts (each_branch None (λ (part : B) inside. part.kept inside) (map X parts) branches)
    kept_each [] branches all = tt
    kept_each (s ∷ parts) [] all = tt
    kept_each (s ∷ parts) (None ∷ branches) all = (tt, kept_each parts branches all.1)
    kept_each (s ∷ parts) (Some r ∷ branches) all = (all.0.kept r, kept_each parts branches all.1)

    leaves_parallel : (parts : List Stmt) → LeavesAll parts → Leaves (parallel (residing step) (map X parts)) (parallel_layout (map L parts))
    leaves_parallel parts all = record {
      rest = λ c m. left_branches parts _ (rest_each parts all c m);
      after = λ c r. left_branches parts _ (after_each parts (branches_of r) all c);
      kept = λ r. left_branches parts _ (kept_each parts (branches_of r) all);
    }

    abbrev Leaving : Type 0
    Leaving = (s : Stmt) × Leaves (X s) (L s)

    leaves_all : (parts : List Leaving) → LeavesAll (map (λ (e : Leaving). e.0) parts)
    leaves_all [] = tt
    leaves_all (e ∷ parts) = (e.1, leaves_all parts)

    abbrev AtNode : Stmt-F Stmt → Type 0
    AtNode x =
        Leaves (node_behavior step.now (residing step) (λ number arguments. idle (residing step)) (map-Stmt Stmt B X x)) (node_layout (λ number. bare) (map-Stmt Stmt Layout L x))

    leaves_node : (node : Stmt-F Leaving) → AtNode (map-Stmt Leaving Stmt (λ e. e.0) node)
    leaves_node Stmt-F.Nothing = leaves_idle bare
    leaves_node (Stmt-F.Assign target value) = record { rest = λ c m. tt; after = λ c r. tt; kept = λ r. tt }
    leaves_node (Stmt-F.Delayed target value) = record { rest = λ c m. tt; after = λ c r. tt; kept = λ r. tt }
    leaves_node (Stmt-F.Pause place) = leaves_pause place
    leaves_node (Stmt-F.Seq parts) = leaves_sequence _ (leaves_all parts)
    leaves_node (Stmt-F.Par parts) = leaves_parallel _ (leaves_all parts)
    leaves_node (Stmt-F.If condition first second) = leaves_choice condition _ _ _ _ first.1 second.1
    leaves_node (Stmt-F.Loop number body condition) = leaves_loop number condition _ _ body.1
    leaves_node (Stmt-F.Abort kind body condition) = leaves_abort kind condition _ _ body.1
    leaves_node (Stmt-F.Suspend kind hold body condition) = leaves_suspend kind hold condition _ _ body.1
    leaves_node (Stmt-F.Scope locals body) = leaves_scope locals _ _ body.1
    leaves_node (Stmt-F.Call number proto arguments) = leaves_idle bare
    leaves_node (Stmt-F.Bind bindings body) = record { rest = λ c m. body.1.rest _ m; after = λ c r. body.1.after _ r; kept = λ r. body.1.kept r }

    -- the stores that a walk leaves pass the test
    pub walks_leave : (s : Stmt) → Leaves (X s) (L s)
    walks_leave = ind-Stmt (λ s. Leaves (X s) (L s)) (λ x y is.
        subst₂ Leaves (sym (fold-roll-Stmt B (node_behavior step.now (residing step) (λ number arguments. idle (residing step))) x))
        (sym (fold-roll-Stmt Layout (node_layout (λ number. bare)) x)) (subst AtNode is (leaves_node y)))
