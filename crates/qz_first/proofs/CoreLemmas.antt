-- The core of each form of statement, and of statements one after the other.
use Rattle.std.proofs.Common.{◌≡◌, ℕ, ◌+◌, ◌^◌, ◌<◌, ◌≤◌, Bool, true, List, [], ◌∷◌, ◌++◌, length, map, IsTrue, append_assoc, append-nil, Result, Ok, Err, IfOk, IfErr, Option, None, replicate, sym, refl, ap, ap₂, subst, ◌∙◌, arith}
use Rattle.std.specs.List.{list_all, sum_by}
use Rattle.std.specs.Str.{chars}
use Rattle.std.proofs.lemmas.List.Sums.{sum_by-cons}
use Rattle.std.proofs.lemmas.List.Folds.{fold-map}
use Rattle.std.proofs.lemmas.Result.{IfOk-weaker, IfErr-weaker}
use Rattle.qz_values.specs.Values.{yes}
use Rattle.qz_syntax.specs.declared.expressions.Expr.TheVariants.{Lit}
use Rattle.qz_syntax.specs.declared.statements.Stmt.TheVariants as stmt
use Rattle.qz_syntax.specs.declared.modules.Module.{Module}
use Rattle.qz_syntax.specs.Sizes.{node_sum, units_inside, expression_nodes, node_expression, size_of}
use Rattle.qz_syntax.proofs.Equations as equations
use Rattle.qz_first.specs.declared.source.SourceModule.{SourceModule}
use Rattle.qz_first.specs.declared.reader.NoSource.{NoSource}
use Rattle.qz_first.specs.Reading.{OnNotBuilt}
use Rattle.qz_first.proofs.ReadingLemmas.{on_not_built}
use Rattle.std.proofs.lemmas.Bool.Decides.{nat_tests}
use Rattle.qz_syntax.specs.declared.declarations.Formal.{Formal}
use Rattle.std.proofs.lemmas.List.{length-map}
use Rattle.qz_syntax.specs.declared.statements.Stmt.{Stmt}
use Rattle.qz_first.specs.declared.typing.Counts.{Counts}
use Rattle.qz_first.specs.declared.source.SourceStmt.{SourceStmt, map-SourceStmt, roll-SourceStmt}
use Rattle.qz_first.specs.declared.source.SourceStmt.TheVariants as source
use Rattle.qz_first.specs.declared.source.SourceStmt.TheOpen.{SourceStmt-F}
use Rattle.qz_first.specs.declared.source.SourceStmt.TheFolds.{ind-SourceStmt}
use Rattle.qz_first.specs.CoreTree.{Core, emits_among, core, node_core, cores, sequence, core_module, IsAsked}
use Rattle.qz_syntax.specs.DoubleNames.{formal_names, are_distinct}
use Rattle.qz_first.specs.Typing.{IsCore, AreCores, NoCore, NoCores}
use Rattle.qz_first.proofs.GrammarLemmas.{fold-Nothing, fold-Pause, fold-Emit, fold-Loop, fold-Block}

-- how many units some statements have at least
units-Pause : (place inside : ℕ) → 1 ≤ units_inside (stmt.Pause place) inside
units-Pause place inside =
    let e = ap (λ (f : ℕ → ℕ). f inside) (equations.fold-Pause (ℕ → ℕ) (node_sum (λ n. n + 2)) place) in
    omega (arith, e)

units-Loop : (number : ℕ) (body : Stmt) (inside : ℕ) → units_inside body (inside + 1) + 1 ≤ units_inside (stmt.Loop number body (Lit yes)) inside
units-Loop number body inside =
    let e = ap (λ (f : ℕ → ℕ). f inside) (equations.fold-Loop (ℕ → ℕ) (node_sum (λ n. n + 2)) number body (Lit yes)) in
    let condition : expression_nodes (Lit yes) ≡ 1 = equations.fold-Lit ℕ node_expression yes in
    let f = rw condition at e in
    omega (arith, f)

units-Seq : (parts : List Stmt) (inside : ℕ) → sum_by (λ (s : Stmt). units_inside s inside) parts ≤ units_inside (stmt.Seq parts) inside
units-Seq parts inside =
    let e = ap (λ (f : ℕ → ℕ). f inside) (equations.fold-Seq (ℕ → ℕ) (node_sum (λ n. n + 2)) parts) in
    let sum = fold-map (λ a (x : ℕ → ℕ). a + x inside) units_inside 0 parts in
    omega (arith, e, sum)

units-sequence : (stmts : List Stmt) (inside : ℕ) → sum_by (λ (s : Stmt). units_inside s inside) stmts ≤ units_inside (sequence stmts) inside
units-sequence [] inside = omega arith
units-sequence (s ∷ []) inside = omega arith
units-sequence (s ∷ t ∷ more) inside = units-Seq (s ∷ t ∷ more) inside

module _ (names : List (List ℕ)) where
  abbrev all_emit : List SourceStmt → Bool
  all_emit parts = list_all (λ emits. emits) (map (emits_among names) parts)

  -- the counts only rise
  abbrev Rises : SourceStmt → Type 0
  Rises s = (places loops : ℕ) → (places ≤ (core names s places loops).places) × (loops ≤ (core names s places loops).loops)

  abbrev Rising : Type 0
  Rising = (s : SourceStmt) × Rises s

  all_rise : (parts : List Rising) (places loops : ℕ)
      → (places ≤ (cores names (map (λ (r : Rising). r.0) parts) places loops).places) × (loops ≤ (cores names (map (λ (r : Rising). r.0) parts) places loops).loops)
  all_rise [] places loops = (omega arith, omega arith)
  all_rise (part ∷ parts) places loops =
      let first = part.1 places loops in
      let later = all_rise parts (core names part.0 places loops).places (core names part.0 places loops).loops in
      (omega (arith, first.0, later.0), omega (arith, first.1, later.1))

  abbrev Counted : Type 0
  Counted = ℕ → ℕ → Core

  rises_layer : (node : SourceStmt-F Rising) → Rises (roll-SourceStmt (map-SourceStmt Rising SourceStmt (λ r. r.0) node))
  rises_layer SourceStmt-F.Nothing = subst Rises (sym source.rolls-Nothing) (λ places loops. rw (fold-Nothing Counted (node_core names)) (omega arith, omega arith))
  rises_layer SourceStmt-F.Pause = subst Rises (sym source.rolls-Pause) (λ places loops. rw (fold-Pause Counted (node_core names)) (omega arith, omega arith))
  rises_layer (SourceStmt-F.Emit name) = subst Rises (sym (source.rolls-Emit name)) (λ places loops. rw (fold-Emit Counted (node_core names) name) (omega arith, omega arith))
  rises_layer (SourceStmt-F.Loop body) = subst Rises (sym (source.rolls-Loop body.0)) (λ places loops.
      let inner = body.1 places (loops + 1) in
      rw (fold-Loop Counted (node_core names) body.0) (inner.0, omega (arith, inner.1)))
  rises_layer (SourceStmt-F.Block parts) =
      let bare = map (λ (r : Rising). r.0) parts in
      subst Rises (sym (source.rolls-Block bare)) (λ places loops. rw (fold-Block Counted (node_core names) bare) (all_rise parts places loops))

  pub rises : (s : SourceStmt) → Rises s
  rises = ind-SourceStmt Rises (λ node claims is. subst (λ x. Rises (roll-SourceStmt x)) is (rises_layer claims))

  pub rise : (parts : List SourceStmt) (places loops : ℕ)
      → (places ≤ (cores names parts places loops).places) × (loops ≤ (cores names parts places loops).loops)
  rise [] places loops = (omega arith, omega arith)
  rise (part ∷ parts) places loops =
      let first = rises part places loops in
      let later = rise parts (core names part places loops).places (core names part places loops).loops in
      (omega (arith, first.0, later.0), omega (arith, first.1, later.1))

  -- what the rest gives from the state so far is what all gives
  pub record CoresSoFar (parts : List SourceStmt) (old : Counts) (made : List Stmt) (new : Counts) (rest : List SourceStmt) : Type 0 where
    pub stmts : made ++ (cores names rest new.places new.loops).stmts ≡ (cores names parts old.places old.loops).stmts
    pub places : (cores names rest new.places new.loops).places ≡ (cores names parts old.places old.loops).places
    pub loops : (cores names rest new.places new.loops).loops ≡ (cores names parts old.places old.loops).loops
    pub emits : all_emit rest ≡ all_emit parts

  pub no_cores_yet : (parts : List SourceStmt) (old : Counts) → CoresSoFar parts old [] old parts
  no_cores_yet parts old = record { stmts = refl; places = refl; loops = refl; emits = refl }

  pub one_core_more : (parts : List SourceStmt) (old : Counts) (stmts : List Stmt) (new after : Counts) (part : SourceStmt) (rest : List SourceStmt) (s : Stmt)
      → CoresSoFar parts old stmts new (part ∷ rest) → IsCore names part new s after → CoresSoFar parts old (stmts ++ s ∷ []) after rest
  one_core_more parts old stmts new after part rest s so_far is = record {
    stmts = rw (is.stmt, is.places, is.loops) (append_assoc stmts ((core names part new.places new.loops).stmt ∷ [])
        (cores names rest (core names part new.places new.loops).places (core names part new.places new.loops).loops).stmts ∙ so_far.stmts);
    places = rw (is.places, is.loops) so_far.places;
    loops = rw (is.places, is.loops) so_far.loops;
    emits = let yes : emits_among names part ≡ true = is.emits in (sym (rw yes refl)) ∙ so_far.emits;
  }

  pub all_cores : (parts : List SourceStmt) (old : Counts) (stmts : List Stmt) (new : Counts) → CoresSoFar parts old stmts new [] → AreCores names parts old stmts new
  all_cores parts old stmts new so_far = record {
    stmts = sym (append-nil stmts) ∙ so_far.stmts;
    places = so_far.places;
    loops = so_far.loops;
    emits = sym so_far.emits;
  }

  pub no_core_among : (parts : List SourceStmt) (old : Counts) (stmts : List Stmt) (new : Counts) (part : SourceStmt) (rest : List SourceStmt)
      → CoresSoFar parts old stmts new (part ∷ rest) → NoCore names part new → NoCores names parts old
  no_core_among parts old stmts new part rest so_far no_core = record {
    none = λ (few : length names ≤ 256) (emits : IsTrue (all_emit parts)) (places : (cores names parts old.places old.loops).places < 2 ^ 32)
        (loops : (cores names parts old.places old.loops).loops < 2 ^ 32).
        let more = rise rest (core names part new.places new.loops).places (core names part new.places new.loops).loops in
        let yes : all_emit (part ∷ rest) ≡ true = so_far.emits ∙ emits in
        no_core.none few (grind (arith, nat_tests, yes)) (omega (arith, more.0, so_far.places, places)) (omega (arith, more.1, so_far.loops, loops));
  }

  -- no loop more can be counted
  pub no_turn : (body : SourceStmt) (old : Counts) → 2 ^ 32 ≤ old.loops + 1 → NoCore names (source.Loop body) old
  no_turn body old full = record {
    none = λ (few : length names ≤ 256) (emits : IsTrue (emits_among names (source.Loop body)))
        (places : (core names (source.Loop body) old.places old.loops).places < 2 ^ 32) (loops : (core names (source.Loop body) old.places old.loops).loops < 2 ^ 32).
        let low = rw (fold-Loop Counted (node_core names) body) at loops in
        let more = rises body old.places (old.loops + 1) in
        omega (arith, low, more.1, full);
  }

  -- a statement has a node for each place and each loop
  abbrev IsSized : SourceStmt → Type 0
  IsSized s = (places loops inside : ℕ)
      → (core names s places loops).places + (core names s places loops).loops ≤ places + loops + units_inside (core names s places loops).stmt inside

  abbrev Sized : Type 0
  Sized = (s : SourceStmt) × IsSized s

  all_sized : (parts : List Sized) (places loops inside : ℕ)
      → (cores names (map (λ (z : Sized). z.0) parts) places loops).places + (cores names (map (λ (z : Sized). z.0) parts) places loops).loops
      ≤ places + loops + sum_by (λ (s : Stmt). units_inside s inside) (cores names (map (λ (z : Sized). z.0) parts) places loops).stmts
  all_sized [] places loops inside = omega arith
  all_sized (part ∷ parts) places loops inside =
      let first = core names part.0 places loops in
      let here = part.1 places loops inside in
      let later = all_sized parts first.places first.loops inside in
      let sum = sum_by-cons (λ (s : Stmt). units_inside s inside) first.stmt (cores names (map (λ (z : Sized). z.0) parts) first.places first.loops).stmts in
      omega (arith, here, later, sum)

  sized_layer : (node : SourceStmt-F Sized) → IsSized (roll-SourceStmt (map-SourceStmt Sized SourceStmt (λ z. z.0) node))
  sized_layer SourceStmt-F.Nothing = subst IsSized (sym source.rolls-Nothing) (λ places loops inside. rw (fold-Nothing Counted (node_core names)) (omega arith))
  sized_layer SourceStmt-F.Pause = subst IsSized (sym source.rolls-Pause) (λ places loops inside.
      rw (fold-Pause Counted (node_core names)) (omega (arith, units-Pause places inside)))
  sized_layer (SourceStmt-F.Emit name) = subst IsSized (sym (source.rolls-Emit name)) (λ places loops inside. rw (fold-Emit Counted (node_core names) name) (omega arith))
  sized_layer (SourceStmt-F.Loop body) = subst IsSized (sym (source.rolls-Loop body.0)) (λ places loops inside.
      let inner = body.1 places (loops + 1) (inside + 1) in
      rw (fold-Loop Counted (node_core names) body.0) (omega (arith, inner, units-Loop loops (core names body.0 places (loops + 1)).stmt inside)))
  sized_layer (SourceStmt-F.Block parts) =
      let bare = map (λ (z : Sized). z.0) parts in
      subst IsSized (sym (source.rolls-Block bare)) (λ places loops inside.
      rw (fold-Block Counted (node_core names) bare) (omega (arith, all_sized parts places loops inside, units-sequence (cores names bare places loops).stmts inside)))

  sized : (s : SourceStmt) → IsSized s
  sized = ind-SourceStmt IsSized (λ node claims is. subst (λ x. IsSized (roll-SourceStmt x)) is (sized_layer claims))

  pub sized_all : (parts : List SourceStmt) (places loops inside : ℕ)
      → (cores names parts places loops).places + (cores names parts places loops).loops
      ≤ places + loops + sum_by (λ (s : Stmt). units_inside s inside) (cores names parts places loops).stmts
  sized_all [] places loops inside = omega arith
  sized_all (part ∷ parts) places loops inside =
      let first = core names part places loops in
      let here = sized part places loops inside in
      let later = sized_all parts first.places first.loops inside in
      let sum = sum_by-cons (λ (s : Stmt). units_inside s inside) first.stmt (cores names parts first.places first.loops).stmts in
      omega (arith, here, later, sum)

-- a module that isn't too large has few places and loops
few_counts : (source : SourceModule) → size_of (core_module source) ≤ 100000
    → ((cores (formal_names source.formals) source.body 0 0).places < 2 ^ 32) × ((cores (formal_names source.formals) source.body 0 0).loops < 2 ^ 32)
few_counts source small =
    let all = cores (formal_names source.formals) source.body 0 0 in
    let counted = sized_all (formal_names source.formals) source.body 0 0 0 in
    let whole = units-sequence all.stmts 0 in
    let units : units_inside (sequence all.stmts) 0 ≤ 100000 = omega (arith, small) in
    (omega (arith, counted, whole, units), omega (arith, counted, whole, units))

pub not_asked : (name : List ℕ) (source : SourceModule) (old : Counts) → old.places ≡ 0 → old.loops ≡ 0 → (IsTrue (are_distinct (formal_names source.formals)) → NoCores (formal_names source.formals) source.body old) → IsAsked name source → ⊥
not_asked name source old no_places no_loops none asked =
    let few = few_counts source asked.small in
    let count = length-map source.formals (λ (formal : Formal). formal.name) in
    (none asked.differ).none (omega (arith, count, asked.few)) asked.emits (rw (no_places, no_loops) few.0) (rw (no_places, no_loops) few.1)

pub is_core_module : (source : SourceModule) (stmts : List Stmt) (old new : Counts) (labels : List (Option (List ℕ))) → old.places ≡ 0 → old.loops ≡ 0
    → AreCores (formal_names source.formals) source.body old stmts new → labels ≡ replicate new.places None
    → let typed : Module = record { name = source.name; formals = source.formals; decls = []; labels = labels; loops = new.loops; calls = 0; body = sequence stmts } in typed ≡ core_module source
is_core_module source stmts old new labels no_places no_loops are unlabeled =
    let places : new.places ≡ (cores (formal_names source.formals) source.body 0 0).places = are.places ∙ ap₂ (λ p l. (cores (formal_names source.formals) source.body p l).places) no_places no_loops in
    let loops : new.loops ≡ (cores (formal_names source.formals) source.body 0 0).loops = are.loops ∙ ap₂ (λ p l. (cores (formal_names source.formals) source.body p l).loops) no_places no_loops in
    let body : stmts ≡ (cores (formal_names source.formals) source.body 0 0).stmts = are.stmts ∙ ap₂ (λ p l. (cores (formal_names source.formals) source.body p l).stmts) no_places no_loops in
    rw (unlabeled, places, loops, body) refl

module _ (name : List ℕ) (source : SourceModule) (typed : Module) (is : typed ≡ core_module source) (r : Result Module NoSource) where
  pub small_is_core : IfOk r (λ m. m ≡ typed) → IfOk r (λ m. m ≡ core_module source)
  small_is_core same = IfOk-weaker r (λ m. m ≡ typed) (λ m. m ≡ core_module source) (λ m e. e ∙ is) same

  pub small_is_asked : source.name ≡ chars name → length source.formals ≤ 256 → IsTrue (are_distinct (formal_names source.formals))
      → IsTrue (list_all (λ emits. emits) (map (emits_among (formal_names source.formals)) source.body))
      → IfOk r (λ m. size_of m ≤ 100000) → IfOk r (λ m. m ≡ typed) → IfOk r (λ m. IsAsked name source)
  small_is_asked named few apart emits small same =
      let P : Module → Type 0 = λ m. size_of m ≤ 100000 in
      elim r as (λ x. IfOk x (λ m. size_of m ≤ 100000) → IfOk x (λ m. m ≡ typed) → IfOk x (λ m. IsAsked name source)) [
        | Ok m ↦ λ small same. record { named = named; few = few; differ = apart; emits = emits; small = subst P (same ∙ is) small }
        | Err fault ↦ λ small same. tt
      ] small same

  pub large_is_not_asked : IfErr r (λ fault. OnNotBuilt fault (100000 < size_of typed)) → IfErr r (λ fault. OnNotBuilt fault (IsAsked name source → ⊥))
  large_is_not_asked large =
      let P : Module → Type 0 = λ m. 100000 < size_of m in
      IfErr-weaker r (λ fault. OnNotBuilt fault (100000 < size_of typed)) (λ fault. OnNotBuilt fault (IsAsked name source → ⊥))
      (λ fault. on_not_built fault (λ high asked. let above = subst P is high in omega (arith, above, asked.small))) large
