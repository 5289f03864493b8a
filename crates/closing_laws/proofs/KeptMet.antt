-- What a step meets with a store is what its place keeps a store for.
use Rattle.std.proofs.Common.{◌≡◌, ℕ, zero, suc, ◌+◌, Bool, true, false, List, [], ◌∷◌, map, Option, Some, None, refl, sym, subst, ◌⊎◌, inl, inr}
use Rattle.std.specs.Prelude.{if◌then◌else◌}
use Rattle.std.specs.List.{AllByRecursion}
use Rattle.std.proofs.lemmas.Bool.{false≢true, and_parts}
use Rattle.qz_syntax.specs.declared.statements.Stmt.{Stmt, map-Stmt}
use Rattle.qz_syntax.specs.declared.statements.Stmt.TheOpen.{Stmt-F}
use Rattle.qz_syntax.specs.declared.statements.Stmt.TheFolds.{fold-roll-Stmt, ind-Stmt}
use Rattle.qz_syntax.specs.declared.places.Residual.{Residual, out-Residual}
use Rattle.qz_syntax.specs.declared.places.Residual.TheOpen.{Residual-F}
use Rattle.qz_meaning.specs.Residuals.{inner, inner_or, member_of, side_of, branches_of, holds_in}
use Rattle.qz_meaning.specs.Layouts.{Layout, bare}
use Rattle.qz_meaning.specs.Simple.{pause_layout}
use Rattle.qz_meaning.specs.Sequences.{member, sequence_layout}
use Rattle.qz_meaning.specs.Parallels.{fits_each, parallel_layout}
use Rattle.qz_meaning.specs.Choices.{choice_layout}
use Rattle.qz_meaning.specs.Loops.{loop_layout}
use Rattle.qz_meaning.specs.Aborts.{body_layout}
use Rattle.qz_meaning.specs.Suspends.{fits_or_holds, suspend_layout}
use Rattle.qz_meaning.specs.Scopes.{scope_layout}
use Rattle.qz_meaning.specs.Walks.{node_layout, layout}
use Rattle.qz_meaning.proofs.Fitting.{body_fits, side_fits, scope_fits, member_fits, branches_fit}
use Rattle.std.specs.Prelude.{drop, zip}
use Rattle.std.specs.List.{flat_map}
use Rattle.qz_meaning.specs.Parallels.{resting}
use Rattle.qz_syntax.specs.declared.places.Store.{Store}
use Rattle.qz_meaning.proofs.Lists.{all_join}
use Rattle.qz_meaning.specs.Residuals.{stores_in}
use Rattle.std.proofs.lemmas.List.{drop-map}
use Rattle.qz_syntax.specs.declared.places.Mark.{Mark}
use Rattle.qz_syntax.specs.declared.places.Mark.TheVariants as mark
use Rattle.qz_meaning.specs.Instances.{local_instance}
use Rattle.qz_meaning.specs.Layouts.{Met}
use Rattle.qz_meaning.specs.Scopes.{met_new, met_kept}
use Rattle.qz_meaning.proofs.Lists.{all_parts}

-- a local's instance that is kept
abbrev pub kept_met : ℕ → Store → Met
kept_met n s = record { instance = local_instance n mark.Zero; store = Some s }

module _ (P : Met → Type 0) (Q : ℕ → Store → Type 0) where
  -- where it has a store, it is kept with one that is so
  abbrev pub IsKeptSo : Met → Type 0
  IsKeptSo one = (one.store ≡ None) ⊎ ((n : ℕ) × ((s : Store) × (one ≡ kept_met n s) × Q n s))

  abbrev Met_all : List Met → Type 0
  Met_all met = AllByRecursion P met

  abbrev Stored : (ℕ → Store → Type 0) → List (ℕ × Store) → Type 0
  Stored R stores = AllByRecursion (λ (one : ℕ × Store). R one.0 one.1) stores

  abbrev Kept_all : List Met → Type 0
  Kept_all met = AllByRecursion IsKeptSo met

  pub record KeepsMet (l : Layout) : Type 0 where
    pub new : (m : Mark) → Kept_all (l.met_on_start m)
    pub met : (r : Residual) → l.fits r ≡ true → Met_all (l.met_on_resume r) → Stored (λ n s. P (kept_met n s)) (l.stores_at r)
    pub back : (r : Residual) → l.fits r ≡ true → Stored Q (l.stores_at r) → Kept_all (l.met_on_resume r)

  abbrev P₂ : ℕ → Store → Type 0
  P₂ n s = P (kept_met n s)

  keeps_bare : KeepsMet bare
  keeps_bare = record { new = λ m. tt; met = λ r h all. absurd (false≢true h); back = λ r h all. absurd (false≢true h) }

  keeps_pause : (place : ℕ) → KeepsMet (pause_layout place)
  keeps_pause place = record { new = λ m. tt; met = λ r h all. tt; back = λ r h all. tt }

  keeps_body : (l : Layout) → KeepsMet l → KeepsMet (body_layout l)
  keeps_body l s = record {
    new = s.new;
    met = λ r h all. s.met (inner r) (body_fits l r (out-Residual r) h) all;
    back = λ r h all. s.back (inner r) (body_fits l r (out-Residual r) h) all;
  }

  keeps_loop : (number : ℕ) (l : Layout) → KeepsMet l → KeepsMet (loop_layout number l)
  keeps_loop number l s = record {
    new = s.new;
    met = λ r h all. s.met (inner r) (body_fits l r (out-Residual r) h) (all_parts P (l.met_on_resume (inner r)) (l.met_on_start (mark.Loop number)) all).0;
    back = λ r h all.
        all_join IsKeptSo (l.met_on_resume (inner r)) (l.met_on_start (mark.Loop number)) (s.back (inner r) (body_fits l r (out-Residual r) h) all) (s.new (mark.Loop number));
  }

  suspend_met : (hold : Option ℕ) (l : Layout) → KeepsMet l → (x : Residual) (node : Residual-F Residual) → fits_or_holds hold l node ≡ true
      → Met_all (if holds_in node then l.met_on_start mark.Zero else l.met_on_resume (inner_or x node))
      → Stored P₂ (if holds_in node then [] else l.stores_at (inner_or x node))
  suspend_met hold l s x (Residual-F.At place) h all = absurd (false≢true h)
  suspend_met hold l s x (Residual-F.Hold place) h all = tt
  suspend_met hold l s x (Residual-F.InSeq number y) h all = absurd (false≢true h)
  suspend_met hold l s x (Residual-F.InPar branches) h all = absurd (false≢true h)
  suspend_met hold l s x (Residual-F.InIf side y) h all = absurd (false≢true h)
  suspend_met hold l s x (Residual-F.InBody y) h all = s.met y h all
  suspend_met hold l s x (Residual-F.InScope stores y) h all = absurd (false≢true h)
  suspend_met hold l s x (Residual-F.InCall number) h all = absurd (false≢true h)

  suspend_back : (hold : Option ℕ) (l : Layout) → KeepsMet l → (x : Residual) (node : Residual-F Residual) → fits_or_holds hold l node ≡ true
      → Stored Q (if holds_in node then [] else l.stores_at (inner_or x node))
      → Kept_all (if holds_in node then l.met_on_start mark.Zero else l.met_on_resume (inner_or x node))
  suspend_back hold l s x (Residual-F.At place) h all = absurd (false≢true h)
  suspend_back hold l s x (Residual-F.Hold place) h all = s.new mark.Zero
  suspend_back hold l s x (Residual-F.InSeq number y) h all = absurd (false≢true h)
  suspend_back hold l s x (Residual-F.InPar branches) h all = absurd (false≢true h)
  suspend_back hold l s x (Residual-F.InIf side y) h all = absurd (false≢true h)
  suspend_back hold l s x (Residual-F.InBody y) h all = s.back y h all
  suspend_back hold l s x (Residual-F.InScope stores y) h all = absurd (false≢true h)
  suspend_back hold l s x (Residual-F.InCall number) h all = absurd (false≢true h)

  keeps_suspend : (hold : Option ℕ) (l : Layout) → KeepsMet l → KeepsMet (suspend_layout hold l)
  keeps_suspend hold l s = record {
    new = s.new;
    met = λ r h all. suspend_met hold l s r (out-Residual r) h all;
    back = λ r h all. suspend_back hold l s r (out-Residual r) h all;
  }

  new_kept : (locals : List ℕ) (m : Mark) → Kept_all (met_new locals m)
  new_kept [] m = tt
  new_kept (n ∷ locals) m = (inl refl, new_kept locals m)

  zip_met : (locals : List ℕ) (stores : List Store) → Met_all (met_kept locals stores) → Stored P₂ (zip locals stores)
  zip_met [] stores all = tt
  zip_met (n ∷ locals) [] all = tt
  zip_met (n ∷ locals) (s ∷ stores) all = (all.0, zip_met locals stores all.1)

  zip_back : (locals : List ℕ) (stores : List Store) → Stored Q (zip locals stores) → Kept_all (met_kept locals stores)
  zip_back [] stores all = tt
  zip_back (n ∷ locals) [] all = tt
  zip_back (n ∷ locals) (s ∷ stores) all = (inr (n, (s, refl, all.0)), zip_back locals stores all.1)

  keeps_scope : (locals : List ℕ) (l : Layout) → KeepsMet l → KeepsMet (scope_layout locals l)
  keeps_scope locals l s = record {
    new = λ m. all_join IsKeptSo (met_new locals m) (l.met_on_start m) (new_kept locals m) (s.new m);
    met = λ r h all.
        let two = all_parts P (met_kept locals (stores_in (out-Residual r))) (l.met_on_resume (inner r)) all in
        all_join (λ (one : ℕ × Store). P₂ one.0 one.1) (l.stores_at (inner r)) (zip locals (stores_in (out-Residual r)))
        (s.met (inner r) (scope_fits locals l r (out-Residual r) h).1 two.1) (zip_met locals (stores_in (out-Residual r)) two.0);
    back = λ r h all.
        let two = all_parts (λ (one : ℕ × Store). Q one.0 one.1) (l.stores_at (inner r)) (zip locals (stores_in (out-Residual r))) all in
        all_join IsKeptSo (met_kept locals (stores_in (out-Residual r))) (l.met_on_resume (inner r))
        (zip_back locals (stores_in (out-Residual r)) two.1) (s.back (inner r) (scope_fits locals l r (out-Residual r) h).1 two.0);
  }

  keeps_choice : (l k : Layout) → KeepsMet l → KeepsMet k → KeepsMet (choice_layout l k)
  keeps_choice l k s t = record {
    new = λ m. all_join IsKeptSo (l.met_on_start m) (k.met_on_start m) (s.new m) (t.new m);
    met = λ r h all. side_met (side_of r) (inner r) (side_fits l k r (out-Residual r) h) all;
    back = λ r h all. side_back (side_of r) (inner r) (side_fits l k r (out-Residual r) h) all;
  } where
    side_met : (side : Bool) (y : Residual) → (if side then l else k).fits y ≡ true → Met_all ((if side then l else k).met_on_resume y) → Stored P₂ ((if side then l else k).stores_at y)
    side_met true y h all = s.met y h all
    side_met false y h all = t.met y h all

    side_back : (side : Bool) (y : Residual) → (if side then l else k).fits y ≡ true → Stored Q ((if side then l else k).stores_at y) → Kept_all ((if side then l else k).met_on_resume y)
    side_back true y h all = s.back y h all
    side_back false y h all = t.back y h all

  abbrev L : Stmt → Layout
  L = layout (λ number. bare)

  abbrev AllKeep : List Stmt → Type 0
  AllKeep parts = AllByRecursion (λ s. KeepsMet (L s)) parts

  start_all : (parts : List Stmt) → AllKeep parts → (m : Mark) → Kept_all (flat_map (λ (part : Layout). part.met_on_start m) (map L parts))
  start_all [] all m = tt
  start_all (s ∷ parts) all m = all_join IsKeptSo ((L s).met_on_start m) _ (all.0.new m) (start_all parts all.1 m)

  keep_drop : (parts : List Stmt) (n : ℕ) → AllKeep parts → AllKeep (drop n parts)
  keep_drop parts zero h = h
  keep_drop [] (suc n) h = tt
  keep_drop (s ∷ parts) (suc n) h = keep_drop parts n h.1

  member_keeps : (parts : List Stmt) → AllKeep parts → (k : ℕ) → KeepsMet (member bare (map L parts) k)
  member_keeps [] all k = keeps_bare
  member_keeps (s ∷ parts) all zero = all.0
  member_keeps (s ∷ parts) all (suc k) = member_keeps parts all.1 k

  keeps_sequence : (parts : List Stmt) → AllKeep parts → KeepsMet (sequence_layout (map L parts))
  keeps_sequence parts all = record {
    new = start_all parts all;
    met = λ r h k.
        (member_keeps parts all (member_of r)).met (inner r) (member_fits (map L parts) r (out-Residual r) h).0
        (all_parts P ((member bare (map L parts) (member_of r)).met_on_resume (inner r)) _ k).0;
    back = λ r h k.
        all_join IsKeptSo ((member bare (map L parts) (member_of r)).met_on_resume (inner r)) _
        ((member_keeps parts all (member_of r)).back (inner r) (member_fits (map L parts) r (out-Residual r) h).0 k)
        (subst (λ (ls : List Layout). Kept_all (flat_map (λ (part : Layout). part.met_on_start mark.Zero) ls)) (sym (drop-map L (member_of r + 1) parts))
        (start_all (drop (member_of r + 1) parts) (keep_drop parts (member_of r + 1) all) mark.Zero));
  }

  abbrev met_each : List Layout → List (Option Residual) → List Met
  met_each ls branches = flat_map (λ (one : Layout × Residual). one.0.met_on_resume one.1) (resting ls branches)

  abbrev stores_each : List Layout → List (Option Residual) → List (ℕ × Store)
  stores_each ls branches = flat_map (λ (one : Layout × Residual). one.0.stores_at one.1) (resting ls branches)

  each_met : (parts : List Stmt) → AllKeep parts → (branches : List (Option Residual)) → fits_each (map L parts) branches ≡ true
      → Met_all (met_each (map L parts) branches) → Stored P₂ (stores_each (map L parts) branches)
  each_met [] all branches h k = tt
  each_met (s ∷ parts) all [] h k = tt
  each_met (s ∷ parts) all (None ∷ branches) h k = each_met parts all.1 branches h k
  each_met (s ∷ parts) all (Some x ∷ branches) h k =
      let fit = and_parts _ _ h in
      let two = all_parts P ((L s).met_on_resume x) (met_each (map L parts) branches) k in
      all_join (λ (one : ℕ × Store). P₂ one.0 one.1) ((L s).stores_at x) (stores_each (map L parts) branches) (all.0.met x fit.0 two.0) (each_met parts all.1 branches fit.1 two.1)

  each_back : (parts : List Stmt) → AllKeep parts → (branches : List (Option Residual)) → fits_each (map L parts) branches ≡ true
      → Stored Q (stores_each (map L parts) branches) → Kept_all (met_each (map L parts) branches)
  each_back [] all branches h k = tt
  each_back (s ∷ parts) all [] h k = tt
  each_back (s ∷ parts) all (None ∷ branches) h k = each_back parts all.1 branches h k
  each_back (s ∷ parts) all (Some x ∷ branches) h k =
      let fit = and_parts _ _ h in
      let two = all_parts (λ (one : ℕ × Store). Q one.0 one.1) ((L s).stores_at x) (stores_each (map L parts) branches) k in
      all_join IsKeptSo ((L s).met_on_resume x) (met_each (map L parts) branches) (all.0.back x fit.0 two.0) (each_back parts all.1 branches fit.1 two.1)

  keeps_parallel : (parts : List Stmt) → AllKeep parts → KeepsMet (parallel_layout (map L parts))
  keeps_parallel parts all = record {
    new = start_all parts all;
    met = λ r h k. each_met parts all (branches_of r) (branches_fit (map L parts) (out-Residual r) h) k;
    back = λ r h k. each_back parts all (branches_of r) (branches_fit (map L parts) (out-Residual r) h) k;
  }

  abbrev Claimed : Type 0
  Claimed = (s : Stmt) × KeepsMet (L s)

  abbrev names : List Claimed → List Stmt
  names parts = map (λ (e : Claimed). e.0) parts

  all_keep : (parts : List Claimed) → AllKeep (names parts)
  all_keep [] = tt
  all_keep (e ∷ parts) = (e.1, all_keep parts)

  abbrev AtNode : Stmt-F Stmt → Type 0
  AtNode x = KeepsMet (node_layout (λ number. bare) (map-Stmt Stmt Layout L x))

  at_node : (node : Stmt-F Claimed) → AtNode (map-Stmt Claimed Stmt (λ e. e.0) node)
  at_node Stmt-F.Nothing = keeps_bare
  at_node (Stmt-F.Assign target value) = keeps_bare
  at_node (Stmt-F.Delayed target value) = keeps_bare
  at_node (Stmt-F.Pause place) = keeps_pause place
  at_node (Stmt-F.Seq parts) = keeps_sequence (names parts) (all_keep parts)
  at_node (Stmt-F.Par parts) = keeps_parallel (names parts) (all_keep parts)
  at_node (Stmt-F.If condition first second) = keeps_choice _ _ first.1 second.1
  at_node (Stmt-F.Loop number body condition) = keeps_loop number _ body.1
  at_node (Stmt-F.Abort kind body condition) = keeps_body _ body.1
  at_node (Stmt-F.Suspend kind hold body condition) = keeps_suspend hold _ body.1
  at_node (Stmt-F.Scope locals body) = keeps_scope locals _ body.1
  at_node (Stmt-F.Call number proto arguments) = keeps_bare
  at_node (Stmt-F.Bind bindings body) = body.1

  pub statements_keep : (s : Stmt) → KeepsMet (L s)
  statements_keep = ind-Stmt (λ s. KeepsMet (L s)) (λ x y is.
      subst KeepsMet (sym (fold-roll-Stmt Layout (node_layout (λ number. bare)) x)) (subst AtNode is (at_node y)))
