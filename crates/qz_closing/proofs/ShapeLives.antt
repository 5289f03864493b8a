-- In the shape of a statement a local's scope lives exactly where the residual has a store for it.
use Rattle.std.proofs.Common.{◌≡◌, ℕ, zero, suc, ◌+◌, Bool, true, false, not, ◌&&◌, ◌||◌, List, [], ◌∷◌, ◌++◌, map, length, Option, Some, None, refl, sym, ap, ap₂, subst, ◌∙◌, arith}
use Rattle.std.specs.Prelude.{◌==◌, if◌then◌else◌, is_some, zip}
use Rattle.std.specs.List.{flat_map, list_any, AllByRecursion}
use Rattle.std.proofs.lemmas.Bool.{false≢true, and_parts}
use Rattle.std.proofs.lemmas.Bool.Decides.{nat_tests}
use Rattle.qz_syntax.specs.declared.statements.Stmt.{Stmt, map-Stmt, roll-Stmt}
use Rattle.qz_syntax.specs.declared.statements.Stmt.TheOpen.{Stmt-F}
use Rattle.qz_syntax.specs.declared.statements.Stmt.TheFolds.{fold-Stmt, fold-roll-Stmt, ind-Stmt}
use Rattle.qz_syntax.specs.declared.places.Store.{Store}
use Rattle.qz_syntax.specs.declared.places.Residual.{Residual, out-Residual}
use Rattle.qz_syntax.specs.declared.places.Residual.TheOpen.{Residual-F}
use Rattle.qz_meaning.specs.Residuals.{inner, inner_or, member_of, side_of, branches_in, branches_of, stores_in, holds_in}
use Rattle.qz_meaning.specs.Layouts.{PlaceBits, Layout, bare}
use Rattle.qz_meaning.specs.Simple.{pause_layout}
use Rattle.qz_meaning.specs.Sequences.{member, all_away, at_one, sequence_layout}
use Rattle.qz_meaning.specs.Parallels.{resting, fits_each, fits_in_some, at_each, parallel_layout}
use Rattle.qz_meaning.specs.Choices.{at_side, choice_layout}
use Rattle.qz_meaning.specs.Loops.{loop_layout}
use Rattle.qz_meaning.specs.Aborts.{body_layout}
use Rattle.qz_meaning.specs.Suspends.{fits_or_holds, suspend_layout}
use Rattle.qz_meaning.specs.Scopes.{scope_layout}
use Rattle.qz_meaning.specs.Walks.{node_layout, layout}
use Rattle.qz_meaning.proofs.Fitting.{body_fits, side_fits, scope_fits, member_fits, branches_fit}
use Rattle.qz_syntax.specs.Numbers.{contains}
use Rattle.qz_system.specs.declared.resting.Living.{Living}
use Rattle.qz_system.specs.Restings.{living, beside, living_over, node_living}
use Rattle.qz_meaning.specs.Valuations.{store_among}
use Rattle.qz_closing.proofs.ShapeFolds.{through, through_suspend}

or_right : (a b : Bool) → b ≡ true → (a || b) ≡ true
or_right true b h = refl
or_right false b h = h

or_none : (a b : Bool) → b ≡ false → (a || b) ≡ a
or_none true b h = refl
or_none false b h = h

or_again : (a b c : Bool) → ((a || b) || c) ≡ (a || (b || c))
or_again true b c = refl
or_again false b c = refl

not_false : (a : Bool) → not a ≡ true → a ≡ false
not_false true h = absurd (false≢true h)
not_false false h = refl

-- whether there is a store for a local
abbrev pub has : List (ℕ × Store) → ℕ → Bool
has stores n = is_some (store_among stores n)

if_some : (t : Bool) (x : Store) (o : Option Store) → is_some (if t then Some x else o) ≡ (t || is_some o)
if_some true x o = refl
if_some false x o = refl

pub has_in_both : (xs ys : List (ℕ × Store)) (n : ℕ) → has (xs ++ ys) n ≡ (has xs n || has ys n)
has_in_both [] ys n = refl
has_in_both (one ∷ xs) ys n =
    if_some (one.0 == n) one.1 (store_among (xs ++ ys) n)
    ∙ ap (λ t. (one.0 == n) || t) (has_in_both xs ys n)
    ∙ sym (or_again (one.0 == n) (has xs n) (has ys n))
    ∙ ap (λ t. t || has ys n) (sym (if_some (one.0 == n) one.1 (store_among xs n)))

pub has_zip : (locals : List ℕ) (stores : List Store) (n : ℕ) → length stores ≡ length locals → has (zip locals stores) n ≡ contains locals n
has_zip [] stores n long = refl
has_zip (k ∷ locals) [] n long = absurd (omega (arith, long))
has_zip (k ∷ locals) (s ∷ stores) n long =
    if_some (k == n) s (store_among (zip locals stores) n) ∙ ap (λ t. (k == n) || t) (has_zip locals stores n (omega (arith, long)))

same_test : (o k n : ℕ) → (o + k == o + n) ≡ (k == n)
same_test o k n = grind (arith, nat_tests)

pub among_moved : (o : ℕ) (locals : List ℕ) (n : ℕ) → contains (map (λ k. o + k) locals) (o + n) ≡ contains locals n
among_moved o [] n = refl
among_moved o (k ∷ locals) n = ap₂ (λ s t. s || t) (same_test o k n) (among_moved o locals n)

module _ (b : PlaceBits) (outputs n : ℕ) where
  abbrev L : Stmt → Layout
  L = layout (λ number. bare)

  abbrev G : Stmt → Living
  G = fold-Stmt Living (through outputs (node_living b.place (outputs + n)))

  pub record Lives (v : Living) (l : Layout) : Type 0 where
    pub away_rests : l.away b ≡ true → v.rests ≡ false
    pub away_lives : l.away b ≡ true → v.lives ≡ false
    pub rests : (x : Residual) → l.fits x ≡ true → l.at b x ≡ true → v.rests ≡ true
    pub lives : (x : Residual) → l.fits x ≡ true → l.at b x ≡ true → v.lives ≡ has (l.stores_at x) n

  lives_leaf : Lives (living false false) bare
  lives_leaf = record { away_rests = λ h. refl; away_lives = λ h. refl; rests = λ x h k. absurd (false≢true h); lives = λ x h k. absurd (false≢true h) }

  lives_pause : (place : ℕ) → Lives (living (b.place place) false) (pause_layout place)
  lives_pause place = record { away_rests = λ h. not_false (b.place place) h; away_lives = λ h. refl; rests = λ x h k. k; lives = λ x h k. refl }

  lives_body : (v : Living) (l : Layout) → Lives v l → Lives v (body_layout l)
  lives_body v l s = record {
    away_rests = s.away_rests;
    away_lives = s.away_lives;
    rests = λ x h k. s.rests (inner x) (body_fits l x (out-Residual x) h) k;
    lives = λ x h k. s.lives (inner x) (body_fits l x (out-Residual x) h) k;
  }

  lives_loop : (number : ℕ) (v : Living) (l : Layout) → Lives v l → Lives v (loop_layout number l)
  lives_loop number v l s = let it = lives_body v l s in record { away_rests = it.away_rests; away_lives = it.away_lives; rests = it.rests; lives = it.lives }

  lives_scope : (locals : List ℕ) (v : Living) (l : Layout) → Lives v l
      → Lives (living v.rests (v.lives || (contains (map (λ k. outputs + k) locals) (outputs + n) && v.rests))) (scope_layout locals l)
  lives_scope locals v l s = record {
    away_rests = s.away_rests;
    away_lives = λ h.
        ap₂ (λ i j. i || (contains (map (λ k. outputs + k) locals) (outputs + n) && j)) (s.away_lives h) (s.away_rests h)
        ∙ and_no (contains (map (λ k. outputs + k) locals) (outputs + n));
    rests = λ x h k. s.rests (inner x) (scope_fits locals l x (out-Residual x) h).1 k;
    lives = λ x h k.
        let fit = scope_fits locals l x (out-Residual x) h in
        ap₂ (λ i j. i || j) (s.lives (inner x) fit.1 k)
        (ap₂ (λ i j. i && j) (among_moved outputs locals n) (s.rests (inner x) fit.1 k) ∙ and_yes (contains locals n)
        ∙ sym (has_zip locals (stores_in (out-Residual x)) n fit.0))
        ∙ sym (has_in_both (l.stores_at (inner x)) (zip locals (stores_in (out-Residual x))) n);
  } where
    and_no : (a : Bool) → (a && false) ≡ false
    and_no true = refl
    and_no false = refl

    and_yes : (a : Bool) → (a && true) ≡ a
    and_yes true = refl
    and_yes false = refl

  lives_choice : (v w : Living) (l l₂ : Layout) → Lives v l → Lives w l₂ → Lives (beside v w) (choice_layout l l₂)
  lives_choice v w l l₂ s t = record {
    away_rests = λ h. let two = and_parts _ _ h in ap₂ (λ i j. i || j) (s.away_rests two.0) (t.away_rests two.1);
    away_lives = λ h. let two = and_parts _ _ h in ap₂ (λ i j. i || j) (s.away_lives two.0) (t.away_lives two.1);
    rests = λ x h k. side_rests (side_of x) (inner x) (side_fits l l₂ x (out-Residual x) h) k;
    lives = λ x h k. side_lives (side_of x) (inner x) (side_fits l l₂ x (out-Residual x) h) k;
  } where
    side_rests : (side : Bool) (y : Residual) → (if side then l else l₂).fits y ≡ true → at_side b l l₂ side y ≡ true → (v.rests || w.rests) ≡ true
    side_rests true y h k = ap (λ i. i || w.rests) (s.rests y h (and_parts _ _ k).0)
    side_rests false y h k = or_right _ _ (t.rests y h (and_parts _ _ k).1)

    side_lives : (side : Bool) (y : Residual) → (if side then l else l₂).fits y ≡ true → at_side b l l₂ side y ≡ true → (v.lives || w.lives) ≡ has ((if side then l else l₂).stores_at y) n
    side_lives true y h k = let two = and_parts _ _ k in or_none _ _ (t.away_lives two.1) ∙ s.lives y h two.0
    side_lives false y h k = let two = and_parts _ _ k in ap (λ i. i || w.lives) (s.away_lives two.0) ∙ t.lives y h two.1

  -- an immediate suspend
  module _ (hold : ℕ) (v : Living) (l : Layout) (s : Lives v l) where
    held_rests : (x : Residual) (node : Residual-F Residual) → fits_or_holds (Some hold) l node ≡ true
        → (if holds_in node then b.place hold && l.away b else not (b.place hold) && l.at b (inner_or x node)) ≡ true → (b.place hold || v.rests) ≡ true
    held_rests x (Residual-F.At place) h k = absurd (false≢true h)
    held_rests x (Residual-F.Hold place) h k = ap (λ i. i || v.rests) (and_parts _ _ k).0
    held_rests x (Residual-F.InSeq number y) h k = absurd (false≢true h)
    held_rests x (Residual-F.InPar branches) h k = absurd (false≢true h)
    held_rests x (Residual-F.InIf side y) h k = absurd (false≢true h)
    held_rests x (Residual-F.InBody y) h k = or_right _ _ (s.rests y h (and_parts _ _ k).1)
    held_rests x (Residual-F.InScope stores y) h k = absurd (false≢true h)
    held_rests x (Residual-F.InCall number) h k = absurd (false≢true h)

    held_lives : (x : Residual) (node : Residual-F Residual) → fits_or_holds (Some hold) l node ≡ true
        → (if holds_in node then b.place hold && l.away b else not (b.place hold) && l.at b (inner_or x node)) ≡ true
        → v.lives ≡ has (if holds_in node then [] else l.stores_at (inner_or x node)) n
    held_lives x (Residual-F.At place) h k = absurd (false≢true h)
    held_lives x (Residual-F.Hold place) h k = s.away_lives (and_parts _ _ k).1
    held_lives x (Residual-F.InSeq number y) h k = absurd (false≢true h)
    held_lives x (Residual-F.InPar branches) h k = absurd (false≢true h)
    held_lives x (Residual-F.InIf side y) h k = absurd (false≢true h)
    held_lives x (Residual-F.InBody y) h k = s.lives y h (and_parts _ _ k).1
    held_lives x (Residual-F.InScope stores y) h k = absurd (false≢true h)
    held_lives x (Residual-F.InCall number) h k = absurd (false≢true h)

    lives_hold : Lives (beside (living (b.place hold) false) v) (suspend_layout (Some hold) l)
    lives_hold = record {
      away_rests = λ h. let two = and_parts _ _ h in ap₂ (λ i j. i || j) (not_false (b.place hold) two.0) (s.away_rests two.1);
      away_lives = λ h. s.away_lives (and_parts _ _ h).1;
      rests = λ x h k. held_rests x (out-Residual x) h k;
      lives = λ x h k. held_lives x (out-Residual x) h k;
    }

  free_lives : (v : Living) (l : Layout) → Lives v l → (x : Residual) (node : Residual-F Residual) → fits_or_holds None l node ≡ true
      → (if holds_in node then false && l.away b else not false && l.at b (inner_or x node)) ≡ true
      → (v.rests ≡ true) × (v.lives ≡ has (if holds_in node then [] else l.stores_at (inner_or x node)) n)
  free_lives v l s x (Residual-F.At place) h k = absurd (false≢true h)
  free_lives v l s x (Residual-F.Hold place) h k = absurd (false≢true h)
  free_lives v l s x (Residual-F.InSeq number y) h k = absurd (false≢true h)
  free_lives v l s x (Residual-F.InPar branches) h k = absurd (false≢true h)
  free_lives v l s x (Residual-F.InIf side y) h k = absurd (false≢true h)
  free_lives v l s x (Residual-F.InBody y) h k = (s.rests y h k, s.lives y h k)
  free_lives v l s x (Residual-F.InScope stores y) h k = absurd (false≢true h)
  free_lives v l s x (Residual-F.InCall number) h k = absurd (false≢true h)

  lives_suspend : (hold : Option ℕ) (v : Living) (l : Layout) → Lives v l
      → Lives (through_suspend (node_living b.place (outputs + n)) hold v) (suspend_layout hold l)
  lives_suspend (Some hold) v l s = lives_hold hold v l s
  lives_suspend None v l s = record {
    away_rests = s.away_rests;
    away_lives = s.away_lives;
    rests = λ x h k. (free_lives v l s x (out-Residual x) h k).0;
    lives = λ x h k. (free_lives v l s x (out-Residual x) h k).1;
  }

  abbrev AllLive : List Stmt → Type 0
  AllLive parts = AllByRecursion (λ s. Lives (G s) (L s)) parts

  over_away : (parts : List Stmt) → AllLive parts → all_away b (map L parts) ≡ true → (so_far : Living)
      → ((living_over so_far (map G parts)).rests ≡ so_far.rests) × ((living_over so_far (map G parts)).lives ≡ so_far.lives)
  over_away [] all h so_far = (refl, refl)
  over_away (s ∷ parts) all h so_far =
      let two = and_parts _ _ h in
      let more = over_away parts all.1 two.1 (beside so_far (G s)) in
      (more.0 ∙ or_none so_far.rests _ (all.0.away_rests two.0), more.1 ∙ or_none so_far.lives _ (all.0.away_lives two.0))

  one_lives : (parts : List Stmt) → AllLive parts → (k : ℕ) (x : Residual) → (member bare (map L parts) k).fits x ≡ true → at_one b (map L parts) k x ≡ true
      → (so_far : Living)
      → ((living_over so_far (map G parts)).rests ≡ true) × ((living_over so_far (map G parts)).lives ≡ (so_far.lives || has ((member bare (map L parts) k).stores_at x) n))
  one_lives [] all k x fits h so_far = absurd (false≢true h)
  one_lives (s ∷ parts) all zero x fits h so_far =
      let two = and_parts _ _ h in
      let more = over_away parts all.1 two.1 (beside so_far (G s)) in
      (more.0 ∙ or_right so_far.rests _ (all.0.rests x fits two.0), more.1 ∙ ap (λ i. so_far.lives || i) (all.0.lives x fits two.0))
  one_lives (s ∷ parts) all (suc k) x fits h so_far =
      let two = and_parts _ _ h in
      let more = one_lives parts all.1 k x fits two.1 (beside so_far (G s)) in
      (more.0, more.1 ∙ ap (λ i. i || has ((member bare (map L parts) k).stores_at x) n) (or_none so_far.lives _ (all.0.away_lives two.0)))

  lives_sequence : (parts : List Stmt) → AllLive parts → Lives (living_over (living false false) (map G parts)) (sequence_layout (map L parts))
  lives_sequence parts all = record {
    away_rests = λ h. (over_away parts all h (living false false)).0;
    away_lives = λ h. (over_away parts all h (living false false)).1;
    rests = λ x h k. (one_lives parts all (member_of x) (inner x) (member_fits (map L parts) x (out-Residual x) h).0 k (living false false)).0;
    lives = λ x h k. (one_lives parts all (member_of x) (inner x) (member_fits (map L parts) x (out-Residual x) h).0 k (living false false)).1;
  }

  abbrev branch_stores : List Layout → List (Option Residual) → List (ℕ × Store)
  branch_stores ls branches = flat_map (λ (one : Layout × Residual). one.0.stores_at one.1) (resting ls branches)

  each_lives : (parts : List Stmt) → AllLive parts → (branches : List (Option Residual)) → fits_each (map L parts) branches ≡ true
      → at_each b (map L parts) branches ≡ true → (so_far : Living)
      → ((living_over so_far (map G parts)).rests ≡ (so_far.rests || list_any (λ branch. is_some branch) branches))
      × ((living_over so_far (map G parts)).lives ≡ (so_far.lives || has (branch_stores (map L parts) branches) n))
  each_lives [] all [] fits h so_far = (sym (or_none so_far.rests false refl), sym (or_none so_far.lives false refl))
  each_lives [] all (branch ∷ branches) fits h so_far = absurd (false≢true fits)
  each_lives (s ∷ parts) all [] fits h so_far = absurd (false≢true fits)
  each_lives (s ∷ parts) all (None ∷ branches) fits h so_far =
      let two = and_parts _ _ h in
      let more = each_lives parts all.1 branches fits two.1 (beside so_far (G s)) in (
        more.0 ∙ ap (λ i. i || list_any (λ branch. is_some branch) branches) (or_none so_far.rests _ (all.0.away_rests two.0)),
        more.1 ∙ ap (λ i. i || has (branch_stores (map L parts) branches) n) (or_none so_far.lives _ (all.0.away_lives two.0)),
      )
  each_lives (s ∷ parts) all (Some x ∷ branches) fits h so_far =
      let fit = and_parts _ _ fits in
      let two = and_parts _ _ h in
      let more = each_lives parts all.1 branches fit.1 two.1 (beside so_far (G s)) in (
        more.0 ∙ or_again so_far.rests (G s).rests (list_any (λ branch. is_some branch) branches)
            ∙ ap (λ i. so_far.rests || (i || list_any (λ branch. is_some branch) branches)) (all.0.rests x fit.0 two.0),
        more.1 ∙ or_again so_far.lives (G s).lives (has (branch_stores (map L parts) branches) n)
            ∙ ap (λ i. so_far.lives || (i || has (branch_stores (map L parts) branches) n)) (all.0.lives x fit.0 two.0)
            ∙ ap (λ i. so_far.lives || i) (sym (has_in_both ((L s).stores_at x) (branch_stores (map L parts) branches) n)),
      )

  some_fit : (ls : List Layout) (node : Residual-F Residual) → fits_in_some ls node ≡ true → list_any (λ branch. is_some branch) (branches_in node) ≡ true
  some_fit ls (Residual-F.At place) h = absurd (false≢true h)
  some_fit ls (Residual-F.Hold place) h = absurd (false≢true h)
  some_fit ls (Residual-F.InSeq number y) h = absurd (false≢true h)
  some_fit ls (Residual-F.InPar branches) h = (and_parts _ _ h).0
  some_fit ls (Residual-F.InIf side y) h = absurd (false≢true h)
  some_fit ls (Residual-F.InBody y) h = absurd (false≢true h)
  some_fit ls (Residual-F.InScope stores y) h = absurd (false≢true h)
  some_fit ls (Residual-F.InCall number) h = absurd (false≢true h)

  lives_parallel : (parts : List Stmt) → AllLive parts → Lives (living_over (living false false) (map G parts)) (parallel_layout (map L parts))
  lives_parallel parts all = record {
    away_rests = λ h. (over_away parts all h (living false false)).0;
    away_lives = λ h. (over_away parts all h (living false false)).1;
    rests = λ x h k.
        (each_lives parts all (branches_of x) (branches_fit (map L parts) (out-Residual x) h) k (living false false)).0 ∙ some_fit (map L parts) (out-Residual x) h;
    lives = λ x h k. (each_lives parts all (branches_of x) (branches_fit (map L parts) (out-Residual x) h) k (living false false)).1;
  }

  abbrev Claimed : Type 0
  Claimed = (s : Stmt) × Lives (G s) (L s)

  abbrev names : List Claimed → List Stmt
  names parts = map (λ (e : Claimed). e.0) parts

  all_live : (parts : List Claimed) → AllLive (names parts)
  all_live [] = tt
  all_live (e ∷ parts) = (e.1, all_live parts)

  abbrev AtNode : Stmt-F Stmt → Type 0
  AtNode x = Lives (through outputs (node_living b.place (outputs + n)) (map-Stmt Stmt Living G x)) (node_layout (λ number. bare) (map-Stmt Stmt Layout L x))

  at_node : (node : Stmt-F Claimed) → AtNode (map-Stmt Claimed Stmt (λ e. e.0) node)
  at_node Stmt-F.Nothing = lives_leaf
  at_node (Stmt-F.Assign target value) = lives_leaf
  at_node (Stmt-F.Delayed target value) = lives_leaf
  at_node (Stmt-F.Pause place) = lives_pause place
  at_node (Stmt-F.Seq parts) = lives_sequence (names parts) (all_live parts)
  at_node (Stmt-F.Par parts) = lives_parallel (names parts) (all_live parts)
  at_node (Stmt-F.If condition first second) = lives_choice _ _ _ _ first.1 second.1
  at_node (Stmt-F.Loop number body condition) = lives_loop number _ _ body.1
  at_node (Stmt-F.Abort kind body condition) = lives_body _ _ body.1
  at_node (Stmt-F.Suspend kind hold body condition) = lives_suspend hold _ _ body.1
  at_node (Stmt-F.Scope locals body) = lives_scope locals _ _ body.1
  at_node (Stmt-F.Call number proto arguments) = lives_leaf
  at_node (Stmt-F.Bind bindings body) = body.1

  pub statements_live : (s : Stmt) → Lives (G s) (L s)
  statements_live = ind-Stmt (λ s. Lives (G s) (L s)) (λ x y is.
      subst (λ (i : Living). Lives i (L (roll-Stmt x))) (sym (fold-roll-Stmt Living (through outputs (node_living b.place (outputs + n))) x))
      (subst (λ l. Lives (through outputs (node_living b.place (outputs + n)) (map-Stmt Stmt Living G x)) l) (sym (fold-roll-Stmt Layout (node_layout (λ number. bare)) x))
      (subst AtNode is (at_node y))))
