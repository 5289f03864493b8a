-- The residual after a step and the spots say the same: it fits the tree, its places are theirs, and the
-- stores of its scopes come from the instances that they name.
use Rattle.std.proofs.Common.{◌≡◌, ℕ, Bool, true, false, List, [], ◌∷◌, ◌++◌, map, length, Option, Some, None, refl, sym, ap, ap₂, subst, ◌∙◌}
use Rattle.std.specs.Prelude.{◌==◌, if◌then◌else◌}
use Rattle.std.specs.List.{zip}
use Rattle.std.specs.Option.{option_map, option_or}
use lib.ListN.{length-map}
use Rattle.std.proofs.lemmas.List.{append-nil, map-append}
use Rattle.std.proofs.lemmas.Bool.{false≢true, and_from, eq-eqb}
use Rattle.qz_values.specs.declared.Know.{Know}
use Rattle.qz_values.specs.Knowledge.{both, either, opposite, knows_yes}
use Rattle.qz_syntax.specs.declared.expressions.Var.{Var}
use Rattle.qz_syntax.specs.declared.expressions.Expr.{Expr}
use Rattle.qz_syntax.specs.declared.statements.Kind.{Kind}
use Rattle.qz_syntax.specs.declared.statements.Binding.{Binding}
use Rattle.qz_syntax.specs.declared.places.Mark.{Mark}
use Rattle.qz_syntax.specs.declared.places.Mark.TheVariants as mark
use Rattle.qz_syntax.specs.declared.places.Store.{Store}
use Rattle.qz_syntax.specs.declared.places.Residual.{Residual, out-Residual}
use Rattle.qz_syntax.specs.declared.places.Residual.TheOpen.{Residual-F}
use Rattle.qz_syntax.specs.declared.places.Residual.TheVariants.{At, Hold, InSeq, InIf, InBody, InScope, rolls-At, rolls-Hold, rolls-InSeq, rolls-InIf, rolls-InBody, rolls-InScope}
use Rattle.qz_syntax.specs.declared.places.Residual.TheFolds.{fold-roll-Residual}
use Rattle.qz_meaning.specs.Instances.{Instance, local_instance}
use Rattle.qz_meaning.specs.Scenes.{Passing, Context, with_locals, store_from}
use Rattle.qz_meaning.specs.Expressions.{value_here, with_bindings}
use Rattle.qz_meaning.specs.Residuals.{stores_in, inner_or, inner, side_in, side_of, is_held, holds_in}
use Rattle.qz_meaning.specs.Accounts.{Write}
use Rattle.qz_meaning.specs.Layouts.{Layout, bare}
use Rattle.qz_meaning.specs.Behaviors.{Behavior, idle}
use Rattle.qz_meaning.specs.Simple.{is_at_in, assignment, pause, pause_layout}
use Rattle.qz_meaning.specs.Choices.{choice, choice_layout, fits_in_side}
use Rattle.qz_meaning.specs.Loops.{loop, loop_layout, fits_in_body}
use Rattle.qz_meaning.specs.Aborts.{abort, body_guard, start_guard, body_layout}
use Rattle.qz_meaning.specs.Suspends.{suspend, suspend_layout, fits_or_holds, ends_on_start, acts_on_start, rest_on_start, stays_held}
use Rattle.qz_meaning.specs.Scopes.{scope, scope_layout, fits_in_scope}
use Rattle.qz_meaning.specs.Calls.{bound_body}
use Rattle.qz_meaning.specs.Residing.{residing, stores_from}
use Rattle.qz_meaning.specs.Landings.{Deed, Wrote, Spot, At as At_spot, Keeps, Enters, GoesOn, Stays, keeps, scoped, landing}
use Rattle.qz_meaning.specs.Carrying.{places_in, is_local, kept_by}
use Rattle.qz_meaning.specs.Valuations.{node_places, resting_places, store_among}
use Rattle.qz_meaning.specs.Agreement.{RestsAsTold, GoesAsTold, AccountsAgree}
use Rattle.qz_meaning.proofs.Fitting.{body_fits, side_fits, scope_fits, held_fits}
use Rattle.qz_meaning.proofs.Resting.{out-At, out-Hold, out-InIf, out-InBody, out-InScope}

pub places-InSeq : (n : ℕ) (r : Residual) → resting_places (InSeq n r) ≡ resting_places r
places-InSeq n r = ap resting_places (sym (rolls-InSeq n r)) ∙ fold-roll-Residual (List ℕ) node_places (Residual-F.InSeq n r)

places-At : (n : ℕ) → resting_places (At n) ≡ n ∷ []
places-At n = ap resting_places (sym (rolls-At n)) ∙ fold-roll-Residual (List ℕ) node_places (Residual-F.At n)

places-Hold : (n : ℕ) → resting_places (Hold n) ≡ n ∷ []
places-Hold n = ap resting_places (sym (rolls-Hold n)) ∙ fold-roll-Residual (List ℕ) node_places (Residual-F.Hold n)

places-InIf : (b : Bool) (r : Residual) → resting_places (InIf b r) ≡ resting_places r
places-InIf b r = ap resting_places (sym (rolls-InIf b r)) ∙ fold-roll-Residual (List ℕ) node_places (Residual-F.InIf b r)

places-InBody : (r : Residual) → resting_places (InBody r) ≡ resting_places r
places-InBody r = ap resting_places (sym (rolls-InBody r)) ∙ fold-roll-Residual (List ℕ) node_places (Residual-F.InBody r)

places-InScope : (stores : List Store) (r : Residual) → resting_places (InScope stores r) ≡ resting_places r
places-InScope stores r = ap resting_places (sym (rolls-InScope stores r)) ∙ fold-roll-Residual (List ℕ) node_places (Residual-F.InScope stores r)

pub or_if : {A : Type 0} (b : Bool) (x : A) (p q r : Option A) → p ≡ option_or q r → (if b then Some x else p) ≡ option_or (if b then Some x else q) r
or_if true x p q r h = refl
or_if false x p q r h = h

pub kept-append : (xs ys : List Spot) (n : ℕ) → kept_by (xs ++ ys) n ≡ option_or (kept_by xs n) (kept_by ys n)
kept-append [] ys n = refl
kept-append (At_spot place ∷ xs) ys n = kept-append xs ys n
kept-append (Keeps i ∷ xs) ys n = or_if (is_local i.variable n) i _ _ _ (kept-append xs ys n)
kept-append (Enters call m ∷ xs) ys n = kept-append xs ys n
kept-append (GoesOn call ∷ xs) ys n = kept-append xs ys n
kept-append (Stays number ∷ xs) ys n = kept-append xs ys n

pub places-append : (xs ys : List Spot) → places_in (xs ++ ys) ≡ places_in xs ++ places_in ys
places-append [] ys = refl
places-append (At_spot place ∷ xs) ys = ap (λ l. place ∷ l) (places-append xs ys)
places-append (Keeps i ∷ xs) ys = places-append xs ys
places-append (Enters call m ∷ xs) ys = places-append xs ys
places-append (GoesOn call ∷ xs) ys = places-append xs ys
places-append (Stays number ∷ xs) ys = places-append xs ys

no_place : (locals : List ℕ) (m : Mark) → places_in (keeps locals m) ≡ []
no_place [] m = refl
no_place (n ∷ locals) m = no_place locals m

pub stores-append : (xs ys : List (ℕ × Store)) (n : ℕ) → store_among (xs ++ ys) n ≡ option_or (store_among xs n) (store_among ys n)
stores-append [] ys n = refl
stores-append (x ∷ xs) ys n = or_if (x.0 == n) x.1 _ _ _ (stores-append xs ys n)

pub map-or : {A B : Type 0} (f : A → B) (p q : Option A) → option_or (option_map f p) (option_map f q) ≡ option_map f (option_or p q)
map-or f None q = refl
map-or f (Some x) q = refl

nat_eq-refl : (n : ℕ) → (n == n) ≡ true
nat_eq-refl n = eq-eqb n n refl

module _ (step : Passing) where
  abbrev pub Places : Type 0
  Places = Behavior Write (Option Residual)

  abbrev pub Deeds : Type 0
  Deeds = Behavior Deed (List Spot)

  abbrev Tells : Layout → Option Residual → List Spot → Type 0
  Tells = GoesAsTold step

  abbrev Told : Places → Deeds → Layout → Type 0
  Told = AccountsAgree step

  pub tells_if : (l : Layout) (yes : Bool) (t u : Option Residual) (xs ys : List Spot) → Tells l t xs → Tells l u ys
      → Tells l (if yes then t else u) (if yes then xs else ys)
  tells_if l true t u xs ys p q = p
  tells_if l false t u xs ys p q = q

  -- one level more, with nothing of its own
  pub level_tells : (f : Residual → Residual) (l k : Layout) (t : Option Residual) (xs : List Spot)
      → ((r : Residual) → resting_places (f r) ≡ resting_places r)
      → ((r : Residual) → l.fits r ≡ true → k.fits (f r) ≡ true) → ((r : Residual) → k.stores_at (f r) ≡ l.stores_at r)
      → Tells l t xs → Tells k (option_map f t) xs
  level_tells f l k None xs place fit store p = p
  level_tells f l k (Some r) xs place fit store p = record {
    fits = fit r p.fits;
    places = place r ∙ p.places;
    stores = λ n. ap (λ i. store_among i n) (store r) ∙ p.stores n;
    somewhere = p.somewhere;
  }

  in_body_tells : (l k : Layout) (t : Option Residual) (xs : List Spot)
      → ((r : Residual) → l.fits r ≡ true → k.fits (InBody r) ≡ true) → ((r : Residual) → k.stores_at (InBody r) ≡ l.stores_at r)
      → Tells l t xs → Tells k (option_map (λ r. InBody r) t) xs
  in_body_tells l k t xs = level_tells (λ r. InBody r) l k t xs places-InBody

  pub told_loop : (number : ℕ) (e : Expr) (a : Places) (b : Deeds) (l : Layout) → Told a b l
      → Told (loop step.now (residing step) number a e) (loop step.now landing number b e) (loop_layout number l)
  told_loop number e a b l x =
      let k = loop_layout number l in
      let fit : (r : Residual) → l.fits r ≡ true → k.fits (InBody r) ≡ true = λ r h. ap (fits_in_body l) (out-InBody r) ∙ h in
      let store : (r : Residual) → k.stores_at (InBody r) ≡ l.stores_at r = λ r. ap (λ i. l.stores_at (inner_or (InBody r) i)) (out-InBody r) in
      record {
        ends = λ c m. refl;
        start = λ c g m. x.start c g m;
        ended = λ c r. ap (λ i. both i (opposite (value_here step.now c e))) (x.ended c (inner r));
        resume = λ c r g.
            let v = value_here step.now c e in
            map-append Wrote (a.resume c (inner r) g) (a.start c (both (both g (a.ended c (inner r))) v) (mark.Loop number))
            ∙ ap₂ (λ i j. i ++ j) (x.resume c (inner r) g)
            (x.start c (both (both g (a.ended c (inner r))) v) (mark.Loop number) ∙ ap (λ i. b.start c (both (both g i) v) (mark.Loop number)) (x.ended c (inner r)));
        rest = λ c m. in_body_tells l k _ _ fit store (x.rest c m);
        after = λ c r h.
            let v = value_here step.now c e in
            in_body_tells l k _ _ fit store
            (subst (λ i. Tells l (if knows_yes (both i v) then a.rest c (mark.Loop number) else a.after c (inner r)) (if knows_yes (both (b.ended c (inner r)) v) then b.rest c (mark.Loop number) else b.after c (inner r)))
            (sym (x.ended c (inner r)))
            (tells_if l (knows_yes (both (b.ended c (inner r)) v)) _ _ _ _ (x.rest c (mark.Loop number)) (x.after c (inner r) (body_fits l r (out-Residual r) h))));
        kept = λ r h. in_body_tells l k _ _ fit store (x.kept (inner r) (body_fits l r (out-Residual r) h));
      }

  -- scopes
  store_if : (b : Bool) (x : Instance) (p : Option Store) (q : Option Instance) → p ≡ option_map (store_from step) q
      → (if b then Some (store_from step x) else p) ≡ option_map (store_from step) (if b then Some x else q)
  store_if true x p q h = refl
  store_if false x p q h = h

  own_stores : (locals : List ℕ) (m : Mark) (n : ℕ)
      → store_among (zip locals (stores_from step locals m)) n ≡ option_map (store_from step) (kept_by (keeps locals m) n)
  own_stores [] m n = refl
  own_stores (k ∷ locals) m n = store_if (k == n) (local_instance k m) _ _ (own_stores locals m n)

  same_length : (locals : List ℕ) (m : Mark) → (length (stores_from step locals m) == length locals) ≡ true
  same_length locals m = rw (length-map locals (λ n. store_from step (local_instance n m))) (nat_eq-refl (length locals))

  scope_tells : (locals : List ℕ) (m : Mark) (l : Layout) (t : Option Residual) (xs : List Spot) → Tells l t xs
      → Tells (scope_layout locals l) ((residing step).in_scope locals m t) (scoped locals m xs)
  scope_tells locals m l None xs p = ap (scoped locals m) p
  scope_tells locals m l (Some r) [] p = absurd (false≢true p.somewhere)
  scope_tells locals m l (Some r) (x ∷ xs) p =
      let stores = stores_from step locals m in
      record {
        fits = ap (fits_in_scope locals l) (out-InScope stores r) ∙ and_from _ _ (same_length locals m) p.fits;
        places =
            places-InScope stores r ∙ p.places ∙ sym (append-nil (places_in (x ∷ xs)))
            ∙ ap (λ i. places_in (x ∷ xs) ++ i) (sym (no_place locals m)) ∙ sym (places-append (x ∷ xs) (keeps locals m));
        stores = λ n.
            ap (λ i. store_among (l.stores_at (inner_or (InScope stores r) i) ++ zip locals (stores_in i)) n) (out-InScope stores r)
            ∙ stores-append (l.stores_at r) (zip locals stores) n
            ∙ ap₂ (λ i j. option_or i j) (p.stores n) (own_stores locals m n)
            ∙ map-or (store_from step) (kept_by (x ∷ xs) n) (kept_by (keeps locals m) n)
            ∙ ap (option_map (store_from step)) (sym (kept-append (x ∷ xs) (keeps locals m) n));
        somewhere = refl;
      }

  pub told_scope : (locals : List ℕ) (a : Places) (b : Deeds) (l : Layout) → Told a b l
      → Told (scope (residing step) locals a) (scope landing locals b) (scope_layout locals l)
  told_scope locals a b l x = record {
    ends = λ c m. x.ends (with_locals c locals m) m;
    start = λ c g m. x.start (with_locals c locals m) g m;
    ended = λ c r. x.ended (with_locals c locals mark.Zero) (inner r);
    resume = λ c r g. x.resume (with_locals c locals mark.Zero) (inner r) g;
    rest = λ c m. scope_tells locals m l _ _ (x.rest (with_locals c locals m) m);
    after = λ c r h. scope_tells locals mark.Zero l _ _ (x.after (with_locals c locals mark.Zero) (inner r) (scope_fits locals l r (out-Residual r) h).1);
    kept = λ r h. scope_tells locals mark.Zero l _ _ (x.kept (inner r) (scope_fits locals l r (out-Residual r) h).1);
  }

  pub told_idle : Told (idle (residing step)) (idle landing) bare
  told_idle = record {
    ends = λ c m. refl;
    start = λ c g m. refl;
    ended = λ c r. refl;
    resume = λ c r g. refl;
    rest = λ c m. refl;
    after = λ c r h. refl;
    kept = λ r h. refl;
  }

  pub told_assignment : (delayed : Bool) (x : Var) (e : Expr)
      → Told (assignment step.now (residing step) delayed x e) (assignment step.now landing delayed x e) bare
  told_assignment delayed x e = record {
    ends = λ c m. refl;
    start = λ c g m. refl;
    ended = λ c r. refl;
    resume = λ c r g. refl;
    rest = λ c m. refl;
    after = λ c r h. refl;
    kept = λ r h. refl;
  }

  at_tells : (place : ℕ) → RestsAsTold step (pause_layout place) (At place) (landing.at place)
  at_tells place = record {
    fits = ap (is_at_in place) (out-At place) ∙ nat_eq-refl place;
    places = places-At place;
    stores = λ n. refl;
    somewhere = refl;
  }

  pub told_pause : (place : ℕ) → Told (pause (residing step) place) (pause landing place) (pause_layout place)
  told_pause place = record {
    ends = λ c m. refl;
    start = λ c g m. refl;
    ended = λ c r. refl;
    resume = λ c r g. refl;
    rest = λ c m. at_tells place;
    after = λ c r h. refl;
    kept = λ r h. at_tells place;
  }

  pub told_bound : (bindings : List Binding) (a : Places) (b : Deeds) (l : Layout) → Told a b l
      → Told (bound_body step.now bindings a) (bound_body step.now bindings b) l
  told_bound bindings a b l x = record {
    ends = λ c m. x.ends (with_bindings step.now c bindings) m;
    start = λ c g m. x.start (with_bindings step.now c bindings) g m;
    ended = λ c r. x.ended (with_bindings step.now c bindings) r;
    resume = λ c r g. x.resume (with_bindings step.now c bindings) r g;
    rest = λ c m. x.rest (with_bindings step.now c bindings) m;
    after = λ c r h. x.after (with_bindings step.now c bindings) r h;
    kept = x.kept;
  }

  pub told_abort : (kind : Kind) (e : Expr) (a : Places) (b : Deeds) (l : Layout) → Told a b l
      → Told (abort step.now (residing step) kind a e) (abort step.now landing kind b e) (body_layout l)
  told_abort kind e a b l x =
      let k = body_layout l in
      let fit : (r : Residual) → l.fits r ≡ true → k.fits (InBody r) ≡ true = λ r h. ap (fits_in_body l) (out-InBody r) ∙ h in
      let store : (r : Residual) → k.stores_at (InBody r) ≡ l.stores_at r = λ r. ap (λ i. l.stores_at (inner_or (InBody r) i)) (out-InBody r) in
      record {
        ends = λ c m. ap (λ i. if kind.immediate then either (value_here step.now c e) i else i) (x.ends c m);
        start = λ c g m. x.start c (start_guard kind (value_here step.now c e) g) m;
        ended = λ c r. ap (λ i. either (value_here step.now c e) i) (x.ended c (inner r));
        resume = λ c r g. x.resume c (inner r) (body_guard kind (value_here step.now c e) g);
        rest = λ c m.
            let in_body = in_body_tells l k _ _ fit store (x.rest c m) in
            tells_if k kind.immediate _ _ _ _ (tells_if k (knows_yes (value_here step.now c e)) None _ [] _ refl in_body) in_body;
        after = λ c r h. tells_if k (knows_yes (value_here step.now c e)) None _ [] _ refl (in_body_tells l k _ _ fit store (x.after c (inner r) (body_fits l r (out-Residual r) h)));
        kept = λ r h. in_body_tells l k _ _ fit store (x.kept (inner r) (body_fits l r (out-Residual r) h));
      }

  -- `if`
  told_if : (side : Bool) (a : Places) (b : Deeds) (l : Layout) (a₂ : Places) (b₂ : Deeds) (l₂ : Layout) → Told a b l → Told a₂ b₂ l₂
      → Told (if side then a else a₂) (if side then b else b₂) (if side then l else l₂)
  told_if true a b l a₂ b₂ l₂ x y = x
  told_if false a b l a₂ b₂ l₂ x y = y

  in_side_tells : (side : Bool) (l l₂ : Layout) (t : Option Residual) (xs : List Spot) → Tells (if side then l else l₂) t xs
      → Tells (choice_layout l l₂) (option_map (λ r. InIf side r) t) xs
  in_side_tells true l l₂ t xs = level_tells (λ r. InIf true r) l (choice_layout l l₂) t xs (places-InIf true)
      (λ r h. ap (fits_in_side l l₂) (out-InIf true r) ∙ h) (λ r. ap (λ i. (if side_in i then l else l₂).stores_at (inner_or (InIf true r) i)) (out-InIf true r))
  in_side_tells false l l₂ t xs = level_tells (λ r. InIf false r) l₂ (choice_layout l l₂) t xs (places-InIf false)
      (λ r h. ap (fits_in_side l l₂) (out-InIf false r) ∙ h) (λ r. ap (λ i. (if side_in i then l else l₂).stores_at (inner_or (InIf false r) i)) (out-InIf false r))

  pub told_choice : (e : Expr) (a : Places) (b : Deeds) (l : Layout) (a₂ : Places) (b₂ : Deeds) (l₂ : Layout) → Told a b l → Told a₂ b₂ l₂
      → Told (choice step.now (residing step) e a a₂) (choice step.now landing e b b₂) (choice_layout l l₂)
  told_choice e a b l a₂ b₂ l₂ x y = record {
    ends = λ c m. let v = value_here step.now c e in ap₂ (λ i j. either (both v i) (both (opposite v) j)) (x.ends c m) (y.ends c m);
    start = λ c g m.
        let v = value_here step.now c e in
        map-append Wrote (a.start c (both g v) m) (a₂.start c (both g (opposite v)) m)
        ∙ ap₂ (λ i j. i ++ j) (x.start c (both g v) m) (y.start c (both g (opposite v)) m);
    ended = λ c r. (told_if (side_of r) a b l a₂ b₂ l₂ x y).ended c (inner r);
    resume = λ c r g. (told_if (side_of r) a b l a₂ b₂ l₂ x y).resume c (inner r) g;
    rest = λ c m.
        tells_if (choice_layout l l₂) (knows_yes (value_here step.now c e)) _ _ _ _
        (in_side_tells true l l₂ _ _ (x.rest c m)) (in_side_tells false l l₂ _ _ (y.rest c m));
    after = λ c r h.
        in_side_tells (side_of r) l l₂ _ _ ((told_if (side_of r) a b l a₂ b₂ l₂ x y).after c (inner r) (side_fits l l₂ r (out-Residual r) h));
    kept = λ r h.
        in_side_tells (side_of r) l l₂ _ _ ((told_if (side_of r) a b l a₂ b₂ l₂ x y).kept (inner r) (side_fits l l₂ r (out-Residual r) h));
  }

  -- suspends
  hold_tells : (hold : Option ℕ) (l : Layout) → Tells (suspend_layout hold l) (stays_held (residing step) hold) (stays_held landing hold)
  hold_tells None l = refl
  hold_tells (Some place) l = record {
    fits = ap (fits_or_holds (Some place) l) (out-Hold place) ∙ nat_eq-refl place;
    places = places-Hold place;
    stores = λ n. ap (λ i. store_among (if holds_in i then [] else l.stores_at (inner_or (Hold place) i)) n) (out-Hold place);
    somewhere = refl;
  }

  module _ (kind : Kind) (hold : Option ℕ) (e : Expr) (a : Places) (b : Deeds) (l : Layout) (x : Told a b l) where
    abbrev held_layout : Layout
    held_layout = suspend_layout hold l

    body_tells : (t : Option Residual) (xs : List Spot) → Tells l t xs → Tells held_layout (option_map (λ r. InBody r) t) xs
    body_tells t xs =
        in_body_tells l held_layout t xs (λ r h. ap (fits_or_holds hold l) (out-InBody r) ∙ h)
        (λ r. ap (λ i. if holds_in i then [] else l.stores_at (inner_or (InBody r) i)) (out-InBody r))

    start_tells : (c : Context) (m : Mark) → Tells held_layout (rest_on_start step.now (residing step) kind hold a e c m) (rest_on_start step.now landing kind hold b e c m)
    start_tells c m =
        let inside = body_tells _ _ (x.rest c m) in
        tells_if held_layout kind.immediate _ _ _ _ (tells_if held_layout (knows_yes (value_here step.now c e)) _ _ _ _ (hold_tells hold l) inside) inside

    ends_alike : (c : Context) (m : Mark) → ends_on_start step.now kind a e c m ≡ ends_on_start step.now kind b e c m
    ends_alike c m = ap (λ i. if kind.immediate then both (opposite (value_here step.now c e)) i else i) (x.ends c m)

    ended_alike : (at : Bool) (c : Context) (i : Residual)
        → (if at then ends_on_start step.now kind a e c mark.Zero else both (opposite (value_here step.now c e)) (a.ended c i))
        ≡ (if at then ends_on_start step.now kind b e c mark.Zero else both (opposite (value_here step.now c e)) (b.ended c i))
    ended_alike true c i = ends_alike c mark.Zero
    ended_alike false c i = ap (λ j. both (opposite (value_here step.now c e)) j) (x.ended c i)

    resumes_alike : (at : Bool) (c : Context) (i : Residual) (g : Know)
        → map Wrote (if at then acts_on_start step.now kind a e c g mark.Zero else a.resume c i (body_guard kind (value_here step.now c e) g))
        ≡ (if at then acts_on_start step.now kind b e c g mark.Zero else b.resume c i (body_guard kind (value_here step.now c e) g))
    resumes_alike true c i g = x.start c (start_guard kind (value_here step.now c e) g) mark.Zero
    resumes_alike false c i g = x.resume c i (body_guard kind (value_here step.now c e) g)

    after_tells : (at : Bool) (c : Context) (i : Residual) → (at ≡ false → l.fits i ≡ true)
        → Tells held_layout
        (if at then rest_on_start step.now (residing step) kind hold a e c mark.Zero else option_map (λ r. InBody r) (if knows_yes (value_here step.now c e) then a.kept i else a.after c i))
        (if at then rest_on_start step.now landing kind hold b e c mark.Zero else (if knows_yes (value_here step.now c e) then b.kept i else b.after c i))
    after_tells true c i fits = start_tells c mark.Zero
    after_tells false c i fits = body_tells _ _ (tells_if l (knows_yes (value_here step.now c e)) _ _ _ _ (x.kept i (fits refl)) (x.after c i (fits refl)))

    kept_tells : (at : Bool) (i : Residual) → (at ≡ false → l.fits i ≡ true)
        → Tells held_layout (if at then stays_held (residing step) hold else option_map (λ r. InBody r) (a.kept i)) (if at then stays_held landing hold else b.kept i)
    kept_tells true i fits = hold_tells hold l
    kept_tells false i fits = body_tells _ _ (x.kept i (fits refl))

    pub told_suspend : Told (suspend step.now (residing step) kind hold a e) (suspend step.now landing kind hold b e) held_layout
    told_suspend = record {
      ends = ends_alike;
      start = λ c g m. x.start c (start_guard kind (value_here step.now c e) g) m;
      ended = λ c r. ended_alike (is_held r) c (inner r);
      resume = λ c r g. resumes_alike (is_held r) c (inner r) g;
      rest = start_tells;
      after = λ c r h. after_tells (is_held r) c (inner r) (held_fits hold l r (out-Residual r) h);
      kept = λ r h. kept_tells (is_held r) (inner r) (held_fits hold l r (out-Residual r) h);
    }
