-- The same for sequences, parallels and every statement.
use Rattle.std.proofs.Common.{◌≡◌, ℕ, zero, suc, ◌+◌, Bool, true, false, List, [], ◌∷◌, ◌++◌, map, length, drop, Option, Some, None, refl, sym, ap, ap₂, subst, ◌∙◌, arith}
use Rattle.std.specs.Prelude.{if◌then◌else◌, nat_lt, slice_get, is_some, unwrap_or}
use Rattle.std.specs.List.{flat_map, list_any}
use Rattle.std.specs.Option.{option_map, option_or, option_map_or}
use Rattle.std.proofs.lemmas.Bool.{false≢true, and_parts, and_from}
use Rattle.std.proofs.lemmas.List.{map-append}
use Rattle.qz_values.specs.declared.Know.{Know}
use Rattle.qz_values.specs.declared.Know.TheVariants.{Known}
use Rattle.qz_values.specs.Values.{yes}
use Rattle.qz_values.specs.Knowledge.{both, knows_yes}
use Rattle.qz_syntax.specs.declared.statements.Stmt.{Stmt, map-Stmt, roll-Stmt}
use Rattle.qz_syntax.specs.declared.statements.Stmt.TheOpen.{Stmt-F}
use Rattle.qz_syntax.specs.declared.statements.Stmt.TheFolds.{fold-roll-Stmt, ind-Stmt}
use Rattle.qz_syntax.specs.declared.places.Mark.{Mark}
use Rattle.qz_syntax.specs.declared.places.Mark.TheVariants as mark
use Rattle.qz_syntax.specs.declared.places.Store.{Store}
use Rattle.qz_syntax.specs.declared.places.Residual.{Residual, out-Residual, map-Residual}
use Rattle.qz_syntax.specs.declared.places.Residual.TheOpen.{Residual-F}
use Rattle.qz_syntax.specs.declared.places.Residual.TheVariants.{InSeq, InPar, rolls-InPar}
use Rattle.qz_syntax.specs.declared.places.Residual.TheFolds.{fold-roll-Residual}
use Rattle.qz_meaning.specs.Scenes.{Passing, Context, store_from}
use Rattle.qz_meaning.specs.Residuals.{inner_or, inner, member_in, member_of, branches_in, branches_of}
use Rattle.qz_meaning.specs.Layouts.{Layout, bare}
use Rattle.qz_meaning.specs.Behaviors.{idle}
use Rattle.qz_meaning.specs.Sequences.{start_in_turn, ends_of_all, rest_in_first, member, sequence, fits_in_one, sequence_layout}
use Rattle.qz_meaning.specs.Parallels.{resting, ended_of_all, each_branch, parallel, fits_each, fits_in_some, parallel_layout}
use Rattle.qz_meaning.specs.Walks.{node_behavior, behavior, node_layout, layout}
use Rattle.qz_meaning.specs.Residing.{residing, in_some_branch}
use Rattle.qz_meaning.specs.Landings.{Wrote, Spot, landing}
use Rattle.qz_meaning.specs.Carrying.{places_in, kept_by, is_somewhere}
use Rattle.qz_meaning.specs.Valuations.{node_places, resting_places, store_among}
use Rattle.qz_meaning.specs.Agreement.{GoesAsTold, AccountsAgree}
use Rattle.qz_meaning.proofs.Fitting.{member_fits, branches_fit}
use Rattle.qz_meaning.proofs.Resting.{out-InSeq, out-InPar}
use Rattle.qz_meaning.proofs.Telling.{Places, Deeds, kept-append, places-append, stores-append, map-or, tells_if, level_tells, places-InSeq, told_idle, told_assignment, told_pause, told_choice, told_loop, told_abort, told_suspend, told_scope, told_bound}

slice_get-map : {A B : Type 0} (f : A → B) (xs : List A) (n : ℕ) → slice_get (map f xs) n ≡ option_map f (slice_get xs n)
slice_get-map f [] n = refl
slice_get-map f (x ∷ xs) zero = refl
slice_get-map f (x ∷ xs) (suc n) = slice_get-map f xs n

slice_get-drop : {A : Type 0} (xs : List A) (k i : ℕ) → slice_get (drop k xs) i ≡ slice_get xs (k + i)
slice_get-drop xs zero i = ap (slice_get xs) (let e : i ≡ 0 + i = omega arith in e)
slice_get-drop [] (suc k) i = refl
slice_get-drop (x ∷ xs) (suc k) i = slice_get-drop xs k i ∙ ap (slice_get (x ∷ xs)) (let e : suc (k + i) ≡ suc k + i = omega arith in e)

below_length : {A : Type 0} (xs : List A) (n : ℕ) (x : A) → slice_get xs n ≡ Some x → nat_lt n (length xs) ≡ true
below_length [] n x h = cc
below_length (y ∷ xs) zero x h = grind arith
below_length (y ∷ xs) (suc n) x h = let more = below_length xs n x h in grind (arith, more)

abbrev branch_places : List (Option Residual) → List ℕ
branch_places branches = flat_map (λ branch. option_map_or resting_places branch []) branches

places_each : (branches : List (Option Residual)) → resting_places (InPar branches) ≡ flat_map (λ branch. option_map_or resting_places branch []) branches
places_each branches = ap resting_places (sym (rolls-InPar branches)) ∙ fold-roll-Residual (List ℕ) node_places (Residual-F.InPar branches) ∙ at_each branches where
  at_each : (bs : List (Option Residual)) → node_places (map-Residual Residual (List ℕ) resting_places (Residual-F.InPar bs)) ≡ flat_map (λ branch. option_map_or resting_places branch []) bs
  at_each [] = refl
  at_each (None ∷ bs) = at_each bs
  at_each (Some r ∷ bs) = ap (λ l. resting_places r ++ l) (at_each bs)

somewhere-append : (xs ys : List Spot) → is_somewhere xs ≡ true → is_somewhere (xs ++ ys) ≡ true
somewhere-append [] ys h = absurd (false≢true h)
somewhere-append (x ∷ xs) ys h = refl

module _ (step : Passing) where
  abbrev A : Stmt → Places step
  A = behavior step.now (residing step) (λ number arguments. idle (residing step))

  abbrev B : Stmt → Deeds step
  B = behavior step.now landing (λ number arguments. idle landing)

  abbrev L : Stmt → Layout
  L = layout (λ number. bare)

  abbrev Proved : Type 0
  Proved = (s : Stmt) × AccountsAgree step (A s) (B s) (L s)

  abbrev names : List Proved → List Stmt
  names parts = map (λ (e : Proved). e.0) parts

  ends_alike : (parts : List Proved) (c : Context) (so_far : Know) (m : Mark) → ends_of_all c (map A (names parts)) so_far m ≡ ends_of_all c (map B (names parts)) so_far m
  ends_alike [] c so_far m = refl
  ends_alike (e ∷ parts) c so_far m = ap (λ i. ends_of_all c (map A (names parts)) (both so_far i) m) (e.1.ends c m) ∙ ends_alike parts c (both so_far ((B e.0).ends c m)) m

  starts_alike : (parts : List Proved) (c : Context) (g : Know) (m : Mark)
      → map Wrote (start_in_turn c (map A (names parts)) g m) ≡ start_in_turn c (map B (names parts)) g m
  starts_alike [] c g m = refl
  starts_alike (e ∷ parts) c g m =
      map-append Wrote ((A e.0).start c g m) (start_in_turn c (map A (names parts)) (both g ((A e.0).ends c m)) m)
      ∙ ap₂ (λ i j. i ++ j) (e.1.start c g m)
      (starts_alike parts c (both g ((A e.0).ends c m)) m ∙ ap (λ i. start_in_turn c (map B (names parts)) (both g i) m) (e.1.ends c m))

  told_member : (parts : List Proved) (n : ℕ) → AccountsAgree step (member (idle (residing step)) (map A (names parts)) n) (member (idle landing) (map B (names parts)) n) (member bare (map L (names parts)) n)
  told_member [] n = told_idle step
  told_member (e ∷ parts) zero = e.1
  told_member (e ∷ parts) (suc n) = told_member parts n

  drop-names : {C : Type 0} (f : Stmt → C) (parts : List Proved) (n : ℕ) → drop n (map f (names parts)) ≡ map f (names (drop n parts))
  drop-names f parts zero = refl
  drop-names f [] (suc n) = refl
  drop-names f (e ∷ parts) (suc n) = drop-names f parts n

  -- in the member of a sequence with this layout
  in_member_tells : (ls : List Layout) (n : ℕ) (l : Layout) (t : Option Residual) (xs : List Spot) → slice_get ls n ≡ Some l
      → GoesAsTold step l t xs → GoesAsTold step (sequence_layout ls) (option_map (λ r. InSeq n r) t) xs
  in_member_tells ls n l t xs at p =
      let own : member bare ls n ≡ l = ap (λ o. unwrap_or o bare) at in
      level_tells step (λ r. InSeq n r) l (sequence_layout ls) t xs (places-InSeq n)
      (λ r h. ap (fits_in_one ls) (out-InSeq n r) ∙ and_from _ _ (below_length ls n l at) (ap (λ k. k.fits r) own ∙ h))
      (λ r. ap (λ i. (member bare ls (member_in i)).stores_at (inner_or (InSeq n r) i)) (out-InSeq n r) ∙ ap (λ k. k.stores_at r) own) p

  first_tells : (ls : List Layout) (parts : List Proved) (number : ℕ) (c : Context) (m : Mark)
      → ((i : ℕ) → slice_get (map L (names parts)) i ≡ slice_get ls (number + i))
      → GoesAsTold step (sequence_layout ls) (rest_in_first (residing step) c (map A (names parts)) number m) (rest_in_first landing c (map B (names parts)) number m)
  first_tells ls [] number c m at = refl
  first_tells ls (e ∷ parts) number c m at =
      let k = sequence_layout ls in
      let here : slice_get ls number ≡ Some (L e.0) = ap (slice_get ls) (let z : number ≡ number + 0 = omega arith in z) ∙ sym (at 0) in
      subst (λ i. GoesAsTold step k (if knows_yes i then rest_in_first (residing step) c (map A (names parts)) (number + 1) m else option_map (λ r. InSeq number r) ((A e.0).rest c m)) (if knows_yes ((B e.0).ends c m) then rest_in_first landing c (map B (names parts)) (number + 1) m else (B e.0).rest c m))
      (sym (e.1.ends c m))
      (tells_if step k (knows_yes ((B e.0).ends c m)) _ _ _ _
      (first_tells ls parts (number + 1) c m (λ i. at (suc i) ∙ ap (slice_get ls) (let z : number + suc i ≡ number + 1 + i = omega arith in z)))
      (in_member_tells ls number (L e.0) _ _ here (e.1.rest c m)))

  member_is : (ls : List Layout) (n : ℕ) → nat_lt n (length ls) ≡ true → slice_get ls n ≡ Some (member bare ls n)
  member_is [] n h = grind (arith, h)
  member_is (l ∷ ls) zero h = refl
  member_is (l ∷ ls) (suc n) h = member_is ls n (grind (arith, h))

  told_sequence : (parts : List Proved) → AccountsAgree step (sequence (residing step) (map A (names parts))) (sequence landing (map B (names parts))) (sequence_layout (map L (names parts)))
  told_sequence parts =
      let ls = map L (names parts) in
      let none = idle (residing step) in
      record {
        ends = λ c m. ends_alike parts c (Known yes) m;
        start = λ c g m. starts_alike parts c g m;
        resume = λ c r g.
            let n = member_of r in
            let a = member none (map A (names parts)) n in
            let b = member (idle landing) (map B (names parts)) n in
            map-append Wrote (a.resume c (inner r) g) (start_in_turn c (drop (n + 1) (map A (names parts))) (both g (a.ended c (inner r))) mark.Zero)
            ∙ ap₂ (λ i j. i ++ j) ((told_member parts n).resume c (inner r) g)
            (ap (λ l. map Wrote (start_in_turn c l (both g (a.ended c (inner r))) mark.Zero)) (drop-names A parts (n + 1))
            ∙ starts_alike (drop (n + 1) parts) c (both g (a.ended c (inner r))) mark.Zero
            ∙ ap₂ (λ l k. start_in_turn c l (both g k) mark.Zero) (sym (drop-names B parts (n + 1))) ((told_member parts n).ended c (inner r)));
        ended = λ c r.
            let n = member_of r in
            ap₂ (λ l k. ends_of_all c l k mark.Zero) (drop-names A parts (n + 1)) ((told_member parts n).ended c (inner r))
            ∙ ends_alike (drop (n + 1) parts) c ((member (idle landing) (map B (names parts)) n).ended c (inner r)) mark.Zero
            ∙ ap (λ l. ends_of_all c l ((member (idle landing) (map B (names parts)) n).ended c (inner r)) mark.Zero) (sym (drop-names B parts (n + 1)));
        rest = λ c m. first_tells ls parts 0 c m (λ i. ap (slice_get ls) (let z : i ≡ 0 + i = omega arith in z));
        after = λ c r h.
            let n = member_of r in
            let fit = member_fits ls r (out-Residual r) h in
            let b = member (idle landing) (map B (names parts)) n in
            let a = member none (map A (names parts)) n in
            let later = first_tells ls (drop (n + 1) parts) (n + 1) c mark.Zero (λ i. ap (λ l. slice_get l i) (sym (drop-names L parts (n + 1))) ∙ slice_get-drop ls (n + 1) i) in
            let later_there = subst (λ l. GoesAsTold step (sequence_layout ls) (rest_in_first (residing step) c l (n + 1) mark.Zero) (rest_in_first landing c (map B (names (drop (n + 1) parts))) (n + 1) mark.Zero)) (sym (drop-names A parts (n + 1))) later in
            let later_both = subst (λ l. GoesAsTold step (sequence_layout ls) (rest_in_first (residing step) c (drop (n + 1) (map A (names parts))) (n + 1) mark.Zero) (rest_in_first landing c l (n + 1) mark.Zero)) (sym (drop-names B parts (n + 1))) later_there in
            subst (λ i. GoesAsTold step (sequence_layout ls) (if knows_yes i then rest_in_first (residing step) c (drop (n + 1) (map A (names parts))) (n + 1) mark.Zero else option_map (λ s. InSeq n s) (a.after c (inner r))) (if knows_yes (b.ended c (inner r)) then rest_in_first landing c (drop (n + 1) (map B (names parts))) (n + 1) mark.Zero else b.after c (inner r)))
            (sym ((told_member parts n).ended c (inner r)))
            (tells_if step (sequence_layout ls) (knows_yes (b.ended c (inner r))) _ _ _ _ later_both
            (in_member_tells ls n (member bare ls n) _ _ (member_is ls n fit.1) ((told_member parts n).after c (inner r) fit.0)));
        kept = λ r h.
            let n = member_of r in
            let fit = member_fits ls r (out-Residual r) h in
            in_member_tells ls n (member bare ls n) _ _ (member_is ls n fit.1) ((told_member parts n).kept (inner r) fit.0);
      }

  -- each member of a parallel
  abbrev AllTell : List Layout → List (Option Residual) → List (List Spot) → Type 0
  AllTell [] [] [] = Unit {0}
  AllTell [] [] (xs ∷ xss) = ⊥
  AllTell [] (t ∷ ts) xss = ⊥
  AllTell (l ∷ ls) [] xss = ⊥
  AllTell (l ∷ ls) (t ∷ ts) [] = ⊥
  AllTell (l ∷ ls) (t ∷ ts) (xs ∷ xss) = GoesAsTold step l t xs × AllTell ls ts xss

  abbrev joined : List (List Spot) → List Spot
  joined xss = flat_map (λ (x : List Spot). x) xss

  abbrev par_stores : List Layout → List (Option Residual) → List (ℕ × Store)
  par_stores ls ts = flat_map (λ (one : Layout × Residual). one.0.stores_at one.1) (resting ls ts)

  record ParSo (ls : List Layout) (ts : List (Option Residual)) (xs : List Spot) : Type 0 where
    nowhere : list_any (λ branch. is_some branch) ts ≡ false → xs ≡ []
    fits : fits_each ls ts ≡ true
    places : branch_places ts ≡ places_in xs
    stores : (n : ℕ) → store_among (par_stores ls ts) n ≡ option_map (store_from step) (kept_by xs n)
    somewhere : list_any (λ branch. is_some branch) ts ≡ true → is_somewhere xs ≡ true

  par_so : (ls : List Layout) (ts : List (Option Residual)) (xss : List (List Spot)) → AllTell ls ts xss → ParSo ls ts (joined xss)
  par_so [] [] [] h = record { nowhere = λ e. refl; fits = refl; places = refl; stores = λ n. refl; somewhere = λ e. absurd (false≢true e) }
  par_so [] [] (xs ∷ xss) h = absurd h
  par_so [] (t ∷ ts) xss h = absurd h
  par_so (l ∷ ls) [] xss h = absurd h
  par_so (l ∷ ls) (t ∷ ts) [] h = absurd h
  par_so (l ∷ ls) (None ∷ ts) (xs ∷ xss) h =
      let more = par_so ls ts xss h.1 in
      subst (λ z. ParSo (l ∷ ls) (None ∷ ts) (z ++ joined xss)) (sym h.0)
      record { nowhere = more.nowhere; fits = more.fits; places = more.places; stores = more.stores; somewhere = more.somewhere }
  par_so (l ∷ ls) (Some r ∷ ts) (xs ∷ xss) h =
      let more = par_so ls ts xss h.1 in
      let here = h.0 in
      record {
        nowhere = λ e. absurd (false≢true (sym e));
        fits = and_from _ _ here.fits more.fits;
        places = ap₂ (λ i j. i ++ j) here.places more.places ∙ sym (places-append xs (joined xss));
        stores = λ n.
            stores-append (l.stores_at r) (par_stores ls ts) n ∙ ap₂ (λ i j. option_or i j) (here.stores n) (more.stores n)
            ∙ map-or (store_from step) (kept_by xs n) (kept_by (joined xss) n) ∙ ap (option_map (store_from step)) (sym (kept-append xs (joined xss) n));
        somewhere = λ e. somewhere-append xs (joined xss) here.somewhere;
      }

  in_branch : (ls : List Layout) (ts : List (Option Residual)) (xs : List Spot) (yes : Bool) → list_any (λ branch. is_some branch) ts ≡ yes → ParSo ls ts xs
      → GoesAsTold step (parallel_layout ls) (if yes then Some (InPar ts) else None) xs
  in_branch ls ts xs false e p = p.nowhere e
  in_branch ls ts xs true e p =
      record {
        fits = ap (fits_in_some ls) (out-InPar ts) ∙ and_from _ _ e p.fits;
        places = places_each ts ∙ p.places;
        stores = λ n. ap (λ i. store_among (par_stores ls (branches_in i)) n) (out-InPar ts) ∙ p.stores n;
        somewhere = p.somewhere e;
      }

  par_tells : (ls : List Layout) (ts : List (Option Residual)) (xss : List (List Spot)) → AllTell ls ts xss
      → GoesAsTold step (parallel_layout ls) (in_some_branch ts) (joined xss)
  par_tells ls ts xss h = in_branch ls ts (joined xss) (list_any (λ branch. is_some branch) ts) refl (par_so ls ts xss h)

  rest_each : (parts : List Proved) (c : Context) (m : Mark)
      → AllTell (map L (names parts)) (map (λ (part : Places step). part.rest c m) (map A (names parts))) (map (λ (part : Deeds step). part.rest c m) (map B (names parts)))
  rest_each [] c m = tt
  rest_each (e ∷ parts) c m = (e.1.rest c m, rest_each parts c m)

  after_each : (parts : List Proved) (branches : List (Option Residual)) (c : Context) → fits_each (map L (names parts)) branches ≡ true
      → AllTell (map L (names parts)) (each_branch None (λ (part : Places step) inside. part.after c inside) (map A (names parts)) branches) (each_branch [] (λ (part : Deeds step) inside. part.after c inside) (map B (names parts)) branches)
  after_each [] branches c h = tt
  after_each (e ∷ parts) [] c h = absurd (false≢true h)
  after_each (e ∷ parts) (None ∷ branches) c h = (refl, after_each parts branches c h)
  after_each (e ∷ parts) (Some r ∷ branches) c h = let both = and_parts _ _ h in (e.1.after c r both.0, after_each parts branches c both.1)

  kept_each : (parts : List Proved) (branches : List (Option Residual)) → fits_each (map L (names parts)) branches ≡ true
      → AllTell (map L (names parts)) (each_branch None (λ (part : Places step) inside. part.kept inside) (map A (names parts)) branches) (each_branch [] (λ (part : Deeds step) inside. part.kept inside) (map B (names parts)) branches)
  kept_each [] branches h = tt
  kept_each (e ∷ parts) [] h = absurd (false≢true h)
  kept_each (e ∷ parts) (None ∷ branches) h = (refl, kept_each parts branches h)
  kept_each (e ∷ parts) (Some r ∷ branches) h = let both = and_parts _ _ h in (e.1.kept r both.0, kept_each parts branches both.1)

  ended_each : (parts : List Proved) (branches : List (Option Residual)) (c : Context) (so_far : Know)
      → ended_of_all c (resting (map A (names parts)) branches) so_far ≡ ended_of_all c (resting (map B (names parts)) branches) so_far
  ended_each [] branches c so_far = refl
  ended_each (e ∷ parts) [] c so_far = refl
  ended_each (e ∷ parts) (None ∷ branches) c so_far = ended_each parts branches c so_far
  ended_each (e ∷ parts) (Some r ∷ branches) c so_far =
      ap (λ i. ended_of_all c (resting (map A (names parts)) branches) (both so_far i)) (e.1.ended c r) ∙ ended_each parts branches c (both so_far ((B e.0).ended c r))

  starts_each : (parts : List Proved) (c : Context) (g : Know) (m : Mark)
      → map Wrote (flat_map (λ (part : Places step). part.start c g m) (map A (names parts))) ≡ flat_map (λ (part : Deeds step). part.start c g m) (map B (names parts))
  starts_each [] c g m = refl
  starts_each (e ∷ parts) c g m =
      map-append Wrote ((A e.0).start c g m) (flat_map (λ (part : Places step). part.start c g m) (map A (names parts)))
      ∙ ap₂ (λ i j. i ++ j) (e.1.start c g m) (starts_each parts c g m)

  resumes_each : (parts : List Proved) (branches : List (Option Residual)) (c : Context) (g : Know)
      → map Wrote (flat_map (λ (one : Places step × Residual). one.0.resume c one.1 g) (resting (map A (names parts)) branches))
      ≡ flat_map (λ (one : Deeds step × Residual). one.0.resume c one.1 g) (resting (map B (names parts)) branches)
  resumes_each [] branches c g = refl
  resumes_each (e ∷ parts) [] c g = refl
  resumes_each (e ∷ parts) (None ∷ branches) c g = resumes_each parts branches c g
  resumes_each (e ∷ parts) (Some r ∷ branches) c g =
      map-append Wrote ((A e.0).resume c r g) (flat_map (λ (one : Places step × Residual). one.0.resume c one.1 g) (resting (map A (names parts)) branches))
      ∙ ap₂ (λ i j. i ++ j) (e.1.resume c r g) (resumes_each parts branches c g)

  told_parallel : (parts : List Proved) → AccountsAgree step (parallel (residing step) (map A (names parts))) (parallel landing (map B (names parts))) (parallel_layout (map L (names parts)))
  told_parallel parts = record {
    ends = λ c m. ends_alike parts c (Known yes) m;
    start = λ c g m. starts_each parts c g m;
    resume = λ c r g. resumes_each parts (branches_of r) c g;
    ended = λ c r. ended_each parts (branches_of r) c (Known yes);
    rest = λ c m. par_tells _ _ _ (rest_each parts c m);
    after = λ c r h. par_tells _ _ _ (after_each parts (branches_of r) c (branches_fit (map L (names parts)) (out-Residual r) h));
    kept = λ r h. par_tells _ _ _ (kept_each parts (branches_of r) (branches_fit (map L (names parts)) (out-Residual r) h));
  }

  abbrev AtNode : Stmt-F Stmt → Type 0
  AtNode x =
      AccountsAgree step (node_behavior step.now (residing step) (λ number arguments. idle (residing step)) (map-Stmt Stmt (Places step) A x))
      (node_behavior step.now landing (λ number arguments. idle landing) (map-Stmt Stmt (Deeds step) B x)) (node_layout (λ number. bare) (map-Stmt Stmt Layout L x))

  at_node : (node : Stmt-F Proved) → AtNode (map-Stmt Proved Stmt (λ e. e.0) node)
  at_node Stmt-F.Nothing = told_idle step
  at_node (Stmt-F.Assign target value) = told_assignment step false target value
  at_node (Stmt-F.Delayed target value) = told_assignment step true target value
  at_node (Stmt-F.Pause place) = told_pause step place
  at_node (Stmt-F.Seq parts) = told_sequence parts
  at_node (Stmt-F.Par parts) = told_parallel parts
  at_node (Stmt-F.If condition first second) = told_choice step condition _ _ _ _ _ _ first.1 second.1
  at_node (Stmt-F.Loop number body condition) = told_loop step number condition _ _ _ body.1
  at_node (Stmt-F.Abort kind body condition) = told_abort step kind condition _ _ _ body.1
  at_node (Stmt-F.Suspend kind hold body condition) = told_suspend step kind hold condition _ _ _ body.1
  at_node (Stmt-F.Scope locals body) = told_scope step locals _ _ _ body.1
  at_node (Stmt-F.Call number proto arguments) = told_idle step
  at_node (Stmt-F.Bind bindings body) = told_bound step bindings _ _ _ body.1

  -- for every statement
  pub residuals_tell : (s : Stmt) → AccountsAgree step (A s) (B s) (L s)
  residuals_tell = ind-Stmt (λ s. AccountsAgree step (A s) (B s) (L s)) (λ x y is.
      subst (λ a. AccountsAgree step a (B (roll-Stmt x)) (L (roll-Stmt x))) (sym (fold-roll-Stmt (Places step) (node_behavior step.now (residing step) (λ number arguments. idle (residing step))) x))
      (subst (λ b. AccountsAgree step (node_behavior step.now (residing step) (λ number arguments. idle (residing step)) (map-Stmt Stmt (Places step) A x)) b (L (roll-Stmt x))) (sym (fold-roll-Stmt (Deeds step) (node_behavior step.now landing (λ number arguments. idle landing)) x))
      (subst (λ l. AccountsAgree step (node_behavior step.now (residing step) (λ number arguments. idle (residing step)) (map-Stmt Stmt (Places step) A x)) (node_behavior step.now landing (λ number arguments. idle landing) (map-Stmt Stmt (Deeds step) B x)) l) (sym (fold-roll-Stmt Layout (node_layout (λ number. bare)) x))
      (subst AtNode is (at_node y)))))
