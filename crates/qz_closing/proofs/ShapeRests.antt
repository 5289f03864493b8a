-- The shape of a statement permits what the statement does: its bits are those of where control rests nowhere, or
-- of a residual that fits, with any stores.
use Rattle.std.proofs.Common.{◌≡◌, ℕ, zero, suc, Bool, true, false, not, ◌&&◌, ◌||◌, List, [], ◌∷◌, ◌++◌, map, length, Option, Some, None, refl, sym, ap, ap₂, subst, ◌∙◌, ◌⊎◌, inl, inr, arith}
use Rattle.std.specs.Prelude.{◌==◌, nat_lt, if◌then◌else◌, is_some, zip}
use Rattle.std.specs.List.{flat_map, list_any, AllByRecursion}
use Rattle.std.proofs.lemmas.Bool.{false≢true, and_parts, and_from}
use Rattle.std.proofs.lemmas.Bool.Decides.{nat_tests}
use lib.ListN.{length-map}
use Rattle.qz_syntax.specs.declared.statements.Stmt.{Stmt, map-Stmt, roll-Stmt}
use Rattle.qz_syntax.specs.declared.statements.Stmt.TheOpen.{Stmt-F}
use Rattle.qz_syntax.specs.declared.statements.Stmt.TheFolds.{fold-Stmt, fold-roll-Stmt, ind-Stmt}
use Rattle.qz_syntax.specs.declared.places.Store.{Store}
use Rattle.qz_syntax.specs.declared.places.Residual.{Residual, out-Residual}
use Rattle.qz_syntax.specs.declared.places.Residual.TheOpen.{Residual-F}
use Rattle.qz_syntax.specs.declared.places.Residual.TheVariants.{At, Hold, InSeq, InPar, InIf, InBody, InScope}
use Rattle.qz_meaning.specs.Residuals.{inner, inner_or, member_in, side_in, branches_in, stores_in, holds_in}
use Rattle.qz_meaning.specs.Layouts.{PlaceBits, Layout, bare}
use Rattle.qz_meaning.specs.Simple.{is_at_in, pause_layout}
use Rattle.qz_meaning.specs.Sequences.{member, fits_in_one, all_away, at_one, sequence_layout}
use Rattle.qz_meaning.specs.Parallels.{resting, fits_each, fits_in_some, at_each, parallel_layout}
use Rattle.qz_meaning.specs.Choices.{fits_in_side, at_side, choice_layout}
use Rattle.qz_meaning.specs.Loops.{fits_in_body, loop_layout}
use Rattle.qz_meaning.specs.Aborts.{body_layout}
use Rattle.qz_meaning.specs.Suspends.{fits_or_holds, is_at_hold, suspend_layout}
use Rattle.qz_meaning.specs.Scopes.{fits_in_scope, scope_layout}
use Rattle.qz_meaning.specs.Walks.{node_layout, layout}
use Rattle.qz_meaning.proofs.Lists.{all_join}
use Rattle.qz_meaning.proofs.Orderly.{same_number}
use Rattle.qz_meaning.proofs.Resting.{out-At, out-Hold, out-InSeq, out-InPar, out-InIf, out-InBody, out-InScope}
use Rattle.qz_meaning.proofs.Fitting.{body_fits, scope_fits}
use Rattle.qz_system.specs.declared.resting.Resting.{Resting}
use Rattle.qz_system.specs.Restings.{resting as rest_so, or_in, and_in, in_one, in_some, at_place, node_resting}
use Rattle.qz_closing.proofs.ShapeFolds.{through, through_suspend}

pub or_cases : (a b : Bool) → (a || b) ≡ true → (a ≡ true) ⊎ (b ≡ true)
or_cases true b h = inl refl
or_cases false b h = inr h

or_left : (a b : Bool) → a ≡ true → (a || b) ≡ true
or_left true b h = refl
or_left false b h = absurd (false≢true h)

or_right : (a b : Bool) → b ≡ true → (a || b) ≡ true
or_right true b h = refl
or_right false b h = h

zero_small : (n : ℕ) → nat_lt 0 (suc n) ≡ true
zero_small n = grind (arith, nat_tests)

next_small : (k n : ℕ) → nat_lt k n ≡ true → nat_lt (suc k) (suc n) ≡ true
next_small k n h = grind (arith, nat_tests, h)

and_again : (a b c : Bool) → ((a && b) && c) ≡ (a && (b && c))
and_again true b c = refl
and_again false b c = refl

module _ (b : PlaceBits) (σ : ℕ → Store) (outputs : ℕ) where
  abbrev R : Stmt → Resting
  R = fold-Stmt Resting (through outputs (node_resting b.place))

  abbrev L : Stmt → Layout
  L = layout (λ number. bare)

  -- the store of each local is the one that is chosen for it
  abbrev pub AreChosen : List (ℕ × Store) → Type 0
  AreChosen stores = AllByRecursion (λ (one : ℕ × Store). one.1 ≡ σ one.0) stores

  -- control can rest so, the bits say that it does, and the stores are the chosen ones
  pub record Rested (l : Layout) : Type 0 where
    pub at : Residual
    pub fits : l.fits at ≡ true
    pub there : l.at b at ≡ true
    pub stores : AreChosen (l.stores_at at)

  pub record Shaped (r : Resting) (l : Layout) : Type 0 where
    pub away : l.away b ≡ r.nowhere
    pub rests : (x : Residual) → l.fits x ≡ true → l.at b x ≡ true → r.somewhere ≡ true
    pub exists : r.somewhere ≡ true → Rested l

  shaped_leaf : Shaped (rest_so true false) bare
  shaped_leaf = record { away = refl; rests = λ x h k. h; exists = λ h. absurd (false≢true h) }

  shaped_pause : (place : ℕ) → Shaped (at_place (b.place place)) (pause_layout place)
  shaped_pause place = record {
    away = refl;
    rests = λ x h k. k;
    exists = λ h. record {
      at = At place;
      fits = ap (is_at_in place) (out-At place) ∙ same_number place;
      there = h;
      stores = tt;
    };
  }

  shaped_body : (r : Resting) (l : Layout) → Shaped r l → Shaped r (body_layout l)
  shaped_body r l s = record {
    away = s.away;
    rests = λ x h k. s.rests (inner x) (body_fits l x (out-Residual x) h) k;
    exists = λ h.
        let one = s.exists h in
        record {
          at = InBody one.at;
          fits = ap (fits_in_body l) (out-InBody one.at) ∙ one.fits;
          there = ap (λ node. l.at b (inner_or (InBody one.at) node)) (out-InBody one.at) ∙ one.there;
          stores = subst (λ node. AreChosen (l.stores_at (inner_or (InBody one.at) node))) (sym (out-InBody one.at)) one.stores;
        };
  }

  shaped_loop : (number : ℕ) (r : Resting) (l : Layout) → Shaped r l → Shaped r (loop_layout number l)
  shaped_loop number r l s =
      let it = shaped_body r l s in
      record {
        away = it.away;
        rests = it.rests;
        exists = λ h. let one = it.exists h in record { at = one.at; fits = one.fits; there = one.there; stores = one.stores };
      }

  held_rests : (hold : ℕ) (r : Resting) (l : Layout) → Shaped r l → (x : Residual) (node : Residual-F Residual) → fits_or_holds (Some hold) l node ≡ true
      → (if holds_in node then b.place hold && l.away b else not (b.place hold) && l.at b (inner_or x node)) ≡ true
      → (or_in (at_place (b.place hold)) r).somewhere ≡ true
  held_rests hold r l s x (Residual-F.At place) h k = absurd (false≢true h)
  held_rests hold r l s x (Residual-F.Hold place) h k = or_left _ _ (ap (λ i. b.place hold && i) (sym s.away) ∙ k)
  held_rests hold r l s x (Residual-F.InSeq number inside) h k = absurd (false≢true h)
  held_rests hold r l s x (Residual-F.InPar branches) h k = absurd (false≢true h)
  held_rests hold r l s x (Residual-F.InIf side inside) h k = absurd (false≢true h)
  held_rests hold r l s x (Residual-F.InBody inside) h k =
      let two = and_parts _ _ k in or_right _ _ (and_from _ _ two.0 (s.rests inside h two.1))
  held_rests hold r l s x (Residual-F.InScope stores inside) h k = absurd (false≢true h)
  held_rests hold r l s x (Residual-F.InCall number) h k = absurd (false≢true h)

  free_rests : (r : Resting) (l : Layout) → Shaped r l → (x : Residual) (node : Residual-F Residual) → fits_or_holds None l node ≡ true
      → (if holds_in node then false && l.away b else not false && l.at b (inner_or x node)) ≡ true → r.somewhere ≡ true
  free_rests r l s x (Residual-F.At place) h k = absurd (false≢true h)
  free_rests r l s x (Residual-F.Hold place) h k = absurd (false≢true h)
  free_rests r l s x (Residual-F.InSeq number inside) h k = absurd (false≢true h)
  free_rests r l s x (Residual-F.InPar branches) h k = absurd (false≢true h)
  free_rests r l s x (Residual-F.InIf side inside) h k = absurd (false≢true h)
  free_rests r l s x (Residual-F.InBody inside) h k = s.rests inside h k
  free_rests r l s x (Residual-F.InScope stores inside) h k = absurd (false≢true h)
  free_rests r l s x (Residual-F.InCall number) h k = absurd (false≢true h)

  -- in the body of a suspend
  inside_body : (hold : Option ℕ) (l : Layout) (one : Rested l) → not (is_at_hold b hold) ≡ true → Rested (suspend_layout hold l)
  inside_body hold l one free = record {
    at = InBody one.at;
    fits = ap (fits_or_holds hold l) (out-InBody one.at) ∙ one.fits;
    there =
        ap (λ node. if holds_in node then is_at_hold b hold && l.away b else not (is_at_hold b hold) && l.at b (inner_or (InBody one.at) node)) (out-InBody one.at)
        ∙ and_from _ _ free one.there;
    stores = subst (λ node. AreChosen (if holds_in node then [] else l.stores_at (inner_or (InBody one.at) node))) (sym (out-InBody one.at)) one.stores;
  }

  shaped_suspend : (hold : Option ℕ) (r : Resting) (l : Layout) → Shaped r l → Shaped (through_suspend (node_resting b.place) hold r) (suspend_layout hold l)
  shaped_suspend None r l s = record {
    away = s.away;
    rests = λ x h k. free_rests r l s x (out-Residual x) h k;
    exists = λ h. inside_body None l (s.exists h) refl;
  }
  shaped_suspend (Some hold) r l s = record {
    away = ap (λ i. not (b.place hold) && i) s.away;
    rests = λ x h k. held_rests hold r l s x (out-Residual x) h k;
    exists = λ h. by_bit (or_cases (b.place hold && r.nowhere) (not (b.place hold) && r.somewhere) h);
  } where
    by_bit : ((b.place hold && r.nowhere) ≡ true) ⊎ ((not (b.place hold) && r.somewhere) ≡ true) → Rested (suspend_layout (Some hold) l)
    by_bit (inl k) = record {
      at = Hold hold;
      fits = ap (fits_or_holds (Some hold) l) (out-Hold hold) ∙ same_number hold;
      there =
          ap (λ node. if holds_in node then b.place hold && l.away b else not (b.place hold) && l.at b (inner_or (Hold hold) node)) (out-Hold hold)
          ∙ ap (λ i. b.place hold && i) s.away ∙ k;
      stores = subst (λ node. AreChosen (if holds_in node then [] else l.stores_at (inner_or (Hold hold) node))) (sym (out-Hold hold)) tt;
    }
    by_bit (inr k) = let two = and_parts _ _ k in inside_body (Some hold) l (s.exists two.1) two.0

  chosen_zip : (locals : List ℕ) → AreChosen (zip locals (map σ locals))
  chosen_zip [] = tt
  chosen_zip (n ∷ locals) = (refl, chosen_zip locals)

  shaped_scope : (locals : List ℕ) (r : Resting) (l : Layout) → Shaped r l → Shaped r (scope_layout locals l)
  shaped_scope locals r l s = record {
    away = s.away;
    rests = λ x h k. s.rests (inner x) (scope_fits locals l x (out-Residual x) h).1 k;
    exists = λ h.
        let one = s.exists h in
        let here : Residual = InScope (map σ locals) one.at in
        record {
          at = here;
          fits = ap (fits_in_scope locals l) (out-InScope (map σ locals) one.at)
              ∙ and_from _ _ (subst (λ n. (n == length locals) ≡ true) (sym (length-map locals σ)) (same_number (length locals))) one.fits;
          there = ap (λ node. l.at b (inner_or here node)) (out-InScope (map σ locals) one.at) ∙ one.there;
          stores = subst (λ node. AreChosen (l.stores_at (inner_or here node) ++ zip locals (stores_in node))) (sym (out-InScope (map σ locals) one.at))
              (all_join (λ (it : ℕ × Store). it.1 ≡ σ it.0) (l.stores_at one.at) (zip locals (map σ locals)) one.stores (chosen_zip locals));
        };
  }

  side_rests : (r r₂ : Resting) (l l₂ : Layout) → Shaped r l → Shaped r₂ l₂ → (x : Residual) (node : Residual-F Residual) → fits_in_side l l₂ node ≡ true
      → at_side b l l₂ (side_in node) (inner_or x node) ≡ true → (or_in r r₂).somewhere ≡ true
  side_rests r r₂ l l₂ s t x (Residual-F.At place) h k = absurd (false≢true h)
  side_rests r r₂ l l₂ s t x (Residual-F.Hold place) h k = absurd (false≢true h)
  side_rests r r₂ l l₂ s t x (Residual-F.InSeq number inside) h k = absurd (false≢true h)
  side_rests r r₂ l l₂ s t x (Residual-F.InPar branches) h k = absurd (false≢true h)
  side_rests r r₂ l l₂ s t x (Residual-F.InIf true inside) h k =
      let two = and_parts _ _ k in or_left _ _ (and_from _ _ (s.rests inside h two.0) (sym t.away ∙ two.1))
  side_rests r r₂ l l₂ s t x (Residual-F.InIf false inside) h k =
      let two = and_parts _ _ k in or_right _ _ (and_from _ _ (sym s.away ∙ two.0) (t.rests inside h two.1))
  side_rests r r₂ l l₂ s t x (Residual-F.InBody inside) h k = absurd (false≢true h)
  side_rests r r₂ l l₂ s t x (Residual-F.InScope stores inside) h k = absurd (false≢true h)
  side_rests r r₂ l l₂ s t x (Residual-F.InCall number) h k = absurd (false≢true h)

  shaped_choice : (r r₂ : Resting) (l l₂ : Layout) → Shaped r l → Shaped r₂ l₂ → Shaped (or_in r r₂) (choice_layout l l₂)
  shaped_choice r r₂ l l₂ s t = record {
    away = ap₂ (λ i j. i && j) s.away t.away;
    rests = λ x h k. side_rests r r₂ l l₂ s t x (out-Residual x) h k;
    exists = λ h. by_side (or_cases (r.somewhere && r₂.nowhere) (r.nowhere && r₂.somewhere) h);
  } where
    by_side : ((r.somewhere && r₂.nowhere) ≡ true) ⊎ ((r.nowhere && r₂.somewhere) ≡ true) → Rested (choice_layout l l₂)
    by_side (inl k) =
        let two = and_parts _ _ k in
        let one = s.exists two.0 in
        let here : Residual = InIf true one.at in
        record {
          at = here;
          fits = ap (fits_in_side l l₂) (out-InIf true one.at) ∙ one.fits;
          there = ap (λ node. at_side b l l₂ (side_in node) (inner_or here node)) (out-InIf true one.at) ∙ and_from _ _ one.there (t.away ∙ two.1);
          stores = subst (λ node. AreChosen ((if side_in node then l else l₂).stores_at (inner_or here node))) (sym (out-InIf true one.at)) one.stores;
        }
    by_side (inr k) =
        let two = and_parts _ _ k in
        let one = t.exists two.1 in
        let here : Residual = InIf false one.at in
        record {
          at = here;
          fits = ap (fits_in_side l l₂) (out-InIf false one.at) ∙ one.fits;
          there = ap (λ node. at_side b l l₂ (side_in node) (inner_or here node)) (out-InIf false one.at) ∙ and_from _ _ (s.away ∙ two.0) one.there;
          stores = subst (λ node. AreChosen ((if side_in node then l else l₂).stores_at (inner_or here node))) (sym (out-InIf false one.at)) one.stores;
        }

  abbrev AllShaped : List Stmt → Type 0
  AllShaped parts = AllByRecursion (λ s. Shaped (R s) (L s)) parts

  -- members of which control rests in one
  one_away : (parts : List Stmt) → AllShaped parts → (so_far : Resting) → (in_one so_far (map R parts)).nowhere ≡ (so_far.nowhere && all_away b (map L parts))
  one_away [] all so_far = and_true so_far.nowhere where
    and_true : (a : Bool) → a ≡ (a && true)
    and_true true = refl
    and_true false = refl
  one_away (s ∷ parts) all so_far =
      one_away parts all.1 (or_in so_far (R s)) ∙ and_again so_far.nowhere (R s).nowhere (all_away b (map L parts))
      ∙ ap (λ i. so_far.nowhere && (i && all_away b (map L parts))) (sym all.0.away)

  one_stays : (parts : List Stmt) → AllShaped parts → (so_far : Resting) → so_far.somewhere ≡ true → all_away b (map L parts) ≡ true
      → (in_one so_far (map R parts)).somewhere ≡ true
  one_stays [] all so_far h k = h
  one_stays (s ∷ parts) all so_far h k =
      let two = and_parts _ _ k in
      one_stays parts all.1 (or_in so_far (R s)) (or_left _ _ (and_from _ _ h (sym all.0.away ∙ two.0))) two.1

  one_rests : (parts : List Stmt) → AllShaped parts → (so_far : Resting) (number : ℕ) (x : Residual) → (member bare (map L parts) number).fits x ≡ true
      → at_one b (map L parts) number x ≡ true → so_far.nowhere ≡ true → (in_one so_far (map R parts)).somewhere ≡ true
  one_rests [] all so_far number x fits h k = absurd (false≢true h)
  one_rests (s ∷ parts) all so_far zero x fits h k =
      let two = and_parts _ _ h in
      one_stays parts all.1 (or_in so_far (R s)) (or_right _ _ (and_from _ _ k (all.0.rests x fits two.0))) two.1
  one_rests (s ∷ parts) all so_far (suc number) x fits h k =
      let two = and_parts _ _ h in
      one_rests parts all.1 (or_in so_far (R s)) number x fits two.1 (and_from _ _ k (sym all.0.away ∙ two.0))

  record OneRested (ls : List Layout) : Type 0 where
    number : ℕ
    inside : Residual
    small : nat_lt number (length ls) ≡ true
    fits : (member bare ls number).fits inside ≡ true
    there : at_one b ls number inside ≡ true
    stores : AreChosen ((member bare ls number).stores_at inside)

  one_exists : (parts : List Stmt) → AllShaped parts → (so_far : Resting) → (in_one so_far (map R parts)).somewhere ≡ true
      → ((so_far.somewhere ≡ true) × (all_away b (map L parts) ≡ true)) ⊎ ((so_far.nowhere ≡ true) × OneRested (map L parts))
  one_exists [] all so_far h = inl (h, refl)
  one_exists (s ∷ parts) all so_far h = by_rest (one_exists parts all.1 (or_in so_far (R s)) h) where
    first : (so_far.nowhere && (R s).somewhere) ≡ true → all_away b (map L parts) ≡ true → (so_far.nowhere ≡ true) × OneRested (map L (s ∷ parts))
    first k rest =
        let two = and_parts _ _ k in
        let one = all.0.exists two.1 in
        (two.0, record { number = 0; inside = one.at; small = zero_small (length (map L parts)); fits = one.fits; there = and_from _ _ one.there rest; stores = one.stores })

    by_first : ((so_far.somewhere && (R s).nowhere) ≡ true) ⊎ ((so_far.nowhere && (R s).somewhere) ≡ true) → all_away b (map L parts) ≡ true
        → ((so_far.somewhere ≡ true) × (all_away b (map L (s ∷ parts)) ≡ true)) ⊎ ((so_far.nowhere ≡ true) × OneRested (map L (s ∷ parts)))
    by_first (inl k) rest = let two = and_parts _ _ k in inl (two.0, and_from _ _ (all.0.away ∙ two.1) rest)
    by_first (inr k) rest = inr (first k rest)

    by_rest : (((or_in so_far (R s)).somewhere ≡ true) × (all_away b (map L parts) ≡ true)) ⊎ (((or_in so_far (R s)).nowhere ≡ true) × OneRested (map L parts))
        → ((so_far.somewhere ≡ true) × (all_away b (map L (s ∷ parts)) ≡ true)) ⊎ ((so_far.nowhere ≡ true) × OneRested (map L (s ∷ parts)))
    by_rest (inl (k, rest)) = by_first (or_cases (so_far.somewhere && (R s).nowhere) (so_far.nowhere && (R s).somewhere) k) rest
    by_rest (inr (k, one)) =
        let two = and_parts _ _ k in
        inr (
          two.0,
          record {
            number = suc one.number;
            inside = one.inside;
            small = next_small one.number (length (map L parts)) one.small;
            fits = one.fits;
            there = and_from _ _ (all.0.away ∙ two.1) one.there;
            stores = one.stores;
          },
        )

  in_sequence : (parts : List Stmt) → OneRested (map L parts) → Rested (sequence_layout (map L parts))
  in_sequence parts one =
      let here : Residual = InSeq one.number one.inside in
      record {
        at = here;
        fits = ap (fits_in_one (map L parts)) (out-InSeq one.number one.inside) ∙ and_from _ _ one.small one.fits;
        there = ap (λ node. at_one b (map L parts) (member_in node) (inner_or here node)) (out-InSeq one.number one.inside) ∙ one.there;
        stores = subst (λ node. AreChosen ((member bare (map L parts) (member_in node)).stores_at (inner_or here node))) (sym (out-InSeq one.number one.inside)) one.stores;
      }

  sequence_rests : (parts : List Stmt) → AllShaped parts → (x : Residual) (node : Residual-F Residual) → fits_in_one (map L parts) node ≡ true
      → at_one b (map L parts) (member_in node) (inner_or x node) ≡ true → (in_one (rest_so true false) (map R parts)).somewhere ≡ true
  sequence_rests parts all x (Residual-F.At place) h k = absurd (false≢true h)
  sequence_rests parts all x (Residual-F.Hold place) h k = absurd (false≢true h)
  sequence_rests parts all x (Residual-F.InSeq number inside) h k = one_rests parts all (rest_so true false) number inside (and_parts _ _ h).1 k refl
  sequence_rests parts all x (Residual-F.InPar branches) h k = absurd (false≢true h)
  sequence_rests parts all x (Residual-F.InIf side inside) h k = absurd (false≢true h)
  sequence_rests parts all x (Residual-F.InBody inside) h k = absurd (false≢true h)
  sequence_rests parts all x (Residual-F.InScope stores inside) h k = absurd (false≢true h)
  sequence_rests parts all x (Residual-F.InCall number) h k = absurd (false≢true h)

  shaped_sequence : (parts : List Stmt) → AllShaped parts → Shaped (in_one (rest_so true false) (map R parts)) (sequence_layout (map L parts))
  shaped_sequence parts all = record {
    away = sym (one_away parts all (rest_so true false));
    rests = λ x h k. sequence_rests parts all x (out-Residual x) h k;
    exists = λ h. by_one (one_exists parts all (rest_so true false) h);
  } where
    by_one : ((false ≡ true) × (all_away b (map L parts) ≡ true)) ⊎ ((true ≡ true) × OneRested (map L parts)) → Rested (sequence_layout (map L parts))
    by_one (inl (k, rest)) = absurd (false≢true k)
    by_one (inr (k, one)) = in_sequence parts one

  -- members of which control rests in some
  some_away : (parts : List Stmt) → AllShaped parts → (so_far : Resting) → (in_some so_far (map R parts)).nowhere ≡ (so_far.nowhere && all_away b (map L parts))
  some_away [] all so_far = and_true so_far.nowhere where
    and_true : (a : Bool) → a ≡ (a && true)
    and_true true = refl
    and_true false = refl
  some_away (s ∷ parts) all so_far =
      some_away parts all.1 (and_in so_far (R s)) ∙ and_again so_far.nowhere (R s).nowhere (all_away b (map L parts))
      ∙ ap (λ i. so_far.nowhere && (i && all_away b (map L parts))) (sym all.0.away)

  record SomeRest (parts : List Stmt) (branches : List (Option Residual)) (so_far : Resting) : Type 0 where
    more : so_far.somewhere ≡ true → (in_some so_far (map R parts)).somewhere ≡ true
    any : so_far.nowhere ≡ true → list_any (λ branch. is_some branch) branches ≡ true → (in_some so_far (map R parts)).somewhere ≡ true

  some_rest : (parts : List Stmt) → AllShaped parts → (branches : List (Option Residual)) (so_far : Resting) → fits_each (map L parts) branches ≡ true
      → at_each b (map L parts) branches ≡ true → SomeRest parts branches so_far
  some_rest [] all [] so_far h k = record { more = λ i. i; any = λ i j. absurd (false≢true j) }
  some_rest [] all (branch ∷ branches) so_far h k = absurd (false≢true h)
  some_rest (s ∷ parts) all [] so_far h k = absurd (false≢true h)
  some_rest (s ∷ parts) all (None ∷ branches) so_far h k =
      let two = and_parts _ _ k in
      let rest = some_rest parts all.1 branches (and_in so_far (R s)) h two.1 in
      let none = sym all.0.away ∙ two.0 in
      record {
        more = λ i. rest.more (or_left _ _ (and_from _ _ i (or_left _ _ none)));
        any = λ i j. rest.any (and_from _ _ i none) j;
      }
  some_rest (s ∷ parts) all (Some x ∷ branches) so_far h k =
      let fit = and_parts _ _ h in
      let two = and_parts _ _ k in
      let rest = some_rest parts all.1 branches (and_in so_far (R s)) fit.1 two.1 in
      let here = all.0.rests x fit.0 two.0 in
      record {
        more = λ i. rest.more (or_left _ _ (and_from _ _ i (or_right (R s).nowhere _ here)));
        any = λ i j. rest.more (or_right _ _ (and_from _ _ i here));
      }

  record EachRested (ls : List Layout) : Type 0 where
    branches : List (Option Residual)
    fits : fits_each ls branches ≡ true
    there : at_each b ls branches ≡ true
    stores : AreChosen (flat_map (λ (one : Layout × Residual). one.0.stores_at one.1) (resting ls branches))

  abbrev IsAny : (ls : List Layout) → EachRested ls → Type 0
  IsAny ls each = list_any (λ branch. is_some branch) each.branches ≡ true

  with_none : (l : Layout) (ls : List Layout) → l.away b ≡ true → EachRested ls → EachRested (l ∷ ls)
  with_none l ls h each = record { branches = None ∷ each.branches; fits = each.fits; there = and_from _ _ h each.there; stores = each.stores }

  with_some : (l : Layout) (ls : List Layout) → Rested l → EachRested ls → EachRested (l ∷ ls)
  with_some l ls one each = record {
    branches = Some one.at ∷ each.branches;
    fits = and_from _ _ one.fits each.fits;
    there = and_from _ _ one.there each.there;
    stores = all_join (λ (it : ℕ × Store). it.1 ≡ σ it.0) (l.stores_at one.at) _ one.stores each.stores;
  }

  some_exist : (parts : List Stmt) → AllShaped parts → (so_far : Resting) → (in_some so_far (map R parts)).somewhere ≡ true
      → ((so_far.somewhere ≡ true) × EachRested (map L parts)) ⊎ ((so_far.nowhere ≡ true) × ((each : EachRested (map L parts)) × IsAny (map L parts) each))
  unfolding with_some with_none
  some_exist [] all so_far h = inl (h, record { branches = []; fits = refl; there = refl; stores = tt })
  some_exist (s ∷ parts) all so_far h = by_rest (some_exist parts all.1 (and_in so_far (R s)) h) where
    by_more : ((R s).nowhere ≡ true) ⊎ ((R s).somewhere ≡ true) → EachRested (map L parts) → EachRested (map L (s ∷ parts))
    by_more (inl k) each = with_none (L s) (map L parts) (all.0.away ∙ k) each
    by_more (inr k) each = with_some (L s) (map L parts) (all.0.exists k) each

    by_first : ((so_far.somewhere && ((R s).nowhere || (R s).somewhere)) ≡ true) ⊎ ((so_far.nowhere && (R s).somewhere) ≡ true) → EachRested (map L parts)
        → ((so_far.somewhere ≡ true) × EachRested (map L (s ∷ parts)))
        ⊎ ((so_far.nowhere ≡ true) × ((each : EachRested (map L (s ∷ parts))) × IsAny (map L (s ∷ parts)) each))
    by_first (inl k) each = let two = and_parts _ _ k in inl (two.0, by_more (or_cases (R s).nowhere (R s).somewhere two.1) each)
    by_first (inr k) each = let two = and_parts _ _ k in inr (two.0, (with_some (L s) (map L parts) (all.0.exists two.1) each, refl))

    by_rest : (((and_in so_far (R s)).somewhere ≡ true) × EachRested (map L parts))
        ⊎ (((and_in so_far (R s)).nowhere ≡ true) × ((each : EachRested (map L parts)) × IsAny (map L parts) each))
        → ((so_far.somewhere ≡ true) × EachRested (map L (s ∷ parts)))
        ⊎ ((so_far.nowhere ≡ true) × ((each : EachRested (map L (s ∷ parts))) × IsAny (map L (s ∷ parts)) each))
    by_rest (inl (k, each)) =
        by_first (or_cases (so_far.somewhere && ((R s).nowhere || (R s).somewhere)) (so_far.nowhere && (R s).somewhere) k) each
    by_rest (inr (k, found)) =
        let two = and_parts _ _ k in
        inr (two.0, (with_none (L s) (map L parts) (all.0.away ∙ two.1) found.0, found.1))

  parallel_rests : (parts : List Stmt) → AllShaped parts → (x : Residual) (node : Residual-F Residual) → fits_in_some (map L parts) node ≡ true
      → at_each b (map L parts) (branches_in node) ≡ true → (in_some (rest_so true false) (map R parts)).somewhere ≡ true
  parallel_rests parts all x (Residual-F.At place) h k = absurd (false≢true h)
  parallel_rests parts all x (Residual-F.Hold place) h k = absurd (false≢true h)
  parallel_rests parts all x (Residual-F.InSeq number inside) h k = absurd (false≢true h)
  parallel_rests parts all x (Residual-F.InPar branches) h k =
      let two = and_parts _ _ h in (some_rest parts all branches (rest_so true false) two.1 k).any refl two.0
  parallel_rests parts all x (Residual-F.InIf side inside) h k = absurd (false≢true h)
  parallel_rests parts all x (Residual-F.InBody inside) h k = absurd (false≢true h)
  parallel_rests parts all x (Residual-F.InScope stores inside) h k = absurd (false≢true h)
  parallel_rests parts all x (Residual-F.InCall number) h k = absurd (false≢true h)

  in_parallel : (parts : List Stmt) → (each : EachRested (map L parts)) → IsAny (map L parts) each → Rested (parallel_layout (map L parts))
  in_parallel parts each any =
      let here : Residual = InPar each.branches in
      record {
        at = here;
        fits = ap (fits_in_some (map L parts)) (out-InPar each.branches) ∙ and_from _ _ any each.fits;
        there = ap (λ node. at_each b (map L parts) (branches_in node)) (out-InPar each.branches) ∙ each.there;
        stores = subst (λ node. AreChosen (flat_map (λ (one : Layout × Residual). one.0.stores_at one.1) (resting (map L parts) (branches_in node))))
            (sym (out-InPar each.branches)) each.stores;
      }

  shaped_parallel : (parts : List Stmt) → AllShaped parts → Shaped (in_some (rest_so true false) (map R parts)) (parallel_layout (map L parts))
  shaped_parallel parts all = record {
    away = sym (some_away parts all (rest_so true false));
    rests = λ x h k. parallel_rests parts all x (out-Residual x) h k;
    exists = λ h. by_some (some_exist parts all (rest_so true false) h);
  } where
    by_some : ((false ≡ true) × EachRested (map L parts)) ⊎ ((true ≡ true) × ((each : EachRested (map L parts)) × IsAny (map L parts) each))
        → Rested (parallel_layout (map L parts))
    by_some (inl (k, each)) = absurd (false≢true k)
    by_some (inr (k, found)) = in_parallel parts found.0 found.1

  abbrev Claimed : Type 0
  Claimed = (s : Stmt) × Shaped (R s) (L s)

  abbrev names : List Claimed → List Stmt
  names parts = map (λ (e : Claimed). e.0) parts

  all_shaped : (parts : List Claimed) → AllShaped (names parts)
  all_shaped [] = tt
  all_shaped (e ∷ parts) = (e.1, all_shaped parts)

  abbrev AtNode : Stmt-F Stmt → Type 0
  AtNode x = Shaped (through outputs (node_resting b.place) (map-Stmt Stmt Resting R x)) (node_layout (λ number. bare) (map-Stmt Stmt Layout L x))

  at_node : (node : Stmt-F Claimed) → AtNode (map-Stmt Claimed Stmt (λ e. e.0) node)
  at_node Stmt-F.Nothing = shaped_leaf
  at_node (Stmt-F.Assign target value) = shaped_leaf
  at_node (Stmt-F.Delayed target value) = shaped_leaf
  at_node (Stmt-F.Pause place) = shaped_pause place
  at_node (Stmt-F.Seq parts) = shaped_sequence (names parts) (all_shaped parts)
  at_node (Stmt-F.Par parts) = shaped_parallel (names parts) (all_shaped parts)
  at_node (Stmt-F.If condition first second) = shaped_choice _ _ _ _ first.1 second.1
  at_node (Stmt-F.Loop number body condition) = shaped_loop number _ _ body.1
  at_node (Stmt-F.Abort kind body condition) = shaped_body _ _ body.1
  at_node (Stmt-F.Suspend kind hold body condition) = shaped_suspend hold _ _ body.1
  at_node (Stmt-F.Scope locals body) = shaped_scope locals _ _ body.1
  at_node (Stmt-F.Call number proto arguments) = shaped_leaf
  at_node (Stmt-F.Bind bindings body) = body.1

  pub statements_shaped : (s : Stmt) → Shaped (R s) (L s)
  statements_shaped = ind-Stmt (λ s. Shaped (R s) (L s)) (λ x y is.
      subst (λ (i : Resting). Shaped i (L (roll-Stmt x))) (sym (fold-roll-Stmt Resting (through outputs (node_resting b.place)) x))
      (subst (λ l. Shaped (through outputs (node_resting b.place) (map-Stmt Stmt Resting R x)) l) (sym (fold-roll-Stmt Layout (node_layout (λ number. bare)) x))
      (subst AtNode is (at_node y))))
