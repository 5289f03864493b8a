-- The bits of a residual's places: where they say that control rests so, they are those of the places that it names.
use Rattle.std.proofs.Common.{◌≡◌, ℕ, zero, suc, Bool, true, false, not, ◌&&◌, ◌||◌, List, [], ◌∷◌, ◌++◌, map, Option, Some, None, refl, sym, ap, subst, ◌∙◌, ◌⊎◌, inl, inr}
use Rattle.std.specs.Prelude.{◌==◌, if◌then◌else◌}
use Rattle.std.specs.List.{AllByRecursion}
use Rattle.std.proofs.lemmas.Bool.{false≢true, and_parts}
use Rattle.qz_syntax.specs.declared.statements.Stmt.{Stmt, map-Stmt, roll-Stmt}
use Rattle.qz_syntax.specs.declared.statements.Stmt.TheOpen.{Stmt-F}
use Rattle.qz_syntax.specs.declared.statements.Stmt.TheFolds.{fold-roll-Stmt, ind-Stmt}
use Rattle.qz_syntax.specs.declared.places.Residual.{Residual, out-Residual, map-Residual}
use Rattle.qz_syntax.specs.declared.places.Residual.TheOpen.{Residual-F}
use Rattle.qz_meaning.specs.Residuals.{inner, inner_or, member_of, side_of, branches_in, branches_of, holds_in}
use Rattle.qz_meaning.specs.Layouts.{PlaceBits, Layout, bare}
use Rattle.qz_meaning.specs.Simple.{is_at_in, pause_layout}
use Rattle.qz_meaning.specs.Sequences.{member, fits_in_one, all_away, at_one, sequence_layout}
use Rattle.qz_meaning.specs.Parallels.{fits_each, fits_in_some, at_each, parallel_layout}
use Rattle.qz_meaning.specs.Choices.{fits_in_side, at_side, choice_layout}
use Rattle.qz_meaning.specs.Loops.{fits_in_body, loop_layout}
use Rattle.qz_meaning.specs.Aborts.{body_layout}
use Rattle.qz_meaning.specs.Suspends.{fits_or_holds, suspend_layout}
use Rattle.qz_meaning.specs.Scopes.{fits_in_scope, scope_layout}
use Rattle.qz_meaning.specs.Walks.{node_layout, layout}
use Rattle.qz_meaning.proofs.Orderly.{same_number}
use Rattle.qz_meaning.proofs.Fitting.{body_fits, side_fits, scope_fits, member_fits, branches_fit}
use Rattle.std.proofs.lemmas.Bool.{eqb-true}
use Rattle.std.proofs.lemmas.List.{append-nil}
use Rattle.qz_syntax.specs.declared.places.Residual.TheFolds.{fold_out-Residual}
use Rattle.std.proofs.lemmas.List.Folds.{list_any-append}
use Rattle.std.specs.List.{concat}
use Rattle.std.specs.Prelude.{option_to_list}
use Rattle.qz_syntax.specs.Numbers.{contains, parts_of, own_places, places_of}
use Rattle.qz_meaning.specs.Valuations.{resting_places, node_places}
use Rattle.qz_closing.proofs.ShapeRests.{or_cases}

or_left : (a b : Bool) → a ≡ true → (a || b) ≡ true
or_left true b h = refl
or_left false b h = absurd (false≢true h)

or_right : (a b : Bool) → b ≡ true → (a || b) ≡ true
or_right true b h = refl
or_right false b h = h

not_false : (a : Bool) → not a ≡ true → a ≡ false
not_false true h = absurd (false≢true h)
not_false false h = refl

in_both : (xs ys : List ℕ) (n : ℕ) → contains (xs ++ ys) n ≡ (contains xs n || contains ys n)
in_both xs ys n = list_any-append (λ number. number == n) xs ys

in_cases : (xs ys : List ℕ) (n : ℕ) → contains (xs ++ ys) n ≡ true → (contains xs n ≡ true) ⊎ (contains ys n ≡ true)
in_cases xs ys n h = or_cases (contains xs n) (contains ys n) (sym (in_both xs ys n) ∙ h)

in_first : (xs ys : List ℕ) (n : ℕ) → contains xs n ≡ true → contains (xs ++ ys) n ≡ true
in_first xs ys n h = in_both xs ys n ∙ or_left _ _ h

in_second : (xs ys : List ℕ) (n : ℕ) → contains ys n ≡ true → contains (xs ++ ys) n ≡ true
in_second xs ys n h = in_both xs ys n ∙ or_right _ _ h

-- the only one of a list
in_one_only : (x n : ℕ) → contains (x ∷ []) n ≡ true → x ≡ n
in_one_only x n h = by_test (x == n) refl h where
  by_test : (t : Bool) → (x == n) ≡ t → (t || false) ≡ true → x ≡ n
  by_test true e k = eqb-true x n e
  by_test false e k = absurd (false≢true k)

only_one : (x n : ℕ) → x ≡ n → contains (x ∷ []) n ≡ true
only_one x n e = subst (λ i. contains (x ∷ []) i ≡ true) e (or_left (x == x) false (same_number x))

module _ (b : PlaceBits) where
  abbrev L : Stmt → Layout
  L = layout (λ number. bare)

  -- what the bits say of the places of a statement
  pub record Backs (l : Layout) (places : List ℕ) : Type 0 where
    pub inside : (x : Residual) → l.fits x ≡ true → l.at b x ≡ true → (n : ℕ) → contains (resting_places x) n ≡ true → b.place n ≡ true
    pub only : (x : Residual) → l.fits x ≡ true → l.at b x ≡ true → (n : ℕ) → contains places n ≡ true → b.place n ≡ true
        → contains (resting_places x) n ≡ true
    pub away : l.away b ≡ true → (n : ℕ) → contains places n ≡ true → b.place n ≡ false

  -- the places of a residual, one level at a time
  abbrev places_at : Residual-F Residual → List ℕ
  places_at node = node_places (map-Residual Residual (List ℕ) resting_places node)

  places_out : (x : Residual) → resting_places x ≡ places_at (out-Residual x)
  places_out x = fold_out-Residual (List ℕ) node_places x

  body_places : (l : Layout) (x : Residual) (node : Residual-F Residual) → fits_in_body l node ≡ true → places_at node ≡ resting_places (inner_or x node)
  body_places l x (Residual-F.At place) h = absurd (false≢true h)
  body_places l x (Residual-F.Hold place) h = absurd (false≢true h)
  body_places l x (Residual-F.InSeq number s) h = absurd (false≢true h)
  body_places l x (Residual-F.InPar branches) h = absurd (false≢true h)
  body_places l x (Residual-F.InIf side s) h = absurd (false≢true h)
  body_places l x (Residual-F.InBody s) h = refl
  body_places l x (Residual-F.InScope stores s) h = absurd (false≢true h)
  body_places l x (Residual-F.InCall number) h = absurd (false≢true h)

  side_places : (l l₂ : Layout) (x : Residual) (node : Residual-F Residual) → fits_in_side l l₂ node ≡ true → places_at node ≡ resting_places (inner_or x node)
  side_places l l₂ x (Residual-F.At place) h = absurd (false≢true h)
  side_places l l₂ x (Residual-F.Hold place) h = absurd (false≢true h)
  side_places l l₂ x (Residual-F.InSeq number s) h = absurd (false≢true h)
  side_places l l₂ x (Residual-F.InPar branches) h = absurd (false≢true h)
  side_places l l₂ x (Residual-F.InIf side s) h = refl
  side_places l l₂ x (Residual-F.InBody s) h = absurd (false≢true h)
  side_places l l₂ x (Residual-F.InScope stores s) h = absurd (false≢true h)
  side_places l l₂ x (Residual-F.InCall number) h = absurd (false≢true h)

  scope_places : (locals : List ℕ) (l : Layout) (x : Residual) (node : Residual-F Residual) → fits_in_scope locals l node ≡ true → places_at node ≡ resting_places (inner_or x node)
  scope_places locals l x (Residual-F.At place) h = absurd (false≢true h)
  scope_places locals l x (Residual-F.Hold place) h = absurd (false≢true h)
  scope_places locals l x (Residual-F.InSeq number s) h = absurd (false≢true h)
  scope_places locals l x (Residual-F.InPar branches) h = absurd (false≢true h)
  scope_places locals l x (Residual-F.InIf side s) h = absurd (false≢true h)
  scope_places locals l x (Residual-F.InBody s) h = absurd (false≢true h)
  scope_places locals l x (Residual-F.InScope stores s) h = refl
  scope_places locals l x (Residual-F.InCall number) h = absurd (false≢true h)

  member_places : (ls : List Layout) (x : Residual) (node : Residual-F Residual) → fits_in_one ls node ≡ true → places_at node ≡ resting_places (inner_or x node)
  member_places ls x (Residual-F.At place) h = absurd (false≢true h)
  member_places ls x (Residual-F.Hold place) h = absurd (false≢true h)
  member_places ls x (Residual-F.InSeq number s) h = refl
  member_places ls x (Residual-F.InPar branches) h = absurd (false≢true h)
  member_places ls x (Residual-F.InIf side s) h = absurd (false≢true h)
  member_places ls x (Residual-F.InBody s) h = absurd (false≢true h)
  member_places ls x (Residual-F.InScope stores s) h = absurd (false≢true h)
  member_places ls x (Residual-F.InCall number) h = absurd (false≢true h)

  abbrev branch_places : List (Option Residual) → List ℕ
  branch_places branches = places_at (Residual-F.InPar branches)

  parallel_places : (ls : List Layout) (node : Residual-F Residual) → fits_in_some ls node ≡ true → places_at node ≡ branch_places (branches_in node)
  parallel_places ls (Residual-F.At place) h = absurd (false≢true h)
  parallel_places ls (Residual-F.Hold place) h = absurd (false≢true h)
  parallel_places ls (Residual-F.InSeq number s) h = absurd (false≢true h)
  parallel_places ls (Residual-F.InPar branches) h = refl
  parallel_places ls (Residual-F.InIf side s) h = absurd (false≢true h)
  parallel_places ls (Residual-F.InBody s) h = absurd (false≢true h)
  parallel_places ls (Residual-F.InScope stores s) h = absurd (false≢true h)
  parallel_places ls (Residual-F.InCall number) h = absurd (false≢true h)

  pause_places : (place : ℕ) (node : Residual-F Residual) → is_at_in place node ≡ true → places_at node ≡ place ∷ []
  pause_places place (Residual-F.At other) h = ap (λ (n : ℕ). n ∷ []) (sym (eqb-true place other h))
  pause_places place (Residual-F.Hold other) h = absurd (false≢true h)
  pause_places place (Residual-F.InSeq number s) h = absurd (false≢true h)
  pause_places place (Residual-F.InPar branches) h = absurd (false≢true h)
  pause_places place (Residual-F.InIf side s) h = absurd (false≢true h)
  pause_places place (Residual-F.InBody s) h = absurd (false≢true h)
  pause_places place (Residual-F.InScope stores s) h = absurd (false≢true h)
  pause_places place (Residual-F.InCall number) h = absurd (false≢true h)

  backs_bare : (places : List ℕ) → ((n : ℕ) → contains places n ≡ false) → Backs bare places
  backs_bare places none = record {
    inside = λ x h k. absurd (false≢true h);
    only = λ x h k. absurd (false≢true h);
    away = λ h n t. absurd (false≢true (sym (none n) ∙ t));
  }

  backs_pause : (place : ℕ) → Backs (pause_layout place) (place ∷ [])
  backs_pause place = record {
    inside = λ x h k n t. subst (λ i. b.place i ≡ true) (in_one_only place n (subst (λ (l : List ℕ). contains l n ≡ true) (rests x h) t)) k;
    only = λ x h k n t u. subst (λ (l : List ℕ). contains l n ≡ true) (sym (rests x h)) t;
    away = λ h n t. subst (λ i. b.place i ≡ false) (in_one_only place n t) (not_false (b.place place) h);
  } where
    rests : (x : Residual) → is_at_in place (out-Residual x) ≡ true → resting_places x ≡ place ∷ []
    rests x h = places_out x ∙ pause_places place (out-Residual x) h

  -- a statement round a body, with no place of its own
  backs_inner : (l k : Layout) (places : List ℕ)
      → ((x : Residual) → k.fits x ≡ true → (l.fits (inner x) ≡ true) × (resting_places x ≡ resting_places (inner x)))
      → ((x : Residual) → k.at b x ≡ l.at b (inner x)) → (k.away b ≡ l.away b) → Backs l places → Backs k (places ++ [])
  backs_inner l k places fit same gone s = subst (Backs k) (sym (append-nil places)) record {
    inside = λ x h at n t. let two = fit x h in
        s.inside (inner x) two.0 (sym (same x) ∙ at) n (subst (λ (l : List ℕ). contains l n ≡ true) two.1 t);
    only = λ x h at n t u. let two = fit x h in
        subst (λ (l : List ℕ). contains l n ≡ true) (sym two.1) (s.only (inner x) two.0 (sym (same x) ∙ at) n t u);
    away = λ h n t. s.away (sym gone ∙ h) n t;
  }

  backs_body : (l : Layout) (places : List ℕ) → Backs l places → Backs (body_layout l) (places ++ [])
  backs_body l places s =
      backs_inner l (body_layout l) places
      (λ x h. (body_fits l x (out-Residual x) h, places_out x ∙ body_places l x (out-Residual x) h)) (λ x. refl) refl s

  backs_loop : (number : ℕ) (l : Layout) (places : List ℕ) → Backs l places → Backs (loop_layout number l) (places ++ [])
  backs_loop number l places s =
      backs_inner l (loop_layout number l) places
      (λ x h. (body_fits l x (out-Residual x) h, places_out x ∙ body_places l x (out-Residual x) h)) (λ x. refl) refl s

  backs_scope : (locals : List ℕ) (l : Layout) (places : List ℕ) → Backs l places → Backs (scope_layout locals l) (places ++ [])
  backs_scope locals l places s =
      backs_inner l (scope_layout locals l) places
      (λ x h. ((scope_fits locals l x (out-Residual x) h).1, places_out x ∙ scope_places locals l x (out-Residual x) h)) (λ x. refl) refl s

  backs_choice : (l l₂ : Layout) (P Q : List ℕ) → Backs l P → Backs l₂ Q → Backs (choice_layout l l₂) (P ++ (Q ++ []))
  backs_choice l l₂ P Q s t = subst (λ (R : List ℕ). Backs (choice_layout l l₂) (P ++ R)) (sym (append-nil Q)) record {
    inside = λ x h k n u.
        by_side_inside (side_of x) (inner x) (side_fits l l₂ x (out-Residual x) h) k n
        (subst (λ (i : List ℕ). contains i n ≡ true) (places_out x ∙ side_places l l₂ x (out-Residual x) h) u);
    only = λ x h k n u v.
        subst (λ (i : List ℕ). contains i n ≡ true) (sym (places_out x ∙ side_places l l₂ x (out-Residual x) h))
        (by_side_only (side_of x) (inner x) (side_fits l l₂ x (out-Residual x) h) k n (in_cases P Q n u) v);
    away = λ h n u. let two = and_parts _ _ h in none two.0 two.1 n (in_cases P Q n u);
  } where
    by_side_inside : (side : Bool) (y : Residual) → (if side then l else l₂).fits y ≡ true → at_side b l l₂ side y ≡ true → (n : ℕ) → contains (resting_places y) n ≡ true → b.place n ≡ true
    by_side_inside true y h k n u = s.inside y h (and_parts _ _ k).0 n u
    by_side_inside false y h k n u = t.inside y h (and_parts _ _ k).1 n u

    by_side_only : (side : Bool) (y : Residual) → (if side then l else l₂).fits y ≡ true → at_side b l l₂ side y ≡ true → (n : ℕ)
        → (contains P n ≡ true) ⊎ (contains Q n ≡ true) → b.place n ≡ true → contains (resting_places y) n ≡ true
    by_side_only true y h k n (inl u) v = s.only y h (and_parts _ _ k).0 n u v
    by_side_only true y h k n (inr u) v = absurd (false≢true (sym (t.away (and_parts _ _ k).1 n u) ∙ v))
    by_side_only false y h k n (inl u) v = absurd (false≢true (sym (s.away (and_parts _ _ k).0 n u) ∙ v))
    by_side_only false y h k n (inr u) v = t.only y h (and_parts _ _ k).1 n u v

    none : l.away b ≡ true → l₂.away b ≡ true → (n : ℕ) → (contains P n ≡ true) ⊎ (contains Q n ≡ true) → b.place n ≡ false
    none h k n (inl u) = s.away h n u
    none h k n (inr u) = t.away k n u

  -- an immediate suspend
  module _ (hold : ℕ) (l : Layout) (P : List ℕ) (s : Backs l P) where
    held_inside : (x : Residual) (node : Residual-F Residual) → fits_or_holds (Some hold) l node ≡ true
        → (if holds_in node then b.place hold && l.away b else not (b.place hold) && l.at b (inner_or x node)) ≡ true
        → (n : ℕ) → contains (places_at node) n ≡ true → b.place n ≡ true
    held_inside x (Residual-F.At place) h k n t = absurd (false≢true h)
    held_inside x (Residual-F.Hold place) h k n t =
        subst (λ i. b.place i ≡ true) (eqb-true hold place h ∙ in_one_only place n t) (and_parts _ _ k).0
    held_inside x (Residual-F.InSeq number y) h k n t = absurd (false≢true h)
    held_inside x (Residual-F.InPar branches) h k n t = absurd (false≢true h)
    held_inside x (Residual-F.InIf side y) h k n t = absurd (false≢true h)
    held_inside x (Residual-F.InBody y) h k n t = s.inside y h (and_parts _ _ k).1 n t
    held_inside x (Residual-F.InScope stores y) h k n t = absurd (false≢true h)
    held_inside x (Residual-F.InCall number) h k n t = absurd (false≢true h)

    held_only : (x : Residual) (node : Residual-F Residual) → fits_or_holds (Some hold) l node ≡ true
        → (if holds_in node then b.place hold && l.away b else not (b.place hold) && l.at b (inner_or x node)) ≡ true
        → (n : ℕ) → (contains (hold ∷ []) n ≡ true) ⊎ (contains P n ≡ true) → b.place n ≡ true → contains (places_at node) n ≡ true
    held_only x (Residual-F.At place) h k n t u = absurd (false≢true h)
    held_only x (Residual-F.Hold place) h k n (inl t) u = subst (λ i. contains (i ∷ []) n ≡ true) (eqb-true hold place h) t
    held_only x (Residual-F.Hold place) h k n (inr t) u = absurd (false≢true (sym (s.away (and_parts _ _ k).1 n t) ∙ u))
    held_only x (Residual-F.InSeq number y) h k n t u = absurd (false≢true h)
    held_only x (Residual-F.InPar branches) h k n t u = absurd (false≢true h)
    held_only x (Residual-F.InIf side y) h k n t u = absurd (false≢true h)
    held_only x (Residual-F.InBody y) h k n (inl t) u =
        absurd (false≢true (sym (not_false (b.place hold) (and_parts _ _ k).0) ∙ ap b.place (in_one_only hold n t) ∙ u))
    held_only x (Residual-F.InBody y) h k n (inr t) u = s.only y h (and_parts _ _ k).1 n t u
    held_only x (Residual-F.InScope stores y) h k n t u = absurd (false≢true h)
    held_only x (Residual-F.InCall number) h k n t u = absurd (false≢true h)

    backs_hold : Backs (suspend_layout (Some hold) l) (hold ∷ (P ++ []))
    backs_hold = subst (λ (R : List ℕ). Backs (suspend_layout (Some hold) l) (hold ∷ R)) (sym (append-nil P)) record {
      inside = λ x h k n t. held_inside x (out-Residual x) h k n (subst (λ (i : List ℕ). contains i n ≡ true) (places_out x) t);
      only = λ x h k n t u.
          subst (λ (i : List ℕ). contains i n ≡ true) (sym (places_out x)) (held_only x (out-Residual x) h k n (in_cases (hold ∷ []) P n t) u);
      away = λ h n t. let two = and_parts _ _ h in none two.0 two.1 n (in_cases (hold ∷ []) P n t);
    } where
      none : not (b.place hold) ≡ true → l.away b ≡ true → (n : ℕ) → (contains (hold ∷ []) n ≡ true) ⊎ (contains P n ≡ true) → b.place n ≡ false
      none h k n (inl t) = subst (λ i. b.place i ≡ false) (in_one_only hold n t) (not_false (b.place hold) h)
      none h k n (inr t) = s.away k n t

  free_goes : (l : Layout) (node : Residual-F Residual) → fits_or_holds None l node ≡ true → fits_in_body l node ≡ true
  free_goes l (Residual-F.At place) h = absurd (false≢true h)
  free_goes l (Residual-F.Hold place) h = absurd (false≢true h)
  free_goes l (Residual-F.InSeq number y) h = absurd (false≢true h)
  free_goes l (Residual-F.InPar branches) h = absurd (false≢true h)
  free_goes l (Residual-F.InIf side y) h = absurd (false≢true h)
  free_goes l (Residual-F.InBody y) h = h
  free_goes l (Residual-F.InScope stores y) h = absurd (false≢true h)
  free_goes l (Residual-F.InCall number) h = absurd (false≢true h)

  free_at : (l : Layout) (x : Residual) (node : Residual-F Residual) → fits_or_holds None l node ≡ true
      → (if holds_in node then false && l.away b else not false && l.at b (inner_or x node)) ≡ true → l.at b (inner_or x node) ≡ true
  free_at l x (Residual-F.At place) h k = absurd (false≢true h)
  free_at l x (Residual-F.Hold place) h k = absurd (false≢true h)
  free_at l x (Residual-F.InSeq number y) h k = absurd (false≢true h)
  free_at l x (Residual-F.InPar branches) h k = absurd (false≢true h)
  free_at l x (Residual-F.InIf side y) h k = absurd (false≢true h)
  free_at l x (Residual-F.InBody y) h k = k
  free_at l x (Residual-F.InScope stores y) h k = absurd (false≢true h)
  free_at l x (Residual-F.InCall number) h k = absurd (false≢true h)

  backs_suspend : (hold : Option ℕ) (l : Layout) (P : List ℕ) → Backs l P → Backs (suspend_layout hold l) (option_to_list hold ++ (P ++ []))
  backs_suspend (Some hold) l P s = backs_hold hold l P s
  backs_suspend None l P s = subst (Backs (suspend_layout None l)) (sym (append-nil P)) record {
    inside = λ x h k n t.
        s.inside (inner x) (fit x h) (free_at l x (out-Residual x) h k) n
        (subst (λ (i : List ℕ). contains i n ≡ true) (rests x h) t);
    only = λ x h k n t u.
        subst (λ (i : List ℕ). contains i n ≡ true) (sym (rests x h)) (s.only (inner x) (fit x h) (free_at l x (out-Residual x) h k) n t u);
    away = λ h n t. s.away h n t;
  } where
    fit : (x : Residual) → fits_or_holds None l (out-Residual x) ≡ true → l.fits (inner x) ≡ true
    fit x h = body_fits l x (out-Residual x) (free_goes l (out-Residual x) h)

    rests : (x : Residual) → fits_or_holds None l (out-Residual x) ≡ true → resting_places x ≡ resting_places (inner x)
    rests x h = places_out x ∙ body_places l x (out-Residual x) (free_goes l (out-Residual x) h)

  abbrev P : Stmt → List ℕ
  P = places_of

  abbrev AllBack : List Stmt → Type 0
  AllBack parts = AllByRecursion (λ s. Backs (L s) (P s)) parts

  all_gone : (parts : List Stmt) → AllBack parts → all_away b (map L parts) ≡ true → (n : ℕ) → contains (concat (map P parts)) n ≡ true → b.place n ≡ false
  all_gone [] all h n t = absurd (false≢true t)
  all_gone (s ∷ parts) all h n t =
      by_part (λ u. all_gone parts all.1 (and_parts _ _ h).1 n u) (in_cases (P s) (concat (map P parts)) n t) where
        by_part : (contains (concat (map P parts)) n ≡ true → b.place n ≡ false)
            → (contains (P s) n ≡ true) ⊎ (contains (concat (map P parts)) n ≡ true) → b.place n ≡ false
        by_part later (inl u) = all.0.away (and_parts _ _ h).0 n u
        by_part later (inr u) = later u

  one_inside : (parts : List Stmt) → AllBack parts → (k : ℕ) (x : Residual) → (member bare (map L parts) k).fits x ≡ true → at_one b (map L parts) k x ≡ true
      → (n : ℕ) → contains (resting_places x) n ≡ true → b.place n ≡ true
  one_inside [] all k x fits h n t = absurd (false≢true h)
  one_inside (s ∷ parts) all zero x fits h n t = all.0.inside x fits (and_parts _ _ h).0 n t
  one_inside (s ∷ parts) all (suc k) x fits h n t = one_inside parts all.1 k x fits (and_parts _ _ h).1 n t

  one_only : (parts : List Stmt) → AllBack parts → (k : ℕ) (x : Residual) → (member bare (map L parts) k).fits x ≡ true → at_one b (map L parts) k x ≡ true
      → (n : ℕ) → contains (concat (map P parts)) n ≡ true → b.place n ≡ true → contains (resting_places x) n ≡ true
  one_only [] all k x fits h n t u = absurd (false≢true h)
  one_only (s ∷ parts) all zero x fits h n t u = by_part (in_cases (P s) (concat (map P parts)) n t) where
    by_part : (contains (P s) n ≡ true) ⊎ (contains (concat (map P parts)) n ≡ true) → contains (resting_places x) n ≡ true
    by_part (inl v) = all.0.only x fits (and_parts _ _ h).0 n v u
    by_part (inr v) = absurd (false≢true (sym (all_gone parts all.1 (and_parts _ _ h).1 n v) ∙ u))
  one_only (s ∷ parts) all (suc k) x fits h n t u = by_part (λ v. one_only parts all.1 k x fits (and_parts _ _ h).1 n v u) (in_cases (P s) (concat (map P parts)) n t) where
    by_part : (contains (concat (map P parts)) n ≡ true → contains (resting_places x) n ≡ true)
        → (contains (P s) n ≡ true) ⊎ (contains (concat (map P parts)) n ≡ true) → contains (resting_places x) n ≡ true
    by_part later (inl v) = absurd (false≢true (sym (all.0.away (and_parts _ _ h).0 n v) ∙ u))
    by_part later (inr v) = later v

  backs_sequence : (parts : List Stmt) → AllBack parts → Backs (sequence_layout (map L parts)) (concat (map P parts))
  backs_sequence parts all = record {
    inside = λ x h k n t.
        one_inside parts all (member_of x) (inner x) (member_fits (map L parts) x (out-Residual x) h).0 k n
        (subst (λ (i : List ℕ). contains i n ≡ true) (places_out x ∙ member_places (map L parts) x (out-Residual x) h) t);
    only = λ x h k n t u.
        subst (λ (i : List ℕ). contains i n ≡ true) (sym (places_out x ∙ member_places (map L parts) x (out-Residual x) h))
        (one_only parts all (member_of x) (inner x) (member_fits (map L parts) x (out-Residual x) h).0 k n t u);
    away = all_gone parts all;
  }

  each_inside : (parts : List Stmt) → AllBack parts → (branches : List (Option Residual)) → fits_each (map L parts) branches ≡ true → at_each b (map L parts) branches ≡ true
      → (n : ℕ) → contains (branch_places branches) n ≡ true → b.place n ≡ true
  each_inside [] all [] fits h n t = absurd (false≢true t)
  each_inside [] all (branch ∷ branches) fits h n t = absurd (false≢true fits)
  each_inside (s ∷ parts) all [] fits h n t = absurd (false≢true fits)
  each_inside (s ∷ parts) all (None ∷ branches) fits h n t = each_inside parts all.1 branches fits (and_parts _ _ h).1 n t
  each_inside (s ∷ parts) all (Some x ∷ branches) fits h n t =
      by_part (λ u. each_inside parts all.1 branches (and_parts _ _ fits).1 (and_parts _ _ h).1 n u) (in_cases (resting_places x) (branch_places branches) n t) where
        by_part : (contains (branch_places branches) n ≡ true → b.place n ≡ true)
            → (contains (resting_places x) n ≡ true) ⊎ (contains (branch_places branches) n ≡ true) → b.place n ≡ true
        by_part later (inl u) = all.0.inside x (and_parts _ _ fits).0 (and_parts _ _ h).0 n u
        by_part later (inr u) = later u

  each_only : (parts : List Stmt) → AllBack parts → (branches : List (Option Residual)) → fits_each (map L parts) branches ≡ true → at_each b (map L parts) branches ≡ true
      → (n : ℕ) → contains (concat (map P parts)) n ≡ true → b.place n ≡ true → contains (branch_places branches) n ≡ true
  each_only [] all branches fits h n t u = absurd (false≢true t)
  each_only (s ∷ parts) all [] fits h n t u = absurd (false≢true fits)
  each_only (s ∷ parts) all (None ∷ branches) fits h n t u =
      by_part (λ v. each_only parts all.1 branches fits (and_parts _ _ h).1 n v u) (in_cases (P s) (concat (map P parts)) n t) where
        by_part : (contains (concat (map P parts)) n ≡ true → contains (branch_places branches) n ≡ true)
            → (contains (P s) n ≡ true) ⊎ (contains (concat (map P parts)) n ≡ true) → contains (branch_places branches) n ≡ true
        by_part later (inl v) = absurd (false≢true (sym (all.0.away (and_parts _ _ h).0 n v) ∙ u))
        by_part later (inr v) = later v
  each_only (s ∷ parts) all (Some x ∷ branches) fits h n t u =
      by_part (λ v. each_only parts all.1 branches (and_parts _ _ fits).1 (and_parts _ _ h).1 n v u) (in_cases (P s) (concat (map P parts)) n t) where
        by_part : (contains (concat (map P parts)) n ≡ true → contains (branch_places branches) n ≡ true)
            → (contains (P s) n ≡ true) ⊎ (contains (concat (map P parts)) n ≡ true) → contains (branch_places (Some x ∷ branches)) n ≡ true
        by_part later (inl v) = in_first (resting_places x) (branch_places branches) n (all.0.only x (and_parts _ _ fits).0 (and_parts _ _ h).0 n v u)
        by_part later (inr v) = in_second (resting_places x) (branch_places branches) n (later v)

  backs_parallel : (parts : List Stmt) → AllBack parts → Backs (parallel_layout (map L parts)) (concat (map P parts))
  backs_parallel parts all = record {
    inside = λ x h k n t.
        each_inside parts all (branches_of x) (branches_fit (map L parts) (out-Residual x) h) k n
        (subst (λ (i : List ℕ). contains i n ≡ true) (places_out x ∙ parallel_places (map L parts) (out-Residual x) h) t);
    only = λ x h k n t u.
        subst (λ (i : List ℕ). contains i n ≡ true) (sym (places_out x ∙ parallel_places (map L parts) (out-Residual x) h))
        (each_only parts all (branches_of x) (branches_fit (map L parts) (out-Residual x) h) k n t u);
    away = all_gone parts all;
  }

  abbrev Claimed : Type 0
  Claimed = (s : Stmt) × Backs (L s) (P s)

  abbrev names : List Claimed → List Stmt
  names parts = map (λ (e : Claimed). e.0) parts

  all_back : (parts : List Claimed) → AllBack (names parts)
  all_back [] = tt
  all_back (e ∷ parts) = (e.1, all_back parts)

  abbrev node_numbers : Stmt-F (List ℕ) → List ℕ
  node_numbers node = own_places node ++ concat (parts_of node)

  abbrev AtNode : Stmt-F Stmt → Type 0
  AtNode x = Backs (node_layout (λ number. bare) (map-Stmt Stmt Layout L x)) (node_numbers (map-Stmt Stmt (List ℕ) P x))

  at_node : (node : Stmt-F Claimed) → AtNode (map-Stmt Claimed Stmt (λ e. e.0) node)
  at_node Stmt-F.Nothing = backs_bare [] (λ n. refl)
  at_node (Stmt-F.Assign target value) = backs_bare [] (λ n. refl)
  at_node (Stmt-F.Delayed target value) = backs_bare [] (λ n. refl)
  at_node (Stmt-F.Pause place) = backs_pause place
  at_node (Stmt-F.Seq parts) = backs_sequence (names parts) (all_back parts)
  at_node (Stmt-F.Par parts) = backs_parallel (names parts) (all_back parts)
  at_node (Stmt-F.If condition first second) = backs_choice _ _ _ _ first.1 second.1
  at_node (Stmt-F.Loop number body condition) = backs_loop number _ _ body.1
  at_node (Stmt-F.Abort kind body condition) = backs_body _ _ body.1
  at_node (Stmt-F.Suspend kind hold body condition) = backs_suspend hold _ _ body.1
  at_node (Stmt-F.Scope locals body) = backs_scope locals _ _ body.1
  at_node (Stmt-F.Call number proto arguments) = backs_bare [] (λ n. refl)
  at_node (Stmt-F.Bind bindings body) = subst (Backs (L body.0)) (sym (append-nil (P body.0))) body.1

  pub places_back : (s : Stmt) → Backs (L s) (P s)
  places_back = ind-Stmt (λ s. Backs (L s) (P s)) (λ x y is.
      subst (λ (i : List ℕ). Backs (L (roll-Stmt x)) i) (sym (fold-roll-Stmt (List ℕ) node_numbers x))
      (subst (λ l. Backs l (node_numbers (map-Stmt Stmt (List ℕ) P x))) (sym (fold-roll-Stmt Layout (node_layout (λ number. bare)) x))
      (subst AtNode is (at_node y))))
