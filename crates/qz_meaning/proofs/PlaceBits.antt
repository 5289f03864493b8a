-- The bits of where control rests say that it rests there.
use Rattle.std.proofs.Common.{◌≡◌, ℕ, zero, suc, Bool, true, false, ◌||◌, List, [], ◌∷◌, ◌++◌, map, Option, Some, None, refl, sym, ap, ap₂, subst, subst₂, ◌∙◌}
use Rattle.std.specs.Prelude.{◌==◌, ◌&&◌, not, if◌then◌else◌}
use Rattle.std.specs.Option.{option_to_list, option_map_or}
use Rattle.std.specs.List.{concat}
use Rattle.std.proofs.lemmas.Bool.{false≢true, and_parts, and_from, eqb-true}
use Rattle.std.proofs.lemmas.List.{append-nil}
use Rattle.std.proofs.lemmas.List.Folds.{list_any-append}
use Rattle.qz_syntax.specs.declared.statements.Stmt.{Stmt, map-Stmt}
use Rattle.qz_syntax.specs.declared.statements.Stmt.TheOpen.{Stmt-F}
use Rattle.qz_syntax.specs.declared.statements.Stmt.TheFolds.{fold-roll-Stmt, ind-Stmt}
use Rattle.qz_syntax.specs.declared.places.Residual.{Residual, out-Residual, map-Residual}
use Rattle.qz_syntax.specs.declared.places.Residual.TheOpen.{Residual-F}
use Rattle.qz_syntax.specs.declared.places.Residual.TheFolds.{fold_out-Residual}
use Rattle.qz_syntax.specs.Numbers.{contains, parts_of, own_places, own_calls, places_of, calls_of}
use Rattle.qz_meaning.specs.Residuals.{inner_or, inner, member_of, branches_in, branches_of, side_of, holds_in}
use Rattle.qz_meaning.specs.Layouts.{PlaceBits, Layout, bare}
use Rattle.qz_meaning.specs.Simple.{is_at_in, pause_layout}
use Rattle.qz_meaning.specs.Sequences.{member, all_away, at_one, fits_in_one, sequence_layout}
use Rattle.qz_meaning.specs.Parallels.{at_each, fits_each, fits_in_some, parallel_layout}
use Rattle.qz_meaning.specs.Choices.{at_side, fits_in_side, choice_layout}
use Rattle.qz_meaning.specs.Loops.{fits_in_body, loop_layout}
use Rattle.qz_meaning.specs.Aborts.{body_layout}
use Rattle.qz_meaning.specs.Suspends.{is_at_hold, fits_or_holds, suspend_layout}
use Rattle.qz_meaning.specs.Scopes.{fits_in_scope, scope_layout}
use Rattle.qz_meaning.specs.Calls.{is_inside_call, open_layout}
use Rattle.qz_meaning.specs.Walks.{node_layout, layout}
use Rattle.qz_meaning.specs.Valuations.{node_places, resting_places, node_calls, resting_calls}
use Rattle.qz_meaning.specs.LayoutLaws.{AreDifferent, AreBitsAt, HasItsBits}
use Rattle.qz_meaning.proofs.Fitting.{body_fits, side_fits, scope_fits, member_fits, branches_fit}
use Rattle.qz_meaning.proofs.Orderly.{same_number}

or_left : (a b : Bool) → a ≡ true → (a || b) ≡ true
or_left true b h = refl
or_left false b h = absurd (false≢true h)

or_right : (a b : Bool) → b ≡ true → (a || b) ≡ true
or_right true b h = refl
or_right false b h = h

or_left_not : (a b : Bool) → (a || b) ≡ false → a ≡ false
or_left_not true b h = absurd (false≢true (sym h))
or_left_not false b h = refl

or_right_not : (a b : Bool) → (a || b) ≡ false → b ≡ false
or_right_not true b h = absurd (false≢true (sym h))
or_right_not false b h = h

or_none : (a b : Bool) → b ≡ false → (a || b) ≡ a
or_none true b h = refl
or_none false b h = h

not_true : (b : Bool) → (b ≡ true → ⊥) → b ≡ false
not_true true h = absurd (h refl)
not_true false h = refl

contains-append : (xs ys : List ℕ) (n : ℕ) → contains (xs ++ ys) n ≡ (contains xs n || contains ys n)
contains-append xs ys n = list_any-append (λ number. number == n) xs ys

-- what stands in the first of two lists of different numbers doesn't stand in the second
disjoint : (P Q : List ℕ) (n : ℕ) → AreDifferent (P ++ Q) → contains P n ≡ true → contains Q n ≡ false
disjoint [] Q n d h = absurd (false≢true h)
disjoint (x ∷ P) Q n d h = by_test (λ k. disjoint P Q n d.1 k) (x == n) refl h where
  by_test : (contains P n ≡ true → contains Q n ≡ false) → (b : Bool) → (x == n) ≡ b → (b || contains P n) ≡ true → contains Q n ≡ false
  by_test later true e k =
      or_right_not (contains P n) (contains Q n) (sym (contains-append P Q n) ∙ subst (λ i. contains (P ++ Q) i ≡ false) (eqb-true x n e) d.0)
  by_test later false e k = later k

different_left : (P Q : List ℕ) → AreDifferent (P ++ Q) → AreDifferent P
different_left [] Q d = tt
different_left (x ∷ P) Q d = (or_left_not (contains P x) (contains Q x) (sym (contains-append P Q x) ∙ d.0), different_left P Q d.1)

different_right : (P Q : List ℕ) → AreDifferent (P ++ Q) → AreDifferent Q
different_right [] Q d = d
different_right (x ∷ P) Q d = different_right P Q d.1

-- what is among some numbers is among others
abbrev Within : List ℕ → List ℕ → Type 0
Within xs ys = (n : ℕ) → contains xs n ≡ true → contains ys n ≡ true

within_both : (xs ys P Q : List ℕ) → Within xs P → Within ys Q → Within (xs ++ ys) (P ++ Q)
within_both xs ys P Q f g n h = contains-append P Q n ∙ by_first (contains xs n) refl (sym (contains-append xs ys n) ∙ h) where
  by_first : (b : Bool) → contains xs n ≡ b → (b || contains ys n) ≡ true → (contains P n || contains Q n) ≡ true
  by_first true e k = or_left _ _ (f n e)
  by_first false e k = or_right _ _ (g n k)

bits_left : (bit : ℕ → Bool) (P Q xs ys : List ℕ) → AreDifferent (P ++ Q) → Within ys Q → AreBitsAt bit (P ++ Q) (xs ++ ys) → AreBitsAt bit P xs
bits_left bit P Q xs ys d inside h n own =
    h n (contains-append P Q n ∙ or_left _ _ own) ∙ contains-append xs ys n
    ∙ or_none (contains xs n) (contains ys n) (not_true _ (λ k. false≢true (sym (disjoint P Q n d own) ∙ inside n k)))

bits_right : (bit : ℕ → Bool) (P Q xs ys : List ℕ) → AreDifferent (P ++ Q) → Within xs P → AreBitsAt bit (P ++ Q) (xs ++ ys) → AreBitsAt bit Q ys
bits_right bit P Q xs ys d inside h n own =
    h n (contains-append P Q n ∙ or_right _ _ own) ∙ contains-append xs ys n
    ∙ ap (λ b. b || contains ys n) (not_true (contains xs n) (λ k. false≢true (sym (disjoint P Q n d (inside n k)) ∙ own)))

-- numbers of places and of calls
record Rests : Type 0 where
  places : List ℕ
  calls : List ℕ

abbrev none : Rests
none = record { places = []; calls = [] }

abbrev joined : Rests → Rests → Rests
joined a b = record { places = a.places ++ b.places; calls = a.calls ++ b.calls }

abbrev rests_of : Residual → Rests
rests_of r = record { places = resting_places r; calls = resting_calls r }

record Inside (a own : Rests) : Type 0 where
  places : Within a.places own.places
  calls : Within a.calls own.calls

record Apart (own : Rests) : Type 0 where
  places : AreDifferent own.places
  calls : AreDifferent own.calls

record Fine (bits : PlaceBits) (own a : Rests) : Type 0 where
  places : AreBitsAt bits.place own.places a.places
  calls : AreBitsAt bits.call own.calls a.calls

inside_both : (a b P Q : Rests) → Inside a P → Inside b Q → Inside (joined a b) (joined P Q)
inside_both a b P Q x y = record {
  places = within_both a.places b.places P.places Q.places x.places y.places;
  calls = within_both a.calls b.calls P.calls Q.calls x.calls y.calls;
}

nothing_inside : (own : Rests) → Inside none own
nothing_inside own = record { places = λ n h. absurd (false≢true h); calls = λ n h. absurd (false≢true h) }

apart_left : (P Q : Rests) → Apart (joined P Q) → Apart P
apart_left P Q d = record { places = different_left P.places Q.places d.places; calls = different_left P.calls Q.calls d.calls }

apart_right : (P Q : Rests) → Apart (joined P Q) → Apart Q
apart_right P Q d = record { places = different_right P.places Q.places d.places; calls = different_right P.calls Q.calls d.calls }

fine_left : (bits : PlaceBits) (P Q a b : Rests) → Apart (joined P Q) → Inside b Q → Fine bits (joined P Q) (joined a b) → Fine bits P a
fine_left bits P Q a b d x h = record {
  places = bits_left bits.place P.places Q.places a.places b.places d.places x.places h.places;
  calls = bits_left bits.call P.calls Q.calls a.calls b.calls d.calls x.calls h.calls;
}

fine_right : (bits : PlaceBits) (P Q a b : Rests) → Apart (joined P Q) → Inside a P → Fine bits (joined P Q) (joined a b) → Fine bits Q b
fine_right bits P Q a b d x h = record {
  places = bits_right bits.place P.places Q.places a.places b.places d.places x.places h.places;
  calls = bits_right bits.call P.calls Q.calls a.calls b.calls d.calls x.calls h.calls;
}

-- where no bit is set, none is in a part
none_left : (bits : PlaceBits) (P Q : Rests) → Fine bits (joined P Q) none → Fine bits P none
none_left bits P Q h = record {
  places = λ n own. h.places n (contains-append P.places Q.places n ∙ or_left _ _ own);
  calls = λ n own. h.calls n (contains-append P.calls Q.calls n ∙ or_left _ _ own);
}

none_right : (bits : PlaceBits) (P Q : Rests) → Fine bits (joined P Q) none → Fine bits Q none
none_right bits P Q h = record {
  places = λ n own. h.places n (contains-append P.places Q.places n ∙ or_right _ _ own);
  calls = λ n own. h.calls n (contains-append P.calls Q.calls n ∙ or_right _ _ own);
}

joined_none : (a : Rests) → joined a none ≡ a
joined_none a = ap₂ (λ (xs ys : List ℕ). record { places = xs; calls = ys }) (append-nil a.places) (append-nil a.calls)

-- the bits of these places and calls are the layout's
record Placed (l : Layout) (own : Rests) : Type 0 where
  inside : (r : Residual) → l.fits r ≡ true → Inside (rests_of r) own
  at : (bits : PlaceBits) (r : Residual) → l.fits r ≡ true → Apart own → Fine bits own (rests_of r) → l.at bits r ≡ true
  away : (bits : PlaceBits) → Fine bits own none → l.away bits ≡ true

placed_bare : (own : Rests) → Placed bare own
placed_bare own = record { inside = λ r h. absurd (false≢true h); at = λ bits r h. absurd (false≢true h); away = λ bits h. refl }

-- control is one level further in
abbrev goes_in : Residual-F Residual → Bool
goes_in (Residual-F.At place) = false
goes_in (Residual-F.Hold place) = false
goes_in (Residual-F.InSeq member s) = true
goes_in (Residual-F.InPar branches) = false
goes_in (Residual-F.InIf side s) = true
goes_in (Residual-F.InBody s) = true
goes_in (Residual-F.InScope stores s) = true
goes_in (Residual-F.InCall number) = false

abbrev node_rests : Residual-F Residual → Rests
node_rests node = record {
  places = node_places (map-Residual Residual (List ℕ) resting_places node);
  calls = node_calls (map-Residual Residual (List ℕ) resting_calls node);
}

rests_out : (r : Residual) → rests_of r ≡ node_rests (out-Residual r)
rests_out r = ap₂ (λ (xs ys : List ℕ). record { places = xs; calls = ys }) (fold_out-Residual (List ℕ) node_places r) (fold_out-Residual (List ℕ) node_calls r)

in_node : (r : Residual) (node : Residual-F Residual) → goes_in node ≡ true → node_rests node ≡ rests_of (inner_or r node)
in_node r (Residual-F.At place) h = absurd (false≢true h)
in_node r (Residual-F.Hold place) h = absurd (false≢true h)
in_node r (Residual-F.InSeq member s) h = refl
in_node r (Residual-F.InPar branches) h = absurd (false≢true h)
in_node r (Residual-F.InIf side s) h = refl
in_node r (Residual-F.InBody s) h = refl
in_node r (Residual-F.InScope stores s) h = refl
in_node r (Residual-F.InCall number) h = absurd (false≢true h)

rests_in : (r : Residual) → goes_in (out-Residual r) ≡ true → rests_of r ≡ rests_of (inner r)
rests_in r h = rests_out r ∙ in_node r (out-Residual r) h

body_goes : (l : Layout) (node : Residual-F Residual) → fits_in_body l node ≡ true → goes_in node ≡ true
body_goes l (Residual-F.At place) h = absurd (false≢true h)
body_goes l (Residual-F.Hold place) h = absurd (false≢true h)
body_goes l (Residual-F.InSeq member s) h = absurd (false≢true h)
body_goes l (Residual-F.InPar branches) h = absurd (false≢true h)
body_goes l (Residual-F.InIf side s) h = absurd (false≢true h)
body_goes l (Residual-F.InBody s) h = refl
body_goes l (Residual-F.InScope stores s) h = absurd (false≢true h)
body_goes l (Residual-F.InCall number) h = absurd (false≢true h)

side_goes : (l k : Layout) (node : Residual-F Residual) → fits_in_side l k node ≡ true → goes_in node ≡ true
side_goes l k (Residual-F.At place) h = absurd (false≢true h)
side_goes l k (Residual-F.Hold place) h = absurd (false≢true h)
side_goes l k (Residual-F.InSeq member s) h = absurd (false≢true h)
side_goes l k (Residual-F.InPar branches) h = absurd (false≢true h)
side_goes l k (Residual-F.InIf side s) h = refl
side_goes l k (Residual-F.InBody s) h = absurd (false≢true h)
side_goes l k (Residual-F.InScope stores s) h = absurd (false≢true h)
side_goes l k (Residual-F.InCall number) h = absurd (false≢true h)

scope_goes : (locals : List ℕ) (l : Layout) (node : Residual-F Residual) → fits_in_scope locals l node ≡ true → goes_in node ≡ true
scope_goes locals l (Residual-F.At place) h = absurd (false≢true h)
scope_goes locals l (Residual-F.Hold place) h = absurd (false≢true h)
scope_goes locals l (Residual-F.InSeq member s) h = absurd (false≢true h)
scope_goes locals l (Residual-F.InPar branches) h = absurd (false≢true h)
scope_goes locals l (Residual-F.InIf side s) h = absurd (false≢true h)
scope_goes locals l (Residual-F.InBody s) h = absurd (false≢true h)
scope_goes locals l (Residual-F.InScope stores s) h = refl
scope_goes locals l (Residual-F.InCall number) h = absurd (false≢true h)

member_goes : (ls : List Layout) (node : Residual-F Residual) → fits_in_one ls node ≡ true → goes_in node ≡ true
member_goes ls (Residual-F.At place) h = absurd (false≢true h)
member_goes ls (Residual-F.Hold place) h = absurd (false≢true h)
member_goes ls (Residual-F.InSeq member s) h = refl
member_goes ls (Residual-F.InPar branches) h = absurd (false≢true h)
member_goes ls (Residual-F.InIf side s) h = absurd (false≢true h)
member_goes ls (Residual-F.InBody s) h = absurd (false≢true h)
member_goes ls (Residual-F.InScope stores s) h = absurd (false≢true h)
member_goes ls (Residual-F.InCall number) h = absurd (false≢true h)

-- a statement round a body, with no number of its own
placed_inner : (l k : Layout) (own : Rests) → ((r : Residual) → k.fits r ≡ true → (l.fits (inner r) ≡ true) × (goes_in (out-Residual r) ≡ true))
    → ((bits : PlaceBits) (r : Residual) → k.at bits r ≡ l.at bits (inner r)) → ((bits : PlaceBits) → k.away bits ≡ l.away bits) → Placed l own → Placed k (joined own none)
placed_inner l k own fit same gone x = subst (Placed k) (sym (joined_none own)) record {
  inside = λ r h. let two = fit r h in subst (λ a. Inside a own) (sym (rests_in r two.1)) (x.inside (inner r) two.0);
  at = λ bits r h d fine. let two = fit r h in same bits r ∙ x.at bits (inner r) two.0 d (subst (Fine bits own) (rests_in r two.1) fine);
  away = λ bits fine. gone bits ∙ x.away bits fine;
}

-- a pause
pause_rests : (place : ℕ) (node : Residual-F Residual) → is_at_in place node ≡ true → node_rests node ≡ record { places = place ∷ []; calls = [] }
pause_rests place (Residual-F.At other) h = ap (λ (n : ℕ). record { places = n ∷ []; calls = [] }) (sym (eqb-true place other h))
pause_rests place (Residual-F.Hold other) h = absurd (false≢true h)
pause_rests place (Residual-F.InSeq member s) h = absurd (false≢true h)
pause_rests place (Residual-F.InPar branches) h = absurd (false≢true h)
pause_rests place (Residual-F.InIf side s) h = absurd (false≢true h)
pause_rests place (Residual-F.InBody s) h = absurd (false≢true h)
pause_rests place (Residual-F.InScope stores s) h = absurd (false≢true h)
pause_rests place (Residual-F.InCall number) h = absurd (false≢true h)

own_number : (n : ℕ) → contains (n ∷ []) n ≡ true
own_number n = or_left _ _ (same_number n)

placed_pause : (place : ℕ) → Placed (pause_layout place) record { places = place ∷ []; calls = [] }
placed_pause place = record {
  inside = λ r h. subst (λ a. Inside a own) (sym (rests r h)) record { places = λ n k. k; calls = λ n k. k };
  at = λ bits r h d fine. fine.places place (own_number place) ∙ ap (λ (a : Rests). contains a.places place) (rests r h) ∙ own_number place;
  away = λ bits fine. ap not (fine.places place (own_number place));
} where
  own : Rests
  own = record { places = place ∷ []; calls = [] }

  rests : (r : Residual) → is_at_in place (out-Residual r) ≡ true → rests_of r ≡ own
  rests r h = rests_out r ∙ pause_rests place (out-Residual r) h

-- a call, which is a place to the module that makes it
call_rests : (number : ℕ) (node : Residual-F Residual) → is_inside_call number node ≡ true → node_rests node ≡ record { places = []; calls = number ∷ [] }
call_rests number (Residual-F.InCall other) h = ap (λ (n : ℕ). record { places = []; calls = n ∷ [] }) (sym (eqb-true number other h))
call_rests number (Residual-F.At place) h = absurd (false≢true h)
call_rests number (Residual-F.Hold place) h = absurd (false≢true h)
call_rests number (Residual-F.InSeq member s) h = absurd (false≢true h)
call_rests number (Residual-F.InPar branches) h = absurd (false≢true h)
call_rests number (Residual-F.InIf side s) h = absurd (false≢true h)
call_rests number (Residual-F.InBody s) h = absurd (false≢true h)
call_rests number (Residual-F.InScope stores s) h = absurd (false≢true h)

placed_call : (number : ℕ) → Placed (open_layout number) record { places = []; calls = number ∷ [] }
placed_call number = record {
  inside = λ r h. subst (λ a. Inside a own) (sym (rests r h)) record { places = λ n k. k; calls = λ n k. k };
  at = λ bits r h d fine. fine.calls number (own_number number) ∙ ap (λ (a : Rests). contains a.calls number) (rests r h) ∙ own_number number;
  away = λ bits fine. ap not (fine.calls number (own_number number));
} where
  own : Rests
  own = record { places = []; calls = number ∷ [] }

  rests : (r : Residual) → is_inside_call number (out-Residual r) ≡ true → rests_of r ≡ own
  rests r h = rests_out r ∙ call_rests number (out-Residual r) h

-- `if`
side_inside : (l k : Layout) (P Q : Rests) → Placed l P → Placed k Q → (side : Bool) (r : Residual) → (if side then l else k).fits r ≡ true → Inside (rests_of r) (joined P Q)
side_inside l k P Q x y true r h = subst (λ a. Inside a (joined P Q)) (joined_none (rests_of r)) (inside_both (rests_of r) none P Q (x.inside r h) (nothing_inside Q))
side_inside l k P Q x y false r h = inside_both none (rests_of r) P Q (nothing_inside P) (y.inside r h)

side_at : (l k : Layout) (P Q : Rests) → Placed l P → Placed k Q → (bits : PlaceBits) (side : Bool) (r : Residual) → (if side then l else k).fits r ≡ true
    → Apart (joined P Q) → Fine bits (joined P Q) (rests_of r) → at_side bits l k side r ≡ true
side_at l k P Q x y bits true r h d fine =
    let both : Fine bits (joined P Q) (joined (rests_of r) none) = subst (Fine bits (joined P Q)) (sym (joined_none (rests_of r))) fine in
    and_from _ _ (x.at bits r h (apart_left P Q d) (fine_left bits P Q (rests_of r) none d (nothing_inside Q) both))
    (y.away bits (fine_right bits P Q (rests_of r) none d (x.inside r h) both))
side_at l k P Q x y bits false r h d fine =
    and_from _ _ (x.away bits (fine_left bits P Q none (rests_of r) d (y.inside r h) fine))
    (y.at bits r h (apart_right P Q d) (fine_right bits P Q none (rests_of r) d (nothing_inside P) fine))

placed_choice : (l k : Layout) (P Q : Rests) → Placed l P → Placed k Q → Placed (choice_layout l k) (joined P (joined Q none))
placed_choice l k P Q x y = subst (λ R. Placed (choice_layout l k) (joined P R)) (sym (joined_none Q)) record {
  inside = λ r h.
      subst (λ a. Inside a (joined P Q)) (sym (rests_in r (side_goes l k (out-Residual r) h)))
      (side_inside l k P Q x y (side_of r) (inner r) (side_fits l k r (out-Residual r) h));
  at = λ bits r h d fine.
      side_at l k P Q x y bits (side_of r) (inner r) (side_fits l k r (out-Residual r) h) d
      (subst (Fine bits (joined P Q)) (rests_in r (side_goes l k (out-Residual r) h)) fine);
  away = λ bits fine. and_from _ _ (x.away bits (none_left bits P Q fine)) (y.away bits (none_right bits P Q fine));
}

-- a suspend, with its hold place
abbrev hold_rests : Option ℕ → Rests
hold_rests hold = record { places = option_to_list hold; calls = [] }

away_from_hold : (bits : PlaceBits) (hold : Option ℕ) → Fine bits (hold_rests hold) none → is_at_hold bits hold ≡ false
away_from_hold bits None fine = refl
away_from_hold bits (Some own) fine = fine.places own (own_number own)

at_own_hold : (bits : PlaceBits) (hold : Option ℕ) (place : ℕ) → option_map_or (λ own. own == place) hold false ≡ true
    → Fine bits (hold_rests hold) record { places = place ∷ []; calls = [] } → is_at_hold bits hold ≡ true
at_own_hold bits None place h fine = absurd (false≢true h)
at_own_hold bits (Some own) place h fine =
    fine.places own (own_number own) ∙ subst (λ i. contains (i ∷ []) own ≡ true) (eqb-true own place h) (own_number own)

inside_hold : (hold : Option ℕ) (place : ℕ) → option_map_or (λ own. own == place) hold false ≡ true → Inside record { places = place ∷ []; calls = [] } (hold_rests hold)
inside_hold None place h = absurd (false≢true h)
inside_hold (Some own) place h =
    record { places = λ n k. subst (λ i. contains (i ∷ []) n ≡ true) (sym (eqb-true own place h)) k; calls = λ n k. k }

module _ (hold : Option ℕ) (l : Layout) (own : Rests) (x : Placed l own) where
  abbrev H : Rests
  H = hold_rests hold

  suspend_inside : (r : Residual) (node : Residual-F Residual) → fits_or_holds hold l node ≡ true → Inside (node_rests node) (joined H own)
  suspend_inside r (Residual-F.At place) h = absurd (false≢true h)
  suspend_inside r (Residual-F.Hold place) h =
      inside_both record { places = place ∷ []; calls = [] } none H own (inside_hold hold place h) (nothing_inside own)
  suspend_inside r (Residual-F.InSeq member s) h = absurd (false≢true h)
  suspend_inside r (Residual-F.InPar branches) h = absurd (false≢true h)
  suspend_inside r (Residual-F.InIf side s) h = absurd (false≢true h)
  suspend_inside r (Residual-F.InBody s) h = inside_both none (rests_of s) H own (nothing_inside H) (x.inside s h)
  suspend_inside r (Residual-F.InScope stores s) h = absurd (false≢true h)
  suspend_inside r (Residual-F.InCall number) h = absurd (false≢true h)

  suspend_at : (bits : PlaceBits) (r : Residual) (node : Residual-F Residual) → fits_or_holds hold l node ≡ true → Apart (joined H own) → Fine bits (joined H own) (node_rests node)
      → (if holds_in node then is_at_hold bits hold && l.away bits else not (is_at_hold bits hold) && l.at bits (inner_or r node)) ≡ true
  suspend_at bits r (Residual-F.At place) h d fine = absurd (false≢true h)
  suspend_at bits r (Residual-F.Hold place) h d fine =
      let there : Rests = record { places = place ∷ []; calls = [] } in
      and_from _ _ (at_own_hold bits hold place h (fine_left bits H own there none d (nothing_inside own) fine))
      (x.away bits (fine_right bits H own there none d (inside_hold hold place h) fine))
  suspend_at bits r (Residual-F.InSeq member s) h d fine = absurd (false≢true h)
  suspend_at bits r (Residual-F.InPar branches) h d fine = absurd (false≢true h)
  suspend_at bits r (Residual-F.InIf side s) h d fine = absurd (false≢true h)
  suspend_at bits r (Residual-F.InBody s) h d fine =
      and_from _ _ (ap not (away_from_hold bits hold (fine_left bits H own none (rests_of s) d (x.inside s h) fine)))
      (x.at bits s h (apart_right H own d) (fine_right bits H own none (rests_of s) d (nothing_inside H) fine))
  suspend_at bits r (Residual-F.InScope stores s) h d fine = absurd (false≢true h)
  suspend_at bits r (Residual-F.InCall number) h d fine = absurd (false≢true h)

  placed_suspend : Placed (suspend_layout hold l) (joined H (joined own none))
  placed_suspend = subst (λ R. Placed (suspend_layout hold l) (joined H R)) (sym (joined_none own)) record {
    inside = λ r h. subst (λ a. Inside a (joined H own)) (sym (rests_out r)) (suspend_inside r (out-Residual r) h);
    at = λ bits r h d fine. suspend_at bits r (out-Residual r) h d (subst (Fine bits (joined H own)) (rests_out r) fine);
    away = λ bits fine. and_from _ _ (ap not (away_from_hold bits hold (none_left bits H own fine))) (x.away bits (none_right bits H own fine));
  }

-- members
record Part : Type 0 where
  layout : Layout
  own : Rests
  placed : Placed layout own

abbrev layouts : List Part → List Layout
layouts parts = map (λ (part : Part). part.layout) parts

abbrev all_own : List Part → Rests
all_own [] = none
all_own (part ∷ parts) = joined part.own (all_own parts)

members_away : (bits : PlaceBits) (parts : List Part) → Fine bits (all_own parts) none → all_away bits (layouts parts) ≡ true
members_away bits [] fine = refl
members_away bits (part ∷ parts) fine =
    and_from _ _ (part.placed.away bits (none_left bits part.own (all_own parts) fine)) (members_away bits parts (none_right bits part.own (all_own parts) fine))

member_inside : (parts : List Part) (n : ℕ) (r : Residual) → (member bare (layouts parts) n).fits r ≡ true → Inside (rests_of r) (all_own parts)
member_inside [] n r h = absurd (false≢true h)
member_inside (part ∷ parts) zero r h =
    subst (λ a. Inside a (joined part.own (all_own parts))) (joined_none (rests_of r))
    (inside_both (rests_of r) none part.own (all_own parts) (part.placed.inside r h) (nothing_inside (all_own parts)))
member_inside (part ∷ parts) (suc n) r h =
    inside_both none (rests_of r) part.own (all_own parts) (nothing_inside part.own) (member_inside parts n r h)

member_at : (bits : PlaceBits) (parts : List Part) (n : ℕ) (r : Residual) → (member bare (layouts parts) n).fits r ≡ true → Apart (all_own parts) → Fine bits (all_own parts) (rests_of r)
    → at_one bits (layouts parts) n r ≡ true
member_at bits [] n r h d fine = absurd (false≢true h)
member_at bits (part ∷ parts) zero r h d fine =
    let both : Fine bits (joined part.own (all_own parts)) (joined (rests_of r) none) = subst (Fine bits (joined part.own (all_own parts))) (sym (joined_none (rests_of r))) fine in
    and_from _ _ (part.placed.at bits r h (apart_left part.own (all_own parts) d) (fine_left bits part.own (all_own parts) (rests_of r) none d (nothing_inside (all_own parts)) both))
    (members_away bits parts (fine_right bits part.own (all_own parts) (rests_of r) none d (part.placed.inside r h) both))
member_at bits (part ∷ parts) (suc n) r h d fine =
    and_from _ _ (part.placed.away bits (fine_left bits part.own (all_own parts) none (rests_of r) d (member_inside parts n r h) fine))
    (member_at bits parts n r h (apart_right part.own (all_own parts) d) (fine_right bits part.own (all_own parts) none (rests_of r) d (nothing_inside part.own) fine))

placed_sequence : (parts : List Part) → Placed (sequence_layout (layouts parts)) (all_own parts)
placed_sequence parts = record {
  inside = λ r h.
      subst (λ a. Inside a (all_own parts)) (sym (rests_in r (member_goes (layouts parts) (out-Residual r) h)))
      (member_inside parts (member_of r) (inner r) (member_fits (layouts parts) r (out-Residual r) h).0);
  at = λ bits r h d fine.
      member_at bits parts (member_of r) (inner r) (member_fits (layouts parts) r (out-Residual r) h).0 d
      (subst (Fine bits (all_own parts)) (rests_in r (member_goes (layouts parts) (out-Residual r) h)) fine);
  away = λ bits fine. members_away bits parts fine;
}

-- branches
abbrev branch_rests : List (Option Residual) → Rests
branch_rests [] = none
branch_rests (None ∷ branches) = branch_rests branches
branch_rests (Some r ∷ branches) = joined (rests_of r) (branch_rests branches)

branches_rest : (branches : List (Option Residual)) → node_rests (Residual-F.InPar branches) ≡ branch_rests branches
branches_rest [] = refl
branches_rest (None ∷ branches) = branches_rest branches
branches_rest (Some r ∷ branches) = ap (joined (rests_of r)) (branches_rest branches)

some_rests : (ls : List Layout) (node : Residual-F Residual) → fits_in_some ls node ≡ true → node_rests node ≡ branch_rests (branches_in node)
some_rests ls (Residual-F.At place) h = absurd (false≢true h)
some_rests ls (Residual-F.Hold place) h = absurd (false≢true h)
some_rests ls (Residual-F.InSeq member s) h = absurd (false≢true h)
some_rests ls (Residual-F.InPar branches) h = branches_rest branches
some_rests ls (Residual-F.InIf side s) h = absurd (false≢true h)
some_rests ls (Residual-F.InBody s) h = absurd (false≢true h)
some_rests ls (Residual-F.InScope stores s) h = absurd (false≢true h)
some_rests ls (Residual-F.InCall number) h = absurd (false≢true h)

each_inside : (parts : List Part) (branches : List (Option Residual)) → fits_each (layouts parts) branches ≡ true → Inside (branch_rests branches) (all_own parts)
each_inside [] [] h = nothing_inside none
each_inside [] (branch ∷ branches) h = absurd (false≢true h)
each_inside (part ∷ parts) [] h = absurd (false≢true h)
each_inside (part ∷ parts) (None ∷ branches) h =
    inside_both none (branch_rests branches) part.own (all_own parts) (nothing_inside part.own) (each_inside parts branches h)
each_inside (part ∷ parts) (Some r ∷ branches) h =
    let two = and_parts _ _ h in
    inside_both (rests_of r) (branch_rests branches) part.own (all_own parts) (part.placed.inside r two.0) (each_inside parts branches two.1)

each_at : (bits : PlaceBits) (parts : List Part) (branches : List (Option Residual)) → fits_each (layouts parts) branches ≡ true → Apart (all_own parts)
    → Fine bits (all_own parts) (branch_rests branches) → at_each bits (layouts parts) branches ≡ true
each_at bits [] branches h d fine = refl
each_at bits (part ∷ parts) [] h d fine = absurd (false≢true h)
each_at bits (part ∷ parts) (None ∷ branches) h d fine =
    and_from _ _ (part.placed.away bits (fine_left bits part.own (all_own parts) none (branch_rests branches) d (each_inside parts branches h) fine))
    (each_at bits parts branches h (apart_right part.own (all_own parts) d)
    (fine_right bits part.own (all_own parts) none (branch_rests branches) d (nothing_inside part.own) fine))
each_at bits (part ∷ parts) (Some r ∷ branches) h d fine =
    let two = and_parts _ _ h in
    and_from _ _
    (part.placed.at bits r two.0 (apart_left part.own (all_own parts) d)
    (fine_left bits part.own (all_own parts) (rests_of r) (branch_rests branches) d (each_inside parts branches two.1) fine))
    (each_at bits parts branches two.1 (apart_right part.own (all_own parts) d)
    (fine_right bits part.own (all_own parts) (rests_of r) (branch_rests branches) d (part.placed.inside r two.0) fine))

placed_parallel : (parts : List Part) → Placed (parallel_layout (layouts parts)) (all_own parts)
placed_parallel parts = record {
  inside = λ r h.
      subst (λ a. Inside a (all_own parts)) (sym (rests_out r ∙ some_rests (layouts parts) (out-Residual r) h))
      (each_inside parts (branches_of r) (branches_fit (layouts parts) (out-Residual r) h));
  at = λ bits r h d fine.
      each_at bits parts (branches_of r) (branches_fit (layouts parts) (out-Residual r) h) d
      (subst (Fine bits (all_own parts)) (rests_out r ∙ some_rests (layouts parts) (out-Residual r) h) fine);
  away = λ bits fine. members_away bits parts fine;
}

module _ (calls : ℕ → Layout) (called : (number : ℕ) → Placed (calls number) record { places = []; calls = number ∷ [] }) where
  abbrev L : Stmt → Layout
  L = layout calls

  abbrev own_of : Stmt → Rests
  own_of s = record { places = places_of s; calls = calls_of s }

  abbrev Proved : Type 0
  Proved = (s : Stmt) × Placed (L s) (own_of s)

  abbrev part_of : Proved → Part
  part_of e = record { layout = L e.0; own = own_of e.0; placed = e.1 }

  abbrev names : List Proved → List Stmt
  names parts = map (λ (e : Proved). e.0) parts

  abbrev node_own : Stmt-F Stmt → Rests
  node_own x = record {
    places = own_places (map-Stmt Stmt (List ℕ) places_of x) ++ concat (parts_of (map-Stmt Stmt (List ℕ) places_of x));
    calls = own_calls (map-Stmt Stmt (List ℕ) calls_of x) ++ concat (parts_of (map-Stmt Stmt (List ℕ) calls_of x));
  }

  abbrev AtNode : Stmt-F Stmt → Type 0
  AtNode x = Placed (node_layout calls (map-Stmt Stmt Layout L x)) (node_own x)

  owns : (parts : List Proved) → all_own (map part_of parts) ≡ record { places = concat (map places_of (names parts)); calls = concat (map calls_of (names parts)) }
  owns [] = refl
  owns (e ∷ parts) = ap (joined (own_of e.0)) (owns parts)

  layouts_are : (parts : List Proved) → layouts (map part_of parts) ≡ map L (names parts)
  layouts_are [] = refl
  layouts_are (e ∷ parts) = ap (λ (ls : List Layout). L e.0 ∷ ls) (layouts_are parts)

  placed_node : (node : Stmt-F Proved) → AtNode (map-Stmt Proved Stmt (λ e. e.0) node)
  placed_node Stmt-F.Nothing = placed_bare none
  placed_node (Stmt-F.Assign target value) = placed_bare none
  placed_node (Stmt-F.Delayed target value) = placed_bare none
  placed_node (Stmt-F.Pause place) = placed_pause place
  placed_node (Stmt-F.Seq parts) =
      subst₂ (λ (ls : List Layout) (own : Rests). Placed (sequence_layout ls) own) (layouts_are parts) (owns parts) (placed_sequence (map part_of parts))
  placed_node (Stmt-F.Par parts) =
      subst₂ (λ (ls : List Layout) (own : Rests). Placed (parallel_layout ls) own) (layouts_are parts) (owns parts) (placed_parallel (map part_of parts))
  placed_node (Stmt-F.If condition first second) = placed_choice _ _ _ _ first.1 second.1
  placed_node (Stmt-F.Loop number body condition) =
      placed_inner (L body.0) (loop_layout number (L body.0)) (own_of body.0)
      (λ r h. (body_fits (L body.0) r (out-Residual r) h, body_goes (L body.0) (out-Residual r) h)) (λ bits r. refl) (λ bits. refl) body.1
  placed_node (Stmt-F.Abort kind body condition) =
      placed_inner (L body.0) (body_layout (L body.0)) (own_of body.0)
      (λ r h. (body_fits (L body.0) r (out-Residual r) h, body_goes (L body.0) (out-Residual r) h)) (λ bits r. refl) (λ bits. refl) body.1
  placed_node (Stmt-F.Suspend kind hold body condition) = placed_suspend hold (L body.0) (own_of body.0) body.1
  placed_node (Stmt-F.Scope locals body) =
      placed_inner (L body.0) (scope_layout locals (L body.0)) (own_of body.0)
      (λ r h. ((scope_fits locals (L body.0) r (out-Residual r) h).1, scope_goes locals (L body.0) (out-Residual r) h)) (λ bits r. refl) (λ bits. refl) body.1
  placed_node (Stmt-F.Call number proto arguments) = called number
  placed_node (Stmt-F.Bind bindings body) = subst (Placed (L body.0)) (sym (joined_none (own_of body.0))) body.1

  -- for every statement
  all_placed : (s : Stmt) → Placed (L s) (own_of s)
  all_placed = ind-Stmt (λ s. Placed (L s) (own_of s)) (λ x y is.
      subst₂ Placed (sym (fold-roll-Stmt Layout (node_layout calls) x))
      (ap₂ (λ (ps cs : List ℕ). record { places = ps; calls = cs })
      (sym (fold-roll-Stmt (List ℕ) (λ node. own_places node ++ concat (parts_of node)) x))
      (sym (fold-roll-Stmt (List ℕ) (λ node. own_calls node ++ concat (parts_of node)) x)))
      (subst AtNode is (placed_node y)))

  has_its_bits : (s : Stmt) → AreDifferent (places_of s) → AreDifferent (calls_of s) → HasItsBits (L s) s
  has_its_bits s places numbers = record {
    at = λ bits r fits fine. (all_placed s).at bits r fits record { places = places; calls = numbers } record { places = fine.at_places; calls = fine.at_calls };
    away = λ bits fine. (all_placed s).away bits record { places = fine.at_places; calls = fine.at_calls };
  }

pub places_have_bits : (s : Stmt) → AreDifferent (places_of s) → AreDifferent (calls_of s) → HasItsBits (layout open_layout s) s × HasItsBits (layout (λ number. bare) s) s
places_have_bits s places numbers =
    (has_its_bits open_layout placed_call s places numbers, has_its_bits (λ number. bare) (λ number. placed_bare record { places = []; calls = number ∷ [] }) s places numbers)
