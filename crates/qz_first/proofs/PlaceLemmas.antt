-- Places that are all different, and control among some of them.
use Rattle.std.proofs.Common.{◌≡◌, ℕ, zero, suc, ◌+◌, ◌<◌, Bool, true, false, ◌||◌, ◌==◌, List, [], ◌∷◌, ◌++◌, refl, sym, ap, ◌∙◌, arith, eqb-true, ne_eqb, inl, inr}
use Rattle.std.specs.List.{range_with_len}
use Rattle.std.proofs.lemmas.Bool.{false≢true, or_cases, or_left, or_right, or_parts, or_from, both_ways}
use Rattle.std.proofs.lemmas.List.Folds.{list_any-append}
use Rattle.qz_syntax.specs.declared.places.Residual.{Residual, out-Residual, roll-Residual}
use Rattle.qz_syntax.specs.declared.places.Residual.TheOpen.{Residual-F}
use Rattle.qz_syntax.specs.declared.places.Residual.TheViews.{roll-out-Residual}
use Rattle.qz_syntax.specs.declared.places.Residual.TheVariants.{At, InSeq, InBody, rolls-At, rolls-InSeq, rolls-InBody}
use Rattle.qz_syntax.specs.Numbers.{contains}
use Rattle.qz_meaning.specs.LayoutLaws.{AreDifferent}
use Rattle.qz_first.specs.Mirror.{Control}
use Rattle.qz_first.specs.FirstResumes.{IsControl}

pub contains-append : (xs ys : List ℕ) (n : ℕ) → contains (xs ++ ys) n ≡ (contains xs n || contains ys n)
contains-append xs ys n = list_any-append (λ number. number == n) xs ys

pub contains_left : (xs ys : List ℕ) (n : ℕ) → contains xs n ≡ true → contains (xs ++ ys) n ≡ true
contains_left xs ys n h = contains-append xs ys n ∙ or_left (contains xs n) (contains ys n) h

pub contains_right : (xs ys : List ℕ) (n : ℕ) → contains ys n ≡ true → contains (xs ++ ys) n ≡ true
contains_right xs ys n h = contains-append xs ys n ∙ or_right (contains xs n) (contains ys n) h

pub different_left : (xs ys : List ℕ) → AreDifferent (xs ++ ys) → AreDifferent xs
different_left [] ys h = tt
different_left (x ∷ xs) ys h = ((or_parts (contains xs x) (contains ys x) (sym (contains-append xs ys x) ∙ h.0)).0, different_left xs ys h.1)

pub different_right : (xs ys : List ℕ) → AreDifferent (xs ++ ys) → AreDifferent ys
different_right [] ys h = h
different_right (x ∷ xs) ys h = different_right xs ys h.1

-- what is in the one part isn't in the other
pub apart : (xs ys : List ℕ) → AreDifferent (xs ++ ys) → (n : ℕ) → contains xs n ≡ true → contains ys n ≡ false
apart [] ys h n e = absurd (false≢true e)
apart (x ∷ xs) ys h n e = elim (or_cases (x == n) (contains xs n) e) [
  | inl is ↦ sym (ap (λ k. contains ys k) (eqb-true x n is)) ∙ (or_parts (contains xs x) (contains ys x) (sym (contains-append xs ys x) ∙ h.0)).1
  | inr there ↦ apart xs ys h.1 n there
]

pub control_left : (control : Control) (xs ys resting : List ℕ) → IsControl control (xs ++ ys) resting → IsControl control xs resting
control_left control xs ys resting h place e = h place (contains_left xs ys place e)

pub control_right : (control : Control) (xs ys resting : List ℕ) → IsControl control (xs ++ ys) resting → IsControl control ys resting
control_right control xs ys resting h place e = h place (contains_right xs ys place e)

-- where control rests in the one part, it is away from the other
pub away_right : (control : Control) (xs ys resting : List ℕ) → AreDifferent (xs ++ ys)
    → ((place : ℕ) → contains resting place ≡ true → contains xs place ≡ true)
    → IsControl control (xs ++ ys) resting → IsControl control ys []
away_right control xs ys resting different within h place e = h place (contains_right xs ys place e) ∙ by_resting (contains resting place) refl
  where
    by_resting : (b : Bool) → contains resting place ≡ b → contains resting place ≡ false
    by_resting false k = k
    by_resting true k = absurd (both_ways (contains ys place) (apart xs ys different place (within place k)) e)

pub away_left : (control : Control) (xs ys resting : List ℕ) → AreDifferent (xs ++ ys)
    → ((place : ℕ) → contains resting place ≡ true → contains ys place ≡ true)
    → IsControl control (xs ++ ys) resting → IsControl control xs []
away_left control xs ys resting different within h place e = h place (contains_left xs ys place e) ∙ by_resting (contains resting place) refl
  where
    by_resting : (b : Bool) → contains resting place ≡ b → contains resting place ≡ false
    by_resting false k = k
    by_resting true k = absurd (both_ways (contains ys place) (apart xs ys different place e) (within place k))

-- numbers that count up are all different
below_range : (from len n : ℕ) → n < from → contains (range_with_len from len) n ≡ false
below_range from zero n h = refl
below_range from (suc len) n h = or_from _ _ (ne_eqb from n (λ e. omega arith)) (below_range (from + 1) len n (omega arith))

pub range-different : (from len : ℕ) → AreDifferent (range_with_len from len)
range-different from zero = tt
range-different from (suc len) = (below_range (from + 1) len from (omega arith), range-different (from + 1) len)

-- what is among numbers that count up is below their end
pub in_range : (from len n : ℕ) → contains (range_with_len from len) n ≡ true → n < from + len
in_range from zero n h = absurd (false≢true h)
in_range from (suc len) n h = elim (or_cases (from == n) (contains (range_with_len (from + 1) len) n) h) [
  | inl is ↦ let e : from ≡ n = eqb-true from n is in omega arith
  | inr there ↦ let later : n < from + 1 + len = in_range (from + 1) len n there in omega arith
]

-- a residual is what it is taken apart into
pub is-At : (r : Residual) (n : ℕ) → out-Residual r ≡ Residual-F.At n → r ≡ At n
is-At r n h = sym (roll-out-Residual r) ∙ ap roll-Residual h ∙ rolls-At n

pub is-InSeq : (r : Residual) (n : ℕ) (inside : Residual) → out-Residual r ≡ Residual-F.InSeq n inside → r ≡ InSeq n inside
is-InSeq r n inside h = sym (roll-out-Residual r) ∙ ap roll-Residual h ∙ rolls-InSeq n inside

pub is-InBody : (r : Residual) (inside : Residual) → out-Residual r ≡ Residual-F.InBody inside → r ≡ InBody inside
is-InBody r inside h = sym (roll-out-Residual r) ∙ ap roll-Residual h ∙ rolls-InBody inside
