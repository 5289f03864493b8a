-- Lists of which only the places of what is met are touched.
use Rattle.std.proofs.Common.{◌≡◌, ◌≢◌, ◌<◌, ℕ, zero, suc, Bool, true, false, List, [], ◌∷◌, length, get_or, set, replicate, refl, sym, ap, subst, ◌∙◌, get_or-set_other, get_or-set_same}
use Rattle.std.specs.Prelude.{◌==◌, if◌then◌else◌}
use Rattle.std.proofs.lemmas.Bool.{false≢true, eqb-true}
use Rattle.std.proofs.lemmas.List.{length-set, ext_get_or}
use Rattle.qz_meaning.proofs.Orderly.{same_number}
use Rattle.qz_react.specs.declared.environments.Met.{Met}
use Rattle.qz_interp.specs.Touching.{is_among, assigned, OnlyThere}

length-assigned : {A : Type 0} (f : ℕ → A) (xs : List A) (met : List Met) → length (assigned f xs met) ≡ length xs
length-assigned f xs [] = refl
length-assigned f xs (one ∷ met) = length-assigned f (set xs one.instance (f one.instance)) met ∙ length-set xs one.instance (f one.instance)

pub differs : (a b : ℕ) → (a == b) ≡ false → b ≢ a
differs a b e is = false≢true (sym e ∙ ap (λ n. a == n) is ∙ same_number a)

-- elsewhere nothing changes
assigned_elsewhere : {A : Type 0} (f : ℕ → A) (d : A) (k : ℕ) (xs : List A) (met : List Met) → is_among met k ≡ false
    → get_or (assigned f xs met) k d ≡ get_or xs k d
assigned_elsewhere f d k xs [] h = refl
assigned_elsewhere f d k xs (one ∷ met) h =
    by_same (assigned_elsewhere f d k (set xs one.instance (f one.instance)) met) (one.instance == k) refl h
  where
    by_same : (is_among met k ≡ false → get_or (assigned f (set xs one.instance (f one.instance)) met) k d ≡ get_or (set xs one.instance (f one.instance)) k d)
        → (b : Bool) → (one.instance == k) ≡ b → (if b then true else is_among met k) ≡ false
        → get_or (assigned f (set xs one.instance (f one.instance)) met) k d ≡ get_or xs k d
    by_same others true e bad = absurd (false≢true (sym bad))
    by_same others false e rest =
        others rest
        ∙ get_or-set_other xs one.instance k (f one.instance) d (differs one.instance k e)

-- what stands there stays, if it is what is given
assigned_kept : {A : Type 0} (f : ℕ → A) (d : A) (k : ℕ) (xs : List A) (met : List Met) → k < length xs → get_or xs k d ≡ f k
    → get_or (assigned f xs met) k d ≡ f k
assigned_kept f d k xs [] less h = h
assigned_kept f d k xs (one ∷ met) less h =
    assigned_kept f d k (set xs one.instance (f one.instance)) met (subst (λ n. k < n) (sym (length-set xs one.instance (f one.instance))) less) (by_same (one.instance == k) refl)
  where
    by_same : (b : Bool) → (one.instance == k) ≡ b → get_or (set xs one.instance (f one.instance)) k d ≡ f k
    by_same true e =
        let is : one.instance ≡ k = eqb-true one.instance k e in
        subst (λ j. get_or (set xs j (f j)) k d ≡ f k) (sym is) (get_or-set_same xs k (f k) d less)
    by_same false e = get_or-set_other xs one.instance k (f one.instance) d (differs one.instance k e) ∙ h

-- there stands what is given
assigned_there : {A : Type 0} (f : ℕ → A) (d : A) (k : ℕ) (xs : List A) (met : List Met) → k < length xs → is_among met k ≡ true
    → get_or (assigned f xs met) k d ≡ f k
assigned_there f d k xs [] less h = absurd (false≢true h)
assigned_there f d k xs (one ∷ met) less h =
    by_same (assigned_there f d k (set xs one.instance (f one.instance)) met within) (one.instance == k) refl h
  where
    within : k < length (set xs one.instance (f one.instance))
    within = subst (λ n. k < n) (sym (length-set xs one.instance (f one.instance))) less

    by_same : (is_among met k ≡ true → get_or (assigned f (set xs one.instance (f one.instance)) met) k d ≡ f k)
        → (b : Bool) → (one.instance == k) ≡ b → (if b then true else is_among met k) ≡ true
        → get_or (assigned f (set xs one.instance (f one.instance)) met) k d ≡ f k
    by_same others true e rest =
        let is : one.instance ≡ k = eqb-true one.instance k e in
        let here : get_or (set xs one.instance (f one.instance)) k d ≡ f k =
        subst (λ j. get_or (set xs j (f j)) k d ≡ f k) (sym is) (get_or-set_same xs k (f k) d less) in
        assigned_kept f d k (set xs one.instance (f one.instance)) met within here
    by_same others false e rest = others rest

pub only_nothing : {A : Type 0} (d : A) (met : List Met) (xs : List A) → OnlyThere d met xs xs
only_nothing d met xs = record { count = refl; elsewhere = λ k h. refl }

pub only_assigned : {A : Type 0} (d : A) (met : List Met) (f : ℕ → A) (xs ys : List A) → OnlyThere d met xs ys → OnlyThere d met xs (assigned f ys met)
only_assigned d met f xs ys only = record {
  count = length-assigned f ys met ∙ only.count;
  elsewhere = λ k h. assigned_elsewhere f d k ys met h ∙ only.elsewhere k h;
}

-- a list is what it becomes, if it is so there and elsewhere
pub assigned_is : {A : Type 0} (d : A) (met : List Met) (f : ℕ → A) (xs ys target : List A) → OnlyThere d met xs ys → length target ≡ length xs
    → ((k : ℕ) → k < length xs → is_among met k ≡ true → f k ≡ get_or target k d)
    → ((k : ℕ) → k < length xs → is_among met k ≡ false → get_or xs k d ≡ get_or target k d)
    → assigned f ys met ≡ target
assigned_is d met f xs ys target only long there elsewhere =
    ext_get_or d (assigned f ys met) target (length-assigned f ys met ∙ only.count ∙ sym long) at
  where
    at : (k : ℕ) → k < length (assigned f ys met) → get_or (assigned f ys met) k d ≡ get_or target k d
    at k less = by_among (is_among met k) refl where
      within : k < length ys
      within = subst (λ n. k < n) (length-assigned f ys met) less

      inside : k < length xs
      inside = subst (λ n. k < n) only.count within

      by_among : (b : Bool) → is_among met k ≡ b → get_or (assigned f ys met) k d ≡ get_or target k d
      by_among true e = assigned_there f d k ys met within e ∙ there k inside e
      by_among false e = assigned_elsewhere f d k ys met e ∙ only.elsewhere k e ∙ elsewhere k inside e

-- set back, it is as it was
pub set_back : {A : Type 0} (d : A) (met : List Met) (f : ℕ → A) (xs ys : List A) → OnlyThere d met xs ys
    → ((k : ℕ) → k < length xs → f k ≡ get_or xs k d) → assigned f ys met ≡ xs
set_back d met f xs ys only is = assigned_is d met f xs ys xs only refl (λ k less e. is k less) (λ k less e. refl)

pub get_or_replicate : {A : Type 0} (n k : ℕ) (x : A) → get_or (replicate n x) k x ≡ x
get_or_replicate zero k x = refl
get_or_replicate (suc n) zero x = refl
get_or_replicate (suc n) (suc k) x = get_or_replicate n k x

pub length-replicate : {A : Type 0} (n : ℕ) (x : A) → length (replicate n x) ≡ n
length-replicate zero x = refl
length-replicate (suc n) x = ap suc (length-replicate n x)
