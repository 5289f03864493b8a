-- Names that are kept one after the other, as long as each is new.
use Rattle.std.proofs.Common.{◌≡◌, ℕ, ◌+◌, ◌<◌, Bool, true, false, not, ◌&&◌, ◌||◌, List, [], ◌∷◌, ◌++◌, length, take, drop, get_or, refl, sym, ap, ap₂, ◌∙◌, if◌then◌else◌}
use Rattle.std.specs.List.{list_any}
use Rattle.std.specs.Str.{bytes_eq}
use Rattle.std.proofs.lemmas.Bool.{and_parts, false≢true}
use Rattle.std.proofs.lemmas.List.{take_more, drop_more, take-append-drop, map-append}
use Rattle.std.proofs.lemmas.List.Folds.{list_any-append}
use Rattle.std.proofs.lemmas.Slice.Eq.{bytes_eq-Decides}
use Rattle.indexmap.specs.IndexSet.{insert_key}
use Rattle.qz_syntax.specs.declared.declarations.Formal.{Formal}
use Rattle.qz_syntax.specs.DoubleNames.{is_among, are_distinct, formal_names}
use Rattle.qz_first.proofs.BitLemmas.{and-false, or-false}

-- names are equal both ways
same_back : (a b : List ℕ) → bytes_eq a b ≡ true → bytes_eq b a ≡ true
same_back a b h = (bytes_eq-Decides b a).1 (sym ((bytes_eq-Decides a b).0 h))

apart_back : (a b : List ℕ) → bytes_eq a b ≡ false → bytes_eq b a ≡ false
apart_back a b h = by (bytes_eq b a) refl
  where
    by : (r : Bool) → bytes_eq b a ≡ r → r ≡ false
    by false is = refl
    by true is = absurd (false≢true (sym h ∙ same_back b a is))

or_true : (b : Bool) → (b || true) ≡ true
or_true true = refl
or_true false = refl

none_of : (a b : Bool) → (a || b) ≡ false → (a ≡ false) × (b ≡ false)
none_of true b h = absurd (false≢true (sym h))
none_of false b h = (refl, h)

-- a set's look-up is the same question
among_is : (names : List (List ℕ)) (name : List ℕ) → list_any (bytes_eq name) names ≡ is_among names name
among_is [] name = refl
among_is (first ∷ names) name = ap₂ (λ a b. a || b) (same_both (bytes_eq first name) refl) (among_is names name)
  where
    same_both : (b : Bool) → bytes_eq first name ≡ b → bytes_eq name first ≡ bytes_eq first name
    same_both true is = same_back first name is ∙ sym is
    same_both false is = apart_back first name is ∙ sym is

-- a name that isn't among them
distinct_more : (names : List (List ℕ)) (name : List ℕ) → are_distinct names ≡ true → is_among names name ≡ false
    → are_distinct (names ++ name ∷ []) ≡ true
distinct_more [] name h new = refl
distinct_more (first ∷ names) name h new =
    let both = and_parts (not (is_among names first)) (are_distinct names) h in
    let apart = none_of (bytes_eq first name) (is_among names name) new in
    ap₂ (λ a b. a && b)
    (ap not (list_any-append (λ other. bytes_eq other first) names (name ∷ [])
    ∙ ap (λ b. is_among names first || (b || false)) (apart_back first name apart.0)
    ∙ or-false (is_among names first))
    ∙ both.0)
    (distinct_more names name both.1 apart.1)

-- a name that is among those before it
twice : (names : List (List ℕ)) (name : List ℕ) (rest : List (List ℕ)) → is_among names name ≡ true
    → are_distinct (names ++ name ∷ rest) ≡ false
twice [] name rest h = absurd (false≢true h)
twice (first ∷ names) name rest h = by (bytes_eq first name) refl (λ again. twice names name rest again)
  where
    by : (r : Bool) → bytes_eq first name ≡ r → (is_among names name ≡ true → are_distinct (names ++ name ∷ rest) ≡ false)
        → (not (is_among (names ++ name ∷ rest) first) && are_distinct (names ++ name ∷ rest)) ≡ false
    by true is again =
        ap (λ b. not b && are_distinct (names ++ name ∷ rest))
        (list_any-append (λ other. bytes_eq other first) names (name ∷ rest)
        ∙ ap (λ b. is_among names first || (b || is_among rest first)) (same_back first name is)
        ∙ or_true (is_among names first))
    by false is again =
        ap (λ b. not (is_among (names ++ name ∷ rest) first) && b) (again (sym (ap (λ b. b || is_among names name) is) ∙ h))
        ∙ and-false (not (is_among (names ++ name ∷ rest) first))

module _ (formals : List Formal) (i : ℕ) (formal : Formal) (within : i < length formals) (is : formal ≡ get_or formals i formal)
    (name : List ℕ) (same : name ≡ formal.name) (keys new : List (List ℕ)) (keys_are : keys ≡ formal_names (take i formals)) (added : Bool)
    (added_is : added ≡ not (list_any (bytes_eq name) keys)) where
  names_more : formal_names (take (i + 1) formals) ≡ formal_names (take i formals) ++ formal.name ∷ []
  names_more =
      ap formal_names (take_more formals i formal within ∙ ap (λ f. take i formals ++ f ∷ []) (sym is))
      ∙ map-append (λ (f : Formal). f.name) (take i formals) (formal ∷ [])

  names_split : formal_names formals ≡ formal_names (take i formals) ++ formal.name ∷ formal_names (drop (i + 1) formals)
  names_split =
      ap formal_names (sym (take-append-drop i formals)
      ∙ ap (λ fs. take i formals ++ fs) (drop_more formals i formal within ∙ ap (λ f. f ∷ drop (i + 1) formals) (sym is)))
      ∙ map-append (λ (f : Formal). f.name) (take i formals) (formal ∷ drop (i + 1) formals)

  found : (b : Bool) → list_any (bytes_eq name) keys ≡ b → added ≡ not b
  found b h = added_is ∙ ap not h

  -- it is kept as the next one
  pub kept_next : added ≡ true → new ≡ insert_key bytes_eq keys name → are_distinct keys ≡ true
      → (new ≡ formal_names (take (i + 1) formals)) × (are_distinct new ≡ true)
  kept_next is_new new_is apart = by (list_any (bytes_eq name) keys) refl
    where
      by : (b : Bool) → list_any (bytes_eq name) keys ≡ b → (new ≡ formal_names (take (i + 1) formals)) × (are_distinct new ≡ true)
      by true h = absurd (false≢true (sym (found true h) ∙ is_new))
      by false h =
          let grown : new ≡ keys ++ name ∷ [] = new_is ∙ ap (λ b. if b then keys else keys ++ name ∷ []) h in (
            grown ∙ ap₂ (λ ks n. ks ++ n ∷ []) keys_are same ∙ sym names_more,
            ap are_distinct grown ∙ distinct_more keys name apart (sym (among_is keys name) ∙ h),
          )

  -- it stood already
  pub stood_already : added ≡ false → are_distinct (formal_names formals) ≡ false
  stood_already is_old = by (list_any (bytes_eq name) keys) refl
    where
      by : (b : Bool) → list_any (bytes_eq name) keys ≡ b → are_distinct (formal_names formals) ≡ false
      by false h = absurd (false≢true (sym is_old ∙ found false h))
      by true h =
          ap are_distinct (names_split ∙ ap₂ (λ ks n. ks ++ n ∷ formal_names (drop (i + 1) formals)) (sym keys_are) (sym same))
          ∙ twice keys name (formal_names (drop (i + 1) formals)) (sym (among_is keys name) ∙ h)
