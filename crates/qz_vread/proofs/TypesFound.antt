-- The types of declared nets, gathered one by one.
use Rattle.std.proofs.Common.{◌≡◌, ◌↔◌, ℕ, zero, suc, ◌+◌, ◌<◌, ◌≤◌, Bool, true, false, ◌||◌, List, [], ◌∷◌, ◌++◌, length, map, take, take_all, replicate, get_or, Some, IsTrue, refl, inl, inr, sym, ap, ◌∙◌}
use Rattle.std.specs.Prelude.{slice_get, ◌⊎◌}
use Rattle.std.specs.List.{AllByRecursion, list_any, list_all}
use Rattle.std.proofs.lemmas.Bool.{or_cases, or_left, or_right, false≢true}
use Rattle.std.proofs.lemmas.List.{take_more, map-append}
use Rattle.std.proofs.lemmas.List.Folds.{list_any-append}
use Rattle.qz_values.specs.declared.Ty.{Ty}
use Rattle.qz_values.specs.declared.Ty.TheVariants as ty
use Rattle.qz_values.specs.Types.{is_same_type}
use Rattle.qz_values.proofs.Typed.{same-is_same_type, is_same_type-self}
use Rattle.qz_verilog.specs.declared.nets.Ref.{Ref}
use Rattle.qz_verilog.specs.declared.nets.Ref.TheVariants as net
use Rattle.qz_verilog.specs.Types.{NetTypes, net_type}
use Rattle.qz_verilog.proofs.ValidityLemmas.{all_pass}
use Rattle.qz_vread.specs.declared.driven.TypeSet.{TypeSet}
use Rattle.qz_vread.specs.TypeSets.{has, Adds}
use Rattle.qz_vread.specs.Drafts.{HasNet}

or_assoc : (a b c : Bool) → ((a || b) || c) ≡ (a || (b || c))
or_assoc true b c = refl
or_assoc false b c = refl

-- one type more
pub adds_more : {A : Type 0} (f : A → Ty) (xs : List A) (i : ℕ) (x d : A) (old mid new : TypeSet) → i < length xs → x ≡ get_or xs i d → Adds old mid (map f (take i xs))
    → ((t : Ty) → has new t ≡ (has mid t || is_same_type t (f x))) → Adds old new (map f (take (i + 1) xs))
adds_more f xs i x d old mid new below is so_far more t =
    let test : Ty → Bool = λ u. is_same_type t u in
    let taken : map f (take (i + 1) xs) ≡ map f (take i xs) ++ f x ∷ [] =
    ap (map f) (take_more xs i d below ∙ ap (λ y. take i xs ++ y ∷ []) (sym is)) ∙ map-append f (take i xs) (x ∷ []) in
    more t
    ∙ ap (λ b. b || is_same_type t (f x)) (so_far t)
    ∙ or_assoc (has old t) (list_any test (map f (take i xs))) (is_same_type t (f x))
    ∙ ap (λ b. has old t || b) (ap (λ b. list_any test (map f (take i xs)) || b) (or_no (is_same_type t (f x))) ∙ sym (ap (list_any test) taken ∙ list_any-append test (map f (take i xs)) (f x ∷ [])))
  where
    or_no : (b : Bool) → b ≡ (b || false)
    or_no true = refl
    or_no false = refl

pub adds_none : {A : Type 0} (f : A → Ty) (xs : List A) (old : TypeSet) → Adds old old (map f (take 0 xs))
adds_none f xs old t = or_no (has old t)
  where
    or_no : (b : Bool) → b ≡ (b || false)
    or_no true = refl
    or_no false = refl

record Place (types : List Ty) (t : Ty) : Type 0 where
  at : ℕ
  is : slice_get types at ≡ Some t

placed : (types : List Ty) (t : Ty) → list_any (λ u. is_same_type t u) types ≡ true → Place types t
placed [] t some = absurd (false≢true some)
placed (u ∷ types) t some = by (or_cases (is_same_type t u) (list_any (λ v. is_same_type t v) types) some) (placed types t)
  where
    by : (is_same_type t u ≡ true) ⊎ (list_any (λ v. is_same_type t v) types ≡ true) → (list_any (λ v. is_same_type t v) types ≡ true → Place types t) → Place (u ∷ types) t
    by (inl here) more = record { at = 0; is = ap (λ v. Some v) (sym (same-is_same_type t u here)) }
    by (inr later) more = let there = more later in record { at = suc there.at; is = there.is }

found : (types : List Ty) (t : Ty) (k : ℕ) → slice_get types k ≡ Some t → list_any (λ u. is_same_type t u) types ≡ true
found [] t k e = absurd cc
found (u ∷ types) t zero e = let same : u ≡ t = cc in or_left (is_same_type t u) (list_any (λ v. is_same_type t v) types) (ap (is_same_type t) same ∙ is_same_type-self t)
found (u ∷ types) t (suc k) e = or_right (is_same_type t u) (list_any (λ v. is_same_type t v) types) (found types t k e)

abbrev pub among : NetTypes → Ty → Bool
among types t = (list_any (λ u. is_same_type t u) types.inputs || list_any (λ u. is_same_type t u) types.registers) || list_any (λ u. is_same_type t u) types.wires

has_net : (types : NetTypes) (t : Ty) → IsTrue (among types t) ↔ HasNet types t
has_net types t = (to, λ h. from h.net h.typed)
  where
    to : among types t ≡ true → HasNet types t
    to some = by (or_cases (list_any (λ u. is_same_type t u) types.inputs || list_any (λ u. is_same_type t u) types.registers) (list_any (λ u. is_same_type t u) types.wires) some)
      where
        front : (list_any (λ u. is_same_type t u) types.inputs ≡ true) ⊎ (list_any (λ u. is_same_type t u) types.registers ≡ true) → HasNet types t
        front (inl input) = let p = placed types.inputs t input in record { net = net.Input p.at; typed = p.is }
        front (inr register) = let p = placed types.registers t register in record { net = net.Reg p.at; typed = p.is }

        by : ((list_any (λ u. is_same_type t u) types.inputs || list_any (λ u. is_same_type t u) types.registers) ≡ true) ⊎ (list_any (λ u. is_same_type t u) types.wires ≡ true) → HasNet types t
        by (inl first) = front (or_cases (list_any (λ u. is_same_type t u) types.inputs) (list_any (λ u. is_same_type t u) types.registers) first)
        by (inr wire) = let p = placed types.wires t wire in record { net = net.Wire p.at; typed = p.is }

    from : (r : Ref) → net_type types r ≡ Some t → among types t ≡ true
    from (net.Input k) e = or_left _ _ (or_left _ _ (found types.inputs t k e))
    from (net.Reg k) e = or_left _ _ (or_right _ _ (found types.registers t k e))
    from (net.Wire k) e = or_right _ _ (found types.wires t k e)

-- whether each of some types has a net
pub all_have : (types : NetTypes) (test : Ty → Bool) (ts : List Ty) → ((t : Ty) → test t ≡ among types t) → IsTrue (list_all test ts) ↔ AllByRecursion (HasNet types) ts
all_have types test ts same = all_pass test (HasNet types) (λ t. both t (same t)) ts
  where
    both : (t : Ty) → test t ≡ among types t → IsTrue (test t) ↔ HasNet types t
    both t e = (λ h. (has_net types t).0 (sym e ∙ h), λ h. e ∙ (has_net types t).1 h)

-- all types were added
pub adds_all : {A : Type 0} (f : A → Ty) (xs : List A) (i : ℕ) (old new : TypeSet) → length xs ≤ i → Adds old new (map f (take i xs)) → Adds old new (map f xs)
adds_all f xs i old new end added t = added t ∙ ap (λ ys. has old t || list_any (λ u. is_same_type t u) (map f ys)) (take_all i xs end)

-- types that were added to none
pub gathered : (ins regs wires : List Ty) (a b c d : TypeSet) → Adds a b ins → Adds b c regs → Adds c d wires → ((t : Ty) → has a t ≡ false) → (t : Ty)
    → has d t ≡ ((list_any (λ u. is_same_type t u) ins || list_any (λ u. is_same_type t u) regs) || list_any (λ u. is_same_type t u) wires)
gathered ins regs wires a b c d one two three none t =
    three t
    ∙ ap (λ x. x || list_any (λ u. is_same_type t u) wires)
    (two t ∙ ap (λ x. x || list_any (λ u. is_same_type t u) regs) (one t ∙ ap (λ x. x || list_any (λ u. is_same_type t u) ins) (none t)))

none_among : (n k : ℕ) → get_or (replicate n false) k false ≡ false
none_among zero k = refl
none_among (suc n) zero = refl
none_among (suc n) (suc k) = none_among n k

abbrev pub nothing_has : TypeSet
nothing_has = record { has_bool = false; widths = replicate 256 false }

pub no_types : (t : Ty) → has nothing_has t ≡ false
no_types ty.Bool = refl
no_types (ty.Bv w) = none_among 256 w
