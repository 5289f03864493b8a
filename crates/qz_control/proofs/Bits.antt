-- Plain knowledge by the operators, and lists of which some parts happen.
use Rattle.std.proofs.Common.{◌≡◌, ℕ, Bool, true, false, ◌&&◌, ◌||◌, not, List, [], ◌∷◌, ◌++◌, refl, sym, ap, ap₂, ◌∙◌, if◌then◌else◌}
use Rattle.std.proofs.lemmas.Bool.{false≢true}
use Rattle.qz_values.specs.declared.Know.{Know}
use Rattle.qz_values.specs.Knowledge.{both, either, opposite, knows_yes}
use Rattle.qz_syntax.specs.declared.places.Mark.{Mark}
use Rattle.qz_meaning.specs.Instances.{local_instance}
use Rattle.qz_meaning.specs.Landings.{Deed, Spot, Keeps, keeps}
use Rattle.qz_meaning.specs.Carrying.{is_somewhere}
use Rattle.qz_control.specs.Leaves.{known_bit}
use Rattle.qz_control.specs.Guarded.{Deeds, Guarded, lively, come_to, chosen, keeps_where, when}

pub both_known : (a b : Bool) → both (known_bit a) (known_bit b) ≡ known_bit (a && b)
both_known true true = refl
both_known true false = refl
both_known false true = refl
both_known false false = refl

pub either_known : (a b : Bool) → either (known_bit a) (known_bit b) ≡ known_bit (a || b)
either_known true true = refl
either_known true false = refl
either_known false true = refl
either_known false false = refl

pub either_none : (a : Bool) → either (known_bit a) (known_bit false) ≡ known_bit a
either_none true = refl
either_none false = refl

pub opposite_known : (a : Bool) → opposite (known_bit a) ≡ known_bit (not a)
opposite_known true = refl
opposite_known false = refl

pub knows_known : (a : Bool) → knows_yes (known_bit a) ≡ a
knows_known true = refl
knows_known false = refl

pub bit_from : (a b : Bool) → known_bit a ≡ known_bit b → a ≡ b
bit_from a b h = sym (knows_known a) ∙ ap knows_yes h ∙ knows_known b

pub not_true : (b : Bool) → not b ≡ true → b ≡ false
not_true true h = absurd (false≢true h)
not_true false h = refl

pub or_false : (b : Bool) → (b || false) ≡ b
or_false true = refl
or_false false = refl

pub append-none : {A : Type 0} (xs : List A) → xs ++ [] ≡ xs
append-none [] = refl
append-none (x ∷ xs) = ap (λ i. x ∷ i) (append-none xs)

-- parts that happen where something holds
pub when_none : {A : Type 0} (g : Bool) → when {A = A} g [] ≡ []
when_none true = refl
when_none false = refl

pub when_append : {A : Type 0} (g : Bool) (xs ys : List A) → when g xs ++ when g ys ≡ when g (xs ++ ys)
when_append true xs ys = refl
when_append false xs ys = refl

-- deeds that are come to
one_more : {A : Type 0} (b : Bool) (x : A) (xs ys more : List A) → xs ≡ ys ++ more → (if b then x ∷ xs else xs) ≡ (if b then x ∷ ys else ys) ++ more
one_more true x xs ys more h = ap (λ i. x ∷ i) h
one_more false x xs ys more h = h

pub come-append : (xs ys : Deeds) → come_to (xs ++ ys) ≡ come_to xs ++ come_to ys
come-append [] ys = refl
come-append (x ∷ xs) ys = one_more (knows_yes x.0) x.1 _ _ _ (come-append xs ys)

pub come_lively : (live : Bool) (deeds : List Deed) → come_to (lively (known_bit live) deeds) ≡ when live deeds
come_lively true [] = refl
come_lively true (d ∷ deeds) = ap (λ i. d ∷ i) (come_lively true deeds)
come_lively false [] = refl
come_lively false (d ∷ deeds) = come_lively false deeds

-- two parts, each with what it comes to
pub joined : (xs ys : Deeds) (us vs : List Deed) → come_to xs ≡ us → come_to ys ≡ vs → come_to (xs ++ ys) ≡ us ++ vs
joined xs ys us vs p q = come-append xs ys ∙ ap₂ (λ i j. i ++ j) p q

pub started : (live : Know) (b : Bool) (deeds others : List Deed) → live ≡ known_bit b → deeds ≡ others → come_to (lively live deeds) ≡ when b others
started live b deeds others p q = ap₂ (λ i j. come_to (lively i j)) p q ∙ come_lively b others

-- spots that are chosen
pub chosen-append : (xs ys : Guarded) → chosen (xs ++ ys) ≡ chosen xs ++ chosen ys
chosen-append [] ys = refl
chosen-append (x ∷ xs) ys = one_more (knows_yes x.1) x.0 _ _ _ (chosen-append xs ys)

pub chosen_both : (xs ys : Guarded) (us vs : List Spot) → chosen xs ≡ us → chosen ys ≡ vs → chosen (xs ++ ys) ≡ us ++ vs
chosen_both xs ys us vs p q = chosen-append xs ys ∙ ap₂ (λ i j. i ++ j) p q

pub chosen_keeps : (locals : List ℕ) (m : Mark) (g : Bool) → chosen (keeps_where locals m (known_bit g)) ≡ when g (keeps locals m)
chosen_keeps [] m true = refl
chosen_keeps [] m false = refl
chosen_keeps (n ∷ locals) m true = ap (λ i. Keeps (local_instance n m) ∷ i) (chosen_keeps locals m true)
chosen_keeps (n ∷ locals) m false = chosen_keeps locals m false

pub somewhere-append : (xs ys : List Spot) → is_somewhere (xs ++ ys) ≡ (is_somewhere xs || is_somewhere ys)
somewhere-append [] ys = refl
somewhere-append (x ∷ xs) ys = refl
