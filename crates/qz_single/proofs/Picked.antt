-- What is found at some of a list's items, one by one.
use Rattle.std.proofs.Common.{◌≡◌, List, [], ◌∷◌, ◌++◌, Option, Some, None, map, refl, sym, ap, ◌∙◌, append_assoc}
use Rattle.std.specs.List.{filter_map, cons_option}
use Rattle.std.specs.Option.{option_to_list}
use Rattle.std.proofs.lemmas.List.{map-append}
use Rattle.std.proofs.lemmas.List.Elements.{filter_map-append}

found : {B : Type 0} (o : Option B) (ys : List B) → option_to_list o ++ ys ≡ cons_option o ys
found None ys = refl
found (Some y) ys = refl

pub one_more : {A B : Type 0} (f : A → Option B) (before after all : List B) (x : A) (xs : List A)
    → after ≡ before ++ option_to_list (f x) → before ++ filter_map f (x ∷ xs) ≡ all → after ++ filter_map f xs ≡ all
one_more f before after all x xs e h = ap (λ ys. ys ++ filter_map f xs) e ∙ append_assoc before (option_to_list (f x)) (filter_map f xs) ∙ ap (λ ys. before ++ ys) (found (f x) (filter_map f xs)) ∙ h

-- what is picked of two lists, one after the other
pub picked_both : {A B : Type 0} (f : A → Option B) (none one both : List B) (xs ys : List A) → none ≡ [] → one ≡ none ++ filter_map f xs
    → both ≡ one ++ filter_map f ys → both ≡ filter_map f (xs ++ ys)
picked_both f none one both xs ys n e h = h ∙ ap (λ zs. zs ++ filter_map f ys) (e ∙ ap (λ zs. zs ++ filter_map f xs) n) ∙ sym (filter_map-append f xs ys)

-- what is made of two lists, one after the other
pub mapped_both : {A B : Type 0} (f : A → B) (none one both : List B) (xs ys : List A) → none ≡ [] → one ≡ none ++ map f xs
    → both ≡ one ++ map f ys → both ≡ map f (xs ++ ys)
mapped_both f none one both xs ys n e h = h ∙ ap (λ zs. zs ++ map f ys) (e ∙ ap (λ zs. zs ++ map f xs) n) ∙ sym (map-append f xs ys)
