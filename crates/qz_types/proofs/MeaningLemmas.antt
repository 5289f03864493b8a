-- Declarations that are undone.
use Rattle.std.proofs.Common.{◌≡◌, ℕ, Bool, true, false, List, [], ◌∷◌, ◌++◌, Option, Some, refl, ap, ◌∙◌}
use Rattle.std.proofs.Math.Path.{fun_ext}
use Rattle.std.proofs.lemmas.Slice.Eq.{bytes_eq-Decides}
use Rattle.std.specs.Str.{bytes_eq}
use Rattle.qz_types.specs.declared.scope.Was.{Was}
use Rattle.qz_types.specs.Meanings.{Meanings, updated, before}

pub before_append : {T : Type 0} (ws : List (Was T)) (w : Was T) (m : Meanings T) → before (ws ++ w ∷ []) m ≡ before ws (updated m w.name w.meaning)
before_append [] w m = refl
before_append (v ∷ ws) w m = ap (λ x. updated x v.name v.meaning) (before_append ws w m)

same_text : (xs ys : List ℕ) → bytes_eq xs ys ≡ true → xs ≡ ys
same_text xs ys e = (bytes_eq-Decides xs ys).0 e

updated_at : {T : Type 0} (m : Meanings T) (name q : List ℕ) (v : Option T) (b : Bool) → bytes_eq name q ≡ b → updated (updated m name v) name (m name) q ≡ m q
updated_at m name q v true e = rw e (ap m (same_text name q e))
updated_at m name q v false e = rw e refl

pub updated_back : {T : Type 0} (m : Meanings T) (name : List ℕ) (v : Option T) → updated (updated m name v) name (m name) ≡ m
updated_back m name v = fun_ext (λ q. updated_at m name q v (bytes_eq name q) refl)

-- a declaration more, which is undone first
pub undone_more : {T : Type 0} (ws vs : List (Was T)) (m n : Meanings T) (name copy : List ℕ) (was meaning : Option T)
    → vs ≡ ws ++ record { name = copy; meaning = was } ∷ [] → copy ≡ name → was ≡ m name → n ≡ updated m name meaning → before vs n ≡ before ws m
undone_more ws vs m n name copy was meaning grown same stood set =
    rw (grown, same, stood, set) (before_append ws (record { name = name; meaning = m name }) (updated m name meaning) ∙ ap (before ws) (updated_back m name meaning))
