-- What a function that reads answers.
use Rattle.std.specs.Prelude.{◌≡◌, ℕ, ◌+◌, ◌<◌, List, ◌++◌, Option, Some, codes}
use Rattle.std.specs.Fmt.{decimal}
use Rattle.qz_values.specs.declared.Ty.{Ty}
use Rattle.qz_values.specs.declared.Ty.TheVariants.{Bv}
use Rattle.qz_values.specs.Types.{IsType}
use Rattle.qz_vtext.specs.Spelling.{type_text}
use Rattle.qz_vread.specs.Parts.{NoFront}

-- what was found: the one thing that is right and stands there, where there is one
pub record Finds {X : Type 0} (right stands : X → Type 0) (found : Option X) : Type 0 where
  pub sound : (x : X) → found ≡ Some x → right x × stands x
  pub complete : (x : X) → right x → stands x → found ≡ Some x

-- what was found of these bytes: the one thing that is right and has them as its text
abbrev pub Reads : {X : Type 0} → (X → Type 0) → (X → List ℕ) → List ℕ → Option X → Type 0
Reads {X} right text bytes found = Finds {X = X} right (λ x. bytes ≡ text x) found

-- a type stands in front, and no `[` after it
pub record IsTyped (bytes : List ℕ) (t : Ty) (rest : List ℕ) : Type 0 where
  pub typed : IsType t
  pub open_end : NoFront rest (codes "[")
  pub whole : bytes ≡ type_text t ++ rest

-- no type stands in front
abbrev pub IsUntyped : List ℕ → Type 0
IsUntyped bytes = (t : Ty) (rest : List ℕ) → IsTyped bytes t rest → ⊥

-- just this type stands in front, whether or not a `[` comes after it
pub record HasType (bytes : List ℕ) (t : Ty) (rest : List ℕ) : Type 0 where
  pub typed : IsType t
  pub whole : bytes ≡ type_text t ++ rest
  pub only : (u : Ty) (other : List ℕ) → IsTyped bytes u other → (u ≡ t) × (other ≡ rest)

-- after `[` the rest of a vector's range stands in front: the number of its highest bit, and `:0] `
pub record IsRange (bytes : List ℕ) (t : Ty) (rest : List ℕ) : Type 0 where
  pub high : ℕ
  pub below : high < 64
  pub vector : t ≡ Bv (high + 1)
  pub whole : bytes ≡ decimal high ++ (codes ":0] " ++ rest)

-- the rest of no range stands in front
abbrev pub IsNoRange : List ℕ → Type 0
IsNoRange bytes = (t : Ty) (rest : List ℕ) → IsRange bytes t rest → ⊥

-- a type, this mark and a rest
pub record IsMarked (mark bytes : List ℕ) (t : Ty) (rest : List ℕ) : Type 0 where
  pub typed : IsType t
  pub whole : bytes ≡ type_text t ++ (mark ++ rest)

-- just this type, the mark and this rest
pub record HasMarked (mark bytes : List ℕ) (t : Ty) (rest : List ℕ) : Type 0 where
  pub is : IsMarked mark bytes t rest
  pub only : (u : Ty) (other : List ℕ) → IsMarked mark bytes u other → (u ≡ t) × (other ≡ rest)

-- a text with `;` after it, behind a word, a number, a space and another word
abbrev pub numbered_line : List ℕ → ℕ → List ℕ → List ℕ → List ℕ
numbered_line before number after text = before ++ (decimal number ++ (codes " " ++ (after ++ (text ++ codes ";"))))
