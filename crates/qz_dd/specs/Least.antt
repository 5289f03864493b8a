-- The least bits at which a number is true.
use Rattle.std.specs.Prelude.{ℕ, ◌+◌, ◌<◌, ◌≤◌, ◌≡◌, Bool, true, false, List, [], ◌∷◌, length, slice_index_or}
use Rattle.qz_dd.specs.declared.node.Node.{Node}
use Rattle.qz_dd.specs.Nodes.{value, level}

-- the order of bits: the first counts most, and false comes before true
abbrev pub IsNoLater : List Bool → List Bool → Type 0
IsNoLater [] ys = Unit {0}
IsNoLater (x ∷ xs) [] = ⊥
IsNoLater (false ∷ xs) (true ∷ ys) = Unit {0}
IsNoLater (true ∷ xs) (false ∷ ys) = ⊥
IsNoLater (false ∷ xs) (false ∷ ys) = IsNoLater xs ys
IsNoLater (true ∷ xs) (true ∷ ys) = IsNoLater xs ys

-- d is true at these bits, and at none that come before them
pub record IsLeast (vars : ℕ) (nodes : List Node) (d : ℕ) (bits : List Bool) : Type 0 where
  pub size : length bits ≡ vars
  pub is_true : value nodes d bits ≡ true
  pub least : (other : List Bool) → length other ≡ vars → value nodes d other ≡ true → IsNoLater bits other

-- d is false at all bits, and the bits stay
pub record IsNowhere (nodes : List Node) (d : ℕ) (old new : List Bool) : Type 0 where
  pub same : new ≡ old
  pub is_false : (bits : List Bool) → value nodes d bits ≡ false

-- the same bits before this one
abbrev pub SameBits : ℕ → List Bool → List Bool → Type 0
SameBits n xs ys = (j : ℕ) → j < n → slice_index_or xs j false ≡ slice_index_or ys j false

-- the walk from d has come to this number by bits that are the least so far
pub record OnPath (vars : ℕ) (nodes : List Node) (d at : ℕ) (bits : List Bool) : Type 0 where
  pub size : length bits ≡ vars
  pub below : at < length nodes + 2
  pub not_false : at ≡ 0 → ⊥
  pub rest : (i : ℕ) → level vars nodes at ≤ i → slice_index_or bits i false ≡ false
  pub follows : (other : List Bool) → SameBits (level vars nodes at) bits other → value nodes d other ≡ value nodes at other
  pub least : (other : List Bool) → value nodes d other ≡ true → (i : ℕ) → i < level vars nodes at → SameBits i bits other →
      slice_index_or bits i false ≡ true → slice_index_or other i false ≡ true
