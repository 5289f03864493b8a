-- The law of place bits: those of a place where control can rest say that it rests there.
use Rattle.std.specs.Prelude.{◌≡◌, ℕ, Bool, false, IsTrue, List, [], ◌∷◌}
use Rattle.qz_syntax.specs.declared.statements.Stmt.{Stmt}
use Rattle.qz_syntax.specs.declared.places.Residual.{Residual}
use Rattle.qz_syntax.specs.Numbers.{contains, places_of, calls_of}
use Rattle.qz_meaning.specs.Layouts.{PlaceBits, Layout, bare}
use Rattle.qz_meaning.specs.Calls.{open_layout}
use Rattle.qz_meaning.specs.Walks.{layout}
use Rattle.qz_meaning.specs.Valuations.{resting_places, resting_calls}

-- no number stands twice
abbrev pub AreDifferent : List ℕ → Type 0
AreDifferent [] = Unit {0}
AreDifferent (number ∷ numbers) = (contains numbers number ≡ false) × AreDifferent numbers

-- at each of these numbers the bit says whether it is among those
abbrev pub AreBitsAt : (ℕ → Bool) → List ℕ → List ℕ → Type 0
AreBitsAt bit numbers those = (number : ℕ) → IsTrue (contains numbers number) → bit number ≡ contains those number

-- the bits of a statement's places and calls are those of where control rests
pub record AreBitsOf (bits : PlaceBits) (s : Stmt) (places calls : List ℕ) : Type 0 where
  pub at_places : AreBitsAt bits.place (places_of s) places
  pub at_calls : AreBitsAt bits.call (calls_of s) calls

-- the bits of a place are the layout's, and where no bit is set control rests nowhere in it
pub record HasItsBits (l : Layout) (s : Stmt) : Type 0 where
  pub at : (bits : PlaceBits) (r : Residual) → IsTrue (l.fits r) → AreBitsOf bits s (resting_places r) (resting_calls r) → IsTrue (l.at bits r)
  pub away : (bits : PlaceBits) → AreBitsOf bits s [] [] → IsTrue (l.away bits)

-- in a module, whose calls are places, and in a whole program
abbrev pub PlacesHaveTheirBits : Type 0
PlacesHaveTheirBits = (s : Stmt) → AreDifferent (places_of s) → AreDifferent (calls_of s)
    → HasItsBits (layout open_layout s) s × HasItsBits (layout (λ number. bare) s) s
