-- More and less knowledge: `Unknown` is below each known value, and each known value is below `Clash`.
use Rattle.std.specs.Prelude.{◌≡◌}
use Rattle.qz_values.specs.declared.Know.{Know}
use Rattle.qz_values.specs.declared.Know.TheVariants.{Unknown, Known, Clash}

-- the first is known less than the second, or as much; two different values are not ordered
abbrev pub Below : Know → Know → Type 0
Below Unknown b = Unit {0}
Below (Known v) Unknown = ⊥
Below (Known v) (Known w) = v ≡ w
Below (Known v) Clash = Unit {0}
Below Clash Unknown = ⊥
Below Clash (Known w) = ⊥
Below Clash Clash = Unit {0}

-- more knowledge of what is given never makes less known of what comes out
abbrev pub IsMonotone1 : (Know → Know) → Type 0
IsMonotone1 f = (a a' : Know) → Below a a' → Below (f a) (f a')

abbrev pub IsMonotone2 : (Know → Know → Know) → Type 0
IsMonotone2 f = (a a' b b' : Know) → Below a a' → Below b b' → Below (f a b) (f a' b')

abbrev pub IsMonotone3 : (Know → Know → Know → Know) → Type 0
IsMonotone3 f = (a a' b b' c c' : Know) → Below a a' → Below b b' → Below c c' → Below (f a b c) (f a' b' c')

pub record IsPartialOrder (R : Know → Know → Type 0) : Type 0 where
  pub reflexive : (a : Know) → R a a
  pub transitive : (a b c : Know) → R a b → R b c → R a c
  pub antisymmetric : (a b : Know) → R a b → R b a → a ≡ b
