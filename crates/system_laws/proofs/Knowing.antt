-- How much is known of values and delayed values: it tells whether they have changed.
use Rattle.std.proofs.Common.{◌≡◌, ℕ, ◌<◌, ◌≤◌, zero, suc, refl, ap, arith, ◌⊎◌, inl, inr}
use Rattle.std.proofs.lemmas.Bool.{cases_eq}
use Rattle.qz_values.specs.declared.Value.{Value}
use Rattle.qz_values.specs.declared.Know.{Know}
use Rattle.qz_values.specs.declared.Know.TheVariants.{Unknown, Known, Clash}
use Rattle.qz_values.specs.Order.{Below}
use Rattle.qz_syntax.specs.declared.places.Later.{Later}
use Rattle.qz_syntax.specs.declared.places.Later.TheVariants as later
use Rattle.qz_meaning.specs.Rising.{LaterBelow}

-- what is known no less in either is the same
pub same_later : (a b : Later) → LaterBelow a b → LaterBelow b a → a ≡ b
same_later later.Unknown later.Unknown p q = refl
same_later later.Unknown later.Absent p q = absurd q
same_later later.Unknown (later.Known w) p q = absurd q
same_later later.Unknown later.Clash p q = absurd q
same_later later.Absent later.Unknown p q = absurd p
same_later later.Absent later.Absent p q = refl
same_later later.Absent (later.Known w) p q = absurd p
same_later later.Absent later.Clash p q = absurd q
same_later (later.Known v) later.Unknown p q = absurd p
same_later (later.Known v) later.Absent p q = absurd p
same_later (later.Known v) (later.Known w) p q = ap (λ (x : Value). later.Known x) p
same_later (later.Known v) later.Clash p q = absurd q
same_later later.Clash later.Unknown p q = absurd p
same_later later.Clash later.Absent p q = absurd p
same_later later.Clash (later.Known w) p q = absurd p
same_later later.Clash later.Clash p q = refl

-- how much is known
abbrev pub height : Know → ℕ
height Unknown = 0
height (Known v) = 1
height Clash = 2

abbrev pub later_height : Later → ℕ
later_height later.Unknown = 0
later_height later.Absent = 1
later_height (later.Known v) = 1
later_height later.Clash = 2

pub height_up : (a b : Know) → Below a b → height a ≤ height b
height_up Unknown b p = omega arith
height_up (Known v) Unknown p = absurd p
height_up (Known v) (Known w) p = omega arith
height_up (Known v) Clash p = omega arith
height_up Clash Unknown p = absurd p
height_up Clash (Known w) p = absurd p
height_up Clash Clash p = omega arith

pub height_most : (a : Know) → height a ≤ 2
height_most Unknown = omega arith
height_most (Known v) = omega arith
height_most Clash = omega arith

pub same_height : (a b : Know) → Below a b → height a ≡ height b → a ≡ b
same_height Unknown Unknown p h = refl
same_height Unknown (Known w) p h = absurd (omega arith)
same_height Unknown Clash p h = absurd (omega arith)
same_height (Known v) Unknown p h = absurd p
same_height (Known v) (Known w) p h = ap (λ (x : Value). Known x) p
same_height (Known v) Clash p h = absurd (omega arith)
same_height Clash Unknown p h = absurd p
same_height Clash (Known w) p h = absurd p
same_height Clash Clash p h = refl

pub later_height_up : (a b : Later) → LaterBelow a b → later_height a ≤ later_height b
later_height_up later.Unknown b p = omega arith
later_height_up later.Absent later.Unknown p = absurd p
later_height_up later.Absent later.Absent p = omega arith
later_height_up later.Absent (later.Known w) p = absurd p
later_height_up later.Absent later.Clash p = omega arith
later_height_up (later.Known v) later.Unknown p = absurd p
later_height_up (later.Known v) later.Absent p = absurd p
later_height_up (later.Known v) (later.Known w) p = omega arith
later_height_up (later.Known v) later.Clash p = omega arith
later_height_up later.Clash later.Unknown p = absurd p
later_height_up later.Clash later.Absent p = absurd p
later_height_up later.Clash (later.Known w) p = absurd p
later_height_up later.Clash later.Clash p = omega arith

pub later_height_most : (a : Later) → later_height a ≤ 2
later_height_most later.Unknown = omega arith
later_height_most later.Absent = omega arith
later_height_most (later.Known v) = omega arith
later_height_most later.Clash = omega arith

pub same_later_height : (a b : Later) → LaterBelow a b → later_height a ≡ later_height b → a ≡ b
same_later_height later.Unknown later.Unknown p h = refl
same_later_height later.Unknown later.Absent p h = absurd (omega arith)
same_later_height later.Unknown (later.Known w) p h = absurd (omega arith)
same_later_height later.Unknown later.Clash p h = absurd (omega arith)
same_later_height later.Absent later.Unknown p h = absurd p
same_later_height later.Absent later.Absent p h = refl
same_later_height later.Absent (later.Known w) p h = absurd p
same_later_height later.Absent later.Clash p h = absurd (omega arith)
same_later_height (later.Known v) later.Unknown p h = absurd p
same_later_height (later.Known v) later.Absent p h = absurd p
same_later_height (later.Known v) (later.Known w) p h = ap (λ (x : Value). later.Known x) p
same_later_height (later.Known v) later.Clash p h = absurd (omega arith)
same_later_height later.Clash later.Unknown p h = absurd p
same_later_height later.Clash later.Absent p h = absurd p
same_later_height later.Clash (later.Known w) p h = absurd p
same_later_height later.Clash later.Clash p h = refl

-- what never falls and stays below a bound stands still once
pub stands : (f : ℕ → ℕ) → ((n : ℕ) → f n ≤ f (suc n)) → (k : ℕ) → ((n : ℕ) × (n < k) × (f n ≡ f (suc n))) ⊎ (k ≤ f k)
stands f up zero = inr (omega arith)
stands f up (suc k) = by_before (stands f up k) where
  by_same : k ≤ f k → ((f k ≡ f (suc k)) ⊎ (f k ≡ f (suc k) → ⊥)) → ((n : ℕ) × (n < suc k) × (f n ≡ f (suc n))) ⊎ (suc k ≤ f (suc k))
  by_same h (inl e) = inl (k, omega arith, e)
  by_same h (inr e) = let more = up k in inr (omega (arith, more, h, e))

  by_before : (((n : ℕ) × (n < k) × (f n ≡ f (suc n))) ⊎ (k ≤ f k)) → ((n : ℕ) × (n < suc k) × (f n ≡ f (suc n))) ⊎ (suc k ≤ f (suc k))
  by_before (inl before) = let less = before.1 in inl (before.0, omega (arith, less), before.2)
  by_before (inr h) = by_same h (cases_eq (f k) (f (suc k)))
