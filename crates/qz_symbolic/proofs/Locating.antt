-- Each bit stands at one number among the bits of a system's valuations.
use Rattle.std.proofs.Common.{◌≡◌, ℕ, zero, suc, ◌+◌, ◌<◌, ◌==◌, nat_lt, Bool, true, false, List, [], ◌∷◌, ◌++◌, map, length, Some, refl, sym, ap, subst, ◌∙◌, ◌⊎◌, inl, inr, ⊎_elim, arith, length-append}
use Rattle.std.specs.Prelude.{slice_get, if◌then◌else◌}
use Rattle.std.specs.List.{flat_map, range_with_len}
use Rattle.std.proofs.lemmas.Bool.{ltb-true, eqb-true}
use Rattle.std.proofs.lemmas.List.FromFn.{length-map-range_with_len}
use Rattle.qz_system.specs.declared.parts.SystemParts.{SystemParts}
use Rattle.qz_symbolic.specs.Variables.{Spot, spots, spots_of_groups, spots_of_group, spots_of_cell, spots_of_input, cell_width, input_width}
use Rattle.qz_symbolic.specs.Positions.{group_start, cell_start, input_start, mark_size}

-- an item of two lists is of the one or of the other
append_cases : {A : Type 0} (xs ys : List A) (k : ℕ) (x : A) → slice_get (xs ++ ys) k ≡ Some x
    → (slice_get xs k ≡ Some x) ⊎ ((m : ℕ) × (k ≡ length xs + m) × (slice_get ys m ≡ Some x))
append_cases [] ys k x at = inr (k, omega arith, at)
append_cases (y ∷ xs) ys zero x at = inl at
append_cases (y ∷ xs) ys (suc k) x at = ⊎_elim
    (λ (here : slice_get xs k ≡ Some x). inl here)
    (λ (later : (m : ℕ) × (k ≡ length xs + m) × (slice_get ys m ≡ Some x)). inr (later.0, (let e = later.1 in omega (arith, e)), later.2))
    (append_cases xs ys k x at)

-- an item of pieces stands in one of them
record InPiece (f : ℕ → List Spot) (a n k : ℕ) (x : Spot) : Type 0 where
  pub piece : ℕ
  pub below : piece < n
  pub rest : ℕ
  pub at : k ≡ length (flat_map f (range_with_len a piece)) + rest
  pub there : slice_get (f (a + piece)) rest ≡ Some x

in_piece : (f : ℕ → List Spot) (a n k : ℕ) (x : Spot) → slice_get (flat_map f (range_with_len a n)) k ≡ Some x → InPiece f a n k x
in_piece f a zero k x at = absurd (cc)
in_piece f a (suc n) k x at = ⊎_elim
    (λ (here : slice_get (f a) k ≡ Some x).
    let e : a ≡ a + 0 = omega arith in
    record { piece = 0; below = omega arith; rest = k; at = omega arith; there = ap (λ m. slice_get (f m) k) (sym e) ∙ here })
    (λ (later : (m : ℕ) × (k ≡ length (f a) + m) × (slice_get (flat_map f (range_with_len (a + 1) n)) m ≡ Some x)).
    let r = in_piece f (a + 1) n later.0 x later.2 in
    let below = r.below in
    let first = later.1 in
    let second = r.at in
    let long = length-append (f a) (flat_map f (range_with_len (a + 1) r.piece)) in
    let e : a + 1 + r.piece ≡ a + suc r.piece = omega arith in
    record {
      piece = suc r.piece;
      below = omega (arith, below);
      rest = r.rest;
      at = omega (arith, first, second, long);
      there = ap (λ m. slice_get (f m) r.rest) (sym e) ∙ r.there;
    })
    (append_cases (f a) (flat_map f (range_with_len (a + 1) n)) k x at)

in_range : (f : ℕ → Spot) (a n k : ℕ) (x : Spot) → slice_get (map f (range_with_len a n)) k ≡ Some x → (k < n) × (f (a + k) ≡ x)
in_range f a zero k x at = absurd (cc)
in_range f a (suc n) zero x at =
    let e : a + 0 ≡ a = omega arith in
    let same : f a ≡ x = cc in
    (omega arith, ap f e ∙ same)
in_range f a (suc n) (suc k) x at =
    let r = in_range f (a + 1) n k x at in
    let below = r.0 in
    let e : a + suc k ≡ a + 1 + k = omega arith in
    (omega (arith, below), ap f e ∙ r.1)

-- at which number a bit stands, and whether the system has it
abbrev pub position : SystemParts → Spot → ℕ
position parts Spot.Started = 0
position parts (Spot.At place) = place + 1
position parts (Spot.Mark cell) = cell_start parts 0 cell
position parts (Spot.Stored cell j) = cell_start parts j cell + mark_size j
position parts (Spot.Given input j) = input_start parts j input

abbrev pub IsHad : SystemParts → Spot → Type 0
IsHad parts Spot.Started = Unit {0}
IsHad parts (Spot.At place) = place < length parts.places
IsHad parts (Spot.Mark cell) = cell < length parts.cells
IsHad parts (Spot.Stored cell j) = (cell < length parts.cells) × (j < cell_width parts cell)
IsHad parts (Spot.Given input j) = (input < length parts.inputs) × (j < input_width parts input)

pub record Located (parts : SystemParts) (k : ℕ) (x : Spot) : Type 0 where
  pub at : k ≡ position parts x
  pub had : IsHad parts x

-- the bits of a cell in a group, and those of an input
cell_piece : (parts : SystemParts) (j n k m : ℕ) (x : Spot) → n < length parts.cells → slice_get (spots_of_cell parts j n) m ≡ Some x
    → k ≡ cell_start parts j n + m → Located parts k x
cell_piece parts j n k m x within at is = by (j == 0) refl (nat_lt j (cell_width parts n)) refl m at is
  where
    by : (mark : Bool) → (j == 0) ≡ mark → (bit : Bool) → nat_lt j (cell_width parts n) ≡ bit → (m : ℕ)
        → slice_get ((if mark then Spot.Mark n ∷ [] else []) ++ (if bit then Spot.Stored n j ∷ [] else [])) m ≡ Some x → k ≡ cell_start parts j n + m → Located parts k x
    by true first bit has zero at is =
        let same : Spot.Mark n ≡ x = cc in
        let zeroth = eqb-true j 0 first in
        let e : k ≡ cell_start parts j n = omega (arith, is) in
        subst (Located parts k) same (record { at = e ∙ ap (λ i. cell_start parts i n) zeroth; had = within })
    by true first true has (suc zero) at is =
        let same : Spot.Stored n j ≡ x = cc in
        let size : mark_size j ≡ 1 = ap (λ b. if b then 1 else 0) first in
        subst (Located parts k) same (record { at = omega (arith, is, size); had = (within, ltb-true j (cell_width parts n) has) })
    by true first true has (suc (suc m)) at is = absurd (cc)
    by true first false has (suc m) at is = absurd (cc)
    by false first true has zero at is =
        let same : Spot.Stored n j ≡ x = cc in
        let size : mark_size j ≡ 0 = ap (λ b. if b then 1 else 0) first in
        subst (Located parts k) same (record { at = omega (arith, is, size); had = (within, ltb-true j (cell_width parts n) has) })
    by false first true has (suc m) at is = absurd (cc)
    by false first false has m at is = absurd (cc)

input_piece : (parts : SystemParts) (j n k m : ℕ) (x : Spot) → n < length parts.inputs → slice_get (spots_of_input parts j n) m ≡ Some x
    → k ≡ input_start parts j n + m → Located parts k x
input_piece parts j n k m x within at is = by (nat_lt j (input_width parts n)) refl m at is
  where
    by : (bit : Bool) → nat_lt j (input_width parts n) ≡ bit → (m : ℕ) → slice_get (if bit then Spot.Given n j ∷ [] else []) m ≡ Some x
        → k ≡ input_start parts j n + m → Located parts k x
    by true has zero at is =
        let same : Spot.Given n j ≡ x = cc in
        subst (Located parts k) same (record { at = omega (arith, is); had = (within, ltb-true j (input_width parts n) has) })
    by true has (suc m) at is = absurd (cc)
    by false has m at is = absurd (cc)

-- the bits of a group
group_piece : (parts : SystemParts) (j k m : ℕ) (x : Spot) → slice_get (spots_of_group parts j) m ≡ Some x → k ≡ group_start parts j + m → Located parts k x
group_piece parts j k m x at is = ⊎_elim
    (λ (here : slice_get (flat_map (spots_of_cell parts j) (range_with_len 0 (length parts.cells))) m ≡ Some x).
    let r = in_piece (spots_of_cell parts j) 0 (length parts.cells) m x here in
    let at_piece = r.at in
    let e : 0 + r.piece ≡ r.piece = omega arith in
    cell_piece parts j r.piece k r.rest x r.below (ap (λ n. slice_get (spots_of_cell parts j n) r.rest) (sym e) ∙ r.there) (omega (arith, is, at_piece)))
    (λ (later : (i : ℕ) × (m ≡ length (flat_map (spots_of_cell parts j) (range_with_len 0 (length parts.cells))) + i)
    × (slice_get (flat_map (spots_of_input parts j) (range_with_len 0 (length parts.inputs))) i ≡ Some x)).
    let r = in_piece (spots_of_input parts j) 0 (length parts.inputs) later.0 x later.2 in
    let first = later.1 in
    let at_piece = r.at in
    let e : 0 + r.piece ≡ r.piece = omega arith in
    input_piece parts j r.piece k r.rest x r.below (ap (λ n. slice_get (spots_of_input parts j n) r.rest) (sym e) ∙ r.there) (omega (arith, is, first, at_piece)))
    (append_cases (flat_map (spots_of_cell parts j) (range_with_len 0 (length parts.cells))) (flat_map (spots_of_input parts j) (range_with_len 0 (length parts.inputs))) m x at)

front : (parts : SystemParts) (k : ℕ) (x : Spot) → slice_get (Spot.Started ∷ map Spot.At (range_with_len 0 (length parts.places))) k ≡ Some x → Located parts k x
front parts zero x at = let same : Spot.Started ≡ x = cc in subst (Located parts 0) same (record { at = refl; had = tt })
front parts (suc k) x at =
    let r = in_range Spot.At 0 (length parts.places) k x at in
    let e : 0 + k ≡ k = omega arith in
    subst (Located parts (suc k)) (ap Spot.At (sym e) ∙ r.1) (record { at = omega arith; had = r.0 })

located_in : (parts : SystemParts) (n k : ℕ) (x : Spot) → slice_get (spots_of_groups parts n) k ≡ Some x → Located parts k x
located_in parts n k x at = ⊎_elim
    (λ (here : slice_get (Spot.Started ∷ map Spot.At (range_with_len 0 (length parts.places))) k ≡ Some x). front parts k x here)
    (λ (later : (m : ℕ) × (k ≡ length (Spot.Started ∷ map Spot.At (range_with_len 0 (length parts.places))) + m)
    × (slice_get (flat_map (spots_of_group parts) (range_with_len 0 n)) m ≡ Some x)).
    let r = in_piece (spots_of_group parts) 0 n later.0 x later.2 in
    let first = later.1 in
    let at_piece = r.at in
    let long = length-map-range_with_len Spot.At 0 (length parts.places) in
    let e : 0 + r.piece ≡ r.piece = omega arith in
    group_piece parts r.piece k r.rest x (ap (λ j. slice_get (spots_of_group parts j) r.rest) (sym e) ∙ r.there) (omega (arith, first, at_piece, long)))
    (append_cases (Spot.Started ∷ map Spot.At (range_with_len 0 (length parts.places))) (flat_map (spots_of_group parts) (range_with_len 0 n)) k x at)

pub located : (parts : SystemParts) (k : ℕ) (x : Spot) → slice_get (spots parts) k ≡ Some x → Located parts k x
unfolding spots
located parts k x at = located_in parts 64 k x at

-- a bit stands at one number alone
pub one_number : (parts : SystemParts) (k m : ℕ) (x : Spot) → slice_get (spots parts) k ≡ Some x → slice_get (spots parts) m ≡ Some x → k ≡ m
one_number parts k m x at there = (located parts k x at).at ∙ sym (located parts m x there).at
