-- The variables of one cell, and of one input.
use Rattle.std.proofs.Common.{◌≡◌, ℕ, zero, suc, ◌+◌, ◌<◌, ◌≤◌, ◌==◌, nat_lt, Bool, true, false, List, [], ◌∷◌, map, length, get_or, take, Option, Some, None, refl, sym, ap, ap₂, subst, ◌∙◌, arith}
use Rattle.std.specs.Prelude.{slice_get, if◌then◌else◌}
use Rattle.std.specs.List.{range_with_len}
use Rattle.std.specs.Option.{option_map, option_map_or}
use Rattle.std.proofs.Math.ListN.{set}
use Rattle.std.proofs.lemmas.Bool.{lt-ltb, ne_eqb}
use Rattle.std.proofs.lemmas.Option.{slice_get_within}
use Rattle.std.proofs.lemmas.List.{get_or-take, get_or-set_same, get_or-set_other, length-take-le}
use Rattle.qz_values.specs.declared.Ty.{Ty}
use Rattle.qz_values.specs.Types.{width_of, is_type}
use Rattle.qz_syntax.specs.declared.declarations.Port.{Port}
use Rattle.qz_system.specs.declared.parts.Cell.{Cell}
use Rattle.qz_system.specs.declared.parts.SystemParts.{SystemParts}
use Rattle.qz_system.specs.Parts.{AreParts, cell_type, input_type}
use Rattle.qz_system.proofs.FitLemmas.{type_there, cell_typed}
use Rattle.qz_system.proofs.Finding.{all_at}
use Rattle.qz_symbolic.specs.Variables.{Spot, spots, cell_width, input_width, AreSpots}
use Rattle.qz_symbolic.specs.Positions.{cell_start, input_start, mark_size, bit_size, AreCellStarts, AreInputStarts}
use Rattle.qz_symbolic.proofs.Spots.{bit_after_mark, bit_alone, cell_there, input_there, cell_more, input_more, cell_start_small, input_start_small}

-- a cell that has a type is there, and has at most 64 bits; an input likewise
pub cell_within : (parts : SystemParts) (n : ℕ) (ty : Ty) → cell_type parts n ≡ Some ty → n < length parts.cells
cell_within parts n ty is = by (slice_get parts.cells n) refl is
  where
    by : (o : Option Cell) → slice_get parts.cells n ≡ o → option_map (λ (cell : Cell). cell.ty) o ≡ Some ty → n < length parts.cells
    by None at has = absurd (cc)
    by (Some cell) at has = slice_get_within parts.cells n cell at

pub input_within : (parts : SystemParts) (n : ℕ) (ty : Ty) → input_type parts n ≡ Some ty → n < length parts.inputs
input_within parts n ty is = by (slice_get parts.inputs n) refl is
  where
    by : (o : Option Port) → slice_get parts.inputs n ≡ o → option_map (λ (port : Port). port.ty) o ≡ Some ty → n < length parts.inputs
    by None at has = absurd (cc)
    by (Some port) at has = slice_get_within parts.inputs n port at

pub cell_wide : (parts : SystemParts) → AreParts parts → (n : ℕ) (ty : Ty) → cell_type parts n ≡ Some ty → width_of ty ≤ 64
cell_wide parts are n ty is = by (slice_get parts.cells n) refl is
  where
    by : (o : Option Cell) → slice_get parts.cells n ≡ o → option_map (λ (cell : Cell). cell.ty) o ≡ Some ty → width_of ty ≤ 64
    by None at has = absurd (cc)
    by (Some cell) at has = let same : cell.ty ≡ ty = cc in subst (λ t. width_of t ≤ 64) same (cell_typed parts are n cell at).at_most_64

pub input_wide : (parts : SystemParts) → AreParts parts → (n : ℕ) (ty : Ty) → input_type parts n ≡ Some ty → width_of ty ≤ 64
input_wide parts are n ty is = by (slice_get parts.inputs n) refl is
  where
    by : (o : Option Port) → slice_get parts.inputs n ≡ o → option_map (λ (port : Port). port.ty) o ≡ Some ty → width_of ty ≤ 64
    by None at has = absurd (cc)
    by (Some port) at has =
        let same : port.ty ≡ ty = cc in
        subst (λ t. width_of t ≤ 64) same (type_there port.ty (all_at (λ (one : Port). is_type one.ty) parts.inputs are.is_declared.input_types n port at)).at_most_64

-- variables each of which is the bit that is wanted there
listed : (all : List Spot) (f : ℕ → Spot) (a width : ℕ) (variables : List ℕ) → length variables ≡ width
    → ((i : ℕ) → i < width → slice_get all (get_or variables i 0) ≡ Some (f (a + i)))
    → map (slice_get all) variables ≡ map Some (map f (range_with_len a width))
listed all f a zero [] long each = refl
listed all f a zero (x ∷ xs) long each = absurd (omega arith)
listed all f a (suc width) [] long each = absurd (omega arith)
listed all f a (suc width) (x ∷ xs) long each =
    let here : a + 0 ≡ a = omega arith in
    ap₂ (λ (o : Option Spot) (os : List (Option Spot)). o ∷ os) (each 0 (omega arith) ∙ ap (λ m. Some (f m)) here)
    (listed all f (a + 1) width xs (omega (arith, long)) (λ i below.
    let next : a + suc i ≡ a + 1 + i = omega arith in each (suc i) (omega (arith, below)) ∙ ap (λ m. Some (f m)) next))

-- the first group's start, where the mark is taken
no_mark : (j : ℕ) → mark_size (suc j) ≡ 0
no_mark j = ap (λ b. if b then 1 else 0) (ne_eqb (suc j) 0 (λ e. omega (arith, e)))

module _ (parts : SystemParts) (n : ℕ) (old next : List ℕ) (starts : AreCellStarts parts n old) (is : next ≡ set old 0 (get_or old 0 0 + 1)) where
  pub marked : (j : ℕ) → j < 64 → get_or next j 0 ≡ cell_start parts j n + mark_size j
  marked zero below =
      let long = starts.long in
      ap (λ (xs : List ℕ). get_or xs 0 0) is ∙ get_or-set_same old 0 (get_or old 0 0 + 1) 0 (omega arith) ∙ ap (λ m. m + 1) (starts.each 0 below)
  marked (suc j) below =
      let none = no_mark j in
      let there = starts.each (suc j) below in
      let other = get_or-set_other old 0 (suc j) (get_or old 0 0 + 1) 0 (λ e. omega (arith, e)) in
      let read : get_or next (suc j) 0 ≡ get_or (set old 0 (get_or old 0 0 + 1)) (suc j) 0 = ap (λ (xs : List ℕ). get_or xs (suc j) 0) is in
      omega (arith, none, there, other, read)

module _ (parts : SystemParts) (are : AreParts parts) (n : ℕ) (ty : Ty) (typed : cell_type parts n ≡ Some ty) where
  wide : cell_width parts n ≡ width_of ty
  wide = ap (λ o. option_map_or width_of o 0) typed

  pub mark_there : slice_get (spots parts) (cell_start parts 0 n) ≡ Some (Spot.Mark n)
  mark_there =
      let e : cell_start parts 0 n + 0 ≡ cell_start parts 0 n = omega arith in
      ap (slice_get (spots parts)) (sym e) ∙ cell_there parts 0 n 0 (Spot.Mark n) (omega arith) (cell_within parts n ty typed) refl

  module _ (next : List ℕ) (marks : (j : ℕ) → j < 64 → get_or next j 0 ≡ cell_start parts j n + mark_size j) where
    pub cell_small : (j : ℕ) → j < width_of ty → get_or next j 0 < 100000000
    cell_small j below =
        let most = cell_wide parts are n ty typed in
        let within = cell_within parts n ty typed in
        let less : j < 64 = omega arith in
        let small = cell_start_small parts are j n less (omega arith) in
        let at = marks j less in
        let mark : mark_size j ≤ 1 = one (j == 0) in
        omega (arith, small, at, mark)
      where
        one : (b : Bool) → (if b then 1 else 0) ≤ 1
        one true = omega arith
        one false = omega arith

    bit_there : (j : ℕ) → j < width_of ty → slice_get (spots parts) (get_or next j 0) ≡ Some (Spot.Stored n j)
    bit_there j below =
        let most = cell_wide parts are n ty typed in
        let less : j < 64 = omega arith in
        let has : nat_lt j (cell_width parts n) ≡ true = ap (λ w. nat_lt j w) wide ∙ lt-ltb j (width_of ty) below in
        ap (slice_get (spots parts)) (marks j less)
        ∙ cell_there parts j n (mark_size j) (Spot.Stored n j) less (cell_within parts n ty typed)
        (bit_after_mark (j == 0) (nat_lt j (cell_width parts n)) (Spot.Mark n) (Spot.Stored n j) has)

    pub cell_bits : (bits : List ℕ) → width_of ty ≤ length next → bits ≡ take (width_of ty) next
        → AreSpots parts (map (Spot.Stored n) (range_with_len 0 (cell_width parts n))) bits
    cell_bits bits long is =
        listed (spots parts) (Spot.Stored n) 0 (width_of ty) bits (ap length is ∙ length-take-le (width_of ty) next long) (λ j below.
        let zero_more : 0 + j ≡ j = omega arith in
        ap (slice_get (spots parts)) (ap (λ (xs : List ℕ). get_or xs j 0) is ∙ get_or-take (width_of ty) next j 0 below)
        ∙ bit_there j below ∙ ap (λ m. Some (Spot.Stored n m)) (sym zero_more))
        ∙ ap (λ w. map Some (map (Spot.Stored n) (range_with_len 0 w))) (sym wide)

    pub cell_after : (after : List ℕ) → 64 ≤ length next → length after ≡ length next
        → ((j : ℕ) → j < length next → get_or after j 0 ≡ get_or next j 0 + bit_size (width_of ty) j) → AreCellStarts parts (n + 1) after
    cell_after after long same moved = record {
      long = omega (arith, long, same);
      each = λ j below.
          let more = cell_more parts j n in
          let at = marks j below in
          let here = moved j (omega arith) in
          let bits : bit_size (cell_width parts n) j ≡ bit_size (width_of ty) j = ap (λ w. bit_size w j) wide in
          omega (arith, more, at, here, bits);
    }

module _ (parts : SystemParts) (are : AreParts parts) (n : ℕ) (ty : Ty) (typed : input_type parts n ≡ Some ty) (next : List ℕ) (starts : AreInputStarts parts n next) where
  input_has : input_width parts n ≡ width_of ty
  input_has = ap (λ o. option_map_or width_of o 0) typed

  pub input_small : (j : ℕ) → j < width_of ty → get_or next j 0 < 100000000
  input_small j below =
      let most = input_wide parts are n ty typed in
      let within = input_within parts n ty typed in
      let less : j < 64 = omega arith in
      let small = input_start_small parts are j n less (omega arith) in
      let at = starts.each j less in
      omega (arith, small, at)

  given_there : (j : ℕ) → j < width_of ty → slice_get (spots parts) (get_or next j 0) ≡ Some (Spot.Given n j)
  given_there j below =
      let most = input_wide parts are n ty typed in
      let less : j < 64 = omega arith in
      let has : nat_lt j (input_width parts n) ≡ true = ap (λ w. nat_lt j w) input_has ∙ lt-ltb j (width_of ty) below in
      let e : input_start parts j n ≡ input_start parts j n + 0 = omega arith in
      ap (slice_get (spots parts)) (starts.each j less ∙ e)
      ∙ input_there parts j n 0 (Spot.Given n j) less (input_within parts n ty typed)
      (bit_alone (nat_lt j (input_width parts n)) (Spot.Given n j) has)

  pub input_bits : (bits : List ℕ) → width_of ty ≤ length next → bits ≡ take (width_of ty) next
      → AreSpots parts (map (Spot.Given n) (range_with_len 0 (input_width parts n))) bits
  input_bits bits long is =
      listed (spots parts) (Spot.Given n) 0 (width_of ty) bits (ap length is ∙ length-take-le (width_of ty) next long) (λ j below.
      let zero_more : 0 + j ≡ j = omega arith in
      ap (slice_get (spots parts)) (ap (λ (xs : List ℕ). get_or xs j 0) is ∙ get_or-take (width_of ty) next j 0 below)
      ∙ given_there j below ∙ ap (λ m. Some (Spot.Given n m)) (sym zero_more))
      ∙ ap (λ w. map Some (map (Spot.Given n) (range_with_len 0 w))) (sym input_has)

  pub input_after : (after : List ℕ) → length after ≡ length next
      → ((j : ℕ) → j < length next → get_or after j 0 ≡ get_or next j 0 + bit_size (width_of ty) j) → AreInputStarts parts (n + 1) after
  input_after after same moved = record {
    long = let long = starts.long in omega (arith, long, same);
    each = λ j below.
        let more = input_more parts j n in
        let long = starts.long in
        let at = starts.each j below in
        let here = moved j (omega arith) in
        let bits : bit_size (input_width parts n) j ≡ bit_size (width_of ty) j = ap (λ w. bit_size w j) input_has in
        omega (arith, more, at, here, bits);
  }
