-- What variables say of the valuation that they spell.
use Rattle.std.proofs.Common.{◌≡◌, ℕ, zero, suc, ◌+◌, ◌/◌, ◌^◌, ◌<◌, Bool, true, false, List, [], ◌∷◌, ◌++◌, map, length, get_or, Some, refl, sym, ap, ap₂, ◌∙◌, arith, add-one}
use Rattle.std.specs.Prelude.{slice_get, slice_index_or, replicate, ◌||◌}
use Rattle.std.specs.List.{range_with_len, All, flat_map}
use Rattle.std.specs.Option.{option_map, option_map_or}
use Rattle.std.proofs.Math.Nat.{div-div-eq-div-mul}
use Rattle.std.proofs.lemmas.List.{ext_get_or, map-append, length-replicate}
use Rattle.std.proofs.lemmas.List.FromFn.{length-map-range_with_len, get_or-map-range_with_len, map-range_with_len_more}
use Rattle.std.proofs.lemmas.Option.{slice_get_within, slice_get-map, get_or_from_slice_get}
use Rattle.qz_dd.specs.declared.node.DdId.{DdId}
use Rattle.qz_dd.specs.declared.table.Table.{Table}
use Rattle.qz_dd.specs.Tables.{Reading, Reads, count}
use Rattle.qz_rails.specs.Bits.{number_of, digits_of, bits_in, variables_in}
use Rattle.qz_rails.specs.Rails.{told}
use Rattle.qz_rails.proofs.BitNumbers.{twice}
use Rattle.qz_rails.proofs.Digits.{digits_number}
use Rattle.qz_values.specs.declared.Ty.{Ty}
use Rattle.qz_values.specs.declared.Value.{Value}
use Rattle.qz_values.specs.declared.Know.TheVariants as know
use Rattle.qz_values.specs.Types.{width_of}
use Rattle.qz_values.specs.Values.{value_of}
use Rattle.qz_meaning.specs.Valuations.{is_set}
use Rattle.qz_syntax.specs.declared.declarations.Port.{Port}
use Rattle.qz_system.specs.declared.parts.Cell.{Cell}
use Rattle.qz_system.specs.declared.parts.SystemParts.{SystemParts}
use Rattle.qz_system.specs.declared.valuation.Valuation.{Valuation}
use Rattle.qz_system.specs.Restings.{living_of}
use Rattle.qz_system.specs.Valuations.{Fits, rests_at, store_of}
use Rattle.qz_system.proofs.FitLemmas.{cell_value, input_value}
use Rattle.qz_symbolic.specs.Variables.{Spot, spots, spots_of_groups, spots_of_group, bit_of, Spells, AreSpots, cell_width, input_width}
use Rattle.qz_symbolic.specs.Placings.{value_at, CarriesLives}
use Rattle.qz_symbolic.specs.Views.{ArePlaces, AreLives}
use Rattle.qz_symbolic.proofs.Spots.{get_within}

-- variables that are bits are in range
pub spots_within : (all wanted : List Spot) (variables : List ℕ) → map (slice_get all) variables ≡ map Some wanted
    → All (λ m. m < length all) variables
spots_within all wanted [] are k d below = absurd (omega (arith, below))
spots_within all [] (m ∷ ms) are k d below = absurd (cc)
spots_within all (w ∷ ws) (m ∷ ms) are zero d below =
    let here : slice_get all m ≡ Some w = cc in slice_get_within all m w here
spots_within all (w ∷ ws) (m ∷ ms) are (suc k) d below =
    let rest : map (slice_get all) ms ≡ map Some ws = cc in spots_within all ws ms rest k d (omega (arith, below))

pub spots_long : (all wanted : List Spot) (variables : List ℕ) → map (slice_get all) variables ≡ map Some wanted → length variables ≡ length wanted
spots_long all [] [] are = refl
spots_long all (w ∷ ws) [] are = absurd (cc)
spots_long all [] (m ∷ ms) are = absurd (cc)
spots_long all (w ∷ ws) (m ∷ ms) are =
    let rest : map (slice_get all) ms ≡ map Some ws = cc in ap suc (spots_long all ws ms rest)

-- and each reads the valuation's bit
pub bit_read : (all : List Spot) (f : Spot → Bool) (m : ℕ) (w : Spot) → slice_get all m ≡ Some w → get_or (map f all) m false ≡ f w
bit_read all f m w at = get_or_from_slice_get (map f all) m (f w) false (slice_get-map f all m ∙ ap (option_map f) at)

spots_read : (all wanted : List Spot) (f : Spot → Bool) (variables : List ℕ) → map (slice_get all) variables ≡ map Some wanted
    → map (λ (m : ℕ). get_or (map f all) m false) variables ≡ map f wanted
spots_read all [] f [] are = refl
spots_read all (w ∷ ws) f [] are = absurd (cc)
spots_read all [] f (m ∷ ms) are = absurd (cc)
spots_read all (w ∷ ws) f (m ∷ ms) are =
    let here : slice_get all m ≡ Some w = cc in
    let rest : map (slice_get all) ms ≡ map Some ws = cc in
    ap₂ (λ (b : Bool) (bs : List Bool). b ∷ bs) (bit_read all f m w here) (spots_read all ws f ms rest)

pub variables_read : (parts : SystemParts) (v : Valuation) (reading : Reading) → Spells parts v reading.bits → (wanted : List Spot) (variables : List ℕ)
    → AreSpots parts wanted variables → variables_in reading variables ≡ map (bit_of v) wanted
variables_read parts v reading spells wanted variables are =
    ap (λ (bits : List Bool). map (λ (m : ℕ). get_or bits m false) variables) spells.bits ∙ spots_read (spots parts) wanted (bit_of v) variables are

pub variable_read : (parts : SystemParts) (v : Valuation) (reading : Reading) → Spells parts v reading.bits → (m : ℕ) (w : Spot)
    → slice_get (spots parts) m ≡ Some w → slice_index_or reading.bits m false ≡ bit_of v w
variable_read parts v reading spells m w at =
    ap (λ (bits : List Bool). get_or bits m false) spells.bits ∙ bit_read (spots parts) (bit_of v) m w at

-- a number's bits are its digits
shifted : (m a : ℕ) → m / 2 ^ (a + 1) ≡ m / 2 ^ a / 2
shifted m a = ap (λ k. m / 2 ^ k) (add-one a) ∙ ap (λ k. m / k) (twice a) ∙ sym (div-div-eq-div-mul m (2 ^ a) 2)

stored_digits : (v : Valuation) (n a width : ℕ)
    → map (bit_of v) (map (Spot.Stored n) (range_with_len a width)) ≡ digits_of width ((store_of v n).1 / 2 ^ a)
stored_digits v n a zero = refl
stored_digits v n a (suc width) =
    ap (λ bits. is_set a (store_of v n).1 ∷ bits) (stored_digits v n (a + 1) width ∙ ap (digits_of width) (shifted (store_of v n).1 a))

given_digits : (v : Valuation) (n a width : ℕ)
    → map (bit_of v) (map (Spot.Given n) (range_with_len a width)) ≡ digits_of width (slice_index_or v.inputs.items n 0 / 2 ^ a)
given_digits v n a zero = refl
given_digits v n a (suc width) =
    ap (λ bits. is_set a (slice_index_or v.inputs.items n 0) ∷ bits)
    (given_digits v n (a + 1) width ∙ ap (digits_of width) (shifted (slice_index_or v.inputs.items n 0) a))

whole : (m : ℕ) → m / 2 ^ 0 ≡ m
whole m = omega arith

pub stored_number : (parts : SystemParts) (v : Valuation) → Fits parts v → (n : ℕ) (cell : Cell) → slice_get parts.cells n ≡ Some cell
    → number_of (map (bit_of v) (map (Spot.Stored n) (range_with_len 0 (cell_width parts n)))) ≡ (store_of v n).1
stored_number parts v fits n cell at =
    let wide : cell_width parts n ≡ width_of cell.ty = ap (λ o. option_map_or width_of (option_map (λ (c : Cell). c.ty) o) 0) at in
    ap (λ w. number_of (map (bit_of v) (map (Spot.Stored n) (range_with_len 0 w)))) wide
    ∙ ap number_of (stored_digits v n 0 (width_of cell.ty) ∙ ap (digits_of (width_of cell.ty)) (whole (store_of v n).1))
    ∙ digits_number (width_of cell.ty) (store_of v n).1 (cell_value parts v fits n cell at).fits

pub given_number : (parts : SystemParts) (v : Valuation) → Fits parts v → (n : ℕ) (port : Port) → slice_get parts.inputs n ≡ Some port
    → number_of (map (bit_of v) (map (Spot.Given n) (range_with_len 0 (input_width parts n)))) ≡ slice_index_or v.inputs.items n 0
given_number parts v fits n port at =
    let wide : input_width parts n ≡ width_of port.ty = ap (λ o. option_map_or width_of (option_map (λ (p : Port). p.ty) o) 0) at in
    ap (λ w. number_of (map (bit_of v) (map (Spot.Given n) (range_with_len 0 w)))) wide
    ∙ ap number_of (given_digits v n 0 (width_of port.ty) ∙ ap (digits_of (width_of port.ty)) (whole (slice_index_or v.inputs.items n 0)))
    ∙ digits_number (width_of port.ty) (slice_index_or v.inputs.items n 0) (input_value parts v fits n port at).fits

-- a rail that tells a value has the value's bits
pub told_bits : (ty : Ty) (clash known : Bool) (m n : ℕ) → told clash known (value_of ty m) ≡ know.Known (value_of ty n) → m ≡ n
told_bits ty true known m n h = absurd (cc)
told_bits ty false true m n h = let same : value_of ty m ≡ value_of ty n = cc in ap (λ (w : Value). w.bits) same
told_bits ty false false m n h = absurd (cc)

-- the first bits
pub started_there : (parts : SystemParts) → slice_get (spots parts) 0 ≡ Some Spot.Started
unfolding spots
started_there parts = refl

place_in : (a count n : ℕ) → n < count → slice_get (map Spot.At (range_with_len a count)) n ≡ Some (Spot.At (a + n))
place_in a zero n below = absurd (omega (arith, below))
place_in a (suc count) zero below = let e : a ≡ a + 0 = omega arith in ap (λ k. Some (Spot.At k)) e
place_in a (suc count) (suc n) below =
    let e : a + 1 + n ≡ a + suc n = omega arith in place_in (a + 1) count n (omega (arith, below)) ∙ ap (λ k. Some (Spot.At k)) e

places_there : (parts : SystemParts) (groups n : ℕ) → n < length parts.places → slice_get (spots_of_groups parts groups) (suc n) ≡ Some (Spot.At n)
places_there parts groups n below =
    let e : 0 + n ≡ n = omega arith in
    get_within (map Spot.At (range_with_len 0 (length parts.places))) (flat_map (spots_of_group parts) (range_with_len 0 groups)) n (Spot.At n)
    (place_in 0 (length parts.places) n below ∙ ap (λ k. Some (Spot.At k)) e)

pub place_there : (parts : SystemParts) (n : ℕ) → n < length parts.places → slice_get (spots parts) (n + 1) ≡ Some (Spot.At n)
unfolding spots
place_there parts n below =
    let e : n + 1 ≡ suc n = omega arith in ap (slice_get (spots_of_groups parts 64)) e ∙ places_there parts 64 n below

-- where control rests, place by place
pub all_places : (parts : SystemParts) (v : Valuation) → Fits parts v → map (rests_at v) (range_with_len 0 (length parts.places)) ≡ v.places.items
all_places parts v fits =
    let long = fits.bits_of_places in
    let same = length-map-range_with_len (rests_at v) 0 (length parts.places) in
    ext_get_or false (map (rests_at v) (range_with_len 0 (length parts.places))) v.places.items (omega (arith, long, same))
    (λ i below. get_or-map-range_with_len (rests_at v) 0 (length parts.places) i i false (omega (arith, below, same)) (omega arith))

pub place_within : (parts : SystemParts) (n : ℕ) → n < length parts.places → n + 1 < length (spots parts)
place_within parts n below = slice_get_within (spots parts) (n + 1) (Spot.At n) (place_there parts n below)

-- one place more
pub place_more : (parts : SystemParts) (v : Valuation) (reading : Reading) → Spells parts v reading.bits → (n : ℕ) → n < length parts.places
    → (numbers more : List DdId) (d : DdId) → more ≡ numbers ++ d ∷ [] → bits_in reading numbers ≡ map (rests_at v) (range_with_len 0 n)
    → reading.values d.0 ≡ slice_index_or reading.bits (n + 1) false → bits_in reading more ≡ map (rests_at v) (range_with_len 0 (n + 1))
place_more parts v reading spells n below numbers more d is so_far means =
    ap (bits_in reading) is ∙ map-append (λ (x : DdId). reading.values x.0) numbers (d ∷ [])
    ∙ ap₂ (λ (bs : List Bool) (b : Bool). bs ++ b ∷ []) so_far (means ∙ variable_read parts v reading spells (n + 1) (Spot.At n) (place_there parts n below))
    ∙ sym (map-range_with_len_more (rests_at v) 0 n n (omega arith))

-- the variables of a cell are in range, and as many as its value has bits
pub cell_variables_long : (parts : SystemParts) (n : ℕ) (cell : Cell) → slice_get parts.cells n ≡ Some cell → (variables : List ℕ)
    → AreSpots parts (map (Spot.Stored n) (range_with_len 0 (cell_width parts n))) variables → length variables ≡ width_of cell.ty
cell_variables_long parts n cell at variables are =
    spots_long (spots parts) (map (Spot.Stored n) (range_with_len 0 (cell_width parts n))) variables are
    ∙ length-map-range_with_len (Spot.Stored n) 0 (cell_width parts n)
    ∙ ap (λ o. option_map_or width_of (option_map (λ (c : Cell). c.ty) o) 0) at

pub input_variables_long : (parts : SystemParts) (n : ℕ) (port : Port) → slice_get parts.inputs n ≡ Some port → (variables : List ℕ)
    → AreSpots parts (map (Spot.Given n) (range_with_len 0 (input_width parts n))) variables → length variables ≡ width_of port.ty
input_variables_long parts n port at variables are =
    spots_long (spots parts) (map (Spot.Given n) (range_with_len 0 (input_width parts n))) variables are
    ∙ length-map-range_with_len (Spot.Given n) 0 (input_width parts n)
    ∙ ap (λ o. option_map_or width_of (option_map (λ (p : Port). p.ty) o) 0) at

-- what a list of the same number says
falses : (reading : Reading) (d : DdId) → reading.values d.0 ≡ false → (n k : ℕ) → value_at reading (replicate n d) k ≡ false
falses reading d is zero k = refl
falses reading d is (suc n) zero = is
falses reading d is (suc n) (suc k) = falses reading d is n k

pub lives_right : (table : Table) (parts : SystemParts) (places old new : List DdId) (d : DdId) → ArePlaces table parts places
    → ((reading : Reading) → Reads reading table → reading.values d.0 ≡ false)
    → old ≡ replicate (length parts.cells) d → length new ≡ length old → All (λ x. x.0 < count table) new
    → CarriesLives table places parts.shape old new → AreLives table parts new
lives_right table parts places old new d are never is same below carries =
    let long : length old ≡ length parts.cells = ap length is ∙ length-replicate (length parts.cells) d in
    record {
      long = same ∙ long;
      below = below;
      says = λ reading v views n within.
          carries reading views.reads n (omega (arith, within, long))
          ∙ ap (λ b. b || (living_of (value_at reading places) n parts.shape).lives)
          (ap (λ (xs : List DdId). value_at reading xs n) is ∙ falses reading d (never reading views.reads) (length parts.cells) n)
          ∙ ap (λ (bits : List Bool). (living_of (λ m. get_or bits m false) n parts.shape).lives) (are.says reading v views);
    }
