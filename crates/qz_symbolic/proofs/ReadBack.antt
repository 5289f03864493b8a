-- The valuation that bits of the variables spell is read back by what each variable is.
use Rattle.std.proofs.Common.{◌≡◌, ℕ, zero, suc, ◌+◌, ◌*◌, ◌/◌, ◌%◌, ◌^◌, ◌<◌, ◌≤◌, ◌==◌, Bool, true, false, List, [], ◌∷◌, map, drop, length, get_or, Some, refl, sym, ap, ap₂, subst, ◌∙◌, arith}
use Rattle.std.specs.Prelude.{slice_get, ◌&&◌}
use Rattle.std.specs.List.{range_with_len}
use Rattle.std.specs.Option.{option_map}
use mir.Val.{bool_byte}
use Rattle.std.proofs.Math.Nat.{div-div-eq-div-mul}
use Rattle.std.proofs.lemmas.Bool.{lt-ltb}
use Rattle.std.proofs.lemmas.List.{ext_get_or}
use Rattle.std.proofs.lemmas.List.FromFn.{length-map-range_with_len}
use Rattle.std.proofs.lemmas.Option.{slice_get_within, get_or_from_slice_get}
use Rattle.qz_rails.specs.Bits.{digit, number_of}
use Rattle.qz_rails.proofs.BitNumbers.{twice, number_fits}
use Rattle.qz_values.specs.declared.Ty.{Ty}
use Rattle.qz_values.specs.Types.{width_of, is_type}
use Rattle.qz_meaning.specs.Valuations.{is_set}
use Rattle.qz_syntax.specs.declared.declarations.Port.{Port}
use Rattle.qz_system.specs.declared.parts.Cell.{Cell}
use Rattle.qz_system.specs.declared.parts.SystemParts.{SystemParts}
use Rattle.qz_system.specs.declared.valuation.Valuation.{Valuation}
use Rattle.qz_system.specs.Parts.{AreParts}
use Rattle.qz_system.specs.Valuations.{holds, hold_inputs, hold_stores, store_of, no_store}
use Rattle.qz_system.proofs.Finding.{all_at}
use Rattle.qz_symbolic.specs.declared.variables.CellVariables.{CellVariables}
use Rattle.qz_symbolic.specs.declared.variables.InputVariables.{InputVariables}
use Rattle.qz_symbolic.specs.declared.variables.Variables.{Variables}
use Rattle.qz_symbolic.specs.Variables.{Spot, spots, bit_of, cell_width, input_width, AreSpots, AreVariables, Spells}
use Rattle.qz_symbolic.specs.Spelling.{spelled_number, IsStoreRead, IsInputRead}
use Rattle.qz_symbolic.proofs.LeafRails.{some_there}
use Rattle.qz_symbolic.proofs.OwnSpots.{cell_wide, input_wide}
use Rattle.qz_symbolic.proofs.Spelling.{bit_read, spots_long, cell_variables_long, input_variables_long}
use Rattle.qz_symbolic.proofs.Locating.{Located, located, one_number}

mapped_long : {A B : Type 0} (f : A → B) (xs : List A) → length (map f xs) ≡ length xs
mapped_long f [] = refl
mapped_long f (x ∷ xs) = ap suc (mapped_long f xs)

-- bit j of a number is its digit
half : (n : ℕ) (b : Bool) → (n * 2 + digit b) / 2 ≡ n
half n true = omega arith
half n false = omega arith

odd : (n : ℕ) (b : Bool) → ((n * 2 + digit b) % 2 == 1) ≡ b
odd n true = let e : (n * 2 + 1) % 2 ≡ 1 = omega arith in ap (λ m. m == 1) e
odd n false = let e : (n * 2 + 0) % 2 ≡ 0 = omega arith in ap (λ m. m == 1) e

pub bit_of_number : (bits : List Bool) (j : ℕ) → is_set j (number_of bits) ≡ get_or bits j false
bit_of_number [] zero = refl
bit_of_number [] (suc j) = let e : 0 / 2 ^ suc j ≡ 0 = omega arith in ap (λ m. m % 2 == 1) e
bit_of_number (b ∷ bits) zero =
    let e : (number_of bits * 2 + digit b) / 2 ^ 0 ≡ number_of bits * 2 + digit b = omega arith in
    ap (λ m. m % 2 == 1) e ∙ odd (number_of bits) b
bit_of_number (b ∷ bits) (suc j) =
    let order : 2 ^ suc j ≡ 2 * 2 ^ j = let t = twice j in omega (arith, t) in
    ap (λ p. (number_of bits * 2 + digit b) / p % 2 == 1) order
    ∙ ap (λ m. m % 2 == 1) (sym (div-div-eq-div-mul (number_of bits * 2 + digit b) 2 (2 ^ j)))
    ∙ ap (λ m. m / 2 ^ j % 2 == 1) (half (number_of bits) b)
    ∙ bit_of_number bits j

-- the number that one more variable leads to
pub more_number : (bits : List Bool) (variables : List ℕ) (n : ℕ) (variable : ℕ) → n < length variables → variable ≡ get_or variables n variable
    → spelled_number bits (drop n variables) ≡ spelled_number bits (drop (n + 1) variables) * 2 + digit (get_or bits variable false)
more_number bits [] n variable below is = absurd (omega (arith, below))
more_number bits (v ∷ vs) zero variable below is =
    let e : 0 + 1 ≡ 1 = omega arith in
    ap (λ m. spelled_number bits vs * 2 + digit (get_or bits m false)) (sym is)
more_number bits (v ∷ vs) (suc n) variable below is =
    let e : suc (n + 1) ≡ suc n + 1 = omega arith in
    more_number bits vs n variable (omega (arith, below)) is ∙ ap (λ k. spelled_number bits (drop k (v ∷ vs)) * 2 + digit (get_or bits variable false)) e

pub number_below : (bits : List Bool) (variables : List ℕ) (width : ℕ) → length variables ≤ width → spelled_number bits variables < 2 ^ width
number_below bits variables width short =
    let long = mapped_long (λ (m : ℕ). get_or bits m false) variables in
    let fits = number_fits (map (λ (m : ℕ). get_or bits m false) variables) in
    let more = pow_grows (length (map (λ (m : ℕ). get_or bits m false) variables)) width (omega (arith, long, short)) in
    omega (arith, fits, more)
  where
    pow_grows : (a b : ℕ) → a ≤ b → 2 ^ a ≤ 2 ^ b
    pow_grows a zero h = let e : a ≡ 0 = omega arith in subst (λ k. 2 ^ a ≤ 2 ^ k) e (omega arith)
    pow_grows zero (suc b) h = let r = pow_grows zero b (omega arith) in let t = twice b in omega (arith, r, t)
    pow_grows (suc a) (suc b) h = let r = pow_grows a b (omega arith) in let t = twice a in let u = twice b in omega (arith, r, t, u)

-- the variable of a bit
wanted_at : (all wanted : List Spot) (variables : List ℕ) → map (slice_get all) variables ≡ map Some wanted → (j : ℕ) (w : Spot) → slice_get wanted j ≡ Some w
    → slice_get all (get_or variables j 0) ≡ Some w
wanted_at all [] variables are j w at = absurd (cc)
wanted_at all (x ∷ xs) [] are j w at = absurd (cc)
wanted_at all (x ∷ xs) (m ∷ ms) are zero w at =
    let here : slice_get all m ≡ Some x = cc in here ∙ at
wanted_at all (x ∷ xs) (m ∷ ms) are (suc j) w at =
    let rest : map (slice_get all) ms ≡ map Some xs = cc in wanted_at all xs ms rest j w at

listed_range : (f : ℕ → Spot) (a n j : ℕ) → j < n → slice_get (map f (range_with_len a n)) j ≡ Some (f (a + j))
listed_range f a zero j below = absurd (omega (arith, below))
listed_range f a (suc n) zero below = let e : a ≡ a + 0 = omega arith in ap (λ k. Some (f k)) e
listed_range f a (suc n) (suc j) below =
    let e : a + 1 + j ≡ a + suc j = omega arith in listed_range f (a + 1) n j (omega (arith, below)) ∙ ap (λ k. Some (f k)) e

read_at : (bits : List Bool) (variables : List ℕ) (j : ℕ) → j < length variables → get_or (map (λ (m : ℕ). get_or bits m false) variables) j false ≡ get_or bits (get_or variables j 0) false
read_at bits [] j below = absurd (omega (arith, below))
read_at bits (m ∷ ms) zero below = refl
read_at bits (m ∷ ms) (suc j) below = read_at bits ms j (omega (arith, below))

-- bit j of what the variables spell is the bit of the variable that stands for it
bit_spelled : (parts : SystemParts) (bits : List Bool) (f : ℕ → Spot) (width : ℕ) (variables : List ℕ) → AreSpots parts (map f (range_with_len 0 width)) variables
    → (j k : ℕ) → j < width → slice_get (spots parts) k ≡ Some (f j) → is_set j (spelled_number bits variables) ≡ get_or bits k false
bit_spelled parts bits f width variables are j k below at =
    let long = spots_long (spots parts) (map f (range_with_len 0 width)) variables are in
    let size = length-map-range_with_len f 0 width in
    let e : 0 + j ≡ j = omega arith in
    let there = wanted_at (spots parts) (map f (range_with_len 0 width)) variables are j (f j) (listed_range f 0 width j below ∙ ap (λ m. Some (f m)) e) in
    bit_of_number (map (λ (m : ℕ). get_or bits m false) variables) j
    ∙ read_at bits variables j (omega (arith, below, long, size))
    ∙ ap (λ m. get_or bits m false) (one_number parts (get_or variables j 0) k (f j) there at)

-- a valuation that is read back
module _ (parts : SystemParts) (are : AreParts parts) (variables : Variables) (right : AreVariables parts variables) (bits : List Bool) (long : length bits ≡ variables.count)
    (v : Valuation) (started : v.started ≡ get_or bits 0 false)
    (places_long : length v.places.items ≡ length parts.places) (places : (n : ℕ) → n < length parts.places → get_or v.places.items n false ≡ get_or bits (n + 1) false)
    (stores_long : length v.stores.items ≡ length variables.cells.items)
    (stores : (n : ℕ) (store : Bool × ℕ) → slice_get v.stores.items n ≡ Some store → IsStoreRead variables bits n store)
    (inputs_long : length v.inputs.items ≡ length variables.inputs.items)
    (inputs : (n value : ℕ) → slice_get v.inputs.items n ≡ Some value → IsInputRead variables bits n value) where
  store_read : (cell : ℕ) (own : CellVariables) → slice_get variables.cells.items cell ≡ Some own
      → store_of v cell ≡ (get_or bits own.mark false, spelled_number bits own.bits.items)
  store_read cell own at =
      let within = slice_get_within variables.cells.items cell own at in
      let store = some_there v.stores.items cell (omega (arith, within, stores_long)) in
      get_or_from_slice_get v.stores.items cell store.0 no_store store.1 ∙ (stores cell store.0 store.1).read own at

  input_read : (input : ℕ) (own : InputVariables) → slice_get variables.inputs.items input ≡ Some own
      → get_or v.inputs.items input 0 ≡ spelled_number bits own.bits.items
  input_read input own at =
      let within = slice_get_within variables.inputs.items input own at in
      let value = some_there v.inputs.items input (omega (arith, within, inputs_long)) in
      get_or_from_slice_get v.inputs.items input value.0 0 value.1 ∙ (inputs input value.0 value.1).read own at

  bit_back : (k : ℕ) (x : Spot) → slice_get (spots parts) k ≡ Some x → Located parts k x → get_or bits k false ≡ bit_of v x
  bit_back k Spot.Started at there = ap (λ m. get_or bits m false) there.at ∙ sym started
  bit_back k (Spot.At place) at there = ap (λ m. get_or bits m false) there.at ∙ sym (places place there.had)
  bit_back k (Spot.Mark cell) at there =
      let size = right.cell_count in
      let had = there.had in
      let own = some_there variables.cells.items cell (omega (arith, size, had)) in
      ap (λ m. get_or bits m false) (one_number parts k own.0.mark (Spot.Mark cell) at (right.cells cell own.0 own.1).mark)
      ∙ ap (λ (s : Bool × ℕ). s.0) (sym (store_read cell own.0 own.1))
  bit_back k (Spot.Stored cell j) at there =
      let size = right.cell_count in
      let had = there.had.0 in
      let own = some_there variables.cells.items cell (omega (arith, size, had)) in
      sym (bit_spelled parts bits (Spot.Stored cell) (cell_width parts cell) own.0.bits.items (right.cells cell own.0 own.1).bits j k there.had.1 at)
      ∙ ap (λ (s : Bool × ℕ). is_set j s.1) (sym (store_read cell own.0 own.1))
  bit_back k (Spot.Given input j) at there =
      let size = right.input_count in
      let had = there.had.0 in
      let own = some_there variables.inputs.items input (omega (arith, size, had)) in
      sym (bit_spelled parts bits (Spot.Given input) (input_width parts input) own.0.bits.items (right.inputs input own.0 own.1).bits j k there.had.1 at)
      ∙ ap (is_set j) (sym (input_read input own.0 own.1))

  same_bits : bits ≡ map (bit_of v) (spots parts)
  same_bits =
      let size = mapped_long (bit_of v) (spots parts) in
      let count = right.count in
      ext_get_or false bits (map (bit_of v) (spots parts)) (omega (arith, size, count, long)) (λ i below.
      let it = some_there (spots parts) i (omega (arith, below, long, count)) in
      bit_back i it.0 it.1 (located parts i it.0 it.1) ∙ sym (bit_read (spots parts) (bit_of v) i it.0 it.1))

  -- numbers fit their types
  held : (ty : Ty) (n : ℕ) → is_type ty ≡ true → n < 2 ^ width_of ty → holds ty n ≡ true
  held ty n typed below = ap₂ (λ (a b : Bool). a && b) typed (lt-ltb n (2 ^ width_of ty) below)

  all_stores : (cells : List Cell) (given : List (Bool × ℕ)) → length given ≡ length cells
      → ((n : ℕ) (cell : Cell) (store : Bool × ℕ) → slice_get cells n ≡ Some cell → slice_get given n ≡ Some store → holds cell.ty store.1 ≡ true)
      → hold_stores cells given ≡ true
  all_stores [] [] same each = refl
  all_stores [] (s ∷ given) same each = absurd (omega (arith, same))
  all_stores (c ∷ cells) [] same each = absurd (omega (arith, same))
  all_stores (c ∷ cells) (s ∷ given) same each =
      ap₂ (λ (a b : Bool). a && b) (each 0 c s refl refl)
      (all_stores cells given (omega (arith, same)) (λ n cell store there at. each (suc n) cell store there at))

  all_inputs : (ports : List Port) (given : List ℕ) → length given ≡ length ports
      → ((n : ℕ) (port : Port) (value : ℕ) → slice_get ports n ≡ Some port → slice_get given n ≡ Some value → holds port.ty value ≡ true)
      → hold_inputs ports given ≡ true
  all_inputs [] [] same each = refl
  all_inputs [] (s ∷ given) same each = absurd (omega (arith, same))
  all_inputs (p ∷ ports) [] same each = absurd (omega (arith, same))
  all_inputs (p ∷ ports) (s ∷ given) same each =
      ap₂ (λ (a b : Bool). a && b) (each 0 p s refl refl)
      (all_inputs ports given (omega (arith, same)) (λ n port value there at. each (suc n) port value there at))

  store_holds : (n : ℕ) (cell : Cell) (store : Bool × ℕ) → slice_get parts.cells n ≡ Some cell → slice_get v.stores.items n ≡ Some store → holds cell.ty store.1 ≡ true
  store_holds n cell store there at =
      let within = slice_get_within parts.cells n cell there in
      let size = right.cell_count in
      let own = some_there variables.cells.items n (omega (arith, within, size)) in
      let width : length own.0.bits.items ≡ width_of cell.ty = cell_variables_long parts n cell there own.0.bits.items (right.cells n own.0 own.1).bits in
      ap (λ (s : Bool × ℕ). holds cell.ty s.1) ((stores n store at).read own.0 own.1)
      ∙ held cell.ty (spelled_number bits own.0.bits.items) (all_at (λ (c : Cell). is_type c.ty) parts.cells are.is_declared.types_of_cells n cell there)
      (number_below bits own.0.bits.items (width_of cell.ty) (omega (arith, width)))

  input_holds : (n : ℕ) (port : Port) (value : ℕ) → slice_get parts.inputs n ≡ Some port → slice_get v.inputs.items n ≡ Some value → holds port.ty value ≡ true
  input_holds n port value there at =
      let within = slice_get_within parts.inputs n port there in
      let size = right.input_count in
      let own = some_there variables.inputs.items n (omega (arith, within, size)) in
      let width : length own.0.bits.items ≡ width_of port.ty = input_variables_long parts n port there own.0.bits.items (right.inputs n own.0 own.1).bits in
      ap (holds port.ty) ((inputs n value at).read own.0 own.1)
      ∙ held port.ty (spelled_number bits own.0.bits.items) (all_at (λ (p : Port). is_type p.ty) parts.inputs are.is_declared.input_types n port there)
      (number_below bits own.0.bits.items (width_of port.ty) (omega (arith, width)))

  pub read_back : Spells parts v bits
  read_back = record {
    fits = record {
      bits_of_places = places_long;
      values_of_inputs = all_inputs parts.inputs v.inputs.items (inputs_long ∙ right.input_count) input_holds;
      values_of_stores = all_stores parts.cells v.stores.items (stores_long ∙ right.cell_count) store_holds;
    };
    bits = same_bits;
  }

-- a bit as a number
pub bit_digit : (b : Bool) → bool_byte b ≡ digit b
bit_digit true = refl
bit_digit false = refl

-- a cell has at most 64 variables besides its mark, and an input at most 64
pub cell_variables_short : (parts : SystemParts) → AreParts parts → (n : ℕ) (variables : List ℕ) → n < length parts.cells
    → AreSpots parts (map (Spot.Stored n) (range_with_len 0 (cell_width parts n))) variables → length variables ≤ 64
cell_variables_short parts are n variables within right =
    let cell = some_there parts.cells n within in
    let long = cell_variables_long parts n cell.0 cell.1 variables right in
    let wide = cell_wide parts are n cell.0.ty (ap (option_map (λ (c : Cell). c.ty)) cell.1) in
    omega (arith, long, wide)

pub input_variables_short : (parts : SystemParts) → AreParts parts → (n : ℕ) (variables : List ℕ) → n < length parts.inputs
    → AreSpots parts (map (Spot.Given n) (range_with_len 0 (input_width parts n))) variables → length variables ≤ 64
input_variables_short parts are n variables within right =
    let port = some_there parts.inputs n within in
    let long = input_variables_long parts n port.0 port.1 variables right in
    let wide = input_wide parts are n port.0.ty (ap (option_map (λ (p : Port). p.ty)) port.1) in
    omega (arith, long, wide)
