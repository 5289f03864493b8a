-- What registers and inputs hold, by their numbers.
use Rattle.std.proofs.Common.{◌≡◌, ℕ, zero, suc, ◌+◌, ◌-◌, ◌<◌, Bool, true, false, List, [], ◌∷◌, ◌++◌, map, length, get_or, Some, refl, sym, ap, ap₂, ◌∙◌, arith}
use Rattle.std.specs.Prelude.{not, slice_get, replicate}
use Rattle.std.specs.List.{list_all}
use Rattle.std.specs.Option.{option_map}
use Rattle.std.proofs.lemmas.Bool.{and_parts, eqb-true, false≢true}
use Rattle.std.proofs.lemmas.List.{length-map, length-append, length-replicate, get_or-replicate, get_or_append_left, get_or-append_right, get_or-map, replicate-append-replicate, append_assoc}
use Rattle.std.proofs.lemmas.Option.{slice_get-map, slice_get_within, slice_get-get_or, get_or_from_slice_get}
use Rattle.qz_values.specs.declared.Ty.{Ty}
use Rattle.qz_values.specs.declared.Value.{Value}
use Rattle.qz_values.specs.declared.Ty.TheVariants.{Bool as Truth}
use Rattle.qz_values.specs.Values.{value_of, truth_of, default_of, type_of, no}
use Rattle.qz_syntax.specs.declared.declarations.Port.{Port}
use Rattle.qz_verilog.specs.declared.nets.Ref.TheVariants as net
use Rattle.qz_verilog.specs.Validity.{port_types, IsNetOf}
use Rattle.qz_verilog.specs.Simulation.{row_of}
use Rattle.qz_system.specs.declared.parts.Cell.{Cell}
use Rattle.qz_system.specs.declared.parts.SystemParts.{SystemParts}
use Rattle.qz_system.specs.declared.valuation.Valuation.{Valuation}
use Rattle.qz_system.specs.Valuations.{hold_inputs, hold_stores, Fits, rests_at, store_of, no_store, is_new, is_initial}
use Rattle.qz_wires.specs.declared.wires.Wires.{Wires}
use Rattle.qz_wires.specs.WireTable.{types_in}
use Rattle.qz_equations.specs.Registers.{AreOver, cell_types, marks_of, bits_of_stores, registers_at, inputs_at, initial_registers, place_register, mark_register, value_register}

-- numbers as values, by their places
pub row_at : (ts : List Ty) (ns : List ℕ) (n : ℕ) (t : Ty) → length ns ≡ length ts → slice_get ts n ≡ Some t → get_or (row_of ts ns) n no ≡ value_of t (get_or ns n 0)
row_at [] ns n t same at = absurd (cc)
row_at (u ∷ ts) [] n t same at = absurd (omega arith)
row_at (u ∷ ts) (m ∷ ns) zero t same at = let is : u ≡ t = cc in ap (λ x. value_of x m) is
row_at (u ∷ ts) (m ∷ ns) (suc n) t same at = row_at ts ns n t (omega arith) at

inputs_count : (ports : List Port) (inputs : List ℕ) → hold_inputs ports inputs ≡ true → length inputs ≡ length ports
inputs_count [] [] h = refl
inputs_count [] (bits ∷ others) h = absurd (false≢true h)
inputs_count (port ∷ ports) [] h = absurd (false≢true h)
inputs_count (port ∷ ports) (bits ∷ others) h = ap suc (inputs_count ports others (and_parts _ _ h).1)

stores_count : (cells : List Cell) (stores : List (Bool × ℕ)) → hold_stores cells stores ≡ true → length stores ≡ length cells
stores_count [] [] h = refl
stores_count [] (store ∷ others) h = absurd (false≢true h)
stores_count (cell ∷ cells) [] h = absurd (false≢true h)
stores_count (cell ∷ cells) (store ∷ others) h = ap suc (stores_count cells others (and_parts _ _ h).1)

module _ (parts : SystemParts) (v : Valuation) (fits : Fits parts v) where
  pub store_count : length v.stores.items ≡ length parts.cells
  store_count = stores_count parts.cells v.stores.items fits.values_of_stores

  cell_there : (n : ℕ) (cell : Cell) → slice_get parts.cells n ≡ Some cell → n < length v.stores.items
  cell_there n cell at = let h = slice_get_within parts.cells n cell at in omega (arith, h, store_count)

  pub input_at : (n : ℕ) (port : Port) → slice_get parts.inputs n ≡ Some port → get_or (inputs_at parts v) n no ≡ value_of port.ty (get_or v.inputs.items n 0)
  input_at n port at =
      row_at (port_types parts.inputs) v.inputs.items n port.ty
      (inputs_count parts.inputs v.inputs.items fits.values_of_inputs ∙ sym (length-map parts.inputs (λ (p : Port). p.ty)))
      (slice_get-map (λ (p : Port). p.ty) parts.inputs n ∙ ap (option_map (λ (p : Port). p.ty)) at)

  abbrev places : List Value
  places = map truth_of v.places.items

  abbrev rest : List Value
  rest = marks_of v.stores.items ++ row_of (cell_types parts) (bits_of_stores v.stores.items)

  place_count : length places ≡ length parts.places
  place_count = length-map v.places.items truth_of ∙ fits.bits_of_places

  mark_count : length (marks_of v.stores.items) ≡ length parts.cells
  mark_count = length-map v.stores.items (λ (store : Bool × ℕ). truth_of store.0) ∙ store_count

  pub place_at : (n : ℕ) → n < length parts.places → get_or (registers_at parts v) (place_register n) no ≡ truth_of (rests_at v n)
  place_at n below =
      let within : n < length places = omega (arith, place_count) in
      let more : place_register n ≡ suc n = omega arith in
      ap (λ k. get_or (registers_at parts v) k no) more
      ∙ get_or_append_left places rest no n within
      ∙ get_or-map truth_of v.places.items n false no (let h = fits.bits_of_places in omega arith)

  -- past the places
  past : (k : ℕ) → get_or (registers_at parts v) (1 + length parts.places + k) no ≡ get_or rest k no
  past k =
      let more : 1 + length parts.places + k ≡ suc (length parts.places + k) = omega arith in
      let less : length parts.places + k - length parts.places ≡ k = omega arith in
      ap (λ j. get_or (registers_at parts v) j no) more
      ∙ get_or-append_right places rest (length parts.places) (length parts.places + k) no place_count (omega arith)
      ∙ ap (λ j. get_or rest j no) less

  pub mark_at : (n : ℕ) (cell : Cell) → slice_get parts.cells n ≡ Some cell → get_or (registers_at parts v) (mark_register parts n) no ≡ truth_of (store_of v n).0
  mark_at n cell at =
      let there = cell_there n cell at in
      past n
      ∙ get_or_append_left (marks_of v.stores.items) (row_of (cell_types parts) (bits_of_stores v.stores.items)) no n
      (omega (arith, there, mark_count, store_count))
      ∙ get_or-map (λ (store : Bool × ℕ). truth_of store.0) v.stores.items n no_store no there

  pub value_at : (n : ℕ) (cell : Cell) → slice_get parts.cells n ≡ Some cell
      → get_or (registers_at parts v) (value_register parts n) no ≡ value_of cell.ty (store_of v n).1
  value_at n cell at =
      let there = cell_there n cell at in
      let values = row_of (cell_types parts) (bits_of_stores v.stores.items) in
      let more : value_register parts n ≡ 1 + length parts.places + (length parts.cells + n) = omega arith in
      let less : length parts.cells + n - length parts.cells ≡ n = omega arith in
      ap (λ k. get_or (registers_at parts v) k no) more
      ∙ past (length parts.cells + n)
      ∙ get_or-append_right (marks_of v.stores.items) values (length parts.cells) (length parts.cells + n) no mark_count (omega arith)
      ∙ ap (λ k. get_or values k no) less
      ∙ row_at (cell_types parts) (bits_of_stores v.stores.items) n cell.ty
      (length-map v.stores.items (λ (store : Bool × ℕ). store.1) ∙ store_count ∙ sym (length-map parts.cells (λ (c : Cell). c.ty)))
      (slice_get-map (λ (c : Cell). c.ty) parts.cells n ∙ ap (option_map (λ (c : Cell). c.ty)) at)
      ∙ ap (value_of cell.ty) (get_or-map (λ (store : Bool × ℕ). store.1) v.stores.items n no_store 0 there)

-- before the start
none_rest : (bits : List Bool) → list_all (λ bit. not bit) bits ≡ true → map truth_of bits ≡ replicate (length bits) (truth_of false)
none_rest [] h = refl
none_rest (true ∷ bits) h = absurd (false≢true h)
none_rest (false ∷ bits) h = ap (λ xs. truth_of false ∷ xs) (none_rest bits h)

-- a new store
new_store : (store : Bool × ℕ) → is_new store ≡ true → (store.0 ≡ false) × (store.1 ≡ 0)
new_store (true, n) h = absurd (false≢true h)
new_store (false, n) h = (refl, eqb-true n 0 h)

none_marked : (stores : List (Bool × ℕ)) → list_all (λ store. is_new store) stores ≡ true → marks_of stores ≡ replicate (length stores) (truth_of false)
none_marked [] h = refl
none_marked (store ∷ stores) h =
    let both = and_parts (is_new store) (list_all (λ s. is_new s) stores) h in
    ap₂ (λ (b : Bool) (xs : List Value). truth_of b ∷ xs) (new_store store both.0).0 (none_marked stores both.1)

all_default : (cells : List Cell) (stores : List (Bool × ℕ)) → length stores ≡ length cells → list_all (λ store. is_new store) stores ≡ true
    → row_of (map (λ (cell : Cell). cell.ty) cells) (bits_of_stores stores) ≡ map (λ (cell : Cell). default_of cell.ty) cells
all_default [] [] same h = refl
all_default [] (store ∷ stores) same h = absurd (omega arith)
all_default (cell ∷ cells) [] same h = absurd (omega arith)
all_default (cell ∷ cells) (store ∷ stores) same h =
    let both = and_parts (is_new store) (list_all (λ s. is_new s) stores) h in
    ap₂ (λ (n : ℕ) (xs : List Value). value_of cell.ty n ∷ xs) (new_store store both.0).1 (all_default cells stores (omega arith) both.1)

-- the registers of an initial valuation hold the initial values
pub begins_with : (parts : SystemParts) (v : Valuation) → Fits parts v → v.started ≡ false → is_initial v ≡ true → initial_registers parts ≡ registers_at parts v
begins_with parts v fits started initial =
    let both = and_parts (list_all (λ bit. not bit) v.places.items) (list_all (λ store. is_new store) v.stores.items) initial in
    let cells = stores_count parts.cells v.stores.items fits.values_of_stores in
    let b = truth_of false in
    let defaults = map (λ (cell : Cell). default_of cell.ty) parts.cells in
    let P = length parts.places in
    let C = length parts.cells in
    let bools : replicate (1 + P + C) b ≡ b ∷ (replicate P b ++ replicate C b) =
    let more : 1 + P + C ≡ suc (P + C) = omega arith in
    ap (λ n. replicate n b) more ∙ ap (λ xs. b ∷ xs) (sym (replicate-append-replicate P C b)) in
    let marks : replicate C b ≡ marks_of v.stores.items = ap (λ n. replicate n b) (sym cells) ∙ sym (none_marked v.stores.items both.1) in
    let places : replicate P b ≡ map truth_of v.places.items = ap (λ n. replicate n b) (sym fits.bits_of_places) ∙ sym (none_rest v.places.items both.0) in
    let values : defaults ≡ row_of (cell_types parts) (bits_of_stores v.stores.items) = sym (all_default parts.cells v.stores.items cells both.1) in
    rw (bools, started, places, marks, values) (ap (λ xs. b ∷ xs)
    (append_assoc (map truth_of v.places.items) (marks_of v.stores.items) (row_of (cell_types parts) (bits_of_stores v.stores.items))))

-- the types of inputs and registers
module _ (parts : SystemParts) (wires : Wires) (over : AreOver parts wires) where
  pub input_typed : (n : ℕ) (port : Port) → slice_get parts.inputs n ≡ Some port → IsNetOf (types_in wires) port.ty (net.Input n)
  input_typed n port at =
      rw over.inputs (slice_get-map (λ (p : Port). p.ty) parts.inputs n ∙ ap (option_map (λ (p : Port). p.ty)) at)

  abbrev bools : ℕ
  bools = 1 + length parts.places + length parts.cells

  abbrev defaults : List Value
  defaults = map (λ (cell : Cell). default_of cell.ty) parts.cells

  register_typed : (n : ℕ) (value : Value) → slice_get (initial_registers parts) n ≡ Some value → IsNetOf (types_in wires) (type_of value) (net.Reg n)
  register_typed n value at = rw over.regs (slice_get-map type_of (initial_registers parts) n ∙ ap (option_map type_of) at)

  pub bool_register : (n : ℕ) → n < 1 + length parts.places + length parts.cells → IsNetOf (types_in wires) Truth (net.Reg n)
  bool_register n below =
      let b = truth_of false in
      let many = length-replicate bools b in
      let within : n < length (replicate bools b) = omega (arith, many) in
      let all = length-append (replicate bools b) defaults in
      register_typed n b
      (slice_get-get_or (initial_registers parts) n b (omega (arith, all, within))
      ∙ ap Some (get_or_append_left (replicate bools b) defaults b n within ∙ get_or-replicate bools n b b below))

  pub value_typed : (n : ℕ) (cell : Cell) → slice_get parts.cells n ≡ Some cell → IsNetOf (types_in wires) cell.ty (net.Reg (value_register parts n))
  value_typed n cell at =
      let b = truth_of false in
      let many = length-replicate bools b in
      let there = slice_get_within parts.cells n cell at in
      let count : length defaults ≡ length parts.cells = length-map parts.cells (λ (c : Cell). default_of c.ty) in
      let all = length-append (replicate bools b) defaults in
      let less : value_register parts n - bools ≡ n = omega arith in
      let default = default_of cell.ty in
      register_typed (value_register parts n) default
      (slice_get-get_or (initial_registers parts) (value_register parts n) b (omega (arith, all, many, count, there))
      ∙ ap Some (get_or-append_right (replicate bools b) defaults bools (value_register parts n) b many (omega arith)
      ∙ ap (λ k. get_or defaults k b) less
      ∙ get_or_from_slice_get defaults n default b (slice_get-map (λ (c : Cell). default_of c.ty) parts.cells n ∙ ap (option_map (λ (c : Cell). default_of c.ty)) at)))
