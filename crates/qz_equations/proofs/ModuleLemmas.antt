-- The module of a system is valid, and its nets have values of their types.
use Rattle.std.proofs.Common.{◌≡◌, ℕ, zero, suc, ◌+◌, ◌<◌, ◌≤◌, Bool, true, false, List, [], ◌∷◌, ◌++◌, map, length, take, Option, Some, None, refl, sym, ap, ap₂, subst, ◌∙◌, arith}
use Rattle.std.specs.Prelude.{slice_get, slice_index_or, replicate}
use Rattle.std.specs.List.{list_all, range_with_len, AllByRecursion}
use Rattle.std.specs.Option.{option_map, option_map_or, option_and_then}
use Rattle.std.proofs.lemmas.Bool.{and_parts, false≢true}
use Rattle.std.proofs.lemmas.List.{append_assoc, map_push, take_at, length-take-le, length-map}
use Rattle.std.proofs.lemmas.Option.{slice_get-map, same_Some, slice_get_within}
use Rattle.qz_values.specs.declared.Ty.{Ty}
use Rattle.qz_values.specs.declared.Ty.TheVariants.{Bool as Truth}
use Rattle.qz_values.specs.declared.Value.{Value}
use Rattle.qz_values.specs.declared.Know.{Know}
use Rattle.qz_values.specs.declared.Know.TheVariants.{Unknown, Known, Clash}
use Rattle.qz_values.specs.Types.{IsType, is_type, is_same_type, width_of}
use Rattle.qz_values.specs.Values.{IsValue, value_of, default_of, truth_of, is_yes}
use Rattle.qz_values.specs.Fits.{IsOf}
use Rattle.qz_values.proofs.Typed.{same-is_same_type}
use Rattle.std.proofs.lemmas.Nat.{pow_pos}
use Rattle.qz_nets.specs.Readings.{listed}
use Rattle.qz_syntax.specs.declared.declarations.Port.{Port}
use Rattle.qz_verilog.specs.declared.nets.Ref.{Ref}
use Rattle.qz_verilog.specs.declared.nets.Rhs.{Rhs}
use Rattle.qz_verilog.specs.declared.modules.VModule.{VModule}
use Rattle.qz_verilog.specs.Types.{NetTypes}
use Rattle.qz_verilog.specs.Validity.{declared_types, types_of, port_types, register_types, IsWire, AreWires, IsNetOf, AreNetsOf, IsValid}
use Rattle.qz_verilog.specs.Meaning.{Nets, value_at, Settles}
use Rattle.qz_verilog.specs.Runs.{AreOf, nets_of}
use Rattle.qz_verilog.specs.Simulation.{row_of, value_in}
use Rattle.qz_verilog.proofs.KeepingTypes.{typed_nets, keeps_types}
use Rattle.qz_system.specs.declared.parts.Cell.{Cell}
use Rattle.qz_system.specs.declared.parts.Inst.{Inst}
use Rattle.qz_system.specs.declared.parts.SystemParts.{SystemParts}
use Rattle.qz_system.specs.declared.valuation.Valuation.{Valuation}
use Rattle.qz_system.specs.Parts.{AreParts, begin_with, instance_type, cell_type}
use Rattle.qz_system.specs.Valuations.{Fits, holds, hold_inputs, hold_stores}
use Rattle.qz_system.specs.Nexts.{is_known}
use Rattle.qz_system.proofs.FitLemmas.{type_there, value_there}
use Rattle.qz_wires.specs.declared.wires.Wires.{Wires}
use Rattle.qz_wires.specs.declared.rails.Rail.{Rail}
use Rattle.qz_wires.specs.Sound.{AreSound}
use Rattle.qz_wires.specs.WireTable.{rights, types_in}
use Rattle.qz_wires.specs.Rails.{Says, ShowEach}
use Rattle.qz_equations.specs.Registers.{AreOver, cell_types, marks_of, bits_of_stores, registers_at, inputs_at, initial_registers}
use Rattle.qz_equations.specs.Unrolled.{AreInstanceRails}
use Rattle.qz_equations.specs.Ends.{HaveValues}
use Rattle.qz_equations.specs.Does.{output_known, outputs_at}
use Rattle.qz_equations.specs.Modules.{rail_values, IsModuleOf}
use Rattle.qz_equations.proofs.RegisterLemmas.{store_count}
use Rattle.qz_equations.proofs.NextLemmas.{register_kinds}
use Rattle.qz_equations.proofs.OutputLemmas.{output_first}

-- sound wires are valid ones
sound_wires : (inputs : List Port) (regs : List Value) (all : List (Ty × Rhs)) → AreSound inputs regs all → (done rest : List (Ty × Rhs)) → all ≡ done ++ rest
    → AreWires (declared_types inputs regs done) rest
sound_wires inputs regs all sound done [] is = tt
sound_wires inputs regs all sound done (wire ∷ rest) is =
    let here : slice_get all (length done) ≡ Some wire = ap (λ (xs : List (Ty × Rhs)). slice_get xs (length done)) is ∙ get_seam done wire rest in
    let before : take (length done) all ≡ done = ap (take (length done)) is ∙ take_at done (wire ∷ rest) (length done) refl in
    let first : IsWire (declared_types inputs regs done) wire = subst (λ (xs : List (Ty × Rhs)). IsWire (declared_types inputs regs xs) wire) before (sound.each (length done) wire here) in
    let more : done ++ wire ∷ rest ≡ (done ++ wire ∷ []) ++ rest = sym (append_assoc done (wire ∷ []) rest) in
    let others = sound_wires inputs regs all sound (done ++ wire ∷ []) rest (is ∙ more) in
    (first, subst (λ (ts : List Ty). AreWires (record { inputs = port_types inputs; registers = register_types regs; wires = ts }) rest) (map_push (λ (w : Ty × Rhs). w.0) done wire) others)
  where
    get_seam : (xs : List (Ty × Rhs)) (y : Ty × Rhs) (ys : List (Ty × Rhs)) → slice_get (xs ++ y ∷ ys) (length xs) ≡ Some y
    get_seam [] y ys = refl
    get_seam (x ∷ xs) y ys = get_seam xs y ys

ports_typed : (ports : List Port) → list_all (λ (port : Port). is_type port.ty) ports ≡ true → AllByRecursion IsType (port_types ports)
ports_typed [] h = tt
ports_typed (port ∷ ports) h =
    let both = and_parts (is_type port.ty) (list_all (λ (p : Port). is_type p.ty) ports) h in (type_there port.ty both.0, ports_typed ports both.1)

defaults_valid : (cells : List Cell) → list_all (λ (cell : Cell). is_type cell.ty) cells ≡ true → AllByRecursion IsValue (map (λ (cell : Cell). default_of cell.ty) cells)
defaults_valid [] h = tt
defaults_valid (cell ∷ cells) h =
    let both = and_parts (is_type cell.ty) (list_all (λ (c : Cell). is_type c.ty) cells) h in
    (record { typed = type_there cell.ty both.0; fits = pow_pos (width_of cell.ty) }, defaults_valid cells both.1)

copies_valid : (n : ℕ) (values : List Value) → AllByRecursion IsValue values → AllByRecursion IsValue (replicate n (truth_of false) ++ values)
copies_valid zero values h = h
copies_valid (suc n) values h =
    (record { typed = record { at_least_1 = omega arith; at_most_64 = omega arith }; fits = omega arith }, copies_valid n values h)

module _ (parts : SystemParts) (are : AreParts parts) (W : Wires) (over : AreOver parts W) (outs nexts : List Ref) (m : VModule)
    (is : IsModuleOf parts (rights W) outs nexts m) where
  pub same_types : types_of m ≡ types_in W
  same_types = let a : m.inputs ≡ W.inputs = is.inputs ∙ sym over.inputs in let b : m.regs ≡ W.regs = is.regs ∙ sym over.regs in
      λ i. declared_types (a i) (b i) (is.wires_are i)

  pub is_valid : AreNetsOf (types_in W) (port_types parts.outputs) outs → AreNetsOf (types_in W) (register_types (initial_registers parts)) nexts → IsValid m
  is_valid outs_fit nexts_fit = record {
    names = rw (is.inputs, is.outputs) are.is_declared.names;
    inputs = rw is.inputs (ports_typed parts.inputs are.is_declared.input_types);
    registers = rw is.regs (copies_valid (1 + length parts.places + length parts.cells) (map (λ (cell : Cell). default_of cell.ty) parts.cells)
        (defaults_valid parts.cells are.is_declared.types_of_cells));
    wires =
        let a : m.inputs ≡ W.inputs = is.inputs ∙ sym over.inputs in
        let b : m.regs ≡ W.regs = is.regs ∙ sym over.regs in
        rw (a, b, is.wires_are) (sound_wires W.inputs W.regs (rights W) W.sound [] (rights W) refl);
    outs = rw (same_types, is.outputs, is.outs_are) outs_fit;
    nexts = rw (same_types, is.regs, is.nexts_are) nexts_fit;
  }

-- registers and inputs of a valuation that fits are of their types
joined : (ts us : List Ty) (xs ys : List Value) → AreOf ts xs → AreOf us ys → AreOf (ts ++ us) (xs ++ ys)
joined [] us [] ys h k = k
joined [] us (x ∷ xs) ys h k = absurd h
joined (t ∷ ts) us [] ys h k = absurd h
joined (t ∷ ts) us (x ∷ xs) ys h k = (h.0, joined ts us xs ys h.1 k)

truth_fits : (b : Bool) → IsOf Truth (truth_of b)
truth_fits true = record { typed = refl; fits = omega arith }
truth_fits false = record { typed = refl; fits = omega arith }

truths_fit : (bits : List Bool) (n : ℕ) → length bits ≡ n → AreOf (replicate n Truth) (map truth_of bits)
truths_fit [] zero count = tt
truths_fit [] (suc n) count = absurd (omega (arith, count))
truths_fit (b ∷ bits) zero count = absurd (omega (arith, count))
truths_fit (b ∷ bits) (suc n) count = (truth_fits b, truths_fit bits n (omega (arith, count)))

marks_fit : (stores : List (Bool × ℕ)) (n : ℕ) → length stores ≡ n → AreOf (replicate n Truth) (marks_of stores)
marks_fit [] zero count = tt
marks_fit [] (suc n) count = absurd (omega (arith, count))
marks_fit (s ∷ stores) zero count = absurd (omega (arith, count))
marks_fit (s ∷ stores) (suc n) count = (truth_fits s.0, marks_fit stores n (omega (arith, count)))

of_value : (ty : Ty) (bits : ℕ) → holds ty bits ≡ true → IsOf ty (value_of ty bits)
of_value ty bits h = record { typed = refl; fits = (value_there ty bits h).fits }

values_fit : (cells : List Cell) (stores : List (Bool × ℕ)) → hold_stores cells stores ≡ true
    → AreOf (map (λ (cell : Cell). cell.ty) cells) (row_of (map (λ (cell : Cell). cell.ty) cells) (bits_of_stores stores))
values_fit [] stores h = tt
values_fit (cell ∷ cells) [] h = absurd (false≢true h)
values_fit (cell ∷ cells) (s ∷ stores) h =
    let both = and_parts (holds cell.ty s.1) (hold_stores cells stores) h in (of_value cell.ty s.1 both.0, values_fit cells stores both.1)

inputs_fit : (ports : List Port) (inputs : List ℕ) → hold_inputs ports inputs ≡ true → AreOf (port_types ports) (row_of (port_types ports) inputs)
inputs_fit [] inputs h = tt
inputs_fit (port ∷ ports) [] h = absurd (false≢true h)
inputs_fit (port ∷ ports) (bits ∷ inputs) h =
    let both = and_parts (holds port.ty bits) (hold_inputs ports inputs) h in (of_value port.ty bits both.0, inputs_fit ports inputs both.1)

module _ (parts : SystemParts) (v : Valuation) (fits : Fits parts v) where
  registers_fit : AreOf (register_types (initial_registers parts)) (registers_at parts v)
  registers_fit =
      subst (λ (ts : List Ty). AreOf ts (registers_at parts v)) (sym (register_kinds parts)) (
        truth_fits v.started,
        joined (replicate (length parts.places) Truth) (replicate (length parts.cells) Truth ++ cell_types parts) (map truth_of v.places.items)
            (marks_of v.stores.items ++ row_of (cell_types parts) (bits_of_stores v.stores.items)) (truths_fit v.places.items (length parts.places) fits.bits_of_places)
            (joined (replicate (length parts.cells) Truth) (cell_types parts) (marks_of v.stores.items) (row_of (cell_types parts) (bits_of_stores v.stores.items))
            (marks_fit v.stores.items (length parts.cells) (store_count parts v fits)) (values_fit parts.cells v.stores.items fits.values_of_stores)),
      )

  -- settled nets have values of their types
  pub settled_values : (W : Wires) (m : VModule) → types_of m ≡ types_in W → m.inputs ≡ parts.inputs → m.regs ≡ initial_registers parts → IsValid m
      → (wires : List Value) → Settles m.wires (nets_of (registers_at parts v) (inputs_at parts v) wires)
      → HaveValues (types_in W) (nets_of (registers_at parts v) (inputs_at parts v) wires)
  settled_values W m same inputs regs valid wires settles =
      let registers : AreOf (register_types m.regs) (registers_at parts v) = rw regs registers_fit in
      let row : AreOf (port_types m.inputs) (inputs_at parts v) = rw inputs (inputs_fit parts.inputs v.inputs.items fits.values_of_inputs) in
      let nets = nets_of (registers_at parts v) (inputs_at parts v) wires in
      subst (λ (types : NetTypes). HaveValues types nets) same
      (typed_nets (types_of m) nets (record {
        inputs = row;
        registers = registers;
        wires = (keeps_types m valid (registers_at parts v) (inputs_at parts v) registers row).wires wires settles;
      }))

-- outputs
get_taken : {A : Type 0} (n : ℕ) (xs : List A) (k : ℕ) (x : A) → slice_get (take n xs) k ≡ Some x → (k < n) × (slice_get xs k ≡ Some x)
get_taken zero xs k x e = absurd cc
get_taken (suc n) [] k x e = absurd cc
get_taken (suc n) (y ∷ ys) zero x e = (omega arith, e)
get_taken (suc n) (y ∷ ys) (suc k) x e = let rest = get_taken n ys k x e in (omega (arith, rest.0), rest.1)

nets_by_number : (types : NetTypes) (ts : List Ty) (row : List Ref) → length row ≡ length ts
    → ((n : ℕ) (t : Ty) (net : Ref) → slice_get ts n ≡ Some t → slice_get row n ≡ Some net → AreNetsOf types (t ∷ []) (net ∷ [])) → AreNetsOf types ts row
nets_by_number types [] [] count h = tt
nets_by_number types [] (r ∷ row) count h = absurd (omega (arith, count))
nets_by_number types (t ∷ ts) [] count h = absurd (omega (arith, count))
nets_by_number types (t ∷ ts) (r ∷ row) count h =
    ((h 0 t r refl refl).0, nets_by_number types ts row (omega (arith, count)) (λ n s net at is. h (suc n) s net at is))

values_by_number : (nets : Nets) (f : ℕ → Value) (row : List Ref) (from : ℕ) → ((n : ℕ) (net : Ref) → slice_get row n ≡ Some net → value_at nets net ≡ f (from + n))
    → map (value_at nets) row ≡ map f (range_with_len from (length row))
values_by_number nets f [] from h = refl
values_by_number nets f (r ∷ row) from h =
    let here : from + 0 ≡ from = omega arith in
    ap₂ (λ (x : Value) (xs : List Value). x ∷ xs) (h 0 r refl ∙ ap f here)
    (values_by_number nets f row (from + 1) (λ n net at. let more : from + suc n ≡ from + 1 + n = omega arith in h (suc n) net at ∙ ap f more))

-- the cell of an output has its type
output_type : (ports : List Port) (cells : List Cell) → begin_with ports cells ≡ true → (n : ℕ) (t : Ty) → slice_get (port_types ports) n ≡ Some t
    → option_map (λ (cell : Cell). cell.ty) (slice_get cells n) ≡ Some t
output_type [] cells h n t at = absurd (cc)
output_type (port ∷ ports) [] h n t at = absurd (false≢true h)
output_type (port ∷ ports) (cell ∷ cells) h zero t at =
    let same = same-is_same_type port.ty cell.ty (and_parts (is_same_type port.ty cell.ty) (begin_with ports cells) h).0 in
    ap (λ (x : Ty). Some x) (sym same) ∙ at
output_type (port ∷ ports) (cell ∷ cells) h (suc n) t at = output_type ports cells (and_parts (is_same_type port.ty cell.ty) (begin_with ports cells) h).1 n t at

module _ (parts : SystemParts) (are : AreParts parts) (rails : List Rail) (count : length rails ≡ length parts.instances) where
  abbrev first_rails : List Rail
  first_rails = take (length parts.outputs) rails

  pub outputs_within : length parts.outputs ≤ length rails
  outputs_within = by (length parts.outputs) refl
    where
      by : (n : ℕ) → length parts.outputs ≡ n → length parts.outputs ≤ length rails
      by zero e = omega (arith, e)
      by (suc n) e =
          let first = output_first parts are n (omega (arith, e)) in
          let h = slice_get_within parts.instances n first.one first.at in
          omega (arith, e, h, count)

  row_count : length (rail_values first_rails) ≡ length parts.outputs
  row_count = length-map first_rails (λ (rail : Rail). rail.value) ∙ length-take-le (length parts.outputs) rails outputs_within

  -- the rail of an output
  pub record OutputRail (n : ℕ) (net : Ref) : Type 0 where
    pub below : n < length parts.outputs
    pub rail : Rail
    pub at : slice_get rails n ≡ Some rail
    pub value : rail.value ≡ net

  rail_of : (n : ℕ) (net : Ref) → slice_get (rail_values first_rails) n ≡ Some net → OutputRail n net
  rail_of n net at = by (slice_get first_rails n) refl (sym (slice_get-map (λ (rail : Rail). rail.value) first_rails n) ∙ at)
    where
      by : (o : Option Rail) → slice_get first_rails n ≡ o → option_map (λ (rail : Rail). rail.value) o ≡ Some net → OutputRail n net
      by None is h = absurd (cc)
      by (Some rail) is h = let there = get_taken (length parts.outputs) rails n rail is in
          record { below = there.0; rail = rail; at = there.1; value = same_Some rail.value net h }

  pub outputs_typed : (types : NetTypes) → AreInstanceRails types parts rails → AreNetsOf types (port_types parts.outputs) (rail_values first_rails)
  outputs_typed types typed =
      nets_by_number types (port_types parts.outputs) (rail_values first_rails) (row_count ∙ sym (length-map parts.outputs (λ (port : Port). port.ty)))
      (λ n t net at is.
      let r = rail_of n net is in
      let first = output_first parts are n r.below in
      let cell : cell_type parts n ≡ Some t = output_type parts.outputs parts.cells are.is_declared.first_cells n t at in
      let ty : instance_type parts n ≡ Some t =
      ap (λ (o : Option Inst). option_and_then (λ (one : Inst). cell_type parts one.cell) o) first.at ∙ ap (cell_type parts) first.is ∙ cell in
      (subst (λ (x : Ref). IsNetOf types t x) r.value (typed.each n t r.rail ty r.at).value_net, tt))

  known_value_in : (known : Bool) (value : Value) (k : Know) → Says known value k → is_known k ≡ true → value ≡ value_in k
  known_value_in known value Unknown h is = absurd (false≢true is)
  known_value_in known value (Known v) h is = h.1
  known_value_in known value Clash h is = absurd (false≢true is)

  pub outputs_values : (nets : Nets) (knows : List Know) → ShowEach nets rails (listed knows)
      → ((n : ℕ) (one : Inst) → slice_get parts.instances n ≡ Some one → is_known (slice_index_or knows n Unknown) ≡ true)
      → map (value_at nets) (rail_values first_rails) ≡ outputs_at parts knows
  outputs_values nets knows shown known =
      values_by_number nets (λ n. value_in (output_known parts knows n)) (rail_values first_rails) 0
      (λ n net at.
      let r = rail_of n net at in
      let first = output_first parts are n r.below in
      let here : n ≡ 0 + n = omega arith in
      let found : output_known parts knows n ≡ slice_index_or knows n Unknown =
      ap (λ (o : Option ℕ). option_map_or (λ k. slice_index_or knows k Unknown) o Unknown) first.found ∙ ap (λ k. slice_index_or knows k Unknown) (sym here) in
      ap (value_at nets) (sym r.value)
      ∙ known_value_in (is_yes (value_at nets r.rail.known)) (value_at nets r.rail.value) (slice_index_or knows n Unknown) (shown n r.rail r.at) (known n first.one first.at)
      ∙ ap value_in (sym found) ∙ ap (λ k. value_in (output_known parts knows k)) here)
      ∙ ap (λ k. map (λ n. value_in (output_known parts knows n)) (range_with_len 0 k)) row_count
