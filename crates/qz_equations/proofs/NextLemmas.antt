-- The row of what registers take: its types, and its values.
use Rattle.std.proofs.Common.{◌≡◌, ℕ, zero, suc, ◌+◌, Bool, false, List, [], ◌∷◌, ◌++◌, map, length, Option, Some, None, refl, sym, ap, ap₂, ◌∙◌, arith}
use Rattle.std.specs.Prelude.{slice_get, replicate}
use Rattle.std.specs.List.{range_with_len}
use Rattle.std.specs.Option.{option_map_or}
use Rattle.std.proofs.lemmas.List.{append_assoc, map-append, replicate-append-replicate}
use Rattle.qz_values.specs.declared.Ty.{Ty}
use Rattle.qz_values.specs.declared.Ty.TheVariants.{Bool as Truth}
use Rattle.qz_values.specs.declared.Value.{Value}
use Rattle.qz_values.specs.declared.Know.{Know}
use Rattle.qz_values.specs.Values.{value_of, type_of, bits_of, default_of, truth_of, is_yes}
use Rattle.qz_values.specs.Fits.{IsOf}
use Rattle.qz_syntax.specs.declared.places.Later.{Later}
use Rattle.qz_verilog.specs.declared.nets.Ref.{Ref}
use Rattle.qz_verilog.specs.Types.{NetTypes}
use Rattle.qz_verilog.specs.Validity.{AreNetsOf, register_types}
use Rattle.qz_verilog.specs.Meaning.{Nets, value_at}
use Rattle.qz_verilog.specs.Simulation.{row_of}
use Rattle.qz_system.specs.declared.parts.Cell.{Cell}
use Rattle.qz_system.specs.declared.parts.SystemParts.{SystemParts}
use Rattle.qz_system.specs.Valuations.{no_store}
use Rattle.qz_system.specs.Nexts.{as_bits, next_store, source}
use Rattle.qz_equations.specs.declared.tallies.StoreNets.{StoreNets}
use Rattle.qz_equations.specs.Registers.{cell_types, marks_of, bits_of_stores, initial_registers}
use Rattle.qz_equations.specs.Tallies.{IsStoreOf}
use Rattle.qz_equations.specs.Ends.{AreFlags, coming}

pub nets_joined : (types : NetTypes) (ts us : List Ty) (xs ys : List Ref) → AreNetsOf types ts xs → AreNetsOf types us ys → AreNetsOf types (ts ++ us) (xs ++ ys)
nets_joined types [] us [] ys h k = k
nets_joined types [] us (x ∷ xs) ys h k = absurd h
nets_joined types (t ∷ ts) us [] ys h k = absurd h
nets_joined types (t ∷ ts) us (x ∷ xs) ys h k = (h.0, nets_joined types ts us xs ys h.1 k)

pub flags_typed : (types : NetTypes) (flags : List Ref) (n : ℕ) → length flags ≡ n → AreFlags types flags → AreNetsOf types (replicate n Truth) flags
flags_typed types [] zero count are = tt
flags_typed types [] (suc n) count are = absurd (omega (arith, count))
flags_typed types (f ∷ flags) zero count are = absurd (omega (arith, count))
flags_typed types (f ∷ flags) (suc n) count are = (are.each 0 f refl, flags_typed types flags n (omega (arith, count)) (record { each = λ k net at. are.each (suc k) net at }))

-- stores beside cells
pub record ArePlaced (types : NetTypes) (cells : List Cell) (stores : List StoreNets) : Type 0 where
  pub each : (n : ℕ) (cell : Cell) (place : StoreNets) → slice_get cells n ≡ Some cell → slice_get stores n ≡ Some place → IsStoreOf types cell.ty place

pub marks_typed : (types : NetTypes) (cells : List Cell) (stores : List StoreNets) → length stores ≡ length cells → ArePlaced types cells stores
    → AreNetsOf types (replicate (length cells) Truth) (map (λ (s : StoreNets). s.mark) stores)
marks_typed types [] [] count are = tt
marks_typed types [] (s ∷ stores) count are = absurd (omega (arith, count))
marks_typed types (cell ∷ cells) [] count are = absurd (omega (arith, count))
marks_typed types (cell ∷ cells) (s ∷ stores) count are =
    ((are.each 0 cell s refl refl).mark_net, marks_typed types cells stores (omega (arith, count)) (record { each = λ n c p at is. are.each (suc n) c p at is }))

pub values_typed : (types : NetTypes) (cells : List Cell) (stores : List StoreNets) → length stores ≡ length cells → ArePlaced types cells stores
    → AreNetsOf types (map (λ (cell : Cell). cell.ty) cells) (map (λ (s : StoreNets). s.value) stores)
values_typed types [] [] count are = tt
values_typed types [] (s ∷ stores) count are = absurd (omega (arith, count))
values_typed types (cell ∷ cells) [] count are = absurd (omega (arith, count))
values_typed types (cell ∷ cells) (s ∷ stores) count are =
    ((are.each 0 cell s refl refl).value_net, values_typed types cells stores (omega (arith, count)) (record { each = λ n c p at is. are.each (suc n) c p at is }))

copies_typed : (n : ℕ) → map type_of (replicate n (truth_of false)) ≡ replicate n Truth
copies_typed zero = refl
copies_typed (suc n) = ap (λ (ts : List Ty). Truth ∷ ts) (copies_typed n)

defaults_typed : (cells : List Cell) → map type_of (map (λ (cell : Cell). default_of cell.ty) cells) ≡ map (λ (cell : Cell). cell.ty) cells
defaults_typed [] = refl
defaults_typed (cell ∷ cells) = ap (λ (ts : List Ty). cell.ty ∷ ts) (defaults_typed cells)

pub register_kinds : (parts : SystemParts) → register_types (initial_registers parts)
    ≡ Truth ∷ (replicate (length parts.places) Truth ++ (replicate (length parts.cells) Truth ++ cell_types parts))
register_kinds parts =
    let P = length parts.places in
    let C = length parts.cells in
    let more : 1 + P + C ≡ suc (P + C) = omega arith in
    map-append type_of (replicate (1 + P + C) (truth_of false)) (map (λ (cell : Cell). default_of cell.ty) parts.cells)
    ∙ ap₂ (λ (xs ys : List Ty). xs ++ ys) (copies_typed (1 + P + C) ∙ ap (λ n. replicate n Truth) more) (defaults_typed parts.cells)
    ∙ ap (λ (ts : List Ty). Truth ∷ (ts ++ cell_types parts)) (sym (replicate-append-replicate P C Truth))
    ∙ ap (λ (ts : List Ty). Truth ∷ ts) (append_assoc (replicate P Truth) (replicate C Truth) (cell_types parts))

-- a bool is `true` or `false`
pub truth_value : (v : Value) → IsOf Truth v → v ≡ truth_of (is_yes v)
truth_value v is = by v.bits refl
  where
    by : (n : ℕ) → v.bits ≡ n → v ≡ truth_of (is_yes v)
    by zero e = let same : v ≡ value_of Truth 0 = λ i. record { ty = is.typed i; bits = e i } in same ∙ ap (λ x. truth_of (is_yes x)) (sym same)
    by (suc zero) e = let same : v ≡ value_of Truth 1 = λ i. record { ty = is.typed i; bits = e i } in same ∙ ap (λ x. truth_of (is_yes x)) (sym same)
    by (suc (suc n)) e = absurd (omega (arith, is.fits, e))

pub typed_value : (ty : Ty) (v : Value) → IsOf ty v → value_of ty (bits_of v) ≡ v
typed_value ty v is = λ i. record { ty = sym is.typed i; bits = v.bits }

-- values of flags, by their numbers
pub flag_values : (nets : Nets) (bits : ℕ → Bool) (flags : List Ref) (from : ℕ)
    → ((n : ℕ) (net : Ref) → slice_get flags n ≡ Some net → value_at nets net ≡ truth_of (bits (from + n)))
    → map (value_at nets) flags ≡ map truth_of (map bits (range_with_len from (length flags)))
flag_values nets bits [] from h = refl
flag_values nets bits (f ∷ flags) from h =
    let here : from + 0 ≡ from = omega arith in
    ap₂ (λ (x : Value) (xs : List Value). x ∷ xs) (h 0 f refl ∙ ap (λ n. truth_of (bits n)) here)
    (flag_values nets bits flags (from + 1) (λ n net at. let more : from + suc n ≡ from + 1 + n = omega arith in h (suc n) net at ∙ ap (λ m. truth_of (bits m)) more))

pub mark_values : (nets : Nets) (stores : List StoreNets) (ws : List (Bool × ℕ)) → length stores ≡ length ws
    → ((n : ℕ) (place : StoreNets) (s : Bool × ℕ) → slice_get stores n ≡ Some place → slice_get ws n ≡ Some s → value_at nets place.mark ≡ truth_of s.0)
    → map (value_at nets) (map (λ (s : StoreNets). s.mark) stores) ≡ marks_of ws
mark_values nets [] [] count h = refl
mark_values nets [] (w ∷ ws) count h = absurd (omega (arith, count))
mark_values nets (s ∷ stores) [] count h = absurd (omega (arith, count))
mark_values nets (s ∷ stores) (w ∷ ws) count h =
    ap₂ (λ (x : Value) (xs : List Value). x ∷ xs) (h 0 s w refl refl) (mark_values nets stores ws (omega (arith, count)) (λ n p x at is. h (suc n) p x at is))

pub store_values : (nets : Nets) (cells : List Cell) (stores : List StoreNets) (ws : List (Bool × ℕ)) → length stores ≡ length cells → length ws ≡ length cells
    → ((n : ℕ) (cell : Cell) (place : StoreNets) (s : Bool × ℕ) → slice_get cells n ≡ Some cell → slice_get stores n ≡ Some place → slice_get ws n ≡ Some s
    → value_at nets place.value ≡ value_of cell.ty s.1)
    → map (value_at nets) (map (λ (s : StoreNets). s.value) stores) ≡ row_of (map (λ (cell : Cell). cell.ty) cells) (bits_of_stores ws)
store_values nets [] [] ws count many h = refl
store_values nets [] (s ∷ stores) ws count many h = absurd (omega (arith, count))
store_values nets (cell ∷ cells) [] ws count many h = absurd (omega (arith, count))
store_values nets (cell ∷ cells) (s ∷ stores) [] count many h = absurd (omega (arith, many))
store_values nets (cell ∷ cells) (s ∷ stores) (w ∷ ws) count many h =
    ap₂ (λ (x : Value) (xs : List Value). x ∷ xs) (h 0 cell s w refl refl refl)
    (store_values nets cells stores ws (omega (arith, count)) (omega (arith, many)) (λ n c p x at is has. h (suc n) c p x at is has))

-- the next store is what comes, in bits
pub bits_coming : (parts : SystemParts) (know : ℕ → Know) (knows : List Know) (laters : List Later) (n : ℕ) (cell : Cell)
    → next_store parts know knows laters n cell ≡ as_bits (coming knows laters cell (source parts know n))
bits_coming parts know knows laters n cell = by (source parts know n)
  where
    by : (o : Option ℕ) → option_map_or (λ i. as_bits (coming knows laters cell (Some i))) o no_store ≡ as_bits (coming knows laters cell o)
    by None = refl
    by (Some i) = refl

-- a row in its four parts
pub row_parts : (nets : Nets) (started : Ref) (places : List Ref) (marks values : List Ref)
    → map (value_at nets) (started ∷ (places ++ (marks ++ values)))
    ≡ value_at nets started ∷ (map (value_at nets) places ++ (map (value_at nets) marks ++ map (value_at nets) values))
row_parts nets started places marks values =
    ap (λ (xs : List Value). value_at nets started ∷ xs)
    (map-append (value_at nets) places (marks ++ values) ∙ ap (λ (xs : List Value). map (value_at nets) places ++ xs) (map-append (value_at nets) marks values))
