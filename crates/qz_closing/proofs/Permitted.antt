-- A system with a program's cells, places and shape has its permitted valuations.
use Rattle.std.proofs.Common.{◌≡◌, ℕ, zero, suc, ◌+◌, ◌<◌, ◌≤◌, ◌^◌, Bool, true, false, not, ◌&&◌, ◌||◌, List, [], ◌∷◌, map, length, Option, Some, None, refl, sym, ap, ap₂, subst, ◌∙◌, ◌⊎◌, inl, inr, arith}
use Rattle.std.specs.Prelude.{◌==◌, nat_lt, if◌then◌else◌, is_some, slice_get}
use Rattle.std.specs.Option.{option_map_or}
use Rattle.std.specs.List.{list_all, AllByRecursion, range_with_len}
use lib.ListN.{length-map, length-append}
use Rattle.std.proofs.lemmas.Bool.{false≢true, and_parts, and_from, eqb-true, lt-ltb, cases_lt}
use Rattle.std.proofs.lemmas.Bool.Decides.{nat_tests}
use Rattle.std.proofs.lemmas.Nat.{pow_pos}
use Rattle.std.proofs.lemmas.Option.{get_or_from_slice_get, slice_get_within}
use Rattle.std.proofs.lemmas.List.{get_or_past}
use Rattle.std.proofs.lemmas.List.FromFn.{length-range_with_len, length-map-range_with_len}
use Rattle.qz_values.specs.declared.Ty.{Ty}
use Rattle.qz_values.specs.declared.Ty.TheVariants as ty
use Rattle.qz_values.specs.declared.Value.{Value}
use Rattle.qz_values.specs.Types.{width_of, is_type}
use Rattle.qz_values.specs.Values.{value_of, bits_of}
use Rattle.qz_values.proofs.Typed.{is_same_type-self}
use Rattle.qz_syntax.specs.declared.declarations.Class.{Class}
use Rattle.qz_syntax.specs.declared.declarations.Class.TheVariants.{Event, Mem}
use Rattle.qz_syntax.specs.declared.declarations.Dir.TheVariants as dir
use Rattle.qz_syntax.specs.declared.declarations.Formal.{Formal}
use Rattle.qz_syntax.specs.declared.declarations.Port.{Port}
use Rattle.qz_syntax.specs.declared.expressions.Var.{Var}
use Rattle.qz_syntax.specs.declared.expressions.Var.TheVariants as var
use Rattle.qz_syntax.specs.declared.modules.Whole.{Whole}
use Rattle.qz_syntax.specs.declared.places.Store.{Store}
use Rattle.qz_syntax.specs.declared.places.Residual.{Residual}
use Rattle.qz_syntax.specs.declared.places.Place.{Place}
use Rattle.qz_syntax.specs.declared.places.Place.TheVariants as place
use Rattle.qz_syntax.specs.declared.statements.Stmt.TheFolds.{fold-Stmt}
use Rattle.qz_syntax.specs.Numbers.{contains, places_of, calls_of}
use Rattle.qz_syntax.specs.WellFormed.{have_types, IsWellFormed}
use Rattle.qz_meaning.specs.Layouts.{PlaceBits}
use Rattle.qz_meaning.specs.LayoutLaws.{AreDifferent, HasItsBits}
use Rattle.qz_meaning.specs.Programs.{Program, is_same_direction, numbers_in, formals_of, type_in, class_in, program_of}
use Rattle.qz_meaning.specs.Configurations.{Configuration, is_of_type, are_inputs, IsRow, layout_of, new_store, initial}
use Rattle.qz_meaning.specs.Valuations.{Valuation as OfProgram, resting_places, resting_calls, is_kept_by, is_store_of as is_store, are_output_stores, are_local_stores, IsPermittedPlace, IsPermitted, is_started, rests_at as rests_there, stores_at_place, store_among, stores_in_order}
use Rattle.qz_meaning.proofs.Lists.{none≢some, some_same}
use Rattle.qz_meaning.proofs.PlaceBits.{places_have_bits}
use Rattle.qz_system.specs.declared.parts.Cell.{Cell}
use Rattle.qz_system.specs.declared.parts.SystemParts.{SystemParts}
use Rattle.qz_system.specs.declared.valuation.Valuation.{Valuation}
use Rattle.qz_system.specs.declared.resting.Resting.{Resting}
use Rattle.qz_system.specs.declared.resting.Living.{Living}
use Rattle.qz_system.specs.Restings.{node_resting, resting_of, node_living, living_of}
use Rattle.qz_system.specs.Valuations.{holds, hold_inputs, hold_stores, Fits, rests_at, no_store, store_of, lives_at, exists_at, is_new, is_store_of, have_stores, is_place, is_initial, is_permitted}
use Rattle.qz_system.specs.Rounds.{stored}
use Rattle.qz_system.specs.Nexts.{as_bits}
use Rattle.qz_closing.specs.ProgramParts.{port_of, ports_in, cell_of, cells_of}
use Rattle.qz_closing.specs.Encoding.{stored_bits, Encodes}
use Rattle.qz_closing.specs.Closes.{IsPermittedAt, IsEncoded}
use Rattle.qz_closing.specs.Shaped.{HasShape, ShapesPermitAlike}
use Rattle.qz_closing.proofs.Getting.{get_left, get_right, get_mapped, get_range, got_among, range_among, range_different, lists_same, all_at, at_all, got_within}
use Rattle.qz_closing.proofs.ProgramCells.{ports_long, cells_long, cell_output, cell_local, IsOutputCell, IsLocalCell, cell_cases, variable_typed}
use Rattle.qz_closing.proofs.ShapeFolds.{through, fold_through}
use Rattle.qz_closing.proofs.ShapeRests.{Rested, statements_shaped, or_cases}
use Rattle.qz_closing.proofs.PlacesBack.{Backs, places_back}
use Rattle.qz_closing.proofs.ShapeLives.{has, statements_live}

-- inputs, one after the other
abbrev Typed : (ℕ → Ty) → ℕ → List Formal → Type 0
Typed T k [] = Unit {0}
Typed T k (formal ∷ formals) = (T k ≡ formal.ty) × Typed T (k + 1) formals

typed_from : (p : ℕ → Option Formal) (T : ℕ → Ty) (formals : List Formal) (k : ℕ)
    → ((j : ℕ) (formal : Formal) → slice_get formals j ≡ Some formal → T (k + j) ≡ formal.ty) → Typed T k formals
typed_from p T [] k h = tt
typed_from p T (formal ∷ formals) k h = (
  subst (λ i. T i ≡ formal.ty) (let e : k + 0 ≡ k = omega arith in e) (h 0 formal refl),
  typed_from p T formals (k + 1) (λ j one e. subst (λ i. T i ≡ one.ty) (let same : k + suc j ≡ (k + 1) + j = omega arith in same) (h (suc j) one e)),
)

module _ (p : Program) where
  abbrev T : ℕ → Ty
  T n = p.type_of (var.Formal n)

  abbrev are_in : List ℕ → List Value → Bool
  are_in = are_inputs p

  inputs_hold : (formals : List Formal) (k : ℕ) (row : List Value) → Typed T k formals → have_types formals ≡ true → are_in (numbers_in dir.In k formals) row ≡ true
      → hold_inputs (ports_in dir.In formals) (map bits_of row) ≡ true
  inputs_hold [] k [] typed right h = refl
  inputs_hold [] k (v ∷ row) typed right h = absurd (false≢true h)
  inputs_hold (formal ∷ formals) k row typed right h =
      by (is_same_direction formal.dir dir.In) row (and_parts _ _ right).0 typed.0 h (λ others g. inputs_hold formals (k + 1) others typed.1 (and_parts _ _ right).1 g) where
        by : (t : Bool) (row : List Value) → is_type formal.ty ≡ true → T k ≡ formal.ty
            → are_in (if t then k ∷ numbers_in dir.In (k + 1) formals else numbers_in dir.In (k + 1) formals) row ≡ true
            → ((others : List Value) → are_in (numbers_in dir.In (k + 1) formals) others ≡ true → hold_inputs (ports_in dir.In formals) (map bits_of others) ≡ true)
            → hold_inputs (if t then port_of formal ∷ ports_in dir.In formals else ports_in dir.In formals) (map bits_of row) ≡ true
        by true [] right is h later = absurd (false≢true h)
        by true (v ∷ row) right is h later =
            let two = and_parts _ _ h in
            and_from _ _ (and_from _ _ right (subst (λ ty. nat_lt (bits_of v) (2 ^ width_of ty) ≡ true) is (and_parts _ _ two.0).1)) (later row two.1)
        by false row right is h later = later row h

  -- the values of ports with these bits
  abbrev row_of : List Port → List ℕ → List Value
  row_of [] bits = []
  row_of (port ∷ ports) [] = []
  row_of (port ∷ ports) (b ∷ bits) = value_of port.ty b ∷ row_of ports bits

  held_inputs : (formals : List Formal) (k : ℕ) (bits : List ℕ) → Typed T k formals → hold_inputs (ports_in dir.In formals) bits ≡ true
      → are_in (numbers_in dir.In k formals) (row_of (ports_in dir.In formals) bits) ≡ true
  held_inputs [] k bits typed h = refl
  held_inputs (formal ∷ formals) k bits typed h =
      by (is_same_direction formal.dir dir.In) bits typed.0 h (λ others g. held_inputs formals (k + 1) others typed.1 g) where
        by : (t : Bool) (bits : List ℕ) → T k ≡ formal.ty
            → hold_inputs (if t then port_of formal ∷ ports_in dir.In formals else ports_in dir.In formals) bits ≡ true
            → ((others : List ℕ) → hold_inputs (ports_in dir.In formals) others ≡ true → are_in (numbers_in dir.In (k + 1) formals) (row_of (ports_in dir.In formals) others) ≡ true)
            → are_in (if t then k ∷ numbers_in dir.In (k + 1) formals else numbers_in dir.In (k + 1) formals)
            (row_of (if t then port_of formal ∷ ports_in dir.In formals else ports_in dir.In formals) bits) ≡ true
        by true [] is h later = absurd (false≢true h)
        by true (b ∷ bits) is h later =
            let two = and_parts _ _ h in
            and_from _ _ (subst (λ ty. is_of_type ty (value_of formal.ty b) ≡ true) (sym is)
            (and_from _ _ (is_same_type-self formal.ty) (and_parts _ _ two.0).1)) (later bits two.1)
        by false bits is h later = later bits h

  bits_back : (ports : List Port) (bits : List ℕ) → hold_inputs ports bits ≡ true → bits ≡ map bits_of (row_of ports bits)
  bits_back [] [] h = refl
  bits_back [] (b ∷ bits) h = absurd (false≢true h)
  bits_back (port ∷ ports) [] h = absurd (false≢true h)
  bits_back (port ∷ ports) (b ∷ bits) h = ap (λ (l : List ℕ). b ∷ l) (bits_back ports bits (and_parts _ _ h).1)

-- stores that hold values of their cells' types, place by place
held_at : (cells : List Cell) (stores : List (Bool × ℕ)) → hold_stores cells stores ≡ true → (k : ℕ) (cell : Cell) (store : Bool × ℕ)
    → slice_get cells k ≡ Some cell → slice_get stores k ≡ Some store → holds cell.ty store.1 ≡ true
held_at [] stores h k cell store e f = absurd (none≢some _ e)
held_at (one ∷ cells) [] h k cell store e f = absurd (false≢true h)
held_at (one ∷ cells) (other ∷ stores) h zero cell store e f =
    ap₂ (λ (c : Cell) (s : Bool × ℕ). holds c.ty s.1) (sym (some_same _ _ e)) (sym (some_same _ _ f)) ∙ (and_parts _ _ h).0
held_at (one ∷ cells) (other ∷ stores) h (suc k) cell store e f = held_at cells stores (and_parts _ _ h).1 k cell store e f

pub held_long : (cells : List Cell) (stores : List (Bool × ℕ)) → hold_stores cells stores ≡ true → length stores ≡ length cells
held_long [] [] h = refl
held_long [] (s ∷ stores) h = absurd (false≢true h)
held_long (c ∷ cells) [] h = absurd (false≢true h)
held_long (c ∷ cells) (s ∷ stores) h = ap suc (held_long cells stores (and_parts _ _ h).1)

all_held : (cells : List Cell) (stores : List (Bool × ℕ)) → length stores ≡ length cells
    → ((k : ℕ) (cell : Cell) (store : Bool × ℕ) → slice_get cells k ≡ Some cell → slice_get stores k ≡ Some store → holds cell.ty store.1 ≡ true)
    → hold_stores cells stores ≡ true
all_held [] [] long h = refl
all_held [] (s ∷ stores) long h = absurd (omega (arith, long))
all_held (c ∷ cells) [] long h = absurd (omega (arith, long))
all_held (c ∷ cells) (s ∷ stores) long h = and_from _ _ (h 0 c s refl refl) (all_held cells stores (omega (arith, long)) (λ k i j e f. h (suc k) i j e f))

-- what a store may be, place by place
module _ (parts : SystemParts) (v : Valuation) where
  abbrev good : ℕ → Cell → Bool
  good n cell = if exists_at parts v n then is_store_of cell (store_of v n) else is_new (store_of v n)

  all_have : (n : ℕ) (cells : List Cell) → ((k : ℕ) (cell : Cell) → slice_get cells k ≡ Some cell → good (n + k) cell ≡ true) → have_stores parts v n cells ≡ true
  all_have n [] h = refl
  all_have n (cell ∷ cells) h =
      and_from _ _ (subst (λ i. good i cell ≡ true) (let e : n + 0 ≡ n = omega arith in e) (h 0 cell refl))
      (all_have (n + 1) cells (λ k one e. subst (λ i. good i one ≡ true) (let same : n + suc k ≡ (n + 1) + k = omega arith in same) (h (suc k) one e)))

  had_at : (n : ℕ) (cells : List Cell) → have_stores parts v n cells ≡ true → (k : ℕ) (cell : Cell) → slice_get cells k ≡ Some cell → good (n + k) cell ≡ true
  had_at n [] h k cell e = absurd (none≢some _ e)
  had_at n (one ∷ cells) h zero cell e =
      subst (λ i. good i cell ≡ true) (let same : n ≡ n + 0 = omega arith in same) (subst (λ (i : Cell). good n i ≡ true) (some_same _ _ e) (and_parts _ _ h).0)
  had_at n (one ∷ cells) h (suc k) cell e =
      subst (λ i. good i cell ≡ true) (let same : (n + 1) + k ≡ n + suc k = omega arith in same) (had_at (n + 1) cells (and_parts _ _ h).1 k cell e)

kept_same : (class : Class) (u v : Value) → bits_of u ≡ bits_of v → is_kept_by class u ≡ is_kept_by class v
kept_same Event u v e = ap (λ n. n == 0) e
kept_same Mem u v e = refl

new_is : (store : Bool × ℕ) → is_new store ≡ true → store ≡ no_store
new_is (true, n) h = absurd (false≢true h)
new_is (false, n) h = ap (λ i. (false, i)) (eqb-true n 0 h)

-- the outputs' stores and the locals'
module _ (p : Program) where
  pub output_at : (outputs : List ℕ) (stores : List Store) → are_output_stores p outputs stores ≡ true → (k n : ℕ) → slice_get outputs k ≡ Some n
      → (store : Store) × (slice_get stores k ≡ Some store) × (is_store p (var.Formal n) store ≡ true)
  output_at [] stores h k n e = absurd (none≢some _ e)
  output_at (x ∷ outputs) [] h k n e = absurd (false≢true h)
  output_at (x ∷ outputs) (s ∷ stores) h zero n e = (s, refl, subst (λ i. is_store p (var.Formal i) s ≡ true) (some_same _ _ e) (and_parts _ _ h).0)
  output_at (x ∷ outputs) (s ∷ stores) h (suc k) n e = output_at outputs stores (and_parts _ _ h).1 k n e

  outputs_long : (outputs : List ℕ) (stores : List Store) → are_output_stores p outputs stores ≡ true → length stores ≡ length outputs
  outputs_long [] [] h = refl
  outputs_long [] (s ∷ stores) h = absurd (false≢true h)
  outputs_long (x ∷ outputs) [] h = absurd (false≢true h)
  outputs_long (x ∷ outputs) (s ∷ stores) h = ap suc (outputs_long outputs stores (and_parts _ _ h).1)

  all_outputs : (outputs : List ℕ) (stores : List Store) → length stores ≡ length outputs
      → ((k n : ℕ) (store : Store) → slice_get outputs k ≡ Some n → slice_get stores k ≡ Some store → is_store p (var.Formal n) store ≡ true)
      → are_output_stores p outputs stores ≡ true
  all_outputs [] [] long h = refl
  all_outputs [] (s ∷ stores) long h = absurd (omega (arith, long))
  all_outputs (x ∷ outputs) [] long h = absurd (omega (arith, long))
  all_outputs (x ∷ outputs) (s ∷ stores) long h =
      and_from _ _ (h 0 x s refl refl) (all_outputs outputs stores (omega (arith, long)) (λ k n one e f. h (suc k) n one e f))

  local_at : (stores : List (ℕ × Store)) → are_local_stores p stores ≡ true → (n : ℕ) (store : Store) → store_among stores n ≡ Some store
      → is_store p (var.Local n) store ≡ true
  local_at [] h n store e = absurd (none≢some _ e)
  local_at (one ∷ stores) h n store e = by (one.0 == n) refl e (λ f. local_at stores (and_parts _ _ h).1 n store f) where
    by : (t : Bool) → (one.0 == n) ≡ t → (if t then Some one.1 else store_among stores n) ≡ Some store
        → (store_among stores n ≡ Some store → is_store p (var.Local n) store ≡ true) → is_store p (var.Local n) store ≡ true
    by true is f later =
        ap₂ (λ (i : ℕ) (s : Store). is_store p (var.Local i) s) (sym (eqb-true one.0 n is)) (sym (some_same _ _ f)) ∙ (and_parts _ _ h).0
    by false is f later = later f

  all_locals : (σ : ℕ → Store) → ((n : ℕ) → is_store p (var.Local n) (σ n) ≡ true) → (stores : List (ℕ × Store))
      → AllByRecursion (λ (one : ℕ × Store). one.1 ≡ σ one.0) stores → are_local_stores p stores ≡ true
  all_locals σ good [] h = refl
  all_locals σ good (one ∷ stores) h =
      and_from _ _ (ap (is_store p (var.Local one.0)) h.0 ∙ good one.0) (all_locals σ good stores h.1)

-- a chosen store is found where any is
chosen_found : (σ : ℕ → Store) (stores : List (ℕ × Store)) → AllByRecursion (λ (one : ℕ × Store). one.1 ≡ σ one.0) stores → (n : ℕ) → has stores n ≡ true
    → store_among stores n ≡ Some (σ n)
chosen_found σ [] all n h = absurd (false≢true h)
chosen_found σ (one ∷ stores) all n h = by (one.0 == n) refl h (λ k. chosen_found σ stores all.1 n k) where
  by : (t : Bool) → (one.0 == n) ≡ t → is_some (if t then Some one.1 else store_among stores n) ≡ true
      → (has stores n ≡ true → store_among stores n ≡ Some (σ n)) → (if t then Some one.1 else store_among stores n) ≡ Some (σ n)
  by true e k later = ap Some (all.0 ∙ ap σ (eqb-true one.0 n e))
  by false e k later = later k

not_found : (stores : List (ℕ × Store)) (n : ℕ) → has stores n ≡ false → store_among stores n ≡ None
not_found stores n h = by (store_among stores n) h where
  by : (o : Option Store) → is_some o ≡ false → o ≡ None
  by None h = refl
  by (Some s) h = absurd (false≢true (sym h))

zero_plus : (k : ℕ) → 0 + k ≡ k
zero_plus k = omega arith

module _ (w : Whole) (parts : SystemParts) (well : IsWellFormed [] w.module) (texts : length w.names.places ≡ length w.module.labels) (h : HasShape w parts) where
  abbrev p : Program
  p = program_of w.module

  abbrev O : List ℕ
  O = formals_of dir.Out w.module

  abbrev N : ℕ
  N = length w.module.decls

  abbrev bits_at : Valuation → PlaceBits
  bits_at v = record { place = rests_at v; call = λ n. false }

  places_are : p.places ≡ range_with_len 0 (length w.module.labels)
  places_are = well.numbered.places

  place_within : (n : ℕ) → contains (places_of w.module.body) n ≡ true → n < length w.module.labels
  place_within n own =
      let range = range_among 0 (length w.module.labels) n (ap (λ (l : List ℕ). contains l n) (sym places_are) ∙ own) in
      let most = range.1 in
      omega (arith, most)

  bit_at : (v : Valuation) (f : ℕ → Bool) → v.places.items ≡ map f p.places → (n : ℕ) → contains (places_of w.module.body) n ≡ true → rests_at v n ≡ f n
  bit_at v f e n own =
      get_or_from_slice_get v.places.items n (f n) false
      (ap (λ (l : List Bool). slice_get l n) (e ∙ ap (map f) places_are)
      ∙ get_mapped f (range_with_len 0 (length w.module.labels)) n n (get_range 0 (length w.module.labels) n (place_within n own) ∙ ap Some (zero_plus n)))

  pub outputs_long_too : length parts.outputs ≡ length O
  outputs_long_too = ap length h.named.outputs ∙ ports_long dir.Out 0 w.module.formals

  resting_is : (v : Valuation) → resting_of (rests_at v) parts.shape ≡ fold-Stmt Resting (through (length O) (node_resting (rests_at v))) w.module.body
  resting_is v = ap (resting_of (rests_at v)) h.shape ∙ fold_through (length O) (node_resting (rests_at v)) w.module.body

  living_is : (v : Valuation) (cell : ℕ) → living_of (rests_at v) cell parts.shape ≡ fold-Stmt Living (through (length O) (node_living (rests_at v) cell)) w.module.body
  living_is v cell = ap (living_of (rests_at v) cell) h.shape ∙ fold_through (length O) (node_living (rests_at v) cell) w.module.body

  formal_types : Typed (λ n. p.type_of (var.Formal n)) 0 w.module.formals
  formal_types = typed_from (slice_get w.module.formals) (λ n. p.type_of (var.Formal n)) w.module.formals 0 (λ j formal e.
      ap (λ i. type_in w.module (var.Formal i)) (zero_plus j) ∙ ap (λ (o : Option Formal). option_map_or (λ (one : Formal). one.ty) o ty.Bool) e)

  small_zero : (t : Ty) → nat_lt 0 (2 ^ width_of t) ≡ true
  small_zero t = lt-ltb 0 (2 ^ width_of t) (pow_pos (width_of t))

  kept_zero : (class : Class) (t : Ty) → is_kept_by class (value_of t 0) ≡ true
  kept_zero Event t = refl
  kept_zero Mem t = refl

  new_good : (x : Var) → is_store p x (new_store p x) ≡ true
  new_good x = and_from _ _ (and_from _ _ (is_same_type-self (p.type_of x)) (small_zero (p.type_of x))) (kept_zero (p.class_of x) (p.type_of x))

  -- a store of the program is one of the system
  same_store : (x : Var) (s : Store) → is_store p x s ≡ true → is_store_of (cell_of w x) (as_bits s) ≡ true
  same_store x s good = by s.pending (and_parts _ _ good).1 where
    by : (t : Bool) → (if t then p.is_delayed x else is_kept_by (p.class_of x) s.value) ≡ true
        → (if t then p.is_delayed x else is_kept_by (p.class_of x) (value_of (p.type_of x) (bits_of s.value))) ≡ true
    by true k = k
    by false k = kept_same (p.class_of x) (value_of (p.type_of x) (bits_of s.value)) s.value refl ∙ k

  -- and of its type
  store_held : (x : Var) (s : Store) → is_store p x s ≡ true → holds (type_in w.module x) (bits_of s.value) ≡ true
  store_held x s good = and_from _ _ (variable_typed w well x) (and_parts _ _ (and_parts _ _ good).0).1

  -- a configuration with stores that its variables can have, as a valuation has it
  pub record Kept (c : Configuration) (v : Valuation) : Type 0 where
    pub outputs : are_output_stores p O c.outputs ≡ true
    pub locals : (n : ℕ) (s : Store) → store_among (stores_at_place p c.place) n ≡ Some s → is_store p (var.Local n) s ≡ true
    pub items : v.stores.items ≡ map stored_bits (stores_in_order p c)

  module _ (c : Configuration) (v : Valuation) (k : Kept c v) where
    abbrev S : List (ℕ × Store)
    S = stores_at_place p c.place

    abbrev first : List (Option Store)
    first = map (λ (s : Store). Some s) c.outputs

    first_long : length first ≡ length O
    first_long = length-map c.outputs (λ (s : Store). Some s) ∙ outputs_long p O c.outputs k.outputs

    pub item_output : (j : ℕ) (s : Store) → slice_get c.outputs j ≡ Some s → slice_get v.stores.items j ≡ Some (as_bits s)
    item_output j s e =
        ap (λ (l : List (Bool × ℕ)). slice_get l j) k.items
        ∙ get_mapped stored_bits (stores_in_order p c) j (Some s) (get_left first _ j (Some s) (get_mapped (λ (i : Store). Some i) c.outputs j s e))

    pub item_local : (n : ℕ) → n < N → slice_get v.stores.items (length O + n) ≡ Some (stored_bits (store_among S n))
    item_local n small =
        ap (λ (l : List (Bool × ℕ)). slice_get l (length O + n)) k.items
        ∙ get_mapped stored_bits (stores_in_order p c) (length O + n) (store_among S n)
        (subst (λ i. slice_get (stores_in_order p c) (i + n) ≡ Some (store_among S n)) first_long
        (get_right first (map (store_among S) (range_with_len 0 N)) n
        ∙ get_mapped (store_among S) (range_with_len 0 N) n n (get_range 0 N n small ∙ ap Some (zero_plus n))))

    items_long : length v.stores.items ≡ length (cells_of w)
    items_long =
        ap length k.items ∙ length-map (stores_in_order p c) stored_bits ∙ length-append first (map (store_among S) (range_with_len 0 N))
        ∙ ap₂ (λ i j. i + j) first_long (length-map-range_with_len (store_among S) 0 N) ∙ sym (cells_long w)

    local_held : (n : ℕ) (o : Option Store) → store_among S n ≡ o → holds (type_in w.module (var.Local n)) (stored_bits o).1 ≡ true
    local_held n None e = and_from _ _ (variable_typed w well (var.Local n)) (small_zero (type_in w.module (var.Local n)))
    local_held n (Some s) e = store_held (var.Local n) s (k.locals n s e)

    cell_held : (j : ℕ) (cell : Cell) (store : Bool × ℕ) → slice_get v.stores.items j ≡ Some store → IsOutputCell w j cell ⊎ IsLocalCell w j cell → holds cell.ty store.1 ≡ true
    cell_held j cell store e (inl o) =
        let found = output_at p O c.outputs k.outputs j o.number o.found in
        let same : store ≡ as_bits found.0 = some_same _ _ (sym e ∙ item_output j found.0 found.1) in
        ap₂ (λ (one : Cell) (s : Bool × ℕ). holds one.ty s.1) o.is same ∙ store_held (var.Formal o.number) found.0 found.2
    cell_held j cell store e (inr l) =
        let same : store ≡ stored_bits (store_among S l.number) =
        some_same _ _ (sym e ∙ ap (λ i. slice_get v.stores.items i) l.at ∙ item_local l.number l.small) in
        ap₂ (λ (one : Cell) (s : Bool × ℕ). holds one.ty s.1) l.is same ∙ local_held l.number (store_among S l.number) refl

    stores_hold : hold_stores parts.cells v.stores.items ≡ true
    stores_hold = ap (λ (l : List Cell). hold_stores l v.stores.items) h.named.cells
        ∙ all_held (cells_of w) v.stores.items items_long (λ j cell store e f. cell_held j cell store f (cell_cases w j cell e))

    -- the stores are those that the cells can have, where a local has one exactly where its scope lives
    module _ (lives : (n : ℕ) → lives_at parts v (length O + n) ≡ has S n) where
      local_good : (n : ℕ) (o : Option Store) → store_among S n ≡ o → store_of v (length O + n) ≡ stored_bits o
          → (if is_some o then is_store_of (cell_of w (var.Local n)) (store_of v (length O + n)) else is_new (store_of v (length O + n))) ≡ true
      local_good n None e same = ap is_new same
      local_good n (Some s) e same = ap (is_store_of (cell_of w (var.Local n))) same ∙ same_store (var.Local n) s (k.locals n s e)

      cell_good : (j : ℕ) (cell : Cell) → IsOutputCell w j cell ⊎ IsLocalCell w j cell → good parts v j cell ≡ true
      cell_good j cell (inl o) =
          let found = output_at p O c.outputs k.outputs j o.number o.found in
          let same : store_of v j ≡ as_bits found.0 = get_or_from_slice_get v.stores.items j (as_bits found.0) no_store (item_output j found.0 found.1) in
          let within : nat_lt j (length parts.outputs) ≡ true =
          subst (λ i. nat_lt j i ≡ true) (sym outputs_long_too) (lt-ltb j (length O) (slice_get_within O j o.number o.found)) in
          subst (λ (t : Bool). (if t || lives_at parts v j then is_store_of cell (store_of v j) else is_new (store_of v j)) ≡ true) (sym within)
          (ap₂ (λ (one : Cell) (s : Bool × ℕ). is_store_of one s) o.is same ∙ same_store (var.Formal o.number) found.0 found.2)
      cell_good j cell (inr l) =
          let same : store_of v (length O + l.number) ≡ stored_bits (store_among S l.number) =
          get_or_from_slice_get v.stores.items (length O + l.number) _ no_store (item_local l.number l.small) in
          let past : nat_lt (length O + l.number) (length parts.outputs) ≡ false =
          let long = outputs_long_too in grind (arith, nat_tests, long) in
          subst (λ (i : ℕ). good parts v i cell ≡ true) (sym l.at)
          (subst (λ (one : Cell). good parts v (length O + l.number) one ≡ true) (sym l.is)
          (subst (λ (t : Bool). (if t then is_store_of (cell_of w (var.Local l.number)) (store_of v (length O + l.number)) else is_new (store_of v (length O + l.number))) ≡ true)
          (sym (ap₂ (λ i j. i || j) past (lives l.number))) (local_good l.number (store_among S l.number) refl same)))

      stores_good : have_stores parts v 0 parts.cells ≡ true
      stores_good = ap (λ (l : List Cell). have_stores parts v 0 l) h.named.cells
          ∙ all_have parts v 0 (cells_of w) (λ j cell e. subst (λ i. good parts v i cell ≡ true) (sym (zero_plus j)) (cell_good j cell (cell_cases w j cell e)))

  -- from a valuation of the program
  module _ (at : OfProgram) (permitted : IsPermitted p at) (v : Valuation) (e : Encodes p at v) where
    abbrev c : Configuration
    c = at.configuration

    fits_from : Kept c v → Fits parts v
    fits_from k = record {
      bits_of_places =
          ap length e.place.places ∙ length-map p.places (rests_there c.place) ∙ ap length places_are ∙ length-range_with_len 0 (length w.module.labels)
          ∙ sym texts ∙ sym (ap length h.named.places);
      values_of_inputs =
          ap₂ hold_inputs h.named.inputs e.inputs ∙ inputs_hold p w.module.formals 0 at.inputs formal_types well.formal_types permitted.inputs;
      values_of_stores = stores_hold c v k;
    }

    pub bits_here : (n : ℕ) → contains (places_of w.module.body) n ≡ true → rests_at v n ≡ rests_there c.place n
    bits_here n own = bit_at v (rests_there c.place) e.place.places n own

    different : AreDifferent (places_of w.module.body) × AreDifferent (calls_of w.module.body)
    different = (
      subst AreDifferent (sym well.numbered.places) (range_different 0 (length w.module.labels)),
      subst AreDifferent (sym well.numbered.calls) (range_different 0 w.module.calls),
    )

    pub has_bits : HasItsBits (layout_of p) w.module.body
    has_bits = (places_have_bits w.module.body different.0 different.1).1

    -- where control rests nowhere
    module _ (nowhere : (n : ℕ) → rests_there c.place n ≡ false) (none : stores_at_place p c.place ≡ []) where
      is_away : (layout_of p).away (bits_at v) ≡ true
      is_away = has_bits.away (bits_at v) record { at_places = λ n own. bits_here n own ∙ nowhere n; at_calls = λ n own. refl }

      no_lives : (n : ℕ) → lives_at parts v (length O + n) ≡ has (stores_at_place p c.place) n
      no_lives n =
          ap (λ (l : Living). l.lives) (living_is v (length O + n)) ∙ (statements_live (bits_at v) (length O) n w.module.body).away_lives is_away
          ∙ sym (ap (λ (l : List (ℕ × Store)). has l n) none)

      rests_nowhere : (resting_of (rests_at v) parts.shape).nowhere ≡ true
      rests_nowhere =
          ap (λ (r : Resting). r.nowhere) (resting_is v)
          ∙ sym (statements_shaped (bits_at v) (λ n. new_store p (var.Local n)) (length O) w.module.body).away ∙ is_away

    -- where control rests
    module _ (r : Residual) (there : c.place ≡ place.Rest r) (fits : (layout_of p).fits r ≡ true) where
      abbrev bits_there : PlaceBits
      bits_there = record { place = rests_at v; call = contains (resting_calls r) }

      is_at : (layout_of p).at bits_there r ≡ true
      is_at = has_bits.at bits_there r fits record {
        at_places = λ n own. bits_here n own ∙ ap (λ (it : Place). rests_there it n) there;
        at_calls = λ n own. refl;
      }

      lives_there : (n : ℕ) → lives_at parts v (length O + n) ≡ has (stores_at_place p c.place) n
      lives_there n =
          ap (λ (l : Living). l.lives) (living_is v (length O + n)) ∙ (statements_live bits_there (length O) n w.module.body).lives r fits is_at
          ∙ sym (ap (λ (it : Place). has (stores_at_place p it) n) there)

      rests_somewhere : (resting_of (rests_at v) parts.shape).somewhere ≡ true
      rests_somewhere =
          ap (λ (x : Resting). x.somewhere) (resting_is v)
          ∙ (statements_shaped bits_there (λ n. new_store p (var.Local n)) (length O) w.module.body).rests r fits is_at

    started_permitted : v.started ≡ true → (resting_of (rests_at v) parts.shape).nowhere ≡ true ⊎ (resting_of (rests_at v) parts.shape).somewhere ≡ true
        → have_stores parts v 0 parts.cells ≡ true → is_permitted parts v ≡ true
    started_permitted is where_at stores =
        ap (λ t. if t then is_place parts v && have_stores parts v 0 parts.cells else is_initial v) is ∙ and_from _ _ (placed where_at) stores where
          placed : (resting_of (rests_at v) parts.shape).nowhere ≡ true ⊎ (resting_of (rests_at v) parts.shape).somewhere ≡ true → is_place parts v ≡ true
          placed (inl one) = ap (λ t. t || (resting_of (rests_at v) parts.shape).somewhere) one
          placed (inr one) = or_true _ _ one where
            or_true : (a b : Bool) → b ≡ true → (a || b) ≡ true
            or_true true b k = refl
            or_true false b k = k

    nothing_found : (S : List (ℕ × Store)) → S ≡ [] → (n : ℕ) (s : Store) → store_among S n ≡ Some s → is_store p (var.Local n) s ≡ true
    nothing_found S none n s found = absurd (none≢some s (sym (ap (λ (l : List (ℕ × Store)). store_among l n) none) ∙ found))

    kept_with : are_output_stores p O c.outputs ≡ true
        → ((n : ℕ) (s : Store) → store_among (stores_at_place p c.place) n ≡ Some s → is_store p (var.Local n) s ≡ true) → Kept c v
    kept_with outputs locals = record { outputs = outputs; locals = locals; items = e.place.stores }

    -- before the start
    module _ (is : c ≡ initial p) where
      new_outputs : are_output_stores p O c.outputs ≡ true
      new_outputs =
          ap (λ (it : Configuration). are_output_stores p O it.outputs) is
          ∙ all_outputs p O (map (λ n. new_store p (var.Formal n)) O) (length-map O (λ n. new_store p (var.Formal n)))
          (λ k n s f g. ap (is_store p (var.Formal n)) (some_same _ _ (sym g ∙ get_mapped (λ i. new_store p (var.Formal i)) O k n f)) ∙ new_good (var.Formal n))

      no_stores : stores_at_place p c.place ≡ []
      no_stores = ap (λ (it : Configuration). stores_at_place p it.place) is

      kept_initial : Kept c v
      kept_initial = kept_with new_outputs (nothing_found (stores_at_place p c.place) no_stores)

      item_new : (j : ℕ) (cell : Cell) (store : Bool × ℕ) → slice_get v.stores.items j ≡ Some store → IsOutputCell w j cell ⊎ IsLocalCell w j cell → is_new store ≡ true
      item_new j cell store f (inl o) =
          ap is_new (some_same _ _ (sym f ∙ item_output c v kept_initial j (new_store p (var.Formal o.number))
          (ap (λ (it : Configuration). slice_get it.outputs j) is ∙ get_mapped (λ n. new_store p (var.Formal n)) O j o.number o.found)))
      item_new j cell store f (inr l) =
          ap is_new (some_same _ _ (sym f ∙ ap (λ i. slice_get v.stores.items i) l.at ∙ item_local c v kept_initial l.number l.small
          ∙ ap (λ (it : List (ℕ × Store)). Some (stored_bits (store_among it l.number))) no_stores))

      all_new : list_all (λ store. is_new store) v.stores.items ≡ true
      all_new = all_at (λ store. is_new store) v.stores.items (λ j store f. here j store f (got_within (cells_of w) j (within j store f))) where
        within : (j : ℕ) (store : Bool × ℕ) → slice_get v.stores.items j ≡ Some store → j < length (cells_of w)
        within j store f =
            let less = slice_get_within v.stores.items j store f in
            let same = items_long c v kept_initial in
            omega (arith, less, same)

        here : (j : ℕ) (store : Bool × ℕ) → slice_get v.stores.items j ≡ Some store → (cell : Cell) × (slice_get (cells_of w) j ≡ Some cell) → is_new store ≡ true
        here j store f one = item_new j one.0 store f (cell_cases w j one.0 one.1)

      none_set : list_all (λ bit. not bit) v.places.items ≡ true
      none_set = ap (λ (l : List Bool). list_all (λ bit. not bit) l) (e.place.places ∙ ap (λ (it : Configuration). map (rests_there it.place) p.places) is) ∙ none p.places where
        none : (ns : List ℕ) → list_all (λ bit. not bit) (map (λ (n : ℕ). false) ns) ≡ true
        none [] = refl
        none (n ∷ ns) = none ns

      initial_permitted : is_permitted parts v ≡ true
      initial_permitted =
          ap (λ t. if t then is_place parts v && have_stores parts v 0 parts.cells else is_initial v) (e.place.started ∙ ap (λ (it : Configuration). is_started it.place) is)
          ∙ and_from _ _ none_set all_new

    from_place : (where_at : Place) → c.place ≡ where_at → IsPermittedPlace p c where_at → IsPermittedAt parts v
    from_place place.NotStarted there is = record { fits = fits_from (kept_initial is); permitted = initial_permitted is }
    from_place (place.Rest r) there is =
        let two = and_parts _ _ is in
        let three = and_parts _ _ two.1 in
        let k : Kept c v = kept_with three.1 (λ n s found. local_at p ((layout_of p).stores_at r) three.0 n s (ap (λ (it : Place). store_among (stores_at_place p it) n) (sym there) ∙ found)) in
        record {
          fits = fits_from k;
          permitted = started_permitted (e.place.started ∙ ap is_started there) (inr (rests_somewhere r there two.0)) (stores_good c v k (lives_there r there two.0));
        }
    from_place place.Ended there is =
        let none : stores_at_place p c.place ≡ [] = ap (stores_at_place p) there in
        let nowhere : (n : ℕ) → rests_there c.place n ≡ false = λ n. ap (λ (it : Place). rests_there it n) there in
        let k : Kept c v = kept_with is (nothing_found (stores_at_place p c.place) none) in
        record {
          fits = fits_from k;
          permitted = started_permitted (e.place.started ∙ ap is_started there) (inl (rests_nowhere nowhere none)) (stores_good c v k (no_lives nowhere none));
        }

    kept_from : (where_at : Place) → c.place ≡ where_at → IsPermittedPlace p c where_at → Kept c v
    kept_from place.NotStarted there is = kept_initial is
    kept_from (place.Rest r) there is =
        let three = and_parts _ _ (and_parts _ _ is).1 in
        kept_with three.1 (λ n s found. local_at p ((layout_of p).stores_at r) three.0 n s (ap (λ (it : Place). store_among (stores_at_place p it) n) (sym there) ∙ found))
    kept_from place.Ended there is = kept_with is (nothing_found (stores_at_place p c.place) (ap (stores_at_place p) there))

    -- the stores that the valuation has
    pub kept_here : Kept c v
    kept_here = kept_from c.place refl permitted.place

    lives_from : (where_at : Place) → c.place ≡ where_at → IsPermittedPlace p c where_at → (n : ℕ) → lives_at parts v (length O + n) ≡ has (stores_at_place p c.place) n
    lives_from place.NotStarted there is = no_lives (λ n. ap (λ (it : Place). rests_there it n) there) (ap (stores_at_place p) there)
    lives_from (place.Rest r) there is = lives_there r there (and_parts _ _ is).0
    lives_from place.Ended there is = no_lives (λ n. ap (λ (it : Place). rests_there it n) there) (ap (stores_at_place p) there)

    -- a local's scope lives where there is a store for it
    pub lives_here : (n : ℕ) → lives_at parts v (length O + n) ≡ has (stores_at_place p c.place) n
    lives_here = lives_from c.place refl permitted.place

    of_program : IsPermittedAt parts v
    of_program = from_place c.place refl permitted.place

  -- from a valuation of the system
  module _ (v : Valuation) (is : IsPermittedAt parts v) where
    abbrev row : List Value
    row = row_of p parts.inputs v.inputs.items

    row_fits : IsRow p row
    row_fits =
        subst (λ (l : List Port). are_inputs p p.inputs (row_of p l v.inputs.items) ≡ true) (sym h.named.inputs)
        (held_inputs p w.module.formals 0 v.inputs.items formal_types (subst (λ (l : List Port). hold_inputs l v.inputs.items ≡ true) h.named.inputs is.fits.values_of_inputs))

    inputs_back : v.inputs.items ≡ map bits_of row
    inputs_back = bits_back p parts.inputs v.inputs.items is.fits.values_of_inputs

    items_fit : hold_stores (cells_of w) v.stores.items ≡ true
    items_fit = ap (λ (l : List Cell). hold_stores l v.stores.items) (sym h.named.cells) ∙ is.fits.values_of_stores

    v_long : length v.stores.items ≡ length (cells_of w)
    v_long = held_long (cells_of w) v.stores.items items_fit

    places_long : length v.places.items ≡ length w.module.labels
    places_long = is.fits.bits_of_places ∙ ap length h.named.places ∙ texts

    -- what stands where a list of places has something
    place_there : (f : ℕ → Bool) → ((n : ℕ) → contains (places_of w.module.body) n ≡ true → rests_at v n ≡ f n) → v.places.items ≡ map f p.places
    place_there f same = lists_same v.places.items (map f p.places) long at where
      long : length v.places.items ≡ length (map f p.places)
      long =
          places_long ∙ sym (length-range_with_len 0 (length w.module.labels)) ∙ ap length (sym places_are) ∙ sym (length-map p.places f)

      at : (n : ℕ) (bit : Bool) → slice_get v.places.items n ≡ Some bit → slice_get (map f p.places) n ≡ Some bit
      at n bit found =
          let less : n < length w.module.labels = let one = slice_get_within v.places.items n bit found in let two = places_long in omega (arith, one, two) in
          let number : slice_get (range_with_len 0 (length w.module.labels)) n ≡ Some n = get_range 0 (length w.module.labels) n less ∙ ap Some (zero_plus n) in
          let here : slice_get p.places n ≡ Some n = ap (λ (l : List ℕ). slice_get l n) places_are ∙ number in
          get_mapped f p.places n n here
          ∙ ap Some (sym (same n (got_among p.places n n here)) ∙ get_or_from_slice_get v.places.items n bit false found)

    -- the store of a variable with its cell's number
    abbrev store_here : Var → ℕ → Store
    store_here x n = stored (type_in w.module x) (store_of v n)

    abbrev σ : ℕ → Store
    σ n = store_here (var.Local n) (length O + n)

    abbrev stores_from : ℕ → List ℕ → List Store
    stores_from n [] = []
    stores_from n (x ∷ xs) = store_here (var.Formal x) n ∷ stores_from (n + 1) xs

    from_long : (n : ℕ) (xs : List ℕ) → length (stores_from n xs) ≡ length xs
    from_long n [] = refl
    from_long n (x ∷ xs) = ap suc (from_long (n + 1) xs)

    from_at : (n : ℕ) (xs : List ℕ) (k x : ℕ) → slice_get xs k ≡ Some x → slice_get (stores_from n xs) k ≡ Some (store_here (var.Formal x) (n + k))
    from_at n [] k x found = absurd (none≢some x found)
    from_at n (y ∷ xs) zero x found =
        ap₂ (λ (i j : ℕ). Some (store_here (var.Formal i) j)) (some_same _ _ found) (let same : n ≡ n + 0 = omega arith in same)
    from_at n (y ∷ xs) (suc k) x found =
        from_at (n + 1) xs k x found ∙ ap (λ (j : ℕ). Some (store_here (var.Formal x) j)) (let same : (n + 1) + k ≡ n + suc k = omega arith in same)

    stored_good : (x : Var) (n : ℕ) → holds (type_in w.module x) (store_of v n).1 ≡ true → is_store_of (cell_of w x) (store_of v n) ≡ true
        → is_store p x (store_here x n) ≡ true
    stored_good x n held good = and_from _ _ (and_from _ _ (is_same_type-self (type_in w.module x)) (and_parts _ _ held).1) good

    -- a store that doesn't exist is one that a variable can have
    new_or_good : (x : Var) (t : Bool) (store : Bool × ℕ) → (if t then is_store_of (cell_of w x) store else is_new store) ≡ true → is_store_of (cell_of w x) store ≡ true
    new_or_good x true store good = good
    new_or_good x false store good = ap (is_store_of (cell_of w x)) (new_is store good) ∙ kept_zero (class_in w.module x) (type_in w.module x)

    module _ (had : have_stores parts v 0 parts.cells ≡ true) where
      cell_had : (k : ℕ) (cell : Cell) → slice_get (cells_of w) k ≡ Some cell → good parts v k cell ≡ true
      cell_had k cell found =
          subst (λ i. good parts v i cell ≡ true) (zero_plus k)
          (had_at parts v 0 (cells_of w) (ap (λ (l : List Cell). have_stores parts v 0 l) (sym h.named.cells) ∙ had) k cell found)

      store_found : (x : Var) (k : ℕ) → slice_get (cells_of w) k ≡ Some (cell_of w x) → is_store p x (store_here x k) ≡ true
      store_found x k found =
          let less : k < length v.stores.items = let one = slice_get_within (cells_of w) k (cell_of w x) found in let two = v_long in omega (arith, one, two) in
          let item = got_within v.stores.items k less in
          let same : store_of v k ≡ item.0 = get_or_from_slice_get v.stores.items k item.0 no_store item.1 in
          stored_good x k
          (ap (λ (s : Bool × ℕ). holds (type_in w.module x) s.1) same ∙ held_at (cells_of w) v.stores.items items_fit k (cell_of w x) item.0 found item.1)
          (new_or_good x (exists_at parts v k) (store_of v k) (cell_had k (cell_of w x) found))

      σ_good : (n : ℕ) → is_store p (var.Local n) (σ n) ≡ true
      σ_good n = by_size (cases_lt n N) where
        by_size : (n < N) ⊎ (N ≤ n) → is_store p (var.Local n) (σ n) ≡ true
        by_size (inl small) = store_found (var.Local n) (length O + n) (cell_local w n small)
        by_size (inr large) =
            let past : store_of v (length O + n) ≡ no_store =
            get_or_past v.stores.items (length O + n) no_store
            (let one = v_long in let two = cells_long w in omega (arith, one, two, large)) in
            ap (λ (s : Bool × ℕ). is_store p (var.Local n) (stored (type_in w.module (var.Local n)) s)) past ∙ new_good (var.Local n)

      outputs_good : are_output_stores p O (stores_from 0 O) ≡ true
      outputs_good = all_outputs p O (stores_from 0 O) (from_long 0 O) (λ k n s f g.
          ap (is_store p (var.Formal n)) (some_same _ _ (sym g ∙ from_at 0 O k n f) ∙ ap (store_here (var.Formal n)) (zero_plus k))
          ∙ store_found (var.Formal n) k (cell_output w k n f))

      -- a place with such stores has the valuation's
      module _ (where_at : Place) (chosen : AllByRecursion (λ (one : ℕ × Store). one.1 ≡ σ one.0) (stores_at_place p where_at))
          (lives : (n : ℕ) → lives_at parts v (length O + n) ≡ has (stores_at_place p where_at) n) where
        abbrev here : Configuration
        here = record { place = where_at; outputs = stores_from 0 O }

        abbrev firsts : List (Option Store)
        firsts = map (λ (s : Store). Some s) (stores_from 0 O)

        firsts_long : length firsts ≡ length O
        firsts_long = length-map (stores_from 0 O) (λ (s : Store). Some s) ∙ from_long 0 O

        local_is : (n : ℕ) → n < N → (t : Bool) → has (stores_at_place p where_at) n ≡ t → stored_bits (store_among (stores_at_place p where_at) n) ≡ store_of v (length O + n)
        local_is n small true found = ap stored_bits (chosen_found σ (stores_at_place p where_at) chosen n found)
        local_is n small false found =
            let past : nat_lt (length O + n) (length parts.outputs) ≡ false = let long = outputs_long_too in grind (arith, nat_tests, long) in
            let none : exists_at parts v (length O + n) ≡ false = ap₂ (λ i j. i || j) past (lives n ∙ found) in
            ap stored_bits (not_found (stores_at_place p where_at) n found)
            ∙ sym (new_is (store_of v (length O + n))
            (subst (λ t. (if t then is_store_of (cell_of w (var.Local n)) (store_of v (length O + n)) else is_new (store_of v (length O + n))) ≡ true) none
            (cell_had (length O + n) (cell_of w (var.Local n)) (cell_local w n small))))

        item_is : (k : ℕ) (store : Bool × ℕ) (cell : Cell) → slice_get v.stores.items k ≡ Some store → IsOutputCell w k cell ⊎ IsLocalCell w k cell
            → slice_get (map stored_bits (stores_in_order p here)) k ≡ Some store
        item_is k store cell found (inl o) =
            get_mapped stored_bits (stores_in_order p here) k (Some (store_here (var.Formal o.number) k))
            (get_left firsts _ k _ (get_mapped (λ (s : Store). Some s) (stores_from 0 O) k _ (from_at 0 O k o.number o.found ∙ ap (λ (j : ℕ). Some (store_here (var.Formal o.number) j)) (zero_plus k))))
            ∙ ap Some (get_or_from_slice_get v.stores.items k store no_store found)
        item_is k store cell found (inr l) =
            ap (λ i. slice_get (map stored_bits (stores_in_order p here)) i) l.at
            ∙ get_mapped stored_bits (stores_in_order p here) (length O + l.number) (store_among (stores_at_place p where_at) l.number)
            (subst (λ i. slice_get (stores_in_order p here) (i + l.number) ≡ Some (store_among (stores_at_place p where_at) l.number)) firsts_long
            (get_right firsts (map (store_among (stores_at_place p where_at)) (range_with_len 0 N)) l.number
            ∙ get_mapped (store_among (stores_at_place p where_at)) (range_with_len 0 N) l.number l.number (get_range 0 N l.number l.small ∙ ap Some (zero_plus l.number))))
            ∙ ap Some (local_is l.number l.small (has (stores_at_place p where_at) l.number) refl
            ∙ ap (store_of v) (sym l.at) ∙ get_or_from_slice_get v.stores.items k store no_store found)

        stores_back : v.stores.items ≡ map stored_bits (stores_in_order p here)
        stores_back = lists_same v.stores.items (map stored_bits (stores_in_order p here)) long (λ k store found. at k store found (got_within (cells_of w) k (within k store found))) where
          long : length v.stores.items ≡ length (map stored_bits (stores_in_order p here))
          long =
              v_long ∙ cells_long w
              ∙ sym (length-map (stores_in_order p here) stored_bits ∙ length-append firsts (map (store_among (stores_at_place p where_at)) (range_with_len 0 N))
              ∙ ap₂ (λ i j. i + j) firsts_long (length-map-range_with_len (store_among (stores_at_place p where_at)) 0 N))

          within : (k : ℕ) (store : Bool × ℕ) → slice_get v.stores.items k ≡ Some store → k < length (cells_of w)
          within k store found = let one = slice_get_within v.stores.items k store found in let two = v_long in omega (arith, one, two)

          at : (k : ℕ) (store : Bool × ℕ) → slice_get v.stores.items k ≡ Some store → (cell : Cell) × (slice_get (cells_of w) k ≡ Some cell)
              → slice_get (map stored_bits (stores_in_order p here)) k ≡ Some store
          at k store found one = item_is k store one.0 found (cell_cases w k one.0 one.1)

        -- what the system's valuation encodes
        encoded : is_started where_at ≡ true → IsPermittedPlace p here where_at → ((n : ℕ) → contains (places_of w.module.body) n ≡ true → rests_at v n ≡ rests_there where_at n)
            → v.started ≡ true → IsEncoded p v
        encoded begun fine same started = record {
          at = record { configuration = here; inputs = row };
          permitted = record { place = fine; inputs = row_fits };
          encodes = record {
            place = record { started = started ∙ sym begun; places = place_there (rests_there where_at) same; stores = stores_back };
            inputs = inputs_back;
          };
        }

      -- the end
      module _ (started : v.started ≡ true) (nowhere : (resting_of (rests_at v) parts.shape).nowhere ≡ true) where
        gone : (layout_of p).away (bits_at v) ≡ true
        gone =
            (statements_shaped (bits_at v) σ (length O) w.module.body).away
            ∙ sym (ap (λ (r : Resting). r.nowhere) (resting_is v)) ∙ nowhere

        at_end : IsEncoded p v
        at_end =
            encoded place.Ended tt
            (λ n. ap (λ (l : Living). l.lives) (living_is v (length O + n)) ∙ (statements_live (bits_at v) (length O) n w.module.body).away_lives gone)
            refl outputs_good (λ n own. (places_back (bits_at v) w.module.body).away gone n own) started

      -- a place where control rests
      module _ (started : v.started ≡ true) (somewhere : (resting_of (rests_at v) parts.shape).somewhere ≡ true) where
        rested : Rested (bits_at v) σ (length O) (layout_of p)
        rested = (statements_shaped (bits_at v) σ (length O) w.module.body).exists (sym (ap (λ (r : Resting). r.somewhere) (resting_is v)) ∙ somewhere)

        bits_same : (n : ℕ) → contains (places_of w.module.body) n ≡ true → rests_at v n ≡ contains (resting_places rested.at) n
        bits_same n own = by (rests_at v n) (contains (resting_places rested.at) n) refl refl where
          backs : Backs (bits_at v) (layout_of p) (places_of w.module.body)
          backs = places_back (bits_at v) w.module.body

          by : (s t : Bool) → rests_at v n ≡ s → contains (resting_places rested.at) n ≡ t → s ≡ t
          by true true e f = refl
          by true false e f = sym (backs.only rested.at rested.fits rested.there n own e) ∙ f
          by false true e f = sym e ∙ backs.inside rested.at rested.fits rested.there n f
          by false false e f = refl

        at_rest : IsEncoded p v
        at_rest =
            encoded (place.Rest rested.at) rested.stores
            (λ n. ap (λ (l : Living). l.lives) (living_is v (length O + n)) ∙ (statements_live (bits_at v) (length O) n w.module.body).lives rested.at rested.fits rested.there)
            refl
            (and_from _ _ rested.fits (and_from _ _ (all_locals p σ σ_good ((layout_of p).stores_at rested.at) rested.stores) outputs_good))
            bits_same started

    -- before the start
    module _ (started : v.started ≡ false) (first : is_initial v ≡ true) where
      abbrev begun : Configuration
      begun = initial p

      all_off : (bits : List Bool) (ns : List ℕ) → length bits ≡ length ns → list_all (λ bit. not bit) bits ≡ true → bits ≡ map (λ (n : ℕ). false) ns
      all_off [] [] long off = refl
      all_off [] (n ∷ ns) long off = absurd (omega (arith, long))
      all_off (bit ∷ bits) [] long off = absurd (omega (arith, long))
      all_off (true ∷ bits) (n ∷ ns) long off = absurd (false≢true off)
      all_off (false ∷ bits) (n ∷ ns) long off = ap (λ (l : List Bool). false ∷ l) (all_off bits ns (omega (arith, long)) off)

      new_item : (k : ℕ) (store : Bool × ℕ) → slice_get v.stores.items k ≡ Some store → store ≡ no_store
      new_item k store found = new_is store (at_all (λ s. is_new s) v.stores.items (and_parts _ _ first).1 k store found)

      abbrev initials : List (Option Store)
      initials = map (λ (s : Store). Some s) (map (λ n. new_store p (var.Formal n)) O)

      initials_long : length initials ≡ length O
      initials_long = length-map (map (λ n. new_store p (var.Formal n)) O) (λ (s : Store). Some s) ∙ length-map O (λ n. new_store p (var.Formal n))

      initial_item : (k : ℕ) (store : Bool × ℕ) (cell : Cell) → slice_get v.stores.items k ≡ Some store → IsOutputCell w k cell ⊎ IsLocalCell w k cell
          → slice_get (map stored_bits (stores_in_order p begun)) k ≡ Some store
      initial_item k store cell found (inl o) =
          get_mapped stored_bits (stores_in_order p begun) k (Some (new_store p (var.Formal o.number)))
          (get_left initials _ k _ (get_mapped (λ (s : Store). Some s) (map (λ n. new_store p (var.Formal n)) O) k _ (get_mapped (λ n. new_store p (var.Formal n)) O k o.number o.found)))
          ∙ ap Some (sym (new_item k store found))
      initial_item k store cell found (inr l) =
          ap (λ i. slice_get (map stored_bits (stores_in_order p begun)) i) l.at
          ∙ get_mapped stored_bits (stores_in_order p begun) (length O + l.number) None
          (subst (λ i. slice_get (stores_in_order p begun) (i + l.number) ≡ Some None) initials_long
          (get_right initials (map (store_among []) (range_with_len 0 N)) l.number
          ∙ get_mapped (store_among []) (range_with_len 0 N) l.number l.number (get_range 0 N l.number l.small ∙ ap Some (zero_plus l.number))))
          ∙ ap Some (sym (new_item k store found))

      initial_stores : v.stores.items ≡ map stored_bits (stores_in_order p begun)
      initial_stores = lists_same v.stores.items (map stored_bits (stores_in_order p begun)) long (λ k store found. at k store found (got_within (cells_of w) k (within k store found))) where
        long : length v.stores.items ≡ length (map stored_bits (stores_in_order p begun))
        long =
            v_long ∙ cells_long w
            ∙ sym (length-map (stores_in_order p begun) stored_bits ∙ length-append initials (map (store_among []) (range_with_len 0 N))
            ∙ ap₂ (λ i j. i + j) initials_long (length-map-range_with_len (store_among []) 0 N))

        within : (k : ℕ) (store : Bool × ℕ) → slice_get v.stores.items k ≡ Some store → k < length (cells_of w)
        within k store found = let one = slice_get_within v.stores.items k store found in let two = v_long in omega (arith, one, two)

        at : (k : ℕ) (store : Bool × ℕ) → slice_get v.stores.items k ≡ Some store → (cell : Cell) × (slice_get (cells_of w) k ≡ Some cell)
            → slice_get (map stored_bits (stores_in_order p begun)) k ≡ Some store
        at k store found one = initial_item k store one.0 found (cell_cases w k one.0 one.1)

      at_beginning : IsEncoded p v
      at_beginning = record {
        at = record { configuration = begun; inputs = row };
        permitted = record { place = refl; inputs = row_fits };
        encodes = record {
          place = record {
            started = started;
            places = all_off v.places.items p.places (places_long ∙ sym (length-range_with_len 0 (length w.module.labels)) ∙ ap length (sym places_are)) (and_parts _ _ first).0;
            stores = initial_stores;
          };
          inputs = inputs_back;
        };
      }

    of_system : IsEncoded p v
    of_system = by_start v.started refl is.permitted where
      by_rest : v.started ≡ true → have_stores parts v 0 parts.cells ≡ true
          → ((resting_of (rests_at v) parts.shape).nowhere ≡ true) ⊎ ((resting_of (rests_at v) parts.shape).somewhere ≡ true) → IsEncoded p v
      by_rest started had (inl nowhere) = at_end had started nowhere
      by_rest started had (inr somewhere) = at_rest had started somewhere

      by_start : (t : Bool) → v.started ≡ t → (if t then is_place parts v && have_stores parts v 0 parts.cells else is_initial v) ≡ true → IsEncoded p v
      by_start true started fine =
          let two = and_parts (is_place parts v) (have_stores parts v 0 parts.cells) fine in
          by_rest started two.1 (or_cases (resting_of (rests_at v) parts.shape).nowhere (resting_of (rests_at v) parts.shape).somewhere two.0)
      by_start false started fine = at_beginning started fine

pub shapes_permit : ShapesPermitAlike
shapes_permit w parts well texts h = record {
  of_program = λ at permitted v e. of_program w parts well texts h at permitted v e;
  of_system = λ v is. of_system w parts well texts h v is;
}
