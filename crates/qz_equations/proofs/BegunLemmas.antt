-- Instances begin with what registers hold: at a permitted valuation a variable that doesn't exist has a new store.
use Rattle.std.proofs.Common.{◌≡◌, ℕ, zero, suc, ◌+◌, Bool, true, false, List, [], ◌∷◌, length, get_or, Some, refl, sym, ap, ap₂, subst, ◌∙◌, arith, if◌then◌else◌}
use Rattle.std.specs.Prelude.{◌&&◌, ◌||◌, nat_lt, slice_get}
use Rattle.std.specs.List.{list_all}
use Rattle.std.proofs.lemmas.Bool.{and_parts, false≢true, eqb-true}
use Rattle.qz_values.specs.declared.Ty.{Ty}
use Rattle.qz_values.specs.declared.Value.{Value}
use Rattle.qz_values.specs.Types.{IsType}
use Rattle.qz_values.specs.Values.{value_of, is_yes, no}
use Rattle.std.proofs.lemmas.Option.{slice_get_within}
use Rattle.qz_meaning.specs.Scenes.{default_store}
use Rattle.qz_system.specs.declared.parts.Cell.{Cell}
use Rattle.qz_system.specs.declared.parts.Inst.{Inst}
use Rattle.qz_system.specs.declared.parts.SystemParts.{SystemParts}
use Rattle.qz_system.specs.declared.valuation.Valuation.{Valuation}
use Rattle.qz_system.specs.Valuations.{store_of, no_store, is_new, is_store_of, exists_at, have_stores, lives_at, is_place, is_initial, is_permitted}
use Rattle.qz_system.specs.Rounds.{stored, begins}
use Rattle.qz_verilog.specs.declared.nets.Ref.TheVariants as net
use Rattle.qz_verilog.specs.Validity.{IsNetOf}
use Rattle.qz_verilog.specs.Meaning.{Nets}
use Rattle.qz_wires.specs.declared.wires.Wires.{Wires}
use Rattle.qz_wires.specs.WireTable.{types_in}
use Rattle.qz_equations.specs.declared.tallies.StoreNets.{StoreNets}
use Rattle.qz_equations.specs.Registers.{registers_at, mark_register, value_register, Holds, AreOver}
use Rattle.qz_equations.specs.Tallies.{ShowsStore, IsStoreOf}
use Rattle.qz_equations.specs.Unrolled.{begun}
use Rattle.qz_equations.proofs.RegisterLemmas.{mark_at, value_at, bool_register, value_typed}
use Rattle.qz_equations.proofs.VerdictLemmas.{truth_is}

module _ (parts : SystemParts) (v : Valuation) where
  stores_at : (cells : List Cell) (from : ℕ) → have_stores parts v from cells ≡ true → (n : ℕ) (cell : Cell) → slice_get cells n ≡ Some cell
      → (if exists_at parts v (from + n) then is_store_of cell (store_of v (from + n)) else is_new (store_of v (from + n))) ≡ true
  stores_at [] from h n cell at = absurd (cc)
  stores_at (c ∷ cells) from h zero cell at =
      let same : c ≡ cell = cc in
      let here : from ≡ from + 0 = omega arith in
      subst (λ m. (if exists_at parts v m then is_store_of cell (store_of v m) else is_new (store_of v m)) ≡ true) here
      (subst (λ (x : Cell). (if exists_at parts v from then is_store_of x (store_of v from) else is_new (store_of v from)) ≡ true) same (and_parts _ _ h).0)
  stores_at (c ∷ cells) from h (suc n) cell at =
      let more : from + 1 + n ≡ from + suc n = omega arith in
      subst (λ m. (if exists_at parts v m then is_store_of cell (store_of v m) else is_new (store_of v m)) ≡ true) more
      (stores_at cells (from + 1) (and_parts _ _ h).1 n cell at)

  initial_store : (stores : List (Bool × ℕ)) → list_all (λ store. is_new store) stores ≡ true → (n : ℕ) → is_new (get_or stores n no_store) ≡ true
  initial_store [] h n = refl
  initial_store (store ∷ stores) h zero = (and_parts (is_new store) (list_all (λ s. is_new s) stores) h).0
  initial_store (store ∷ stores) h (suc n) = initial_store stores (and_parts (is_new store) (list_all (λ s. is_new s) stores) h).1 n

  -- a variable that doesn't exist has a new store
  new_where_none : is_permitted parts v ≡ true → (n : ℕ) (cell : Cell) → slice_get parts.cells n ≡ Some cell → exists_at parts v n ≡ false → is_new (store_of v n) ≡ true
  new_where_none permitted n cell at none = by v.started permitted
    where
      by : (b : Bool) → (if b then is_place parts v && have_stores parts v 0 parts.cells else is_initial v) ≡ true → is_new (store_of v n) ≡ true
      by true h =
          let here : 0 + n ≡ n = omega arith in
          let all = stores_at parts.cells 0 (and_parts _ _ h).1 n cell at in
          let there = subst (λ m. (if exists_at parts v m then is_store_of cell (store_of v m) else is_new (store_of v m)) ≡ true) here all in
          sym (ap (λ b. if b then is_store_of cell (store_of v n) else is_new (store_of v n)) none) ∙ there
      by false h = initial_store v.stores.items (and_parts _ _ h).1 n

  new_is : (ty : Ty) (store : Bool × ℕ) → is_new store ≡ true → stored ty store ≡ default_store ty
  new_is ty (true, n) h = absurd (false≢true h)
  new_is ty (false, n) h = let same : n ≡ 0 = eqb-true n 0 h in ap (λ m. record { value = value_of ty m; pending = false }) same

  pub begins_is : is_permitted parts v ≡ true → (one : Inst) (cell : Cell) → slice_get parts.cells one.cell ≡ Some cell → begins parts v one cell ≡ begun parts v one cell
  begins_is permitted one cell at = by (nat_lt one.cell (length parts.outputs)) refl one.zero (lives_at parts v one.cell) refl
    where
      by : (output : Bool) → nat_lt one.cell (length parts.outputs) ≡ output → (z lives : Bool) → lives_at parts v one.cell ≡ lives
          → (if output || (z && lives) then stored cell.ty (store_of v one.cell) else default_store cell.ty)
          ≡ (if output || z then stored cell.ty (store_of v one.cell) else default_store cell.ty)
      by true is z lives lives_is = refl
      by false is false lives lives_is = refl
      by false is true true lives_is = refl
      by false is true false lives_is =
          sym (new_is cell.ty (store_of v one.cell) (new_where_none permitted one.cell cell at (ap₂ (λ (a b : Bool). a || b) is lives_is)))

-- the registers of a cell
abbrev pub cell_registers : SystemParts → ℕ → StoreNets
cell_registers parts n = record { mark = net.Reg (1 + length parts.places + n); value = net.Reg (1 + length parts.places + n + length parts.cells) }

same_register : (parts : SystemParts) (n : ℕ) → 1 + length parts.places + n + length parts.cells ≡ value_register parts n
same_register parts n = omega arith

pub kept_typed : (parts : SystemParts) (wires : Wires) → AreOver parts wires → (n : ℕ) (cell : Cell) → IsType cell.ty → slice_get parts.cells n ≡ Some cell
    → IsStoreOf (types_in wires) cell.ty (cell_registers parts n)
kept_typed parts wires over n cell typed at = record {
  of_type = typed;
  mark_net = bool_register parts wires over (1 + length parts.places + n) (let h = slice_get_within parts.cells n cell at in omega (arith, h));
  value_net = subst (λ k. IsNetOf (types_in wires) cell.ty (net.Reg k)) (sym (same_register parts n)) (value_typed parts wires over n cell at);
}

pub kept_store : (parts : SystemParts) (v : Valuation) (nets : Nets) → Holds parts v nets → (n : ℕ) (cell : Cell) → slice_get parts.cells n ≡ Some cell
    → ShowsStore nets (cell_registers parts n) (stored cell.ty (store_of v n))
kept_store parts v nets holds n cell at = record {
  mark = ap (λ (row : List Value). is_yes (get_or row (mark_register parts n) no)) holds.registers
      ∙ ap is_yes (mark_at parts v holds.fits n cell at) ∙ truth_is (store_of v n).0;
  value = ap (λ (row : List Value). get_or row (1 + length parts.places + n + length parts.cells) no) holds.registers
      ∙ ap (λ k. get_or (registers_at parts v) k no) (same_register parts n)
      ∙ value_at parts v holds.fits n cell at;
}
