-- Stores that cells can have, by the numbers of their marks and bits.
use Rattle.std.proofs.Common.{◌≡◌, ℕ, zero, suc, ◌+◌, ◌*◌, ◌<◌, ◌==◌, Bool, true, false, not, List, [], ◌∷◌, drop, drop-cons, length, get_or, refl, sym, ap, ap₂, ◌∙◌, ⊎_elim, arith}
use Rattle.std.specs.Prelude.{◌&&◌, if◌then◌else◌}
use Rattle.std.specs.List.{list_all}
use Rattle.std.proofs.lemmas.Bool.{cases_eq, eq-eqb, ne_eqb, and_parts, false≢true}
use Rattle.qz_dd.specs.declared.node.DdId.{DdId}
use Rattle.qz_dd.specs.declared.table.Table.{Table}
use Rattle.qz_dd.specs.Tables.{Reading}
use Rattle.qz_rails.specs.Bits.{number_of, bits_in}
use Rattle.qz_tallies.specs.declared.stored.Stored.{Stored}
use Rattle.qz_system.specs.declared.parts.Cell.{Cell}
use Rattle.qz_system.specs.declared.parts.SystemParts.{SystemParts}
use Rattle.qz_system.specs.declared.valuation.Valuation.{Valuation}
use Rattle.qz_system.specs.Valuations.{Fits, holds, hold_stores, store_of, no_store, is_new, is_store_of, exists_at, have_stores}
use Rattle.qz_dd.specs.Tables.{Extends}
use Rattle.qz_symbolic.specs.Placings.{value_at}
use Rattle.qz_symbolic.specs.Views.{Views, IsStoreOf, AreStoresOf}
use Rattle.qz_symbolic.proofs.Growing.{store_grows}
use Rattle.qz_symbolic.proofs.Lists.{item_at}

-- no bit is set exactly where the number is 0
pub zero_bits : (bits : List Bool) → list_all not bits ≡ (number_of bits == 0)
zero_bits [] = refl
zero_bits (true ∷ bits) = sym (ne_eqb (number_of bits * 2 + 1) 0 (λ e. omega (arith, e)))
zero_bits (false ∷ bits) =
    zero_bits bits ∙ ⊎_elim
    (λ (e : number_of bits ≡ 0). eq-eqb (number_of bits) 0 e ∙ sym (eq-eqb (number_of bits * 2 + 0) 0 (omega (arith, e))))
    (λ (ne : number_of bits ≡ 0 → ⊥). ne_eqb (number_of bits) 0 ne ∙ sym (ne_eqb (number_of bits * 2 + 0) 0 (λ h. ne (omega (arith, h)))))
    (cases_eq (number_of bits) 0)

-- a valuation that fits has a store for each cell
stores_long : (cells : List Cell) (stores : List (Bool × ℕ)) → hold_stores cells stores ≡ true → length stores ≡ length cells
stores_long [] [] h = refl
stores_long [] (s ∷ stores) h = absurd (false≢true h)
stores_long (c ∷ cells) [] h = absurd (false≢true h)
stores_long (c ∷ cells) (s ∷ stores) h = ap suc (stores_long cells stores (and_parts (holds c.ty s.1) (hold_stores cells stores) h).1)

pub fits_long : (parts : SystemParts) (v : Valuation) → Fits parts v → length v.stores.items ≡ length parts.cells
fits_long parts v fits = stores_long parts.cells v.stores.items fits.values_of_stores

and_again : (a b c : Bool) → (a && b) && c ≡ a && (b && c)
and_again true b c = refl
and_again false b c = refl

-- one store more that is new
pub new_more : (v : Valuation) (n : ℕ) (so_far one more : Bool) → n < length v.stores.items → one ≡ is_new (store_of v n) → more ≡ so_far && one
    → more && list_all (λ store. is_new store) (drop (n + 1) v.stores.items) ≡ so_far && list_all (λ store. is_new store) (drop n v.stores.items)
new_more v n so_far one more below one_is more_is =
    let e : suc n ≡ n + 1 = omega arith in
    ap (λ b. b && list_all (λ store. is_new store) (drop (n + 1) v.stores.items)) more_is
    ∙ and_again so_far one (list_all (λ store. is_new store) (drop (n + 1) v.stores.items))
    ∙ ap₂ (λ (b : Bool) (k : ℕ). so_far && (b && list_all (λ store. is_new store) (drop k v.stores.items))) one_is (sym e)
    ∙ ap (λ (xs : List (Bool × ℕ)). so_far && list_all (λ store. is_new store) xs) (sym (drop-cons v.stores.items n no_store below))

-- one cell more whose store is one that it can have
pub have_more : (parts : SystemParts) (v : Valuation) (n : ℕ) (cell : Cell) (so_far one more : Bool) → n < length parts.cells → cell ≡ get_or parts.cells n cell
    → one ≡ (if exists_at parts v n then is_store_of cell (store_of v n) else is_new (store_of v n)) → more ≡ so_far && one
    → more && have_stores parts v (n + 1) (drop (n + 1) parts.cells) ≡ so_far && have_stores parts v n (drop n parts.cells)
have_more parts v n cell so_far one more below is one_is more_is =
    let e : suc n ≡ n + 1 = omega arith in
    ap (λ b. b && have_stores parts v (n + 1) (drop (n + 1) parts.cells)) more_is
    ∙ and_again so_far one (have_stores parts v (n + 1) (drop (n + 1) parts.cells))
    ∙ ap₂ (λ (b : Bool) (k : ℕ). so_far && (b && have_stores parts v (n + 1) (drop k parts.cells))) one_is (sym e)
    ∙ ap (λ (c : Cell). so_far && ((if exists_at parts v n then is_store_of c (store_of v n) else is_new (store_of v n)) && have_stores parts v (n + 1) (drop (suc n) parts.cells))) is
    ∙ ap (λ (xs : List Cell). so_far && have_stores parts v n xs) (sym (drop-cons parts.cells n cell below))

-- a number and none is the number
pub and_all : (b : Bool) → b && true ≡ b
and_all true = refl
and_all false = refl

-- a store by the numbers of its mark and bits
pub store_read : (table : Table) (parts : SystemParts) (n : ℕ) (cell : Cell) (stored : Stored) → IsStoreOf table parts n cell stored
    → (reading : Reading) (v : Valuation) → Views table parts v reading → (f : Bool × ℕ → Bool)
    → f (reading.values stored.pending.0, number_of (bits_in reading stored.bits.items)) ≡ f (store_of v n)
store_read table parts n cell stored is reading v views f =
    ap₂ (λ (mark : Bool) (bits : ℕ). f (mark, bits)) (is.pending reading v views) (is.bits reading v views)

-- the store of the cell that is read at a number
pub store_at : (first second : Table) (parts : SystemParts) (stores : List Stored) (cells : List Cell) (n : ℕ) (cell : Cell) (stored : Stored)
    → Extends first second → AreStoresOf first parts stores → cells ≡ parts.cells → n < length cells → cell ≡ get_or cells n cell → stored ≡ get_or stores n stored
    → IsStoreOf second parts n cell stored
store_at first second parts stores cells n cell stored grows are is below cell_is stored_is =
    let long = are.long in
    let same = ap length is in
    store_grows first second parts n cell stored grows
    (are.each n cell stored (item_at cells parts.cells n cell is below cell_is) (item_at stores stores n stored refl (omega (arith, long, same, below)) stored_is))

-- the value of a number that is read from a list
pub value_read : (reading : Reading) (numbers : List DdId) (n : ℕ) (d : DdId) → n < length numbers → reading.values (get_or numbers n d).0 ≡ value_at reading numbers n
value_read reading [] n d below = absurd (omega (arith, below))
value_read reading (x ∷ xs) zero d below = refl
value_read reading (x ∷ xs) (suc n) d below = value_read reading xs n d (omega (arith, below))
