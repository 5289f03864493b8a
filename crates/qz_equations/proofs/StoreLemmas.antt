-- Stores that come from instances, and lists of them.
use Rattle.std.proofs.Common.{◌≡◌, ◌≢◌, ◌<◌, ◌&&◌, ℕ, Bool, true, false, List, [], ◌∷◌, ◌++◌, length, set, Option, Some, None, refl, sym, ap, subst, ◌∙◌, ◌⊎◌, inl, inr, if◌then◌else◌}
use Rattle.std.specs.Prelude.{◌==◌, nat_lt, slice_get}
use Rattle.std.specs.Option.{option_map_or}
use Rattle.std.proofs.lemmas.Bool.{and_parts, false≢true, eq-eqb, eqb-true, ltb-true}
use Rattle.std.proofs.lemmas.Option.{slice_get_within, same_Some}
use Rattle.qz_values.specs.declared.Ty.{Ty}
use Rattle.qz_values.specs.declared.Ty.TheVariants.{Bool as Truth}
use Rattle.qz_values.specs.declared.Value.{Value}
use Rattle.qz_values.specs.declared.Know.{Know}
use Rattle.qz_values.specs.declared.Know.TheVariants.{Unknown, Known, Clash}
use Rattle.qz_values.specs.Values.{is_yes}
use Rattle.qz_nets.specs.Readings.{type_in}
use Rattle.qz_syntax.specs.declared.declarations.Class.{Class}
use Rattle.qz_syntax.specs.declared.declarations.Class.TheVariants.{Event, Mem}
use Rattle.qz_syntax.specs.declared.places.Later.{Later}
use Rattle.qz_syntax.specs.declared.places.Store.{Store}
use Rattle.qz_verilog.specs.Types.{NetTypes}
use Rattle.qz_verilog.specs.Meaning.{Nets, value_at}
use Rattle.qz_meaning.specs.Scenes.{store_of}
use Rattle.qz_meaning.specs.Settling.{unwritten, settled_later}
use Rattle.qz_meaning.specs.Verdicts.{Verdict, Nobody, Open, One, Torn}
use Rattle.qz_system.specs.declared.parts.Cell.{Cell}
use Rattle.qz_system.specs.declared.parts.Inst.{Inst}
use Rattle.qz_system.specs.declared.parts.Carry.{Carry}
use Rattle.qz_system.specs.declared.parts.SystemParts.{SystemParts}
use Rattle.qz_system.specs.Parts.{is_bool_net, is_carry_right}
use Rattle.qz_system.specs.Nexts.{is_known, is_told}
use Rattle.qz_system.proofs.Finding.{the_type}
use Rattle.qz_equations.specs.declared.tallies.StoreNets.{StoreNets}
use Rattle.qz_equations.specs.Tallies.{SaysVerdict, ShowsStore, IsStoreOf}
use Rattle.qz_equations.specs.Ends.{store_at, coming, AreStores, ShowStores}
use Rattle.qz_wires.proofs.NetLists.{get_pushed}
use Rattle.qz_equations.proofs.ActLemmas.{get_written, other_number}

-- a store whose value is this
abbrev pub plain_store : Value → Store
plain_store v = record { value = v; pending = false }

-- the value that is known
pub known_value : (k : Know) → is_known k ≡ true → (v : Value) × (k ≡ Known v)
known_value Unknown h = absurd (false≢true h)
known_value (Known v) h = (v, refl)
known_value Clash h = absurd (false≢true h)

pub coming_mark : (class : Class) (ty : Ty) (v : Value) (d : Verdict) (decided : Bool) (value : Value) (idle : Bool) → SaysVerdict decided value idle d
    → is_told (settled_later d) ≡ true → decided ≡ (store_of class ty (Known v) (settled_later d)).pending
coming_mark Event ty v Nobody decided value idle h told = h.0
coming_mark Mem ty v Nobody decided value idle h told = h.0
coming_mark class ty v Open decided value idle h told = absurd (false≢true told)
coming_mark class ty v (One w) decided value idle h told = h.0
coming_mark class ty v Torn decided value idle h told = absurd (false≢true told)

pub coming_value : (class : Class) (ty : Ty) (v kept : Value) (d : Verdict) (decided : Bool) (value : Value) (idle : Bool) → SaysVerdict decided value idle d
    → is_told (settled_later d) ≡ true → kept ≡ unwritten class ty (plain_store v)
    → (if decided then value else kept) ≡ (store_of class ty (Known v) (settled_later d)).value
coming_value Event ty v kept Nobody decided value idle h told is = rw h.0 is
coming_value Mem ty v kept Nobody decided value idle h told is = rw h.0 is
coming_value class ty v kept Open decided value idle h told is = absurd (false≢true told)
coming_value class ty v kept (One w) decided value idle h told is = rw h.0 h.1
coming_value class ty v kept Torn decided value idle h told is = absurd (false≢true told)

pub chosen_store : (nets : Nets) (flag : Bool) (first second : StoreNets) (a b : Store) → ShowsStore nets first a → ShowsStore nets second b
    → (is_yes (if flag then value_at nets first.mark else value_at nets second.mark) ≡ (if flag then a else b).pending)
    × ((if flag then value_at nets first.value else value_at nets second.value) ≡ (if flag then a else b).value)
chosen_store nets true first second a b p q = (p.mark, p.value)
chosen_store nets false first second a b p q = (q.mark, q.value)

module _ (parts : SystemParts) (carry : Carry) (right : is_carry_right parts carry ≡ true) where
  rest_right : (option_map_or (λ (one : Inst). one.cell == carry.cell) (slice_get parts.instances carry.instance) false && is_bool_net parts carry.when) ≡ true
  rest_right = (and_parts (nat_lt carry.cell (length parts.cells)) _ right).1

  pub carry_cell_within : carry.cell < length parts.cells
  carry_cell_within = ltb-true carry.cell (length parts.cells) (and_parts (nat_lt carry.cell (length parts.cells)) _ right).0

  pub carry_net : type_in parts.table carry.when.0 ≡ Some Truth
  carry_net = the_type Truth (type_in parts.table carry.when.0) (and_parts (option_map_or (λ (one : Inst). one.cell == carry.cell) (slice_get parts.instances carry.instance) false) _ rest_right).1

  carry_instance : (one : Inst) × (slice_get parts.instances carry.instance ≡ Some one) × (one.cell ≡ carry.cell)
  carry_instance = by (slice_get parts.instances carry.instance) refl (and_parts (option_map_or (λ (one : Inst). one.cell == carry.cell) (slice_get parts.instances carry.instance) false) _ rest_right).0
    where
      by : (o : Option Inst) → slice_get parts.instances carry.instance ≡ o → option_map_or (λ (one : Inst). one.cell == carry.cell) o false ≡ true
          → (one : Inst) × (slice_get parts.instances carry.instance ≡ Some one) × (one.cell ≡ carry.cell)
      by None at h = absurd (false≢true h)
      by (Some one) at h = (one, at, eqb-true one.cell carry.cell h)

  pub carry_instance_within : carry.instance < length parts.instances
  carry_instance_within = slice_get_within parts.instances carry.instance carry_instance.0 carry_instance.1

  pub carry_cell_of : (cell : Cell) → slice_get parts.cells carry.cell ≡ Some cell → (one : Inst) → slice_get parts.instances carry.instance ≡ Some one
      → slice_get parts.cells one.cell ≡ Some cell
  carry_cell_of cell at one there =
      let same = same_Some one carry_instance.0 (sym there ∙ carry_instance.1) in
      ap (λ (x : Inst). slice_get parts.cells x.cell) same ∙ ap (slice_get parts.cells) carry_instance.2 ∙ at

pub stores_more : (types : NetTypes) (parts : SystemParts) (stores : List StoreNets) (place : StoreNets) (cell : Cell) → slice_get parts.cells (length stores) ≡ Some cell
    → AreStores types parts stores → IsStoreOf types cell.ty place → AreStores types parts (stores ++ place ∷ [])
stores_more types parts stores place cell next are here = record { each = λ n other p at is. by n other p at (get_pushed stores place n p is) }
  where
    by : (n : ℕ) (other : Cell) (p : StoreNets) → slice_get parts.cells n ≡ Some other → (slice_get stores n ≡ Some p) ⊎ ((n ≡ length stores) × (place ≡ p))
        → IsStoreOf types other.ty p
    by n other p at (inl old) = are.each n other p at old
    by n other p at (inr last) =
        let same = same_Some cell other (sym next ∙ ap (slice_get parts.cells) (sym last.0) ∙ at) in
        subst (λ (x : Cell). IsStoreOf types x.ty p) same (subst (IsStoreOf types cell.ty) last.1 here)

pub show_stores_more : (nets : Nets) (parts : SystemParts) (stores : List StoreNets) (place : StoreNets) (knows : List Know) (laters : List Later) (from : ℕ → Option ℕ)
    (cell : Cell) → slice_get parts.cells (length stores) ≡ Some cell → ShowStores nets parts stores knows laters from
    → ShowsStore nets place (coming knows laters cell (from (length stores))) → ShowStores nets parts (stores ++ place ∷ []) knows laters from
show_stores_more nets parts stores place knows laters from cell next shown here = λ n other p at is. by n other p at (get_pushed stores place n p is)
  where
    by : (n : ℕ) (other : Cell) (p : StoreNets) → slice_get parts.cells n ≡ Some other → (slice_get stores n ≡ Some p) ⊎ ((n ≡ length stores) × (place ≡ p))
        → ShowsStore nets p (coming knows laters other (from n))
    by n other p at (inl old) = shown n other p at old
    by n other p at (inr last) =
        let same = same_Some cell other (sym next ∙ ap (slice_get parts.cells) (sym last.0) ∙ at) in
        subst (λ (x : Cell). ShowsStore nets p (coming knows laters x (from n))) same
        (subst (λ m. ShowsStore nets p (coming knows laters cell (from m))) (sym last.0) (subst (λ q. ShowsStore nets q (coming knows laters cell (from (length stores)))) last.1 here))

pub stores_written : (types : NetTypes) (parts : SystemParts) (stores : List StoreNets) (i : ℕ) (place : StoreNets) (cell : Cell) → slice_get parts.cells i ≡ Some cell
    → AreStores types parts stores → IsStoreOf types cell.ty place → AreStores types parts (set stores i place)
stores_written types parts stores i place cell next are here = record { each = λ n other p at is. by n other p at (get_written stores i place n p is) }
  where
    by : (n : ℕ) (other : Cell) (p : StoreNets) → slice_get parts.cells n ≡ Some other → ((n ≡ i) × (place ≡ p)) ⊎ ((n ≢ i) × (slice_get stores n ≡ Some p))
        → IsStoreOf types other.ty p
    by n other p at (inl own) =
        let same = same_Some cell other (sym next ∙ ap (slice_get parts.cells) (sym own.0) ∙ at) in
        subst (λ (x : Cell). IsStoreOf types x.ty p) same (subst (IsStoreOf types cell.ty) own.1 here)
    by n other p at (inr old) = are.each n other p at old.1

-- which instance a cell takes its store from, with a carry before the others
abbrev pub with_carry : Carry → Bool → (ℕ → Option ℕ) → ℕ → Option ℕ
with_carry carry holds from n = if (carry.cell == n) && holds then Some carry.instance else from n

pub carry_written : (nets : Nets) (parts : SystemParts) (stores : List StoreNets) (knows : List Know) (laters : List Later) (from : ℕ → Option ℕ)
    (carry : Carry) (holds : Bool) (place : StoreNets) (cell : Cell) → slice_get parts.cells carry.cell ≡ Some cell → ShowStores nets parts stores knows laters from
    → ShowsStore nets place (if holds then store_at knows laters cell carry.instance else coming knows laters cell (from carry.cell))
    → ShowStores nets parts (set stores carry.cell place) knows laters (with_carry carry holds from)
carry_written nets parts stores knows laters from carry holds place cell next shown here = λ n other p at is. by n other p at (get_written stores carry.cell place n p is)
  where
    pulled : (b : Bool) → ShowsStore nets place (if b then store_at knows laters cell carry.instance else coming knows laters cell (from carry.cell))
        → ShowsStore nets place (coming knows laters cell (if b then Some carry.instance else from carry.cell))
    pulled true h = h
    pulled false h = h

    own_cell : (carry.cell == carry.cell) ≡ true
    own_cell = eq-eqb carry.cell carry.cell refl

    at_own : ShowsStore nets place (coming knows laters cell (with_carry carry holds from carry.cell))
    at_own = rw own_cell (pulled holds here)

    by : (n : ℕ) (other : Cell) (p : StoreNets) → slice_get parts.cells n ≡ Some other → ((n ≡ carry.cell) × (place ≡ p)) ⊎ ((n ≢ carry.cell) × (slice_get stores n ≡ Some p))
        → ShowsStore nets p (coming knows laters other (with_carry carry holds from n))
    by n other p at (inl own) =
        let same = same_Some cell other (sym next ∙ ap (slice_get parts.cells) (sym own.0) ∙ at) in
        subst (λ (x : Cell). ShowsStore nets p (coming knows laters x (with_carry carry holds from n))) same
        (subst (λ m. ShowsStore nets p (coming knows laters cell (with_carry carry holds from m))) (sym own.0)
        (subst (λ q. ShowsStore nets q (coming knows laters cell (with_carry carry holds from carry.cell))) own.1 at_own))
    by n other p at (inr old) =
        let no : (carry.cell == n) ≡ false = other_number carry.cell n old.0 in
        subst (λ o. ShowsStore nets p (coming knows laters other o)) (sym (ap (λ b. if b && holds then Some carry.instance else from n) no)) (shown n other p at old.1)
