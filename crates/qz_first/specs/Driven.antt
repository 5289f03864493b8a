-- What the walk for a circuit appends, read as bits.
use Rattle.std.specs.Prelude.{ℕ, ◌≡◌, ◌<◌, ◌==◌, ◌&&◌, ◌||◌, List, ◌++◌, map, length, slice_index_or}
use Rattle.qz_first.specs.declared.driven.DrivenWrite.{DrivenWrite}
use Rattle.qz_first.specs.declared.driven.DrivenPlace.{DrivenPlace}
use Rattle.qz_verilog.specs.declared.nets.Ref.{Ref}
use Rattle.qz_first.specs.declared.wires.Wires.{Wires}
use Rattle.qz_first.specs.Mirror.{Bits, is_driven}
use Rattle.qz_first.specs.BitNets.{Nets, bit_at}
use Rattle.qz_first.specs.WireTable.{Reads, Has, IsSound}

-- the places where control rests, each with whether it does
abbrev pub rests_as_bits : Nets → List DrivenPlace → Bits
rests_as_bits nets rests = map (λ rest. (rest.place, bit_at nets rest.when)) rests

-- the outputs that are written, each with whether it is driven
abbrev pub writes_as_bits : Nets → List DrivenWrite → Bits
writes_as_bits nets writes = map (λ write. (write.output, bit_at nets write.guard && bit_at nets write.value)) writes

-- whatever settles the table, entries with these bits were appended
abbrev pub AppendsRests : Wires → List DrivenPlace → List DrivenPlace → (Nets → Bits) → Type 0
AppendsRests wires old new bits = (nets : Nets) → Reads nets wires → rests_as_bits nets new ≡ rests_as_bits nets old ++ bits nets

abbrev pub AppendsWrites : Wires → List DrivenWrite → List DrivenWrite → (Nets → Bits) → Type 0
AppendsWrites wires old new bits = (nets : Nets) → Reads nets wires → writes_as_bits nets new ≡ writes_as_bits nets old ++ bits nets

-- nets by number, each true exactly where some entry of its number is
abbrev pub AreDriven : Nets → Bits → List Ref → Type 0
AreDriven nets bits row = (k : ℕ) (d : Ref) → k < length row → bit_at nets (slice_index_or row k d) ≡ is_driven bits k

-- the same, where nets that stand so far are driven by the entries that are left
abbrev pub AreDrivenAfter : Nets → Bits → List Ref → Bits → Type 0
AreDrivenAfter nets left row bits =
    (k : ℕ) (d : Ref) → k < length row → (bit_at nets (slice_index_or row k d) || is_driven left k) ≡ is_driven bits k

-- one more net that drives a number's
abbrev pub IsDrivenMore : Nets → ℕ → Ref → List Ref → List Ref → Type 0
IsDrivenMore nets number more old new =
    (k : ℕ) (d : Ref) → k < length new
    → bit_at nets (slice_index_or new k d) ≡ (bit_at nets (slice_index_or old k d) || ((number == k) && bit_at nets more))

-- a sound table that has the nets of these places
pub record DeclaresRests (registers : ℕ) (wires : Wires) (rests : List DrivenPlace) : Type 0 where
  pub sound : IsSound registers wires
  pub each : (k : ℕ) (d : DrivenPlace) → k < length rests → Has registers wires (slice_index_or rests k d).when

-- and of these writes
pub record DeclaresWrites (registers : ℕ) (wires : Wires) (writes : List DrivenWrite) : Type 0 where
  pub sound : IsSound registers wires
  pub guards : (k : ℕ) (d : DrivenWrite) → k < length writes → Has registers wires (slice_index_or writes k d).guard
  pub values : (k : ℕ) (d : DrivenWrite) → k < length writes → Has registers wires (slice_index_or writes k d).value

-- and of a row of nets
pub record DeclaresRow (registers : ℕ) (wires : Wires) (row : List Ref) : Type 0 where
  pub sound : IsSound registers wires
  pub each : (k : ℕ) (d : Ref) → k < length row → Has registers wires (slice_index_or row k d)
