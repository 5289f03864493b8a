-- Where two rails say the same.
use Rattle.std.specs.Prelude.{ℕ, ◌≡◌, ◌↔◌, Bool, true, false, not, ◌&&◌, ◌||◌, List, length}
use Rattle.qz_dd.specs.declared.table.Table.{Table}
use Rattle.qz_dd.specs.Tables.{Reading, Reads, value_in}
use Rattle.qz_values.specs.declared.Ty.{Ty}
use Rattle.qz_rails.specs.declared.rail.Rail.{Rail}
use Rattle.qz_rails.specs.Bits.{exclusive, same_from}
use Rattle.qz_rails.specs.Rails.{know_in}

-- whether one value is known and the other isn't, or both are and differ
abbrev pub are_unlike : Bool → List Bool → Bool → List Bool → Bool
are_unlike p xs q ys = exclusive p q || (p && not (same_from true xs ys))

-- the number is true exactly where the rails say different things
abbrev pub IsDifference : Table → Ty → Rail → Rail → ℕ → Type 0
IsDifference table ty a b d = (reading : Reading) → Reads reading table →
    (reading.values d ≡ false) ↔ (know_in reading ty a ≡ know_in reading ty b)

-- the reading of a table at these bits
abbrev pub at_bits : Table → List Bool → Reading
at_bits table bits = record { bits = bits; values = λ d. value_in table d bits }

-- both rails say the same at each valuation at which the number is true
abbrev pub AreSame : Table → Ty → ℕ → Rail → Rail → Type 0
AreSame table ty permitted a b = (bits : List Bool) → length bits ≡ table.vars → value_in table permitted bits ≡ true →
    know_in (at_bits table bits) ty a ≡ know_in (at_bits table bits) ty b
