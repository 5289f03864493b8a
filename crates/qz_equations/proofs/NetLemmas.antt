-- Nets of a table that have types.
use Rattle.std.proofs.Common.{◌≡◌, ℕ, ◌<◌, Option, Some, None, refl}
use Rattle.std.specs.Prelude.{slice_get}
use Rattle.std.specs.Option.{option_map}
use Rattle.std.proofs.lemmas.Option.{slice_get_within}
use Rattle.qz_values.specs.declared.Ty.{Ty}
use Rattle.qz_nets.specs.declared.net.Net.{Net}
use Rattle.qz_nets.specs.declared.table.NetTable.{NetTable}
use Rattle.qz_nets.specs.Readings.{count, type_in}

-- a net that has a type is there
pub net_within : (table : NetTable) (n : ℕ) (ty : Ty) → type_in table n ≡ Some ty → n < count table
net_within table n ty is = by (slice_get table.nets.entries n) refl is
  where
    by : (o : Option (Net × Ty)) → slice_get table.nets.entries n ≡ o → option_map (λ (e : Net × Ty). e.1) o ≡ Some ty → n < count table
    by None at h = absurd (cc)
    by (Some e) at h = slice_get_within table.nets.entries n e at
