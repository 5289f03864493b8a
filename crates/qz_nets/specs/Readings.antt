-- A table is read by any knowledge of leaves and nets that satisfies each net; what a number then is.
use Rattle.std.specs.Prelude.{ℕ, ◌≡◌, ◌≤◌, ◌<◌, List, length, Option, Some, slice_index_or}
use Rattle.qz_values.specs.declared.Ty.{Ty}
use Rattle.qz_values.specs.declared.Know.{Know}
use Rattle.qz_values.specs.declared.Know.TheVariants.{Unknown}
use Rattle.qz_values.specs.Fits.{HasType}
use Rattle.qz_nets.specs.declared.net.Net.{Net}
use Rattle.qz_nets.specs.declared.net.Net.TheVariants as net
use Rattle.qz_nets.specs.declared.table.NetTable.{NetTable}
use Rattle.qz_nets.specs.Nets.{net_know, net_type}
use Rattle.qz_nets.specs.Tables.{net_at, type_at}

-- how many nets there are: the numbers below it are in range
abbrev pub count : NetTable → ℕ
count table = length table.nets.entries

abbrev pub net_in : NetTable → ℕ → Option Net
net_in table n = net_at table.nets.entries n

abbrev pub type_in : NetTable → ℕ → Option Ty
type_in table n = type_at table.nets.entries n

-- what is known of each leaf and of each net, by their numbers
pub record Reading : Type 0 where
  pub leaf : ℕ → Know
  pub know : ℕ → Know

-- knowledge of each leaf of the table is of the leaf's type
abbrev pub AreLeaves : NetTable → (ℕ → Know) → Type 0
AreLeaves table leaf = (n number : ℕ) (ty : Ty) → net_in table n ≡ Some (net.Leaf number ty) → HasType ty (leaf number)

-- the knowledge satisfies each net: no order of computing is said
pub record Reads (v : Reading) (table : NetTable) : Type 0 where
  pub leaves : AreLeaves table v.leaf
  pub nets : (n : ℕ) (net : Net) → net_in table n ≡ Some net → v.know n ≡ net_know v.leaf v.know net

-- wherever the table is read, this is known of the number. A table that grew has no readings but those that the
-- older one had (`Extends`), so what was carried is carried on
abbrev pub Carries : NetTable → ℕ → (Reading → Know) → Type 0
Carries table n f = (v : Reading) → Reads v table → v.know n ≡ f v

-- the new table has the old one's nets under their numbers
pub record Extends (old new : NetTable) : Type 0 where
  pub longer : count old ≤ count new
  pub nets : (n : ℕ) (net : Net) → net_in old n ≡ Some net → net_in new n ≡ Some net
  pub types : (n : ℕ) (ty : Ty) → type_in old n ≡ Some ty → type_in new n ≡ Some ty
  pub reads : (v : Reading) → Reads v new → Reads v old

-- two readings whose leaves agree agree on every net of the table
abbrev pub AgreeOnAll : NetTable → Type 0
AgreeOnAll table = (v w : Reading) → Reads v table → Reads w table →
    ((n number : ℕ) (ty : Ty) → net_in table n ≡ Some (net.Leaf number ty) → v.leaf number ≡ w.leaf number) →
    (n : ℕ) → n < count table → v.know n ≡ w.know n

-- lists of what is known, by number; where there is none nothing is known
abbrev pub listed : List Know → ℕ → Know
listed knows n = slice_index_or knows n Unknown

abbrev pub reading_of : List Know → List Know → Reading
reading_of leaves values = record { leaf = listed leaves; know = listed values }

-- a net that has a type where nets have types of which the knowledge is
pub record CanBeRead (leaf know : ℕ → Know) (net : Net) : Type 0 where
  pub types : ℕ → Option Ty
  pub operands : (n : ℕ) (ty : Ty) → types n ≡ Some ty → HasType ty (know n)
  pub ty : Ty
  pub typed : net_type types net ≡ Some ty
