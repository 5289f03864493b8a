-- A circuit as it grows: what its nets are known to be, in every view of it.
use Rattle.std.specs.Prelude.{ℕ, ◌≡◌, Some, slice_get}
use Rattle.qz_values.specs.declared.Ty.{Ty}
use Rattle.qz_values.specs.declared.Ty.TheVariants.{Bool as Truth}
use Rattle.qz_values.specs.declared.Know.{Know}
use Rattle.qz_nets.specs.declared.net.NetId.{NetId}
use Rattle.qz_nets.specs.Readings.{Reading, Reads, type_in}
use Rattle.qz_control.specs.declared.leaves.LeafKind.{LeafKind}
use Rattle.qz_control.specs.declared.circuit.Circuit.{Circuit}
use Rattle.qz_control.specs.Leaves.{Leaves, leaf_known}

-- an assignment of leaves, and knowledge of leaves and nets by their numbers
pub record View : Type 0 where
  pub leaves : Leaves
  pub nets : Reading

-- the knowledge satisfies each net, and each leaf is what is assigned to its kind
pub record Views (v : View) (c : Circuit) : Type 0 where
  pub nets : Reads v.nets c.table
  pub leaves : (number : ℕ) (kind : LeafKind) → slice_get c.leaves.keys number ≡ Some kind → v.nets.leaf number ≡ leaf_known v.leaves kind

-- what is known of a net
abbrev pub known : View → NetId → Know
known v id = v.nets.know id.0

-- in each view the net is known as this
abbrev pub Means : Circuit → NetId → (View → Know) → Type 0
Means c id f = (v : View) → Views v c → known v id ≡ f v

-- the net is a bool
pub record IsBool (c : Circuit) (id : NetId) : Type 0 where
  pub typed : type_in c.table id.0 ≡ Some Truth

-- what was there is there, and means what it meant
pub record Grows (old new : Circuit) : Type 0 where
  pub types : (id : NetId) (ty : Ty) → type_in old.table id.0 ≡ Some ty → type_in new.table id.0 ≡ Some ty
  pub bools : (id : NetId) → IsBool old id → IsBool new id
  pub views : (v : View) → Views v new → Views v old
