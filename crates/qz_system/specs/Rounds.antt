-- One round of a system: what its instances and their delayed values settle to, from what was known of instances
-- before.
use Rattle.std.specs.Prelude.{ℕ, ◌≡◌, Bool, true, false, ◌&&◌, ◌||◌, nat_lt, List, map, length, Option, Some, slice_get, slice_index_or, if◌then◌else◌}
use Rattle.std.specs.Option.{option_map_or}
use Rattle.qz_values.specs.declared.Ty.{Ty}
use Rattle.qz_values.specs.declared.Know.{Know}
use Rattle.qz_values.specs.declared.Know.TheVariants.{Unknown, Known}
use Rattle.qz_values.specs.Values.{value_of, truth_of}
use Rattle.qz_values.specs.Fits.{HasType}
use Rattle.qz_nets.specs.Readings.{Reads, listed}
use Rattle.qz_syntax.specs.declared.places.Later.{Later}
use Rattle.qz_syntax.specs.declared.places.Later.TheVariants as later
use Rattle.qz_syntax.specs.declared.places.Store.{Store}
use Rattle.qz_syntax.specs.declared.declarations.Port.{Port}
use Rattle.qz_meaning.specs.Scenes.{default_store}
use Rattle.qz_meaning.specs.Verdicts.{Verdict}
use Rattle.qz_meaning.specs.Settling.{with_pending, settled, settled_later}
use Rattle.qz_system.specs.declared.parts.SystemLeaf.{SystemLeaf}
use Rattle.qz_system.specs.declared.parts.SystemLeaf.TheVariants as leaf
use Rattle.qz_system.specs.declared.parts.Cell.{Cell}
use Rattle.qz_system.specs.declared.parts.Inst.{Inst}
use Rattle.qz_system.specs.declared.parts.SystemParts.{SystemParts}
use Rattle.qz_system.specs.declared.valuation.Valuation.{Valuation}
use Rattle.qz_system.specs.Parts.{instance_type}
use Rattle.qz_system.specs.Valuations.{rests_at, store_of, lives_at}
use Rattle.qz_system.specs.Writers.{held, verdict_of}

-- what is known of a leaf: inputs and where control rests are known
abbrev pub leaf_known : SystemParts → Valuation → List Know → SystemLeaf → Know
leaf_known parts v before (leaf.Input n) =
    option_map_or (λ (port : Port). Known (value_of port.ty (slice_index_or v.inputs.items n 0))) (slice_get parts.inputs n) Unknown
leaf_known parts v before (leaf.Now n) = slice_index_or before n Unknown
leaf_known parts v before (leaf.At n) = Known (truth_of (rests_at v n))
leaf_known parts v before leaf.Started = Known (truth_of v.started)

abbrev pub leaves_known : SystemParts → Valuation → List Know → List Know
leaves_known parts v before = map (λ one. leaf_known parts v before one) parts.leaves

-- a cell's store as a store of its type
abbrev pub stored : Ty → Bool × ℕ → Store
stored ty store = record { value = value_of ty store.1; pending = store.0 }

-- whether an instance begins with the store of its cell: that of an output, and that with mark zero of a cell in
-- whose scope control rests
abbrev pub keeps : SystemParts → Valuation → Inst → Bool
keeps parts v one = nat_lt one.cell (length parts.outputs) || (one.zero && lives_at parts v one.cell)

-- the store with which an instance of a cell begins: the cell's, or a new one
abbrev pub begins : SystemParts → Valuation → Inst → Cell → Store
begins parts v one cell = if keeps parts v one then stored cell.ty (store_of v one.cell) else default_store cell.ty

-- what an instance settles to by the verdict on its writers
abbrev pub settles : SystemParts → Valuation → Inst → Verdict → Know
settles parts v one writers =
    option_map_or (λ (cell : Cell). settled cell.class cell.ty (begins parts v one cell) (with_pending (begins parts v one cell) writers))
    (slice_get parts.cells one.cell) Unknown

-- what is known of each instance is of the type of its cell
abbrev pub HaveTypes : SystemParts → List Know → Type 0
HaveTypes parts knows = (n : ℕ) (ty : Ty) → instance_type parts n ≡ Some ty → HasType ty (slice_index_or knows n Unknown)

-- each instance is what it settles to by the verdict that is held for it
abbrev pub AreSettled : SystemParts → Valuation → List Later → List Know → Type 0
AreSettled parts v verdicts knows = (n : ℕ) (one : Inst) → slice_get parts.instances n ≡ Some one
    → slice_index_or knows n Unknown ≡ settles parts v one (held (slice_index_or verdicts n later.Absent))

-- instances and their delayed values are what they settle to by what is known of the nets
pub record AreSettledBy (parts : SystemParts) (v : Valuation) (know : ℕ → Know) (knows : List Know) (delayed : List Later) : Type 0 where
  pub values : (n : ℕ) (one : Inst) → slice_get parts.instances n ≡ Some one
      → slice_get knows n ≡ Some (settles parts v one (verdict_of know n false parts.acts))
  pub laters : (n : ℕ) (one : Inst) → slice_get parts.instances n ≡ Some one
      → slice_get delayed n ≡ Some (settled_later (verdict_of know n true parts.acts))

-- the round after one in which this was known of the instances: what it gives of them and of their delayed values.
-- What is known of the nets is any knowledge that satisfies each of them, and there is one alone
pub record IsRound (parts : SystemParts) (v : Valuation) (before after : List Know) (delayed : List Later) : Type 0 where
  pub know : ℕ → Know
  pub reads : Reads (record { leaf = listed (leaves_known parts v before); know = know }) parts.table
  pub are_settled : AreSettledBy parts v know after delayed
