-- What must hold of the parts of a system.
use Rattle.std.specs.Prelude.{ℕ, ◌≤◌, ◌+◌, ◌==◌, Bool, true, false, ◌&&◌, ◌||◌, not, nat_lt, IsTrue, List, [], ◌∷◌, ◌++◌, map, length, Option, Some, None, slice_get, if◌then◌else◌}
use Rattle.std.specs.Option.{option_map, option_map_or, option_and_then}
use Rattle.std.specs.List.{list_all}
use Rattle.qz_values.specs.declared.Ty.{Ty}
use Rattle.qz_values.specs.declared.Ty.TheVariants.{Bool as Truth}
use Rattle.qz_values.specs.Types.{is_type, is_same_type}
use Rattle.qz_nets.specs.declared.net.Net.{Net}
use Rattle.qz_nets.specs.declared.net.NetId.{NetId}
use Rattle.qz_nets.specs.declared.net.Net.TheVariants as net
use Rattle.qz_nets.specs.declared.table.NetTable.{NetTable}
use Rattle.qz_nets.specs.Readings.{net_in, type_in}
use Rattle.qz_syntax.specs.declared.declarations.Port.{Port}
use Rattle.qz_syntax.specs.declared.names.Name.{Name}
use Rattle.qz_syntax.specs.DoubleNames.{are_distinct}
use Rattle.qz_system.specs.declared.parts.SystemLeaf.{SystemLeaf}
use Rattle.qz_system.specs.declared.parts.SystemLeaf.TheVariants as leaf
use Rattle.qz_system.specs.declared.parts.Cell.{Cell}
use Rattle.qz_system.specs.declared.parts.Inst.{Inst}
use Rattle.qz_system.specs.declared.parts.Act.{Act}
use Rattle.qz_system.specs.declared.parts.Carry.{Carry}
use Rattle.qz_system.specs.declared.parts.SystemParts.{SystemParts}
use Rattle.qz_system.specs.Shapes.{shape_places, shape_cells}

-- how many inputs, cells, places or instances there may be
abbrev pub most : ℕ
most = 200000

-- the type of an input, of a cell, and of an instance's cell, if there is one
abbrev pub input_type : SystemParts → ℕ → Option Ty
input_type parts n = option_map (λ (port : Port). port.ty) (slice_get parts.inputs n)

abbrev pub cell_type : SystemParts → ℕ → Option Ty
cell_type parts n = option_map (λ (cell : Cell). cell.ty) (slice_get parts.cells n)

abbrev pub instance_type : SystemParts → ℕ → Option Ty
instance_type parts n = option_and_then (λ (one : Inst). cell_type parts one.cell) (slice_get parts.instances n)

-- whether a type is there, and is this one
abbrev pub is_the : Ty → Option Ty → Bool
is_the ty other = option_map_or (λ t. is_same_type t ty) other false

-- whether two types are there, and are one
abbrev pub are_one : Option Ty → Option Ty → Bool
are_one a b = option_map_or (λ ty. is_the ty b) a false

-- the type of what a leaf stands for, if there is that
abbrev pub leaf_stands : SystemParts → SystemLeaf → Option Ty
leaf_stands parts (leaf.Input n) = input_type parts n
leaf_stands parts (leaf.Now n) = instance_type parts n
leaf_stands parts (leaf.At n) = if nat_lt n (length parts.places) then Some Truth else None
leaf_stands parts leaf.Started = Some Truth

-- the type of the leaf with this number, if there is one
abbrev pub leaf_at : SystemParts → ℕ → Option Ty
leaf_at parts n = option_and_then (λ one. leaf_stands parts one) (slice_get parts.leaves n)

-- whether a net, if it is a leaf, is one of the leaves and of its type
abbrev pub is_net_right : SystemParts → Net → Bool
is_net_right parts (net.Const value) = true
is_net_right parts (net.Leaf number ty) = is_the ty (leaf_at parts number)
is_net_right parts (net.Un op a) = true
is_net_right parts (net.Bin op a b) = true
is_net_right parts (net.Choose c a b) = true
is_net_right parts (net.Bit a index) = true
is_net_right parts (net.Slice a high low) = true
is_net_right parts (net.Concat a b) = true

-- whether what a leaf stands for is there
abbrev pub is_leaf_right : SystemParts → SystemLeaf → Bool
is_leaf_right parts one = option_map_or (λ ty. true) (leaf_stands parts one) false

-- whether a net is there, and is a bool
abbrev pub is_bool_net : SystemParts → NetId → Bool
is_bool_net parts id = is_the Truth (type_in parts.table id.0)

-- whether an act writes a value of its type to an instance that there is
abbrev pub is_act_right : SystemParts → Act → Bool
is_act_right parts act =
    is_bool_net parts act.guard && are_one (instance_type parts act.instance) (type_in parts.table act.value.0)

-- whether the place of an entry is there
abbrev pub is_next_right : SystemParts → ℕ × NetId → Bool
is_next_right parts one = nat_lt one.0 (length parts.places) && is_bool_net parts one.1

-- whether the cell of a carry is there, and the instance is one of it
abbrev pub is_carry_right : SystemParts → Carry → Bool
is_carry_right parts carry =
    nat_lt carry.cell (length parts.cells)
    && (option_map_or (λ (one : Inst). one.cell == carry.cell) (slice_get parts.instances carry.instance) false && is_bool_net parts carry.when)

-- whether the first cells have the types of the outputs in their order
abbrev pub begin_with : List Port → List Cell → Bool
begin_with [] cells = true
begin_with (port ∷ ports) [] = false
begin_with (port ∷ ports) (cell ∷ cells) = is_same_type port.ty cell.ty && begin_with ports cells

-- whether an instance comes right after another in instance order: it is of a later cell, or of the same one with a
-- loop's mark. Of one cell, the mark zero comes first
abbrev pub comes_after : Inst → Inst → Bool
comes_after one next = nat_lt one.cell next.cell || ((one.cell == next.cell) && not next.zero)

-- whether instances are in instance order after one
abbrev pub go_on : Inst → List Inst → Bool
go_on one [] = true
go_on one (next ∷ others) = comes_after one next && go_on next others

abbrev pub are_in_order : List Inst → Bool
are_in_order [] = true
are_in_order (one ∷ others) = go_on one others

-- how many instances a cell has
abbrev pub count_of : ℕ → List Inst → ℕ
count_of cell [] = 0
count_of cell (one ∷ others) = (if one.cell == cell then 1 else 0) + count_of cell others

-- whether each of so many outputs has one instance
abbrev pub have_one : List Port → ℕ → List Inst → Bool
have_one [] cell instances = true
have_one (port ∷ ports) cell instances = (count_of cell instances == 1) && have_one ports (cell + 1) instances

-- whether each instance is of a cell that there is
abbrev pub is_instance_right : SystemParts → Inst → Bool
is_instance_right parts one = nat_lt one.cell (length parts.cells)

-- the names of some ports
abbrev pub port_names : List Port → List Name
port_names ports = map (λ (port : Port). port.name) ports

-- whether these are the numbers from one up to another, each once and in rising order
abbrev pub counts_up : ℕ → ℕ → List ℕ → Bool
counts_up from end [] = from == end
counts_up from end (n ∷ numbers) = (n == from) && counts_up (from + 1) end numbers

-- inputs, cells, places and instances are not too many
pub record FitInSize (parts : SystemParts) : Type 0 where
  pub few_inputs : length parts.inputs ≤ most
  pub few_cells : length parts.cells ≤ most
  pub few_places : length parts.places ≤ most
  pub few_instances : length parts.instances ≤ most

-- types are types that there are, no two ports have one name, and the first cells are the outputs
pub record AreDeclared (parts : SystemParts) : Type 0 where
  pub input_types : IsTrue (list_all (λ (port : Port). is_type port.ty) parts.inputs)
  pub types_of_cells : IsTrue (list_all (λ (cell : Cell). is_type cell.ty) parts.cells)
  pub names : IsTrue (are_distinct (port_names (parts.inputs ++ parts.outputs)))
  pub first_cells : IsTrue (begin_with parts.outputs parts.cells)

-- instances are of cells, in instance order, and each output has exactly one
pub record AreOrdered (parts : SystemParts) : Type 0 where
  pub instance_cells : IsTrue (list_all (λ one. is_instance_right parts one) parts.instances)
  pub instance_order : IsTrue (are_in_order parts.instances)
  pub output_instances : IsTrue (have_one parts.outputs 0 parts.instances)

-- nets read leaves that there are, of their types; acts, next places and carries go by nets of theirs
pub record AreWired (parts : SystemParts) : Type 0 where
  pub leaf_types : IsTrue (list_all (λ one. is_leaf_right parts one) parts.leaves)
  pub net_leaves : IsTrue (list_all (λ (entry : Net × Ty). is_net_right parts entry.0) parts.table.nets.entries)
  pub acts_fit : IsTrue (list_all (λ act. is_act_right parts act) parts.acts)
  pub nexts_fit : IsTrue (list_all (λ one. is_next_right parts one) parts.nexts)
  pub carries_fit : IsTrue (list_all (λ carry. is_carry_right parts carry) parts.carries)

-- the shape has each place once, and each cell that is no output once in a scope, both in rising order
pub record AreShaped (parts : SystemParts) : Type 0 where
  pub all_places : IsTrue (counts_up 0 (length parts.places) (shape_places parts.shape))
  pub all_locals : IsTrue (counts_up (length parts.outputs) (length parts.cells) (shape_cells parts.shape))

-- what must hold of the parts of a system
pub record AreParts (parts : SystemParts) : Type 0 where
  pub fits_in_size : FitInSize parts
  pub is_declared : AreDeclared parts
  pub is_ordered : AreOrdered parts
  pub is_wired : AreWired parts
  pub is_shaped : AreShaped parts
