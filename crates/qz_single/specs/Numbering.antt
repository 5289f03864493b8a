-- By which numbers a system has what a module's nets speak of.
use Rattle.std.specs.Prelude.{ℕ, ◌+◌, List, [], ◌∷◌, Option, Some, None, if◌then◌else◌}
use Rattle.qz_nets.specs.declared.net.NetId.{NetId}
use Rattle.qz_syntax.specs.declared.declarations.Dir.TheVariants as dir
use Rattle.qz_syntax.specs.declared.expressions.Var.TheVariants as var
use Rattle.qz_syntax.specs.declared.modules.Module.{Module}
use Rattle.qz_syntax.specs.Numbers.{contains}
use Rattle.qz_meaning.specs.Instances.{Instance, is_same_instance, formal_instance, local_instance}
use Rattle.qz_meaning.specs.Programs.{formals_of, instances_of}
use Rattle.qz_control.specs.declared.leaves.LeafKind.{LeafKind}
use Rattle.qz_control.specs.declared.leaves.LeafKind.TheVariants as kind
use Rattle.qz_surface.specs.declared.writes.NetWrite.{NetWrite}
use Rattle.qz_moves.specs.declared.spots.NetSpot.{NetSpot}
use Rattle.qz_moves.specs.declared.spots.Rest.{Rest}
use Rattle.qz_moves.specs.declared.spots.Rest.TheVariants as rest
use Rattle.qz_system.specs.declared.parts.SystemLeaf.{SystemLeaf}
use Rattle.qz_system.specs.declared.parts.SystemLeaf.TheVariants as leaf
use Rattle.qz_system.specs.declared.parts.Act.{Act}
use Rattle.qz_system.specs.declared.parts.Carry.{Carry}
use Rattle.qz_closing.specs.ProgramParts.{place_of, cell_number}

-- how many instances stand before this one: its number, where it is among them
abbrev pub place_among : Instance → List Instance → ℕ
place_among i [] = 0
place_among i (one ∷ others) = if is_same_instance one i then 0 else place_among i others + 1

abbrev pub instance_place : Module → Instance → ℕ
instance_place m i = place_among i (instances_of m)

-- what a formal's leaf stands for: an input, or the instance of an output
abbrev pub formal_leaf : Module → ℕ → SystemLeaf
formal_leaf m n =
    if contains (formals_of dir.In m) n then leaf.Input (place_of n (formals_of dir.In m)) else leaf.Now (instance_place m (formal_instance n))

-- what a leaf stands for. A whole program is resumed where it is started, and its nets have no other leaf
abbrev pub leaf_of : Module → LeafKind → SystemLeaf
leaf_of m (kind.Formal n) = formal_leaf m n
leaf_of m (kind.Local n mark) = leaf.Now (instance_place m (local_instance n mark))
leaf_of m (kind.At place) = leaf.At place
leaf_of m kind.Start = leaf.Started
leaf_of m kind.Drop = leaf.Started
leaf_of m kind.Act = leaf.Started
leaf_of m kind.Stay = leaf.Started
leaf_of m kind.Leave = leaf.Started
leaf_of m (kind.CallMayEnd n) = leaf.Started
leaf_of m (kind.CallInside n) = leaf.Started
leaf_of m (kind.CallEnds n) = leaf.Started
leaf_of m (kind.CallEndsAtOnce n mark) = leaf.Started

-- a write as an act on the instance with its number
abbrev pub act_of : Module → NetWrite → Act
act_of m w = record {
  instance = instance_place m (record { variable = w.target; mark = w.mark });
  delayed = w.delayed;
  guard = w.guard;
  value = w.value;
}

-- a place where control rests next
abbrev pub next_at : NetId → Rest → Option (ℕ × NetId)
next_at when (rest.At place) = Some (place, when)
next_at when (rest.Keeps n mark) = None

abbrev pub next_of : NetSpot → Option (ℕ × NetId)
next_of spot = next_at spot.when spot.rest

-- a local that is kept or entered, by its cell and by its instance with the mark
abbrev pub carry_by : Module → NetId → Rest → Option Carry
carry_by m when (rest.At place) = None
carry_by m when (rest.Keeps n mark) =
    Some (record { cell = cell_number m (var.Local n); instance = instance_place m (local_instance n mark); when = when })

abbrev pub carry_of : Module → NetSpot → Option Carry
carry_of m spot = carry_by m spot.when spot.rest
