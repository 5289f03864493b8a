-- The ports, cells and instances of a whole program, as a system of it has them.
use Rattle.std.specs.Prelude.{ℕ, ◌+◌, ◌==◌, List, [], ◌∷◌, ◌++◌, map, length, if◌then◌else◌}
use Rattle.std.specs.List.{range_with_len}
use Rattle.qz_syntax.specs.declared.declarations.Dir.{Dir}
use Rattle.qz_syntax.specs.declared.declarations.Dir.TheVariants as dir
use Rattle.qz_syntax.specs.declared.declarations.Formal.{Formal}
use Rattle.qz_syntax.specs.declared.declarations.Port.{Port}
use Rattle.qz_syntax.specs.declared.expressions.Var.{Var}
use Rattle.qz_syntax.specs.declared.expressions.Var.TheVariants as var
use Rattle.qz_syntax.specs.declared.modules.Module.{Module}
use Rattle.qz_syntax.specs.declared.modules.Whole.{Whole}
use Rattle.qz_syntax.specs.declared.places.Mark.TheVariants as mark
use Rattle.qz_meaning.specs.Instances.{Instance, is_same_mark}
use Rattle.qz_meaning.specs.Programs.{is_same_direction, formals_of, class_in, type_in, delays, instances_of}
use Rattle.qz_interp.specs.InstanceTexts.{variable_text, instance_text}
use Rattle.qz_system.specs.declared.parts.Cell.{Cell}
use Rattle.qz_system.specs.declared.parts.Inst.{Inst}

abbrev pub port_of : Formal → Port
port_of formal = record { name = formal.name; ty = formal.ty }

-- the ports of one direction, in the order of the formals
abbrev pub ports_in : Dir → List Formal → List Port
ports_in d [] = []
ports_in d (formal ∷ formals) = if is_same_direction formal.dir d then port_of formal ∷ ports_in d formals else ports_in d formals

-- the variables that keep something: the outputs, and then the locals in tree order
abbrev pub variables_of : Module → List Var
variables_of m = map var.Formal (formals_of dir.Out m) ++ map var.Local (range_with_len 0 (length m.decls))

-- a variable's cell
abbrev pub cell_of : Whole → Var → Cell
cell_of w variable = record {
  class = class_in w.module variable;
  ty = type_in w.module variable;
  marked = delays variable w.module.body;
  text = variable_text w variable;
}

abbrev pub cells_of : Whole → List Cell
cells_of w = map (cell_of w) (variables_of w.module)

-- how many numbers stand before this one
abbrev pub place_of : ℕ → List ℕ → ℕ
place_of n [] = 0
place_of n (x ∷ xs) = if x == n then 0 else place_of n xs + 1

-- the number of a variable's cell
abbrev pub cell_number : Module → Var → ℕ
cell_number m (var.Formal n) = place_of n (formals_of dir.Out m)
cell_number m (var.Local n) = length (formals_of dir.Out m) + n
cell_number m (var.Bound n) = 0

-- an instance, as a system has it
abbrev pub inst_of : Whole → Instance → Inst
inst_of w i = record {
  cell = cell_number w.module i.variable;
  zero = is_same_mark i.mark mark.Zero;
  text = instance_text w i;
}

abbrev pub insts_of : Whole → List Inst
insts_of w = map (inst_of w) (instances_of w.module)
