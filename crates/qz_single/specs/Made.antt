-- The parts of a system that are made of a whole program of one module.
use Rattle.std.specs.Prelude.{◌≡◌, ◌++◌, map, length}
use Rattle.std.specs.List.{filter_map}
use Rattle.qz_syntax.specs.declared.declarations.Dir.TheVariants as dir
use Rattle.qz_syntax.specs.declared.modules.Whole.{Whole}
use Rattle.qz_meaning.specs.Programs.{formals_of}
use Rattle.qz_system.specs.declared.parts.SystemParts.{SystemParts}
use Rattle.qz_closing.specs.ShapesOf.{shape_of}
use Rattle.qz_closing.specs.Closes.{HasParts}
use Rattle.qz_single.specs.declared.compiled.Compiled.{Compiled}
use Rattle.qz_single.specs.Numbering.{leaf_of, act_of, next_of, carry_of}
use Rattle.qz_single.specs.Compiled.{IsCompiled}

-- the parts have what was compiled of the program's module, by numbers
pub record IsMade (w : Whole) (c : Compiled) (parts : SystemParts) : Type 0 where
  pub named : HasParts w parts
  pub shape : parts.shape ≡ shape_of (length (formals_of dir.Out w.module)) w.module.body
  pub table : parts.table ≡ c.circuit.table
  pub leaves : parts.leaves ≡ map (leaf_of w.module) c.circuit.leaves.keys
  pub acts : parts.acts ≡ map (act_of w.module) (c.starting.items ++ c.resuming.items)
  pub nexts : parts.nexts ≡ filter_map next_of (c.entering.items ++ c.moving.items)
  pub carries : parts.carries ≡ filter_map (carry_of w.module) (c.entering.items ++ c.moving.items)

-- the parts are those of a system of the whole program
pub record IsSystemOf (w : Whole) (parts : SystemParts) : Type 0 where
  pub compiled : Compiled
  pub is_compiled : IsCompiled w.module compiled
  pub is_made : IsMade w compiled parts
