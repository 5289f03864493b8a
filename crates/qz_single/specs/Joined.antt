-- The two halves of a system's parts: what it has of a program beside its nets, and what it has of its nets.
use Rattle.std.specs.Prelude.{◌≡◌, ◌++◌, map, length}
use Rattle.std.specs.List.{filter_map}
use Rattle.qz_syntax.specs.declared.declarations.Dir.TheVariants as dir
use Rattle.qz_syntax.specs.declared.modules.Module.{Module}
use Rattle.qz_syntax.specs.declared.modules.Whole.{Whole}
use Rattle.qz_syntax.specs.Sizes.{whole_size_of}
use Rattle.qz_meaning.specs.Programs.{formals_of}
use Rattle.qz_closing.specs.ProgramParts.{ports_in, cells_of, insts_of}
use Rattle.qz_closing.specs.ShapesOf.{shape_of}
use Rattle.qz_single.specs.declared.compiled.Compiled.{Compiled}
use Rattle.qz_single.specs.declared.named.Named.{Named}
use Rattle.qz_single.specs.declared.wired.Wired.{Wired}
use Rattle.qz_single.specs.Numbering.{leaf_of, act_of, next_of, carry_of}

-- names, texts, the shape and the size are the program's
pub record IsNamed (w : Whole) (named : Named) : Type 0 where
  pub name : named.name ≡ w.module.name
  pub inputs : named.inputs ≡ ports_in dir.In w.module.formals
  pub outputs : named.outputs ≡ ports_in dir.Out w.module.formals
  pub cells : named.cells ≡ cells_of w
  pub shape : named.shape ≡ shape_of (length (formals_of dir.Out w.module)) w.module.body
  pub places : named.places ≡ w.names.places
  pub instances : named.instances ≡ insts_of w
  pub units : named.units ≡ whole_size_of w.module

-- leaves, and what goes by nets, are what was compiled, by the module's numbers
pub record IsWired (m : Module) (c : Compiled) (wired : Wired) : Type 0 where
  pub leaves : wired.leaves ≡ map (leaf_of m) c.circuit.leaves.keys
  pub acts : wired.acts ≡ map (act_of m) (c.starting.items ++ c.resuming.items)
  pub nexts : wired.nexts ≡ filter_map next_of (c.entering.items ++ c.moving.items)
  pub carries : wired.carries ≡ filter_map (carry_of m) (c.entering.items ++ c.moving.items)
