-- The law of shapes: a system with a program's cells, places and shape has its permitted valuations.
use Rattle.std.specs.Prelude.{◌≡◌, [], length}
use Rattle.qz_syntax.specs.declared.declarations.Dir.TheVariants as dir
use Rattle.qz_syntax.specs.declared.modules.Whole.{Whole}
use Rattle.qz_syntax.specs.WellFormed.{IsWellFormed}
use Rattle.qz_meaning.specs.Programs.{formals_of, program_of}
use Rattle.qz_system.specs.declared.parts.SystemParts.{SystemParts}
use Rattle.qz_closing.specs.ShapesOf.{shape_of}
use Rattle.qz_closing.specs.Closes.{HasParts, HasValuations}

-- the parts are named as the program's, and have its shape
pub record HasShape (w : Whole) (parts : SystemParts) : Type 0 where
  pub named : HasParts w parts
  pub shape : parts.shape ≡ shape_of (length (formals_of dir.Out w.module)) w.module.body

-- then the permitted valuations are the program's
abbrev pub ShapesPermitAlike : Type 0
ShapesPermitAlike = (w : Whole) (parts : SystemParts) → IsWellFormed [] w.module → length w.names.places ≡ length w.module.labels
    → HasShape w parts → HasValuations (program_of w.module) parts
