-- The law of closing: the system of a whole program of one module closes it.
use Rattle.std.specs.Prelude.{◌≡◌, [], length}
use Rattle.qz_syntax.specs.declared.modules.Whole.{Whole}
use Rattle.qz_syntax.specs.WellFormed.{IsWellFormed}
use Rattle.qz_system.specs.declared.parts.SystemParts.{SystemParts}
use Rattle.qz_system.specs.Parts.{AreParts}
use Rattle.qz_closing.specs.Closes.{Closes}
use Rattle.qz_single.specs.Made.{IsSystemOf}

-- a whole program of one well-formed module that calls nothing, with a text for each place
abbrev pub SystemsClose : Type 0
SystemsClose = (w : Whole) (parts : SystemParts) → IsWellFormed [] w.module → length w.names.places ≡ length w.module.labels
    → AreParts parts → IsSystemOf w parts → Closes parts w
