-- Which row the words ask for. A mode comes in here.
use Rattle.std.specs.Prelude.{List, Option, Some, None, String}
use Rattle.std.specs.declared.alloc.Global.{Global}
use Rattle.qz_driver.specs.Commands.{Request, Build, Run, Simulate, requested}
use Rattle.qz_driver.specs.Rows.{Row, Asked, BreaksRule, Asks}
use Rattle.qz_driver.specs.BuildRow.{build_row}
use Rattle.qz_driver.specs.RunRow.{run_row}
use Rattle.qz_driver.specs.SimRow.{sim_row}

abbrev pub row_of : Request → Row
row_of (Build name file) = build_row name file
row_of (Run name file) = run_row name file
row_of (Simulate name file) = sim_row name file

abbrev pub asked_by : Option Request → Asked
asked_by None = BreaksRule
asked_by (Some request) = Asks (row_of request)

-- the row that these words ask for
abbrev pub asked : List (String Global) → Asked
asked words = asked_by (requested words)
