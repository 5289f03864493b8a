-- What a machine makes once for its program.
use Rattle.std.specs.Prelude.{◌≡◌, map}
use Rattle.qz_syntax.specs.declared.modules.Whole.{Whole}
use Rattle.qz_meaning.specs.Programs.{instances_of}
use Rattle.qz_react.specs.Reacting.{IsWalkerOf}
use Rattle.qz_interp.specs.declared.tables.Tables.{Tables}
use Rattle.qz_interp.specs.InstanceTexts.{instance_text}
use Rattle.qz_interp.specs.Resting.{AreAtRest}

-- the tables of a program between steps: how it is walked, the lists of its steps, and each instance's text
pub record AreTablesOf (w : Whole) (tables : Tables) : Type 0 where
  pub walker : IsWalkerOf w.module tables.walker
  pub lists : AreAtRest w.module tables.lists
  pub texts : tables.texts.items ≡ map (instance_text w) (instances_of w.module)
