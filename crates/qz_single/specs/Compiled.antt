-- What a module's nets say of its steps.
use Rattle.std.specs.Prelude.{◌≡◌, Bool, true, not, List, [], map}
use Rattle.qz_values.specs.Knowledge.{opposite}
use Rattle.qz_syntax.specs.declared.modules.Module.{Module}
use Rattle.qz_syntax.specs.declared.places.Mark.TheVariants as mark
use Rattle.qz_syntax.specs.declared.places.Residual.{Residual}
use Rattle.qz_meaning.specs.Instances.{Instance}
use Rattle.qz_meaning.specs.Scenes.{root}
use Rattle.qz_meaning.specs.Behaviors.{Behavior}
use Rattle.qz_meaning.specs.Verdicts.{verdict}
use Rattle.qz_meaning.specs.Calls.{Answers, open_layout}
use Rattle.qz_meaning.specs.Walks.{layout}
use Rattle.qz_meaning.specs.Landings.{Deed, Spot, open_walk}
use Rattle.qz_control.specs.Leaves.{known_bit}
use Rattle.qz_control.specs.Circuits.{View, Views}
use Rattle.qz_control.specs.Guarded.{chosen, when}
use Rattle.qz_control.specs.Follows.{RestsAt, IsPlain}
use Rattle.qz_control.specs.Shown.{hide, writes_in, AreFalse}
use Rattle.qz_surface.specs.Written.{read_writes, AreWrites}
use Rattle.qz_moves.specs.Appended.{read_spots, AreTests}
use Rattle.qz_single.specs.declared.compiled.Compiled.{Compiled}

-- the walk of the module in a view, whatever calls answer
abbrev pub walk_in : Module → View → Answers → Behavior Deed (List Spot)
walk_in m v answers = open_walk v.leaves.scene answers m.body

-- control rests so in a view
abbrev pub IsThere : Module → View → Residual → Type 0
IsThere m v r = RestsAt (layout open_layout m.body) v.leaves.at r

-- control rests nowhere in a view
abbrev pub IsAway : Module → View → Type 0
IsAway m v = (layout open_layout m.body).away v.leaves.at ≡ true

-- The writes: those of a start, which happen where the module isn't resumed, and those of a resume. Each target's
-- verdict of a resume's writes is the walk's, for all knowledge
pub record HasWrites (m : Module) (c : Compiled) : Type 0 where
  pub starts : (v : View) (answers : Answers) → Views v c.circuit
      → read_writes v c.starting.items
      ≡ map (hide (opposite v.leaves.act)) (writes_in ((walk_in m v answers).start root (opposite v.leaves.act) mark.Zero))
  pub resumes : (v : View) (answers : Answers) (r : Residual) → Views v c.circuit → IsThere m v r → (i : Instance) (delayed : Bool)
      → verdict i delayed (read_writes v c.resuming.items)
      ≡ verdict i delayed (writes_in ((walk_in m v answers).resume root r v.leaves.act))
  pub away : (v : View) → Views v c.circuit → IsAway m v → AreFalse (read_writes v c.resuming.items)

-- the spots, where every condition is plain: those of a start where the module isn't resumed, and those of a resume
pub record HasSpots (m : Module) (c : Compiled) : Type 0 where
  pub enters : (v : View) (answers : Answers) (resumed : Bool) → Views v c.circuit → IsPlain m v.leaves.scene → v.leaves.act ≡ known_bit resumed
      → chosen (read_spots v c.entering.items) ≡ when (not resumed) ((walk_in m v answers).rest root mark.Zero)
  pub moves : (v : View) (answers : Answers) (r : Residual) → Views v c.circuit → IsPlain m v.leaves.scene → IsThere m v r
      → chosen (read_spots v c.moving.items) ≡ (walk_in m v answers).after root r
  pub leaves : (v : View) → Views v c.circuit → IsPlain m v.leaves.scene → IsAway m v → chosen (read_spots v c.moving.items) ≡ []

-- the nets have the types that they must have
pub record HasTypedNets (m : Module) (c : Compiled) : Type 0 where
  pub starting : AreWrites m c.circuit c.starting.items
  pub resuming : AreWrites m c.circuit c.resuming.items
  pub entering : AreTests c.circuit c.entering.items
  pub moving : AreTests c.circuit c.moving.items

-- what was compiled is the module's
pub record IsCompiled (m : Module) (c : Compiled) : Type 0 where
  pub typed : HasTypedNets m c
  pub writes : HasWrites m c
  pub spots : HasSpots m c
