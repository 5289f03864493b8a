-- The writes of a step read what the step meets, and the inputs.
use Rattle.std.proofs.Common.{◌≡◌, ℕ, true, List, [], refl}
use Rattle.std.specs.Prelude.{is_some, slice_get}
use Rattle.std.specs.List.{AllByRecursion}
use Rattle.std.proofs.lemmas.Bool.{false≢true}
use Rattle.qz_values.specs.declared.Value.{Value}
use Rattle.qz_values.specs.declared.Know.TheVariants.{Known}
use Rattle.qz_values.specs.Values.{yes}
use Rattle.qz_syntax.specs.declared.modules.Module.{Module}
use Rattle.qz_syntax.specs.declared.places.Mark.TheVariants as mark
use Rattle.qz_syntax.specs.declared.places.Place.{Place}
use Rattle.qz_syntax.specs.declared.places.Place.TheVariants as place
use Rattle.qz_syntax.specs.Typing.{no_sight}
use Rattle.qz_syntax.specs.WellFormed.{declared_by, IsWellFormed}
use Rattle.qz_meaning.specs.Instances.{formal_instance}
use Rattle.qz_meaning.specs.Scenes.{root}
use Rattle.qz_meaning.specs.Layouts.{Met}
use Rattle.qz_meaning.specs.Programs.{Program, program_of}
use Rattle.qz_meaning.specs.Configurations.{IsConfiguration, Configuration, layout_of, IsPlaceIn}
use Rattle.qz_meaning.specs.Settling.{Environment, body_under, writes_at, met_at}
use Rattle.qz_meaning.specs.Rounds.{AgreeAt}
use Rattle.qz_meaning.specs.MacroSteps.{HasInputs}
use Rattle.qz_meaning.proofs.Reading.{Seen}
use Rattle.qz_meaning.specs.Settling.{step_writes}
use Rattle.qz_meaning.specs.Rounds.{AgreeWhereMet}
use Rattle.step_laws.specs.Written.{WritesReadWhatIsMet}
use Rattle.step_laws.proofs.WritesRead.{Alike, statements_alike}
use Rattle.step_laws.proofs.FormalsSame.{agree_parts, formals_same}

module _ (m : Module) (well : IsWellFormed [] m) (c : Configuration) (placed : IsConfiguration (program_of m) c) (row : List Value) (a b : Environment)
    (first : HasInputs (program_of m) a row) (second : HasInputs (program_of m) b row) (agree : AgreeWhereMet (program_of m) c a b) where
  abbrev p : Program
  p = program_of m

  same : (n : ℕ) → is_some (slice_get m.formals n) ≡ true → a.now (formal_instance n) ≡ b.now (formal_instance n)
  same = formals_same m c row placed a b first second agree

  at_root : Seen p (declared_by [] m) a b same no_sight root root
  at_root = record { marks = λ n. refl; locals = λ n h. absurd (false≢true h); bound = λ n h. absurd (false≢true h) }

  alike : Alike p (declared_by [] m) a b same (body_under p a) (body_under p b) (layout_of p) no_sight
  alike = statements_alike p (declared_by [] m) a b same m.body no_sight well.sound

  writes_from : (where_at : Place) → IsPlaceIn p where_at → AllByRecursion (λ (one : Met). AgreeAt one a b) (met_at (layout_of p) where_at)
      → writes_at (body_under p a) where_at ≡ writes_at (body_under p b) where_at
  writes_from place.NotStarted fits all = alike.start root root (Known yes) mark.Zero at_root all
  writes_from (place.Rest r) fits all = alike.resume root root r (Known yes) at_root fits all
  writes_from place.Ended fits all = refl

  same_writes : step_writes p c a ≡ step_writes p c b
  same_writes = writes_from c.place placed.place (agree_parts m c row placed a b first second agree).1

pub writes_read : WritesReadWhatIsMet
writes_read m well c placed row a b first second agree = same_writes m well c placed row a b first second agree
