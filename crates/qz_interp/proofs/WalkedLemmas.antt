-- What the slots settle to by the walk's writes is the next round.
use Rattle.std.proofs.Common.{◌≡◌, List, map, Some, refl, sym, ap, subst₂, ◌∙◌, [], ◌∷◌}
use Rattle.qz_values.specs.declared.Know.{Know}
use Rattle.qz_values.specs.declared.Value.{Value}
use Rattle.qz_syntax.specs.declared.modules.Module.{Module}
use Rattle.qz_syntax.specs.declared.places.Later.{Later}
use Rattle.qz_syntax.specs.declared.places.Place.{Place}
use Rattle.qz_meaning.specs.Instances.{Instance}
use Rattle.qz_meaning.specs.Programs.{program_of}
use Rattle.qz_meaning.specs.Configurations.{Configuration}
use Rattle.qz_meaning.specs.Settling.{Environment, body_under, writes_at, step_writes}
use Rattle.qz_meaning.specs.Rounds.{next_round}
use Rattle.qz_react.specs.declared.environments.Write.{Write}
use Rattle.qz_react.specs.Seeing.{written}
use Rattle.qz_interp.specs.declared.slots.Slot.{Slot}
use Rattle.qz_interp.specs.FirstDoubts.{AreLists}
use Rattle.qz_interp.specs.RoundTables.{AreSlotsOf}
use Rattle.qz_interp.specs.Tallying as tables
use Rattle.qz_interp.specs.Walked.{numbered, Settles, IsNextRound}
use Rattle.qz_interp.proofs.RoundLemmas.{tables_are_rounds}

-- a write is the same write by its number
written_numbered : (instances : List Instance) (writes : List Write) → map (tables.written instances) (map numbered writes) ≡ map (written instances) writes
written_numbered instances [] = refl
written_numbered instances (w ∷ ws) = ap (λ rest. written instances w ∷ rest) (written_numbered instances ws)

pub settles_next : (m : Module) (c : Configuration) (row : List Value) (e : Environment) (slots : List Slot) (writes : List Write)
    (values : List Know) (delayed : List Later) (at : Place) → c.place ≡ at → AreSlotsOf (program_of m) c slots
    → map (written (program_of m).instances) writes ≡ map Some (writes_at (body_under (program_of m) e) at)
    → Settles slots writes values delayed → IsNextRound m c row e values delayed
settles_next m c row e slots writes values delayed at is_at are walked settles well =
    let same : map (tables.written (program_of m).instances) (map numbered writes) ≡ map Some (step_writes (program_of m) c e) =
    written_numbered (program_of m).instances writes ∙ walked ∙ ap (λ place. map Some (writes_at (body_under (program_of m) e) place)) (sym is_at) in
    let next = tables_are_rounds m well c row e slots are (map numbered writes) same in
    subst₂ (AreLists (program_of m) (next_round (program_of m) c row e)) (sym settles.now) (sym settles.later) record { now = next.now; later = next.later }
