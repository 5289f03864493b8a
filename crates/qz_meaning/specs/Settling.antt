-- Environments, and how the instances that a walk meets settle.
use Rattle.std.specs.Prelude.{ℕ, true, false, ◌==◌, List, [], ◌∷◌, ◌++◌, map, Option, Some, None, if◌then◌else◌, unwrap_or}
use Rattle.std.specs.List.{zip}
use Rattle.qz_values.specs.declared.Ty.{Ty}
use Rattle.qz_values.specs.declared.Value.{Value}
use Rattle.qz_values.specs.declared.Know.{Know}
use Rattle.qz_values.specs.declared.Know.TheVariants as know
use Rattle.qz_values.specs.Values.{yes, default_of}
use Rattle.qz_syntax.specs.declared.declarations.Class.{Class}
use Rattle.qz_syntax.specs.declared.declarations.Class.TheVariants.{Event, Mem}
use Rattle.qz_syntax.specs.declared.expressions.Var.{Var}
use Rattle.qz_syntax.specs.declared.expressions.Var.TheVariants as var
use Rattle.qz_syntax.specs.declared.places.Mark.TheVariants as mark
use Rattle.qz_syntax.specs.declared.places.Later.{Later}
use Rattle.qz_syntax.specs.declared.places.Later.TheVariants as later
use Rattle.qz_syntax.specs.declared.places.Store.{Store}
use Rattle.qz_syntax.specs.declared.places.Place.{Place}
use Rattle.qz_syntax.specs.declared.places.Place.TheVariants as place
use Rattle.qz_meaning.specs.Instances.{Instance, is_same_instance, is_same_mark, formal_instance}
use Rattle.qz_meaning.specs.Scenes.{Passing, root}
use Rattle.qz_meaning.specs.Accounts.{Write}
use Rattle.qz_meaning.specs.Layouts.{Met, Layout}
use Rattle.qz_meaning.specs.Residing.{Walk, walk}
use Rattle.qz_meaning.specs.Programs.{Program}
use Rattle.qz_meaning.specs.Verdicts.{Verdict, Nobody, Open, One, Torn, join, verdict}
use Rattle.qz_meaning.specs.Configurations.{Configuration, layout_of, new_store}

-- what is known of each instance, and of the value that is delayed for it to the next step
pub record Environment : Type 0 where
  pub now : Instance → Know
  pub later : Instance → Later

-- what the stores after a step come from
abbrev pub passing : Program → Environment → Passing
passing p env = record { class_of = p.class_of; type_of = p.type_of; now = env.now; later = env.later }

-- what the body does under an environment
abbrev pub body_under : Program → Environment → Walk
body_under p env = walk (passing p env) p.body

-- the writes of a step from a place: a start from the beginning, a resume from where control rests
abbrev pub writes_at : Walk → Place → List Write
writes_at body place.NotStarted = body.start root (know.Known yes) mark.Zero
writes_at body (place.Rest r) = body.resume root r (know.Known yes)
writes_at body place.Ended = []

-- the writes of the step: the body is started with guard true and mark zero, or resumed with guard true
abbrev pub step_writes : Program → Configuration → Environment → List Write
step_writes p c env = writes_at (body_under p env) c.place

-- the instances that the walk from a place comes past
abbrev pub met_at : Layout → Place → List Met
met_at body place.NotStarted = body.met_on_start mark.Zero
met_at body (place.Rest r) = body.met_on_resume r
met_at body place.Ended = []

-- the outputs, each with its store
abbrev pub met_outputs : List ℕ → List Store → List Met
met_outputs outputs stores = map (λ (one : ℕ × Store). record { instance = formal_instance one.0; store = Some one.1 }) (zip outputs stores)

-- the instances that are met: always the outputs, and those that the walk comes past
abbrev pub step_met : Program → Configuration → List Met
step_met p c = met_outputs p.outputs c.outputs ++ met_at (layout_of p) c.place

-- the store with which an instance begins the step
abbrev pub store_in : Program → Met → Store
store_in p one = unwrap_or one.store (new_store p one.instance.variable)

-- a pending delayed value is one more writer, with guard true
abbrev pub with_pending : Store → Verdict → Verdict
with_pending store writers = if store.pending then join (One store.value) writers else writers

-- where no writer is enabled an event has its default, and what is kept its kept value
abbrev pub unwritten : Class → Ty → Store → Value
unwritten Event t store = default_of t
unwritten Mem t store = store.value

-- what a variable settles to by the verdict of its writers: at Nobody its default or its kept value
abbrev pub settled : Class → Ty → Store → Verdict → Know
settled class t store Nobody = know.Known (unwritten class t store)
settled class t store Open = know.Unknown
settled class t store (One v) = know.Known v
settled class t store Torn = know.Clash

-- what a delayed value settles to by the verdict of its writers: at Nobody it is absent
abbrev pub settled_later : Verdict → Later
settled_later Nobody = later.Absent
settled_later Open = later.Unknown
settled_later (One v) = later.Known v
settled_later Torn = later.Clash

-- what an instance that is met settles to, under the writes of the step
abbrev pub settles_now : Program → List Write → Met → Know
settles_now p writes one =
    settled (p.class_of one.instance.variable) (p.type_of one.instance.variable) (store_in p one)
    (with_pending (store_in p one) (verdict one.instance false writes))

-- what the delayed value of an instance that is met settles to
abbrev pub settles_later : List Write → Met → Later
settles_later writes one = settled_later (verdict one.instance true writes)

-- the value that a row of inputs gives to a formal
abbrev pub input_of : List ℕ → List Value → ℕ → Option Value
input_of [] row n = None
input_of (input ∷ inputs) [] n = None
input_of (input ∷ inputs) (value ∷ row) n = if input == n then Some value else input_of inputs row n

-- the value that a row of inputs gives to a variable
abbrev pub given_to : Program → List Value → Var → Option Value
given_to p row (var.Formal n) = input_of p.inputs row n
given_to p row (var.Local n) = None
given_to p row (var.Bound n) = None

-- the value that a row of inputs gives to an instance: to a formal's only one
abbrev pub given : Program → List Value → Instance → Option Value
given p row i = if is_same_mark i.mark mark.Zero then given_to p row i.variable else None

-- an instance among those that are met
abbrev pub met_as : Instance → List Met → Option Met
met_as i [] = None
met_as i (one ∷ others) = if is_same_instance one.instance i then Some one else met_as i others
