-- How one step that isn't taken is told.
use Rattle.std.specs.Prelude.{ℕ, ◌≡◌, Bool, true, false, List, [], ◌++◌, map, codes, string_bytes, slice_index_or}
use Rattle.qz_syntax.specs.declared.modules.Whole.{Whole}
use Rattle.qz_meaning.specs.Programs.{instances_of}
use Rattle.qz_interp.specs.InstanceTexts.{instance_text}
use Rattle.qz_interp.specs.declared.steps.StepRefusal.{StepRefusal}
use Rattle.qz_interp.specs.declared.steps.StepRefusal.TheVariants as refusal
use Rattle.qz_run.specs.declared.stops.RunStop.{RunStop}
use Rattle.qz_run.specs.declared.stops.RunStop.TheVariants as stop

-- the text of the instance with this number, empty where there is none
abbrev pub text_of_number : Whole → ℕ → List ℕ
text_of_number w number = slice_index_or (map (instance_text w) (instances_of w.module)) number []

-- how that instance is named where there is doubt in it
abbrev pub doubt_of_number : Whole → ℕ → Bool → List ℕ
doubt_of_number w number false = text_of_number w number
doubt_of_number w number true = codes "next " ++ text_of_number w number

-- the step with this number isn't taken for this reason, or memory ran out
abbrev pub IsStopFor : Whole → ℕ → StepRefusal → RunStop → Type 0
IsStopFor w step (refusal.NotDefinite number delayed doubt) (stop.NotDefinite at name why) =
    (at ≡ step) × (string_bytes name ≡ doubt_of_number w number delayed) × (why ≡ doubt)
IsStopFor w step refusal.Memory (stop.NotDefinite at name why) = ⊥
IsStopFor w step reason stop.Memory = Unit {0}
