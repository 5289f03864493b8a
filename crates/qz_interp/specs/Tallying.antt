-- Verdicts by the numbers of instances, and what writes make of them.
use Rattle.std.specs.Prelude.{◌≡◌, ◌<◌, ℕ, Bool, true, false, List, [], ◌∷◌, map, length, Option, Some, slice_get, slice_index_or, slice_set, if◌then◌else◌}
use Rattle.std.specs.Option.{option_map}
use Rattle.qz_values.specs.declared.Know.{Know}
use Rattle.qz_meaning.specs.Instances.{Instance}
use Rattle.qz_meaning.specs.Accounts.{Write}
use Rattle.qz_meaning.specs.Verdicts.{Verdict, Nobody, join, tally, verdict_of_one}
use Rattle.qz_interp.specs.Numbering.{AreDistinct}

-- a write to the instance with this number
pub record Numbered : Type 0 where
  pub number : ℕ
  pub delayed : Bool
  pub guard : Know
  pub value : Know

-- the write, where these are the instances; none where the number isn't one of theirs
abbrev pub written : List Instance → Numbered → Option Write
written instances w =
    option_map (λ i. record { target = i; delayed = w.delayed; guard = w.guard; value = w.value }) (slice_get instances w.number)

-- the verdict with this number, joined with one more; a number that there isn't changes nothing
abbrev pub with_one : List Verdict → ℕ → Verdict → List Verdict
with_one verdicts number one = slice_set verdicts number (join (slice_index_or verdicts number Nobody) one)

-- whether both are delayed, or neither
abbrev pub is_same_kind : Bool → Bool → Bool
is_same_kind true b = b
is_same_kind false true = false
is_same_kind false false = true

-- the verdicts after one write, of which only a delayed one or only a present one counts
abbrev pub with_write : Bool → List Verdict → Numbered → List Verdict
with_write delayed verdicts w =
    if is_same_kind delayed w.delayed then with_one verdicts w.number (verdict_of_one w.guard w.value) else verdicts

-- the verdicts after some writes
abbrev pub tallied : Bool → List Verdict → List Numbered → List Verdict
tallied delayed verdicts [] = verdicts
tallied delayed verdicts (w ∷ ws) = tallied delayed (with_write delayed verdicts w) ws

-- the verdicts once those of the instances that some writes are to are taken away
abbrev pub cleared : List Verdict → List Numbered → List Verdict
cleared verdicts [] = verdicts
cleared verdicts (w ∷ ws) = cleared (slice_set verdicts w.number Nobody) ws

-- where each instance has one number, the table has for each instance the verdict on its writes, from the
-- verdict that it had
abbrev pub TalliesAreVerdicts : Type 0
TalliesAreVerdicts = (instances : List Instance) → AreDistinct instances → (delayed : Bool) (numbered : List Numbered) (writes : List Write)
    → map (written instances) numbered ≡ map Some writes → (verdicts : List Verdict) (k : ℕ) (i : Instance)
    → slice_get instances k ≡ Some i → k < length verdicts
    → slice_get (tallied delayed verdicts numbered) k ≡ Some (tally i delayed (slice_index_or verdicts k Nobody) writes)
