-- What the acts on an instance come to.
use Rattle.std.specs.Prelude.{ℕ, ◌==◌, Bool, true, false, List, [], ◌∷◌, slice_index_or, slice_set, if◌then◌else◌}
use Rattle.qz_values.specs.declared.Know.{Know}
use Rattle.qz_syntax.specs.declared.places.Later.{Later}
use Rattle.qz_syntax.specs.declared.places.Later.TheVariants as later
use Rattle.qz_meaning.specs.Verdicts.{Verdict, Nobody, Open, One, Torn, join, verdict_of_one}
use Rattle.qz_meaning.specs.Settling.{settled_later}
use Rattle.qz_system.specs.declared.parts.Act.{Act}

-- whether an act writes to an instance, its value or its delayed value
abbrev pub is_to : ℕ → Bool → Act → Bool
is_to instance true act = if act.delayed then act.instance == instance else false
is_to instance false act = if act.delayed then false else act.instance == instance

-- the verdict of an act alone, by what is known of nets
abbrev pub verdict_of_act : (ℕ → Know) → Act → Verdict
verdict_of_act know act = verdict_of_one (know act.guard.0) (know act.value.0)

-- the verdict of the acts on an instance, from a verdict on it so far
abbrev pub tally_of : (ℕ → Know) → ℕ → Bool → Verdict → List Act → Verdict
tally_of know instance delayed so_far [] = so_far
tally_of know instance delayed so_far (act ∷ acts) =
    tally_of know instance delayed (if is_to instance delayed act then join so_far (verdict_of_act know act) else so_far) acts

-- the verdict of the acts on an instance, those on its value or those on its delayed value
abbrev pub verdict_of : (ℕ → Know) → ℕ → Bool → List Act → Verdict
verdict_of know instance delayed acts = tally_of know instance delayed Nobody acts

-- the verdict that a delayed value settled by: each has one
abbrev pub held : Later → Verdict
held later.Unknown = Open
held later.Absent = Nobody
held (later.Known v) = One v
held later.Clash = Torn

-- verdicts by instances, each held as a delayed value, with one act more
abbrev pub with_act : (ℕ → Know) → List Later → Act → List Later
with_act know laters act =
    slice_set laters act.instance (settled_later (join (held (slice_index_or laters act.instance later.Absent)) (verdict_of_act know act)))

-- whether both are delayed, or neither
abbrev pub is_same_kind : Bool → Bool → Bool
is_same_kind true b = b
is_same_kind false true = false
is_same_kind false false = true

-- with some acts more, of which only the delayed or only the present ones count
abbrev pub with_acts : (ℕ → Know) → Bool → List Later → List Act → List Later
with_acts know delayed laters [] = laters
with_acts know delayed laters (act ∷ acts) =
    with_acts know delayed (if is_same_kind delayed act.delayed then with_act know laters act else laters) acts
