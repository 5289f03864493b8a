-- Deeds and spots with what decides them, and those of them that happen.
use Rattle.std.specs.Prelude.{ℕ, Bool, true, false, List, [], ◌∷◌, map, if◌then◌else◌}
use Rattle.qz_values.specs.declared.Know.{Know}
use Rattle.qz_values.specs.declared.Know.TheVariants.{Known}
use Rattle.qz_values.specs.Values.{no}
use Rattle.qz_values.specs.Knowledge.{both, either, opposite, choose_of, knows_yes}
use Rattle.qz_syntax.specs.declared.places.Mark.{Mark}
use Rattle.qz_meaning.specs.Instances.{local_instance}
use Rattle.qz_meaning.specs.Landings.{Deed, Spot, Keeps}

-- deeds, each with whether the walk comes to it
abbrev pub Deeds : Type 0
Deeds = List (Know × Deed)

-- spots, each with whether it is so
abbrev pub Guarded : Type 0
Guarded = List (Spot × Know)

-- what the walk comes to where this holds
abbrev pub lively : Know → List Deed → Deeds
lively live deeds = map (λ deed. (live, deed)) deeds

-- the deeds that the walk comes to
abbrev pub come_to : Deeds → List Deed
come_to [] = []
come_to (one ∷ others) = if knows_yes one.0 then one.1 ∷ come_to others else come_to others

-- the spots that are so
abbrev pub chosen : Guarded → List Spot
chosen [] = []
chosen (one ∷ others) = if knows_yes one.1 then one.0 ∷ chosen others else chosen others

-- the locals of a scope in which control rests
abbrev pub keeps_where : List ℕ → Mark → Know → Guarded
keeps_where locals m g = map (λ n. (Keeps (local_instance n m), g)) locals

abbrev pub when : {A : Type 0} → Bool → List A → List A
when true xs = xs
when false xs = []

-- where control is inside, else no
abbrev pub where_inside : Know → Know → Know
where_inside inside k = choose_of inside k (Known no)

-- control goes on where the condition doesn't hold
abbrev pub goes : Know → Know → Know
goes c go = both go (opposite c)

-- control stays where it was to stay, and where it was to go on and the condition holds
abbrev pub stays : Know → Know → Know → Know
stays c stay go = either stay (both go c)

-- on a resume control stays as it is, goes on, or leaves
pub data Way : Type 0 where
  Stays : Way
  Goes : Way
  Leaves : Way

abbrev pub is_stay : Way → Bool
is_stay Stays = true
is_stay Goes = false
is_stay Leaves = false

abbrev pub is_go : Way → Bool
is_go Stays = false
is_go Goes = true
is_go Leaves = false

abbrev pub is_leave : Way → Bool
is_leave Stays = false
is_leave Goes = false
is_leave Leaves = true

-- where control then rests, from where it goes on to and where it stays
abbrev pub by_way : Way → List Spot → List Spot → List Spot
by_way Stays after kept = kept
by_way Goes after kept = after
by_way Leaves after kept = []
