-- Writes as nets show them: each under a guard that is false where the walk doesn't come to it.
use Rattle.std.specs.Prelude.{◌≡◌, List, [], ◌∷◌}
use Rattle.qz_values.specs.declared.Know.{Know}
use Rattle.qz_values.specs.declared.Know.TheVariants.{Known}
use Rattle.qz_values.specs.Values.{no}
use Rattle.qz_values.specs.Knowledge.{choose_of}
use Rattle.qz_meaning.specs.Accounts.{Write}
use Rattle.qz_meaning.specs.Landings.{Deed, Wrote, Starts, Resumes}
use Rattle.qz_control.specs.Guarded.{Deeds}

-- a write that happens only where it is live
abbrev pub hide : Know → Write → Write
hide live w = record { target = w.target; delayed = w.delayed; guard = choose_of live w.guard (Known no); value = w.value }

-- the writes among deeds
abbrev pub with_write : Deed → List Write → List Write
with_write (Wrote w) others = w ∷ others
with_write (Starts call g m) others = others
with_write (Resumes call g) others = others

abbrev pub writes_in : List Deed → List Write
writes_in [] = []
writes_in (deed ∷ deeds) = with_write deed (writes_in deeds)

-- the writes among deeds of which each is live where that is so
abbrev pub with_shown : Know → Deed → List Write → List Write
with_shown live (Wrote w) others = hide live w ∷ others
with_shown live (Starts call g m) others = others
with_shown live (Resumes call g) others = others

abbrev pub shown : Deeds → List Write
shown [] = []
shown (one ∷ others) = with_shown one.0 one.1 (shown others)

-- the guard of each of these is known to be false
abbrev pub AreFalse : List Write → Type 0
AreFalse [] = Unit {0}
AreFalse (w ∷ ws) = (w.guard ≡ Known no) × AreFalse ws
