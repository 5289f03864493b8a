-- What tallies settle to, and what stores say as tallies.
use Rattle.std.proofs.Common.{ℕ, ◌≡◌, Bool, true, false, not, ◌||◌, List, length, refl, ap}
use Rattle.qz_values.specs.declared.Ty.{Ty}
use Rattle.qz_values.specs.declared.Value.{Value}
use Rattle.qz_values.specs.Values.{value_of, default_of}
use Rattle.qz_syntax.specs.declared.declarations.Class.TheVariants.{Event, Mem}
use Rattle.qz_syntax.specs.declared.places.Store.{Store}
use Rattle.qz_meaning.specs.Verdicts.{Verdict, Nobody, Open, One, Torn}
use Rattle.qz_meaning.specs.Settling.{with_pending, settled, settled_later}
use Rattle.qz_rails.specs.Bits.{number_of, choices}
use Rattle.qz_rails.specs.Rails.{told}
use Rattle.qz_rails.proofs.Selecting.{choices_true, choices_false}
use Rattle.qz_tallies.specs.Tallies.{said}
use Rattle.qz_tallies.specs.Stores.{settled_by, later_known}
use Rattle.qz_tallies.proofs.Telling.{Parts}

settling : (t : Ty) (xs ds : List Bool) (torn one nobody : Bool) → length xs ≡ length ds →
    told torn (one || nobody) (value_of t (number_of (choices one xs ds))) ≡ settled_by (value_of t (number_of ds)) (said torn one nobody (value_of t (number_of xs)))
settling t xs ds true one nobody e = refl
settling t xs ds false true nobody e = ap (λ bs. told false true (value_of t (number_of bs))) (choices_true xs ds e)
settling t xs ds false false true e = ap (λ bs. told false true (value_of t (number_of bs))) (choices_false xs ds e)
settling t xs ds false false false e = refl

pub settling_by : (t : Ty) (a : Parts) (ds : List Bool) (known : Bool) (bits : List Bool) → known ≡ a.1 || a.2 → bits ≡ choices a.1 a.3 ds → length a.3 ≡ length ds →
    told a.0 known (value_of t (number_of bits)) ≡ settled_by (value_of t (number_of ds)) (said a.0 a.1 a.2 (value_of t (number_of a.3)))
settling_by t a ds known bits e f g = rw (e, f) (settling t a.3 ds a.0 a.1 a.2 g)

event_settled : (t : Ty) (s : Store) (v : Verdict) → settled_by (default_of t) v ≡ settled Event t s v
event_settled t s Nobody = refl
event_settled t s Open = refl
event_settled t s (One v) = refl
event_settled t s Torn = refl

-- an event without writer has the default
pub settles_event : (t : Ty) (s : Store) (v : Verdict) (n : ℕ) → n ≡ 0 → settled_by (value_of t n) v ≡ settled Event t s v
settles_event t s v n zero = rw zero (event_settled t s v)

-- what is kept has the stored value
pub settles_mem : (t : Ty) (s : Store) (v : Verdict) → settled_by s.value v ≡ settled Mem t s v
settles_mem t s Nobody = refl
settles_mem t s Open = refl
settles_mem t s (One v) = refl
settles_mem t s Torn = refl

later_settled : (t : Ty) (v : Verdict) → settled_by (default_of t) v ≡ later_known t (settled_later v)
later_settled t Nobody = refl
later_settled t Open = refl
later_settled t (One v) = refl
later_settled t Torn = refl

-- a delayed value without writer is absent
pub settles_later : (t : Ty) (v : Verdict) (n : ℕ) → n ≡ 0 → settled_by (value_of t n) v ≡ later_known t (settled_later v)
settles_later t v n zero = rw zero (later_settled t v)

pending_said : (p : Bool) (v : Value) → said false p (not p) v ≡ with_pending (record { value = v; pending = p }) Nobody
pending_said true v = refl
pending_said false v = refl

-- a store is a writer where it is pending
pub stored_by : (t : Ty) (torn p idle : Bool) (bits stored : List Bool) → torn ≡ false → idle ≡ not p → bits ≡ stored →
    said torn p idle (value_of t (number_of bits)) ≡ with_pending (record { value = value_of t (number_of stored); pending = p }) Nobody
stored_by t torn p idle bits stored is_torn is_idle same =
    rw (is_torn, is_idle, same) (pending_said p (value_of t (number_of stored)))
