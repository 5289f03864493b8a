-- What three nets say of a verdict: whether some enabled writer has a known value, that value, and whether no writer is
-- enabled.
use Rattle.std.specs.Prelude.{ℕ, ◌≡◌, Bool, true, false, List, Some, slice_get}
use Rattle.qz_values.specs.declared.Ty.{Ty}
use Rattle.qz_values.specs.declared.Ty.TheVariants.{Bool as Truth}
use Rattle.qz_values.specs.declared.Value.{Value}
use Rattle.qz_values.specs.Types.{IsType}
use Rattle.qz_values.specs.Values.{is_yes}
use Rattle.qz_syntax.specs.declared.places.Store.{Store}
use Rattle.qz_verilog.specs.Types.{NetTypes}
use Rattle.qz_verilog.specs.Validity.{IsNetOf}
use Rattle.qz_verilog.specs.Meaning.{Nets, value_at}
use Rattle.qz_meaning.specs.Verdicts.{Verdict, Nobody, Open, One, Torn}
use Rattle.qz_equations.specs.declared.tallies.Tally.{Tally}
use Rattle.qz_equations.specs.declared.tallies.StoreNets.{StoreNets}

-- nothing is said of a contradiction
abbrev pub SaysVerdict : Bool → Value → Bool → Verdict → Type 0
SaysVerdict decided value idle Nobody = (decided ≡ false) × (idle ≡ true)
SaysVerdict decided value idle Open = (decided ≡ false) × (idle ≡ false)
SaysVerdict decided value idle (One v) = (decided ≡ true) × (value ≡ v)
SaysVerdict decided value idle Torn = Unit {0}

-- the tally says what the verdict is
abbrev pub ShowsVerdict : Nets → Tally → Verdict → Type 0
ShowsVerdict nets tally k = SaysVerdict (is_yes (value_at nets tally.decided)) (value_at nets tally.value) (is_yes (value_at nets tally.idle)) k

-- a tally of writers to a variable of this type
pub record IsTally (types : NetTypes) (ty : Ty) (tally : Tally) : Type 0 where
  pub of_type : IsType ty
  pub decided_net : IsNetOf types Truth tally.decided
  pub value_net : IsNetOf types ty tally.value
  pub idle_net : IsNetOf types Truth tally.idle

-- the nets hold a store
pub record ShowsStore (nets : Nets) (place : StoreNets) (store : Store) : Type 0 where
  pub mark : is_yes (value_at nets place.mark) ≡ store.pending
  pub value : value_at nets place.value ≡ store.value

-- nets of a store of this type
pub record IsStoreOf (types : NetTypes) (ty : Ty) (place : StoreNets) : Type 0 where
  pub of_type : IsType ty
  pub mark_net : IsNetOf types Truth place.mark
  pub value_net : IsNetOf types ty place.value

-- each tally of a list says what the verdict at its number is
abbrev pub ShowVerdicts : Nets → List Tally → (ℕ → Verdict) → Type 0
ShowVerdicts nets tallies verdicts = (n : ℕ) (tally : Tally) → slice_get tallies n ≡ Some tally → ShowsVerdict nets tally (verdicts n)
