-- Lists of flags, and known values read as flags.
use Rattle.std.proofs.Common.{◌≡◌, ◌≢◌, ◌<◌, ◌||◌, ◌&&◌, ℕ, zero, suc, Bool, true, false, List, length, set, Some, refl, ap, subst, ◌∙◌, ◌⊎◌, inl, inr}
use Rattle.std.specs.Prelude.{◌==◌, nat_lt, slice_get, replicate}
use Rattle.std.proofs.lemmas.Bool.{and_parts, false≢true, eq-eqb, ltb-true}
use Rattle.qz_values.specs.declared.Ty.TheVariants.{Bool as Truth}
use Rattle.qz_values.specs.declared.Value.{Value}
use Rattle.qz_values.specs.declared.Know.{Know}
use Rattle.qz_values.specs.declared.Know.TheVariants.{Unknown, Known, Clash}
use Rattle.qz_values.specs.Values.{is_yes}
use Rattle.qz_values.specs.Knowledge.{knows_yes}
use Rattle.qz_nets.specs.declared.net.NetId.{NetId}
use Rattle.qz_nets.specs.Readings.{type_in}
use Rattle.qz_verilog.specs.declared.nets.Ref.{Ref}
use Rattle.qz_verilog.specs.Types.{NetTypes}
use Rattle.qz_verilog.specs.Validity.{IsNetOf}
use Rattle.qz_verilog.specs.Meaning.{Nets, value_at}
use Rattle.qz_system.specs.declared.parts.SystemParts.{SystemParts}
use Rattle.qz_system.specs.Parts.{is_next_right}
use Rattle.qz_system.specs.Nexts.{is_known}
use Rattle.qz_system.proofs.Finding.{the_type}
use Rattle.qz_wires.specs.Rails.{Says}
use Rattle.qz_equations.specs.Ends.{AreFlags, ShowFlags}
use Rattle.qz_equations.proofs.ActLemmas.{get_written, other_number}

-- what is known is read as a flag
pub flag_known : (known : Bool) (value : Value) (k : Know) → Says known value k → is_known k ≡ true → is_yes value ≡ knows_yes k
flag_known known value Unknown h is = absurd (false≢true is)
flag_known known value (Known v) h is = ap is_yes h.1
flag_known known value Clash h is = absurd (false≢true is)

pub get_copy : {A : Type 0} (n : ℕ) (x : A) (k : ℕ) (y : A) → slice_get (replicate n x) k ≡ Some y → x ≡ y
get_copy zero x k y at = absurd (cc)
get_copy (suc n) x zero y at = cc
get_copy (suc n) x (suc k) y at = get_copy n x k y at

module _ (parts : SystemParts) (entry : ℕ × NetId) (right : is_next_right parts entry ≡ true) where
  pub next_within : entry.0 < length parts.places
  next_within = ltb-true entry.0 (length parts.places) (and_parts (nat_lt entry.0 (length parts.places)) _ right).0

  pub next_net : type_in parts.table entry.1.0 ≡ Some Truth
  next_net = the_type Truth (type_in parts.table entry.1.0) (and_parts (nat_lt entry.0 (length parts.places)) _ right).1

pub flags_written : (types : NetTypes) (flags : List Ref) (i : ℕ) (flag : Ref) → AreFlags types flags → IsNetOf types Truth flag → AreFlags types (set flags i flag)
flags_written types flags i flag are here = record { each = λ n net at. by n net (get_written flags i flag n net at) }
  where
    by : (n : ℕ) (net : Ref) → ((n ≡ i) × (flag ≡ net)) ⊎ ((n ≢ i) × (slice_get flags n ≡ Some net)) → IsNetOf types Truth net
    by n net (inl own) = subst (IsNetOf types Truth) own.1 here
    by n net (inr other) = are.each n net other.1

or_none : (a : Bool) → a ≡ (a || false)
or_none true = refl
or_none false = refl

pub or_assoc : (a b c : Bool) → ((a || b) || c) ≡ (a || (b || c))
or_assoc true b c = refl
or_assoc false b c = refl

pub or_nothing : (a : Bool) → (a || false) ≡ a
or_nothing true = refl
or_nothing false = refl

pub one_flag_more : (nets : Nets) (flags : List Ref) (bits : ℕ → Bool) (place : ℕ) (holds : Bool) (flag : Ref) → ShowFlags nets flags bits
    → is_yes (value_at nets flag) ≡ (bits place || holds) → ShowFlags nets (set flags place flag) (λ n. bits n || ((place == n) && holds))
one_flag_more nets flags bits place holds flag shown here = λ n net at. by n net (get_written flags place flag n net at)
  where
    by : (n : ℕ) (net : Ref) → ((n ≡ place) × (flag ≡ net)) ⊎ ((n ≢ place) × (slice_get flags n ≡ Some net))
        → is_yes (value_at nets net) ≡ (bits n || ((place == n) && holds))
    by n net (inl own) = let same : (place == place) ≡ true = eq-eqb place place refl in rw (own.0, ← own.1, same) here
    by n net (inr other) = rw (other_number place n other.0) (shown n net other.1 ∙ or_none (bits n))
