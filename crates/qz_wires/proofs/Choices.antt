-- Choices: their types, and what is chosen by a flag.
use Rattle.std.proofs.Common.{◌≡◌, Bool, true, false, not, ◌&&◌, ◌||◌, Some, refl, if◌then◌else◌}
use Rattle.std.proofs.lemmas.Bool.{eq-eqb}
use Rattle.qz_values.specs.declared.Ty.{Ty}
use Rattle.qz_values.specs.declared.Ty.TheVariants.{Bool as Truth, Bv}
use Rattle.qz_values.specs.declared.Value.{Value}
use Rattle.qz_values.specs.Types.{IsType, is_same_type}
use Rattle.qz_values.specs.Values.{is_yes, yes, no}
use Rattle.qz_verilog.specs.declared.nets.Ref.{Ref}
use Rattle.qz_verilog.specs.declared.nets.Rhs.TheVariants as rhs
use Rattle.qz_verilog.specs.Types.{NetTypes, net_type, right_side_type}
use Rattle.qz_verilog.proofs.ValidityLemmas.{is_type-IsType}

pub same_type : (t : Ty) → is_same_type t t ≡ true
same_type Truth = refl
same_type (Bv w) = eq-eqb w w refl

pub choose_typed : (types : NetTypes) (ty : Ty) (c a b : Ref) → IsType ty → net_type types c ≡ Some Truth → net_type types a ≡ Some ty → net_type types b ≡ Some ty →
    right_side_type types (rhs.Choose c a b) ≡ Some ty
choose_typed types ty c a b is condition first second =
    rw (condition, first, second, same_type ty, (is_type-IsType ty).1 is) refl

pub chosen_same : (s : Bool) (x : Value) → x ≡ (if s then x else x)
chosen_same true x = refl
chosen_same false x = refl

pub not_flag : (s : Bool) → is_yes (if s then no else yes) ≡ not s
not_flag true = refl
not_flag false = refl

pub and_flag : (s : Bool) (b : Value) → is_yes (if s then b else no) ≡ (s && is_yes b)
and_flag true b = refl
and_flag false b = refl

pub or_flag : (s : Bool) (b : Value) → is_yes (if s then yes else b) ≡ (s || is_yes b)
or_flag true b = refl
or_flag false b = refl

pub and_always : (s : Bool) → s ≡ (s && true)
and_always true = refl
and_always false = refl

pub or_never : (s : Bool) → s ≡ (s || false)
or_never true = refl
or_never false = refl

pub side_flag : (s : Bool) (a b : Value) → is_yes (if s then a else b) ≡ (if s then is_yes a else is_yes b)
side_flag true a b = refl
side_flag false a b = refl
