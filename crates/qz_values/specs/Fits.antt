-- Which knowledge may be given to an operator. Only what is known has a type.
use Rattle.std.specs.Prelude.{◌≡◌, ℕ, ◌<◌, ◌^◌, Bool, true, IsTrue, Option, Some}
use Rattle.qz_values.specs.declared.Ty.{Ty}
use Rattle.qz_values.specs.declared.Value.{Value}
use Rattle.qz_values.specs.declared.Know.{Know}
use Rattle.qz_values.specs.declared.Know.TheVariants.{Known}
use Rattle.qz_values.specs.declared.Op1.{Op1}
use Rattle.qz_values.specs.declared.Op2.{Op2}
use Rattle.qz_values.specs.Types.{width_of, IsType, is_type, is_bool, is_vector, is_same_type}
use Rattle.qz_values.specs.Values.{type_of, bits_of}
use Rattle.qz_values.specs.Tables.{takes1, takes2, has_bit, has_slice, has_room}

-- the value is of this type, and its number is one that the type's bits hold
pub record IsOf (t : Ty) (v : Value) : Type 0 where
  pub typed : type_of v ≡ t
  pub fits : bits_of v < 2 ^ width_of t

-- where a value is known, it is of this type
abbrev pub HasType : Ty → Know → Type 0
HasType t (Known v) = IsOf t v
HasType t k = Unit {0}

-- whether the type, where a value is known, passes the test
abbrev pub allows : (Ty → Bool) → Know → Bool
allows test (Known v) = test (type_of v)
allows test k = true

-- whether the types, where both values are known, pass the test
abbrev pub allows_pair : (Ty → Ty → Bool) → Know → Know → Bool
allows_pair test (Known v) (Known w) = test (type_of v) (type_of w)
allows_pair test a b = true

abbrev pub Fits1 : Op1 → Know → Type 0
Fits1 op a = IsTrue (allows (takes1 op) a)

pub record Fits2 (op : Op2) (a b : Know) : Type 0 where
  pub left : IsTrue (allows (takes2 op) a)
  pub right : IsTrue (allows (takes2 op) b)
  pub alike : IsTrue (allows_pair is_same_type a b)

pub record FitsChoose (c a b : Know) : Type 0 where
  pub condition : IsTrue (allows is_bool c)
  pub first : IsTrue (allows is_type a)
  pub second : IsTrue (allows is_type b)
  pub alike : IsTrue (allows_pair is_same_type a b)

abbrev pub FitsBit : Know → ℕ → Type 0
FitsBit a i = IsTrue (allows (has_bit i) a)

abbrev pub FitsSlice : Know → ℕ → ℕ → Type 0
FitsSlice a high low = IsTrue (allows (has_slice high low) a)

pub record FitsConcat (a b : Know) : Type 0 where
  pub left : IsTrue (allows is_vector a)
  pub right : IsTrue (allows is_vector b)
  pub room : IsTrue (allows_pair has_room a b)

-- operands of types that the table has may be given, and what comes out is of the table's type
abbrev pub IsTyped1 : (Ty → Option Ty) → (Know → Type 0) → (Know → Know) → Type 0
IsTyped1 table Fits f = (s u : Ty) (a : Know) → table s ≡ Some u → HasType s a → IsType u × Fits a × HasType u (f a)

abbrev pub IsTyped2 : (Ty → Ty → Option Ty) → (Know → Know → Type 0) → (Know → Know → Know) → Type 0
IsTyped2 table Fits f =
    (s t u : Ty) (a b : Know) → table s t ≡ Some u → HasType s a → HasType t b →
    IsType u × Fits a b × HasType u (f a b)

abbrev pub IsTyped3 : (Ty → Ty → Ty → Option Ty) → (Know → Know → Know → Type 0) → (Know → Know → Know → Know) → Type 0
IsTyped3 table Fits f =
    (r s t u : Ty) (a b c : Know) → table r s t ≡ Some u → HasType r a → HasType s b → HasType t c →
    IsType u × Fits a b c × HasType u (f a b c)
