-- Operands that may have no type, of which a table of types gives one.
use Rattle.std.proofs.Common.{◌≡◌, Option, Some, None, refl}
use Rattle.std.specs.Option.{option_and_then}
use Rattle.qz_values.specs.declared.Ty.{Ty}

-- operands with types of which the table gives this one
pub record Given1 (table : Ty → Option Ty) (x : Option Ty) (u : Ty) : Type 0 where
  pub s : Ty
  pub first : x ≡ Some s
  pub gives : table s ≡ Some u

pub record Given2 (table : Ty → Ty → Option Ty) (x y : Option Ty) (u : Ty) : Type 0 where
  pub s : Ty
  pub t : Ty
  pub first : x ≡ Some s
  pub second : y ≡ Some t
  pub gives : table s t ≡ Some u

pub record Given3 (table : Ty → Ty → Ty → Option Ty) (x y z : Option Ty) (u : Ty) : Type 0 where
  pub r : Ty
  pub s : Ty
  pub t : Ty
  pub first : x ≡ Some r
  pub second : y ≡ Some s
  pub third : z ≡ Some t
  pub gives : table r s t ≡ Some u

pub given1 : (table : Ty → Option Ty) (x : Option Ty) (u : Ty) → option_and_then table x ≡ Some u → Given1 table x u
given1 table None u h = absurd (cc)
given1 table (Some s) u h = record { s = s; first = refl; gives = h }

pub given2 : (table : Ty → Ty → Option Ty) (x y : Option Ty) (u : Ty) →
    option_and_then (λ s. option_and_then (λ t. table s t) y) x ≡ Some u → Given2 table x y u
given2 table None y u h = absurd (cc)
given2 table (Some s) y u h =
    let rest = given1 (table s) y u h in
    record { s = s; t = rest.s; first = refl; second = rest.first; gives = rest.gives }

pub given3 : (table : Ty → Ty → Ty → Option Ty) (x y z : Option Ty) (u : Ty) →
    option_and_then (λ r. option_and_then (λ s. option_and_then (λ t. table r s t) z) y) x ≡ Some u → Given3 table x y z u
given3 table None y z u h = absurd (cc)
given3 table (Some r) y z u h =
    let rest = given2 (table r) y z u h in
    record { r = r; s = rest.s; t = rest.t; first = refl; second = rest.first; third = rest.second; gives = rest.gives }
