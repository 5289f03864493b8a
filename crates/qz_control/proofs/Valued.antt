-- Types of operands that stay, as the circuit grows.
use Rattle.std.proofs.Common.{◌≡◌, true, Option, Some, None, IsSome, refl}
use Rattle.std.proofs.lemmas.Bool.{false≢true}
use Rattle.std.specs.Option.{option_and_then}
use Rattle.qz_values.specs.declared.Ty.{Ty}
use Rattle.qz_values.specs.declared.Ty.TheVariants.{Bool as Truth, Bv}
use Rattle.qz_syntax.specs.Typing.{is_condition}
use Rattle.qz_nets.specs.declared.net.NetId.{NetId}
use Rattle.qz_nets.specs.Readings.{type_in}
use Rattle.qz_control.specs.declared.circuit.Circuit.{Circuit}
use Rattle.qz_control.specs.Circuits.{Grows}

-- what an operand's type is used for has a value only where there is one
pub some_first : {A B : Type 0} (f : A → Option B) (o : Option A) → IsSome (option_and_then f o) → IsSome o
some_first f None h = h
some_first f (Some x) h = refl

pub some_second : {A B C : Type 0} (f : A → B → Option C) (o : Option A) (p : Option B)
    → IsSome (option_and_then (λ x. option_and_then (λ y. f x y) p) o) → IsSome p
some_second f None p h = absurd (false≢true h)
some_second f (Some x) p h = some_first (λ y. f x y) p h

pub type_stays : (old new : Circuit) → Grows old new → (id : NetId) (t : Option Ty) → IsSome t → type_in old.table id.0 ≡ t → type_in new.table id.0 ≡ t
type_stays old new g id None h is = absurd (false≢true h)
type_stays old new g id (Some ty) h is = g.types id ty is

pub some_third : {A B C D : Type 0} (f : A → B → C → Option D) (o : Option A) (p : Option B) (q : Option C)
    → IsSome (option_and_then (λ x. option_and_then (λ y. option_and_then (λ z. f x y z) q) p) o) → IsSome p × IsSome q
some_third f None p q h = absurd (false≢true h)
some_third f (Some x) p q h = (some_first (λ y. option_and_then (λ z. f x y z) q) p h, some_second (f x) p q h)

-- a test is a bool
pub test_type : (t : Option Ty) → is_condition t ≡ true → t ≡ Some Truth
test_type (Some Truth) h = refl
test_type (Some (Bv width)) h = absurd (false≢true h)
test_type None h = absurd (false≢true h)

pub test_some : (t : Option Ty) → is_condition t ≡ true → IsSome t
test_some (Some t) h = refl
test_some None h = h
