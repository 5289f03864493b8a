-- What is found, where a part of it was found.
use Rattle.std.proofs.Common.{◌≡◌, Some, None, refl, sym, ap, ◌∙◌, subst}
use Rattle.qz_verilog.specs.declared.nets.Rhs.{Rhs}
use Rattle.qz_vread.specs.Reading.{Finds}
use Rattle.qz_vread.specs.RightSides.{Makes}

-- the part that something was made of, which is right and stands there
pub record Whence {X Y : Type 0} (right stands : X → Type 0) (make : X → Y) (made : Y) : Type 0 where
  pub part : X
  pub is : made ≡ make part
  pub right_part : right part
  pub there : stands part

pub nothing_found : {Y : Type 0} (wanted there : Y → Type 0) → ((y : Y) → wanted y → there y → ⊥) → Finds wanted there None
nothing_found wanted there none = record { sound = λ y e. absurd cc; complete = λ y w t. absurd (none y w t) }

pub just_found : {Y : Type 0} (wanted there : Y → Type 0) (y : Y) → wanted y → there y → ((z : Y) → wanted z → there z → y ≡ z) → Finds wanted there (Some y)
just_found {Y} wanted there y w t only = record {
  sound = λ z e. let same : y ≡ z = cc in (subst wanted same w, subst there same t);
  complete = λ z w t. ap (λ x. Some x) (only z w t);
}

-- no part was found
pub no_part : {X Y : Type 0} (right stands : X → Type 0) (make : X → Y) (wanted there : Y → Type 0) → Finds right stands None
    → ((y : Y) → wanted y → there y → Whence right stands make y) → Finds wanted there None
no_part {X} {Y} right stands make wanted there found whence =
    nothing_found wanted there (λ y w t. let from = whence y w t in let none : None ≡ Some from.part = found.complete from.part from.right_part from.there in cc)

-- a part was found
pub a_part : {X Y : Type 0} (right stands : X → Type 0) (make : X → Y) (wanted there : Y → Type 0) (x : X) → Finds right stands (Some x)
    → (right x → stands x → wanted (make x) × there (make x)) → ((y : Y) → wanted y → there y → Whence right stands make y) → Finds wanted there (Some (make x))
a_part {X} {Y} right stands make wanted there x found made whence =
    let is = found.sound x refl in
    let both = made is.0 is.1 in
    just_found wanted there (make x) both.0 both.1
    (λ y w t. let from = whence y w t in
    let some : Some x ≡ Some from.part = found.complete from.part from.right_part from.there in
    let same : x ≡ from.part = cc in
    ap make same ∙ sym from.is)

-- right sides that are made of parts
pub makes_nothing : {X : Type 0} (right stands : X → Type 0) (make : X → Rhs) → ((x : X) → right x → stands x → ⊥) → Makes right stands make None
makes_nothing right stands make none = record { sound = λ r e. absurd cc; complete = λ x r t. absurd (none x r t) }

pub makes_one : {X : Type 0} (right stands : X → Type 0) (make : X → Rhs) (x : X) → stands x → ((y : X) → right y → stands y → x ≡ y) → Makes right stands make (Some (make x))
makes_one right stands make x there only = record {
  sound = λ r e. record { part = x; there = there; made = let same : make x ≡ r = cc in sym same };
  complete = λ y r t. ap (λ z. Some (make z)) (only y r t);
}

-- what was found is just this one
pub once : {X : Type 0} (right stands : X → Type 0) (x y : X) → Finds right stands (Some x) → right y → stands y → x ≡ y
once right stands x y found r t = let some : Some x ≡ Some y = found.complete y r t in cc

pub never : {X : Type 0} (right stands : X → Type 0) (y : X) → Finds right stands None → right y → stands y → ⊥
never right stands y found r t = let none : None ≡ Some y = found.complete y r t in cc
