-- What the tests of validity say.
use Rattle.std.proofs.Common.{◌≡◌, ◌↔◌, Bool, List, [], ◌∷◌, map, length, refl, ap, ◌||◌, IsTrue, ◌^◌, arith}
use Rattle.std.specs.List.{list_any, list_all, AllByRecursion}
use Rattle.std.specs.Str.{bytes_eq}
use Rattle.std.proofs.lemmas.Bool.{and_parts, and_from, leb-true, ltb-true, le-leb, lt-ltb}
use Rattle.qz_values.specs.declared.Ty.{Ty}
use Rattle.qz_values.specs.declared.Value.{Value}
use Rattle.qz_values.specs.Types.{IsType, is_type, width_of}
use Rattle.qz_values.specs.Values.{IsValue, type_of, bits_of}
use Rattle.qz_syntax.specs.declared.names.Name.{Name}
use Rattle.qz_syntax.specs.declared.declarations.Port.{Port}
use Rattle.qz_syntax.specs.DoubleNames.{is_among}
use Rattle.qz_verilog.specs.declared.nets.Ref.{Ref}
use Rattle.qz_verilog.specs.Types.{NetTypes, is_value}
use Rattle.qz_verilog.specs.Validity.{port_names, AreNetsOf}

-- a name among those of some ports
pub is_among-port_names : (name : Name) (ports : List Port) →
    is_among (port_names ports) name ≡ list_any (λ (port : Port). bytes_eq port.name name) ports
is_among-port_names name [] = refl
is_among-port_names name (port ∷ ports) = ap (λ b. bytes_eq port.name name || b) (is_among-port_names name ports)

-- there are as many nets as types
pub length-AreNetsOf : {X : Type 0} (f : X → Ty) (types : NetTypes) (items : List X) (nets : List Ref) →
    AreNetsOf types (map f items) nets → length items ≡ length nets
length-AreNetsOf f types [] [] h = refl
length-AreNetsOf f types [] (net ∷ nets) h = absurd h
length-AreNetsOf f types (x ∷ xs) [] h = absurd h
length-AreNetsOf f types (x ∷ xs) (net ∷ nets) h =
    let rest = length-AreNetsOf f types xs nets h.1 in omega arith

-- a test of each is a fact about each
module _ {Y : Type 0} (test : Y → Bool) (Fact : Y → Type 0) (passes : (y : Y) → IsTrue (test y) ↔ Fact y) where
  pub all_pass : (ys : List Y) → IsTrue (list_all test ys) ↔ AllByRecursion Fact ys
  all_pass [] = (λ h. tt, λ h. refl)
  all_pass (y ∷ ys) =
      let first = passes y in
      let rest = all_pass ys in (
        λ (h : IsTrue (list_all test (y ∷ ys))). let p = and_parts _ _ h in (first.0 p.0, rest.0 p.1),
        λ h. and_from _ _ (first.1 h.0) (rest.1 h.1),
      )

pub is_type-IsType : (t : Ty) → IsTrue (is_type t) ↔ IsType t
is_type-IsType t = (
  λ (h : IsTrue (is_type t)). let p = and_parts _ _ h in
      record { at_least_1 = leb-true 1 (width_of t) p.0; at_most_64 = leb-true (width_of t) 64 p.1 },
  λ h. and_from _ _ (le-leb _ _ h.at_least_1) (le-leb _ _ h.at_most_64),
)

pub is_value-IsValue : (v : Value) → IsTrue (is_value v) ↔ IsValue v
is_value-IsValue v = (
  λ (h : IsTrue (is_value v)). let p = and_parts _ _ h in
      record { typed = (is_type-IsType (type_of v)).0 p.0; fits = ltb-true (bits_of v) (2 ^ width_of (type_of v)) p.1 },
  λ h. and_from _ _ ((is_type-IsType (type_of v)).1 h.typed) (lt-ltb _ _ h.fits),
)
