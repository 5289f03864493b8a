-- Right sides that are read, form by form.
use Rattle.std.specs.Prelude.{◌≡◌, ℕ, ◌<◌, List, ◌∷◌, ◌++◌, codes, Option, Some, IsSome, IsTrue}
use Rattle.std.specs.Fmt.{decimal}
use Rattle.qz_values.specs.declared.Ty.{Ty}
use Rattle.qz_values.specs.declared.Op2.{Op2}
use Rattle.qz_syntax.specs.declared.declarations.Port.{Port}
use Rattle.qz_verilog.specs.declared.nets.Ref.{Ref}
use Rattle.qz_verilog.specs.declared.nets.Rhs.{Rhs}
use Rattle.qz_verilog.specs.declared.nets.Rhs.TheVariants as rhs
use Rattle.qz_verilog.specs.Types.{NetTypes, net_type, has_sign, right_side_type}
use Rattle.qz_verilog.specs.Validity.{declared_types}
use Rattle.qz_vtext.specs.Spelling.{net_text, sign_text, right_side_text}
use Rattle.qz_vread.specs.declared.nets.Nets.{Nets}

abbrev pub inputs_of : Nets → List Port
inputs_of nets = nets.ports.now.inputs

abbrev pub types_of : Nets → NetTypes
types_of nets = declared_types nets.ports.now.inputs nets.regs.now nets.wires.now

-- a net that may be read
pub record IsDeclared (types : NetTypes) (net : Ref) : Type 0 where
  pub some : IsSome (net_type types net)

-- what was read of bytes that may be a right side of this type
pub record ReadsForm (types : NetTypes) (inputs : List Port) (t : Ty) (bytes : List ℕ) (found : Option Rhs) : Type 0 where
  pub sound : (right : Rhs) → found ≡ Some right → bytes ≡ right_side_text inputs right
  pub complete : (right : Rhs) → right_side_type types right ≡ Some t → bytes ≡ right_side_text inputs right → found ≡ Some right

-- a right side was made of what stands there
pub record IsMade {X : Type 0} (stands : X → Type 0) (make : X → Rhs) (right : Rhs) : Type 0 where
  pub part : X
  pub there : stands part
  pub made : right ≡ make part

-- what was made of the one thing that is right and stands there, where there is one
pub record Makes {X : Type 0} (right stands : X → Type 0) (make : X → Rhs) (found : Option Rhs) : Type 0 where
  pub sound : (made : Rhs) → found ≡ Some made → IsMade stands make made
  pub complete : (part : X) → right part → stands part → found ≡ Some (make part)

pub record AreDeclared2 (types : NetTypes) (nets : Ref × Ref) : Type 0 where
  pub first : IsDeclared types nets.0
  pub second : IsDeclared types nets.1

pub record AreDeclared3 (types : NetTypes) (nets : Ref × Ref × Ref) : Type 0 where
  pub first : IsDeclared types nets.0
  pub second : IsDeclared types nets.1
  pub third : IsDeclared types nets.2

-- two nets after `{`
abbrev pub IsJoined : List Port → List ℕ → Ref × Ref → Type 0
IsJoined inputs bytes nets = bytes ≡ net_text inputs nets.0 ++ (codes ", " ++ (net_text inputs nets.1 ++ codes "}"))

-- a net, and two nets after `? `
pub record IsChoice (inputs : List Port) (first sides : List ℕ) (nets : Ref × Ref × Ref) : Type 0 where
  pub condition : first ≡ net_text inputs nets.0
  pub sides_are : sides ≡ net_text inputs nets.1 ++ (codes " : " ++ net_text inputs nets.2)

-- two nets with a sign between them
pub record IsOperation (types : NetTypes) (parts : Op2 × Ref × Ref) : Type 0 where
  pub sign : IsTrue (has_sign parts.0)
  pub first : IsDeclared types parts.1
  pub second : IsDeclared types parts.2

pub record IsBinary (inputs : List Port) (first rest : List ℕ) (parts : Op2 × Ref × Ref) : Type 0 where
  pub net : first ≡ net_text inputs parts.1
  pub rest_is : rest ≡ sign_text parts.0 ++ (codes " " ++ net_text inputs parts.2)

-- a net with the number of a bit
pub record IsBitOf (types : NetTypes) (bit : Ref × ℕ) : Type 0 where
  pub net : IsDeclared types bit.0
  pub below : bit.1 < 64

pub record IsBit (inputs : List Port) (net index : List ℕ) (bit : Ref × ℕ) : Type 0 where
  pub net_is : net ≡ net_text inputs bit.0
  pub index_is : index ≡ decimal bit.1 ++ codes "]"

-- a net with the numbers of two bits
pub record IsSliceOf (types : NetTypes) (slice : Ref × ℕ × ℕ) : Type 0 where
  pub net : IsDeclared types slice.0
  pub high : slice.1 < 64
  pub low : slice.2 < 64

pub record IsSliceText (inputs : List Port) (net indices : List ℕ) (slice : Ref × ℕ × ℕ) : Type 0 where
  pub net_is : net ≡ net_text inputs slice.0
  pub indices_are : indices ≡ decimal slice.1 ++ (codes ":" ++ (decimal slice.2 ++ codes "]"))

pub record IsSlice (inputs : List Port) (net high low : List ℕ) (slice : Ref × ℕ × ℕ) : Type 0 where
  pub net_is : net ≡ net_text inputs slice.0
  pub high_is : high ≡ decimal slice.1
  pub low_is : low ≡ decimal slice.2 ++ codes "]"

-- what was read after a net and `[`
pub record ReadsSelection (types : NetTypes) (inputs : List Port) (net indices : List ℕ) (found : Option Rhs) : Type 0 where
  pub sound : (right : Rhs) → found ≡ Some right → net ++ 91 ∷ indices ≡ right_side_text inputs right
  pub bit : (bit : Ref × ℕ) → IsBitOf types bit → IsBit inputs net indices bit → found ≡ Some (rhs.Bit bit.0 bit.1)
  pub slice : (slice : Ref × ℕ × ℕ) → IsSliceOf types slice → IsSliceText inputs net indices slice → found ≡ Some (rhs.Slice slice.0 slice.1 slice.2)
