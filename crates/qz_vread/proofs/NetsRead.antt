-- What is read of bytes that may be a net.
use Rattle.std.proofs.Common.{arith, ◌≡◌, ℕ, zero, suc, ◌<◌, List, [], ◌∷◌, ◌++◌, length, map, Some, None, IsSome, refl, sym, ap, ◌∙◌, codes}
use Rattle.std.specs.Prelude.{slice_get}
use Rattle.std.specs.Fmt.{decimal}
use Rattle.std.proofs.lemmas.Bool.{false≢true}
use Rattle.qz_values.specs.declared.Ty.{Ty}
use Rattle.qz_values.specs.declared.Value.{Value}
use Rattle.qz_values.specs.Values.{type_of}
use Rattle.qz_syntax.specs.declared.declarations.Port.{Port}
use Rattle.qz_verilog.specs.declared.nets.Ref.{Ref}
use Rattle.qz_verilog.specs.declared.nets.Ref.TheVariants as net
use Rattle.qz_verilog.specs.declared.nets.Rhs.{Rhs}
use Rattle.qz_verilog.specs.Validity.{declared_types}
use Rattle.qz_vtext.specs.Spelling.{net_text, port_text}
use Rattle.qz_vread.specs.Reading.{Finds, Reads}
use Rattle.qz_vread.specs.RightSides.{IsDeclared}
use Rattle.qz_vread.proofs.Splitting.{heads_differ}
use Rattle.qz_vread.proofs.Finding.{Whence, no_part, a_part}

there_is : {A : Type 0} (f : A → Ty) (xs : List A) (k : ℕ) → k < length xs → IsSome (slice_get (map f xs) k)
there_is f [] k below = absurd (omega arith)
there_is f (x ∷ xs) zero below = refl
there_is f (x ∷ xs) (suc k) below = there_is f xs k (omega arith)

within : {A : Type 0} (f : A → Ty) (xs : List A) (k : ℕ) → IsSome (slice_get (map f xs) k) → k < length xs
within f [] k some = absurd (false≢true some)
within f (x ∷ xs) zero some = omega arith
within f (x ∷ xs) (suc k) some = let later = within f xs k some in omega arith

abbrev DeclaredIn : List Port → List Value → List (Ty × Rhs) → Ref → Type 0
DeclaredIn inputs regs wires = IsDeclared (declared_types inputs regs wires)

input_whence : (inputs : List Port) (regs : List Value) (wires : List (Ty × Rhs)) (bytes text : List ℕ) → bytes ≡ codes "i_" ++ text
    → (r : Ref) → DeclaredIn inputs regs wires r → bytes ≡ net_text inputs r → Whence (λ n. n < length inputs) (λ n. text ≡ port_text inputs n) (λ n. net.Input n) r
input_whence inputs regs wires bytes text whole (net.Input n) is e =
    record { part = n; is = refl; right_part = within (λ (p : Port). p.ty) inputs n is.some; there = (let x : codes "i_" ++ text ≡ codes "i_" ++ port_text inputs n = sym whole ∙ e in cc) }
input_whence inputs regs wires bytes text whole (net.Reg n) is e = absurd (heads_differ 105 114 _ _ refl (sym whole ∙ e))
input_whence inputs regs wires bytes text whole (net.Wire n) is e = absurd (heads_differ 105 119 _ _ refl (sym whole ∙ e))

pub an_input_net : (inputs : List Port) (regs : List Value) (wires : List (Ty × Rhs)) (bytes text : List ℕ) (n : ℕ) → bytes ≡ codes "i_" ++ text
    → Finds (λ n. n < length inputs) (λ n. text ≡ port_text inputs n) (Some n) → Reads (DeclaredIn inputs regs wires) (net_text inputs) bytes (Some (net.Input n))
an_input_net inputs regs wires bytes text n whole found =
    a_part (λ n. n < length inputs) (λ n. text ≡ port_text inputs n) (λ n. net.Input n) (DeclaredIn inputs regs wires) (λ r. bytes ≡ net_text inputs r) n found
    (λ below is. (record { some = there_is (λ (p : Port). p.ty) inputs n below }, whole ∙ ap (λ t. codes "i_" ++ t) is))
    (input_whence inputs regs wires bytes text whole)

register_whence : (inputs : List Port) (regs : List Value) (wires : List (Ty × Rhs)) (bytes text : List ℕ) → bytes ≡ codes "r_" ++ text
    → (r : Ref) → DeclaredIn inputs regs wires r → bytes ≡ net_text inputs r → Whence (λ n. n < length regs) (λ n. text ≡ decimal n) (λ n. net.Reg n) r
register_whence inputs regs wires bytes text whole (net.Input n) is e = absurd (heads_differ 114 105 _ _ refl (sym whole ∙ e))
register_whence inputs regs wires bytes text whole (net.Reg n) is e =
    record { part = n; is = refl; right_part = within type_of regs n is.some; there = (let x : codes "r_" ++ text ≡ codes "r_" ++ decimal n = sym whole ∙ e in cc) }
register_whence inputs regs wires bytes text whole (net.Wire n) is e = absurd (heads_differ 114 119 _ _ refl (sym whole ∙ e))

pub no_register_net : (inputs : List Port) (regs : List Value) (wires : List (Ty × Rhs)) (bytes text : List ℕ) → bytes ≡ codes "r_" ++ text
    → Reads (λ n. n < length regs) decimal text None → Reads (DeclaredIn inputs regs wires) (net_text inputs) bytes None
no_register_net inputs regs wires bytes text whole found =
    no_part (λ n. n < length regs) (λ n. text ≡ decimal n) (λ n. net.Reg n) (DeclaredIn inputs regs wires) (λ r. bytes ≡ net_text inputs r) found
    (register_whence inputs regs wires bytes text whole)

pub a_register_net : (inputs : List Port) (regs : List Value) (wires : List (Ty × Rhs)) (bytes text : List ℕ) (n : ℕ) → bytes ≡ codes "r_" ++ text
    → Reads (λ n. n < length regs) decimal text (Some n) → Reads (DeclaredIn inputs regs wires) (net_text inputs) bytes (Some (net.Reg n))
a_register_net inputs regs wires bytes text n whole found =
    a_part (λ n. n < length regs) (λ n. text ≡ decimal n) (λ n. net.Reg n) (DeclaredIn inputs regs wires) (λ r. bytes ≡ net_text inputs r) n found
    (λ below is. (record { some = there_is type_of regs n below }, whole ∙ ap (λ t. codes "r_" ++ t) is))
    (register_whence inputs regs wires bytes text whole)

wire_whence : (inputs : List Port) (regs : List Value) (wires : List (Ty × Rhs)) (bytes text : List ℕ) → bytes ≡ codes "w_" ++ text
    → (r : Ref) → DeclaredIn inputs regs wires r → bytes ≡ net_text inputs r → Whence (λ n. n < length wires) (λ n. text ≡ decimal n) (λ n. net.Wire n) r
wire_whence inputs regs wires bytes text whole (net.Input n) is e = absurd (heads_differ 119 105 _ _ refl (sym whole ∙ e))
wire_whence inputs regs wires bytes text whole (net.Reg n) is e = absurd (heads_differ 119 114 _ _ refl (sym whole ∙ e))
wire_whence inputs regs wires bytes text whole (net.Wire n) is e =
    record { part = n; is = refl; right_part = within (λ (w : Ty × Rhs). w.0) wires n is.some; there = (let x : codes "w_" ++ text ≡ codes "w_" ++ decimal n = sym whole ∙ e in cc) }

pub no_wire_net : (inputs : List Port) (regs : List Value) (wires : List (Ty × Rhs)) (bytes text : List ℕ) → bytes ≡ codes "w_" ++ text
    → Reads (λ n. n < length wires) decimal text None → Reads (DeclaredIn inputs regs wires) (net_text inputs) bytes None
no_wire_net inputs regs wires bytes text whole found =
    no_part (λ n. n < length wires) (λ n. text ≡ decimal n) (λ n. net.Wire n) (DeclaredIn inputs regs wires) (λ r. bytes ≡ net_text inputs r) found
    (wire_whence inputs regs wires bytes text whole)

pub a_wire_net : (inputs : List Port) (regs : List Value) (wires : List (Ty × Rhs)) (bytes text : List ℕ) (n : ℕ) → bytes ≡ codes "w_" ++ text
    → Reads (λ n. n < length wires) decimal text (Some n) → Reads (DeclaredIn inputs regs wires) (net_text inputs) bytes (Some (net.Wire n))
a_wire_net inputs regs wires bytes text n whole found =
    a_part (λ n. n < length wires) (λ n. text ≡ decimal n) (λ n. net.Wire n) (DeclaredIn inputs regs wires) (λ r. bytes ≡ net_text inputs r) n found
    (λ below is. (record { some = there_is (λ (w : Ty × Rhs). w.0) wires n below }, whole ∙ ap (λ t. codes "w_" ++ t) is))
    (wire_whence inputs regs wires bytes text whole)
