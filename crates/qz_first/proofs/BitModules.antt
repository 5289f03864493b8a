-- A module of bits is a valid module.
use Rattle.std.proofs.Common.{◌≡◌, ℕ, zero, suc, ◌+◌, ◌<◌, Bool, true, false, List, [], ◌∷◌, ◌++◌, map, length, slice_get, Some, IsTrue, refl, sym, ap, subst, ◌∙◌, arith, inl, inr, ◌⊎◌, length-append, zero-add, add-zero, get_or}
use Rattle.std.specs.List.{AllByRecursion}
use Rattle.std.proofs.lemmas.Option.{slice_get-get_or}
use Rattle.std.proofs.Math.ListN.{get_or-append}
use Rattle.std.proofs.Math.Seq.{get_or-append_seam}
use Rattle.qz_values.specs.declared.Ty.{Ty}
use Rattle.qz_values.specs.declared.Ty.TheVariants as ty
use Rattle.qz_values.specs.declared.Value.{Value}
use Rattle.qz_values.specs.declared.Op2.TheVariants as op
use Rattle.qz_values.specs.Types.{IsType}
use Rattle.qz_values.specs.Values.{IsValue, type_of, truth_of}
use Rattle.qz_syntax.specs.declared.declarations.Port.{Port}
use Rattle.qz_syntax.specs.DoubleNames.{are_distinct}
use Rattle.qz_verilog.specs.declared.nets.Ref.{Ref}
use Rattle.qz_verilog.specs.declared.nets.Ref.TheVariants as net
use Rattle.qz_verilog.specs.declared.nets.Rhs.{Rhs}
use Rattle.qz_verilog.specs.declared.nets.Rhs.TheVariants as rhs
use Rattle.qz_verilog.specs.declared.modules.VModule.{VModule}
use Rattle.qz_verilog.specs.Types.{NetTypes, net_type, given1, inverted_type, right_side_type}
use Rattle.qz_verilog.specs.Validity.{port_types, port_names, declared_types, types_of, with_wire, AreWires, AreNetsOf, IsValid}
use Rattle.qz_first.specs.BitNets.{IsDeclared, IsBit, IsRightSide, IsBitModule}

-- so many types, each bool
pub record AreBools (types : List Ty) (count : ℕ) : Type 0 where
  pub counted : length types ≡ count
  pub each : (number : ℕ) → number < count → slice_get types number ≡ Some ty.Bool

bools_map : {X : Type 0} (f : X → Ty) (xs : List X) → AllByRecursion (λ x. f x ≡ ty.Bool) xs → (number : ℕ) → number < length xs
    → slice_get (map f xs) number ≡ Some ty.Bool
bools_map f [] h number below = absurd (omega arith)
bools_map f (x ∷ xs) h zero below = ap Some h.0
bools_map f (x ∷ xs) h (suc number) below = bools_map f xs h.1 number (omega arith)

length_map : {X Y : Type 0} (f : X → Y) (xs : List X) → length (map f xs) ≡ length xs
length_map f [] = refl
length_map f (x ∷ xs) = ap suc (length_map f xs)

pub are_bools : {X : Type 0} (f : X → Ty) (xs : List X) → AllByRecursion (λ x. f x ≡ ty.Bool) xs → AreBools (map f xs) (length xs)
are_bools f xs h = record { counted = length_map f xs; each = bools_map f xs h }

one_more : (types : List Ty) (count : ℕ) → AreBools types count → AreBools (types ++ ty.Bool ∷ []) (count + 1)
one_more types count h = record {
  counted = length-append types (ty.Bool ∷ []) ∙ ap (λ n. n + 1) h.counted;
  each = λ number below. by number (split number below);
}
  where
    split : (number : ℕ) → number < count + 1 → (number < length types) ⊎ (number ≡ length types)
    split number below = let e = h.counted in grind arith

    within : (number : ℕ) → number < length types + 1 → number < length (types ++ ty.Bool ∷ [])
    within number below = let e = length-append types (ty.Bool ∷ []) in omega arith

    by : (number : ℕ) → (number < length types) ⊎ (number ≡ length types) → slice_get (types ++ ty.Bool ∷ []) number ≡ Some ty.Bool
    by number (inl below) =
        let e = h.counted in
        slice_get-get_or (types ++ ty.Bool ∷ []) number ty.Bool (within number (omega arith))
        ∙ ap Some (get_or-append types (ty.Bool ∷ []) ty.Bool number below)
        ∙ sym (slice_get-get_or types number ty.Bool below) ∙ h.each number (omega arith)
    by number (inr here) =
        slice_get-get_or (types ++ ty.Bool ∷ []) number ty.Bool (within number (omega arith))
        ∙ ap Some (ap (λ k. get_or (types ++ ty.Bool ∷ []) k ty.Bool) here ∙ get_or-append_seam types ty.Bool [] ty.Bool)

-- registers and wires that are bools
pub record AreBits (types : NetTypes) (registers wires : ℕ) : Type 0 where
  pub registers_are : AreBools types.registers registers
  pub wires_are : AreBools types.wires wires

pub bit_net : (types : NetTypes) (registers wires : ℕ) → AreBits types registers wires → (a : Ref) → IsDeclared registers wires a
    → net_type types a ≡ Some ty.Bool
bit_net types registers wires bits (net.Input number) h = absurd h
bit_net types registers wires bits (net.Reg number) h = bits.registers_are.each number h
bit_net types registers wires bits (net.Wire number) h = bits.wires_are.each number h

bit_constant : (b : Bool) (types : NetTypes) → right_side_type types (rhs.Const (truth_of b)) ≡ Some ty.Bool
bit_constant true types = refl
bit_constant false types = refl

bit_right : (types : NetTypes) (registers wires : ℕ) → AreBits types registers wires → (right : Rhs) → IsRightSide registers wires right
    → right_side_type types right ≡ Some ty.Bool
bit_right types registers wires bits (rhs.Const value) h = subst (λ v. right_side_type types (rhs.Const v) ≡ Some ty.Bool) (sym h.1) (bit_constant h.0 types)
bit_right types registers wires bits (rhs.Invert a) h = ap (given1 inverted_type) (bit_net types registers wires bits a h)
bit_right types registers wires bits (rhs.Bin op.And a b) h =
    rw (bit_net types registers wires bits a h.1, bit_net types registers wires bits b h.2) refl
bit_right types registers wires bits (rhs.Bin op.Or a b) h =
    rw (bit_net types registers wires bits a h.1, bit_net types registers wires bits b h.2) refl
bit_right types registers wires bits (rhs.Bin other a b) h = absurd h.0
bit_right types registers wires bits other h = absurd h

bit_wires : (types : NetTypes) (registers count : ℕ) → AreBits types registers count → (wires : List (Ty × Rhs))
    → AllByRecursion (λ (wire : Ty × Rhs). wire.0 ≡ ty.Bool) wires
    → ((number : ℕ) (right : Rhs) → slice_get (map (λ (wire : Ty × Rhs). wire.1) wires) number ≡ Some right → IsRightSide registers (count + number) right)
    → AreWires types wires
bit_wires types registers count bits [] bools rights = tt
bit_wires types registers count bits (wire ∷ wires) bools rights =
    let own = subst (λ n. IsRightSide registers n wire.1) (add-zero count) (rights 0 wire.1 refl) in (
      bit_right types registers count bits wire.1 own ∙ ap Some (sym bools.0),
      bit_wires (with_wire types wire.0) registers (count + 1)
          (record { registers_are = bits.registers_are; wires_are = subst (λ t. AreBools (types.wires ++ t ∷ []) (count + 1)) (sym bools.0) (one_more types.wires count bits.wires_are) })
          wires bools.1
          (λ number right at.
          let shift : count + suc number ≡ count + 1 + number = omega arith in
          subst (λ n. IsRightSide registers n right) shift (rights (suc number) right at)),
    )

bit_nets : {X : Type 0} (f : X → Ty) (types : NetTypes) (registers wires : ℕ) → AreBits types registers wires → (xs : List X) (nets : List Ref)
    → AllByRecursion (λ x. f x ≡ ty.Bool) xs → AllByRecursion (IsDeclared registers wires) nets → length nets ≡ length xs
    → AreNetsOf types (map f xs) nets
bit_nets f types registers wires bits [] [] bools declared same = tt
bit_nets f types registers wires bits [] (a ∷ nets) bools declared same = absurd (cc)
bit_nets f types registers wires bits (x ∷ xs) [] bools declared same = absurd (cc)
bit_nets f types registers wires bits (x ∷ xs) (a ∷ nets) bools declared same = (
  bit_net types registers wires bits a declared.0 ∙ ap Some (sym bools.0),
  bit_nets f types registers wires bits xs nets bools.1 declared.1 (omega arith),
)

bit_value : (b : Bool) → IsValue (truth_of b)
bit_value true = record { typed = record { at_least_1 = omega arith; at_most_64 = omega arith }; fits = omega arith }
bit_value false = record { typed = record { at_least_1 = omega arith; at_most_64 = omega arith }; fits = omega arith }

bit_type : (b : Bool) → type_of (truth_of b) ≡ ty.Bool
bit_type true = refl
bit_type false = refl

pub bit_values : (values : List Value) → AllByRecursion IsBit values → AllByRecursion IsValue values
bit_values [] h = tt
bit_values (v ∷ values) h = (subst IsValue (sym h.0.1) (bit_value h.0.0), bit_values values h.1)

pub bool_values : (values : List Value) → AllByRecursion IsBit values → AllByRecursion (λ v. type_of v ≡ ty.Bool) values
bool_values [] h = tt
bool_values (v ∷ values) h = (ap type_of h.0.1 ∙ bit_type h.0.0, bool_values values h.1)

pub bits_of_module : (v : VModule) → IsBitModule v → AreBits (types_of v) (length v.regs) (length v.wires)
bits_of_module v bits = record {
  registers_are = are_bools type_of v.regs (bool_values v.regs bits.begins);
  wires_are = are_bools (λ (wire : Ty × Rhs). wire.0) v.wires bits.wires_are_bools;
}

pub bit_module_is_valid : (v : VModule) → IsBitModule v → IsValid v
bit_module_is_valid v bits = record {
  names = subst (λ (inputs : List Port). IsTrue (are_distinct (port_names (inputs ++ v.outputs)))) (sym bits.inputs) bits.names;
  inputs = subst (λ (inputs : List Port). AllByRecursion IsType (port_types inputs)) (sym bits.inputs) tt;
  registers = bit_values v.regs bits.begins;
  wires = bit_wires (declared_types v.inputs v.regs []) (length v.regs) 0
      (record { registers_are = (bits_of_module v bits).registers_are; wires_are = record { counted = refl; each = λ number below. absurd (omega arith) } })
      v.wires bits.wires_are_bools
      (λ number right at. subst (λ n. IsRightSide (length v.regs) n right) (sym (zero-add number)) (bits.wires number right at));
  outs = bit_nets (λ (port : Port). port.ty) (types_of v) (length v.regs) (length v.wires) (bits_of_module v bits) v.outputs v.outs bits.bools bits.outs bits.driven;
  nexts = bit_nets type_of (types_of v) (length v.regs) (length v.wires) (bits_of_module v bits) v.regs v.nexts (bool_values v.regs bits.begins) bits.nexts bits.clocked;
}
