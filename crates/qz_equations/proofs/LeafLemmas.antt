-- Leaves are of their types, and what is known of them stands in inputs and registers.
use Rattle.std.proofs.Common.{◌≡◌, ℕ, ◌<◌, Bool, true, false, List, [], ◌∷◌, ◌++◌, length, get_or, Option, Some, None, refl, sym, ap, subst, ◌∙◌, ◌⊎◌, inl, inr, arith, if◌then◌else◌}
use Rattle.std.specs.Prelude.{nat_lt, slice_get, slice_index_or}
use Rattle.std.specs.Option.{option_map, option_map_or}
use Rattle.std.proofs.lemmas.Bool.{ltb-true, false≢true}
use Rattle.std.proofs.lemmas.Option.{slice_get-map, get_or_from_slice_get, same_Some}
use Rattle.qz_values.specs.declared.Ty.{Ty}
use Rattle.qz_values.specs.declared.Ty.TheVariants.{Bool as Truth}
use Rattle.qz_values.specs.declared.Value.{Value}
use Rattle.qz_values.specs.declared.Know.{Know}
use Rattle.qz_values.specs.declared.Know.TheVariants.{Unknown, Known}
use Rattle.qz_values.specs.Types.{is_type}
use Rattle.qz_values.specs.Values.{value_of, no}
use Rattle.qz_nets.specs.Readings.{listed}
use Rattle.qz_syntax.specs.declared.declarations.Port.{Port}
use Rattle.qz_verilog.specs.declared.nets.Ref.TheVariants as net
use Rattle.qz_verilog.specs.Types.{NetTypes}
use Rattle.qz_verilog.specs.Validity.{IsNetOf}
use Rattle.qz_verilog.specs.Meaning.{Nets, value_at}
use Rattle.qz_system.specs.declared.parts.SystemLeaf.{SystemLeaf}
use Rattle.qz_system.specs.declared.parts.SystemLeaf.TheVariants as leaf
use Rattle.qz_system.specs.declared.parts.SystemParts.{SystemParts}
use Rattle.qz_system.specs.declared.valuation.Valuation.{Valuation}
use Rattle.qz_system.specs.Parts.{AreParts, instance_type, is_leaf_right, leaf_stands}
use Rattle.qz_system.specs.Rounds.{leaf_known, leaves_known}
use Rattle.qz_system.proofs.Finding.{all_at}
use Rattle.qz_system.proofs.FitLemmas.{type_there}
use Rattle.qz_system.proofs.TypingLemmas.{instance_within}
use Rattle.qz_wires.specs.declared.wires.Wires.{Wires}
use Rattle.qz_wires.specs.declared.rails.Rail.{Rail}
use Rattle.qz_wires.specs.WireTable.{types_in}
use Rattle.qz_wires.specs.Rails.{IsRail}
use Rattle.qz_equations.specs.Registers.{AreOver, Holds, place_register}
use Rattle.qz_equations.specs.Unrolled.{AreLeavesOf}
use Rattle.qz_wires.proofs.NetLists.{get_pushed}
use Rattle.qz_equations.proofs.RegisterLemmas.{input_at, place_at, input_typed, bool_register}

module _ (parts : SystemParts) (are : AreParts parts) where
  -- the types of what leaves stand for
  module _ (wires : Wires) (over : AreOver parts wires) (rail : Rail) (known : IsNetOf (types_in wires) Truth rail.known) where
    truth_rail : (ty : Ty) → Some Truth ≡ Some ty → IsNetOf (types_in wires) Truth rail.value → IsRail (types_in wires) ty rail
    truth_rail ty same net =
        let is : Truth ≡ ty = cc in
        subst (λ t. IsRail (types_in wires) t rail) is (record { of_type = record { at_least_1 = omega arith; at_most_64 = omega arith }; known_net = known; value_net = net })

    pub input_rail : (n : ℕ) (ty : Ty) → rail.value ≡ net.Input n → leaf_stands parts (leaf.Input n) ≡ Some ty → IsRail (types_in wires) ty rail
    input_rail n ty value stands = by (slice_get parts.inputs n) refl stands
      where
        by : (o : Option Port) → slice_get parts.inputs n ≡ o → option_map (λ (port : Port). port.ty) o ≡ Some ty → IsRail (types_in wires) ty rail
        by None at is = absurd (cc)
        by (Some port) at is =
            let same : port.ty ≡ ty = cc in
            subst (λ t. IsRail (types_in wires) t rail) same (record {
              of_type = type_there port.ty (all_at (λ (p : Port). is_type p.ty) parts.inputs are.is_declared.input_types n port at);
              known_net = known;
              value_net = rw value (input_typed parts wires over n port at);
            })

    pub place_rail : (n : ℕ) (ty : Ty) → rail.value ≡ net.Reg (place_register n) → leaf_stands parts (leaf.At n) ≡ Some ty → IsRail (types_in wires) ty rail
    place_rail n ty value stands = by (nat_lt n (length parts.places)) refl stands
      where
        by : (b : Bool) → nat_lt n (length parts.places) ≡ b → (if b then Some Truth else None) ≡ Some ty → IsRail (types_in wires) ty rail
        by true below is =
            let within = ltb-true n (length parts.places) below in
            truth_rail ty is (rw value (bool_register parts wires over (place_register n) (omega (arith, within))))
        by false below is = absurd (cc)

    pub started_rail : (ty : Ty) → rail.value ≡ net.Reg 0 → Some Truth ≡ Some ty → IsRail (types_in wires) ty rail
    started_rail ty value is = truth_rail ty is (rw value (bool_register parts wires over 0 (omega arith)))

  -- an instance for which a leaf stands is there
  pub now_within : (n : ℕ) → is_leaf_right parts (leaf.Now n) ≡ true → n < length parts.instances
  now_within n right = by (instance_type parts n) refl right
    where
      by : (o : Option Ty) → instance_type parts n ≡ o → option_map_or (λ (ty : Ty). true) o false ≡ true → n < length parts.instances
      by None is h = absurd (false≢true h)
      by (Some ty) is h = instance_within parts n ty is

  pub place_within : (n : ℕ) → is_leaf_right parts (leaf.At n) ≡ true → n < length parts.places
  place_within n right = by (nat_lt n (length parts.places)) refl right
    where
      by : (b : Bool) → nat_lt n (length parts.places) ≡ b → option_map_or (λ (ty : Ty). true) (if b then Some Truth else None) false ≡ true → n < length parts.places
      by true below h = ltb-true n (length parts.places) below
      by false below h = absurd (false≢true h)

  -- what is known of them
  module _ (v : Valuation) (nets : Nets) (holds : Holds parts v nets) (before : List Know) where
    pub input_is : (n : ℕ) → is_leaf_right parts (leaf.Input n) ≡ true → Known (value_at nets (net.Input n)) ≡ leaf_known parts v before (leaf.Input n)
    input_is n right = by (slice_get parts.inputs n) refl right
      where
        by : (o : Option Port) → slice_get parts.inputs n ≡ o → option_map_or (λ (ty : Ty). true) (option_map (λ (port : Port). port.ty) o) false ≡ true
            → Known (get_or nets.inputs n no) ≡ option_map_or (λ (port : Port). Known (value_of port.ty (slice_index_or v.inputs.items n 0))) o Unknown
        by None at h = absurd (false≢true h)
        by (Some port) at h = ap (λ (row : List Value). Known (get_or row n no)) holds.inputs ∙ ap (λ x. Known x) (input_at parts v holds.fits n port at)

    pub place_is : (n : ℕ) → is_leaf_right parts (leaf.At n) ≡ true → Known (value_at nets (net.Reg (place_register n))) ≡ leaf_known parts v before (leaf.At n)
    place_is n right =
        ap (λ (row : List Value). Known (get_or row (place_register n) no)) holds.registers
        ∙ ap (λ x. Known x) (place_at parts v holds.fits n (place_within n right))

    pub started_is : Known (value_at nets (net.Reg 0)) ≡ leaf_known parts v before leaf.Started
    started_is = ap (λ (row : List Value). Known (get_or row 0 no)) holds.registers

-- rails of leaves, with one more
module _ (parts : SystemParts) (rails : List Rail) (rail : Rail) (one : SystemLeaf) (next : slice_get parts.leaves (length rails) ≡ Some one) where
  pub leaf_rails_more : (types : NetTypes) → AreLeavesOf types parts rails → ((ty : Ty) → leaf_stands parts one ≡ Some ty → IsRail types ty rail)
      → AreLeavesOf types parts (rails ++ rail ∷ [])
  leaf_rails_more types are here = record { each = λ n other ty r there is at. by n other ty r there is (get_pushed rails rail n r at) }
    where
      by : (n : ℕ) (other : SystemLeaf) (ty : Ty) (r : Rail) → slice_get parts.leaves n ≡ Some other → leaf_stands parts other ≡ Some ty
          → (slice_get rails n ≡ Some r) ⊎ ((n ≡ length rails) × (rail ≡ r)) → IsRail types ty r
      by n other ty r there is (inl old) = are.each n other ty r there is old
      by n other ty r there is (inr last) =
          let same : one ≡ other = same_Some one other (sym next ∙ ap (slice_get parts.leaves) (sym last.0) ∙ there) in
          subst (IsRail types ty) last.1 (here ty (ap (leaf_stands parts) same ∙ is))

-- what is known of the leaf with a number
pub leaf_at : (parts : SystemParts) (v : Valuation) (before : List Know) (n : ℕ) (one : SystemLeaf) → slice_get parts.leaves n ≡ Some one
    → listed (leaves_known parts v before) n ≡ leaf_known parts v before one
leaf_at parts v before n one at =
    get_or_from_slice_get (leaves_known parts v before) n (leaf_known parts v before one) Unknown
    (slice_get-map (λ (x : SystemLeaf). leaf_known parts v before x) parts.leaves n ∙ ap (option_map (λ (x : SystemLeaf). leaf_known parts v before x)) at)
