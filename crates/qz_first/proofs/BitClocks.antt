-- The clocks of a module of bits, read as bits.
use Rattle.std.proofs.Common.{◌≡◌, ℕ, ◌<◌, Bool, not, ◌&&◌, ◌||◌, List, [], ◌∷◌, map, length, get_or, slice_get, Option, Some, None, refl, sym, ap, ap₂, subst, ◌∙◌, inl, inr, arith}
use Rattle.std.specs.List.{AllByRecursion}
use Rattle.std.specs.Option.{option_map}
use Rattle.std.proofs.lemmas.Option.{slice_get-map, slice_get_within, get_or_from_slice_get}
use Rattle.qz_values.specs.declared.Ty.{Ty}
use Rattle.qz_values.specs.declared.Ty.TheVariants as ty
use Rattle.qz_values.specs.declared.Value.{Value}
use Rattle.qz_values.specs.declared.Op2.TheVariants as op
use Rattle.qz_values.specs.Values.{no, is_yes, truth_of}
use Rattle.qz_values.specs.Fits.{IsOf}
use Rattle.qz_values.specs.Operators.{value2}
use Rattle.qz_values.proofs.Connectives.{yes_or_no}
use Rattle.qz_syntax.specs.declared.declarations.Port.{Port}
use Rattle.qz_verilog.specs.declared.nets.Ref.{Ref}
use Rattle.qz_verilog.specs.declared.nets.Ref.TheVariants as net
use Rattle.qz_verilog.specs.declared.nets.Rhs.{Rhs}
use Rattle.qz_verilog.specs.declared.nets.Rhs.TheVariants as rhs
use Rattle.qz_verilog.specs.declared.modules.VModule.{VModule}
use Rattle.qz_verilog.specs.Validity.{port_types, register_types, types_of, IsValid}
use Rattle.qz_verilog.specs.Meaning.{value_at, inverted, right_side}
use Rattle.qz_verilog.specs.Meaning as value
use Rattle.qz_verilog.specs.Runs.{AreOf, IsRow, IsClock, nets_of}
use Rattle.qz_verilog.proofs.RightSides.{AreTyped}
use Rattle.qz_verilog.proofs.KeepingTypes.{keeps_types, typed_nets}
use Rattle.qz_first.specs.BitNets.{Nets, bit_at, right_bit, rights_of, IsBitClock, IsDeclared, IsRightSide, IsBitModule}
use Rattle.qz_first.proofs.BitModules.{bit_net, bits_of_module, bit_module_is_valid}

-- values read as bits, each at its number
abbrev pub bits_of : List Value → ℕ → Bool
bits_of values number = is_yes (get_or values number no)

-- nets' values read as bits
abbrev pub read : value.Nets → Nets
read nets = record { registers = bits_of nets.registers; wires = bits_of nets.wires }

bit_is : (nets : value.Nets) → nets.inputs ≡ [] → (a : Ref) → is_yes (value_at nets a) ≡ bit_at (read nets) a
bit_is nets none (net.Input number) = ap (λ inputs. is_yes (get_or inputs number no)) none
bit_is nets none (net.Reg number) = refl
bit_is nets none (net.Wire number) = refl

inverted_bit : (v : Value) → IsOf ty.Bool v → is_yes (inverted v) ≡ not (is_yes v)
inverted_bit v h = elim (yes_or_no v h) [ inl e ↦ rw e refl | inr e ↦ rw e refl ]

and_bit : (v w : Value) → IsOf ty.Bool v → IsOf ty.Bool w → is_yes (value2 op.And v w) ≡ (is_yes v && is_yes w)
and_bit v w h k =
    elim (yes_or_no v h) [
      | inl e ↦ elim (yes_or_no w k) [ inl f ↦ rw (e, f) refl | inr f ↦ rw (e, f) refl ]
      | inr e ↦ elim (yes_or_no w k) [ inl f ↦ rw (f, e) refl | inr f ↦ rw (f, e) refl ]
    ]

or_bit : (v w : Value) → IsOf ty.Bool v → IsOf ty.Bool w → is_yes (value2 op.Or v w) ≡ (is_yes v || is_yes w)
or_bit v w h k =
    elim (yes_or_no v h) [
      | inl e ↦ elim (yes_or_no w k) [ inl f ↦ rw (f, e) refl | inr f ↦ rw (f, e) refl ]
      | inr e ↦ elim (yes_or_no w k) [ inl f ↦ rw (f, e) refl | inr f ↦ rw (f, e) refl ]
    ]

module _ (v : VModule) (bits : IsBitModule v) (nets : value.Nets) (none : nets.inputs ≡ []) (typed : AreTyped (types_of v) nets) where
  bool_at : (limit : ℕ) → limit < length v.wires → (a : Ref) → IsDeclared (length v.regs) limit a → IsOf ty.Bool (value_at nets a)
  bool_at limit below (net.Input number) h = absurd h
  bool_at limit below (net.Reg number) h =
      typed (net.Reg number) ty.Bool (bit_net (types_of v) (length v.regs) (length v.wires) (bits_of_module v bits) (net.Reg number) h)
  bool_at limit below (net.Wire number) h =
      typed (net.Wire number) ty.Bool (bit_net (types_of v) (length v.regs) (length v.wires) (bits_of_module v bits) (net.Wire number) (omega arith))

  right_is : (limit : ℕ) → limit < length v.wires → (right : Rhs) → IsRightSide (length v.regs) limit right
      → is_yes (right_side nets right) ≡ right_bit (read nets) right
  right_is limit below (rhs.Const c) h = refl
  right_is limit below (rhs.Invert a) h = inverted_bit (value_at nets a) (bool_at limit below a h) ∙ ap not (bit_is nets none a)
  right_is limit below (rhs.Bin op.And a b) h =
      and_bit (value_at nets a) (value_at nets b) (bool_at limit below a h.1) (bool_at limit below b h.2)
      ∙ ap₂ (λ p q. p && q) (bit_is nets none a) (bit_is nets none b)
  right_is limit below (rhs.Bin op.Or a b) h =
      or_bit (value_at nets a) (value_at nets b) (bool_at limit below a h.1) (bool_at limit below b h.2)
      ∙ ap₂ (λ p q. p || q) (bit_is nets none a) (bit_is nets none b)
  right_is limit below (rhs.Bin other a b) h = absurd h.0
  right_is limit below other h = absurd h

  -- bits of settled values are settled
  bits_settle : value.Settles v.wires nets → (number : ℕ) (right : Rhs) → slice_get (rights_of v) number ≡ Some right
      → bits_of nets.wires number ≡ right_bit (read nets) right
  bits_settle settles number right at = by (slice_get v.wires number) refl
    where
      mapped : option_map (λ (wire : Ty × Rhs). wire.1) (slice_get v.wires number) ≡ Some right
      mapped = sym (slice_get-map (λ (wire : Ty × Rhs). wire.1) v.wires number) ∙ at

      by : (o : Option (Ty × Rhs)) → slice_get v.wires number ≡ o → bits_of nets.wires number ≡ right_bit (read nets) right
      by None is = absurd (none_some (ap (option_map (λ (wire : Ty × Rhs). wire.1)) (sym is) ∙ mapped))
        where
          none_some : ◌≡◌ {A = Option Rhs} None (Some right) → ⊥
          none_some e = cc
      by (Some wire) is =
          let same : wire.1 ≡ right = some_is (ap (option_map (λ (wire : Ty × Rhs). wire.1)) (sym is) ∙ mapped) in
          let here : is_yes (right_side nets wire.1) ≡ right_bit (read nets) wire.1 =
          right_is number (slice_get_within v.wires number wire is) wire.1
          (subst (IsRightSide (length v.regs) number) (sym same) (bits.wires number right at)) in
          ap is_yes (settles.assigned number wire is) ∙ here ∙ ap (right_bit (read nets)) same
        where
          some_is : Some wire.1 ≡ Some right → wire.1 ≡ right
          some_is e = cc

-- what a list of nets reads, read as bits
map_bits : (nets : value.Nets) → nets.inputs ≡ [] → (refs : List Ref) → map is_yes (map (value_at nets) refs) ≡ map (bit_at (read nets)) refs
map_bits nets none [] = refl
map_bits nets none (a ∷ refs) = ap₂ (λ x xs. x ∷ xs) (bit_is nets none a) (map_bits nets none refs)

next_bit : (nets : value.Nets) → nets.inputs ≡ [] → (refs : List Ref) (number : ℕ) (source : Ref) → slice_get refs number ≡ Some source
    → bits_of (map (value_at nets) refs) number ≡ bit_at (read nets) source
next_bit nets none refs number source at =
    ap is_yes (get_or_from_slice_get (map (value_at nets) refs) number (value_at nets source) no
    (slice_get-map (value_at nets) refs number ∙ ap (option_map (value_at nets)) at))
    ∙ bit_is nets none source

-- values of bools are those of their bits
bools_are : (ports : List Port) (values : List Value) → AllByRecursion (λ (port : Port). port.ty ≡ ty.Bool) ports → AreOf (port_types ports) values
    → values ≡ map truth_of (map is_yes values)
bools_are [] [] bools h = refl
bools_are [] (v ∷ values) bools h = absurd h
bools_are (port ∷ ports) [] bools h = absurd h
bools_are (port ∷ ports) (v ∷ values) bools h =
    ap₂ (λ x xs. x ∷ xs) (bool_is v (subst (λ t. IsOf t v) bools.0 h.0)) (bools_are ports values bools.1 h.1)
  where
    bool_is : (v : Value) → IsOf ty.Bool v → v ≡ truth_of (is_yes v)
    bool_is v h = elim (yes_or_no v h) [ inl e ↦ rw e refl | inr e ↦ rw e refl ]

module _ (v : VModule) (bits : IsBitModule v) (registers outs next : List Value) (typed : AreOf (register_types v.regs) registers)
    (clock : IsClock v registers [] outs next) where
  abbrev valid : IsValid v
  valid = bit_module_is_valid v bits

  abbrev is_row : IsRow v []
  is_row = subst (λ (inputs : List Port). AreOf (port_types inputs) []) (sym bits.inputs) tt

  abbrev settled_nets : value.Nets
  settled_nets = nets_of registers [] clock.wires

  typed_there : AreTyped (types_of v) settled_nets
  typed_there = typed_nets (types_of v) settled_nets (record {
    inputs = is_row;
    registers = typed;
    wires = (keeps_types v valid registers [] typed is_row).wires clock.wires clock.settles;
  })

  -- the clock of the bits
  pub bit_clock : IsBitClock v (bits_of registers) (map is_yes outs) (bits_of next)
  bit_clock = record {
    wires = bits_of clock.wires;
    settles = bits_settle v bits settled_nets refl typed_there clock.settles;
    outs_are = ap (map is_yes) clock.outs_are ∙ map_bits settled_nets refl v.outs;
    takes = λ number source at. ap (λ values. bits_of values number) clock.next_are ∙ next_bit settled_nets refl v.nexts number source at;
  }

  pub outs_are_bits : outs ≡ map truth_of (map is_yes outs)
  outs_are_bits = bools_are v.outputs outs bits.bools ((keeps_types v valid registers [] typed is_row).outs outs next clock)

  pub next_typed : AreOf (register_types v.regs) next
  next_typed = (keeps_types v valid registers [] typed is_row).next outs next clock
