-- What comes of values of their types is of its type.
use Rattle.std.proofs.Common.{◌≡◌, ℕ, zero, suc, List, [], ◌∷◌, ◌++◌, map, length, get_or, slice_get, Some, refl, sym, ap, subst}
use Rattle.qz_values.specs.declared.Ty.{Ty}
use Rattle.qz_values.specs.declared.Value.{Value}
use Rattle.qz_values.specs.Values.{no, IsValue}
use Rattle.qz_values.specs.Fits.{IsOf}
use Rattle.std.specs.List.{AllByRecursion}
use Rattle.qz_verilog.specs.declared.nets.Ref.{Ref}
use Rattle.qz_verilog.specs.declared.nets.Ref.TheVariants as net
use Rattle.qz_verilog.specs.declared.nets.Rhs.{Rhs}
use Rattle.qz_verilog.specs.declared.modules.VModule.{VModule}
use Rattle.qz_verilog.specs.Types.{NetTypes}
use Rattle.qz_verilog.specs.Validity.{port_types, register_types, wire_types, declared_types, types_of, with_wire, AreWires, AreNetsOf, IsValid}
use Rattle.qz_verilog.specs.Meaning.{Nets, value_at}
use Rattle.qz_verilog.specs.Runs.{AreOf, IsRow, nets_of}
use Rattle.qz_verilog.specs.Laws.{KeepsTypes}
use Rattle.qz_verilog.specs.Simulation.{HaveTypes}
use Rattle.qz_verilog.proofs.RightSides.{AreTyped, typed_right}
use Rattle.qz_verilog.proofs.Settling.{SettlesFrom, whole_settles}

pub AreOf-get : (ts : List Ty) (vs : List Value) → AreOf ts vs → (k : ℕ) (t : Ty) → slice_get ts k ≡ Some t → IsOf t (get_or vs k no)
AreOf-get [] [] h k t is = absurd (cc)
AreOf-get [] (v ∷ vs) h k t is = absurd h
AreOf-get (s ∷ ts) [] h k t is = absurd h
AreOf-get (s ∷ ts) (v ∷ vs) h zero t is = let same : s ≡ t = cc in subst (λ x. IsOf x v) same h.0
AreOf-get (s ∷ ts) (v ∷ vs) h (suc k) t is = AreOf-get ts vs h.1 k t is

pub AreOf-length : (ts : List Ty) (vs : List Value) → AreOf ts vs → length ts ≡ length vs
AreOf-length [] [] h = refl
AreOf-length [] (v ∷ vs) h = absurd h
AreOf-length (t ∷ ts) [] h = absurd h
AreOf-length (t ∷ ts) (v ∷ vs) h = ap suc (AreOf-length ts vs h.1)

pub AreOf-more : (ts : List Ty) (vs : List Value) (t : Ty) (v : Value) → AreOf ts vs → IsOf t v → AreOf (ts ++ t ∷ []) (vs ++ v ∷ [])
AreOf-more [] [] t v h is = (is, tt)
AreOf-more [] (w ∷ vs) t v h is = absurd h
AreOf-more (s ∷ ts) [] t v h is = absurd h
AreOf-more (s ∷ ts) (w ∷ vs) t v h is = (h.0, AreOf-more ts vs t v h.1 is)

pub AreOf-values : (vs : List Value) → AllByRecursion IsValue vs → AreOf (register_types vs) vs
AreOf-values [] h = tt
AreOf-values (v ∷ vs) h = (record { typed = refl; fits = h.0.fits }, AreOf-values vs h.1)

pub typed_nets : (types : NetTypes) (nets : Nets) → HaveTypes types nets → AreTyped types nets
typed_nets types nets h (net.Input number) t is = AreOf-get types.inputs nets.inputs h.inputs number t is
typed_nets types nets h (net.Reg number) t is = AreOf-get types.registers nets.registers h.registers number t is
typed_nets types nets h (net.Wire number) t is = AreOf-get types.wires nets.wires h.wires number t is

pub AreOf-nets : (types : NetTypes) (nets : Nets) → AreTyped types nets → (ts : List Ty) (refs : List Ref) → AreNetsOf types ts refs →
    AreOf ts (map (value_at nets) refs)
AreOf-nets types nets typed [] [] h = tt
AreOf-nets types nets typed [] (r ∷ rs) h = absurd h
AreOf-nets types nets typed (t ∷ ts) [] h = absurd h
AreOf-nets types nets typed (t ∷ ts) (r ∷ rs) h = (typed r t h.0, AreOf-nets types nets typed ts rs h.1)

module _ (registers row : List Value) where
  pub typed_wires : (types : NetTypes) (done : List Value) (wires : List (Ty × Rhs)) (vs : List Value) → HaveTypes types (nets_of registers row done) →
      AreWires types wires → SettlesFrom registers row done wires vs → AreOf (wire_types wires) vs
  typed_wires types done [] [] h valid is = tt
  typed_wires types done [] (v ∷ vs) h valid is = absurd is
  typed_wires types done (wire ∷ wires) [] h valid is = absurd is
  typed_wires types done (wire ∷ wires) (v ∷ vs) h valid is =
      let typed = typed_right types (nets_of registers row done) (typed_nets types (nets_of registers row done) h) wire.1 wire.0 valid.0 in
      let first : IsOf wire.0 v = subst (λ x. IsOf wire.0 x) (sym is.0) typed in (
        first,
        typed_wires (with_wire types wire.0) (done ++ v ∷ []) wires vs
            (record { inputs = h.inputs; registers = h.registers; wires = AreOf-more types.wires done wire.0 v h.wires first }) valid.1 is.1,
      )

module _ (m : VModule) (valid : IsValid m) (registers row : List Value) (typed : AreOf (register_types m.regs) registers) (is_row : IsRow m row) where
  abbrev first_types : NetTypes
  first_types = declared_types m.inputs m.regs []

  abbrev settled_types : (wires : List Value) → SettlesFrom registers row [] m.wires wires → HaveTypes (types_of m) (nets_of registers row wires)
  settled_types wires h = record {
    inputs = is_row;
    registers = typed;
    wires = typed_wires registers row first_types [] m.wires wires (record { inputs = is_row; registers = typed; wires = tt }) valid.wires h;
  }

  pub keeps_types : KeepsTypes m registers row
  keeps_types = record {
    wires = λ wires h. (settled_types wires (whole_settles registers row first_types m.wires wires refl valid.wires h)).wires;
    outs = λ outs next h. rw h.outs_are (AreOf-nets (types_of m) (nets_of registers row h.wires)
        (typed_nets (types_of m) (nets_of registers row h.wires) (settled_types h.wires (whole_settles registers row first_types m.wires h.wires refl valid.wires h.settles)))
        (port_types m.outputs) m.outs valid.outs);
    next = λ outs next h. rw h.next_are (AreOf-nets (types_of m) (nets_of registers row h.wires)
        (typed_nets (types_of m) (nets_of registers row h.wires) (settled_types h.wires (whole_settles registers row first_types m.wires h.wires refl valid.wires h.settles)))
        (register_types m.regs) m.nexts valid.nexts);
  }
