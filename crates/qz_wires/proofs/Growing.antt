-- A table of wires with one more wire.
use Rattle.std.proofs.Common.{◌≡◌, ℕ, zero, suc, Bool, true, false, List, [], ◌∷◌, ◌++◌, map, length, take, slice_get, Option, Some, None, Result, Ok, Err, IfOk, OnErr, refl, sym, ap, ◌∙◌, ◌⊎◌, inl, inr, arith, if◌then◌else◌}
use Rattle.std.specs.List.{list_any}
use Rattle.std.specs.Option.{option_map}
use Rattle.std.proofs.lemmas.List.{take-append-le}
use Rattle.std.proofs.Math.Seq.{take-append_seam}
use Rattle.std.proofs.lemmas.Option.{slice_get_within, slice_get-map}
use Rattle.qz_values.specs.declared.Ty.{Ty}
use Rattle.qz_values.specs.declared.Value.{Value}
use Rattle.qz_syntax.specs.declared.declarations.Port.{Port}
use Rattle.qz_verilog.specs.declared.nets.Ref.{Ref}
use Rattle.qz_verilog.specs.declared.nets.Ref.TheVariants as net
use Rattle.qz_verilog.specs.declared.nets.Rhs.{Rhs}
use Rattle.qz_verilog.specs.Types.{net_type}
use Rattle.qz_verilog.specs.Validity.{declared_types, IsWire}
use Rattle.qz_wires.specs.declared.wires.Wires.{Wires}
use Rattle.qz_wires.specs.Sound.{AreSound}
use Rattle.qz_wires.specs.WireTable.{types_in, Extends}

abbrev Wire : Type 0
Wire = Ty × Rhs

get_longer : {A : Type 0} (xs ys : List A) (k : ℕ) (x : A) → slice_get xs k ≡ Some x → slice_get (xs ++ ys) k ≡ Some x
get_longer [] ys k x e = absurd (cc)
get_longer (y ∷ xs) ys zero x e = e
get_longer (y ∷ xs) ys (suc k) x e = get_longer xs ys k x e

-- what stands in a list with one more element stood there, or is that element at the end
get_pushed : {A : Type 0} (xs : List A) (y : A) (k : ℕ) (x : A) → slice_get (xs ++ y ∷ []) k ≡ Some x →
    (slice_get xs k ≡ Some x) ⊎ ((k ≡ length xs) × (y ≡ x))
get_pushed [] y zero x e = inr (refl, cc)
get_pushed [] y (suc k) x e = absurd (cc)
get_pushed (z ∷ xs) y zero x e = inl e
get_pushed (z ∷ xs) y (suc k) x e = elim (get_pushed xs y k x e) [ inl h ↦ inl h | inr h ↦ inr (ap suc h.0, h.1) ]

-- a longer table of wires, with what stood in the shorter one where it stood
pub record Grown (inputs : List Port) (regs : List Value) (old new : List Wire) : Type 0 where
  pub sound : AreSound inputs regs new
  pub keeps : (k : ℕ) (wire : Wire) → slice_get old k ≡ Some wire → slice_get new k ≡ Some wire

pub pushed : (inputs : List Port) (regs : List Value) (wires : List Wire) (wire : Wire) → AreSound inputs regs wires →
    IsWire (declared_types inputs regs wires) wire → AreSound inputs regs (wires ++ wire ∷ [])
pushed inputs regs wires wire sound fits = record { each = λ n w at. by n w (get_pushed wires wire n w at) }
  where
    by : (n : ℕ) (w : Wire) → (slice_get wires n ≡ Some w) ⊎ ((n ≡ length wires) × (wire ≡ w)) →
        IsWire (declared_types inputs regs (take n (wires ++ wire ∷ []))) w
    by n w (inl old) =
        let within = slice_get_within wires n w old in
        rw (take-append-le n wires (wire ∷ []) (omega (arith, within))) (sound.each n w old)
    by n w (inr last) = rw (last.0, take-append_seam wires (wire ∷ []), ← last.1) fits

pub grown : (inputs : List Port) (regs : List Value) (wires : List Wire) (wire : Wire) (b : Bool) → AreSound inputs regs wires →
    IsWire (declared_types inputs regs wires) wire → Grown inputs regs wires (if b then wires else wires ++ wire ∷ [])
grown inputs regs wires wire true sound fits = record { sound = sound; keeps = λ k w h. h }
grown inputs regs wires wire false sound fits = record {
  sound = pushed inputs regs wires wire sound fits;
  keeps = λ k w h. get_longer wires (wire ∷ []) k w h;
}

-- the type of a wire that is there
pub wire_there : (wires : List Wire) (n : ℕ) (wire : Wire) → slice_get wires n ≡ Some wire → slice_get (map (λ (w : Wire). w.0) wires) n ≡ Some wire.0
wire_there wires n wire at = slice_get-map (λ (w : Wire). w.0) wires n ∙ ap (option_map (λ (w : Wire). w.0)) at

entry_of : (o : Option Wire) (ty : Ty) → option_map (λ (w : Wire). w.0) o ≡ Some ty → (right : Rhs) × (o ≡ Some (ty, right))
entry_of None ty h = absurd (cc)
entry_of (Some w) ty h = (w.1, let same : w.0 ≡ ty = cc in λ i. Some (same i, w.1))

pub grown_extends : (old new : Wires) → new.inputs ≡ old.inputs → new.regs ≡ old.regs →
    ((k : ℕ) (wire : Wire) → slice_get old.table.keys k ≡ Some wire → slice_get new.table.keys k ≡ Some wire) → Extends old new
grown_extends old new inputs regs keeps = record {
  same_inputs = inputs;
  same_regs = regs;
  types = types;
  reads = λ nets reads. record { assigned = λ number wire at. reads.assigned number wire (keeps number wire at) };
}
  where
    types : (a : Ref) (ty : Ty) → net_type (types_in old) a ≡ Some ty → net_type (types_in new) a ≡ Some ty
    types (net.Input n) ty h = rw inputs h
    types (net.Reg n) ty h = rw regs h
    types (net.Wire n) ty h =
        let e = entry_of (slice_get old.table.keys n) ty (sym (slice_get-map (λ (w : Wire). w.0) old.table.keys n) ∙ h) in
        wire_there new.table.keys n (ty, e.0) (keeps n (ty, e.0) e.1)

-- an insertion, whether memory ran out or not, leaves sound wires
pub kept : {A E : Type 0} (inputs : List Port) (regs : List Value) (eq : Wire → Wire → Bool) (old new : List Wire) (wire : Wire) → AreSound inputs regs old →
    IsWire (declared_types inputs regs old) wire → (r : Result A E) → IfOk r (λ x. new ≡ (if list_any (eq wire) old then old else old ++ wire ∷ [])) →
    OnErr r (new ≡ old) → AreSound inputs regs new
kept inputs regs eq old new wire sound fits (Ok x) is unchanged = rw is (grown inputs regs old wire (list_any (eq wire) old) sound fits).sound
kept inputs regs eq old new wire sound fits (Err x) is unchanged = rw unchanged sound
