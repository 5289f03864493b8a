-- What a clock sets is what the definitions say.
use Rattle.std.proofs.Common.{◌≡◌, ℕ, zero, suc, ◌+◌, ◌<◌, List, [], ◌∷◌, ◌++◌, map, length, get_or, take, drop, set, refl, ap, ap₂, ◌∙◌, arith, append-nil, add-one}
use Rattle.std.specs.List.{AllByRecursion}
use Rattle.std.proofs.Math.Seq.{drop-cons}
use Rattle.std.proofs.lemmas.List.{append_assoc, take_all, take_more_set, drop_all}
use Rattle.qz_values.specs.declared.Ty.{Ty}
use Rattle.qz_values.specs.declared.Value.{Value}
use Rattle.qz_values.specs.Types.{IsType}
use Rattle.qz_values.specs.Values.{value_of, bits_of, IsValue}
use Rattle.qz_values.specs.Fits.{IsOf}
use Rattle.qz_syntax.specs.declared.declarations.Port.{Port}
use Rattle.qz_verilog.specs.declared.nets.Ref.{Ref}
use Rattle.qz_verilog.specs.declared.modules.VModule.{VModule}
use Rattle.qz_verilog.specs.Validity.{port_types, register_types, IsValid}
use Rattle.qz_verilog.specs.Meaning.{Nets, value_at, Settles}
use Rattle.qz_verilog.specs.Runs.{AreOf, IsRow, nets_of, IsClock}
use Rattle.qz_verilog.specs.Simulation.{row_of}
use Rattle.qz_verilog.proofs.KeepingTypes.{keeps_types}

-- a number of a row with its type is a value
pub IsValue-row_of : (ports : List Port) (numbers : List ℕ) → AllByRecursion IsType (port_types ports) → AreOf (port_types ports) (row_of (port_types ports) numbers) →
    (k : ℕ) (d : Port) (e : ℕ) → k < length ports → IsValue (value_of (get_or ports k d).ty (get_or numbers k e))
IsValue-row_of [] numbers types h k d e below = absurd (omega arith)
IsValue-row_of (port ∷ ports) [] types h k d e below = absurd h
IsValue-row_of (port ∷ ports) (n ∷ numbers) types h zero d e below = record { typed = types.0; fits = h.0.fits }
IsValue-row_of (port ∷ ports) (n ∷ numbers) types h (suc k) d e below = IsValue-row_of ports numbers types.1 h.1 k d e (omega arith)

-- one number more is taken
pub row_of-step : (ports : List Port) (numbers : List ℕ) (values : List Value) (k : ℕ) (d : Port) (e : ℕ) →
    k < length ports → k < length numbers → k < length values →
    take (k + 1) (set values k (value_of (get_or ports k d).ty (get_or numbers k e)))
    ++ row_of (port_types (drop (k + 1) ports)) (drop (k + 1) numbers)
    ≡ take k values ++ row_of (port_types (drop k ports)) (drop k numbers)
row_of-step ports numbers values k d e below there room =
    let v = value_of (get_or ports k d).ty (get_or numbers k e) in
    let rest = row_of (port_types (drop (k + 1) ports)) (drop (k + 1) numbers) in
    let left : row_of (port_types (drop k ports)) (drop k numbers) ≡ v ∷ rest =
    rw (drop-cons ports k d below, drop-cons numbers k e there, add-one k) refl in
    rw (left, take_more_set values k v room) (append_assoc (take k values) (v ∷ []) rest)

-- the numbers of values of these types, with the types, are the values
value_is : (t : Ty) (v : Value) → IsOf t v → value_of t (bits_of v) ≡ v
value_is t v h = rw (← h.typed) refl

row_of-nets : (nets : Nets) (ts : List Ty) (refs : List Ref) → AreOf ts (map (value_at nets) refs) →
    row_of ts (map (λ net. bits_of (value_at nets net)) refs) ≡ map (value_at nets) refs
row_of-nets nets [] [] h = refl
row_of-nets nets [] (r ∷ rs) h = absurd h
row_of-nets nets (t ∷ ts) [] h = absurd h
row_of-nets nets (t ∷ ts) (r ∷ rs) h = ap₂ (λ x xs. x ∷ xs) (value_is t (value_at nets r) h.0) (row_of-nets nets ts rs h.1)

module _ (m : VModule) (valid : IsValid m) (registers row wires : List Value) (typed : AreOf (register_types m.regs) registers) (is_row : IsRow m row)
    (settles : Settles m.wires (nets_of registers row wires)) where
  abbrev clocked : IsClock m registers row (map (value_at (nets_of registers row wires)) m.outs) (map (value_at (nets_of registers row wires)) m.nexts)
  clocked = record { wires = wires; settles = settles; outs_are = refl; next_are = refl }

  pub clock_done : (outputs : List ℕ) (next : List Value) → outputs ≡ map (λ net. bits_of (value_at (nets_of registers row wires) net)) m.outs →
      next ≡ map (value_at (nets_of registers row wires)) m.nexts → IsClock m registers row (row_of (port_types m.outputs) outputs) next
  clock_done outputs next outs_are next_are = record {
    wires = wires;
    settles = settles;
    outs_are = ap (row_of (port_types m.outputs)) outs_are
        ∙ row_of-nets (nets_of registers row wires) (port_types m.outputs) m.outs ((keeps_types m valid registers row typed is_row).outs _ _ clocked);
    next_are = next_are;
  }

-- a slice of a list, written whole
pub written : (n : ℕ) (values items : List Value) → length items ≡ n → length values ≡ n → take n (values ++ drop (length values) items) ≡ values
written n values items h g =
    rw (drop_all (length values) items (omega arith), append-nil values) (take_all n values (omega arith))
