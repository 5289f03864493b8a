-- Rows of numbers as values, and a run that goes on.
use Rattle.std.proofs.Common.{◌≡◌, ℕ, zero, suc, ◌*◌, ◌≤◌, arith, length-drop, List, [], ◌∷◌, ◌++◌, length, map, take, drop, refl, sym, ap, ap₂, subst, ◌∙◌, append_assoc}
use Rattle.std.specs.List.{AllByRecursion}
use Rattle.std.proofs.lemmas.List.{map-append, append-nil, length-take-le}
use Rattle.qz_values.specs.declared.Ty.{Ty}
use Rattle.qz_values.specs.declared.Value.{Value}
use Rattle.qz_values.specs.Values.{bits_of}
use Rattle.qz_verilog.specs.declared.modules.VModule.{VModule}
use Rattle.qz_verilog.specs.Validity.{port_types}
use Rattle.qz_verilog.specs.Simulation.{row_of}
use Rattle.qz_verilog.specs.Runs.{AreOf, IsClock, RunsFrom, IsRun}
use Rattle.qz_trace.specs.Rows.{IsRow, rows_of}
use Rattle.qz_trace.proofs.RowLemmas.{rows_more, times_suc}

-- numbers that fit are values of the types
pub row_fits : (ts : List Ty) (ns : List ℕ) → IsRow ts ns → AreOf ts (row_of ts ns)
row_fits [] [] is = tt
row_fits [] (n ∷ ns) is = absurd is
row_fits (t ∷ ts) [] is = absurd is
row_fits (t ∷ ts) (n ∷ ns) is = (record { typed = refl; fits = is.0 }, row_fits ts ns is.1)

-- the numbers of a row's values are the row
pub bits_back : (ts : List Ty) (ns : List ℕ) → length ns ≡ length ts → map bits_of (row_of ts ns) ≡ ns
bits_back [] [] same = refl
bits_back [] (n ∷ ns) same = absurd (cc (same))
bits_back (t ∷ ts) [] same = absurd (cc (same))
bits_back (t ∷ ts) (n ∷ ns) same = ap (λ l. n ∷ l) (bits_back ts ns (cc (same)))

pub all_back : (ts : List Ty) (rows : List (List ℕ)) → AllByRecursion (λ row. length row ≡ length ts) rows → map (map bits_of) (map (row_of ts) rows) ≡ rows
all_back ts [] same = refl
all_back ts (row ∷ rows) same = ap₂ (λ r rs. r ∷ rs) (bits_back ts row same.0) (all_back ts rows same.1)

abbrev pub inputs_as_values : VModule → List (List ℕ) → List (List Value)
inputs_as_values circuit rows = map (row_of (port_types circuit.inputs)) rows

abbrev pub outputs_as_values : VModule → List (List ℕ) → List (List Value)
outputs_as_values circuit rows = map (row_of (port_types circuit.outputs)) rows

-- a run over the rows that are left makes one over all
pub record Ran (circuit : VModule) (all rest : List (List ℕ)) (registers : List Value) (outs : List (List ℕ)) : Type 0 where
  pub goes_on : (more : List (List Value)) → RunsFrom circuit registers (inputs_as_values circuit rest) more
      → IsRun circuit (inputs_as_values circuit all) (outputs_as_values circuit outs ++ more)

pub ran_none : (circuit : VModule) (all : List (List ℕ)) → Ran circuit all all circuit.regs []
ran_none circuit all = record { goes_on = λ more runs. runs }

pub ran_more : (circuit : VModule) (all rest : List (List ℕ)) (row out : List ℕ) (registers next : List Value) (outs : List (List ℕ))
    → Ran circuit all (row ∷ rest) registers outs
    → IsClock circuit registers (row_of (port_types circuit.inputs) row) (row_of (port_types circuit.outputs) out) next
    → Ran circuit all rest next (outs ++ (out ∷ []))
ran_more circuit all rest row out registers next outs ran clock = record {
  goes_on = λ more runs.
      subst (IsRun circuit (inputs_as_values circuit all)) (sym (joins more))
      (ran.goes_on (row_of (port_types circuit.outputs) out ∷ more) (next, clock, runs));
} where
  joins : (more : List (List Value)) → outputs_as_values circuit (outs ++ (out ∷ [])) ++ more
      ≡ outputs_as_values circuit outs ++ (row_of (port_types circuit.outputs) out ∷ more)
  joins more = ap (λ l. l ++ more) (map-append (row_of (port_types circuit.outputs)) outs (out ∷ []))
      ∙ append_assoc (outputs_as_values circuit outs) (row_of (port_types circuit.outputs) out ∷ []) more

-- one clock more: the row in front of what is left, and its outputs after those so far
pub ran_step : (circuit : VModule) (w width done left : ℕ) (all : List (List ℕ)) (rest values row out later more : List ℕ) (registers next : List Value)
    → Ran circuit all (rows_of w (suc left) rest) registers (rows_of width done values)
    → row ≡ take w rest → later ≡ drop w rest → more ≡ values ++ out → length values ≡ width * done → length out ≡ width
    → IsClock circuit registers (row_of (port_types circuit.inputs) row) (row_of (port_types circuit.outputs) out) next
    → Ran circuit all (rows_of w left later) next (rows_of width (suc done) more)
ran_step circuit w width done left all rest values row out later more registers next ran front back joined held size clock =
    let P : List ℕ → Type 0 = λ r. IsClock circuit registers (row_of (port_types circuit.inputs) r) (row_of (port_types circuit.outputs) out) next in
    let on = ran_more circuit all (rows_of w left (drop w rest)) (take w rest) out registers next (rows_of width done values) ran (subst P front clock) in
    let told : rows_of width (suc done) more ≡ rows_of width done values ++ (out ∷ []) =
    ap (rows_of width (suc done)) joined ∙ rows_more width done values out held size in
    let Q : List (List ℕ) → Type 0 = λ outs. Ran circuit all (rows_of w left (drop w rest)) next outs in
    let R : List ℕ → Type 0 = λ l. Ran circuit all (rows_of w left l) next (rows_of width (suc done) more) in
    subst R (sym back) (subst Q (sym told) on)

-- the rows of so many numbers are all so wide
pub all_wide : (width steps : ℕ) (values : List ℕ) → length values ≡ width * steps → AllByRecursion (λ row. length row ≡ width) (rows_of width steps values)
all_wide width zero values held = tt
all_wide width (suc steps) values held =
    let size = times_suc width steps in
    let within : width ≤ length values = omega (arith, held, size) in
    let less : length (drop width values) ≡ width * steps = length-drop width values ∙ omega (arith, held, size) in
    (length-take-le width values within, all_wide width steps (drop width values) less)

pub ran_all : (circuit : VModule) (all outs : List (List ℕ)) (registers : List Value) → Ran circuit all [] registers outs
    → IsRun circuit (inputs_as_values circuit all) (outputs_as_values circuit outs)
ran_all circuit all outs registers ran =
    subst (IsRun circuit (inputs_as_values circuit all)) (append-nil (outputs_as_values circuit outs)) (ran.goes_on [] tt)
