-- A run over the rows of a trace, on its way from row to row.
use Rattle.std.proofs.Common.{◌≡◌, ℕ, suc, ◌+◌, ◌-◌, ◌*◌, ◌<◌, ◌≤◌, List, [], ◌++◌, map, length, take, drop, Some, Err, sym, ap, subst, ◌∙◌, length-drop, arith}
use Rattle.std.specs.Prelude.{Bool, true, false, codes, string_bytes, slice_get}
use Rattle.std.specs.List.{AllByRecursion}
use Rattle.std.proofs.lemmas.List.{length-append, length-map}
use Rattle.std.proofs.lemmas.Option.{slice_get-map, get_or_from_slice_get}
use Rattle.std.specs.Option.{option_map}
use Rattle.qz_values.specs.declared.Ty.{Ty}
use Rattle.qz_values.specs.declared.Value.{Value}
use Rattle.qz_values.specs.Values.{bits_of}
use Rattle.qz_syntax.specs.declared.expressions.Var.TheVariants as var
use Rattle.qz_syntax.specs.declared.modules.Module.{Module}
use Rattle.qz_syntax.specs.declared.modules.Whole.{Whole}
use Rattle.qz_syntax.specs.WellFormed.{IsWellFormed}
use Rattle.qz_meaning.specs.Instances.{Instance}
use Rattle.qz_meaning.specs.Programs.{Program, program_of}
use Rattle.qz_meaning.specs.Configurations.{Configuration, IsConfiguration, initial, new_store, are_inputs}
use Rattle.qz_trace.specs.declared.traces.Trace.{Trace}
use Rattle.qz_trace.specs.Rows.{IsRow, rows_of, rows_in}
use Rattle.qz_trace.proofs.RowLemmas.{row_length, times_suc, times_one_more}
use Rattle.qz_interp.specs.declared.doubts.Doubted.{Doubted}
use Rattle.qz_interp.specs.declared.steps.StepRefusal.{StepRefusal}
use Rattle.qz_interp.specs.declared.steps.StepRefusal.TheVariants as refusal
use Rattle.qz_interp.specs.InstanceTexts.{instance_text}
use Rattle.qz_interp.specs.OnlySteps.{IsOnlyStep, IsRefusal, IsNotDefinite, FitsStep}
use Rattle.qz_run.specs.declared.stops.RunStop.{RunStop}
use Rattle.qz_run.specs.declared.stops.RunStop.TheVariants as stop
use Rattle.qz_run.specs.Inputs.{input_types, values_of, IsInputTrace}
use Rattle.qz_run.specs.Runs.{doubt_text, IsFirstIndefinite, IsOutputTrace, IsRunOf}
use Rattle.qz_run.specs.Stepping.{text_of_number, doubt_of_number, IsStopFor}
use Rattle.qz_run.proofs.FormalLemmas.{row_told}
use Rattle.qz_run.proofs.RunLemmas.{Ran, ran_none, ran_step, ran_all, ran_stop}

-- so many steps were taken: these numbers are left, these were put out, and the program is here
pub record Going (p : Program) (types : List Ty) (inputs : Trace) (width step : ℕ) (rest values : List ℕ) (c : Configuration) : Type 0 where
  pub left : length rest ≡ inputs.width * (inputs.steps - step)
  pub held : length values ≡ width * step
  pub each : AllByRecursion (IsRow types) (rows_of inputs.width (inputs.steps - step) rest)
  pub here : IsConfiguration p c
  pub ran : Ran p types (rows_in inputs) (rows_of inputs.width (inputs.steps - step) rest) c step (rows_of width step values)

initial_is : (p : Program) → IsConfiguration p (initial p)
initial_is p = record { place = tt; outputs = length-map p.outputs (λ n. new_store p (var.Formal n)) }

-- no step was taken
first_at : (p : Program) (inputs : Trace) (width : ℕ) → IsInputTrace p inputs → Going p (input_types p) inputs width 0 inputs.values.items [] (initial p)
first_at p inputs width are =
    let all : inputs.steps ≡ inputs.steps - 0 = omega arith in
    let none : 0 ≡ width * 0 = grind arith in
    record {
      left = are.whole ∙ ap (λ n. inputs.width * n) all;
      held = none;
      each = subst (λ (n : ℕ). AllByRecursion (IsRow (input_types p)) (rows_of inputs.width n inputs.values.items)) all are.each;
      here = initial_is p;
      ran = subst (λ (n : ℕ). Ran p (input_types p) (rows_in inputs) (rows_of inputs.width n inputs.values.items) (initial p) 0 []) all (ran_none p (input_types p) (rows_in inputs));
    }

pub going_first : (p : Program) (types : List Ty) (inputs : Trace) (width : ℕ) (rest values : List ℕ) (c : Configuration)
    → IsInputTrace p inputs → types ≡ input_types p → rest ≡ inputs.values.items → values ≡ [] → c ≡ initial p → Going p types inputs width 0 rest values c
going_first p types inputs width rest values c are typed whole nothing beginning =
    subst (λ (ts : List Ty). Going p ts inputs width 0 rest values c) (sym typed)
    (subst (λ (r : List ℕ). Going p (input_types p) inputs width 0 r values c) (sym whole)
    (subst (λ (v : List ℕ). Going p (input_types p) inputs width 0 inputs.values.items v c) (sym nothing)
    (subst (λ (at : Configuration). Going p (input_types p) inputs width 0 inputs.values.items [] at) (sym beginning) (first_at p inputs width are))))

module _ (p : Program) (types : List Ty) (inputs : Trace) (width step : ℕ) (rest values : List ℕ) (c : Configuration)
    (going : Going p types inputs width step rest values c) (more : step < inputs.steps) where
  less : inputs.steps - step ≡ suc (inputs.steps - (step + 1))
  less = omega (arith, more)

  each_left : AllByRecursion (IsRow types) (rows_of inputs.width (suc (inputs.steps - (step + 1))) rest)
  each_left = subst (λ (n : ℕ). AllByRecursion (IsRow types) (rows_of inputs.width n rest)) less going.each

  ran_left : Ran p types (rows_in inputs) (rows_of inputs.width (suc (inputs.steps - (step + 1))) rest) c step (rows_of width step values)
  ran_left = subst (λ (n : ℕ). Ran p types (rows_in inputs) (rows_of inputs.width n rest) c step (rows_of width step values)) less going.ran

  -- there are as many numbers as the next row has
  pub going_on : inputs.width ≤ length rest
  going_on =
      let size = times_suc inputs.width (inputs.steps - (step + 1)) in
      let left : length rest ≡ inputs.width * suc (inputs.steps - (step + 1)) = going.left ∙ ap (λ n. inputs.width * n) less in
      omega (arith, left, size)

  -- they are a row
  pub going_row : (numbers : List ℕ) → numbers ≡ take inputs.width rest → IsRow types numbers
  going_row numbers front = subst (IsRow types) (sym front) each_left.0

  -- one step more
  pub going_more : (numbers later after : List ℕ) (row out : List Value) (next : Configuration) → numbers ≡ take inputs.width rest → later ≡ drop inputs.width rest
      → row ≡ values_of types numbers → after ≡ values ++ map bits_of out → length out ≡ width → IsOnlyStep p c row out next
      → Going p types inputs width (step + 1) later after next
  going_more numbers later after row out next front back told joined size taken =
      let one : suc step ≡ step + 1 = omega arith in
      let product = times_one_more width step in
      let wide : length (map bits_of out) ≡ width = length-map out bits_of ∙ size in
      let left : length rest ≡ inputs.width * (inputs.steps - (step + 1)) + inputs.width =
      going.left ∙ (ap (λ n. inputs.width * n) less ∙ times_suc inputs.width (inputs.steps - (step + 1))) in
      let short : length later ≡ length rest - inputs.width = ap length back ∙ length-drop inputs.width rest in
      let held = going.held in
      let step_told : IsOnlyStep p c (values_of types numbers) out next = subst (λ (r : List Value). IsOnlyStep p c r out next) told taken in
      record {
        left = omega (arith, left, short);
        held = ap length joined ∙ (length-append values (map bits_of out) ∙ omega (arith, held, wide, product));
        each = subst (λ (l : List ℕ). AllByRecursion (IsRow types) (rows_of inputs.width (inputs.steps - (step + 1)) l)) (sym back) each_left.1;
        here = taken.leads;
        ran = subst (λ (n : ℕ). Ran p types (rows_in inputs) (rows_of inputs.width (inputs.steps - (step + 1)) later) next n (rows_of width n after)) one
            (ran_step p types inputs.width width step (inputs.steps - (step + 1)) (rows_in inputs) rest values numbers later after out c next ran_left front back joined held wide step_told);
      }

-- there is a number for each type
pub row_count : (types : List Ty) (numbers : List ℕ) → IsRow types numbers → length numbers ≡ length types
row_count = row_length

-- the next step can be taken with the next row
pub going_fits : (m : Module) (types : List Ty) (inputs : Trace) (width step : ℕ) (rest values numbers : List ℕ) (row : List Value) (c : Configuration) (count : ℕ)
    → Going (program_of m) types inputs width step rest values c → step < inputs.steps → IsWellFormed [] m → types ≡ input_types (program_of m) → numbers ≡ take inputs.width rest
    → row ≡ values_of types numbers → count ≡ length (program_of m).outputs → FitsStep m c row count
going_fits m types inputs width step rest values numbers row c count going more well typed front told room =
    let p : Program = program_of m in
    let fits : IsRow (input_types p) numbers = subst (λ (ts : List Ty). IsRow ts numbers) typed (going_row p types inputs width step rest values c going more numbers front) in
    record {
      well_formed = well;
      valuation = record {
        configuration = going.here;
        inputs = ap (are_inputs p p.inputs) (told ∙ ap (λ (ts : List Ty). values_of ts numbers) typed) ∙ row_told p p.inputs numbers fits;
      };
      room = room;
    }

-- what holds of a module where the step fits holds of the same module
pub where_it_fits : (w other : Whole) (c : Configuration) (row : List Value) (count : ℕ) → w ≡ other → FitsStep other.module c row count
    → (P : Module → Type 0) → (FitsStep w.module c row count → P w.module) → P other.module
where_it_fits w other c row count same fits P told =
    subst (λ (x : Whole). P x.module) same (told (subst (λ (x : Whole). FitsStep x.module c row count) (sym same) fits))

-- all steps were taken
pub going_done : (p : Program) (types : List Ty) (inputs outs : Trace) (step : ℕ) (rest : List ℕ) (c : Configuration)
    → Going p types inputs outs.width step rest outs.values.items c → step ≡ inputs.steps → types ≡ input_types p → outs.steps ≡ inputs.steps
    → outs.width ≡ length p.outputs → IsOutputTrace p (map (values_of (input_types p)) (rows_in inputs)) outs
going_done p types inputs outs step rest c going all typed steps wide =
    let none : inputs.steps - step ≡ 0 = omega (arith, all) in
    let same : step ≡ outs.steps = all ∙ sym steps in
    let P : ℕ → Type 0 = λ n. Ran p types (rows_in inputs) (rows_of inputs.width n rest) c step (rows_of outs.width step outs.values.items) in
    let ran : Ran p types (rows_in inputs) [] c step (rows_of outs.width step outs.values.items) = subst P none going.ran in
    let Q : ℕ → Type 0 = λ n. Ran p types (rows_in inputs) [] c step (rows_of outs.width n outs.values.items) in
    let R : List Ty → Type 0 = λ ts. Ran p ts (rows_in inputs) [] c step (rows_in outs) in
    record {
      width = wide;
      whole = going.held ∙ ap (λ n. outs.width * n) same;
      outputs = ran_all p (input_types p) (rows_in inputs) c step (rows_in outs) (subst R typed (subst Q same ran));
    }

-- the text of the instance with this number
text_there : (w : Whole) (number : ℕ) (delayed : Bool) (i : Instance) → slice_get (program_of w.module).instances number ≡ Some i
    → doubt_of_number w number delayed ≡ doubt_text w i delayed
text_there w number delayed i there = by_kind delayed where
  told : text_of_number w number ≡ instance_text w i
  told = get_or_from_slice_get (map (instance_text w) (program_of w.module).instances) number (instance_text w i) []
      (slice_get-map (instance_text w) (program_of w.module).instances number ∙ ap (option_map (instance_text w)) there)

  by_kind : (b : Bool) → doubt_of_number w number b ≡ doubt_text w i b
  by_kind false = told
  by_kind true = ap (λ (text : List ℕ). codes "next " ++ text) told

-- the next step isn't taken
pub going_stopped : (w : Whole) (types : List Ty) (inputs : Trace) (width step at : ℕ) (rest values numbers : List ℕ) (row : List Value) (c : Configuration) (why : StepRefusal) (stopped : RunStop)
    → Going (program_of w.module) types inputs width step rest values c → step < inputs.steps → types ≡ input_types (program_of w.module) → numbers ≡ take inputs.width rest
    → row ≡ values_of types numbers → at ≡ step + 1 → IsRefusal (program_of w.module) c row why → IsStopFor w at why stopped → IsRunOf w inputs (Err stopped)
going_stopped w types inputs width step at rest values numbers row c (refusal.NotDefinite number delayed doubt) (stop.NotDefinite said name why) going more typed front told at_is refused stops =
    let p : Program = program_of w.module in
    let d : Doubted = record { number = number; delayed = delayed; doubt = doubt } in
    let all : List (List ℕ) = rows_in inputs in
    let first : IsNotDefinite p c (values_of types (take inputs.width rest)) d =
    subst (λ (r : List Value). IsNotDefinite p c r d) (told ∙ ap (values_of types) front) refused in
    let instance = refused.refused.first.instance in
    let there = refused.refused.first.number in
    let found : IsFirstIndefinite w (map (values_of types) all) said (string_bytes name) doubt =
    ran_stop w types all (rows_of inputs.width (inputs.steps - (step + 1)) (drop inputs.width rest)) (take inputs.width rest) c step said (rows_of width step values) d (string_bytes name)
    (ran_left p types inputs width step rest values c going more) (stops.0 ∙ at_is) first instance there (stops.1 ∙ text_there w number delayed instance there) in
    subst (λ (ts : List Ty). IsFirstIndefinite w (map (values_of ts) all) said (string_bytes name) why) typed
    (subst (IsFirstIndefinite w (map (values_of types) all) said (string_bytes name)) (sym stops.2) found)
going_stopped w types inputs width step at rest values numbers row c refusal.Memory (stop.NotDefinite said name why) going more typed front told at_is refused stops = absurd stops
going_stopped w types inputs width step at rest values numbers row c why stop.Memory going more typed front told at_is refused stops = tt
