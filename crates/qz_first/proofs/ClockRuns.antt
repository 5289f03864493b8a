-- Clocks that do what the bits say have the runs of the program.
use Rattle.std.proofs.Common.{◌≡◌, ℕ, zero, suc, ◌+◌, ◌<◌, Bool, true, false, not, ◌++◌, List, [], ◌∷◌, map, length, replicate, slice_get, Some, refl, sym, ap, ap₂, subst, ◌∙◌, arith}
use Rattle.std.specs.List.{AllByRecursion, list_all, range_with_len}
use Rattle.std.proofs.lemmas.Bool.{and_parts}
use Rattle.std.proofs.lemmas.Option.{get_or_from_slice_get}
use mathlib.Core.Path.{fun_ext}
use Rattle.qz_values.specs.declared.Value.{Value}
use Rattle.qz_values.specs.Values.{no, is_yes, truth_of}
use Rattle.qz_syntax.specs.declared.modules.Module.{Module}
use Rattle.qz_syntax.specs.declared.declarations.Dir.TheVariants as dir
use Rattle.qz_syntax.specs.declared.declarations.Formal.{Formal}
use Rattle.qz_syntax.specs.declared.declarations.Port.{Port}
use Rattle.qz_syntax.specs.Numbers.{contains, places_of}
use Rattle.qz_meaning.specs.Programs.{program_of}
use Rattle.qz_meaning.specs.Configurations.{Configuration, IsRow, initial}
use Rattle.qz_meaning.specs.MacroSteps.{IsStep}
use Rattle.qz_meaning.specs.Runs as program
use Rattle.qz_verilog.specs.declared.modules.VModule.{VModule}
use Rattle.qz_first.specs.Mirror.{Bits, Control, mirror_of, is_driven}
use Rattle.qz_first.specs.FirstLanguage.{is_event_output, IsFirst}
use Rattle.qz_verilog.specs.Validity.{register_types}
use Rattle.qz_verilog.specs.Runs.{AreOf, IsClock, RunsFrom}
use Rattle.qz_verilog.proofs.Running.{runs_once}
use Rattle.qz_verilog.proofs.KeepingTypes.{AreOf-values}
use Rattle.qz_first.specs.BitNets.{IsBitClock, IsBitModule}
use Rattle.qz_first.specs.Does.{port_of, ports_of, DoesProgram}
use Rattle.qz_first.specs.BitRuns.{BitState, bit_row, next_state}
use Rattle.qz_first.proofs.BitModules.{bit_module_is_valid, bit_values}
use Rattle.qz_first.proofs.BitClocks.{bits_of, bit_clock, outs_are_bits, next_typed}
use Rattle.qz_first.proofs.PlaceLemmas.{in_range}
use Rattle.qz_first.proofs.AlwaysDefinite.{only_row}
use Rattle.qz_first.proofs.FirstSteps.{output_parts, Follows, one_solution, initial_follows, after_step, step_follows, step_only, driven_by_both, moved_by_both, follows_alike}

all_no : (places number : ℕ) → number < suc places → slice_get (replicate places no ++ no ∷ []) number ≡ Some no
all_no zero zero h = refl
all_no zero (suc number) h = absurd (grind arith)
all_no (suc places) zero h = refl
all_no (suc places) (suc number) h = all_no places number (omega arith)

-- all formals of the first language are outputs
all_ports : (formals : List Formal) → list_all (λ (formal : Formal). is_event_output formal) formals ≡ true → ports_of dir.Out formals ≡ map port_of formals
all_ports [] h = refl
all_ports (formal ∷ formals) h =
    let parts = and_parts _ _ h in
    rw ((output_parts formal parts.0).1) (ap (λ (ports : List Port). port_of formal ∷ ports) (all_ports formals parts.1))

no_ports : (formals : List Formal) → list_all (λ (formal : Formal). is_event_output formal) formals ≡ true → ports_of dir.In formals ≡ []
no_ports [] h = refl
no_ports (formal ∷ formals) h = let parts = and_parts _ _ h in rw ((output_parts formal parts.0).1) (no_ports formals parts.1)

module _ (m : Module) (first : IsFirst m) (v : VModule) where
  abbrev places : ℕ
  places = length m.labels

  abbrev both_writes : Control → Bits
  both_writes registers = (mirror_of m.body).start (not (registers places)) ++ (mirror_of m.body).resume registers true

  abbrev both_rests : Control → Bits
  both_rests registers = (mirror_of m.body).enter (not (registers places)) ++ (mirror_of m.body).move registers

  -- a clock does what the bits of a start and of a resume say together
  pub record ClocksAs (registers : Control) (outs : List Bool) (next : Control) : Type 0 where
    pub outs_are : outs ≡ map (is_driven (both_writes registers)) (range_with_len 0 (length m.formals))
    pub rests : (place : ℕ) → place < places → next place ≡ is_driven (both_rests registers) place
    pub started : next places ≡ true

  -- a place of the body has a register
  has_register : (place : ℕ) → contains (places_of m.body) place ≡ true → place < places
  has_register place inside =
      let below : place < 0 + places = in_range 0 places place (ap (λ numbers. contains numbers place) (sym first.places) ∙ inside) in
      omega arith

  abbrev state_of : Control → BitState
  state_of registers = record { started = registers places; control = registers }

  clock_row : (registers : Control) (outs : List Bool) (next : Control) (c : Configuration) → Follows m first c (state_of registers)
      → ClocksAs registers outs next → outs ≡ bit_row (length m.formals) (mirror_of m.body) (state_of registers)
  clock_row registers outs next c h clock =
      clock.outs_are ∙ ap (λ (f : ℕ → Bool). map f (range_with_len 0 (length m.formals))) (fun_ext (driven_by_both m first c (state_of registers) h))

  clock_follows : (registers : Control) (outs : List Bool) (next : Control) (c d : Configuration) → Follows m first c (state_of registers)
      → ClocksAs registers outs next → Follows m first d (next_state (mirror_of m.body) (state_of registers)) → Follows m first d (state_of next)
  clock_follows registers outs next c d h clock after =
      follows_alike m first d (next_state (mirror_of m.body) (state_of registers)) (state_of next) after clock.started
      (λ place inside.
      clock.rests place (has_register place inside)
      ∙ moved_by_both m first c (state_of registers) h place)

  module _ (bits : IsBitModule v)
      (clocks_as : (registers : Control) (outs : List Bool) (next : Control) → IsBitClock v registers outs next → ClocksAs registers outs next) where
    abbrev AreTypedHere : List Value → Type 0
    AreTypedHere registers = AreOf (register_types v.regs) registers

    clocks_here : (registers out next : List Value) → AreTypedHere registers → IsClock v registers [] out next
        → ClocksAs (bits_of registers) (map is_yes out) (bits_of next)
    clocks_here registers out next typed clock = clocks_as _ _ _ (bit_clock v bits registers out next typed clock)

    -- the configurations that a run of the program passes beside these clocks
    abbrev passed_by : (steps : ℕ) (outs : List (List Value)) (registers : List Value) (c : Configuration)
        → RunsFrom v registers (replicate steps []) outs → List Configuration
    passed_by zero [] registers c run = []
    passed_by zero (out ∷ outs) registers c run = []
    passed_by (suc steps) [] registers c run = []
    passed_by (suc steps) (out ∷ outs) registers c run =
        let next = after_step m first c (state_of (bits_of registers)) in
        next ∷ passed_by steps outs run.0 next run.2

    follows_on : (registers out next : List Value) (c : Configuration) → AreTypedHere registers → Follows m first c (state_of (bits_of registers))
        → IsClock v registers [] out next → Follows m first (after_step m first c (state_of (bits_of registers))) (state_of (bits_of next))
    follows_on registers out next c typed h clock =
        clock_follows (bits_of registers) (map is_yes out) (bits_of next) c (after_step m first c (state_of (bits_of registers))) h
        (clocks_here registers out next typed clock)
        (step_follows m first c (state_of (bits_of registers)) h).1

    -- the row of outputs that the program has in the step
    row_there : (registers out next : List Value) (c : Configuration) → AreTypedHere registers → Follows m first c (state_of (bits_of registers))
        → IsClock v registers [] out next → out ≡ map truth_of (bit_row (length m.formals) (mirror_of m.body) (state_of (bits_of registers)))
    row_there registers out next c typed h clock =
        outs_are_bits v bits registers out next typed clock
        ∙ ap (map truth_of) (clock_row (bits_of registers) (map is_yes out) (bits_of next) c h (clocks_here registers out next typed clock))

    runs_there : (steps : ℕ) (outs : List (List Value)) (registers : List Value) (c : Configuration) → AreTypedHere registers
        → Follows m first c (state_of (bits_of registers)) → (run : RunsFrom v registers (replicate steps []) outs)
        → program.RunsFrom (program_of m) c (replicate steps []) outs (passed_by steps outs registers c run)
    runs_there zero [] registers c typed h run = tt
    runs_there zero (out ∷ outs) registers c typed h run = absurd run
    runs_there (suc steps) [] registers c typed h run = absurd run
    runs_there (suc steps) (out ∷ outs) registers c typed h run =
        let next = after_step m first c (state_of (bits_of registers)) in (
          subst (λ row. IsStep (program_of m) c [] row next) (sym (row_there registers out run.0 c typed h run.1))
              (step_follows m first c (state_of (bits_of registers)) h).0,
          runs_there steps outs run.0 next (next_typed v bits registers out run.0 typed run.1) (follows_on registers out run.0 c typed h run.1) run.2,
        )

    only_runs : (steps : ℕ) (outs : List (List Value)) (registers : List Value) (c : Configuration) → AreTypedHere registers
        → Follows m first c (state_of (bits_of registers)) → (run : RunsFrom v registers (replicate steps []) outs)
        → (others : List (List Value)) (past : List Configuration)
        → program.RunsFrom (program_of m) c (replicate steps []) others past → (others ≡ outs) × (past ≡ passed_by steps outs registers c run)
    only_runs zero [] registers c typed h run [] [] other = (refl, refl)
    only_runs zero [] registers c typed h run [] (next ∷ past) other = absurd other
    only_runs zero [] registers c typed h run (out ∷ others) past other = absurd other
    only_runs zero (row ∷ outs) registers c typed h run others past other = absurd run
    only_runs (suc steps) [] registers c typed h run others past other = absurd run
    only_runs (suc steps) (row ∷ outs) registers c typed h run [] past other = absurd other
    only_runs (suc steps) (row ∷ outs) registers c typed h run (out ∷ others) [] other = absurd other
    only_runs (suc steps) (row ∷ outs) registers c typed h run (out ∷ others) (next ∷ past) other =
        let step = step_only m first c (state_of (bits_of registers)) h out next other.0 in
        let rest = only_runs steps outs run.0 (after_step m first c (state_of (bits_of registers))) (next_typed v bits registers row run.0 typed run.1)
        (follows_on registers row run.0 c typed h run.1) run.2 others past
        (subst (λ d. program.RunsFrom (program_of m) d (replicate steps []) others past) step.1 other.1) in (
          ap₂ (λ (one : List Value) (more : List (List Value)). one ∷ more) (step.0 ∙ sym (row_there registers row run.0 c typed h run.1)) rest.0,
          ap₂ (λ (one : Configuration) (more : List Configuration). one ∷ more) step.1 rest.1,
        )

    one_each : (steps : ℕ) (outs : List (List Value)) (registers : List Value) (c : Configuration) → AreTypedHere registers
        → Follows m first c (state_of (bits_of registers)) → (run : RunsFrom v registers (replicate steps []) outs)
        → program.HaveOneSolutionEach (program_of m) c (replicate steps []) (passed_by steps outs registers c run)
    one_each zero [] registers c typed h run = tt
    one_each zero (out ∷ outs) registers c typed h run = absurd run
    one_each (suc steps) [] registers c typed h run = absurd run
    one_each (suc steps) (out ∷ outs) registers c typed h run = (
      one_solution m first c (state_of (bits_of registers)) h,
      one_each steps outs run.0 (after_step m first c (state_of (bits_of registers))) (next_typed v bits registers out run.0 typed run.1)
          (follows_on registers out run.0 c typed h run.1) run.2,
    )

    -- the program has no inputs, so its rows are empty
    empty_rows : (rows : List (List Value)) → AllByRecursion (IsRow (program_of m)) rows → rows ≡ replicate (length rows) []
    empty_rows [] h = refl
    empty_rows (row ∷ rows) h = ap₂ (λ (one : List Value) (more : List (List Value)). one ∷ more) (only_row m first row h.0) (empty_rows rows h.1)

    module _ (begins : v.regs ≡ replicate places no ++ no ∷ []) where
      follows_first : Follows m first (initial (program_of m)) (state_of (bits_of v.regs))
      follows_first = initial_follows m first (state_of (bits_of v.regs)) (off places (omega arith))
          (λ place inside. off place (below place (has_register place inside)))
        where
          off : (number : ℕ) → number < suc places → bits_of v.regs number ≡ false
          off number below =
              ap is_yes (get_or_from_slice_get v.regs number no no (ap (λ regs. slice_get regs number) begins ∙ all_no places number below))

          below : (place : ℕ) → place < places → place < suc places
          below place h = omega arith

      only_run : (steps : ℕ) (outs : List (List Value)) → RunsFrom v v.regs (replicate steps []) outs
          → program.IsOnlyRun (program_of m) (replicate steps []) outs
      only_run steps outs run =
          let from = initial (program_of m) in
          let typed = AreOf-values v.regs (bit_values v.regs bits.begins) in
          record {
            passed = passed_by steps outs v.regs from run;
            runs = runs_there steps outs v.regs from typed follows_first run;
            one_solution = one_each steps outs v.regs from typed follows_first run;
            only_outputs = λ others other. (only_runs steps outs v.regs from typed follows_first run others other.0 other.1).0;
            only_way = λ others past other. (only_runs steps outs v.regs from typed follows_first run others past other).1;
          }

      pub does_program : v.name ≡ m.name → v.outputs ≡ map port_of m.formals → DoesProgram v m
      does_program name outputs = record {
        name = name;
        inputs = bits.inputs ∙ sym (no_ports m.formals first.formals);
        outputs = outputs ∙ sym (all_ports m.formals first.formals);
        runs = λ rows fits. let once = runs_once v (bit_module_is_valid v bits) rows in (once.outs, once.runs);
        same = λ rows fits outs run.
            let empty = empty_rows rows fits in
            subst (λ (some : List (List Value)). program.IsOnlyRun (program_of m) some outs) (sym empty)
            (only_run (length rows) outs (subst (λ (some : List (List Value)). RunsFrom v v.regs some outs) empty run));
      }
