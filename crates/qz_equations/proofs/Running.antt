-- Clocks of a module that does a system give what the system's steps give.
use Rattle.std.proofs.Common.{◌≡◌, ℕ, List, [], ◌∷◌, refl, sym, ap₂, subst, ◌∙◌}
use Rattle.qz_values.specs.declared.Value.{Value}
use Rattle.qz_verilog.specs.declared.modules.VModule.{VModule}
use Rattle.qz_verilog.specs.Runs.{IsClock, RunsFrom}
use Rattle.qz_system.specs.declared.parts.SystemParts.{SystemParts}
use Rattle.qz_system.specs.declared.valuation.Valuation.{Valuation}
use Rattle.qz_equations.specs.Registers.{registers_at, inputs_at}
use Rattle.qz_equations.specs.Does.{ClocksAt, DoesSystem}
use Rattle.qz_equations.specs.Runs.{GoesTo, StepsFrom, RunsAsSystem}

module _ (parts : SystemParts) (count : ℕ) (m : VModule) (does : DoesSystem parts count m) where
  -- one clock: its outputs, and what the registers hold after it
  pub record Went (v : Valuation) (out other next : List Value) (w : Valuation) : Type 0 where
    pub outs : other ≡ out
    pub holds : next ≡ registers_at parts w

  went : (v : Valuation) (row out other registers next : List Value) (w : Valuation) → GoesTo parts count v row out w → registers ≡ registers_at parts v
      → IsClock m registers row other next → Went v out other next w
  went v row out other registers next w g holds clock =
      let at : ClocksAt parts m v other next =
      subst (λ (x : List Value). IsClock m (registers_at parts v) x other next) g.row_is (subst (λ (x : List Value). IsClock m x row other next) holds clock) in
      let does_it = does.steps v g.knows g.delayed g.step in
      record { outs = does_it.outs other next at ∙ sym g.out_is; holds = does_it.nexts other next at w g.next }

  runs : (rows outs others : List (List Value)) (v : Valuation) (registers : List Value) → registers ≡ registers_at parts v → StepsFrom parts count v rows outs
      → RunsFrom m registers rows others → others ≡ outs
  runs [] [] [] v registers holds steps run = refl
  runs [] [] (o ∷ others) v registers holds steps run = absurd run
  runs [] (out ∷ outs) others v registers holds steps run = absurd steps
  runs (row ∷ rows) [] others v registers holds steps run = absurd steps
  runs (row ∷ rows) (out ∷ outs) [] v registers holds steps run = absurd run
  runs (row ∷ rows) (out ∷ outs) (o ∷ others) v registers holds steps run =
      let one = went v row out o registers run.0 steps.0 steps.1 holds run.1 in
      ap₂ (λ (x : List Value) (xs : List (List Value)). x ∷ xs) one.outs (runs rows outs others steps.0 run.0 one.holds steps.2 run.2)

pub runs_as_system : RunsAsSystem
runs_as_system parts count m does v fits started initial rows outs steps others run =
    runs parts count m does rows outs others v m.regs (does.begins v fits started initial) steps run
