-- Steps of a system one after the other, and the runs of a module that does it.
use Rattle.std.specs.Prelude.{ℕ, ◌≡◌, true, false, List, [], ◌∷◌}
use Rattle.qz_values.specs.declared.Value.{Value}
use Rattle.qz_values.specs.declared.Know.{Know}
use Rattle.qz_syntax.specs.declared.places.Later.{Later}
use Rattle.qz_verilog.specs.declared.modules.VModule.{VModule}
use Rattle.qz_verilog.specs.Runs.{IsRun}
use Rattle.qz_system.specs.declared.parts.SystemParts.{SystemParts}
use Rattle.qz_system.specs.declared.valuation.Valuation.{Valuation}
use Rattle.qz_system.specs.Valuations.{Fits, is_initial}
use Rattle.qz_system.specs.Nexts.{IsNext}
use Rattle.qz_equations.specs.Registers.{inputs_at}
use Rattle.qz_equations.specs.Does.{IsStep, outputs_at, DoesSystem}

-- a step with this row of inputs and this row of outputs, after which this valuation comes
pub record GoesTo (parts : SystemParts) (count : ℕ) (v : Valuation) (row out : List Value) (w : Valuation) : Type 0 where
  pub knows : List Know
  pub delayed : List Later
  pub step : IsStep parts count v knows delayed
  pub row_is : row ≡ inputs_at parts v
  pub out_is : out ≡ outputs_at parts knows
  pub next : IsNext parts v knows delayed w

-- steps one after the other
abbrev pub StepsFrom : SystemParts → ℕ → Valuation → List (List Value) → List (List Value) → Type 0
StepsFrom parts count v [] [] = Unit {0}
StepsFrom parts count v [] (out ∷ outs) = ⊥
StepsFrom parts count v (row ∷ rows) [] = ⊥
StepsFrom parts count v (row ∷ rows) (out ∷ outs) = (w : Valuation) × GoesTo parts count v row out w × StepsFrom parts count w rows outs

-- whatever run a module has that does the system, over the rows of steps from an initial valuation, its outputs are
-- theirs
abbrev pub RunsAsSystem : Type 0
RunsAsSystem = (parts : SystemParts) (count : ℕ) (m : VModule) → DoesSystem parts count m
    → (v : Valuation) → Fits parts v → v.started ≡ false → is_initial v ≡ true
    → (rows outs : List (List Value)) → StepsFrom parts count v rows outs
    → (others : List (List Value)) → IsRun m rows others → others ≡ outs
