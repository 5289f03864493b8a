-- A valid module has one run with each list of rows.
use Rattle.std.proofs.Common.{◌≡◌, List, [], ◌∷◌, map, refl, ap, ap₂, ◌∙◌}
use Rattle.qz_values.specs.declared.Value.{Value}
use Rattle.qz_verilog.specs.declared.modules.VModule.{VModule}
use Rattle.qz_verilog.specs.Validity.{declared_types, IsValid}
use Rattle.qz_verilog.specs.Meaning.{Nets, value_at}
use Rattle.qz_verilog.specs.Runs.{nets_of, IsClock, RunsFrom}
use Rattle.qz_verilog.specs.Laws.{SettlesOnce, RunsOnce}
use Rattle.qz_verilog.proofs.Settling.{settled_wires, settled_wires_so, settled_wires_only}

module _ (m : VModule) (valid : IsValid m) where
  pub settles_once : (registers row : List Value) → SettlesOnce m registers row
  settles_once registers row = record {
    wires = settled_wires registers row m.wires;
    settles = settled_wires_so registers row (declared_types m.inputs m.regs []) m.wires refl valid.wires;
    only = λ others h. settled_wires_only registers row (declared_types m.inputs m.regs []) m.wires others refl valid.wires h;
  }

  -- the values of nets after the wires are settled
  abbrev settled_nets : List Value → List Value → Nets
  settled_nets registers row = nets_of registers row (settles_once registers row).wires

  clocks : (registers row : List Value) →
      IsClock m registers row (map (value_at (settled_nets registers row)) m.outs) (map (value_at (settled_nets registers row)) m.nexts)
  clocks registers row = record {
    wires = (settles_once registers row).wires;
    settles = (settles_once registers row).settles;
    outs_are = refl;
    next_are = refl;
  }

  clock_outs : (registers row outs next : List Value) → IsClock m registers row outs next → outs ≡ map (value_at (settled_nets registers row)) m.outs
  clock_outs registers row outs next h =
      h.outs_are ∙ ap (λ wires. map (value_at (nets_of registers row wires)) m.outs) ((settles_once registers row).only h.wires h.settles)

  clock_next : (registers row outs next : List Value) → IsClock m registers row outs next → next ≡ map (value_at (settled_nets registers row)) m.nexts
  clock_next registers row outs next h =
      h.next_are ∙ ap (λ wires. map (value_at (nets_of registers row wires)) m.nexts) ((settles_once registers row).only h.wires h.settles)

  -- the rows of outputs, computed
  outs_from : List Value → List (List Value) → List (List Value)
  outs_from registers [] = []
  outs_from registers (row ∷ rows) =
      map (value_at (settled_nets registers row)) m.outs ∷ outs_from (map (value_at (settled_nets registers row)) m.nexts) rows

  runs_from : (registers : List Value) (rows : List (List Value)) → RunsFrom m registers rows (outs_from registers rows)
  unfolding outs_from
  runs_from registers [] = tt
  runs_from registers (row ∷ rows) =
      (map (value_at (settled_nets registers row)) m.nexts, clocks registers row, runs_from (map (value_at (settled_nets registers row)) m.nexts) rows)

  only_from : (registers : List Value) (rows others : List (List Value)) → RunsFrom m registers rows others → others ≡ outs_from registers rows
  unfolding outs_from
  only_from registers [] [] h = refl
  only_from registers [] (out ∷ outs) h = absurd h
  only_from registers (row ∷ rows) [] h = absurd h
  only_from registers (row ∷ rows) (out ∷ outs) h =
      ap₂ (λ x xs. x ∷ xs) (clock_outs registers row out h.0 h.1)
      (only_from h.0 rows outs h.2 ∙ ap (λ next. outs_from next rows) (clock_next registers row out h.0 h.1))

  pub runs_once : (rows : List (List Value)) → RunsOnce m rows
  runs_once rows = record { outs = outs_from m.regs rows; runs = runs_from m.regs rows; only = λ others h. only_from m.regs rows others h }
