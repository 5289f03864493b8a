-- What a module is that a draft was taken to.
use Rattle.std.proofs.Common.{◌≡◌, ℕ, ◌+◌, List, [], ◌∷◌, ◌++◌, Option, codes, refl, sym, ap, ◌∙◌, subst, append_assoc, append-nil}
use Rattle.std.specs.List.{AllByRecursion}
use Rattle.qz_values.specs.declared.Ty.{Ty}
use Rattle.qz_values.specs.declared.Value.{Value}
use Rattle.qz_values.specs.Values.{type_of, IsValue}
use Rattle.qz_syntax.specs.declared.declarations.Port.{Port}
use Rattle.qz_verilog.specs.declared.nets.Ref.{Ref}
use Rattle.qz_verilog.specs.declared.modules.VModule.{VModule}
use Rattle.qz_verilog.specs.Types.{NetTypes}
use Rattle.qz_verilog.specs.Validity.{port_types, register_types, wire_types, AreWires, AreNetsOf}
use Rattle.qz_vread.specs.declared.drafts.Draft.{Draft}
use Rattle.qz_vread.specs.declared.drafts.Stage.{Stage}
use Rattle.qz_vread.specs.declared.drafts.Stage.TheVariants as stage
use Rattle.qz_vread.specs.Naming.{IsNamed}
use Rattle.qz_vread.specs.Drafts.{types_in}
use Rattle.qz_vtext.specs.Lines.{numbered, register_line, register_lines, wire_lines, output_lines}
use Rattle.qz_vtext.specs.Text.{lines_of, initial_block, clock_block}
use Rattle.qz_vread.specs.Refusals.{IsModule}
use Rattle.qz_vread.specs.Drafted.{name_in, head_of, written_at, written, AreAll, Drives, Begins, Feeds, HasAll, IsSoundAt, IsSound, module_of}
use Rattle.qz_vread.proofs.Advancing.{advances}
use Rattle.qz_vread.specs.Leading.{Path, Reached}

types_same : (regs vals : List Value) → AreAll Begins regs vals → register_types regs ≡ register_types vals
types_same [] [] are = refl
types_same [] (v ∷ vals) are = absurd are
types_same (r ∷ regs) [] are = absurd are
types_same (r ∷ regs) (v ∷ vals) are = ap (λ t. t ∷ register_types regs) (sym are.0.1) ∙ ap (λ ts. type_of v ∷ ts) (types_same regs vals are.1)

values_are : (regs vals : List Value) → AreAll Begins regs vals → AllByRecursion IsValue vals
values_are [] [] are = tt
values_are [] (v ∷ vals) are = absurd are
values_are (r ∷ regs) [] are = absurd are
values_are (r ∷ regs) (v ∷ vals) are = (are.0.0, values_are regs vals are.1)

registers_same : (k : ℕ) (regs vals : List Value) → AreAll Begins regs vals → numbered register_lines k vals ≡ numbered register_lines k regs
registers_same k [] [] are = refl
registers_same k [] (v ∷ vals) are = absurd are
registers_same k (r ∷ regs) [] are = absurd are
registers_same k (r ∷ regs) (v ∷ vals) are =
    ap (λ t. register_line k t ∷ numbered register_lines (k + 1) vals) are.0.1 ∙ ap (λ ls. register_line k (type_of r) ∷ ls) (registers_same (k + 1) regs vals are.1)

nets_drive : (types : NetTypes) (ports : List Port) (nets : List Ref) → AreAll (Drives types) ports nets → AreNetsOf types (port_types ports) nets
nets_drive types [] [] are = tt
nets_drive types [] (n ∷ nets) are = are
nets_drive types (p ∷ ports) [] are = are
nets_drive types (p ∷ ports) (n ∷ nets) are = (are.0, nets_drive types ports nets are.1)

nets_feed : (types : NetTypes) (regs : List Value) (nets : List Ref) → AreAll (Feeds types) regs nets → AreNetsOf types (register_types regs) nets
nets_feed types [] [] are = tt
nets_feed types [] (n ∷ nets) are = are
nets_feed types (r ∷ regs) [] are = are
nets_feed types (r ∷ regs) (n ∷ nets) are = (are.0, nets_feed types regs nets are.1)

-- a draft of which all was read is a module
whole_is : (d : Draft) → HasAll d → IsModule (module_of d)
whole_is d s =
    let same : register_types d.registers ≡ register_types d.values = types_same d.registers d.values s.values in
    let W : List Ty → Type 0 = λ ts. AreWires (record { inputs = port_types d.ports.inputs; registers = ts; wires = [] }) d.wires in
    let O : List Ty → Type 0 = λ ts. AreNetsOf (record { inputs = port_types d.ports.inputs; registers = ts; wires = wire_types d.wires }) (port_types d.ports.outputs) d.outs in
    let N : List Ty → Type 0 = λ ts. AreNetsOf (record { inputs = port_types d.ports.inputs; registers = ts; wires = wire_types d.wires }) ts d.nexts in
    let Q : Option (List ℕ) → Type 0 = λ name. IsNamed (name_in name) in
    record {
      valid = record {
        names = s.head.distinct;
        inputs = s.head.inputs;
        registers = values_are d.registers d.values s.values;
        wires = subst W same s.nets.assigned;
        outs = subst O same (nets_drive (types_in d) d.ports.outputs d.outs s.outs);
        nexts = subst N same (nets_feed (types_in d) d.registers d.nexts s.nexts);
      };
      name = subst Q (sym s.head.some) s.head.named;
      ports = s.head.names;
    }

whole_lines : (d : Draft) → HasAll d → lines_of (module_of d) ≡ written_at stage.Nothing d
whole_lines d s =
    ap (λ regs. head_of d ++ ((regs ++ numbered (wire_lines d.ports.inputs) 0 d.wires)
    ++ ((output_lines d.ports.inputs d.ports.outputs d.outs ++ (initial_block d.values ++ clock_block d.ports.inputs d.nexts)) ++ codes "endmodule" ∷ [])))
    (registers_same 0 d.registers d.values s.values)
    ∙ by (head_of d) (numbered register_lines 0 d.registers ++ numbered (wire_lines d.ports.inputs) 0 d.wires) (output_lines d.ports.inputs d.ports.outputs d.outs)
    (initial_block d.values) (clock_block d.ports.inputs d.nexts) (codes "endmodule" ∷ [])
  where
    by : (head nets outs values clock end : List (List ℕ)) → head ++ (nets ++ ((outs ++ (values ++ clock)) ++ end)) ≡ ((((head ++ nets) ++ outs) ++ values) ++ clock) ++ end
    by head nets outs values clock end = simp append_assoc

ended : (at : Stage) (d : Draft) → at ≡ stage.Nothing → IsSoundAt at d → HasAll d
ended at d e s = let P : Stage → Type 0 = λ a. IsSoundAt a d in subst P e s

pub reached : (d : Draft) (lines : List (List ℕ)) (m : VModule) → IsSound d → Path d lines m → Reached d lines m
reached d [] m s path =
    let all = ended d.stage d path.0 s in
    let P : VModule → Type 0 = λ w. Reached d [] w in
    let W : Stage → Type 0 = λ at. lines_of (module_of d) ≡ written_at at d ++ [] in
    subst P path.1 (record {
      is = whole_is d all;
      text = subst W (sym path.0) (whole_lines d all ∙ sym (append-nil (written_at stage.Nothing d)));
    })
reached d (line ∷ lines) m s path =
    let step = advances d path.0 line s path.1.0 in
    let rest = reached path.0 lines m step.sound path.1.1 in
    record {
      is = rest.is;
      text = rest.text ∙ ap (λ ls. ls ++ lines) step.lines ∙ append_assoc (written d) (line ∷ []) lines;
    }
