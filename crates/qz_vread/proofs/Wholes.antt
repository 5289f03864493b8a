-- The lines of a module take the first draft to the module.
use Rattle.std.proofs.Common.{◌≡◌, ℕ, zero, suc, true, false, List, [], ◌∷◌, ◌++◌, Some, map, codes, refl, sym, ap, subst, append_assoc}
use Rattle.std.specs.List.{AllByRecursion}
use Rattle.std.proofs.lemmas.List.{map-append}
use Rattle.std.specs.Prelude.{slice_get}
use Rattle.qz_values.specs.declared.Ty.{Ty}
use Rattle.qz_values.specs.declared.Value.{Value}
use Rattle.qz_values.specs.Types.{IsType}
use Rattle.qz_values.specs.Values.{type_of, IsValue}
use Rattle.qz_syntax.specs.declared.declarations.Port.{Port}
use Rattle.qz_syntax.specs.DoubleNames.{are_distinct}
use Rattle.qz_verilog.specs.declared.nets.Ref.{Ref}
use Rattle.qz_verilog.specs.declared.nets.Ref.TheVariants as net
use Rattle.qz_verilog.specs.declared.nets.Rhs.{Rhs}
use Rattle.qz_verilog.specs.declared.modules.VModule.{VModule}
use Rattle.qz_verilog.specs.Types.{NetTypes, net_type}
use Rattle.qz_verilog.specs.Validity.{port_names, port_types, register_types, wire_types, declared_types, types_of, with_wire, AreWires, AreNetsOf, IsValid}
use Rattle.qz_vread.specs.declared.drafts.Draft.{Draft}
use Rattle.qz_vread.specs.declared.drafts.Stage.{Stage}
use Rattle.qz_vread.specs.declared.drafts.Stage.TheVariants as stage
use Rattle.qz_vread.specs.PortLists.{PortLists}
use Rattle.qz_vread.specs.Naming.{IsNamed}
use Rattle.qz_vread.specs.Drafts.{HasNet}
use Rattle.qz_vtext.specs.Lines.{module_line, input_text, output_text, listed, numbered, register_lines, wire_lines, output_lines, initial_lines, next_lines}
use Rattle.qz_vtext.specs.Text.{lines_of, port_lines}
use Rattle.qz_vread.specs.Refusals.{IsModule}
use Rattle.qz_vread.specs.Drafted.{nothing_read, AreAll, Drives, Begins, Feeds}
use Rattle.qz_vread.specs.Leading.{Path}
use Rattle.qz_vread.proofs.Paths.{right_type, IsPort, zero_of, next_path, initial_path, output_path, after_wires, wires_path, registers_path, outputs_path, inputs_path}

types_zero : (vs : List Value) → register_types (map zero_of vs) ≡ register_types vs
types_zero [] = refl
types_zero (v ∷ vs) = ap (λ ts. type_of v ∷ ts) (types_zero vs)

zeros_begin : (vs : List Value) → AllByRecursion IsValue vs → AreAll Begins (map zero_of vs) vs
zeros_begin [] all = tt
zeros_begin (v ∷ vs) all = ((all.0, refl), zeros_begin vs all.1)

drives_all : (types : NetTypes) (ports : List Port) (nets : List Ref) → AreNetsOf types (port_types ports) nets → AreAll (Drives types) ports nets
drives_all types [] [] are = tt
drives_all types [] (n ∷ nets) are = are
drives_all types (p ∷ ports) [] are = are
drives_all types (p ∷ ports) (n ∷ nets) are = (are.0, drives_all types ports nets are.1)

feeds_all : (types : NetTypes) (vs : List Value) (nets : List Ref) → AreNetsOf types (register_types vs) nets → AreAll (Feeds types) (map zero_of vs) nets
feeds_all types [] [] are = tt
feeds_all types [] (n ∷ nets) are = are
feeds_all types (v ∷ vs) [] are = are
feeds_all types (v ∷ vs) (n ∷ nets) are = (are.0, feeds_all types vs nets are.1)

driven_all : (types : NetTypes) (ts : List Ty) (nets : List Ref) → AreNetsOf types ts nets → AllByRecursion (HasNet types) ts
driven_all types [] nets are = tt
driven_all types (t ∷ ts) [] are = absurd are
driven_all types (t ∷ ts) (n ∷ nets) are = (record { net = n; typed = are.0 }, driven_all types ts nets are.1)

ports_are : (ports : List Port) → AllByRecursion IsType (port_types ports) → AllByRecursion IsNamed (port_names ports) → AllByRecursion IsPort ports
ports_are [] types names = tt
ports_are (p ∷ ports) types names = (record { typed = types.0; named = names.0 }, ports_are ports types.1 names.1)

all_front : {A : Type 0} (P : A → Type 0) (a b : List A) → AllByRecursion P (a ++ b) → AllByRecursion P a
all_front P [] b all = tt
all_front P (x ∷ xs) b all = (all.0, all_front P xs b all.1)

all_back : {A : Type 0} (P : A → Type 0) (a b : List A) → AllByRecursion P (a ++ b) → AllByRecursion P b
all_back P [] b all = all
all_back P (x ∷ xs) b all = all_back P xs b all.1

typed_at : (ts : List Ty) (k : ℕ) (t : Ty) → AllByRecursion IsType ts → slice_get ts k ≡ Some t → IsType t
typed_at [] k t all e = absurd cc
typed_at (s ∷ ts) zero t all e = let same : s ≡ t = cc in let P : Ty → Type 0 = IsType in subst P same all.0
typed_at (s ∷ ts) (suc k) t all e = typed_at ts k t all.1 e

wires_typed : (types : NetTypes) (ws : List (Ty × Rhs)) → AreWires types ws → AllByRecursion IsType (wire_types ws)
wires_typed types [] are = tt
wires_typed types ((t, right) ∷ ws) are = (right_type types right t are.0, wires_typed (with_wire types t) ws are.1)

values_typed : (vs : List Value) → AllByRecursion IsValue vs → AllByRecursion IsType (register_types vs)
values_typed [] all = tt
values_typed (v ∷ vs) all = (all.0.typed, values_typed vs all.1)

net_typed : (types : NetTypes) (n : Ref) (t : Ty) → AllByRecursion IsType types.inputs → AllByRecursion IsType types.registers → AllByRecursion IsType types.wires
    → net_type types n ≡ Some t → IsType t
net_typed types (net.Input k) t ins regs ws e = typed_at types.inputs k t ins e
net_typed types (net.Reg k) t ins regs ws e = typed_at types.registers k t regs e
net_typed types (net.Wire k) t ins regs ws e = typed_at types.wires k t ws e

nets_typed : (types : NetTypes) (ts : List Ty) (nets : List Ref) → AllByRecursion IsType types.inputs → AllByRecursion IsType types.registers → AllByRecursion IsType types.wires
    → AreNetsOf types ts nets → AllByRecursion IsType ts
nets_typed types [] nets ins regs ws are = tt
nets_typed types (t ∷ ts) [] ins regs ws are = absurd are
nets_typed types (t ∷ ts) (n ∷ nets) ins regs ws are = (net_typed types n t ins regs ws are.0, nets_typed types ts nets ins regs ws are.1)

-- an output of a valid module is of a type that there is
outputs_typed : (m : VModule) → IsValid m → AllByRecursion IsType (port_types m.outputs)
outputs_typed m v =
    nets_typed (types_of m) (port_types m.outputs) m.outs v.inputs (values_typed m.regs v.registers)
    (wires_typed (declared_types m.inputs m.regs []) m.wires v.wires) v.outs

-- all was read but the last line
abbrev full : VModule → Draft
full m = record {
  stage = stage.Nothing;
  name = Some m.name;
  ports = record { inputs = m.inputs; outputs = m.outputs };
  registers = map zero_of m.regs;
  wires = m.wires;
  outs = m.outs;
  values = m.regs;
  nexts = m.nexts;
}

abbrev last_lines : VModule → List (List ℕ)
last_lines m = numbered (next_lines m.inputs) 0 m.nexts ++ codes "  end" ∷ codes "endmodule" ∷ []

abbrev value_lines : VModule → List (List ℕ)
value_lines m = numbered initial_lines 0 m.regs ++ codes "  end" ∷ codes "  always @(posedge clk) begin" ∷ last_lines m

abbrev drive_lines : VModule → List (List ℕ)
drive_lines m = output_lines m.inputs m.outputs m.outs ++ codes "  initial begin" ∷ value_lines m

abbrev declaring_lines : VModule → List (List ℕ)
declaring_lines m = numbered register_lines 0 m.regs ++ (numbered (wire_lines m.inputs) 0 m.wires ++ drive_lines m)

same_types : (m : VModule) → declared_types m.inputs m.regs m.wires ≡ declared_types m.inputs (map zero_of m.regs) m.wires
same_types m = ap (λ ts. record { inputs = port_types m.inputs; registers = ts; wires = wire_types m.wires }) (sym (types_zero m.regs))

last_path : (m : VModule) → IsValid m → Path (record (full m) { stage = stage.Next; nexts = [] }) (last_lines m) m
last_path m v =
    let P : NetTypes → Type 0 = λ types. AreAll (Feeds types) (map zero_of m.regs) m.nexts in
    next_path (full m) (codes "endmodule" ∷ []) m 0 [] (map zero_of m.regs) [] m.nexts m.nexts refl refl refl refl
    (subst P (same_types m) (feeds_all (types_of m) m.regs m.nexts v.nexts))
    (full m, (record { is = refl; leads = refl }, (refl, refl)))

value_path : (m : VModule) → IsValid m → Path (record (full m) { stage = stage.Initial; nexts = []; values = [] }) (value_lines m) m
value_path m v =
    initial_path (record (full m) { nexts = [] }) (codes "  always @(posedge clk) begin" ∷ last_lines m) m 0 [] (map zero_of m.regs) [] m.regs m.regs refl refl refl refl
    (zeros_begin m.regs v.registers)
    (record (full m) { stage = stage.Next; nexts = [] }, (record { is = refl; leads = refl }, last_path m v))

drive_path : (m : VModule) → IsValid m → Path (record (full m) { stage = stage.Net; nexts = []; values = []; outs = [] }) (drive_lines m) m
drive_path m v =
    let P : NetTypes → Type 0 = λ types. AreAll (Drives types) m.outputs m.outs in
    let Q : NetTypes → Type 0 = λ types. AllByRecursion (HasNet types) (port_types m.outputs) in
    after_wires (record (full m) { nexts = []; values = []; outs = [] }) (drive_lines m) m refl
    (subst Q (same_types m) (driven_all (types_of m) (port_types m.outputs) m.outs v.outs))
    (output_path (record (full m) { nexts = []; values = [] }) (value_lines m) m [] m.outputs [] m.outs m.outs refl refl refl
    (subst P (same_types m) (drives_all (types_of m) m.outputs m.outs v.outs))
    (value_path m v))

declaring_path : (m : VModule) → IsValid m → Path (record (full m) { stage = stage.Net; nexts = []; values = []; outs = []; wires = []; registers = [] }) (declaring_lines m) m
declaring_path m v =
    let P : List Ty → Type 0 = λ ts. AreWires (record { inputs = port_types m.inputs; registers = ts; wires = [] }) m.wires in
    registers_path (record (full m) { nexts = []; values = []; outs = []; wires = [] }) (numbered (wire_lines m.inputs) 0 m.wires ++ drive_lines m) m 0 [] m.regs (map zero_of m.regs)
    refl refl refl v.registers
    (wires_path (record (full m) { nexts = []; values = []; outs = [] }) (drive_lines m) m 0 [] m.wires m.wires refl refl
    (subst P (sym (types_zero m.regs)) v.wires)
    (drive_path m v))

abbrev no_nets : VModule → Stage → PortLists → Draft
no_nets m at ports = record {
  stage = at;
  name = Some m.name;
  ports = ports;
  registers = [];
  wires = [];
  outs = [];
  values = [];
  nexts = [];
}

abbrev port_texts_of : List Port → List Port → List (List ℕ)
port_texts_of ins outs = map input_text ins ++ map output_text outs

clock_path : (m : VModule) (ls : List (List ℕ)) (ins outs : List Port) → are_distinct (port_names (ins ++ outs)) ≡ true → AllByRecursion IsPort ins → AllByRecursion IsPort outs
    → Path (no_nets m stage.PortsEnd (record { inputs = ins; outputs = outs })) ls m
    → Path (no_nets m stage.Clock (record { inputs = []; outputs = [] })) (listed (codes "  input clk") (port_texts_of ins outs) ++ ls) m
clock_path m ls [] [] apart are aro path =
    (no_nets m stage.PortsEnd (record { inputs = []; outputs = [] }), (record { what = false; right = tt; is = refl; leads = refl }, path))
clock_path m ls [] (p ∷ outs) apart are aro path = (
  no_nets m stage.Port (record { inputs = []; outputs = [] }),
  (
    record { what = true; right = tt; is = refl; leads = refl },
    outputs_path (no_nets m stage.Port (record { inputs = []; outputs = [] })) ls m [] [] p outs (p ∷ outs) refl apart aro path,
  ),
)
clock_path m ls (p ∷ ins) outs apart are aro path = (
  no_nets m stage.Port (record { inputs = []; outputs = [] }),
  (
    record { what = true; right = tt; is = refl; leads = refl },
    inputs_path (no_nets m stage.Port (record { inputs = []; outputs = [] })) ls m [] p ins (p ∷ ins) outs refl apart are aro path,
  ),
)

arranged : (m : VModule) → module_line m.name ∷ (port_lines m.inputs m.outputs ++ (codes ");" ∷ declaring_lines m)) ≡ lines_of m
arranged m = by (port_lines m.inputs m.outputs) (numbered register_lines 0 m.regs) (numbered (wire_lines m.inputs) 0 m.wires) (output_lines m.inputs m.outputs m.outs)
    (numbered initial_lines 0 m.regs) (numbered (next_lines m.inputs) 0 m.nexts)
  where
    by : (ports regs wires outs values nexts : List (List ℕ))
        → module_line m.name ∷ (ports ++ (codes ");" ∷ (regs ++ (wires ++ (outs ++ codes "  initial begin" ∷ (values ++ codes "  end" ∷ codes "  always @(posedge clk) begin" ∷ (nexts ++ codes "  end" ∷ codes "endmodule" ∷ [])))))))
        ≡ (module_line m.name ∷ (ports ++ codes ");" ∷ [])) ++ ((regs ++ wires) ++ ((outs ++ ((codes "  initial begin" ∷ (values ++ codes "  end" ∷ [])) ++ (codes "  always @(posedge clk) begin" ∷ (nexts ++ codes "  end" ∷ [])))) ++ codes "endmodule" ∷ []))
    by ports regs wires outs values nexts = simp append_assoc

-- the lines of a module's text are read one by one, and give the module
pub module_path : (m : VModule) → IsModule m → Path nothing_read (lines_of m) m
module_path m is =
    let names_in : AllByRecursion IsNamed (port_names m.inputs ++ port_names m.outputs) = (let P : List (List ℕ) → Type 0 = AllByRecursion IsNamed in
    subst P (map-append (λ (p : Port). p.name) m.inputs m.outputs) is.ports) in
    let P : List (List ℕ) → Type 0 = λ ls. Path nothing_read ls m in
    subst P (arranged m) (
      no_nets m stage.Clock (record { inputs = []; outputs = [] }),
      (
        record { what = m.name; right = is.name; is = refl; leads = refl },
        clock_path m (codes ");" ∷ declaring_lines m) m.inputs m.outputs is.valid.names
            (ports_are m.inputs is.valid.inputs (all_front IsNamed (port_names m.inputs) (port_names m.outputs) names_in))
            (ports_are m.outputs (outputs_typed m is.valid) (all_back IsNamed (port_names m.inputs) (port_names m.outputs) names_in)) (
              record (full m) { stage = stage.Net; nexts = []; values = []; outs = []; wires = []; registers = [] },
              (
                record { is = refl; leads = refl },
                declaring_path m is.valid,
              ),
            ),
      ),
    )
