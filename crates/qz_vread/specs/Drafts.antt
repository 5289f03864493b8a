-- What was read of a module, and what one line more makes of it.
use Rattle.std.specs.Prelude.{◌≡◌, ℕ, Bool, true, false, List, [], ◌∷◌, ◌++◌, Option, Some, None, ◌⊎◌, length, codes, slice_get}
use Rattle.std.specs.List.{AllByRecursion}
use Rattle.qz_values.specs.declared.Ty.{Ty}
use Rattle.qz_values.specs.declared.Value.{Value}
use Rattle.qz_values.specs.Types.{IsType}
use Rattle.qz_values.specs.Values.{type_of, default_of, IsValue}
use Rattle.qz_syntax.specs.declared.declarations.Port.{Port}
use Rattle.qz_syntax.specs.DoubleNames.{is_among}
use Rattle.qz_verilog.specs.declared.nets.Ref.{Ref}
use Rattle.qz_verilog.specs.Types.{NetTypes, net_type, right_side_type}
use Rattle.qz_verilog.specs.Validity.{port_names, port_types, declared_types, IsNetOf}
use Rattle.qz_vread.specs.declared.drafts.Draft.{Draft}
use Rattle.qz_vread.specs.declared.drafts.Stage.{Stage}
use Rattle.qz_vread.specs.declared.drafts.Stage.TheVariants as stage
use Rattle.qz_vread.specs.Naming.{IsNamed}
use Rattle.qz_vread.specs.Parts.{NoEnd}
use Rattle.qz_vread.specs.PortLists.{PortLists}
use Rattle.qz_vtext.specs.Names.{name_text}
use Rattle.qz_vtext.specs.Spelling.{type_text}
use Rattle.std.specs.Fmt.{decimal}
use Rattle.qz_vtext.specs.Lines.{module_line, input_text, output_text, register_line, wire_line, assign_line, output_line, initial_line, next_line}

-- the types of the nets that are declared
abbrev pub types_in : Draft → NetTypes
types_in d = declared_types d.ports.inputs d.registers d.wires

-- a line that is one of some texts, and leads to a draft
pub record IsLine {X : Type 0} (fits : X → Type 0) (text : X → List ℕ) (next : X → Draft) (line : List ℕ) (new : Draft) : Type 0 where
  pub what : X
  pub right : fits what
  pub is : line ≡ text what
  pub leads : new ≡ next what

-- a line that has only one text
pub record IsFixed (text : List ℕ) (next : Draft) (line : List ℕ) (new : Draft) : Type 0 where
  pub is : line ≡ text
  pub leads : new ≡ next

-- a line of the list of ports ends with `,` where another port follows
abbrev pub with_comma : Bool → List ℕ → List ℕ
with_comma true text = text ++ codes ","
with_comma false text = text

abbrev pub after_port : Bool → Stage
after_port true = stage.Port
after_port false = stage.PortsEnd

-- a line of the list of ports is this port's, and what comes after it
pub record IsComma (line port : List ℕ) (after : Stage) : Type 0 where
  pub more : Bool
  pub whole : line ≡ with_comma more port
  pub leads : after ≡ after_port more
  pub bare : more ≡ false → NoEnd line (codes ",")

-- a name that no port has
pub record IsNewName (ports : PortLists) (name : List ℕ) : Type 0 where
  pub named : IsNamed name
  pub new : is_among (port_names (ports.inputs ++ ports.outputs)) name ≡ false

-- a port that can come next
pub record IsNewPort (d : Draft) (port : Port) : Type 0 where
  pub typed : IsType port.ty
  pub named : IsNamed port.name
  pub new : is_among (port_names (d.ports.inputs ++ d.ports.outputs)) port.name ≡ false

-- all inputs come before the outputs
pub record IsNewInput (d : Draft) (port : Port) : Type 0 where
  pub new : IsNewPort d port
  pub first : d.ports.outputs ≡ []

abbrev pub with_input : Draft → Port × Bool → Draft
with_input d port = record d {
  stage = after_port port.1;
  ports = record { inputs = d.ports.inputs ++ port.0 ∷ []; outputs = d.ports.outputs };
}

abbrev pub with_output : Draft → Port × Bool → Draft
with_output d port = record d {
  stage = after_port port.1;
  ports = record { inputs = d.ports.inputs; outputs = d.ports.outputs ++ port.0 ∷ [] };
}

abbrev pub IsInputLine : Draft → List ℕ → Draft → Type 0
IsInputLine d = IsLine (λ (port : Port × Bool). IsNewInput d port.0) (λ port. with_comma port.1 (input_text port.0)) (with_input d)

abbrev pub IsOutputLine : Draft → List ℕ → Draft → Type 0
IsOutputLine d = IsLine (λ (port : Port × Bool). IsNewPort d port.0) (λ port. with_comma port.1 (output_text port.0)) (with_output d)

-- what stands after the first word of the line of an input, without its `,`
abbrev pub IsInputPart : Draft → Stage → List ℕ → Draft → Type 0
IsInputPart d stage = IsLine (IsNewInput d) (λ (port : Port). type_text port.ty ++ (codes "i_" ++ name_text port.name))
    (λ port. record d { stage = stage; ports = record { inputs = d.ports.inputs ++ port ∷ []; outputs = d.ports.outputs } })

abbrev pub IsOutputPart : Draft → Stage → List ℕ → Draft → Type 0
IsOutputPart d stage = IsLine (IsNewPort d) (λ (port : Port). type_text port.ty ++ (codes "o_" ++ name_text port.name))
    (λ port. record d { stage = stage; ports = record { inputs = d.ports.inputs; outputs = d.ports.outputs ++ port ∷ [] } })

-- all registers come before the wires
pub record IsNewRegister (d : Draft) (t : Ty) : Type 0 where
  pub typed : IsType t
  pub first : d.wires ≡ []

abbrev pub IsRegisterLine : Draft → List ℕ → Draft → Type 0
IsRegisterLine d = IsLine (IsNewRegister d) (register_line (length d.registers))
    (λ t. record d { stage = stage.Net; registers = d.registers ++ default_of t ∷ [] })

abbrev pub IsWireLine : Draft → List ℕ → Draft → Type 0
IsWireLine d = IsLine IsType (wire_line (length d.wires)) (λ t. record d { stage = stage.Assign t })

abbrev pub IsAssignLine : Ty → Draft → List ℕ → Draft → Type 0
IsAssignLine t d = IsLine (λ right. right_side_type (types_in d) right ≡ Some t) (assign_line d.ports.inputs (length d.wires))
    (λ right. record d { stage = stage.Net; wires = d.wires ++ (t, right) ∷ [] })

-- what stands after the first word of the line of a register
abbrev pub IsRegisterPart : Draft → List ℕ → Draft → Type 0
IsRegisterPart d = IsLine (IsNewRegister d) (λ t. type_text t ++ (codes "r_" ++ (decimal (length d.registers) ++ codes ";")))
    (λ t. record d { stage = stage.Net; registers = d.registers ++ default_of t ∷ [] })

abbrev pub IsWirePart : Draft → List ℕ → Draft → Type 0
IsWirePart d = IsLine IsType (λ t. type_text t ++ (codes "w_" ++ (decimal (length d.wires) ++ codes ";"))) (λ t. record d { stage = stage.Assign t })

-- a net of this type is declared
pub record HasNet (types : NetTypes) (t : Ty) : Type 0 where
  pub net : Ref
  pub typed : net_type types net ≡ Some t

-- for each output a net of its type is declared
abbrev pub IsDriven : Draft → Type 0
IsDriven d = AllByRecursion (HasNet (types_in d)) (port_types d.ports.outputs)

-- what drives this output
abbrev pub IsOutputOf : Option Port → Draft → List ℕ → Draft → Type 0
IsOutputOf (Some port) d = IsLine (IsNetOf (types_in d) port.ty) (output_line d.ports.inputs port)
    (λ net. record d { stage = stage.Output; outs = d.outs ++ net ∷ [] })
IsOutputOf None d = IsFixed (codes "  initial begin") (record d { stage = stage.Initial })

abbrev pub IsOutputStep : Draft → List ℕ → Draft → Type 0
IsOutputStep d = IsOutputOf (slice_get d.ports.outputs (length d.outs)) d

-- what comes after the wires: no wire can come any more
pub record IsAfterWires (d : Draft) (line : List ℕ) (new : Draft) : Type 0 where
  pub driven : IsDriven d
  pub output : IsOutputStep d line new

abbrev pub IsNetStep : Draft → List ℕ → Draft → Type 0
IsNetStep d line new = IsRegisterLine d line new ⊎ (IsWireLine d line new ⊎ IsAfterWires d line new)

-- the initial value of the register whose type this value has
abbrev pub IsInitialOf : Option Value → Draft → List ℕ → Draft → Type 0
IsInitialOf (Some register) d = IsLine (λ value. IsValue value × (type_of value ≡ type_of register)) (initial_line (length d.values))
    (λ value. record d { stage = stage.Initial; values = d.values ++ value ∷ [] })
IsInitialOf None d = IsFixed (codes "  end") (record d { stage = stage.Always })

-- what the register takes whose type this value has
abbrev pub IsNextOf : Option Value → Draft → List ℕ → Draft → Type 0
IsNextOf (Some register) d = IsLine (IsNetOf (types_in d) (type_of register)) (next_line d.ports.inputs (length d.nexts))
    (λ net. record d { stage = stage.Next; nexts = d.nexts ++ net ∷ [] })
IsNextOf None d = IsFixed (codes "  end") (record d { stage = stage.ModuleEnd })

-- what one line more makes of a draft at this stage
abbrev pub IsStepAt : Stage → Draft → List ℕ → Draft → Type 0
IsStepAt stage.Name d line new = IsLine IsNamed module_line (λ name. record d { stage = stage.Clock; name = Some name }) line new
IsStepAt stage.Clock d line new =
    IsLine (λ (more : Bool). Unit {0}) (λ more. with_comma more (codes "  input clk")) (λ more. record d { stage = after_port more }) line new
IsStepAt stage.Port d line new = IsInputLine d line new ⊎ IsOutputLine d line new
IsStepAt stage.PortsEnd d line new = IsFixed (codes ");") (record d { stage = stage.Net }) line new
IsStepAt stage.Net d line new = IsNetStep d line new
IsStepAt (stage.Assign t) d line new = IsAssignLine t d line new
IsStepAt stage.Output d line new = IsOutputStep d line new
IsStepAt stage.Initial d line new = IsInitialOf (slice_get d.registers (length d.values)) d line new
IsStepAt stage.Always d line new = IsFixed (codes "  always @(posedge clk) begin") (record d { stage = stage.Next }) line new
IsStepAt stage.Next d line new = IsNextOf (slice_get d.registers (length d.nexts)) d line new
IsStepAt stage.ModuleEnd d line new = IsFixed (codes "endmodule") (record d { stage = stage.Nothing }) line new
IsStepAt stage.Nothing d line new = ⊥

abbrev pub IsStep : Draft → List ℕ → Draft → Type 0
IsStep d line new = IsStepAt d.stage d line new

-- whether a line was taken: it was where it leads on, and then to this draft alone
pub record Takes (leads : Draft → Type 0) (new : Draft) (taken : Bool) : Type 0 where
  pub sound : taken ≡ true → leads new
  pub complete : (other : Draft) → leads other → (taken ≡ true) × (other ≡ new)
