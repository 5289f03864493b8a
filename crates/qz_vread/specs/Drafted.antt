-- What a draft has read, and what holds of it.
use Rattle.std.specs.Prelude.{◌≡◌, ℕ, true, List, [], ◌∷◌, ◌++◌, Option, Some, None, map, length, codes, IsTrue}
use Rattle.std.specs.List.{AllByRecursion}
use Rattle.qz_values.specs.declared.Ty.{Ty}
use Rattle.qz_values.specs.declared.Value.{Value}
use Rattle.qz_values.specs.Types.{IsType}
use Rattle.qz_values.specs.Values.{type_of, IsValue}
use Rattle.qz_syntax.specs.declared.declarations.Port.{Port}
use Rattle.qz_syntax.specs.DoubleNames.{are_distinct}
use Rattle.qz_verilog.specs.declared.nets.Ref.{Ref}
use Rattle.qz_verilog.specs.declared.nets.Rhs.{Rhs}
use Rattle.qz_verilog.specs.declared.modules.VModule.{VModule}
use Rattle.qz_verilog.specs.Types.{NetTypes}
use Rattle.qz_verilog.specs.Validity.{port_names, port_types, register_types, declared_types, AreWires, IsNetOf}
use Rattle.qz_vread.specs.declared.drafts.Draft.{Draft}
use Rattle.qz_vread.specs.declared.drafts.Stage.{Stage}
use Rattle.qz_vread.specs.declared.drafts.Stage.TheVariants as stage
use Rattle.qz_vread.specs.PortLists.{PortLists}
use Rattle.qz_vread.specs.Naming.{IsNamed}
use Rattle.qz_vread.specs.Drafts.{types_in, with_comma, IsDriven}
use Rattle.qz_vtext.specs.Lines.{module_line, input_text, output_text, numbered, register_lines, wire_line, wire_lines, output_lines, initial_lines, next_lines}
use Rattle.qz_vtext.specs.Text.{port_lines, initial_block, clock_block}

-- the name, once it was read
abbrev pub name_in : Option (List ℕ) → List ℕ
name_in None = []
name_in (Some name) = name

abbrev pub port_texts : PortLists → List (List ℕ)
port_texts ports = map input_text ports.inputs ++ map output_text ports.outputs

-- lines of the list of ports, to which another one comes
abbrev pub with_commas : List (List ℕ) → List (List ℕ)
with_commas lines = map (with_comma true) lines

abbrev pub head_of : Draft → List (List ℕ)
head_of d = module_line (name_in d.name) ∷ (port_lines d.ports.inputs d.ports.outputs ++ codes ");" ∷ [])

abbrev pub nets_of : Draft → List (List ℕ)
nets_of d = head_of d ++ (numbered register_lines 0 d.registers ++ numbered (wire_lines d.ports.inputs) 0 d.wires)

abbrev pub outs_of : Draft → List (List ℕ)
outs_of d = nets_of d ++ output_lines d.ports.inputs d.ports.outputs d.outs

abbrev pub initial_of : Draft → List (List ℕ)
initial_of d = outs_of d ++ initial_block d.values

abbrev pub clock_of : Draft → List (List ℕ)
clock_of d = initial_of d ++ clock_block d.ports.inputs d.nexts

-- the lines that were read up to this stage
abbrev pub written_at : Stage → Draft → List (List ℕ)
written_at stage.Name d = []
written_at stage.Clock d = module_line (name_in d.name) ∷ []
written_at stage.Port d = module_line (name_in d.name) ∷ with_commas (codes "  input clk" ∷ port_texts d.ports)
written_at stage.PortsEnd d = module_line (name_in d.name) ∷ port_lines d.ports.inputs d.ports.outputs
written_at stage.Net d = nets_of d
written_at (stage.Assign t) d = nets_of d ++ wire_line (length d.wires) t ∷ []
written_at stage.Output d = outs_of d
written_at stage.Initial d = outs_of d ++ (codes "  initial begin" ∷ numbered initial_lines 0 d.values)
written_at stage.Always d = initial_of d
written_at stage.Next d = initial_of d ++ (codes "  always @(posedge clk) begin" ∷ numbered (next_lines d.ports.inputs) 0 d.nexts)
written_at stage.ModuleEnd d = clock_of d
written_at stage.Nothing d = clock_of d ++ codes "endmodule" ∷ []

abbrev pub written : Draft → List (List ℕ)
written d = written_at d.stage d

-- the first of some things, each with what goes with it
abbrev pub AreFirst : {A B : Type 0} → (A → B → Type 0) → List A → List B → Type 0
AreFirst P xs [] = Unit {0}
AreFirst P [] (y ∷ ys) = ⊥
AreFirst P (x ∷ xs) (y ∷ ys) = P x y × AreFirst P xs ys

-- each of some things with what goes with it
abbrev pub AreAll : {A B : Type 0} → (A → B → Type 0) → List A → List B → Type 0
AreAll P [] [] = Unit {0}
AreAll P [] (y ∷ ys) = ⊥
AreAll P (x ∷ xs) [] = ⊥
AreAll P (x ∷ xs) (y ∷ ys) = P x y × AreAll P xs ys

-- the module's name and ports are right
pub record IsHead (name : Option (List ℕ)) (ports : PortLists) : Type 0 where
  pub characters : List ℕ
  pub some : name ≡ Some characters
  pub named : IsNamed characters
  pub names : AllByRecursion IsNamed (port_names (ports.inputs ++ ports.outputs))
  pub distinct : IsTrue (are_distinct (port_names (ports.inputs ++ ports.outputs)))
  pub inputs : AllByRecursion IsType (port_types ports.inputs)
  pub outputs : AllByRecursion IsType (port_types ports.outputs)

-- registers and wires are right
pub record AreNets (ports : PortLists) (regs : List Value) (wires : List (Ty × Rhs)) : Type 0 where
  pub typed : AllByRecursion IsType (register_types regs)
  pub assigned : AreWires (declared_types ports.inputs regs []) wires

abbrev pub Drives : NetTypes → Port → Ref → Type 0
Drives types port net = IsNetOf types port.ty net

abbrev pub Begins : Value → Value → Type 0
Begins register value = IsValue value × (type_of value ≡ type_of register)

abbrev pub Feeds : NetTypes → Value → Ref → Type 0
Feeds types register net = IsNetOf types (type_of register) net

-- nothing was read of what comes after the ports
pub record HasNoNets (d : Draft) : Type 0 where
  pub registers : d.registers ≡ []
  pub wires : d.wires ≡ []

pub record HasNoOuts (d : Draft) : Type 0 where
  pub outs : d.outs ≡ []
  pub values : d.values ≡ []
  pub nexts : d.nexts ≡ []

pub record HasNoPorts (d : Draft) : Type 0 where
  pub inputs : d.ports.inputs ≡ []
  pub outputs : d.ports.outputs ≡ []

pub record IsHeadless (d : Draft) : Type 0 where
  pub ports : HasNoPorts d
  pub nets : HasNoNets d
  pub outs : HasNoOuts d

pub record HasHead (d : Draft) : Type 0 where
  pub head : IsHead d.name d.ports
  pub nets : HasNoNets d
  pub outs : HasNoOuts d

pub record HasNets (d : Draft) : Type 0 where
  pub head : IsHead d.name d.ports
  pub nets : AreNets d.ports d.registers d.wires
  pub outs : HasNoOuts d

pub record HasOuts (d : Draft) : Type 0 where
  pub head : IsHead d.name d.ports
  pub nets : AreNets d.ports d.registers d.wires
  pub outs : AreFirst (Drives (types_in d)) d.ports.outputs d.outs
  pub driven : IsDriven d
  pub values : d.values ≡ []
  pub nexts : d.nexts ≡ []

pub record HasValues (d : Draft) : Type 0 where
  pub head : IsHead d.name d.ports
  pub nets : AreNets d.ports d.registers d.wires
  pub outs : AreAll (Drives (types_in d)) d.ports.outputs d.outs
  pub values : AreFirst Begins d.registers d.values
  pub nexts : d.nexts ≡ []

pub record HasNexts (d : Draft) : Type 0 where
  pub head : IsHead d.name d.ports
  pub nets : AreNets d.ports d.registers d.wires
  pub outs : AreAll (Drives (types_in d)) d.ports.outputs d.outs
  pub values : AreAll Begins d.registers d.values
  pub nexts : AreFirst (Feeds (types_in d)) d.registers d.nexts

pub record HasAll (d : Draft) : Type 0 where
  pub head : IsHead d.name d.ports
  pub nets : AreNets d.ports d.registers d.wires
  pub outs : AreAll (Drives (types_in d)) d.ports.outputs d.outs
  pub values : AreAll Begins d.registers d.values
  pub nexts : AreAll (Feeds (types_in d)) d.registers d.nexts

-- what holds of a draft at this stage
abbrev pub IsSoundAt : Stage → Draft → Type 0
IsSoundAt stage.Name d = IsHeadless d
IsSoundAt stage.Clock d = HasHead d × HasNoPorts d
IsSoundAt stage.Port d = HasHead d
IsSoundAt stage.PortsEnd d = HasHead d
IsSoundAt stage.Net d = HasNets d
IsSoundAt (stage.Assign t) d = HasNets d × IsType t
IsSoundAt stage.Output d = HasOuts d
IsSoundAt stage.Initial d = HasValues d
IsSoundAt stage.Always d = HasNexts d × (d.nexts ≡ [])
IsSoundAt stage.Next d = HasNexts d
IsSoundAt stage.ModuleEnd d = HasAll d
IsSoundAt stage.Nothing d = HasAll d

abbrev pub IsSound : Draft → Type 0
IsSound d = IsSoundAt d.stage d

-- the module that a draft is, once its last line was read
abbrev pub module_of : Draft → VModule
module_of d = record {
  name = name_in d.name;
  inputs = d.ports.inputs;
  outputs = d.ports.outputs;
  regs = d.values;
  wires = d.wires;
  outs = d.outs;
  nexts = d.nexts;
}

-- nothing was read
abbrev pub nothing_read : Draft
nothing_read = record {
  stage = stage.Name;
  name = None;
  ports = record { inputs = []; outputs = [] };
  registers = [];
  wires = [];
  outs = [];
  values = [];
  nexts = [];
}

-- the last line was read, and so was the first, with the name
pub record IsWhole (d : Draft) : Type 0 where
  pub last : d.stage ≡ stage.Nothing
  pub characters : List ℕ
  pub named : d.name ≡ Some characters
