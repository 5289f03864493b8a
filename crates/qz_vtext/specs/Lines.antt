-- The lines of a module's text, each without the line feed that ends it.
use Rattle.std.specs.Prelude.{ℕ, ◌+◌, List, [], ◌∷◌, ◌++◌, map, codes}
use Rattle.std.specs.Fmt.{decimal}
use Rattle.qz_values.specs.declared.Ty.{Ty}
use Rattle.qz_values.specs.declared.Value.{Value}
use Rattle.qz_values.specs.Values.{type_of}
use Rattle.qz_syntax.specs.declared.names.Name.{Name}
use Rattle.qz_syntax.specs.declared.declarations.Port.{Port}
use Rattle.qz_verilog.specs.declared.nets.Ref.{Ref}
use Rattle.qz_verilog.specs.declared.nets.Rhs.{Rhs}
use Rattle.qz_vtext.specs.Names.{name_text}
use Rattle.qz_vtext.specs.Spelling.{type_text, constant_text, net_text, right_side_text}

abbrev pub module_line : Name → List ℕ
module_line name = codes "module q_" ++ (name_text name ++ codes "(")

-- a line of the list of ports, without the `,` that ends each but the last
abbrev pub input_text : Port → List ℕ
input_text port = codes "  input " ++ (type_text port.ty ++ (codes "i_" ++ name_text port.name))

abbrev pub output_text : Port → List ℕ
output_text port = codes "  output " ++ (type_text port.ty ++ (codes "o_" ++ name_text port.name))

abbrev pub register_line : ℕ → Ty → List ℕ
register_line number t = codes "  reg " ++ (type_text t ++ (codes "r_" ++ (decimal number ++ codes ";")))

abbrev pub wire_line : ℕ → Ty → List ℕ
wire_line number t = codes "  wire " ++ (type_text t ++ (codes "w_" ++ (decimal number ++ codes ";")))

abbrev pub assign_line : List Port → ℕ → Rhs → List ℕ
assign_line inputs number right =
    codes "  assign w_" ++ (decimal number ++ (codes " = " ++ (right_side_text inputs right ++ codes ";")))

abbrev pub output_line : List Port → Port → Ref → List ℕ
output_line inputs port net = codes "  assign o_" ++ (name_text port.name ++ (codes " = " ++ (net_text inputs net ++ codes ";")))

abbrev pub initial_line : ℕ → Value → List ℕ
initial_line number value = codes "    r_" ++ (decimal number ++ (codes " = " ++ (constant_text value ++ codes ";")))

abbrev pub next_line : List Port → ℕ → Ref → List ℕ
next_line inputs number net = codes "    r_" ++ (decimal number ++ (codes " <= " ++ (net_text inputs net ++ codes ";")))

-- a line and those after it, with `,` at the end of each but the last
abbrev pub listed : List ℕ → List (List ℕ) → List (List ℕ)
listed line [] = line ∷ []
listed line (next ∷ lines) = (line ++ codes ",") ∷ listed next lines

-- the lines of each, by its number, of which this is the first one's
abbrev pub numbered : {A : Type 0} → (ℕ → A → List (List ℕ)) → ℕ → List A → List (List ℕ)
numbered lines number [] = []
numbered lines number (x ∷ xs) = lines number x ++ numbered lines (number + 1) xs

-- what declares a register, by its initial value
abbrev pub register_lines : ℕ → Value → List (List ℕ)
register_lines number value = register_line number (type_of value) ∷ []

-- what declares a wire, and what is assigned to it
abbrev pub wire_lines : List Port → ℕ → Ty × Rhs → List (List ℕ)
wire_lines inputs number wire = wire_line number wire.0 ∷ assign_line inputs number wire.1 ∷ []

abbrev pub initial_lines : ℕ → Value → List (List ℕ)
initial_lines number value = initial_line number value ∷ []

abbrev pub next_lines : List Port → ℕ → Ref → List (List ℕ)
next_lines inputs number net = next_line inputs number net ∷ []

-- a line for each output and what drives it
abbrev pub output_lines : List Port → List Port → List Ref → List (List ℕ)
output_lines inputs [] nets = []
output_lines inputs (port ∷ ports) [] = []
output_lines inputs (port ∷ ports) (net ∷ nets) = output_line inputs port net ∷ output_lines inputs ports nets
