-- The text of a module.
use Rattle.std.specs.Prelude.{ℕ, ◌≡◌, List, [], ◌∷◌, ◌++◌, map, codes}
use Rattle.std.specs.List.{flat_map}
use Rattle.qz_values.specs.declared.Value.{Value}
use Rattle.qz_syntax.specs.declared.declarations.Port.{Port}
use Rattle.qz_verilog.specs.declared.nets.Ref.{Ref}
use Rattle.qz_verilog.specs.declared.modules.VModule.{VModule}
use Rattle.qz_verilog.specs.Validity.{IsValid}
use Rattle.qz_vtext.specs.Lines.{module_line, input_text, output_text, listed, numbered, register_lines, wire_lines, output_lines, initial_lines, next_lines}

-- the list of ports, which begins with the clock
abbrev pub port_lines : List Port → List Port → List (List ℕ)
port_lines inputs outputs = listed (codes "  input clk") (map input_text inputs ++ map output_text outputs)

-- the module's name and its ports
abbrev pub head_lines : VModule → List (List ℕ)
head_lines m = module_line m.name ∷ (port_lines m.inputs m.outputs ++ codes ");" ∷ [])

-- the registers and the wires
abbrev pub net_lines : VModule → List (List ℕ)
net_lines m = numbered register_lines 0 m.regs ++ numbered (wire_lines m.inputs) 0 m.wires

-- what the registers begin with
abbrev pub initial_block : List Value → List (List ℕ)
initial_block values = codes "  initial begin" ∷ (numbered initial_lines 0 values ++ codes "  end" ∷ [])

-- what the registers take at the clock
abbrev pub clock_block : List Port → List Ref → List (List ℕ)
clock_block inputs nexts = codes "  always @(posedge clk) begin" ∷ (numbered (next_lines inputs) 0 nexts ++ codes "  end" ∷ [])

-- what drives the outputs, and what the registers hold and take
abbrev pub behavior_lines : VModule → List (List ℕ)
behavior_lines m = output_lines m.inputs m.outputs m.outs ++ (initial_block m.regs ++ clock_block m.inputs m.nexts)

abbrev pub lines_of : VModule → List (List ℕ)
lines_of m = head_lines m ++ (net_lines m ++ (behavior_lines m ++ codes "endmodule" ∷ []))

-- lines one after the other, each with a line feed at its end
abbrev pub joined : List (List ℕ) → List ℕ
joined lines = flat_map (λ line. line ++ codes "\n") lines

-- the whole text
abbrev pub text_of : VModule → List ℕ
text_of m = joined (lines_of m)

-- these bytes are the text of this module, which is valid
pub record IsTextOf (m : VModule) (bytes : List ℕ) : Type 0 where
  pub valid : IsValid m
  pub written : bytes ≡ text_of m
