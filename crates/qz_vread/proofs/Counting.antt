-- There are no more ports than lines, and no more lines than bytes.
use Rattle.std.proofs.Common.{arith, ◌≡◌, ℕ, ◌+◌, ◌^◌, ◌<◌, ◌≤◌, true, List, [], ◌∷◌, ◌++◌, length, map, length-append, codes, ap}
use Rattle.std.proofs.lemmas.List.{length-map}
use Rattle.qz_syntax.specs.declared.declarations.Port.{Port}
use Rattle.qz_verilog.specs.Validity.{port_names}
use Rattle.qz_vtext.specs.Lines.{input_text, output_text, listed}
use Rattle.qz_vtext.specs.Text.{joined}
use Rattle.qz_vread.specs.declared.drafts.Draft.{Draft}
use Rattle.qz_vread.specs.declared.drafts.Stage.{Stage}
use Rattle.qz_vread.specs.declared.drafts.Stage.TheVariants as stage
use Rattle.qz_vread.specs.Drafts.{with_comma}
use Rattle.qz_vread.specs.Drafted.{port_texts, head_of, nets_of, outs_of, initial_of, clock_of, written_at, written, IsSoundAt, HasNoPorts}
use Rattle.qz_vread.specs.Leading.{IsReading}

abbrev ports_of : Draft → List Port
ports_of d = d.ports.inputs ++ d.ports.outputs

front_long : {A : Type 0} (n : ℕ) (a b : List A) → n ≤ length a → n ≤ length (a ++ b)
front_long {A} n a b more = omega (arith, length-append a b)

listed_long : (first : List ℕ) (lines : List (List ℕ)) → length (listed first lines) ≡ length lines + 1
listed_long first [] = omega arith
listed_long first (next ∷ lines) = let more = listed_long next lines in omega arith

texts_long : (d : Draft) → length (port_texts d.ports) ≡ length (ports_of d)
texts_long d =
    omega (
      arith,
      length-append (map input_text d.ports.inputs) (map output_text d.ports.outputs),
      length-append d.ports.inputs d.ports.outputs,
      length-map d.ports.inputs input_text,
      length-map d.ports.outputs output_text,
    )

head_long : (d : Draft) → length (ports_of d) ≤ length (head_of d)
head_long d =
    let lines = listed_long (codes "  input clk") (port_texts d.ports) in
    let texts = texts_long d in
    omega (arith, lines, texts, length-append (listed (codes "  input clk") (port_texts d.ports)) (codes ");" ∷ []))

nets_long : (d : Draft) → length (ports_of d) ≤ length (nets_of d)
nets_long d = front_long (length (ports_of d)) (head_of d) _ (head_long d)

outs_long : (d : Draft) → length (ports_of d) ≤ length (outs_of d)
outs_long d = front_long (length (ports_of d)) (nets_of d) _ (nets_long d)

initial_long : (d : Draft) → length (ports_of d) ≤ length (initial_of d)
initial_long d = front_long (length (ports_of d)) (outs_of d) _ (outs_long d)

few_none : (d : Draft) → HasNoPorts d → length (ports_of d) ≤ 0
few_none d none = let both = length-append d.ports.inputs d.ports.outputs in let i = ap length none.inputs in let o = ap length none.outputs in omega arith

ports_at : (s : Stage) (d : Draft) → IsSoundAt s d → length (ports_of d) ≤ length (written_at s d)
ports_at stage.Name d sound = few_none d sound.ports
ports_at stage.Clock d sound = let few = few_none d sound.1 in omega arith
ports_at stage.Port d sound = let texts = texts_long d in let commas = length-map (port_texts d.ports) (with_comma true) in omega (arith, texts, commas)
ports_at stage.PortsEnd d sound = let lines = listed_long (codes "  input clk") (port_texts d.ports) in let texts = texts_long d in omega (arith, lines, texts)
ports_at stage.Net d sound = front_long (length (ports_of d)) (head_of d) _ (head_long d)
ports_at (stage.Assign t) d sound = front_long (length (ports_of d)) (nets_of d) _ (nets_long d)
ports_at stage.Output d sound = front_long (length (ports_of d)) (nets_of d) _ (nets_long d)
ports_at stage.Initial d sound = front_long (length (ports_of d)) (outs_of d) _ (outs_long d)
ports_at stage.Always d sound = front_long (length (ports_of d)) (outs_of d) _ (outs_long d)
ports_at stage.Next d sound = front_long (length (ports_of d)) (initial_of d) _ (initial_long d)
ports_at stage.ModuleEnd d sound = front_long (length (ports_of d)) (initial_of d) _ (initial_long d)
ports_at stage.Nothing d sound = front_long (length (ports_of d)) (clock_of d) _ (front_long (length (ports_of d)) (initial_of d) _ (initial_long d))

lines_long : (lines : List (List ℕ)) → length lines ≤ length (joined lines)
lines_long [] = omega arith
lines_long (line ∷ lines) =
    let more = lines_long lines in
    omega (arith, length-append (line ++ codes "\n") (joined lines), length-append line (codes "\n"))

-- how many lines and ports were read
pub few_lines : (bytes : List ℕ) (d : Draft) (rest : List ℕ) → IsReading bytes d rest → length (written d) ≤ length bytes
few_lines bytes d rest r = let long = lines_long (written d) in let all = ap length r.whole in omega (arith, length-append (joined (written d)) rest)

pub few_ports : (bytes : List ℕ) (d : Draft) (rest : List ℕ) → IsReading bytes d rest → length bytes ≤ 67108864 → length (port_names (d.ports.inputs ++ d.ports.outputs)) < 2 ^ 27
few_ports bytes d rest r small =
    let ports = ports_at d.stage d r.sound in
    let lines = few_lines bytes d rest r in
    omega (arith, length-map (d.ports.inputs ++ d.ports.outputs) (λ (p : Port). p.name))
