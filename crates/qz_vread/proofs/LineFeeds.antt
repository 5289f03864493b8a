-- No line of a module's text has a line feed within it, and so bytes are cut into lines in one way.
use Rattle.std.proofs.Common.{◌≡◌, ℕ, ◌+◌, ◌-◌, Bool, true, not, ◌==◌, List, [], ◌∷◌, ◌++◌, map, codes, refl, sym, ap, ◌∙◌, append_assoc}
use Rattle.std.specs.Fmt.{decimal}
use Rattle.qz_values.specs.declared.Ty.{Ty}
use Rattle.qz_values.specs.declared.Ty.TheVariants as ty
use Rattle.qz_values.specs.declared.Value.{Value}
use Rattle.qz_values.specs.declared.Op2.{Op2}
use Rattle.qz_values.specs.declared.Op2.TheVariants as op
use Rattle.qz_values.specs.Values.{type_of}
use Rattle.qz_syntax.specs.declared.declarations.Port.{Port}
use Rattle.qz_verilog.specs.declared.nets.Ref.{Ref}
use Rattle.qz_verilog.specs.declared.nets.Rhs.{Rhs}
use Rattle.qz_verilog.specs.declared.nets.Rhs.TheVariants as rhs
use Rattle.qz_verilog.specs.declared.modules.VModule.{VModule}
use Rattle.qz_vtext.specs.Names.{name_text}
use Rattle.qz_vtext.specs.Spelling.{type_text, net_text, sign_text, constant_text, right_side_text}
use Rattle.qz_vread.specs.Parts.{lacks}
use Rattle.qz_vtext.specs.Lines.{input_text, output_text, listed, numbered, register_lines, wire_lines, output_lines, initial_lines, next_lines}
use Rattle.qz_vtext.specs.Text.{port_lines, head_lines, net_lines, initial_block, clock_block, behavior_lines, lines_of, joined}
use Rattle.qz_vread.specs.Refusals.{AreLines}
use Rattle.qz_vread.proofs.Words.{all-append, name_words, words_lack}
use Rattle.qz_vread.proofs.Splitting.{split_once}
use Rattle.qz_vread.proofs.RightSideLemmas.{net_lacks, decimal_lacks, value_lacks}

abbrev no_feed : ℕ → Bool
no_feed byte = not (byte == 10)

abbrev IsFeedless : List ℕ → Type 0
IsFeedless bytes = lacks 10 bytes ≡ true

both : (a b : List ℕ) → IsFeedless a → IsFeedless b → IsFeedless (a ++ b)
both a b x y = all-append no_feed a b x y

chain3 : (a b c : List ℕ) → IsFeedless a → IsFeedless b → IsFeedless c → IsFeedless (a ++ (b ++ c))
chain3 a b c x y z = both a (b ++ c) x (both b c y z)

chain4 : (a b c d : List ℕ) → IsFeedless a → IsFeedless b → IsFeedless c → IsFeedless d → IsFeedless (a ++ (b ++ (c ++ d)))
chain4 a b c d x y z w = both a (b ++ (c ++ d)) x (chain3 b c d y z w)

chain5 : (a b c d e : List ℕ) → IsFeedless a → IsFeedless b → IsFeedless c → IsFeedless d → IsFeedless e → IsFeedless (a ++ (b ++ (c ++ (d ++ e))))
chain5 a b c d e x y z w v = both a (b ++ (c ++ (d ++ e))) x (chain4 b c d e y z w v)

chain6 : (a b c d e f : List ℕ) → IsFeedless a → IsFeedless b → IsFeedless c → IsFeedless d → IsFeedless e → IsFeedless f → IsFeedless (a ++ (b ++ (c ++ (d ++ (e ++ f)))))
chain6 a b c d e f x y z w v u = both a (b ++ (c ++ (d ++ (e ++ f)))) x (chain5 b c d e f y z w v u)

name_line : (name : List ℕ) → IsFeedless (name_text name)
name_line name = words_lack 10 (name_text name) refl (name_words name)

number_line : (n : ℕ) → IsFeedless (decimal n)
number_line n = decimal_lacks 10 n refl

net_is : (inputs : List Port) (n : Ref) → IsFeedless (net_text inputs n)
net_is inputs n = net_lacks 10 inputs n refl

type_is : (t : Ty) → IsFeedless (type_text t)
type_is ty.Bool = refl
type_is (ty.Bv w) = both (codes "[") (decimal (w - 1) ++ codes ":0] ") refl (both (decimal (w - 1)) (codes ":0] ") (number_line (w - 1)) refl)

sign_is : (op : Op2) → IsFeedless (sign_text op)
sign_is op.And = refl
sign_is op.Or = refl
sign_is op.Xor = refl
sign_is op.Imp = refl
sign_is op.Add = refl
sign_is op.Sub = refl
sign_is op.Eq = refl
sign_is op.Ne = refl
sign_is op.Lt = refl
sign_is op.Le = refl
sign_is op.Gt = refl
sign_is op.Ge = refl

value_is : (v : Value) → IsFeedless (constant_text v)
value_is v = value_lacks 10 v refl refl

right_is : (inputs : List Port) (right : Rhs) → IsFeedless (right_side_text inputs right)
right_is inputs (rhs.Const v) = value_is v
right_is inputs (rhs.Invert a) = both (codes "~") (net_text inputs a) refl (net_is inputs a)
right_is inputs (rhs.Bin op a b) =
    chain5 (net_text inputs a) (codes " ") (sign_text op) (codes " ") (net_text inputs b) (net_is inputs a) refl (sign_is op) refl (net_is inputs b)
right_is inputs (rhs.Choose c a b) =
    chain5 (net_text inputs c) (codes " ? ") (net_text inputs a) (codes " : ") (net_text inputs b) (net_is inputs c) refl (net_is inputs a) refl (net_is inputs b)
right_is inputs (rhs.Bit a i) = chain4 (net_text inputs a) (codes "[") (decimal i) (codes "]") (net_is inputs a) refl (number_line i) refl
right_is inputs (rhs.Slice a high low) =
    chain6 (net_text inputs a) (codes "[") (decimal high) (codes ":") (decimal low) (codes "]") (net_is inputs a) refl (number_line high) refl (number_line low) refl
right_is inputs (rhs.Concat a b) =
    chain5 (codes "{") (net_text inputs a) (codes ", ") (net_text inputs b) (codes "}") refl (net_is inputs a) refl (net_is inputs b) refl

all_join : (a b : List (List ℕ)) → AreLines a → AreLines b → AreLines (a ++ b)
all_join [] b x y = y
all_join (l ∷ ls) b x y = (x.0, all_join ls b x.1 y)

listed_are : (first : List ℕ) (lines : List (List ℕ)) → IsFeedless first → AreLines lines → AreLines (listed first lines)
listed_are first [] x y = (x, tt)
listed_are first (next ∷ lines) x y = (both first (codes ",") x refl, listed_are next lines y.0 y.1)

mapped_are : (text : Port → List ℕ) → ((p : Port) → IsFeedless (text p)) → (ports : List Port) → AreLines (map text ports)
mapped_are text each [] = tt
mapped_are text each (p ∷ ports) = (each p, mapped_are text each ports)

numbered_are : {A : Type 0} (lines : ℕ → A → List (List ℕ)) → ((k : ℕ) (x : A) → AreLines (lines k x)) → (k : ℕ) (xs : List A) → AreLines (numbered lines k xs)
numbered_are lines each k [] = tt
numbered_are lines each k (x ∷ xs) = all_join (lines k x) (numbered lines (k + 1) xs) (each k x) (numbered_are lines each (k + 1) xs)

outputs_are : (inputs ports : List Port) (nets : List Ref) → AreLines (output_lines inputs ports nets)
outputs_are inputs [] nets = tt
outputs_are inputs (p ∷ ports) [] = tt
outputs_are inputs (p ∷ ports) (n ∷ nets) = (
  chain5 (codes "  assign o_") (name_text p.name) (codes " = ") (net_text inputs n) (codes ";") refl (name_line p.name) refl (net_is inputs n) refl,
  outputs_are inputs ports nets,
)

input_is : (p : Port) → IsFeedless (input_text p)
input_is p = chain4 (codes "  input ") (type_text p.ty) (codes "i_") (name_text p.name) refl (type_is p.ty) refl (name_line p.name)

output_is : (p : Port) → IsFeedless (output_text p)
output_is p = chain4 (codes "  output ") (type_text p.ty) (codes "o_") (name_text p.name) refl (type_is p.ty) refl (name_line p.name)

declared_is : (front : List ℕ) (mark : List ℕ) (k : ℕ) (t : Ty) → IsFeedless front → IsFeedless mark → IsFeedless (front ++ (type_text t ++ (mark ++ (decimal k ++ codes ";"))))
declared_is front mark k t x y = chain5 front (type_text t) mark (decimal k) (codes ";") x (type_is t) y (number_line k) refl

set_is : (front : List ℕ) (k : ℕ) (middle text : List ℕ) → IsFeedless front → IsFeedless middle → IsFeedless text → IsFeedless (front ++ (decimal k ++ (middle ++ (text ++ codes ";"))))
set_is front k middle text x y z = chain5 front (decimal k) middle text (codes ";") x (number_line k) y z refl

ports_are_lines : (inputs outputs : List Port) → AreLines (port_lines inputs outputs)
ports_are_lines inputs outputs =
    listed_are (codes "  input clk") (map input_text inputs ++ map output_text outputs) refl
    (all_join (map input_text inputs) (map output_text outputs) (mapped_are input_text input_is inputs) (mapped_are output_text output_is outputs))

nets_are_lines : (m : VModule) → AreLines (net_lines m)
nets_are_lines m =
    all_join (numbered register_lines 0 m.regs) (numbered (wire_lines m.inputs) 0 m.wires)
    (numbered_are register_lines (λ k v. (declared_is (codes "  reg ") (codes "r_") k (type_of v) refl refl, tt)) 0 m.regs)
    (numbered_are (wire_lines m.inputs) (λ k w. (
      declared_is (codes "  wire ") (codes "w_") k w.0 refl refl,
      (set_is (codes "  assign w_") k (codes " = ") (right_side_text m.inputs w.1) refl refl (right_is m.inputs w.1), tt),
    )) 0 m.wires)

initial_are_lines : (values : List Value) → AreLines (initial_block values)
initial_are_lines values = (
  refl,
  all_join (numbered initial_lines 0 values) (codes "  end" ∷ [])
      (numbered_are initial_lines (λ k v. (set_is (codes "    r_") k (codes " = ") (constant_text v) refl refl (value_is v), tt)) 0 values) (refl, tt),
)

clock_are_lines : (inputs : List Port) (nexts : List Ref) → AreLines (clock_block inputs nexts)
clock_are_lines inputs nexts = (
  refl,
  all_join (numbered (next_lines inputs) 0 nexts) (codes "  end" ∷ [])
      (numbered_are (next_lines inputs) (λ k n. (set_is (codes "    r_") k (codes " <= ") (net_text inputs n) refl refl (net_is inputs n), tt)) 0 nexts) (refl, tt),
)

-- no line of a module's text has a line feed
pub lines_are : (m : VModule) → AreLines (lines_of m)
lines_are m =
    all_join (head_lines m) (net_lines m ++ (behavior_lines m ++ codes "endmodule" ∷ [])) (
      chain3 (codes "module q_") (name_text m.name) (codes "(") refl (name_line m.name) refl,
      all_join (port_lines m.inputs m.outputs) (codes ");" ∷ []) (ports_are_lines m.inputs m.outputs) (refl, tt),
    )
    (all_join (net_lines m) (behavior_lines m ++ codes "endmodule" ∷ []) (nets_are_lines m)
    (all_join (behavior_lines m) (codes "endmodule" ∷ [])
    (all_join (output_lines m.inputs m.outputs m.outs) (initial_block m.regs ++ clock_block m.inputs m.nexts) (outputs_are m.inputs m.outputs m.outs)
    (all_join (initial_block m.regs) (clock_block m.inputs m.nexts) (initial_are_lines m.regs) (clock_are_lines m.inputs m.nexts)))
    (refl, tt)))

-- lines after the first ones
pub record After (lines before : List (List ℕ)) (rest : List ℕ) : Type 0 where
  pub more : List (List ℕ)
  pub split : lines ≡ before ++ more
  pub follow : rest ≡ joined more

no_bytes : (line others : List ℕ) → [] ≡ line ++ 10 ∷ others → ⊥
no_bytes [] others e = cc
no_bytes (b ∷ line) others e = cc

-- lines whose text begins as some lines do begin with them
pub after_lines : (before lines : List (List ℕ)) (rest : List ℕ) → AreLines before → AreLines lines → joined lines ≡ joined before ++ rest → After lines before rest
after_lines [] lines rest x y e = record { more = lines; split = refl; follow = sym e }
after_lines (b ∷ before) [] rest x y e = absurd (no_bytes b (joined before ++ rest) (e ∙ ap (λ bs. bs ++ rest) (append_assoc b (codes "\n") (joined before)) ∙ append_assoc b (10 ∷ joined before) rest))
after_lines (b ∷ before) (l ∷ lines) rest x y e =
    let same : l ++ 10 ∷ joined lines ≡ b ++ 10 ∷ (joined before ++ rest) =
    sym (append_assoc l (codes "\n") (joined lines)) ∙ e ∙ ap (λ bs. bs ++ rest) (append_assoc b (codes "\n") (joined before)) ∙ append_assoc b (10 ∷ joined before) rest in
    let cut = split_once 10 l b (joined lines) (joined before ++ rest) y.0 x.0 same in
    let found = after_lines before lines rest x.1 y.1 cut.after in
    record {
      more = found.more;
      split = ap (λ w. w ∷ lines) cut.before ∙ ap (λ ws. b ∷ ws) found.split;
      follow = found.follow;
    }
