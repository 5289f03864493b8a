use Rattle.std.proofs.Common.{◌≡◌, ℕ, false, List, [], ◌∷◌, ◌++◌, map, sym, ap, ◌∙◌, subst, append_assoc}
use Rattle.std.specs.Global.{Vec}
use Rattle.qz_syntax.specs.declared.declarations.Port.{Port}
use Rattle.qz_syntax.specs.DoubleNames.{is_among}
use Rattle.qz_verilog.specs.Validity.{port_names}
use Rattle.qz_vtext.specs.Names.{name_text}
use Rattle.qz_vread.specs.PortLists.{PortLists, AreSpelled}
use Rattle.qz_vread.proofs.SpelledNames.{spelled_push, key_pushed, key_texts, key_popped}
use Rattle.qz_vread.proofs.ports.Ports.add_output.Goals as goal

pub invariant_of-self-in-Ok : goal.invariant_of-self-in-Ok
invariant_of-self-in-Ok c =
    let ports = c.self.inside.inputs ++ c.self.inside.outputs in
    let fresh : is_among (port_names ports) c.args.port.name ≡ false = ap (λ (p : PortLists). is_among (port_names (p.inputs ++ p.outputs)) c.args.port.name) c.self.view_is ∙ c.requires.new in
    let text : c.in_ok-from_slice.field-0.items ≡ name_text c.args.port.name = c.in_ok-from_slice.ensures.items ∙ c.requires.spelled in
    let pushed = key_pushed c.self.inside.names.keys c.insert.new.self.keys c.in_ok-from_slice.field-0 ports c.args.port.name c.self.invariant c.requires.named fresh text c.in_ok-insert.ensures.keys in
    let all : c.self.inside.inputs ++ c.push.new.self ≡ (c.self.inside.inputs ++ c.self.inside.outputs) ++ c.args.port ∷ [] =
    ap (λ ps. c.self.inside.inputs ++ ps) c.in-Ok.ensures.ok ∙ sym (append_assoc c.self.inside.inputs c.self.inside.outputs (c.args.port ∷ [])) in
    spelled_push ports (c.self.inside.inputs ++ c.push.new.self) (map (λ (k : Vec ℕ). k.items) c.self.inside.names.keys) (map (λ (k : Vec ℕ). k.items) c.insert.new.self.keys) c.args.port c.self.invariant all
    (key_texts c.self.inside.names.keys c.insert.new.self.keys c.in_ok-from_slice.field-0 c.args.port.name text pushed) c.requires.named fresh

pub invariant_of-self-in-Err : goal.invariant_of-self-in-Err
invariant_of-self-in-Err c =
    let ports = c.self.inside.inputs ++ c.self.inside.outputs in
    let fresh : is_among (port_names ports) c.args.port.name ≡ false = ap (λ (p : PortLists). is_among (port_names (p.inputs ++ p.outputs)) c.args.port.name) c.self.view_is ∙ c.requires.new in
    let text : c.in_ok-from_slice.field-0.items ≡ name_text c.args.port.name = c.in_ok-from_slice.ensures.items ∙ c.requires.spelled in
    let pushed = key_pushed c.self.inside.names.keys c.insert.new.self.keys c.in_ok-from_slice.field-0 ports c.args.port.name c.self.invariant c.requires.named fresh text c.in_ok-insert.ensures.keys in
    let keys = key_popped c.self.inside.names.keys c.insert.new.self.keys c.pop.new.self.keys c.in_ok-from_slice.field-0 c.pop.result pushed c.pop.ensures.keys c.pop.ensures.found in
    let same : c.self.inside.inputs ++ c.push.new.self ≡ ports = ap (λ ps. c.self.inside.inputs ++ ps) c.in-Err.ensures.err in
    let P : List Port → List (Vec ℕ) → Type 0 = λ ps ks. AreSpelled ps (map (λ (k : Vec ℕ). k.items) ks) in
    subst (λ ps. P ps c.pop.new.self.keys) (sym same) (subst (λ ks. P ports ks) (sym keys) c.self.invariant)
