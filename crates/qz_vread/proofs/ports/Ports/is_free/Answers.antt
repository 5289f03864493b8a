use Rattle.std.proofs.Common.{◌≡◌, ℕ, not, ◌++◌, map, ap, ◌∙◌}
use Rattle.std.specs.Str.{bytes_eq}
use Rattle.std.specs.Global.{Vec}
use Rattle.qz_vread.specs.PortLists.{PortLists}
use Rattle.std.specs.List.{list_any}
use Rattle.qz_syntax.specs.DoubleNames.{is_among}
use Rattle.qz_verilog.specs.Validity.{port_names}
use Rattle.qz_vtext.specs.Names.{name_text}
use Rattle.qz_vread.proofs.SpelledNames.{any_map, among_spelled}
use Rattle.qz_vread.proofs.ports.Ports.is_free.Goals as goal

pub returns : goal.returns
returns c =
    λ name named e.
    let ports = c.self.inside.inputs ++ c.self.inside.outputs in
    let keys = c.self.inside.names.keys in
    let among : c.contains.result ≡ is_among (port_names ports) name =
    c.contains.ensures
    ∙ any_map (λ (key : Vec ℕ). key.items) (bytes_eq c.args.spelled.now) keys
    ∙ ap (λ t. list_any (bytes_eq t) (map (λ (key : Vec ℕ). key.items) keys)) e
    ∙ ap (list_any (bytes_eq (name_text name))) c.self.invariant.texts
    ∙ among_spelled (port_names ports) name c.self.invariant.named named in
    ap not (among ∙ ap (λ (p : PortLists). is_among (port_names (p.inputs ++ p.outputs)) name) c.self.view_is)
