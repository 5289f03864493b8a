use Rattle.std.proofs.Common.{sym, ◌∙◌, rules, tests}
use Rattle.std.specs.Str.{bytes_eq}
use Rattle.std.proofs.lemmas.Iterator.{YieldsList-from_slice}
use Rattle.std.proofs.lemmas.Iterator.Search.{any_from_yields_List}
use Rattle.qz_syntax.specs.declared.declarations.Port.{Port}
use Rattle.qz_system.proofs.Finding.{among_ports}
use Rattle.qz_system.proofs.declared.is_among.Goals as goal

pub returns : goal.returns
returns c =
    any_from_yields_List (λ (port : Port). bytes_eq port.name c.args.name.now) _ _ _ c.any.ensures.ran
    (YieldsList-from_slice c.args.ports.now cc) (λ x b q k. search (rules, tests))
    ∙ sym (among_ports c.args.name.now c.args.ports.now)
