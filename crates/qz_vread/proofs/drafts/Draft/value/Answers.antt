use Rattle.std.proofs.Common.{◌≡◌, length, codes}
use Rattle.qz_values.specs.declared.Value.{Value}
use Rattle.qz_values.specs.Values.{type_of, IsValue}
use Rattle.qz_vtext.specs.Spelling.{constant_text}
use Rattle.qz_vread.proofs.Taking.{numbered_read}
use Rattle.qz_vread.proofs.drafts.Draft.value.Goals as goal

pub returns : goal.returns
returns c =
    numbered_read (λ (value : Value). IsValue value × (type_of value ≡ c.args.ty)) constant_text (codes "    r_") (codes "= ") c.args.line.now c.in_ok-numbered.field-0.now
    (length c.args.self.now.values) c.len.result c.constant.result c.len.ensures c.in_ok-numbered.ensures c.constant.ensures
