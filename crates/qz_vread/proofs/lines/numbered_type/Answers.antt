use Rattle.std.proofs.Common.{◌++◌, sym, ◌∙◌, codes}
use Rattle.std.specs.Fmt.{decimal}
use Rattle.std.proofs.lemmas.Bool.{iff_false}
use Rattle.qz_vread.proofs.Taking.{between_once}
use Rattle.qz_vread.proofs.PortParts.{no_type_alone}
use Rattle.qz_vread.proofs.lines.numbered_type.Goals as goal

pub returns-else-is_number : goal.returns-else-is_number
returns-else-is_number c =
    no_type_alone c.args.mark.now c.args.text.now c.in_ok-ty.rest.now (decimal c.args.number ++ codes ";") c.in_ok-ty.ty c.in_ok-ty.ensures
    (λ e. iff_false c.is_number.ensures c.if-is_number.false
    (between_once c.args.mark.now (codes ";") c.in_ok-between.field-0.now (decimal c.args.number) (sym c.in_ok-between.ensures ∙ e)))
    c.requires
