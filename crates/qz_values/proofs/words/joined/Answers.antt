use Rattle.std.proofs.Common.{◌+◌, ◌≤◌, ◌∙◌, ap}
use Rattle.std.proofs.lemmas.Bool.{leb-true}
use Rattle.qz_values.specs.declared.Ty.TheVariants.{Bv}
use Rattle.qz_values.specs.Types.{width_of}
use Rattle.qz_values.specs.Values.{value_of}
use Rattle.qz_values.proofs.Numbers.{shl_add_cut}
use Rattle.qz_values.proofs.words.joined.Goals as goal

pub returns : goal.returns
returns c =
    let room : width_of c.args.v.ty + width_of c.args.w.ty ≤ 64 = leb-true _ _ c.requires.room in
    rw (c.width.ensures, c.width-low.ensures) at c.cut.ensures ∙
    ap (value_of (Bv (width_of c.args.v.ty + width_of c.args.w.ty)))
    (shl_add_cut c.args.v.bits c.args.w.bits (width_of c.args.w.ty) (width_of c.args.v.ty + width_of c.args.w.ty) room)
