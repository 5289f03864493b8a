use Rattle.std.proofs.Common.{sym, ap, ◌∙◌}
use Rattle.std.specs.Prelude.{slice_get}
use Rattle.std.proofs.lemmas.Option.{same_Some}
use Rattle.qz_system.specs.declared.parts.Inst.{Inst}
use Rattle.qz_equations.proofs.InstanceLemmas.{cell_within}
use Rattle.qz_equations.proofs.instances.cell_of.Goals as goal

pub cell_at-requires : goal.cell_at-requires
cell_at-requires c = cell_within c.args.parts.now c.requires.parts c.args.number c.instance_at-one.result.now c.instance_at-one.ensures

pub returns : goal.returns
returns c = λ one at.
    ap (λ (x : Inst). slice_get c.args.parts.now.cells x.cell) (same_Some one c.instance_at-one.result.now (sym at ∙ c.instance_at-one.ensures)) ∙ c.cell_at.ensures
