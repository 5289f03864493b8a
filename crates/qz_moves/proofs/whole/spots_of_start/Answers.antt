use Rattle.std.proofs.Common.{◌++◌, ap, ap₂, ◌∙◌}
use Rattle.qz_control.specs.Circuits.{known}
use Rattle.qz_control.specs.Contexts.{context_of}
use Rattle.qz_control.specs.Guarded.{chosen}
use Rattle.qz_control.specs.Mirror.{mirror_of}
use Rattle.qz_meaning.specs.Scenes.{root}
use Rattle.qz_moves.specs.Appended.{read_spots}
use Rattle.qz_moves.proofs.Bodies.{whole_enter}
use Rattle.qz_moves.proofs.whole.spots_of_start.Goals as goal

pub returns-clause-spots : goal.returns-clause-spots
returns-clause-spots c = λ v answers started dropped views plain is_started is_dropped.
    let m = mirror_of v.leaves.scene c.args.owner.now.body in
    ap chosen (c.in_ok-enter.ensures.spots v views
    ∙ ap₂ (λ xs ctx. read_spots v xs ++ m.enter ctx c.args.m (known v c.in_ok-kept.kept)) c.new-spots.ensures.items c.at_root-marks.ensures
    ∙ ap (λ k. m.enter root c.args.m k) (c.in_ok-kept.ensures.means v (c.in_ok-enter.ensures.grows.views v views)))
    ∙ whole_enter c.args.owner.now v.leaves.scene answers plain c.args.owner.now.body c.requires.ready _ _ started dropped is_started is_dropped root c.args.m
