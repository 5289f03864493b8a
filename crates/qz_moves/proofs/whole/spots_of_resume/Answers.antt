use Rattle.std.proofs.Common.{◌++◌, ap, ap₂, ◌∙◌}
use Rattle.qz_values.specs.Knowledge.{opposite, either}
use Rattle.qz_control.specs.Circuits.{known}
use Rattle.qz_control.specs.Contexts.{context_of}
use Rattle.qz_control.specs.Guarded.{chosen}
use Rattle.qz_control.specs.Mirror.{mirror_of}
use Rattle.qz_meaning.specs.Scenes.{root}
use Rattle.qz_moves.specs.Appended.{read_spots}
use Rattle.qz_moves.proofs.Bodies.{whole_move, whole_away}
use Rattle.qz_moves.proofs.whole.spots_of_resume.Goals as goal

pub returns-clause-spots : goal.returns-clause-spots
returns-clause-spots c = λ v answers r way views plain at is_stay is_leave.
    let m = mirror_of v.leaves.scene c.args.owner.now.body in
    let at_go = c.in_ok-moves.ensures.grows.views v views in
    ap chosen (c.in_ok-moves.ensures.spots v views
    ∙ ap₂ (λ xs ctx. read_spots v xs ++ m.move ctx v.leaves.at (known v c.args.stay) (known v c.in_ok-go.go) (known v c.in_ok-never.never)) c.new-spots.ensures.items c.at_root-marks.ensures
    ∙ ap₂ (λ k l. m.move root v.leaves.at (known v c.args.stay) k l) (c.in_ok-go.ensures.means v at_go) (c.in_ok-never.ensures.means v (c.in_ok-go.ensures.grows.views v at_go)))
    ∙ whole_move c.args.owner.now v.leaves.scene answers plain c.args.owner.now.body c.requires.ready v.leaves.at r at _ _ way is_stay is_leave root

pub returns-clause-away : goal.returns-clause-away
returns-clause-away c = λ v stayed left views plain away is_stay is_leave.
    let m = mirror_of v.leaves.scene c.args.owner.now.body in
    let at_go = c.in_ok-moves.ensures.grows.views v views in
    ap chosen (c.in_ok-moves.ensures.spots v views
    ∙ ap₂ (λ xs ctx. read_spots v xs ++ m.move ctx v.leaves.at (known v c.args.stay) (known v c.in_ok-go.go) (known v c.in_ok-never.never)) c.new-spots.ensures.items c.at_root-marks.ensures
    ∙ ap₂ (λ k l. m.move root v.leaves.at (known v c.args.stay) k l) (c.in_ok-go.ensures.means v at_go) (c.in_ok-never.ensures.means v (c.in_ok-go.ensures.grows.views v at_go)))
    ∙ whole_away c.args.owner.now v.leaves.scene plain c.args.owner.now.body c.requires.ready v.leaves.at away _ _ stayed left is_stay is_leave root
