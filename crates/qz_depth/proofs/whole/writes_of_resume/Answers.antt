use Rattle.std.proofs.Common.{◌++◌, ap, ap₂, sym, subst, ◌∙◌}
use Rattle.qz_meaning.specs.Scenes.{root}
use Rattle.qz_meaning.specs.Verdicts.{verdict}
use Rattle.qz_control.specs.Circuits.{known}
use Rattle.qz_control.specs.Mirror.{mirror_of}
use Rattle.qz_control.specs.Shown.{shown, AreFalse}
use Rattle.qz_control.proofs.Lively.{resume_shown, away_shown}
use Rattle.qz_surface.specs.Written.{read_writes}
use Rattle.qz_depth.proofs.whole.writes_of_resume.Goals as goal

pub returns-clause-writes : goal.returns-clause-writes
returns-clause-writes c = λ v answers r views at i delayed.
    let m = mirror_of v.leaves.scene c.args.owner.now.body in
    let act = known v c.args.act in
    ap (verdict i delayed) (c.in_ok-depth.ensures.writes v views
    ∙ ap₂ (λ ws ctx. read_writes v ws ++ shown (m.run ctx v.leaves.at act (known v c.in_ok-never.never) (known v c.in_ok-never.never))) c.new-writes.ensures.items c.at_root-marks.ensures
    ∙ ap (λ k. shown (m.run root v.leaves.at act k k)) (c.in_ok-never.ensures.means v (c.in_ok-depth.ensures.grows.views v views)))
    ∙ resume_shown c.args.owner.now v.leaves.scene answers c.args.owner.now.body c.requires.ready v.leaves.at r at root act i delayed

pub returns-clause-away : goal.returns-clause-away
returns-clause-away c = λ v views away.
    let m = mirror_of v.leaves.scene c.args.owner.now.body in
    let act = known v c.args.act in
    subst AreFalse (sym (c.in_ok-depth.ensures.writes v views
    ∙ ap₂ (λ ws ctx. read_writes v ws ++ shown (m.run ctx v.leaves.at act (known v c.in_ok-never.never) (known v c.in_ok-never.never))) c.new-writes.ensures.items c.at_root-marks.ensures
    ∙ ap (λ k. shown (m.run root v.leaves.at act k k)) (c.in_ok-never.ensures.means v (c.in_ok-depth.ensures.grows.views v views))))
    (away_shown c.args.owner.now v.leaves.scene c.args.owner.now.body c.requires.ready v.leaves.at away root act)
