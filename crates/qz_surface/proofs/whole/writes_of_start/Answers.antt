use Rattle.std.proofs.Common.{◌++◌, ap, ap₂, ◌∙◌}
use Rattle.qz_meaning.specs.Scenes.{root}
use Rattle.qz_control.specs.Circuits.{known}
use Rattle.qz_control.specs.Mirrors.{Walk}
use Rattle.qz_control.specs.Mirror.{mirror_of}
use Rattle.qz_control.specs.Shown.{writes_in}
use Rattle.qz_control.proofs.Resumes.{walk_is}
use Rattle.qz_surface.specs.Written.{read_writes, hidden}
use Rattle.qz_surface.proofs.Deeds.{all_shown}
use Rattle.qz_surface.proofs.whole.writes_of_start.Goals as goal

pub returns-clause-writes : goal.returns-clause-writes
returns-clause-writes c = λ v answers views.
    let walk = (mirror_of v.leaves.scene c.args.owner.now.body).walk in
    let g = known v c.args.start in
    c.in_ok-surface.ensures.writes v views
    ∙ ap₂ (λ ws ctx. read_writes v ws ++ hidden (known v c.in_ok-live.live) (walk.start ctx g c.args.m)) c.new-writes.ensures.items c.at_root-marks.ensures
    ∙ ap (λ live. hidden live (walk.start root g c.args.m)) (c.in_ok-live.ensures.means v (c.in_ok-surface.ensures.grows.views v views))
    ∙ all_shown (walk.start root g c.args.m)
    ∙ ap (λ (w : Walk). writes_in (w.start root g c.args.m)) (walk_is c.args.owner.now v.leaves.scene answers c.args.owner.now.body c.requires.ready)
