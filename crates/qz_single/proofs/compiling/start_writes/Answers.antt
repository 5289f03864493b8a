use Rattle.std.proofs.Common.{map, ap, ◌∙◌}
use Rattle.qz_values.specs.declared.Know.{Know}
use Rattle.qz_syntax.specs.declared.places.Mark.TheVariants as mark
use Rattle.qz_meaning.specs.Scenes.{root}
use Rattle.qz_control.specs.Circuits.{known}
use Rattle.qz_control.specs.Shown.{hide, writes_in}
use Rattle.qz_surface.specs.Written.{read_writes}
use Rattle.qz_single.specs.Compiled.{walk_in}
use Rattle.qz_single.proofs.compiling.start_writes.Goals as goal

pub returns-clause-writes : goal.returns-clause-writes
returns-clause-writes c = λ v answers views.
    let at_writes = c.in_ok-hidden.ensures.grows.views v views in
    let at_never = c.in_ok-writes.ensures.grows.views v at_writes in
    let at_start = c.in_ok-never.ensures.grows.views v at_never in
    c.in_ok-hidden.ensures.hidden v views
    ∙ ap (λ ws. map (hide (known v c.in_ok-start.start)) (read_writes v ws)) c.deref.ensures.value
    ∙ ap (map (hide (known v c.in_ok-start.start))) (c.in_ok-writes.ensures.writes v answers at_writes)
    ∙ ap (λ (g : Know). map (hide g) (writes_in ((walk_in c.args.m.now v answers).start root g mark.Zero))) (c.in_ok-start.ensures.means v at_start)

pub hide_all-requires-clause-is_false : goal.hide_all-requires-clause-is_false
hide_all-requires-clause-is_false c = λ v views. c.in_ok-never.ensures.means v (c.in_ok-writes.ensures.grows.views v views)
