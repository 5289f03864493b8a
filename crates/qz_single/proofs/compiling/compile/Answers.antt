use Rattle.std.proofs.Common.{map, ap, ◌∙◌}
use Rattle.qz_values.specs.declared.Know.{Know}
use Rattle.qz_values.specs.Knowledge.{opposite}
use Rattle.qz_syntax.specs.declared.places.Mark.TheVariants as mark
use Rattle.qz_meaning.specs.Scenes.{root}
use Rattle.qz_meaning.specs.Verdicts.{verdict}
use Rattle.qz_control.specs.Shown.{hide, writes_in}
use Rattle.qz_control.proofs.Growing.{through}
use Rattle.qz_surface.proofs.Typing.{writes_grow}
use Rattle.qz_moves.proofs.Appending.{tests_grow}
use Rattle.qz_single.specs.Compiled.{walk_in}
use Rattle.qz_single.proofs.compiling.compile.Goals as goal

pub returns : goal.returns
returns c =
    let m = c.args.m.now in
    let g1 = c.in_ok-starting.ensures.grows in
    let g2 = c.in_ok-resuming.ensures.grows in
    let g3 = c.in_ok-entering.ensures.grows in
    let g4 = c.in_ok-moving.ensures.grows in
    let from_entering = g4 in
    let from_resuming = through _ _ _ g3 g4 in
    let from_starting = through _ _ _ g2 from_resuming in
    let from_act = through _ _ _ g1 from_starting in
    record {
      typed = record {
        starting = writes_grow m _ _ _ from_starting c.in_ok-starting.ensures.typed;
        resuming = writes_grow m _ _ _ from_resuming c.in_ok-resuming.ensures.typed;
        entering = tests_grow _ _ _ from_entering c.in_ok-entering.ensures.tests;
        moving = c.in_ok-moving.ensures.tests;
      };
      writes = record {
        starts = λ v answers views.
            c.in_ok-starting.ensures.writes v answers (from_starting.views v views)
            ∙ ap (λ (k : Know). map (hide (opposite k)) (writes_in ((walk_in m v answers).start root (opposite k) mark.Zero))) (c.in_ok-act.ensures.means v (from_act.views v views));
        resumes = λ v answers r views there i delayed.
            c.in_ok-resuming.ensures.writes v answers r (from_resuming.views v views) there i delayed
            ∙ ap (λ (k : Know). verdict i delayed (writes_in ((walk_in m v answers).resume root r k))) (c.in_ok-act.ensures.means v (from_act.views v views));
        away = λ v views away. c.in_ok-resuming.ensures.away v (from_resuming.views v views) away;
      };
      spots = record {
        enters = λ v answers resumed views plain is.
            c.in_ok-entering.ensures.spots v answers resumed (from_entering.views v views) plain (c.in_ok-act.ensures.means v (from_act.views v views) ∙ is);
        moves = λ v answers r views plain there. c.in_ok-moving.ensures.spots v answers r views plain there;
        leaves = λ v views plain away. c.in_ok-moving.ensures.away v views plain away;
      };
    }
