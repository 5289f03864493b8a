use Rattle.std.proofs.Common.{◌∙◌}
use Rattle.qz_control.specs.Circuits.{known}
use Rattle.qz_control.proofs.Growing.{through}
use Rattle.qz_single.proofs.Hiding.{hidden_more, left_more, typed_more}
use Rattle.qz_single.proofs.hidden.hide_all.Goals as goal

pub loop-write-preserved : goal.loop-write-preserved
loop-write-preserved c =
    let within = c.loop-write-test.true in
    let grown = c.in_ok-guard.ensures.grows in
    let so_far = c.loop-write.invariant in
    record {
      grows = through _ _ _ so_far.grows grown;
      left = left_more c.args.writes.now c.loop-write.write-index within _ _ _ grown so_far.left;
      typed = typed_more c.args.writes.now c.loop-write.write-index _ within _ _ _ grown _ _ _ c.in_ok-push.ensures.items c.in_ok-guard.ensures.ty so_far.left so_far.typed;
      hidden = λ v views.
          let at_start = so_far.grows.views v (grown.views v views) in
          hidden_more c.args.writes.now c.loop-write.write-index _ within v _ _ _ (known v c.args.live) (known v c.args.never)
          c.in_ok-push.ensures.items (c.in_ok-guard.ensures.means v views) (c.requires.is_false v at_start)
          ∙ so_far.hidden v (grown.views v views);
    }
