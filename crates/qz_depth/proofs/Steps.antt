-- One member more, in what members so far do when they are resumed.
use Rattle.std.proofs.Common.{◌≡◌, ℕ, ◌+◌, ◌<◌, List, ◌++◌, map, length, drop, get_or, sym, ap, ◌∙◌}
use Rattle.qz_values.specs.declared.Know.{Know}
use Rattle.qz_values.specs.Knowledge.{both, either, choose_of}
use Rattle.qz_syntax.specs.declared.statements.Stmt.{Stmt}
use Rattle.qz_syntax.specs.declared.places.Mark.TheVariants as mark
use Rattle.qz_meaning.specs.Scenes.{Scene, Context}
use Rattle.qz_meaning.specs.Layouts.{PlaceBits}
use Rattle.qz_meaning.specs.Accounts.{Write}
use Rattle.qz_control.specs.MemberMirrors.{next_guard, run_all, run_each}
use Rattle.qz_control.specs.Mirror.{mirror_of}
use Rattle.qz_control.specs.Shown.{shown}
use Rattle.qz_control.proofs.Members.{next_member}
use Rattle.qz_depth.proofs.Runs.{shown_joined}

-- the context here is the one that it was before the members
module _ (parts : List Stmt) (i : ℕ) (part : Stmt) (within : i < length parts) (is : part ≡ get_or parts i part) (scene : Scene) (ctx here : Context) (same : here ≡ ctx) where
  pub run_all_more : (b : PlaceBits) (before after : List Write) (act live g inside ended ends live_next g_next : Know)
      → inside ≡ (mirror_of scene part).inside b → ended ≡ (mirror_of scene part).ended here b → ends ≡ (mirror_of scene part).walk.ends here mark.Zero
      → live_next ≡ either live inside → g_next ≡ choose_of inside (both act ended) (both g ends)
      → after ≡ before ++ shown ((mirror_of scene part).run here b act live g)
      → after ++ shown (run_all ctx (map (mirror_of scene) (drop (i + 1) parts)) b act live_next g_next)
      ≡ before ++ shown (run_all ctx (map (mirror_of scene) (drop i parts)) b act live g)
  run_all_more b before after act live g inside ended ends live_next g_next inside_is ended_is ends_is live_is g_is after_is =
      rw (after_is, live_is, g_is, inside_is, ended_is, ends_is, same)
      (shown_joined before ((mirror_of scene part).run ctx b act live g)
      (run_all ctx (map (mirror_of scene) (drop (i + 1) parts)) b act (either live ((mirror_of scene part).inside b)) (next_guard ctx (mirror_of scene part) b act g))
      ∙ ap (λ deeds. before ++ shown deeds) (sym (next_member parts i part within is (λ left. run_all ctx (map (mirror_of scene) left) b act live g))))

  pub run_each_more : (b : PlaceBits) (before after : List Write) (act live g : Know)
      → after ≡ before ++ shown ((mirror_of scene part).run here b act live g)
      → after ++ shown (run_each ctx (map (mirror_of scene) (drop (i + 1) parts)) b act live g)
      ≡ before ++ shown (run_each ctx (map (mirror_of scene) (drop i parts)) b act live g)
  run_each_more b before after act live g after_is =
      rw (after_is, same)
      (shown_joined before ((mirror_of scene part).run ctx b act live g) (run_each ctx (map (mirror_of scene) (drop (i + 1) parts)) b act live g)
      ∙ ap (λ deeds. before ++ shown deeds) (sym (next_member parts i part within is (λ left. run_each ctx (map (mirror_of scene) left) b act live g))))
