-- One member more, in what members so far do when they are started.
use Rattle.std.proofs.Common.{◌≡◌, ℕ, ◌+◌, ◌<◌, List, ◌++◌, map, length, drop, get_or, sym, ap, ◌∙◌}
use Rattle.qz_values.specs.declared.Know.{Know}
use Rattle.qz_values.specs.Knowledge.{both}
use Rattle.qz_syntax.specs.declared.statements.Stmt.{Stmt}
use Rattle.qz_syntax.specs.declared.places.Mark.{Mark}
use Rattle.qz_meaning.specs.Scenes.{Scene, Context}
use Rattle.qz_meaning.specs.Accounts.{Write}
use Rattle.qz_meaning.specs.Sequences.{start_in_turn}
use Rattle.qz_control.specs.Mirrors.{walks}
use Rattle.qz_control.specs.Mirror.{mirror_of}
use Rattle.qz_control.proofs.Members.{next_member}
use Rattle.qz_surface.specs.Written.{hidden, start_at_once}
use Rattle.qz_surface.proofs.Deeds.{joined}

-- the context here is the one that it was before the members
module _ (parts : List Stmt) (i : ℕ) (part : Stmt) (within : i < length parts) (is : part ≡ get_or parts i part) (scene : Scene) (ctx here : Context) (same : here ≡ ctx) where
  pub in_turn_more : (live : Know) (m : Mark) (before after : List Write) (g ends g_next : Know)
      → ends ≡ (mirror_of scene part).walk.ends here m → g_next ≡ both g ends
      → after ≡ before ++ hidden live ((mirror_of scene part).walk.start here g m)
      → after ++ hidden live (start_in_turn ctx (walks (map (mirror_of scene) (drop (i + 1) parts))) g_next m)
      ≡ before ++ hidden live (start_in_turn ctx (walks (map (mirror_of scene) (drop i parts))) g m)
  in_turn_more live m before after g ends g_next ends_is g_is after_is =
      rw (after_is, g_is, ends_is, same)
      (joined live before ((mirror_of scene part).walk.start ctx g m)
      (start_in_turn ctx (walks (map (mirror_of scene) (drop (i + 1) parts))) (both g ((mirror_of scene part).walk.ends ctx m)) m)
      ∙ ap (λ deeds. before ++ hidden live deeds) (sym (next_member parts i part within is (λ left. start_in_turn ctx (walks (map (mirror_of scene) left)) g m))))

  pub at_once_more : (live : Know) (m : Mark) (before after : List Write) (g : Know)
      → after ≡ before ++ hidden live ((mirror_of scene part).walk.start here g m)
      → after ++ hidden live (start_at_once ctx (walks (map (mirror_of scene) (drop (i + 1) parts))) g m)
      ≡ before ++ hidden live (start_at_once ctx (walks (map (mirror_of scene) (drop i parts))) g m)
  at_once_more live m before after g after_is =
      rw (after_is, same)
      (joined live before ((mirror_of scene part).walk.start ctx g m) (start_at_once ctx (walks (map (mirror_of scene) (drop (i + 1) parts))) g m)
      ∙ ap (λ deeds. before ++ hidden live deeds) (sym (next_member parts i part within is (λ left. start_at_once ctx (walks (map (mirror_of scene) left)) g m))))
