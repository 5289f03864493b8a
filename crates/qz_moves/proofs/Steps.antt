-- One member more, in where control goes in members so far.
use Rattle.std.proofs.Common.{◌≡◌, ℕ, ◌+◌, ◌<◌, List, ◌++◌, map, length, drop, get_or, sym, ap, append_assoc, ◌∙◌}
use Rattle.qz_values.specs.declared.Know.{Know}
use Rattle.qz_values.specs.Knowledge.{both, either, choose_of}
use Rattle.qz_syntax.specs.declared.statements.Stmt.{Stmt}
use Rattle.qz_syntax.specs.declared.places.Mark.{Mark}
use Rattle.qz_syntax.specs.declared.places.Mark.TheVariants as mark
use Rattle.qz_meaning.specs.Scenes.{Scene, Context}
use Rattle.qz_meaning.specs.Layouts.{PlaceBits}
use Rattle.qz_control.specs.Guarded.{Guarded}
use Rattle.qz_control.specs.MemberMirrors.{enter_all, rests_all, enter_each, rests_each, move_all, moved_all, move_each, moved_each}
use Rattle.qz_control.specs.Mirror.{mirror_of}
use Rattle.qz_control.proofs.Members.{next_member}

-- the context here is the one that it was before the members
module _ (parts : List Stmt) (i : ℕ) (part : Stmt) (within : i < length parts) (is : part ≡ get_or parts i part) (scene : Scene) (ctx here : Context) (same : here ≡ ctx) where
  pub rests_all_more : (m : Mark) (g so_far rests ends g_next next : Know)
      → rests ≡ (mirror_of scene part).rests here m g → ends ≡ (mirror_of scene part).walk.ends here m
      → g_next ≡ both g ends → next ≡ either so_far rests
      → rests_all ctx (map (mirror_of scene) (drop (i + 1) parts)) m g_next next ≡ rests_all ctx (map (mirror_of scene) (drop i parts)) m g so_far
  rests_all_more m g so_far rests ends g_next next rests_is ends_is g_is next_is =
      rw (next_is, g_is, rests_is, ends_is, same)
      (sym (next_member parts i part within is (λ left. rests_all ctx (map (mirror_of scene) left) m g so_far)))

  pub enter_all_more : (m : Mark) (before after : Guarded) (g ends g_next : Know)
      → ends ≡ (mirror_of scene part).walk.ends here m → g_next ≡ both g ends
      → after ≡ before ++ (mirror_of scene part).enter here m g
      → after ++ enter_all ctx (map (mirror_of scene) (drop (i + 1) parts)) m g_next ≡ before ++ enter_all ctx (map (mirror_of scene) (drop i parts)) m g
  enter_all_more m before after g ends g_next ends_is g_is after_is =
      rw (after_is, g_is, ends_is, same)
      (append_assoc before _ _ ∙ ap (λ more. before ++ more) (sym (next_member parts i part within is (λ left. enter_all ctx (map (mirror_of scene) left) m g))))

  pub rests_each_more : (m : Mark) (g so_far rests next : Know)
      → rests ≡ (mirror_of scene part).rests here m g → next ≡ either so_far rests
      → rests_each ctx (map (mirror_of scene) (drop (i + 1) parts)) m g next ≡ rests_each ctx (map (mirror_of scene) (drop i parts)) m g so_far
  rests_each_more m g so_far rests next rests_is next_is =
      rw (next_is, rests_is, same)
      (sym (next_member parts i part within is (λ left. rests_each ctx (map (mirror_of scene) left) m g so_far)))

  pub enter_each_more : (m : Mark) (before after : Guarded) (g : Know)
      → after ≡ before ++ (mirror_of scene part).enter here m g
      → after ++ enter_each ctx (map (mirror_of scene) (drop (i + 1) parts)) m g ≡ before ++ enter_each ctx (map (mirror_of scene) (drop i parts)) m g
  enter_each_more m before after g after_is =
      rw (after_is, same)
      (append_assoc before _ _ ∙ ap (λ more. before ++ more) (sym (next_member parts i part within is (λ left. enter_each ctx (map (mirror_of scene) left) m g))))

  pub moved_all_more : (b : PlaceBits) (stay go g so_far rests inside ended ends g_next next : Know)
      → rests ≡ (mirror_of scene part).moved here b stay go g
      → inside ≡ (mirror_of scene part).inside b → ended ≡ (mirror_of scene part).ended here b → ends ≡ (mirror_of scene part).walk.ends here mark.Zero
      → g_next ≡ choose_of inside (both go ended) (both g ends) → next ≡ either so_far rests
      → moved_all ctx (map (mirror_of scene) (drop (i + 1) parts)) b stay go g_next next ≡ moved_all ctx (map (mirror_of scene) (drop i parts)) b stay go g so_far
  moved_all_more b stay go g so_far rests inside ended ends g_next next rests_is inside_is ended_is ends_is g_is next_is =
      rw (next_is, g_is, rests_is, inside_is, ended_is, ends_is, same)
      (sym (next_member parts i part within is (λ left. moved_all ctx (map (mirror_of scene) left) b stay go g so_far)))

  pub move_all_more : (b : PlaceBits) (before after : Guarded) (stay go g inside ended ends g_next : Know)
      → inside ≡ (mirror_of scene part).inside b → ended ≡ (mirror_of scene part).ended here b → ends ≡ (mirror_of scene part).walk.ends here mark.Zero
      → g_next ≡ choose_of inside (both go ended) (both g ends)
      → after ≡ before ++ (mirror_of scene part).move here b stay go g
      → after ++ move_all ctx (map (mirror_of scene) (drop (i + 1) parts)) b stay go g_next ≡ before ++ move_all ctx (map (mirror_of scene) (drop i parts)) b stay go g
  move_all_more b before after stay go g inside ended ends g_next inside_is ended_is ends_is g_is after_is =
      rw (after_is, g_is, inside_is, ended_is, ends_is, same)
      (append_assoc before _ _ ∙ ap (λ more. before ++ more) (sym (next_member parts i part within is (λ left. move_all ctx (map (mirror_of scene) left) b stay go g))))

  pub moved_each_more : (b : PlaceBits) (stay go g so_far rests next : Know)
      → rests ≡ (mirror_of scene part).moved here b stay go g → next ≡ either so_far rests
      → moved_each ctx (map (mirror_of scene) (drop (i + 1) parts)) b stay go g next ≡ moved_each ctx (map (mirror_of scene) (drop i parts)) b stay go g so_far
  moved_each_more b stay go g so_far rests next rests_is next_is =
      rw (next_is, rests_is, same)
      (sym (next_member parts i part within is (λ left. moved_each ctx (map (mirror_of scene) left) b stay go g so_far)))

  pub move_each_more : (b : PlaceBits) (before after : Guarded) (stay go g : Know)
      → after ≡ before ++ (mirror_of scene part).move here b stay go g
      → after ++ move_each ctx (map (mirror_of scene) (drop (i + 1) parts)) b stay go g ≡ before ++ move_each ctx (map (mirror_of scene) (drop i parts)) b stay go g
  move_each_more b before after stay go g after_is =
      rw (after_is, same)
      (append_assoc before _ _ ∙ ap (λ more. before ++ more) (sym (next_member parts i part within is (λ left. move_each ctx (map (mirror_of scene) left) b stay go g))))
