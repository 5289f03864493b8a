-- One member more, in what is told of members so far.
use Rattle.std.proofs.Common.{◌≡◌, ℕ, ◌+◌, ◌<◌, List, map, length, drop, get_or, sym}
use Rattle.qz_values.specs.declared.Know.{Know}
use Rattle.qz_values.specs.Knowledge.{both, either, choose_of}
use Rattle.qz_syntax.specs.declared.statements.Stmt.{Stmt}
use Rattle.qz_syntax.specs.declared.places.Mark.{Mark}
use Rattle.qz_syntax.specs.declared.places.Mark.TheVariants as mark
use Rattle.qz_meaning.specs.Scenes.{Scene, Context}
use Rattle.qz_meaning.specs.Layouts.{PlaceBits}
use Rattle.qz_meaning.specs.Sequences.{ends_of_all}
use Rattle.qz_control.specs.Guarded.{where_inside}
use Rattle.qz_control.specs.Mirrors.{walks, any_inside}
use Rattle.qz_control.specs.MemberMirrors.{ended_all, ended_each}
use Rattle.qz_control.specs.Mirror.{mirror_of}
use Rattle.qz_control.proofs.Members.{next_member}

-- the context here is the one that it was before the members
module _ (parts : List Stmt) (i : ℕ) (part : Stmt) (within : i < length parts) (is : part ≡ get_or parts i part) (scene : Scene) (ctx here : Context) (same : here ≡ ctx) where
  pub any_inside_more : (b : PlaceBits) (so_far inside next : Know) → inside ≡ (mirror_of scene part).inside b → next ≡ either so_far inside
      → any_inside (map (mirror_of scene) (drop (i + 1) parts)) b next ≡ any_inside (map (mirror_of scene) (drop i parts)) b so_far
  any_inside_more b so_far inside next inside_is next_is =
      rw (next_is, inside_is) (sym (next_member parts i part within is (λ left. any_inside (map (mirror_of scene) left) b so_far)))

  pub ends_of_all_more : (m : Mark) (so_far ends next : Know) → ends ≡ (mirror_of scene part).walk.ends here m → next ≡ both so_far ends
      → ends_of_all ctx (walks (map (mirror_of scene) (drop (i + 1) parts))) next m ≡ ends_of_all ctx (walks (map (mirror_of scene) (drop i parts))) so_far m
  ends_of_all_more m so_far ends next ends_is next_is =
      rw (next_is, ends_is, same) (sym (next_member parts i part within is (λ left. ends_of_all ctx (walks (map (mirror_of scene) left)) so_far m)))

  pub ended_all_more : (b : PlaceBits) (live so_far inside ended ends live_next next : Know)
      → inside ≡ (mirror_of scene part).inside b → ended ≡ (mirror_of scene part).ended here b → ends ≡ (mirror_of scene part).walk.ends here mark.Zero
      → live_next ≡ either live inside → next ≡ choose_of inside ended (where_inside live (both so_far ends))
      → ended_all ctx (map (mirror_of scene) (drop (i + 1) parts)) b live_next next ≡ ended_all ctx (map (mirror_of scene) (drop i parts)) b live so_far
  ended_all_more b live so_far inside ended ends live_next next inside_is ended_is ends_is live_is next_is =
      rw (next_is, live_is, inside_is, ended_is, ends_is, same)
      (sym (next_member parts i part within is (λ left. ended_all ctx (map (mirror_of scene) left) b live so_far)))

  pub ended_each_more : (b : PlaceBits) (so_far inside ended next : Know)
      → inside ≡ (mirror_of scene part).inside b → ended ≡ (mirror_of scene part).ended here b
      → next ≡ choose_of inside (both so_far ended) so_far
      → ended_each ctx (map (mirror_of scene) (drop (i + 1) parts)) b next ≡ ended_each ctx (map (mirror_of scene) (drop i parts)) b so_far
  ended_each_more b so_far inside ended next inside_is ended_is next_is =
      rw (next_is, inside_is, ended_is, same) (sym (next_member parts i part within is (λ left. ended_each ctx (map (mirror_of scene) left) b so_far)))
