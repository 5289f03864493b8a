-- One more member, in the functions of the mirror over a list.
use Rattle.std.proofs.Common.{◌≡◌, ℕ, ◌+◌, ◌<◌, Bool, true, false, List, ◌∷◌, map, length, drop, get_or, refl, sym, ap, true≢false, arith, ◌∙◌}
use Rattle.std.specs.List.{list_all}
use Rattle.std.proofs.lemmas.List.{at_drop_more, get_or-map}
use Rattle.std.proofs.lemmas.List.Folds.{list_all_at}
use Rattle.std.proofs.Math.ListN.{length-map}
use Rattle.qz_values.specs.declared.Know.{Know}
use Rattle.qz_values.specs.Knowledge.{both, either}
use Rattle.qz_syntax.specs.declared.modules.Module.{Module}
use Rattle.qz_syntax.specs.declared.statements.Stmt.{Stmt}
use Rattle.qz_syntax.specs.declared.places.Mark.{Mark}
use Rattle.qz_meaning.specs.Scenes.{Scene, Context}
use Rattle.qz_meaning.specs.Layouts.{PlaceBits}
use Rattle.qz_meaning.specs.Sequences.{ends_of_all}
use Rattle.qz_control.specs.Mirrors.{any_inside, walks}
use Rattle.qz_control.specs.Mirror.{mirror_of}
use Rattle.qz_control.specs.Ready.{is_ready}

-- where all members are ready, so is each
ready_at : (m : Module) (parts : List Stmt) (i : ℕ) (d : Stmt) → i < length parts → list_all (λ part. part) (map (is_ready m) parts) ≡ true
    → is_ready m (get_or parts i d) ≡ true
ready_at m parts i d within ready = by (is_ready m (get_or parts i d)) refl
  where
    by : (b : Bool) → is_ready m (get_or parts i d) ≡ b → is_ready m (get_or parts i d) ≡ true
    by true is = is
    by false is =
        let inside : i < length (map (is_ready m) parts) = let e = length-map parts (is_ready m) in omega arith in
        absurd (true≢false (sym ready ∙ list_all_at (λ b. b) (map (is_ready m) parts) i false inside (get_or-map (is_ready m) parts i d false within ∙ is)))

module _ (parts : List Stmt) (i : ℕ) (part : Stmt) (within : i < length parts) (is : part ≡ get_or parts i part) where
  -- the member at the index goes first in what is left
  pub next_member : {Y : Type 0} (F : List Stmt → Y) → F (drop i parts) ≡ F (part ∷ drop (i + 1) parts)
  next_member F = at_drop_more F parts i part within ∙ ap (λ p. F (p ∷ drop (i + 1) parts)) (sym is)

  pub member_ready : (m : Module) → list_all (λ part. part) (map (is_ready m) parts) ≡ true → is_ready m part ≡ true
  member_ready m ready = ap (is_ready m) is ∙ ready_at m parts i part within ready

  pub inside_step : (scene : Scene) (b : PlaceBits) (so_far here next : Know) → here ≡ (mirror_of scene part).inside b → next ≡ either so_far here
      → any_inside (map (mirror_of scene) (drop (i + 1) parts)) b next ≡ any_inside (map (mirror_of scene) (drop i parts)) b so_far
  inside_step scene b so_far here next here_is next_is =
      ap (λ k. any_inside (map (mirror_of scene) (drop (i + 1) parts)) b k) (next_is ∙ ap (λ k. either so_far k) here_is)
      ∙ sym (next_member (λ left. any_inside (map (mirror_of scene) left) b so_far))

  pub ends_step : (scene : Scene) (ctx : Context) (m : Mark) (so_far here next : Know) → here ≡ (mirror_of scene part).walk.ends ctx m → next ≡ both so_far here
      → ends_of_all ctx (walks (map (mirror_of scene) (drop (i + 1) parts))) next m ≡ ends_of_all ctx (walks (map (mirror_of scene) (drop i parts))) so_far m
  ends_step scene ctx m so_far here next here_is next_is =
      ap (λ k. ends_of_all ctx (walks (map (mirror_of scene) (drop (i + 1) parts))) k m) (next_is ∙ ap (λ k. both so_far k) here_is)
      ∙ sym (next_member (λ left. ends_of_all ctx (walks (map (mirror_of scene) left)) so_far m))
