-- From the spots of a whole body to its walk.
use Rattle.std.proofs.Common.{◌≡◌, Bool, true, false, ◌&&◌, not, [], refl, ap, ap₂, ◌∙◌}
use Rattle.std.specs.Prelude.{◌||◌}
use Rattle.qz_values.specs.declared.Know.{Know}
use Rattle.qz_values.specs.Knowledge.{both, either, opposite}
use Rattle.qz_syntax.specs.declared.modules.Module.{Module}
use Rattle.qz_syntax.specs.declared.statements.Stmt.{Stmt}
use Rattle.qz_syntax.specs.declared.places.Mark.{Mark}
use Rattle.qz_syntax.specs.declared.places.Residual.{Residual}
use Rattle.qz_meaning.specs.Scenes.{Scene, Context}
use Rattle.qz_meaning.specs.Layouts.{PlaceBits}
use Rattle.qz_meaning.specs.Calls.{Answers, open_layout}
use Rattle.qz_meaning.specs.Walks.{layout}
use Rattle.qz_meaning.specs.Landings.{open_walk}
use Rattle.qz_control.specs.Leaves.{known_bit}
use Rattle.qz_control.specs.Guarded.{chosen, when, Way, Stays, Goes, Leaves, is_stay, is_go, is_leave, by_way}
use Rattle.qz_control.specs.Mirrors.{Walk}
use Rattle.qz_control.specs.Mirror.{mirror_of}
use Rattle.qz_control.specs.Ready.{is_ready}
use Rattle.qz_control.specs.Follows.{IsPlain, RestsAt}
use Rattle.qz_control.proofs.Bits.{both_known, either_known, opposite_known}
use Rattle.qz_control.proofs.Resumes.{walk_is}
use Rattle.qz_control.proofs.Following.{nets_follow}

module _ (owner : Module) (scene : Scene) where
  pub whole_enter : (answers : Answers) → IsPlain owner scene → (s : Stmt) → is_ready owner s ≡ true
      → (x y : Know) (started dropped : Bool) → x ≡ known_bit started → y ≡ known_bit dropped → (ctx : Context) (m : Mark)
      → chosen ((mirror_of scene s).enter ctx m (both x (opposite y))) ≡ when (started && not dropped) ((open_walk scene answers s).rest ctx m)
  whole_enter answers plain s ready x y started dropped p q ctx m =
      ap₂ (λ k l. chosen ((mirror_of scene s).enter ctx m (both k (opposite l)))) p q
      ∙ ap (λ k. chosen ((mirror_of scene s).enter ctx m k)) (ap (both (known_bit started)) (opposite_known dropped) ∙ both_known started (not dropped))
      ∙ (nets_follow owner scene plain s ready).starting.enters ctx m (started && not dropped)
      ∙ ap (λ (w : Walk). when (started && not dropped) (w.rest ctx m)) (walk_is owner scene answers s ready)

  goes_on : (way : Way) → opposite (either (known_bit (is_stay way)) (known_bit (is_leave way))) ≡ known_bit (is_go way)
  goes_on Stays = refl
  goes_on Goes = refl
  goes_on Leaves = refl

  pub whole_move : (answers : Answers) → IsPlain owner scene → (s : Stmt) → is_ready owner s ≡ true
      → (b : PlaceBits) (r : Residual) → RestsAt (layout open_layout s) b r
      → (x y : Know) (way : Way) → x ≡ known_bit (is_stay way) → y ≡ known_bit (is_leave way) → (ctx : Context)
      → chosen ((mirror_of scene s).move ctx b x (opposite (either x y)) (known_bit false)) ≡ by_way way ((open_walk scene answers s).after ctx r) ((open_walk scene answers s).kept r)
  whole_move answers plain s ready b r at x y way p q ctx =
      ap₂ (λ k l. chosen ((mirror_of scene s).move ctx b k (opposite (either k l)) (known_bit false))) p q
      ∙ ap (λ k. chosen ((mirror_of scene s).move ctx b (known_bit (is_stay way)) k (known_bit false))) (goes_on way)
      ∙ (nets_follow owner scene plain s ready).moving.moves ctx b r way at
      ∙ ap (λ (w : Walk). by_way way (w.after ctx r) (w.kept r)) (walk_is owner scene answers s ready)

  pub whole_away : IsPlain owner scene → (s : Stmt) → is_ready owner s ≡ true
      → (b : PlaceBits) → (layout open_layout s).away b ≡ true
      → (x y : Know) (stayed left : Bool) → x ≡ known_bit stayed → y ≡ known_bit left → (ctx : Context)
      → chosen ((mirror_of scene s).move ctx b x (opposite (either x y)) (known_bit false)) ≡ []
  whole_away plain s ready b away x y stayed left p q ctx =
      ap₂ (λ k l. chosen ((mirror_of scene s).move ctx b k (opposite (either k l)) (known_bit false))) p q
      ∙ ap (λ k. chosen ((mirror_of scene s).move ctx b (known_bit stayed) k (known_bit false)))
      (ap opposite (either_known stayed left) ∙ opposite_known (stayed || left))
      ∙ (nets_follow owner scene plain s ready).moving.away ctx b stayed (not (stayed || left)) false away
