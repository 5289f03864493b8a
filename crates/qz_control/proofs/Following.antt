-- Every statement that is ready is followed by its nets, where every condition is plain.
use Rattle.std.proofs.Common.{◌≡◌, ℕ, Bool, true, false, List, [], ◌∷◌, map, Option, Some, None, refl, sym, ap, subst, ◌∙◌}
use Rattle.std.specs.List.{list_all, AllByRecursion}
use Rattle.std.proofs.lemmas.Bool.{false≢true, and_parts}
use Rattle.qz_values.specs.declared.Ty.{Ty}
use Rattle.qz_values.specs.declared.Ty.TheVariants.{Bool as Truth, Bv}
use Rattle.qz_syntax.specs.declared.modules.Module.{Module}
use Rattle.qz_syntax.specs.declared.expressions.Expr.{Expr}
use Rattle.qz_syntax.specs.declared.statements.Kind.{Kind}
use Rattle.qz_syntax.specs.declared.statements.Stmt.{Stmt, map-Stmt, roll-Stmt}
use Rattle.qz_syntax.specs.declared.statements.Stmt.TheOpen.{Stmt-F}
use Rattle.qz_syntax.specs.declared.statements.Stmt.TheFolds.{fold-roll-Stmt, ind-Stmt}
use Rattle.qz_syntax.specs.Sound.{is_hold_of}
use Rattle.qz_syntax.specs.Typing.{is_condition}
use Rattle.qz_meaning.specs.Scenes.{Scene, Context}
use Rattle.qz_meaning.specs.Expressions.{value_here}
use Rattle.qz_meaning.specs.Layouts.{Layout}
use Rattle.qz_meaning.specs.Sequences.{sequence, sequence_layout}
use Rattle.qz_meaning.specs.Parallels.{parallel, parallel_layout}
use Rattle.qz_meaning.specs.Aborts.{abort}
use Rattle.qz_meaning.specs.Suspends.{suspend, suspend_layout}
use Rattle.qz_meaning.specs.Calls.{open_layout}
use Rattle.qz_meaning.specs.Walks.{layout, node_layout}
use Rattle.qz_meaning.specs.Landings.{landing}
use Rattle.qz_control.specs.Leaves.{known_bit}
use Rattle.qz_control.specs.Mirrors.{Mirror, walks}
use Rattle.qz_control.specs.MemberMirrors.{sequence_mirror, parallel_mirror}
use Rattle.qz_control.specs.BodyMirrors.{abort_mirror, suspension_mirror}
use Rattle.qz_control.specs.Mirror.{node_mirror, mirror_of}
use Rattle.qz_control.specs.Typed.{expr_type}
use Rattle.qz_control.specs.Ready.{is_test, node_is_ready, is_ready}
use Rattle.qz_control.specs.Follows.{IsPlain, Starting, Resuming, Moving, Follows}
use Rattle.qz_control.proofs.Starting.{starting_passing, starting_pause, starting_loop, starting_scope, starting_choice, starting_abort_later, starting_abort_now, starting_later, starting_held}
use Rattle.qz_control.proofs.StartingMembers.{starting_sequence, starting_parallel}
use Rattle.qz_control.proofs.Resuming.{resuming_passing, resuming_pause, resuming_loop, resuming_abort, resuming_later, resuming_held, resuming_scope, resuming_choice}
use Rattle.qz_control.proofs.ResumingMembers.{Ones, mirrors, layouts, Resumed, resuming_sequence, resuming_parallel}
use Rattle.qz_control.proofs.Moving.{moving_passing, moving_pause, moving_scope, moving_choice}
use Rattle.qz_control.proofs.MovingBodies.{moving_loop, moving_abort}
use Rattle.qz_control.proofs.MovingSuspends.{moving_later, moving_held}
use Rattle.qz_control.proofs.MovingMembers.{Member, all_start, moving_sequence, moving_parallel}
use Rattle.qz_control.proofs.Resumes.{at_once, not_at_once}

-- a test is a bool
test_type : (t : Option Ty) → is_condition t ≡ true → t ≡ Some Truth
test_type (Some Truth) h = refl
test_type (Some (Bv width)) h = absurd (false≢true h)
test_type None h = absurd (false≢true h)

all_resumed : (ones : Ones) → AllByRecursion Member ones → AllByRecursion Resumed ones
all_resumed [] h = tt
all_resumed (one ∷ ones) h = (h.0.resuming, all_resumed ones h.1)

module _ (m : Module) (scene : Scene) (plain : IsPlain m scene) where
  plain_test : (condition : Expr) → is_test m condition ≡ true → (ctx : Context) → (b : Bool) × (value_here scene ctx condition ≡ known_bit b)
  plain_test condition h ctx = plain ctx condition (test_type (expr_type m condition) h)

  aborted : (kind : Kind) (condition : Expr) (body : Mirror) → is_test m condition ≡ true → Starting body
      → Starting (abort_mirror scene kind body condition (abort scene landing kind body.walk condition))
  aborted kind condition body test h = by kind.immediate refl
    where
      by : (now : Bool) → kind.immediate ≡ now → Starting (abort_mirror scene kind body condition (abort scene landing kind body.walk condition))
      by true is =
          subst (λ (k : Kind). Starting (abort_mirror scene k body condition (abort scene landing k body.walk condition)))
          (λ i. record { weak = kind.weak; immediate = sym is i }) (starting_abort_now scene condition (plain_test condition test) body h kind.weak)
      by false is =
          subst (λ (k : Kind). Starting (abort_mirror scene k body condition (abort scene landing k body.walk condition)))
          (λ i. record { weak = kind.weak; immediate = sym is i }) (starting_abort_later scene condition (plain_test condition test) body h kind.weak)

  suspended : (kind : Kind) (hold : Option ℕ) (condition : Expr) (body : Mirror) (l : Layout) → is_hold_of kind hold ≡ true → is_test m condition ≡ true
      → Starting body → Resuming body l → Moving body l
      → Member (suspension_mirror scene kind hold body condition (suspend scene landing kind hold body.walk condition), suspend_layout hold l)
  suspended kind None condition body l is test s q h =
      subst (λ (k : Kind). Member (suspension_mirror scene k None body condition (suspend scene landing k None body.walk condition), suspend_layout None l))
      (λ i. record { weak = kind.weak; immediate = sym (not_at_once kind is) i })
      (record {
        starting = starting_later scene condition (plain_test condition test) body s kind.weak;
        resuming = resuming_later scene condition body l q kind.weak;
        moving = moving_later scene condition (plain_test condition test) body l s h kind.weak;
      })
  suspended kind (Some hold) condition body l is test s q h =
      subst (λ (k : Kind). Member (suspension_mirror scene k (Some hold) body condition (suspend scene landing k (Some hold) body.walk condition), suspend_layout (Some hold) l))
      (λ i. record { weak = kind.weak; immediate = sym (at_once kind hold is) i })
      (record {
        starting = starting_held scene condition (plain_test condition test) body s kind.weak hold;
        resuming = resuming_held scene condition body l q kind.weak hold;
        moving = moving_held scene condition (plain_test condition test) body l s h kind.weak hold;
      })

  abbrev Claim : Stmt → Type 0
  Claim s = Member (mirror_of scene s, layout open_layout s)

  abbrev Proved : Type 0
  Proved = (s : Stmt) × (is_ready m s ≡ true → Claim s)

  abbrev names : List Proved → List Stmt
  names parts = map (λ (e : Proved). e.0) parts

  abbrev ones : List Proved → Ones
  ones parts = map (λ (e : Proved). (mirror_of scene e.0, layout open_layout e.0)) parts

  mirrors_are : (parts : List Proved) → mirrors (ones parts) ≡ map (mirror_of scene) (names parts)
  mirrors_are [] = refl
  mirrors_are (e ∷ parts) = ap (λ i. mirror_of scene e.0 ∷ i) (mirrors_are parts)

  layouts_are : (parts : List Proved) → layouts (ones parts) ≡ map (layout open_layout) (names parts)
  layouts_are [] = refl
  layouts_are (e ∷ parts) = ap (λ i. layout open_layout e.0 ∷ i) (layouts_are parts)

  members : (parts : List Proved) → list_all (λ part. part) (map (is_ready m) (names parts)) ≡ true → AllByRecursion Member (ones parts)
  members [] h = tt
  members (e ∷ parts) h = let ready = and_parts _ _ h in (e.1 ready.0, members parts ready.1)

  abbrev AtNode : Stmt-F Stmt → Type 0
  AtNode x = node_is_ready m (map-Stmt Stmt Bool (is_ready m) x) ≡ true
      → Member (node_mirror scene (map-Stmt Stmt Mirror (mirror_of scene) x), node_layout open_layout (map-Stmt Stmt Layout (layout open_layout) x))

  at_node : (node : Stmt-F Proved) → AtNode (map-Stmt Proved Stmt (λ e. e.0) node)
  at_node Stmt-F.Nothing h = record {
    starting = starting_passing _ (λ ctx m. refl) (λ ctx m. refl);
    resuming = resuming_passing _;
    moving = moving_passing _ (λ ctx. refl);
  }
  at_node (Stmt-F.Assign target value) h = record {
    starting = starting_passing _ (λ ctx m. refl) (λ ctx m. refl);
    resuming = resuming_passing _;
    moving = moving_passing _ (λ ctx. refl);
  }
  at_node (Stmt-F.Delayed target value) h = record {
    starting = starting_passing _ (λ ctx m. refl) (λ ctx m. refl);
    resuming = resuming_passing _;
    moving = moving_passing _ (λ ctx. refl);
  }
  at_node (Stmt-F.Pause place) h = record { starting = starting_pause place; resuming = resuming_pause place; moving = moving_pause place }
  at_node (Stmt-F.Seq parts) h =
      let all = members parts h in
      subst (λ ms. Member (sequence_mirror ms (sequence landing (walks ms)), sequence_layout (map (layout open_layout) (names parts)))) (mirrors_are parts)
      (subst (λ ls. Member (sequence_mirror (mirrors (ones parts)) (sequence landing (walks (mirrors (ones parts)))), sequence_layout ls)) (layouts_are parts)
      (record {
        starting = starting_sequence (mirrors (ones parts)) (all_start (ones parts) all);
        resuming = resuming_sequence (ones parts) (all_resumed (ones parts) all);
        moving = moving_sequence (ones parts) all;
      }))
  at_node (Stmt-F.Par parts) h =
      let all = members parts h in
      subst (λ ms. Member (parallel_mirror ms (parallel landing (walks ms)), parallel_layout (map (layout open_layout) (names parts)))) (mirrors_are parts)
      (subst (λ ls. Member (parallel_mirror (mirrors (ones parts)) (parallel landing (walks (mirrors (ones parts)))), parallel_layout ls)) (layouts_are parts)
      (record {
        starting = starting_parallel (mirrors (ones parts)) (all_start (ones parts) all);
        resuming = resuming_parallel (ones parts) (all_resumed (ones parts) all);
        moving = moving_parallel (ones parts) all;
      }))
  at_node (Stmt-F.If condition first second) h =
      let ready = and_parts (is_test m condition) _ h in
      let sides = and_parts _ _ ready.1 in
      let f = first.1 sides.0 in
      let g = second.1 sides.1 in
      record {
        starting = starting_choice scene condition (plain_test condition ready.0) _ _ f.starting g.starting;
        resuming = resuming_choice scene condition _ _ _ _ f.resuming g.resuming;
        moving = moving_choice scene condition (plain_test condition ready.0) _ _ _ _ f.moving g.moving;
      }
  at_node (Stmt-F.Loop number body condition) h =
      let ready = and_parts (is_test m condition) _ h in
      let f = body.1 ready.1 in
      record {
        starting = starting_loop scene number condition _ f.starting;
        resuming = resuming_loop scene condition _ _ f.resuming number;
        moving = moving_loop scene condition (plain_test condition ready.0) _ _ f.starting f.resuming f.moving number;
      }
  at_node (Stmt-F.Abort kind body condition) h =
      let ready = and_parts (is_test m condition) _ h in
      let f = body.1 ready.1 in
      record {
        starting = aborted kind condition _ ready.0 f.starting;
        resuming = resuming_abort scene condition _ _ f.resuming kind;
        moving = moving_abort scene condition (plain_test condition ready.0) _ _ f.starting f.resuming f.moving kind;
      }
  at_node (Stmt-F.Suspend kind hold body condition) h =
      let ready = and_parts (is_hold_of kind hold) _ h in
      let more = and_parts (is_test m condition) _ ready.1 in
      let f = body.1 more.1 in
      suspended kind hold condition _ _ ready.0 more.0 f.starting f.resuming f.moving
  at_node (Stmt-F.Scope locals body) h =
      let f = body.1 h in
      record { starting = starting_scope locals _ f.starting; resuming = resuming_scope locals _ _ f.resuming; moving = moving_scope locals _ _ f.moving }
  at_node (Stmt-F.Call number proto arguments) h = absurd (false≢true h)
  at_node (Stmt-F.Bind bindings body) h = absurd (false≢true h)

  all_follow : (s : Stmt) → is_ready m s ≡ true → Claim s
  all_follow = ind-Stmt (λ s. is_ready m s ≡ true → Claim s) (λ x y is h.
      subst (λ a. Member (a, layout open_layout (roll-Stmt x))) (sym (fold-roll-Stmt Mirror (node_mirror scene) x))
      (subst (λ a. Member (node_mirror scene (map-Stmt Stmt Mirror (mirror_of scene) x), a)) (sym (fold-roll-Stmt Layout (node_layout open_layout) x))
      (subst AtNode is (at_node y) (sym (fold-roll-Stmt Bool (node_is_ready m) x) ∙ h))))

  pub nets_follow : (s : Stmt) → is_ready m s ≡ true → Follows (mirror_of scene s) (layout open_layout s)
  nets_follow s ready = let f = all_follow s ready in record { starting = f.starting; moving = f.moving }
