-- Every statement that is ready is resumed as its nets say, and its mirror's walk is the open walk.
use Rattle.std.proofs.Common.{◌≡◌, ℕ, Bool, true, false, List, [], ◌∷◌, map, Option, Some, None, refl, sym, ap, ap₂, subst, ◌∙◌, if◌then◌else◌}
use Rattle.std.specs.List.{list_all, AllByRecursion}
use Rattle.std.proofs.lemmas.Bool.{false≢true, and_parts}
use Rattle.qz_syntax.specs.declared.modules.Module.{Module}
use Rattle.qz_syntax.specs.declared.expressions.Expr.{Expr}
use Rattle.qz_syntax.specs.declared.statements.Kind.{Kind}
use Rattle.qz_syntax.specs.declared.statements.Stmt.{Stmt, map-Stmt, roll-Stmt}
use Rattle.qz_syntax.specs.declared.statements.Stmt.TheOpen.{Stmt-F}
use Rattle.qz_syntax.specs.declared.statements.Stmt.TheFolds.{fold-roll-Stmt, ind-Stmt}
use Rattle.qz_syntax.specs.Sound.{is_hold_of}
use Rattle.qz_meaning.specs.Scenes.{Scene}
use Rattle.qz_meaning.specs.Layouts.{Layout}
use Rattle.qz_meaning.specs.Sequences.{sequence, sequence_layout}
use Rattle.qz_meaning.specs.Parallels.{parallel, parallel_layout}
use Rattle.qz_meaning.specs.Choices.{choice}
use Rattle.qz_meaning.specs.Loops.{loop}
use Rattle.qz_meaning.specs.Aborts.{abort}
use Rattle.qz_meaning.specs.Suspends.{suspend, suspend_layout}
use Rattle.qz_meaning.specs.Scopes.{scope}
use Rattle.qz_meaning.specs.Calls.{Answers, open_call, open_layout}
use Rattle.qz_meaning.specs.Walks.{node_behavior, layout, node_layout}
use Rattle.qz_meaning.specs.Landings.{landing, landing_calls, open_walk}
use Rattle.qz_control.specs.Mirrors.{Walk, Mirror, walks}
use Rattle.qz_control.specs.MemberMirrors.{sequence_mirror, parallel_mirror}
use Rattle.qz_control.specs.BodyMirrors.{suspension_mirror}
use Rattle.qz_control.specs.Mirror.{node_mirror, mirror_of}
use Rattle.qz_control.specs.Ready.{is_test, node_is_ready, is_ready}
use Rattle.qz_control.specs.Follows.{Resuming}
use Rattle.qz_control.proofs.Resuming.{resuming_passing, resuming_pause, resuming_loop, resuming_abort, resuming_later, resuming_held, resuming_scope, resuming_choice}
use Rattle.qz_control.proofs.ResumingMembers.{Ones, mirrors, layouts, Resumed, resuming_sequence, resuming_parallel}

pub at_once : (kind : Kind) (hold : ℕ) → is_hold_of kind (Some hold) ≡ true → kind.immediate ≡ true
at_once kind hold h = h

pub not_at_once : (kind : Kind) → is_hold_of kind None ≡ true → kind.immediate ≡ false
not_at_once kind h = by kind.immediate h
  where
    by : (b : Bool) → (if b then false else true) ≡ true → b ≡ false
    by true e = absurd (false≢true e)
    by false e = refl

module _ (m : Module) (scene : Scene) where
  suspended : (kind : Kind) (hold : Option ℕ) (condition : Expr) (body : Mirror) (l : Layout) → is_hold_of kind hold ≡ true → Resuming body l
      → Resuming (suspension_mirror scene kind hold body condition (suspend scene landing kind hold body.walk condition)) (suspend_layout hold l)
  suspended kind None condition body l is h =
      subst (λ (k : Kind). Resuming (suspension_mirror scene k None body condition (suspend scene landing k None body.walk condition)) (suspend_layout None l))
      (λ i. record { weak = kind.weak; immediate = sym (not_at_once kind is) i }) (resuming_later scene condition body l h kind.weak)
  suspended kind (Some hold) condition body l is h =
      subst (λ (k : Kind). Resuming (suspension_mirror scene k (Some hold) body condition (suspend scene landing k (Some hold) body.walk condition)) (suspend_layout (Some hold) l))
      (λ i. record { weak = kind.weak; immediate = sym (at_once kind hold is) i }) (resuming_held scene condition body l h kind.weak hold)

  abbrev Claim : Stmt → Type 0
  Claim s = Resuming (mirror_of scene s) (layout open_layout s)

  abbrev Proved : Type 0
  Proved = (s : Stmt) × (is_ready m s ≡ true → Claim s)

  abbrev names : List Proved → List Stmt
  names parts = map (λ (e : Proved). e.0) parts

  abbrev ones : List Proved → Ones
  ones parts = map (λ (e : Proved). (mirror_of scene e.0, layout open_layout e.0)) parts

  mirrors_are : (parts : List Proved) → mirrors (ones parts) ≡ map (mirror_of scene) (names parts)
  mirrors_are [] = refl
  mirrors_are (e ∷ parts) = ap (λ i. mirror_of scene e.0 ∷ i) (mirrors_are parts)

  layouts_are : (parts : List Proved) → layouts (ones parts) ≡ map (layout open_layout) (names parts)
  layouts_are [] = refl
  layouts_are (e ∷ parts) = ap (λ i. layout open_layout e.0 ∷ i) (layouts_are parts)

  members : (parts : List Proved) → list_all (λ part. part) (map (is_ready m) (names parts)) ≡ true → AllByRecursion Resumed (ones parts)
  members [] h = tt
  members (e ∷ parts) h = let ready = and_parts _ _ h in (e.1 ready.0, members parts ready.1)

  abbrev AtNode : Stmt-F Stmt → Type 0
  AtNode x = node_is_ready m (map-Stmt Stmt Bool (is_ready m) x) ≡ true
      → Resuming (node_mirror scene (map-Stmt Stmt Mirror (mirror_of scene) x)) (node_layout open_layout (map-Stmt Stmt Layout (layout open_layout) x))

  at_node : (node : Stmt-F Proved) → AtNode (map-Stmt Proved Stmt (λ e. e.0) node)
  at_node Stmt-F.Nothing h = resuming_passing _
  at_node (Stmt-F.Assign target value) h = resuming_passing _
  at_node (Stmt-F.Delayed target value) h = resuming_passing _
  at_node (Stmt-F.Pause place) h = resuming_pause place
  at_node (Stmt-F.Seq parts) h =
      subst (λ ms. Resuming (sequence_mirror ms (sequence landing (walks ms))) (sequence_layout (map (layout open_layout) (names parts)))) (mirrors_are parts)
      (subst (λ ls. Resuming (sequence_mirror (mirrors (ones parts)) (sequence landing (walks (mirrors (ones parts))))) (sequence_layout ls)) (layouts_are parts)
      (resuming_sequence (ones parts) (members parts h)))
  at_node (Stmt-F.Par parts) h =
      subst (λ ms. Resuming (parallel_mirror ms (parallel landing (walks ms))) (parallel_layout (map (layout open_layout) (names parts)))) (mirrors_are parts)
      (subst (λ ls. Resuming (parallel_mirror (mirrors (ones parts)) (parallel landing (walks (mirrors (ones parts))))) (parallel_layout ls)) (layouts_are parts)
      (resuming_parallel (ones parts) (members parts h)))
  at_node (Stmt-F.If condition first second) h =
      let ready = and_parts (is_test m condition) _ h in
      let sides = and_parts _ _ ready.1 in
      resuming_choice scene condition _ _ _ _ (first.1 sides.0) (second.1 sides.1)
  at_node (Stmt-F.Loop number body condition) h = resuming_loop scene condition _ _ (body.1 (and_parts (is_test m condition) _ h).1) number
  at_node (Stmt-F.Abort kind body condition) h = resuming_abort scene condition _ _ (body.1 (and_parts (is_test m condition) _ h).1) kind
  at_node (Stmt-F.Suspend kind hold body condition) h =
      let ready = and_parts (is_hold_of kind hold) _ h in
      suspended kind hold condition _ _ ready.0 (body.1 (and_parts (is_test m condition) _ ready.1).1)
  at_node (Stmt-F.Scope locals body) h = resuming_scope locals _ _ (body.1 h)
  at_node (Stmt-F.Call number proto arguments) h = absurd (false≢true h)
  at_node (Stmt-F.Bind bindings body) h = absurd (false≢true h)

  pub nets_resume : (s : Stmt) → is_ready m s ≡ true → Claim s
  nets_resume = ind-Stmt (λ s. is_ready m s ≡ true → Claim s) (λ x y is h.
      subst (λ a. Resuming a (layout open_layout (roll-Stmt x))) (sym (fold-roll-Stmt Mirror (node_mirror scene) x))
      (subst (λ a. Resuming (node_mirror scene (map-Stmt Stmt Mirror (mirror_of scene) x)) a) (sym (fold-roll-Stmt Layout (node_layout open_layout) x))
      (subst AtNode is (at_node y) (sym (fold-roll-Stmt Bool (node_is_ready m) x) ∙ h))))

-- the mirror's walk
module _ (m : Module) (scene : Scene) (answers : Answers) where
  abbrev Same : Stmt → Type 0
  Same s = (mirror_of scene s).walk ≡ open_walk scene answers s

  abbrev Known : Type 0
  Known = (s : Stmt) × (is_ready m s ≡ true → Same s)

  abbrev stmts : List Known → List Stmt
  stmts parts = map (λ (e : Known). e.0) parts

  all_same : (parts : List Known) → list_all (λ part. part) (map (is_ready m) (stmts parts)) ≡ true
      → walks (map (mirror_of scene) (stmts parts)) ≡ map (open_walk scene answers) (stmts parts)
  all_same [] h = refl
  all_same (e ∷ parts) h = let ready = and_parts _ _ h in ap₂ (λ x xs. x ∷ xs) (e.1 ready.0) (all_same parts ready.1)

  suspended_walk : (kind : Kind) (hold : Option ℕ) (body : Mirror) (condition : Expr) (walk : Walk) → (suspension_mirror scene kind hold body condition walk).walk ≡ walk
  suspended_walk kind None body condition walk = refl
  suspended_walk kind (Some hold) body condition walk = refl

  abbrev AtWalk : Stmt-F Stmt → Type 0
  AtWalk x = node_is_ready m (map-Stmt Stmt Bool (is_ready m) x) ≡ true
      → (node_mirror scene (map-Stmt Stmt Mirror (mirror_of scene) x)).walk
      ≡ node_behavior scene landing (open_call scene [] landing_calls answers) (map-Stmt Stmt Walk (open_walk scene answers) x)

  at_walk : (node : Stmt-F Known) → AtWalk (map-Stmt Known Stmt (λ e. e.0) node)
  at_walk Stmt-F.Nothing h = refl
  at_walk (Stmt-F.Assign target value) h = refl
  at_walk (Stmt-F.Delayed target value) h = refl
  at_walk (Stmt-F.Pause place) h = refl
  at_walk (Stmt-F.Seq parts) h = ap (λ ws. sequence landing ws) (all_same parts h)
  at_walk (Stmt-F.Par parts) h = ap (λ ws. parallel landing ws) (all_same parts h)
  at_walk (Stmt-F.If condition first second) h =
      let ready = and_parts (is_test m condition) _ h in
      let sides = and_parts _ _ ready.1 in
      ap₂ (λ v w. choice scene landing condition v w) (first.1 sides.0) (second.1 sides.1)
  at_walk (Stmt-F.Loop number body condition) h = ap (λ w. loop scene landing number w condition) (body.1 (and_parts (is_test m condition) _ h).1)
  at_walk (Stmt-F.Abort kind body condition) h = ap (λ w. abort scene landing kind w condition) (body.1 (and_parts (is_test m condition) _ h).1)
  at_walk (Stmt-F.Suspend kind hold body condition) h =
      let ready = and_parts (is_hold_of kind hold) _ h in
      suspended_walk kind hold _ condition _
      ∙ ap (λ w. suspend scene landing kind hold w condition) (body.1 (and_parts (is_test m condition) _ ready.1).1)
  at_walk (Stmt-F.Scope locals body) h = ap (λ w. scope landing locals w) (body.1 h)
  at_walk (Stmt-F.Call number proto arguments) h = absurd (false≢true h)
  at_walk (Stmt-F.Bind bindings body) h = absurd (false≢true h)

  pub walk_is : (s : Stmt) → is_ready m s ≡ true → Same s
  walk_is = ind-Stmt (λ s. is_ready m s ≡ true → Same s) (λ x y is h.
      ap (λ (a : Mirror). a.walk) (fold-roll-Stmt Mirror (node_mirror scene) x)
      ∙ subst AtWalk is (at_walk y) (sym (fold-roll-Stmt Bool (node_is_ready m) x) ∙ h)
      ∙ sym (fold-roll-Stmt Walk (node_behavior scene landing (open_call scene [] landing_calls answers)) x))
